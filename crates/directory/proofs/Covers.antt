-- The order names every named slot, each once. Assumes nothing.
use Rattle.std.proofs.Common.{◌≡◌, ℕ, zero, suc, ◌<◌, ◌≤◌, Bool, true, false, ◌||◌, eqb, ◌⊎◌, List, [], ◌∷◌, map, length, sym, refl, ap, ◌∙◌, subst, inl, inr, ⊎_elim, eq-or-lt_of_le, arith, eqb-true}
use borrow.Author.Tests.{eqb-false}
use lib.ListN.{length-map}
use Rattle.laws.specs.Pick.{pick}
use Rattle.laws.proofs.Cases.{true-not-false}
use Rattle.tally.specs.Sets.{Set, same, mem}
use Rattle.laws.proofs.Choices.{pick-cases}
use Rattle.tally.proofs.Order.{same_self, same-eq}
use Rattle.tally.proofs.Rising.{pigeon}
use Rattle.sets.specs.All.{allb}
use Rattle.sets.specs.Rows.{span}
use Rattle.sets.proofs.Spans.{span-length}
use Rattle.directory.specs.View.{Stores, set_at, agreesb, place_at}
use Rattle.directory.specs.declared.Directory.{Directory}
use Rattle.directory.proofs.Agreed.{place-slot, place-rise}
use Rattle.directory.proofs.Laws.{places-right}
use Rattle.directory.proofs.Rises.{span_in, In, rising-span}

-- the slots 1 to n without x
abbrev others : ℕ → ℕ → List ℕ
others x zero = []
others x (suc n) = pick (eqb (suc n) x) (others x n) (suc n ∷ others x n)

others-le : (x n : ℕ) → length (others x n) ≤ n
others-le x zero = omega arith
others-le x (suc n) = let h = others-le x n in pick-cases (λ l. length l ≤ suc n) _ _ _ (λ e. omega (arith, h)) (λ e. omega (arith, h))

others-few : (x n : ℕ) → 1 ≤ x → x ≤ n → length (others x n) < n
others-few x zero a b = absurd (omega arith)
others-few x (suc n) a b =
    pick-cases (λ l. length l < suc n) _ _ _
    (λ e. omega (arith, others-le x n))
    (λ e. ⊎_elim (λ q. absurd (eqb-false (suc n) x e (sym q))) (λ l. let h = others-few x n a (omega arith) in omega arith) (eq-or-lt_of_le b))

others_in : (x n y : ℕ) → 1 ≤ y → y ≤ n → (y ≡ x → ⊥) → In y (others x n)
unfolding pick
others_in x zero y a b c = absurd (omega arith)
others_in x (suc n) y a b c = go (λ h. others_in x n y a h c) (eqb (suc n) x) refl (eq-or-lt_of_le b)
  where
    go : (y ≤ n → In y (others x n)) → (t : Bool) → eqb (suc n) x ≡ t → (y ≡ suc n) ⊎ (y < suc n) → In y (pick t (others x n) (suc n ∷ others x n))
    go f true e (inl q) = absurd (c (q ∙ eqb-true (suc n) x e))
    go f true e (inr l) = f (omega arith)
    go f false e (inl q) = inl q
    go f false e (inr l) = inr (f (omega arith))

-- membership, among slots and among their sets
in_mem : (f : ℕ → Set) (l : List ℕ) (y : ℕ) → In y l → mem (f y) (map f l) ≡ true
in_mem f [] y m = absurd m
in_mem f (a ∷ l) y m = ⊎_elim (λ e. let q : same (f a) (f y) ≡ true = ap (λ (k : ℕ). same (f k) (f y)) (sym e) ∙ same_self (f y) in rw q) (λ n. or_right (same (f a) (f y)) (mem (f y) (map f l)) (in_mem f l y n)) m
  where
    or_right : (b c : Bool) → c ≡ true → (b || c) ≡ true
    or_right true c e = refl
    or_right false c e = e

pub record From (f : ℕ → Set) (l : List ℕ) (s : Set) : Type 0 where
  pub slot : ℕ
  pub there : In slot l
  pub set : f slot ≡ s

mem_in : (f : ℕ → Set) (l : List ℕ) (s : Set) → mem s (map f l) ≡ true → From f l s
mem_in f [] s e = true-not-false (sym e)
mem_in f (a ∷ l) s e = go (same (f a) s) refl e (mem_in f l s)
  where
    go : (b : Bool) → same (f a) s ≡ b → (b || mem s (map f l)) ≡ true → (mem s (map f l) ≡ true → From f l s) → From f (a ∷ l) s
    go true p q ih = record { slot = a; there = inl refl; set = same-eq (f a) s p }
    go false p q ih = let r = ih q in record { slot = r.slot; there = inr r.there; set = r.set }

in? : (x : ℕ) (l : List ℕ) → In x l ⊎ (In x l → ⊥)
in? x [] = inr (λ m. m)
in? x (y ∷ l) = go (eqb x y) refl (in? x l)
  where
    go : (b : Bool) → eqb x y ≡ b → In x l ⊎ (In x l → ⊥) → In x (y ∷ l) ⊎ (In x (y ∷ l) → ⊥)
    go true e k = inl (inl (eqb-true x y e))
    go false e (inl m) = inl (inr m)
    go false e (inr n) = inr (λ m. ⊎_elim (eqb-false x y e) n m)

-- places that are right name every slot: as many sets, strictly ascending, as there are slots
module _ (used : ℕ) (sets : List (List ℕ)) (order : List ℕ) (e : allb used (place_at sets order used) ≡ true) where
  abbrev S : List ℕ
  S = span order 0 used

  pub named : (x : ℕ) → 1 ≤ x → x ≤ used → In x S
  named x a b = ⊎_elim (λ m. m) (λ n. absurd (no n)) (in? x S)
    where
      slot : (y : ℕ) → In y S → (1 ≤ y) × (y ≤ used)
      slot y m = span_in (λ (k : ℕ). (1 ≤ k) × (k ≤ used)) order 0 used (λ j u v. place-slot used sets order e j (omega arith)) y m

      no : (In x S → ⊥) → ⊥
      no n =
          let f = set_at sets in
          let p = pigeon (map f S) (map f (others x used)) (rising-span f order 0 used (λ j u v. place-rise used sets order e j (omega arith)))
          (λ w q. let r = mem_in f S w q in
          let k = slot r.slot r.there in
          subst (λ v. mem v (map f (others x used)) ≡ true) r.set (in_mem f (others x used) r.slot (others_in x used r.slot k.0 k.1 (λ q. n (subst (λ (y : ℕ). In y S) q r.there))))) in
          omega (arith, p, length-map S f, span-length order 0 used, length-map (others x used) f, others-few x used a b)

pub covers : (limit : ℕ) (d : Directory) (s : Stores) → agreesb limit d s ≡ true → (x : ℕ) → 1 ≤ x → x ≤ d.used → In x (span s.order 0 d.used)
covers limit d s g = named d.used s.sets s.order (places-right limit d s g)
