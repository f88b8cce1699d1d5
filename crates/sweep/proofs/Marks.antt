-- The marks of the slots: their ranks among those that stay. Assumes nothing.
use Prim.Native.Nat.{ℕ, zero, suc, ◌+◌, ◌≤◌, ◌<◌}
use mathlib.Core.Path.{◌≡◌, refl, ap, ◌∙◌}
use mathlib.Core.Logic.{inl, inr}
use mathlib.Core.Bool.{Bool, true, false}
use mathlib.Core.List.{List, [], ◌∷◌, ◌++◌}
use native.Mathlib.Omega.{arith}
use borrow.Author.Tests.{leb-true, leb-false}
use lib.Dec.{eqb, leb}
use lib.ListN.{length, get_or, set, length-append, length-set}
use lib.Seq.{get_or-set_same, get_or-set_other, set-set}
use Rattle.laws.specs.Over.{over}
use Rattle.laws.specs.Pick.{pick}
use Rattle.laws.proofs.Bools.{pick_true, pick-false}
use Rattle.laws.proofs.Counting.{bit_le}
use Rattle.tally.specs.Map.{bit}
use Rattle.directory.proofs.Rises.{In}
use Rattle.sweep.specs.Swept.{stayers, rank}
use Rattle.sweep.specs.Passes.{mark_of, renumbered, moved_to, settled}
use Rattle.laws.proofs.Over.{over-front, over-behind}

one-long : (b : Bool) (x : ℕ) → length (pick b (x ∷ []) []) ≡ bit b
unfolding pick
one-long true x = refl
one-long false x = refl

module _ (p : ℕ → Bool) where
  pub rank-more : (n : ℕ) → rank p (suc n) ≡ rank p n + bit (p (suc n))
  rank-more n = length-append (stayers p n) (pick (p (suc n)) (suc n ∷ []) []) ∙ ap (λ (k : ℕ). rank p n + k) (one-long (p (suc n)) (suc n))

  pub rank-le : (n : ℕ) → rank p n ≤ n
  rank-le zero = omega arith
  rank-le (suc n) = omega (arith, rank-more n, rank-le n, bit_le (p (suc n)))

  pub rank-some : (n : ℕ) → 1 ≤ n → p n ≡ true → 1 ≤ rank p n
  rank-some zero h e = absurd (omega arith)
  rank-some (suc n) h e = omega (arith, rank-more n, ap bit e)

  pub mark-stays : (x : ℕ) → p x ≡ true → mark_of p x ≡ rank p x
  mark-stays x e = pick_true (p x) (rank p x) 0 e

  pub mark-goes : (x : ℕ) → p x ≡ false → mark_of p x ≡ 0
  mark-goes x e = pick-false (p x) (rank p x) 0 e

  pub mark-le : (x : ℕ) → mark_of p x ≤ x
  mark-le x = go (p x) refl
    where
      go : (b : Bool) → p x ≡ b → mark_of p x ≤ x
      go true e = omega (arith, mark-stays x e, rank-le x)
      go false e = omega (arith, mark-goes x e)

-- the marks of the places
renumbered-one : (b : Bool) (x : ℕ) (l r : List ℕ) → pick b (l ++ r) (x ∷ (l ++ r)) ≡ pick b l (x ∷ l) ++ r
unfolding pick
renumbered-one true x l r = refl
renumbered-one false x l r = refl

few-one : (b : Bool) (x : ℕ) (l : List ℕ) (n : ℕ) → length l ≤ n → length (pick b l (x ∷ l)) ≤ suc n
unfolding pick
few-one true x l n h = omega arith
few-one false x l n h = omega arith

module _ (m : ℕ → ℕ) where
  pub renumbered_append : (l r : List ℕ) → renumbered m (l ++ r) ≡ renumbered m l ++ renumbered m r
  renumbered_append [] r = refl
  renumbered_append (q ∷ l) r =
      ap (λ (t : List ℕ). pick (eqb (m q) 0) t (m q ∷ t)) (renumbered_append l r)
      ∙ renumbered-one (eqb (m q) 0) (m q) (renumbered m l) (renumbered m r)

  pub renumbered-few : (l : List ℕ) → length (renumbered m l) ≤ length l
  renumbered-few [] = omega arith
  renumbered-few (q ∷ l) = few-one (eqb (m q) 0) (m q) (renumbered m l) (length l) (renumbered-few l)

-- places that hold small numbers, with small marks over them
few_in_lem : (b : Bool) (x j n : ℕ) (l : List ℕ) → x < n → ((k : ℕ) → k < length l → get_or l k 0 < n) → j < length (pick b l (x ∷ l)) → get_or (pick b l (x ∷ l)) j 0 < n
unfolding pick
few_in_lem true x j n l h g k = g j k
few_in_lem false x zero n l h g k = h
few_in_lem false x (suc j) n l h g k = g j (omega arith)

pub renumbered-small : (m : ℕ → ℕ) (n : ℕ) (l : List ℕ) → ((q : ℕ) → In q l → m q < n) → (j : ℕ) → j < length (renumbered m l) → get_or (renumbered m l) j 0 < n
renumbered-small m n [] g j h = absurd (omega arith)
renumbered-small m n (q ∷ l) g j h =
    few_in_lem (eqb (m q) 0) (m q) j n (renumbered m l) (g q (inl refl)) (λ k a. renumbered-small m n l (λ x i. g x (inr i)) k a) h

pub over-small : (new old : List ℕ) (n : ℕ) → ((j : ℕ) → j < length new → get_or new j 0 < n) → (j : ℕ) → get_or old j 0 < n → get_or (over new old) j 0 < n
over-small new old n g j h = go (leb (length new) j) refl
  where
    go : (b : Bool) → leb (length new) j ≡ b → get_or (over new old) j 0 < n
    go true e = omega (arith, over-behind new old j 0 (leb-true (length new) j e))
    go false e = let k = leb-false (length new) j e in omega (arith, over-front new old j 0 k, g j k)

-- the rows while they move
pick-length : (b : Bool) (l k : List (List ℕ)) → length k ≡ length l → length (pick b l k) ≡ length l
unfolding pick
pick-length true l k e = refl
pick-length false l k e = e

pub moved_length : (r : ℕ) (row : List ℕ) (l : List (List ℕ)) → length (moved_to r row l) ≡ length l
moved_length r row l = pick-length (eqb r 0) l (set l r row) (length-set l r row)

pick_at : (b : Bool) (l k : List (List ℕ)) (x : ℕ) → get_or k x [] ≡ get_or l x [] → get_or (pick b l k) x [] ≡ get_or l x []
unfolding pick
pick_at true l k x e = refl
pick_at false l k x e = e

module _ (c : List ℕ → List ℕ) (m : ℕ → ℕ) (l : List (List ℕ)) where
  pub settled-length : (n : ℕ) → length (settled c m n l) ≡ length l
  settled-length zero = length-set l 0 (c (get_or l 0 []))
  settled-length (suc n) = moved_length (m (suc n)) (c (get_or l (suc n) [])) (settled c m n l) ∙ settled-length n

  -- a slot that has not been come to
  pub settled-past : (n x : ℕ) → ((y : ℕ) → 1 ≤ y → y ≤ n → m y ≤ y) → n < x → get_or (settled c m n l) x [] ≡ get_or l x []
  settled-past zero x g h = get_or-set_other l 0 x (c (get_or l 0 [])) [] (λ q. omega arith)
  settled-past (suc n) x g h =
      pick_at (eqb (m (suc n)) 0) (settled c m n l) (set (settled c m n l) (m (suc n)) (c (get_or l (suc n) []))) x
      (get_or-set_other (settled c m n l) (m (suc n)) x (c (get_or l (suc n) [])) [] (λ q. let z = g (suc n) (omega arith) (omega arith) in omega arith))
      ∙ settled-past n x (λ y a b. g y a (omega arith)) (omega arith)

  -- slot 0 may be written before
  pub settled_root : 0 < length l → ((r : List ℕ) → c (c r) ≡ c r) → (n : ℕ) → settled c m n (set l 0 (c (get_or l 0 []))) ≡ settled c m n l
  settled_root h t zero =
      let r = c (get_or l 0 []) in
      ap (λ (y : List ℕ). set (set l 0 r) 0 (c y)) (get_or-set_same l 0 r [] h) ∙ ap (set (set l 0 r) 0) (t (get_or l 0 [])) ∙ set-set l 0 r r
  settled_root h t (suc n) =
      let r = c (get_or l 0 []) in
      ap (λ (y : List ℕ). moved_to (m (suc n)) (c y) (settled c m n (set l 0 r))) (get_or-set_other l 0 (suc n) r [] (λ q. omega arith))
      ∙ ap (moved_to (m (suc n)) (c (get_or l (suc n) []))) (settled_root h t n)
