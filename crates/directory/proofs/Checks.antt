-- Turns of the loops that check the directory and search in it. Assumes nothing.
use Rattle.std.specs.Prelude.{Ok, Err, Result, ℕ, Some, None}
use Rattle.std.proofs.Common.{◌≡◌, ℕ, zero, suc, ◌+◌, ◌-◌, ◌<◌, ◌≤◌, Bool, true, false, ◌&&◌, ◌||◌, eqb, ltb, leb, List, [], ◌∷◌, ◌++◌, map, get_or, sym, refl, ap, ◌∙◌, add-one, arith, le-ltb, lt-ltb, le-leb}
use Prim.Native.Nat.{Ordering}
use borrow.Author.Tests.{lt-leb, eqb-false}
use Rattle.laws.specs.Pick.{pick}
use Rattle.tally.specs.Sets.{Set, cmp, same}
use Rattle.tally.specs.Map.{plain, plains, bit}
use Rattle.sets.specs.All.{allb}
use Rattle.sets.specs.Rows.{span, set_of, soundb, below}
use Rattle.sets.proofs.Spans.{span_more, span_none, span-all, span-snoc}
use Rattle.directory.specs.View.{set_at, birth_at, place_at, plainly, seek, sought, born_at}
use Rattle.directory.specs.Inner.{placed, bornb, step_at}

pub some : (k : ℕ) → (k ≡ 0 → ⊥) → 1 ≤ k
some zero n = absurd (n refl)
some (suc k) n = omega arith

-- birth numbers
module _ (entries : List (List ℕ)) where
  pub birth-named : (x : ℕ) → 1 ≤ x → birth_at entries x ≡ get_or (get_or entries x []) 0 0
  birth-named zero h = absurd (omega arith)
  birth-named (suc x) h = refl

  -- b is the birth number of slot i, and j is the next slot
  module _ (i j b : ℕ) (p : b ≡ birth_at entries i) (n : j ≡ i + 1) where
    born : born_at entries i ≡ ltb b (get_or (get_or entries j []) 0 0)
    born =
        ap (λ (x : ℕ). ltb x (birth_at entries (i + 1))) (sym p)
        ∙ ap (λ (x : ℕ). ltb b (birth_at entries x)) (sym n)
        ∙ ap (λ (x : ℕ). ltb b x) (birth-named j (omega arith))

    pub born-late : get_or (get_or entries j []) 0 0 ≤ b → born_at entries i ≡ false
    born-late h = born ∙ le-ltb _ _ h

    pub born-yes : b < get_or (get_or entries j []) 0 0 → born_at entries i ≡ true
    born-yes h = born ∙ lt-ltb _ _ h

  module _ (used last : ℕ) where
    pub births-no : allb used (born_at entries) ≡ false → bornb used last entries ≡ false
    unfolding bornb
    births-no e = rw e

    pub births-end : (b : ℕ) → b ≡ birth_at entries used → allb used (born_at entries) ≡ true → bornb used last entries ≡ leb b last
    unfolding bornb
    births-end b p e = rw (e, ← p)

-- places
pub set-named : (sets : List (List ℕ)) (x : ℕ) → 1 ≤ x → set_at sets x ≡ set_of (get_or sets x [])
set-named sets zero h = absurd (omega arith)
set-named sets (suc x) h = refl

module _ (sets : List (List ℕ)) (order : List ℕ) (used i : ℕ) where
  pub step-low : get_or order i 0 < 1 → step_at sets order used i ≡ false
  step-low h = rw (lt-leb 1 (get_or order i 0) h)

  pub step-high : 1 ≤ get_or order i 0 → used < get_or order i 0 → step_at sets order used i ≡ false
  step-high h k = rw (le-leb 1 (get_or order i 0) h, lt-leb _ _ k)

  -- p is the slot at the place before
  module _ (p : ℕ) (h : 1 ≤ get_or order i 0) (k : get_or order i 0 ≤ used) (before : (i ≡ 0 → ⊥) → (p ≡ get_or order (i - 1) 0) × (1 ≤ p)) where
    test : place_at sets order used i ≡ (eqb i 0 || below (cmp (set_of (get_or sets p [])) (set_of (get_or sets (get_or order i 0) []))))
    test = rw (le-leb 1 (get_or order i 0) h, le-leb _ _ k) (go (eqb i 0) refl)
      where
        go : (b : Bool) → eqb i 0 ≡ b → (b || below (cmp (set_at sets (get_or order (i - 1) 0)) (set_at sets (get_or order i 0)))) ≡ (b || below (cmp (set_of (get_or sets p [])) (set_of (get_or sets (get_or order i 0) []))))
        go true e = refl
        go false e =
            let q = before (eqb-false i 0 e) in
            let a : set_at sets (get_or order (i - 1) 0) ≡ set_of (get_or sets p []) = ap (set_at sets) (sym q.0) ∙ set-named sets p q.1 in
            rw (a, set-named sets (get_or order i 0) h)

    pub step-test : (b : Bool) → b ≡ (soundb (get_or sets (get_or order i 0) []) && (eqb i 0 || below (cmp (set_of (get_or sets p [])) (set_of (get_or sets (get_or order i 0) []))))) → step_at sets order used i ≡ b
    step-test b e = ap (λ (x : Bool). x && soundb (get_or sets (get_or order i 0) [])) test ∙ and-swap _ (soundb (get_or sets (get_or order i 0) [])) ∙ sym e
      where
        and-swap : (x y : Bool) → (x && y) ≡ (y && x)
        and-swap true true = refl
        and-swap true false = refl
        and-swap false true = refl
        and-swap false false = refl

plains_snoc : (f : ℕ → Set) (l : List ℕ) (x : ℕ) → plains (map f (l ++ (x ∷ []))) ≡ plains (map f l) + bit (plain (f x))
plains_snoc f [] x = omega arith
plains_snoc f (y ∷ l) x = omega (arith, plains_snoc f l x)

pub plainly-more : (sets : List (List ℕ)) (order : List ℕ) (i : ℕ) → 1 ≤ get_or order i 0 → plainly sets order (i + 1) ≡ plainly sets order i + bit (plain (set_of (get_or sets (get_or order i 0) [])))
plainly-more sets order i h =
    let e : 0 + i ≡ i = omega arith in
    ap (λ (k : ℕ). plainly sets order k) (add-one i)
    ∙ ap (λ (r : List ℕ). plains (map (set_at sets) r)) (span-snoc order 0 i)
    ∙ plains_snoc (set_at sets) (span order 0 i) (get_or order (0 + i) 0)
    ∙ ap (λ (x : Set). plainly sets order i + bit (plain x)) (ap (λ (k : ℕ). set_at sets (get_or order k 0)) e ∙ set-named sets (get_or order i 0) h)

module _ (used : ℕ) (sets : List (List ℕ)) (order : List ℕ) where
  pub placed-no : allb used (step_at sets order used) ≡ false → placed used sets order ≡ None
  unfolding placed pick
  placed-no e = rw e

  pub placed-yes : allb used (step_at sets order used) ≡ true → placed used sets order ≡ Some (plainly sets order used)
  unfolding placed pick
  placed-yes e = rw e

-- search
module _ (s : Set) (used : ℕ) (sets : List (List ℕ)) (order : List ℕ) where
  pub sought-empty : same s [] ≡ true → sought s used sets order ≡ Ok 0
  unfolding sought pick
  sought-empty e = rw e

  pub sought-named : same s [] ≡ false → sought s used sets order ≡ seek s sets (span order 0 (used - 0)) 0
  unfolding sought pick
  sought-named e = rw (e, span-all order used)

  module _ (i : ℕ) where
    abbrev rest : Result ℕ ℕ
    rest = seek s sets (span order i (used - i)) i

    pub seek-over : used ≤ i → rest ≡ Err i
    seek-over h = rw (span_none order i used h)

    module _ (h : i < used) (k : 1 ≤ get_or order i 0) where
      pub seek-low : cmp s (set_of (get_or sets (get_or order i 0) [])) ≡ Ordering.lt → rest ≡ Err i
      seek-low e = rw (span_more order i used h, set-named sets (get_or order i 0) k, e)

      pub seek-here : cmp s (set_of (get_or sets (get_or order i 0) [])) ≡ Ordering.eq → rest ≡ Ok (get_or order i 0)
      seek-here e = rw (span_more order i used h, set-named sets (get_or order i 0) k, e)

      pub seek-on : cmp s (set_of (get_or sets (get_or order i 0) [])) ≡ Ordering.gt → rest ≡ seek s sets (span order (i + 1) (used - (i + 1))) (i + 1)
      seek-on e = rw (span_more order i used h, set-named sets (get_or order i 0) k, e, add-one)

pub bit-one : (b : Bool) → bit b ≤ 1
bit-one true = omega arith
bit-one false = omega arith
