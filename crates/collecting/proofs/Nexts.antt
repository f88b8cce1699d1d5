-- The slots of a walk one by one, and what a list's next element adds. Assumes nothing.
use Prim.Native.Nat.{ℕ, zero, suc, ◌+◌, ◌-◌, ◌≤◌, ◌<◌}
use mathlib.Core.Path.{◌≡◌, refl, sym, ap, subst, ◌∙◌}
use mathlib.Core.Bool.{Bool, true, false, not, ◌&&◌, ◌||◌, and-false}
use mathlib.Core.List.{List, [], ◌∷◌, ◌++◌, append-nil}
use native.Mathlib.Omega.{arith}
use lib.Dec.{eqb}
use lib.ListN.{length, get_or, take, drop, take-append-drop}
use lib.Seq.{take-suc, take_all}
use Rattle.laws.specs.Lists.{only}
use Rattle.laws.specs.Pick.{pick}
use Rattle.laws.specs.Tests.{all}
use Rattle.laws.proofs.Bools.{pick_true, pick-false}
use Rattle.laws.proofs.Cases.{and-true}
use Rattle.sets.specs.Rows.{span}
use Rattle.sets.proofs.Spans.{span-at, span-length}

-- ---- the slots of a walk

module _ (order : List ℕ) (used : ℕ) where
  -- as code reads them
  pub slot_is : (i : ℕ) → i ≤ used → get_or (0 ∷ order) i 0 ≡ get_or (0 ∷ span order 0 used) i 0
  slot_is zero h = refl
  slot_is (suc i) h = let e : 0 + i ≡ i = omega arith in ap (λ (j : ℕ). get_or order j 0) (sym e) ∙ sym (span-at order 0 used i (omega arith))

  pub slots_length : length (0 ∷ span order 0 used) ≡ suc used
  slots_length = ap suc (span-length order 0 used)

  pub slot-most : ((k : ℕ) → k < used → (1 ≤ get_or order k 0) × (get_or order k 0 ≤ used)) → (i : ℕ) → i ≤ used → get_or (0 ∷ span order 0 used) i 0 ≤ used
  slot-most g zero h = omega arith
  slot-most g (suc i) h = let e : 0 + i ≡ i = omega arith in
      subst (λ (y : ℕ). y ≤ used) (ap (λ (j : ℕ). get_or order j 0) (sym e) ∙ sym (span-at order 0 used i (omega arith))) (g i (omega arith)).1

  pub slots-all : take (suc used) (0 ∷ span order 0 used) ≡ 0 ∷ span order 0 used
  slots-all = take_all (suc used) (0 ∷ span order 0 used) (omega (arith, slots_length))

pub slot-behind : (order : List ℕ) (i : ℕ) → (i ≡ 0 → ⊥) → get_or order (i - 1) 0 ≡ get_or (0 ∷ order) i 0
slot-behind order zero n = absurd (n refl)
slot-behind order (suc i) n = let e : suc i - 1 ≡ i = omega arith in ap (λ (j : ℕ). get_or order j 0) e

-- a slot that was not updated is due where it is named and all such are asked for
module _ (updated cumulative : Bool) (x : ℕ) (n : updated ≡ false) where
  pub due-not : cumulative ≡ false → (updated || (cumulative && not (eqb x 0))) ≡ false
  due-not e = λ j. n j || (e j && not (eqb x 0))

  pub due-named : cumulative ≡ true → (updated || (cumulative && not (eqb x 0))) ≡ not (eqb x 0)
  due-named e = λ j. n j || (e j && not (eqb x 0))

-- ---- a list's elements one by one

pub take_next : (l : List ℕ) (i : ℕ) → i < length l → take (suc i) l ≡ take i l ++ (get_or l i 0 ∷ [])
take_next l i h = take-suc l i 0 h

pick_append : (b : Bool) (q : ℕ) (a c : List ℕ) → pick b (q ∷ (a ++ c)) (a ++ c) ≡ pick b (q ∷ a) a ++ c
unfolding pick
pick_append true q a c = refl
pick_append false q a c = refl

module _ (p : ℕ → Bool) where
  pub only_append : (a c : List ℕ) → only p (a ++ c) ≡ only p a ++ only p c
  only_append [] c = refl
  only_append (q ∷ a) c = ap (λ (t : List ℕ). pick (p q) (q ∷ t) t) (only_append a c) ∙ pick_append (p q) q (only p a) (only p c)

  only_step : (l : List ℕ) (i : ℕ) → i < length l → only p (take (suc i) l) ≡ only p (take i l) ++ pick (p (get_or l i 0)) (get_or l i 0 ∷ []) []
  only_step l i h = ap (only p) (take_next l i h) ∙ only_append (take i l) (get_or l i 0 ∷ [])

  module _ (l : List ℕ) (i : ℕ) (h : i < length l) where
    pub only_yes : p (get_or l i 0) ≡ true → only p (take (suc i) l) ≡ only p (take i l) ++ (get_or l i 0 ∷ [])
    only_yes e = only_step l i h ∙ ap (λ (t : List ℕ). only p (take i l) ++ t) (pick_true (p (get_or l i 0)) (get_or l i 0 ∷ []) [] e)

    pub only_no : p (get_or l i 0) ≡ false → only p (take (suc i) l) ≡ only p (take i l)
    only_no e = only_step l i h ∙ ap (λ (t : List ℕ). only p (take i l) ++ t) (pick-false (p (get_or l i 0)) (get_or l i 0 ∷ []) [] e) ∙ append-nil (only p (take i l))

  -- the first ones that pass are among all that pass
  pub only-front : (l : List ℕ) (i : ℕ) → only p l ≡ only p (take i l) ++ only p (drop i l)
  only-front l i = ap (only p) (sym (take-append-drop i l)) ∙ only_append (take i l) (drop i l)

  all_more : (a : List ℕ) (x : ℕ) → all p a ≡ true → p x ≡ true → all p (a ++ (x ∷ [])) ≡ true
  all_more [] x h e = rw e
  all_more (y ∷ a) x h e = let q = and-true (p y) (all p a) h in rw q.0 (all_more a x q.1 e)

  pub all-next : (l : List ℕ) (i : ℕ) → i < length l → all p (take i l) ≡ true → p (get_or l i 0) ≡ true → all p (take (suc i) l) ≡ true
  all-next l i h a e = ap (all p) (take_next l i h) ∙ all_more (take i l) (get_or l i 0) a e

  pub all-stop : (l : List ℕ) (i : ℕ) → i < length l → p (get_or l i 0) ≡ false → all p l ≡ false
  all-stop [] i h e = absurd (omega arith)
  all-stop (y ∷ l) zero h e = rw e
  all-stop (y ∷ l) (suc i) h e = rw (all-stop l i (omega arith) e) (and-false (p y))
