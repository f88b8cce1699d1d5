-- WHAT CODE OWES of the points that it stores, for the laws of merging to hold of it: f64 (`real-merges`) and i64 (`whole-merges`) pay it. Assumes
-- nothing.
use Prim.Native.Nat.{ℕ}
use mathlib.Core.Path.{◌≡◌, refl, ap, sym, ◌∙◌}
use mathlib.Core.Bool.{Bool, true, false, ◌&&◌}
use mathlib.Core.List.{List}
use mathlib.Core.Logic.{⊎_elim}
use native.Mathlib.Omega.{arith}
use borrow.Author.Tests.{eqb-true, eqb-false}
use lib.Dec.{eqb}
use Rattle.laws.specs.Said.{Said, refusal, success}
use Rattle.laws.proofs.Bools.{flag, and_left, and_right, pick-left, pick-then}
use Rattle.index.specs.Bins.{finest, lowest_bin}
use Rattle.points.specs.Counts.{merge_counts, size_asked}
use Rattle.points.specs.Handed as R
use Rattle.points.specs.Number.{Number}
use Rattle.points.specs.Any.{Handed, handed_agrees, merge_handed, unmergeable}
use Rattle.points.specs.Coded.{Coded}
use Rattle.points.specs.Real.{real}
use Rattle.point.specs.Handing as P
use Rattle.point.specs.Lists.{real_points}
use Rattle.point.proofs.Answers as PA
use Rattle.point.proofs.Answers.{has_room}
use Rattle.point.proofs.Calls as PC
use Rattle.whole_point.specs.Handing as W
use Rattle.whole_point.specs.Lists.{whole_points}
use Rattle.whole_point.proofs.Answers as WA

-- a success is one value's, a refusal one number's, and no answer is both
pub success-is : {A : Type 0} (a b : A) → success a ≡ success b → a ≡ b
success-is {A} a b e = ap of e
  where
    of : Said A → A
    of (refusal n) = a
    of (success x) = x

pub refusal_is : {A : Type 0} (n m : ℕ) → ◌≡◌ {A = Said A} (refusal n) (refusal m) → n ≡ m
refusal_is {A} n m e = ap of e
  where
    of : Said A → ℕ
    of (refusal i) = i
    of (success x) = n

pub not-both : {A : Type 0} {B : Type 0} (n : ℕ) (a : A) → refusal n ≡ success a → B
not-both {A} n a e = let k : ◌≡◌ {A = ℕ} 1 0 = ap of e in absurd (omega (arith, k))
  where
    of : Said A → ℕ
    of (refusal i) = 1
    of (success x) = 0

module _ {N : Number} (C : Coded N) where
  -- the number but for 10, of what the points read as; 8 also of a point that is not in shape
  abbrev pub before : ℕ → C.Stored → C.Stored → ℕ
  before size x y = unmergeable N size (C.in_shape x && C.in_shape y) (C.handed_in x) (C.handed_in y)

  -- the rows have room for the merged counts
  abbrev pub room_for : ℕ → C.Stored → C.Stored → List ℕ → List ℕ → Bool
  room_for size x y us vs = has_room (merge_counts size (C.handed_in x).counts (C.handed_in y).counts) us vs

  -- a point that reads as h, in shape
  pub record Leaves (o : Said C.Stored) (h : Handed N) : Type 0 where
    pub left : C.Stored
    pub is : o ≡ success left
    pub reads : C.handed_in left ≡ h
    pub shape : C.in_shape left ≡ true

  -- the number of what the points read as; 10 where there is no room; else the merge of what they read as
  pub record Merges : Type 0 where
    pub refused : (size : ℕ) (x y : C.Stored) (us vs : List ℕ) → (before size x y ≡ 0 → ⊥) → C.merging size x y us vs ≡ refusal (before size x y)
    pub short : (size : ℕ) (x y : C.Stored) (us vs : List ℕ) → before size x y ≡ 0 → room_for size x y us vs ≡ false → C.merging size x y us vs ≡ refusal 10
    pub leaves : (size : ℕ) (x y : C.Stored) (us vs : List ℕ) → before size x y ≡ 0 → room_for size x y us vs ≡ true
        → Leaves (C.merging size x y us vs) (merge_handed N size (C.handed_in x) (C.handed_in y))

-- ---- AN ACCEPTED MERGE was not refused and had room
module _ {N : Number} (C : Coded N) (M : Merges C) (size : ℕ) (x y z : C.Stored) (us vs : List ℕ) (s : C.merging size x y us vs ≡ success z) where
  not-refused : before C size x y ≡ 0
  not-refused = go (eqb (before C size x y) 0) refl
    where
      go : (b : Bool) → eqb (before C size x y) 0 ≡ b → before C size x y ≡ 0
      go true e = eqb-true (before C size x y) 0 e
      go false e = not-both (before C size x y) z (sym (M.refused size x y us vs (eqb-false (before C size x y) 0 e)) ∙ s)

  -- what it leaves is the merge of the points read, in shape
  pub merged-reads : (C.handed_in z ≡ merge_handed N size (C.handed_in x) (C.handed_in y)) × (C.in_shape z ≡ true)
  merged-reads =
      ⊎_elim
      (λ (r : room_for C size x y us vs ≡ true).
      let m = M.leaves size x y us vs not-refused r in
      let i : m.left ≡ z = success-is m.left z (sym m.is ∙ s) in
      (ap C.handed_in (sym i) ∙ m.reads, ap C.in_shape (sym i) ∙ m.shape))
      (λ (r : room_for C size x y us vs ≡ false). not-both 10 z (sym (M.short size x y us vs not-refused r) ∙ s))
      (flag (room_for C size x y us vs))

  -- and both of its points agree
  pub merged-agree : (handed_agrees N size finest (lowest_bin finest) (C.handed_in x) ≡ true) × (handed_agrees N size finest (lowest_bin finest) (C.handed_in y) ≡ true)
  merged-agree =
      let p = handed_agrees N size finest (lowest_bin finest) (C.handed_in x) in
      let q = handed_agrees N size finest (lowest_bin finest) (C.handed_in y) in
      let l = C.in_shape x && C.in_shape y in
      let e = pick-then (size_asked size (C.handed_in x).counts (C.handed_in y).counts) _ 1 (omega arith) not-refused in
      let b = and_right l (p && q) (pick-left (l && (p && q)) _ 8 (omega arith) e) in
      (and_left p q b, and_right p q b)

-- ---- f64
real-before : (size : ℕ) (x y : P.Stored) → P.refusal_before size x y ≡ before real_points size x y
unfolding P.refusal_before R.unmergeable R.mergeable R.handed_agrees
real-before size x y = refl

real-merged : (size : ℕ) (p q : Handed real) → R.merge_handed size p q ≡ merge_handed real size p q
unfolding R.merge_handed
real-merged size p q = refl

pub real-merges : Merges real_points
real-merges =
    record {
      refused = λ size x y us vs z.
          let i = real-before size x y in
          ap (λ (o : P.Outcome). o.answer) (sym (PC.refused_law size x y us vs (P.refusal_before size x y) refl (λ e. z (sym i ∙ e)))) ∙ ap refusal i;
      short = λ size x y us vs e r. ap (λ (o : P.Outcome). o.answer) (PA.no_room size x y (real-before size x y ∙ e) us vs r);
      leaves = λ size x y us vs e r.
          let m = PA.answers size x y (real-before size x y ∙ e) us vs r in
          record {
            left = m.left;
            is = ap (λ (o : P.Outcome). o.answer) m.is;
            reads = m.reads ∙ real-merged size (P.handed_in x) (P.handed_in y);
            shape = m.shape;
          };
    }

-- ---- i64
whole_before : (size : ℕ) (x y : W.Stored) → W.refusal_before size x y ≡ before whole_points size x y
unfolding W.refusal_before
whole_before size x y = refl

pub whole-merges : Merges whole_points
whole-merges =
    record {
      refused = λ size x y us vs z. let i = whole_before size x y in WA.refused size x y us vs (λ e. z (sym i ∙ e)) ∙ ap refusal i;
      short = λ size x y us vs e r. WA.short size x y us vs (whole_before size x y ∙ e) r;
      leaves = λ size x y us vs e r.
          let f = whole_before size x y ∙ e in
          record { left = _; is = WA.accepted size x y us vs f r; reads = WA.reads size x y us vs f; shape = WA.shaped size x y us vs f };
    }
