-- What an accepted merge of i64 points leaves is the merge of the points read, in shape: by the shadows, which have the same counts. Assumes nothing.
use Prim.Native.Nat.{ℕ}
use mathlib.Core.Path.{◌≡◌, refl, sym, ap, ◌∙◌}
use mathlib.Core.Bool.{Bool, true, false}
use mathlib.Core.List.{List}
use borrow.Author.Tests.{eqb-true, eq-eqb, ne_eqb}
use lib.Dec.{eqb}
use Rattle.laws.specs.Said.{refusal, success}
use Rattle.laws.specs.Over.{over}
use Rattle.laws.proofs.Bools.{pick_true, pick-false}
use Rattle.floats.specs.Starts.{zero_float}
use Rattle.points.specs.Counts.{pos_of, neg_of}
use Rattle.points.specs.Any.{Handed, merge_handed}
use Rattle.points.specs.Whole.{whole}
use Rattle.point.specs.Handing as P
use Rattle.point.proofs.Answers.{has_room, laid-back, laid-shape}
use Rattle.whole_point.specs.Handing.{Stored, stored_in, handed_in, in_shape, shadow_stored, Outcome, point_for, laid_over, refusal_before, merging}
use Rattle.whole_point.proofs.Call.{number_is}

module _ (size : ℕ) (x y : Stored) (us vs : List ℕ) where
  pub refused : (refusal_before size x y ≡ 0 → ⊥) → (merging size x y us vs).answer ≡ refusal (refusal_before size x y)
  unfolding merging
  refused z = ap (λ (o : Outcome). o.answer) (pick-false _ _ _ (ne_eqb (refusal_before size x y) 0 z))

  -- the shadows are not refused either
  shadows-free : refusal_before size x y ≡ 0 → P.refusal_before size (shadow_stored x) (shadow_stored y) ≡ 0
  shadows-free e = go (eqb before 0) refl
    where
      before : ℕ
      before = P.refusal_before size (shadow_stored x) (shadow_stored y)

      go : (b : Bool) → eqb before 0 ≡ b → before ≡ 0
      go true d = eqb-true before 0 d
      go false d = sym (pick-false _ _ _ d) ∙ sym (number_is size x y us vs) ∙ e

  module _ (e : refusal_before size x y ≡ 0) where
    abbrev merged : Handed whole
    merged = merge_handed whole size (handed_in x) (handed_in y)

    abbrev left : Stored
    left = stored_in (point_for merged) x.bounds (over (pos_of merged.counts) us) (over (neg_of merged.counts) vs)

    pub accepted : has_room merged.counts us vs ≡ true → (merging size x y us vs).answer ≡ success left
    unfolding merging laid_over
    accepted r = ap (λ (o : Outcome). o.answer) (pick_true _ _ _ (eq-eqb (refusal_before size x y) 0 e) ∙ pick_true _ _ _ r)

    pub short : has_room merged.counts us vs ≡ false → (merging size x y us vs).answer ≡ refusal 10
    unfolding merging laid_over
    short r = ap (λ (o : Outcome). o.answer) (pick_true _ _ _ (eq-eqb (refusal_before size x y) 0 e) ∙ pick-false _ _ _ r)

    pub reads : handed_in left ≡ merged
    reads =
        let k = laid-back size (shadow_stored x) (shadow_stored y) (shadows-free e) us vs in
        λ j. record { counts = k j; extremes = merged.extremes; threshold = zero_float; min = merged.min; max = merged.max; sum = merged.sum }

    pub shaped : in_shape left ≡ true
    shaped = laid-shape merged.counts us vs
