-- Recording keeps cells that can be lent: the numbers that it writes are i64s. Assumes nothing.
use Prim.Native.Nat.{ℕ}
use mathlib.Core.Path.{◌≡◌, sym, subst, ◌∙◌}
use mathlib.Core.Logic.{⊎_elim}
use mathlib.Core.Bool.{Bool, true, false}
use mathlib.Core.List.{List}
use borrow.Author.Tests.{eqb-true}
use lib.Dec.{eqb}
use lib.IntN.{ℤ}
use lib.Ieee.{Float}
use Rattle.laws.specs.Said.{Said, refusal, success}
use Rattle.laws.proofs.Bools.{flag, pick_true, pick-false}
use Rattle.points.specs.Whole.{whole}
use Rattle.points.proofs.WholeSums.{last_some}
use Rattle.kinds.specs.Wholes.{wholes}
use Rattle.explicit_wholes.specs.declared.Head.{Head}
use Rattle.explicit_wholes.specs.Series.{Outcome, refusal_of, recording}
use Rattle.explicit_wholes.proofs.Call.{before, number-last}
use Rattle.explicit_whole_slots.specs.Cells.{Cells, head_at, counts_at, written, recorded_at}
use Rattle.whole_listing.specs.Read.{AllHeld}
use Rattle.whole_listing.proofs.Fits.{more-fits, put-fits}
use Rattle.explicit_whole_collection.proofs.Lists.{HeadFits, head-fits}

-- a head that is answered
abbrev Said-fits : Said Head → Type 0
Said-fits (refusal n) = Unit
Said-fits (success h) = HeadFits h

written_keeps : (bounds : List Float) (x : ℕ) (c : Cells) → AllHeld c.extremes → (a : Said Head) (xs : List ℕ) → Said-fits a → AllHeld (written bounds x c a xs).cells.extremes
written_keeps bounds x c l (refusal n) xs f = l
written_keeps bounds x c l (success h) xs f = put-fits c.extremes x h.min h.max h.sum l f

module _ (bounds : List Float) (sums : Bool) (v : ℤ) (t : wholes.finite v ≡ true) where
  -- a value that is recorded is one that the sum takes
  takes : (h : Head) (xs : List ℕ) → refusal_of bounds sums h xs v ≡ 0 → whole.takes sums h.sum v ≡ true
  takes h xs z =
      ⊎_elim (λ (e : whole.takes sums h.sum v ≡ true). e)
      (λ (e : whole.takes sums h.sum v ≡ false). absurd (last_some (before bounds sums h xs v) (sym (number-last bounds sums h xs v e) ∙ z)))
      (flag (whole.takes sums h.sum v))

  recording-fits : (h : Head) → HeadFits h → (xs : List ℕ) → Said-fits (recording bounds sums h xs v).answer
  unfolding recording
  recording-fits h f xs =
      let b = eqb (refusal_of bounds sums h xs v) 0 in
      ⊎_elim
      (λ (e : b ≡ true). subst (λ (o : Outcome). Said-fits o.answer) (sym (pick_true b _ _ e))
      (more-fits sums h.min h.max h.sum v t (takes h xs (eqb-true (refusal_of bounds sums h xs v) 0 e)) f))
      (λ (e : b ≡ false). subst (λ (o : Outcome). Said-fits o.answer) (sym (pick-false b _ _ e)) tt)
      (flag b)

  -- RECORDING KEEPS IT, whatever is refused
  pub recording-keeps : (x : ℕ) (u : Bool) (c : Cells) → AllHeld c.extremes → AllHeld (recorded_at bounds sums x u c v).cells.extremes
  unfolding recorded_at
  recording-keeps x u c l =
      let o = recording bounds sums (head_at c x u) (counts_at bounds c x u) v in
      written_keeps bounds x c l o.answer o.counts (recording-fits (head_at c x u) (head-fits c x u l) (counts_at bounds c x u))
