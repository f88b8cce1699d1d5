-- Recording keeps cells that can be lent: the floats that it writes are f64s. Assumes nothing.
use Prim.Native.Nat.{ℕ}
use mathlib.Core.Path.{◌≡◌, sym, subst}
use mathlib.Core.Logic.{⊎_elim}
use mathlib.Core.Bool.{Bool, true, false}
use mathlib.Core.List.{List}
use lib.Dec.{eqb}
use lib.Ieee.{Float}
use Rattle.laws.specs.Said.{Said, refusal, success}
use Rattle.laws.proofs.Bools.{flag, pick_true, pick-false}
use Rattle.kinds.specs.Histograms.{histograms}
use Rattle.explicit.specs.declared.Head.{Head}
use Rattle.explicit.specs.Series.{Outcome, refusal_of, recording}
use Rattle.explicit_slots.specs.Cells.{Cells, head_at, counts_at, written, recorded_at}
use Rattle.collecting.specs.Read.{AllFit}
use Rattle.collecting.proofs.Fits.{more-fits, put-fits}
use Rattle.explicit_collection.proofs.Lists.{HeadFits, head-fits}

-- a head that is answered
abbrev Said-fits : Said Head → Type 0
Said-fits (refusal n) = Unit
Said-fits (success h) = HeadFits h

written_keeps : (bounds : List Float) (x : ℕ) (c : Cells) → AllFit c.extremes → (a : Said Head) (xs : List ℕ) → Said-fits a → AllFit (written bounds x c a xs).cells.extremes
written_keeps bounds x c l (refusal n) xs f = l
written_keeps bounds x c l (success h) xs f = put-fits c.extremes x h.min h.max h.sum l f

module _ (bounds : List Float) (v : Float) (t : histograms.finite v ≡ true) where
  recording-fits : (h : Head) → HeadFits h → (xs : List ℕ) → Said-fits (recording bounds h xs v).answer
  unfolding recording
  recording-fits h f xs =
      let b = eqb (refusal_of bounds h xs v) 0 in
      ⊎_elim
      (λ (e : b ≡ true). subst (λ (o : Outcome). Said-fits o.answer) (sym (pick_true b _ _ e))
      (more-fits h.min h.max h.sum v t f))
      (λ (e : b ≡ false). subst (λ (o : Outcome). Said-fits o.answer) (sym (pick-false b _ _ e)) tt)
      (flag b)

  -- RECORDING KEEPS IT, whatever is refused
  pub recording-keeps : (x : ℕ) (u : Bool) (c : Cells) → AllFit c.extremes → AllFit (recorded_at bounds x u c v).cells.extremes
  unfolding recorded_at
  recording-keeps x u c l =
      let o = recording bounds (head_at c x u) (counts_at bounds c x u) v in
      written_keeps bounds x c l o.answer o.counts (recording-fits (head_at c x u) (head-fits c x u l) (counts_at bounds c x u))
