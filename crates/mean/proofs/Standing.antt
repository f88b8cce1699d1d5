-- THE MEAN OF A POINT THAT STANDS FOR VALUES on the grid is that of the values: it agrees by itself, and is never refused with 8 or 14.
-- Assumes nothing.
use Prim.Native.Nat.{ℕ, ◌≤◌}
use mathlib.Core.Path.{◌≡◌, ap, ◌∙◌}
use mathlib.Core.Bool.{Bool, true, false}
use mathlib.Core.List.{List}
use native.Mathlib.Nat.{le_trans}
use native.Mathlib.Omega.{arith}
use borrow.Author.Tests.{le-leb}
use lib.Dec.{leb, eqb}
use lib.IntN.{ℤ, pos, nat_abs}
use lib.ListN.{length}
use lib.Ieee.{Float}
use Rattle.laws.specs.Pick.{pick}
use Rattle.laws.specs.Said.{Said, refusal, success}
use Rattle.laws.proofs.Bools.{and_intro, pick_true}
use Rattle.floats.specs.Grid.{grid, steps, most_steps, exact_total, OnGrid, Gridded}
use Rattle.floats.proofs.Exact.{grid-exact}
use Rattle.floats.proofs.Sums.{zero_is, total-weight}
use Rattle.floats.proofs.Whole.{is-whole, steps-only, on-whole}
use Rattle.points.specs.Figures.{Settings}
use Rattle.points.specs.Handed.{handed_agrees, count_of}
use Rattle.points.specs.Real.{real}
use Rattle.points.specs.Stands.{SumStands, Stands}
use Rattle.points.proofs.Figures.{count-is}
use Rattle.points.proofs.Real.{owed}
use Rattle.point.specs.Handing.{Stored, handed_in, in_shape, agrees_alone}
use Rattle.point.specs.Lists.{Configured}
use Rattle.point.proofs.Answers as Answers
use Rattle.mean.specs.Rounding.{hundredths}
use Rattle.mean.specs.Mean.{on_grid, mean_of, mean_in}
use Rattle.mean.specs.Values.{mean_of_all}
use Rattle.mean.proofs.Cases.{mean-agrees}

-- ---- ITS SUM is on the grid, and so many steps
grid-steps : (x : Float) (z : ℤ) → OnGrid x z → nat_abs z ≤ most_steps → (on_grid x ≡ true) × (steps x ≡ z)
unfolding on_grid
grid-steps x z h l =
    let e = steps-only x z h in
    (and_intro _ _ (is-whole x (on-whole x z h)) (ap (λ (w : ℤ). leb (nat_abs w) most_steps) e ∙ le-leb (nat_abs z) most_steps l), e)

sum-steps : (on : Bool) (x : Float) (vs : List Float) → SumStands on x vs → Gridded vs
    → (on_grid x ≡ true) × (steps x ≡ pick on (exact_total vs) (pos 0))
unfolding pick
sum-steps true x vs h g =
    let l : nat_abs (exact_total vs) ≤ most_steps = le_trans (total-weight vs) g.light in
    rw (h g) (grid-steps (grid (exact_total vs)) (exact_total vs) (grid-exact (exact_total vs) l) l)
sum-steps false x vs h g = rw (h ∙ zero_is) (grid-steps (grid (pos 0)) (pos 0) (grid-exact (pos 0) (omega arith)) (omega arith))

-- ---- THE MEAN
mean-on : (count : ℕ) (sum : Float) → on_grid sum ≡ true
    → mean_of count sum ≡ pick (eqb count 0) (refusal 13) (success (hundredths (steps sum) count))
unfolding mean_of
mean-on count sum h = ap (λ (a : Said ℤ). pick (eqb count 0) (refusal 13) a) (pick_true _ _ _ h)

module _ (s : Settings) (k : Configured s.kind) (x : Stored) (w : in_shape x ≡ true) (vs : List Float)
    (h : Stands s (handed_in x) vs) where
  pub stands-alone : agrees_alone x ≡ true
  unfolding agrees_alone handed_agrees
  stands-alone = and_intro _ _ w (Answers.stands-alone real owed s k (handed_in x) vs h)

  pub mean-stands : Gridded vs → mean_in x ≡ mean_of_all s.sums vs
  unfolding mean_of_all
  mean-stands g =
      let t = sum-steps s.sums x.point.sum vs h.sum g in
      mean-agrees x stands-alone
      ∙ ap (λ (n : ℕ). mean_of n x.point.sum) (ap count_of h.same.counts ∙ count-is s.kind s.threshold vs)
      ∙ mean-on (length vs) x.point.sum t.0
      ∙ ap (λ (z : ℤ). pick (eqb (length vs) 0) (refusal 13) (success (hundredths z (length vs)))) t.1
