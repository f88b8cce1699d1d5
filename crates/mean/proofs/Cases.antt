-- What is answered by the tests of the code. Assumes nothing.
use Prim.Native.Nat.{ℕ, ◌*◌}
use mathlib.Core.Path.{◌≡◌, refl, sym, ◌∙◌}
use mathlib.Core.Bool.{Bool, true, false}
use borrow.Author.Tests.{eq-eqb, ne_eqb}
use lib.IntN.{ℤ, pos, negsuc}
use lib.Ieee.{Float}
use Rattle.laws.specs.Pick.{pick}
use Rattle.laws.specs.Said.{Said, refusal, success}
use Rattle.laws.proofs.Bools.{pick_true, pick-false}
use Rattle.floats.specs.Grid.{signed, steps}
use Rattle.points.specs.Handed.{count_of}
use Rattle.point.specs.Handing.{Stored, counts_in, agrees_alone}
use Rattle.std.specs.Prelude.{Some, None, Result, Ok, Err}
use Rattle.std.specs.Option.{ok_or}
use Rattle.refusals.specs.declared.Refusal.{Refusal}
use Rattle.refusals.specs.declared.Refusal.TheVariants as V
use Rattle.refusals.specs.Refusals.{number}
use Rattle.mean.specs.declared.Steps as S
use Rattle.mean.specs.Rounding.{nearest, hundredths}
use Rattle.mean.specs.Mean.{on_grid, mean_of, mean_in}
use Rattle.mean.specs.Inner.{Sum, OffGrid, as_sum, sum_of}

-- by the sum as the code finds it
abbrev pub mean_by : ℕ → Sum → Said ℤ
mean_by count None = refusal 14
mean_by count (Some s) = success (signed s.negative (nearest (s.steps * 100) (count * 1024)))

-- by that sum, or what refuses it
abbrev pub mean_from : ℕ → Result S.Steps Refusal → Said ℤ
mean_from count (Err e) = refusal (number e)
mean_from count (Ok s) = success (signed s.negative (nearest (s.steps * 100) (count * 1024)))

pub mean-from : (count : ℕ) (o : Sum) → mean_from count (ok_or o V.OffGrid) ≡ mean_by count o
mean-from count None = refl
mean-from count (Some s) = refl

by-steps : (count : ℕ) (z : ℤ) → mean_by count (as_sum z) ≡ success (hundredths z count)
by-steps count (pos n) = refl
by-steps count (negsuc n) = refl

by-sum : (count : ℕ) (x : Float) → mean_by count (sum_of x) ≡ pick (on_grid x) (success (hundredths (steps x) count)) (refusal 14)
unfolding sum_of pick
by-sum count x = go (on_grid x)
  where
    go : (b : Bool) → mean_by count (pick b (as_sum (steps x)) OffGrid) ≡ pick b (success (hundredths (steps x) count)) (refusal 14)
    go true = by-steps count (steps x)
    go false = refl

module _ (count : ℕ) (sum : Float) where
  pub mean-none : count ≡ 0 → mean_of count sum ≡ refusal 13
  unfolding mean_of
  mean-none h = pick_true _ _ _ (eq-eqb count 0 h)

  pub mean-some : (count ≡ 0 → ⊥) → mean_of count sum ≡ mean_by count (sum_of sum)
  unfolding mean_of
  mean-some h = pick-false _ _ _ (ne_eqb count 0 h) ∙ sym (by-sum count sum)

module _ (x : Stored) where
  pub mean-disagrees : agrees_alone x ≡ false → mean_in x ≡ refusal 8
  unfolding mean_in
  mean-disagrees h = pick-false _ _ _ h

  pub mean-agrees : agrees_alone x ≡ true → mean_in x ≡ mean_of (count_of (counts_in x)) x.point.sum
  unfolding mean_in
  mean-agrees h = pick_true _ _ _ h
