-- `exponential_slots::head_in` meets its contract. Assumes nothing.
use mathlib.Core.Path.{refl}
use native.Mathlib.Omega.{arith}
use Rattle.exponential_slots.specs.Cells.{head_in}
use Rattle.exponential_slots.proofs.Cases.{narrow-says}
use Rattle.exponential_slots.proofs.head_in.Goals as goal

pub overflow_cast-result : goal.overflow_cast-result
overflow_cast-result c = omega (arith, (narrow-says c.args.f c.requires).level)

pub overflow_cast-result-2 : goal.overflow_cast-result-2
overflow_cast-result-2 c = omega (arith, (narrow-says c.args.f c.requires).pos)

pub overflow_cast-result-3 : goal.overflow_cast-result-3
overflow_cast-result-3 c = omega (arith, (narrow-says c.args.f c.requires).neg)

pub returns : goal.returns
unfolding head_in
returns c = refl
