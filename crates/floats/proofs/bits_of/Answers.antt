-- `bits_of` meets its contract: only a NaN differs from itself. Assumes nothing.
use mathlib.Core.Path.{sym, subst, ◌∙◌}
use mathlib.Core.Bool.{Bool, not}
use lib.Dec.{T}
use Rattle.laws.proofs.Bools.{pick_true, pick-false}
use Rattle.floats.proofs.Finite.{nan-test}
use Rattle.floats.proofs.bits_of.Goals as goal

pub returns-then-x : goal.returns-then-x
returns-then-x c =
    sym (pick_true _ _ _ (sym (nan-test c.args.x) ∙ c.if-x.true))

pub float_to_bits-result : goal.float_to_bits-result
float_to_bits-result c =
    subst (λ (b : Bool). T (not b)) (sym (sym (nan-test c.args.x) ∙ c.if-x.false)) tt

pub returns : goal.returns
returns c =
    sym (pick-false _ _ _ (sym (nan-test c.args.x) ∙ c.if-x.false))
