-- `value_map::explicit_map::unset_of` meets its contract. Assumes nothing.
use mathlib.Core.Path.{sym, ◌∙◌}
use Rattle.laws.proofs.Bools.{pick_true, pick-false}
use Rattle.value_map.proofs.explicit_map.unset_of.Goals as goal

pub returns-then-not-bounds_pass : goal.returns-then-not-bounds_pass
returns-then-not-bounds_pass c = sym (pick-false _ _ 3 (sym c.bounds_pass.ensures ∙ c.if-not-bounds_pass.true))

pub returns : goal.returns
returns c = sym (pick_true _ _ 3 (sym c.bounds_pass.ensures ∙ c.if-not-bounds_pass.false))
