-- `explicit_map::turned_by` meets its contract. Assumes nothing.
use mathlib.Core.Path.{sym, ◌∙◌}
use Rattle.value_map.proofs.Late.{turned_same, turned-late, turned-other}
use Rattle.whole_map.proofs.explicit_map.turned_by.Goals as goal

pub returns-then-bounds_pass : goal.returns-then-bounds_pass
returns-then-bounds_pass c = turned_same _ _ (sym c.bounds_pass.ensures ∙ c.if-bounds_pass.true)

pub returns-else-bounds_pass : goal.returns-else-bounds_pass
returns-else-bounds_pass c = turned-late _ c.args.no c.in-NoHandle.is (sym c.bounds_pass.ensures ∙ c.if-bounds_pass.false)

pub returns-in_default : goal.returns-in_default
returns-in_default c = turned-other _ c.args.no c.in_default.not-NoHandle c.in_default.not-Disagrees c.in_default.not-Full
