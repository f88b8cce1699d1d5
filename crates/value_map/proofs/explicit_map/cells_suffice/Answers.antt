-- `value_map::explicit_map::cells_suffice` meets its contract. Assumes nothing.
use mathlib.Core.Path.{◌∙◌}
use Rattle.value_map.proofs.explicit_map.cells_suffice.Goals as goal

pub returns : goal.returns
returns c = c.suffices.ensures ∙ c.slots_of-slots.ensures c.args.limit
