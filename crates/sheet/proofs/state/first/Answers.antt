-- `sheet::state::first` meets its contract. Assumes nothing.
use mathlib.Core.Path.{ap, ◌∙◌}
use Rattle.sheet.specs.Followed.{outside_of}
use Rattle.sheet.proofs.state.first.Goals as goal

pub returns : goal.returns
returns c = c.outside.ensures ∙ ap outside_of c.idle.ensures
