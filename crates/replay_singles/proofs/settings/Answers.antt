-- `replay_singles::settings` meets its contract. Assumes nothing.
use mathlib.Core.Path.{ap}
use Rattle.singles.specs.declared.Aggregation.{Aggregation}
use Rattle.singles.specs.declared.Settings.{Settings}
use Rattle.replay_singles.proofs.settings.Goals as goal

pub returns : goal.returns
returns c =
    let under : Aggregation → Settings = λ x. record { aggregation = x; limit = c.args.s.limit } in
    ap (under) c.aggregation.ensures
