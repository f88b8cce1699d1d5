-- `pooling::entries::whole_at` meets its contract. Assumes nothing.
use mathlib.Core.Path.{ap, ◌∙◌}
use lib.ListN.{length}
use Rattle.pooling.specs.Lists.{bounded}
use Rattle.pooling.proofs.entries.whole_at.Goals as goal

pub returns : goal.returns
returns c =
    let a = c.args in
    c.bounded_by.ensures ∙ ap (bounded (length a.bounds.now)) c.point_at-found.ensures
