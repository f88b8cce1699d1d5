-- `pooling::entries::integer_at` meets its contract. Assumes nothing.
use mathlib.Core.Path.{ap, ◌∙◌}
use lib.ListN.{length}
use Rattle.pooling.specs.Lists.{bounded_integer}
use Rattle.pooling.proofs.entries.integer_at.Goals as goal

pub returns : goal.returns
returns c =
    let a = c.args in
    c.bounded_integer.ensures ∙ ap (bounded_integer (length a.bounds.now)) c.point_at-found.ensures
