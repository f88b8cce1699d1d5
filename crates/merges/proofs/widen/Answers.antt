use mathlib.Core.Path.{ap, ◌∙◌}
use Rattle.rows.specs.Rows.{zeroed}
use Rattle.merges.proofs.Wide.{widened}
use Rattle.merges.proofs.widen.Goals as goal

pub returns : goal.returns
returns c =
    c.zero.ensures ∙ ap (zeroed 0 c.args.k) c.shift.ensures ∙ widened c.args.n c.args.k c.args.counts.now c.requires
