-- `gauge_lines::follow` meets its contract. Assumes nothing.
use Rattle.gauge_lines.proofs.Following.{line-followed, line-refused}
use Rattle.gauge_lines.proofs.follow.Goals as goal

pub returns-in-Some : goal.returns-in-Some
returns-in-Some c =
    line-followed _ c.args.g c.args.n _ _ _ _ c.make-made.result c.in-Some.next c.in-Some.is _ c.make-made.ensures

pub returns-in-None : goal.returns-in-None
returns-in-None c =
    line-refused _ c.args.g c.args.n _ _ _ _ c.make-made.result c.in-None.is _ c.make-made.ensures c.unread.result _ c.unread.ensures
