-- `sheet::follow::follow` meets its contract. Assumes nothing.
use Rattle.sheet.proofs.Following.{line-followed, line-refused}
use Rattle.sheet.proofs.follow.follow.Goals as goal

pub returns-in-Some : goal.returns-in-Some
returns-in-Some c =
    line-followed _ c.args.st.gauge c.args.n _ _ _ _ _ c.step-made.result c.in-Some.next c.in-Some.is _ c.step-made.ensures

pub returns-in-None : goal.returns-in-None
returns-in-None c =
    line-refused _ c.args.st.gauge c.args.n _ _ _ _ _ c.step-made.result c.in-None.is _ c.step-made.ensures
    c.unread.result _ c.unread.ensures c.outside.result c.outside.ensures
