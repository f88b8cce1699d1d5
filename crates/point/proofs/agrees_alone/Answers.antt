-- `point::agrees_alone` meets its contract. Assumes nothing.
use mathlib.Core.Path.{◌∙◌}
use Rattle.point.specs.Handing.{stored}
use Rattle.point.proofs.Means.{agrees-alone}
use Rattle.point.proofs.agrees_alone.Goals as goal

pub returns : goal.returns
returns c =
    let a = c.args in
    c.point_agrees.ensures ∙ agrees-alone (stored a.p a.bounds.now a.pos.now a.neg.now)
