use lib.Ieee.{binary64, add}
use Rattle.point.proofs.finish.Goals as goal

pub returns : goal.returns
returns c =
    let a = c.args in
    λ j. record { figures = a.figures; extremes = a.a.extremes; min = c.smaller-min.ensures j; max = c.larger-max.ensures j; sum = add binary64 a.a.sum a.b.sum }
