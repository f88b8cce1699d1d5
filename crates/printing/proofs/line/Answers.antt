-- `printing::line` meets its contract. Assumes nothing.
use Rattle.lines.specs.Gathered.{waiting}
use Rattle.lines.proofs.Gathering.{spelt}
use Rattle.printing.proofs.Points.{in_form}
use Rattle.printing.proofs.line.Goals as goal

pub returns-in-Point : goal.returns-in-Point
returns-in-Point c =
    let a = c.args in
    spelt (in_form c.in-Point.is _ _) (waiting a.n a.text.now) c.point_line.ensures

pub returns-in-Card : goal.returns-in-Card
returns-in-Card c =
    let a = c.args in
    spelt (in_form c.in-Card.is _ _) (waiting a.n a.text.now) c.card_line.ensures
