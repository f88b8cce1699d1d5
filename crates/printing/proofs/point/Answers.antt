-- `printing::point` meets its contract. Assumes nothing.
use mathlib.Core.Path.{sym, ◌∙◌}
use Rattle.listing.specs.Listed.{Output, output}
use Rattle.lines.specs.Gathered.{waiting}
use Rattle.lines.proofs.Gathering.{spelt}
use Rattle.printing.proofs.Putting.{nothing}
use Rattle.printing.proofs.Points.{none_found, no-set, point-found}
use Rattle.printing.proofs.point.Goals as goal

pub returns-in_default : goal.returns-in_default
returns-in_default c =
    let listed : Output = let a = c.args in output a.sets.now a.words.now a.pos.now a.neg.now in
    let a = c.args in
    let p = none_found a.form a.at (listed) a.bounds.now (sym c.point_at.ensures ∙ c.in_default.is) in record { text_value = spelt p.0 (waiting a.n a.text.now) (nothing _); at_value = p.1 }

pub returns-then-sets-k : goal.returns-then-sets-k
returns-then-sets-k c =
    let listed : Output = let a = c.args in output a.sets.now a.words.now a.pos.now a.neg.now in
    let a = c.args in
    let p = no-set a.form a.at (listed) a.bounds.now c.in-Some.e (sym c.point_at.ensures ∙ c.in-Some.is) c.if-sets-k.true in record { text_value = spelt p.0 (waiting a.n a.text.now) (nothing _); at_value = p.1 }

pub returns : goal.returns
returns c =
    let listed : Output = let a = c.args in output a.sets.now a.words.now a.pos.now a.neg.now in
    let a = c.args in
    let p = point-found a.form a.at (listed) a.bounds.now c.in-Some.e (sym c.point_at.ensures ∙ c.in-Some.is) c.if-sets-k.false in record { text_value = spelt p.0 (waiting a.n a.text.now) c.line.ensures; at_value = p.1 }
