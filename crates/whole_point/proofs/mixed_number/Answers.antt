-- `mixed_number` meets its contract. Assumes nothing.
use mathlib.Core.Path.{◌∙◌}
use Rattle.refusals.specs.Refusals.{code}
use Rattle.point.specs.Handing as P
use Rattle.whole_point.specs.Handing.{stored}
use Rattle.whole_point.proofs.Call.{mixed_law}
use Rattle.whole_point.proofs.mixed_number.Goals as goal

pub returns : goal.returns
returns c =
    let a = c.args in
    c.beside.ensures
    ∙ mixed_law a.size (stored a.a a.abounds.now a.apos.now a.aneg.now) (P.stored a.b a.bbounds.now a.bpos.now a.bneg.now) (code c.refusal-no.result)
    (c.refusal-no.ensures
    ∙ (λ j. P.refusal_before a.size (P.stored (c.shadow_of-x.ensures j) a.abounds.now a.apos.now a.aneg.now) (P.stored a.b a.bbounds.now a.bpos.now a.bneg.now)))
