-- `alone_number` meets its contract. Assumes nothing.
use mathlib.Core.Path.{◌≡◌, sym, ◌∙◌}
use Rattle.laws.proofs.Bools.{pick_true, pick-false}
use Rattle.point.specs.Handing as P
use Rattle.whole_point.specs.Handing.{stored, shadow_stored}
use Rattle.whole_point.proofs.Call.{alone_law}
use Rattle.whole_point.proofs.alone_number.Goals as goal

pub returns-then-agrees_alone : goal.returns-then-agrees_alone
returns-then-agrees_alone c =
    let told : (let a = c.args in c.agrees_alone.result ≡ P.agrees_alone (shadow_stored (stored a.p a.bounds.now a.pos.now a.neg.now))) =
    let a = c.args in
    c.agrees_alone.ensures ∙ (λ j. P.agrees_alone (P.stored (c.shadow_of-x.ensures j) a.bounds.now a.pos.now a.neg.now)) in
    let a = c.args in
    sym (pick_true c.agrees_alone.result 11 8 c.if-agrees_alone.true) ∙ alone_law (stored a.p a.bounds.now a.pos.now a.neg.now) c.agrees_alone.result (told)

pub returns : goal.returns
returns c =
    let told : (let a = c.args in c.agrees_alone.result ≡ P.agrees_alone (shadow_stored (stored a.p a.bounds.now a.pos.now a.neg.now))) =
    let a = c.args in
    c.agrees_alone.ensures ∙ (λ j. P.agrees_alone (P.stored (c.shadow_of-x.ensures j) a.bounds.now a.pos.now a.neg.now)) in
    let a = c.args in
    sym (pick-false c.agrees_alone.result 11 8 c.if-agrees_alone.false) ∙ alone_law (stored a.p a.bounds.now a.pos.now a.neg.now) c.agrees_alone.result (told)
