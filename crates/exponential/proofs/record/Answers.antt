use Rattle.std.proofs.Common.{◌≡◌, sym}
use borrow.Author.Rules.{rules}
use Rattle.std.specs.Prelude.{Err}
use Rattle.refusals.specs.Refusals.{number}
use Rattle.refusals.proofs.Numbers.{number-nonzero}
use Rattle.exponential.proofs.Call.{refused_law, accepted_law}
use Rattle.exponential.proofs.record.Goals as goal

pub returns-in_err-refusal : goal.returns-in_err-refusal
returns-in_err-refusal c =
    let a = c.args in
    let e = c.in_err-refusal.field-0.0 in
    let k : c.from_residual.result ≡ Err e = search rules in
    rw k (refused_law a.size a.top a.head a.pos.now a.neg.now a.v (number e) (c.in_err-refusal.ensures) (number-nonzero e))

pub count_in-next-requires : goal.count_in-next-requires
count_in-next-requires c = sym (c.in_ok-refusal.ensures)

pub returns : goal.returns
returns c =
    let a = c.args in
    accepted_law a.size a.top a.head a.pos.now a.neg.now a.v c.count_in-next.result c.lesser-least.result c.greater-greatest.result c.count_in-next.new.pos c.count_in-next.new.neg
    (sym (c.in_ok-refusal.ensures)) c.count_in-next.ensures c.lesser-least.ensures c.greater-greatest.ensures
