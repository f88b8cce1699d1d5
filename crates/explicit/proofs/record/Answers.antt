use mathlib.Core.Path.{◌≡◌, sym}
use native.Mathlib.Omega.{arith}
use borrow.Author.Rules.{rules}
use Rattle.std.specs.Prelude.{Err}
use Rattle.refusals.specs.Refusals.{number}
use Rattle.refusals.proofs.Numbers.{number-nonzero}
use Rattle.explicit.proofs.Writes.{Ready, ready, total-below, refused_law, accepted_law}
use Rattle.explicit.proofs.record.Goals as goal

pub returns-in_err-refusal : goal.returns-in_err-refusal
returns-in_err-refusal c =
    let a = c.args in
    let e = c.in_err-refusal.field-0.0 in
    let k : c.from_residual.result ≡ Err e = search rules in
    rw k (refused_law a.bounds.now a.head a.counts.now a.v (number e) (c.in_err-refusal.ensures) (number-nonzero e))

pub count_in-requires : goal.count_in-requires
count_in-requires c =
    let a = c.args in
    let good : Ready a.bounds.now a.head a.counts.now = ready a.bounds.now a.head a.counts.now a.v (sym c.in_ok-refusal.ensures) in
    record { bounds_in_bounds = good.long; counts_bound = total-below a.bounds.now a.head a.counts.now a.v good }

pub overflow_add-result : goal.overflow_add-result
overflow_add-result c =
    let a = c.args in
    let good : Ready a.bounds.now a.head a.counts.now = ready a.bounds.now a.head a.counts.now a.v (sym c.in_ok-refusal.ensures) in
    omega (arith, good.count)

pub returns : goal.returns
returns c =
    let a = c.args in
    accepted_law a.bounds.now a.head a.counts.now a.v c.lesser-least.result c.greater-greatest.result c.count_in.new.counts (sym c.in_ok-refusal.ensures) c.count_in.ensures c.lesser-least.ensures c.greater-greatest.ensures
