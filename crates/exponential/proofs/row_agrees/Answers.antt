use Rattle.std.proofs.Common.{arith}
use Rattle.exponential.proofs.Rowed.{refuse, short, low, range, first, empty-row, by_last}
use Rattle.exponential.proofs.row_agrees.Goals as goal

pub returns-then-n-eq0 : goal.returns-then-n-eq0
returns-then-n-eq0 c =
    let a = c.args in
    empty-row a.size a.low a.end a.row a.counts.now c.if-n-eq0.true

pub returns-then-size-n : goal.returns-then-size-n
returns-then-size-n c =
    let a = c.args in
    refuse a.size a.low a.end a.row a.counts.now (λ f. omega (arith, c.if-size-n.true, short a.size a.low a.end a.row a.counts.now f))

pub returns-then-counts-n : goal.returns-then-counts-n
returns-then-counts-n c =
    let a = c.args in
    refuse a.size a.low a.end a.row a.counts.now (λ f. omega (arith, c.if-counts-n.true, f.there))

pub returns-then-start-low : goal.returns-then-start-low
returns-then-start-low c =
    let a = c.args in
    refuse a.size a.low a.end a.row a.counts.now (λ f. omega (arith, c.if-start-low.true, low a.size a.low a.end a.row a.counts.now f (omega (arith, c.if-n-eq0.false))))

pub overflow_add-start : goal.overflow_add-start
overflow_add-start c = omega (arith, c.if-size-n.false)

pub returns-then-end-start : goal.returns-then-end-start
returns-then-end-start c =
    let a = c.args in
    refuse a.size a.low a.end a.row a.counts.now (λ f. omega (arith, c.if-end-start.true, range a.size a.low a.end a.row a.counts.now f))

pub returns-then-counts-eq0 : goal.returns-then-counts-eq0
returns-then-counts-eq0 c =
    let a = c.args in
    refuse a.size a.low a.end a.row a.counts.now (λ f. omega (arith, c.if-counts-eq0.true, first a.size a.low a.end a.row a.counts.now f (omega (arith, c.if-n-eq0.false))))

pub returns : goal.returns
returns c =
    let a = c.args in
    by_last a.size a.low a.end a.row a.counts.now (omega (arith, c.if-n-eq0.false)) (omega (arith, c.if-size-n.false)) (omega (arith, c.if-counts-n.false)) (omega (arith, c.if-start-low.false)) (omega (arith, c.if-end-start.false)) (omega (arith, c.if-counts-eq0.false))
