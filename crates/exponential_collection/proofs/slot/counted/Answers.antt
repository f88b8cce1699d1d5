-- `exponential_collection::slot::counted` meets its contract. Assumes nothing.
use native.Mathlib.Omega.{arith}
use lib.ListN.{get_or}
use Rattle.exponential_collection.proofs.Slots.{counted-held, counted-fresh}
use Rattle.exponential_collection.proofs.slot.counted.Goals as goal

pub overflow_add-result-then-updated : goal.overflow_add-result-then-updated
overflow_add-result-then-updated c = omega (arith, (c.requires.f_bound c.if-updated.true).0)

pub overflow_add-result-then-updated-2 : goal.overflow_add-result-then-updated-2
overflow_add-result-then-updated-2 c = omega (arith, (c.requires.f_bound c.if-updated.true).1)

pub returns-then-updated : goal.returns-then-updated
returns-then-updated c =
    let a = c.args in
    counted-held a.s a.updated (get_or a.f 4 0) (get_or a.f 6 0) c.if-updated.true

pub returns : goal.returns
returns c =
    let a = c.args in
    counted-fresh a.s a.updated (get_or a.f 4 0) (get_or a.f 6 0) c.if-updated.false
