-- `singles::slot::put` meets its contract. Assumes nothing.
use Prim.Native.Nat.{◌<◌}
use mathlib.Core.Path.{ap, ◌∙◌}
use native.Mathlib.Omega.{arith}
use lib.ListN.{length}
use Rattle.floats.specs.Answers.{bits_of}
use Rattle.singles.proofs.Slots.{put-none, put_some}
use Rattle.singles.proofs.slot.put.Goals as goal

pub returns-then-not-due : goal.returns-then-not-due
returns-then-not-due c =
    let a = c.args in
    put-none a.updated a.due a.values.now a.x a.row a.at a.out_sets.now a.out_values.now c.if-not-due.true

pub overflow_add-result : goal.overflow_add-result
overflow_add-result c =
    let room : (c.args.at < length c.args.out_sets.now) × (c.args.at < length c.args.out_values.now) = c.requires.at_in_bounds c.if-not-due.false in
    omega (arith, (room).1)

pub returns : goal.returns
returns c =
    let a = c.args in
    put_some a.updated a.due a.values.now a.x a.row a.at a.out_sets.now a.out_values.now c.if-not-due.false
    c.bits_of.result (c.bits_of.ensures ∙ ap bits_of c.held_at.ensures)
