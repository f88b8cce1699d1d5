-- `sheet_writing::put::put_rows` meets its contract. Assumes nothing.
use mathlib.Core.Path.{ap, ◌∙◌}
use Prim.Native.Nat.{ℕ, ◌+◌, ◌-◌}
use native.Mathlib.Omega.{arith}
use lib.ListN.{length, replicate}
use Rattle.records.specs.Inner.{laid}
use Rattle.records.proofs.Padded.{room-kept, width-le, rows-laid}
use Rattle.sheet_writing.proofs.put.put_rows.Goals as goal

pub width_of-w-requires : goal.width_of-w-requires
width_of-w-requires c =
    omega (arith, c.requires.room.few, c.requires.ys_bound, width-le (length c.args.xs.now + length c.args.ys.now))

pub emit_run-requires : goal.emit_run-requires
emit_run-requires c = record { room = c.requires.room; xs_bound = omega (arith, c.requires.ys_bound, width-le (length c.args.xs.now + length c.args.ys.now)) }

pub emit_run-requires-2 : goal.emit_run-requires-2
emit_run-requires-2 c = record { room = room-kept c.args.info c.args.n c.args.s.now _ c.requires.room c.emit_run.auto.s; xs_bound = omega (arith, c.requires.ys_bound, width-le (length c.args.xs.now + length c.args.ys.now)) }

pub overflow_sub-w : goal.overflow_sub-w
overflow_sub-w c =
    omega (arith, width-le (length c.args.xs.now + length c.args.ys.now), c.width_of-w.ensures)

pub emit_zeros-requires : goal.emit_zeros-requires
emit_zeros-requires c = record { room = room-kept c.args.info c.args.n c.args.s.now _ c.requires.room (c.emit_run-2.auto.s ∙ c.emit_run.auto.s); m_bound = omega (arith, c.requires.ys_bound, width-le (length c.args.xs.now + length c.args.ys.now), c.width_of-w.ensures) }

pub returns : goal.returns
returns c =
    let a = c.args in
    let m = length a.xs.now + length a.ys.now in
    rows-laid a.info a.n a.k a.xs.now a.ys.now a.s.now _ _ _ c.emit_run.ensures c.emit_run-2.ensures
    (c.emit_zeros.ensures ∙ ap (λ (v : ℕ). laid a.info a.n (a.k + m) (replicate (v - m) 0) c.emit_run-2.new.s) c.width_of-w.ensures)
