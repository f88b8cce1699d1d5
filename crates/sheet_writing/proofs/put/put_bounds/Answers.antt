-- `sheet_writing::put::put_bounds` meets its contract. Assumes nothing.
use mathlib.Core.Path.{ap, ◌∙◌}
use mathlib.Core.List.{map}
use Prim.Native.Nat.{ℕ, ◌+◌, ◌-◌}
use native.Mathlib.Omega.{arith}
use lib.ListN.{length, replicate, length-map}
use Rattle.floats.specs.Answers.{bits_of}
use Rattle.records.specs.Inner.{laid}
use Rattle.records.proofs.Padded.{room-kept, width-le}
use Rattle.sheet_writing.proofs.Putting.{run-laid}
use Rattle.sheet_writing.proofs.put.put_bounds.Goals as goal

pub width_of-w-requires : goal.width_of-w-requires
width_of-w-requires c =
    omega (arith, c.requires.room.few, c.requires.xs_bound, width-le (length c.args.xs.now))

pub emit_floats-requires : goal.emit_floats-requires
emit_floats-requires c = record { room = c.requires.room; xs_bound = omega (arith, c.requires.xs_bound, width-le (length c.args.xs.now)) }

pub overflow_sub-w : goal.overflow_sub-w
overflow_sub-w c =
    omega (arith, width-le (length c.args.xs.now), c.width_of-w.ensures)

pub emit_zeros-requires : goal.emit_zeros-requires
emit_zeros-requires c = record { room = room-kept c.args.info c.args.n c.args.s.now _ c.requires.room c.emit_floats.auto.s; m_bound = omega (arith, c.requires.xs_bound, width-le (length c.args.xs.now), c.width_of-w.ensures) }

pub returns : goal.returns
returns c =
    let a = c.args in
    let m = length a.xs.now in
    run-laid a.info a.n a.k m (map bits_of a.xs.now) a.s.now _ _ (length-map a.xs.now bits_of) c.emit_floats.ensures
    (c.emit_zeros.ensures ∙ ap (λ (v : ℕ). laid a.info a.n (a.k + m) (replicate (v - m) 0) c.emit_floats.new.s) c.width_of-w.ensures)
