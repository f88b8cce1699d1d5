-- `sheet_writing::put::put_header` meets its contract. Assumes nothing.
use native.Mathlib.Omega.{arith}
use Rattle.records.proofs.Laid.{place-room}
use Rattle.records.proofs.Padded.{header-laid}
use Rattle.sheet_writing.proofs.put.put_header.Goals as goal

pub emit-requires : goal.emit-requires
emit-requires c =
    (c.requires.room.small, omega arith, place-room 0 c.args.n _ (omega (arith, c.requires.n_nonzero)) c.requires.room.long)

pub emit-requires-2 : goal.emit-requires-2
emit-requires-2 c =
    (c.requires.room.small, omega arith, place-room 1 c.args.n _ (omega (arith, c.requires.n_nonzero)) (omega (arith, c.requires.room.long, c.emit.auto.s)))

pub emit-requires-3 : goal.emit-requires-3
emit-requires-3 c = (
  c.requires.room.small,
  omega arith,
  place-room 2 c.args.n _ (omega (arith, c.requires.n_nonzero)) (omega (arith, c.requires.room.long, c.emit-2.auto.s, c.emit.auto.s)),
)

pub returns : goal.returns
returns c =
    let a = c.args in
    header-laid a.info a.n a.h.start a.h.time a.s.now _ _ _ c.emit.ensures c.emit-2.ensures c.emit-3.ensures
