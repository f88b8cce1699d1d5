-- `sheet_reading::frame::header_in` meets its contract. Assumes nothing.
use native.Mathlib.Omega.{arith}
use Rattle.sheet_reading.proofs.FrameLaws.{framed-long, framed-cell, header_is}
use Rattle.sheet_reading.proofs.frame.header_in.Goals as goal

pub info_in-info-requires : goal.info_in-info-requires
info_in-info-requires c = omega (arith, framed-long c.args.s.now c.requires)

pub cell-requires : goal.cell-requires
cell-requires c = framed-cell c.args.s.now 0 (omega arith) c.requires

pub cell-requires-2 : goal.cell-requires-2
cell-requires-2 c = framed-cell c.args.s.now 1 (omega arith) c.requires

pub returns : goal.returns
returns c =
    header_is c.args.s.now c.cell.result c.cell-2.result c.info_in-info.result c.requires c.cell.ensures c.cell-2.ensures
    c.info_in-info.ensures.0
