-- `sheet_reading::frame::points_in` meets its contract. Assumes nothing.
use native.Mathlib.Omega.{arith}
use Rattle.sheet_reading.proofs.FrameLaws.{framed-long}
use Rattle.sheet_reading.proofs.frame.points_in.Goals as goal

pub info_in-requires : goal.info_in-requires
info_in-requires c = omega (arith, framed-long c.args.s.now c.requires)
