-- `sheet_reading::frame::shape_holds` meets its contract. Assumes nothing.
use Prim.Native.Nat.{◌%◌}
use mathlib.Core.Path.{◌≡◌}
use native.Mathlib.Omega.{arith}
use lib.ListN.{length}
use Rattle.sheet_reading.proofs.FrameLaws.{shape-odd, shape-none, shape-rest}
use Rattle.sheet_reading.proofs.frame.shape_holds.Goals as goal

pub returns-then-s-ne0 : goal.returns-then-s-ne0
returns-then-s-ne0 c = shape-odd c.args.s.now (λ e. omega arith)

pub returns-then-n-lt1 : goal.returns-then-n-lt1
returns-then-n-lt1 c =
    let e : length c.args.s.now % 32 ≡ 0 = omega (arith, c.if-s-ne0.false) in
    shape-none c.args.s.now e c.if-n-lt1.true

pub returns : goal.returns
returns c =
    let e : length c.args.s.now % 32 ≡ 0 = omega (arith, c.if-s-ne0.false) in
    shape-rest c.args.s.now e (omega (arith, c.if-n-lt1.false))
