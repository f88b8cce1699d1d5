-- `sheet_reading::judge::words_in` meets its contract. Assumes nothing.
use Prim.Native.Nat.{◌+◌}
use native.Mathlib.Omega.{arith}
use Rattle.sheet_reading.proofs.SizeLaws.{width-most}
use Rattle.sheet_reading.proofs.judge.words_in.Goals as goal

pub overflow_add-result : goal.overflow_add-result
overflow_add-result c =
    omega (arith, c.width_of.ensures, c.width_of-2.ensures, width-most c.args.z.bounds, width-most (c.args.z.pos + c.args.z.neg), c.requires.bounds, c.requires.pos, c.requires.neg)

pub overflow_add-result-2 : goal.overflow_add-result-2
overflow_add-result-2 c =
    omega (arith, c.width_of.ensures, c.width_of-2.ensures, width-most c.args.z.bounds, width-most (c.args.z.pos + c.args.z.neg), c.requires.bounds, c.requires.pos, c.requires.neg)
