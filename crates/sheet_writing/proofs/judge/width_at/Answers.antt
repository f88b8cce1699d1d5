-- `sheet_writing::judge::width_at` meets its contract. Assumes nothing.
use native.Mathlib.Omega.{arith}
use Rattle.sheet_writing.proofs.Steps.{width_few}
use Rattle.sheet_writing.proofs.judge.width_at.Goals as goal

pub overflow_add-result : goal.overflow_add-result
overflow_add-result c =
    omega (arith, c.width_of-2.ensures, c.width_of.ensures, width_few c.args.at c.args.e c.requires)

pub overflow_add-result-2 : goal.overflow_add-result-2
overflow_add-result-2 c =
    omega (arith, c.width_of-2.ensures, c.width_of.ensures, width_few c.args.at c.args.e c.requires)
