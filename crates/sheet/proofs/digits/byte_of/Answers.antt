-- `sheet::digits::byte_of` meets its contract. Assumes nothing.
use native.Mathlib.Omega.{arith}
use Rattle.sheet.proofs.digits.byte_of.Goals as goal

pub overflow_mul-result : goal.overflow_mul-result
overflow_mul-result c = omega (arith, c.digit.ensures)

pub overflow_add-result : goal.overflow_add-result
overflow_add-result c = omega (arith, c.digit.ensures, c.digit-2.ensures)

pub returns : goal.returns
returns c = omega (arith, c.digit.ensures, c.digit-2.ensures)
