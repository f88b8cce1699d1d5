use mathlib.Core.Path.{◌∙◌}
use Prim.Native.Nat.{◌^◌}
use native.Mathlib.Nat.{one-mul}
use native.Mathlib.Omega.{arith}
use lib.Pow.{shl_exact}
use Rattle.rows.proofs.walk.width_of.Goals as goal

pub returns : goal.returns
returns c = shl_exact {a = 1} 1 c.args.delta 64 (omega arith) (omega (arith, c)) ∙ one-mul (2 ^ c.args.delta)
