-- `index::guess::guess` meets its contract: the guess of the laws, whose product fits. Assumes nothing.
use mathlib.Core.Path.{subst}
use Prim.Native.Nat.{ℕ, ◌-◌, ◌*◌, ◌/◌, ◌%◌, ◌≤◌}
use native.Mathlib.Nat.{mul-le-mul}
use native.Mathlib.Omega.{arith}
use Rattle.index.specs.Ranked.{Near}
use Rattle.index.proofs.Chords.{near, as-guessed}
use Rattle.index.proofs.guess.guess.Goals as goal

term : (r f : ℕ) → r % 4294967296 * (f % 4294967296) ≤ 18446744065119617025
term r f = mul-le-mul {n₁ = r % 4294967296} {m₁ = f % 4294967296} {n₂ = 4294967295} {m₂ = 4294967295} (omega arith) (omega arith)

pub overflow_mul-result : goal.overflow_mul-result
overflow_mul-result c = omega (arith, term c.piece-piece.result ((c.args.m - 4503599627370496) / 16384))

pub overflow_add-result : goal.overflow_add-result
overflow_add-result c = omega (arith, term c.piece-piece.result ((c.args.m - 4503599627370496) / 16384))

pub returns : goal.returns
returns c =
    subst (Near c.args.m) (as-guessed c.args.m c.piece-piece.result c.requires.1 c.piece-piece.ensures) (near c.args.m c.requires.0 c.requires.1)
