-- `lines::input::first_of` meets its contract. Assumes nothing.
use Prim.Native.Nat.{ℕ, ◌-◌}
use mathlib.Core.Path.{◌≡◌, sym, ap}
use mathlib.Core.List.{List}
use native.Mathlib.Omega.{arith}
use lib.ListN.{take, drop}
use lib.Seq.{take_all}
use borrow.Author.Rules.{rules}
use Rattle.lines.proofs.input.first_of.Goals as goal

-- a part from 0 on
from-0 : (n : ℕ) (xs : List ℕ) → take (n - 0) (drop 0 xs) ≡ take n xs
from-0 n xs =
    let z : n - 0 ≡ n = omega arith in
    ap (λ (k : ℕ). take k xs) z

pub returns-then-n-bytes : goal.returns-then-n-bytes
returns-then-n-bytes c = from-0 c.args.n c.args.bytes.now

pub returns : goal.returns
returns c = sym (take_all c.args.n c.args.bytes.now (search rules))
