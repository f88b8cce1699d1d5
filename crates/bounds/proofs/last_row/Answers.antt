-- `bounds::last_row` meets its contract: a row that is none of the first 15 is the last. Assumes nothing.
use mathlib.Core.Path.{◌≡◌, subst}
use mathlib.Core.List.{[]}
use Prim.Native.Nat.{ℕ}
use native.Mathlib.Omega.{arith}
use lib.ListN.{get_or}
use Rattle.laws.proofs.NoneOf.{past}
use Rattle.bounds.specs.Table.{rows}
use Rattle.bounds.proofs.last_row.Goals as goal

pub returns : goal.returns
returns c = subst (λ (i : ℕ). c.row_15.result ≡ get_or (get_or rows i []) c.args.j 0) end c.row_15.ensures
  where
    end : 15 ≡ c.args.i
    end = omega (arith, past 15 c.args.i c.requires.none_of)
