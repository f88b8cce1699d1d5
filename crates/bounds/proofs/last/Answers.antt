-- `bounds::last` meets its contract: a column that is none of the first 63 is the last. Assumes nothing.
use mathlib.Core.Path.{◌≡◌, subst}
use mathlib.Core.List.{[]}
use Prim.Native.Nat.{ℕ}
use native.Mathlib.Omega.{arith}
use lib.ListN.{get_or}
use Rattle.laws.proofs.NoneOf.{past}
use Rattle.bounds.specs.Table.{rows}
use Rattle.bounds.proofs.last.Goals as goal

pub returns : goal.returns
returns c = subst (λ (j : ℕ). c.args.m ≡ get_or (get_or rows c.args.i []) j 0) end c.requires.m_value
  where
    end : 63 ≡ c.args.j
    end = omega (arith, past 63 c.args.j c.requires.none_of)
