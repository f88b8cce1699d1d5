-- `bounds::bound` meets its contract: the table's rule. Assumes nothing.
use mathlib.Core.Path.{◌≡◌, sym, ap, ◌∙◌, subst}
use mathlib.Core.List.{[]}
use Prim.Native.Nat.{ℕ, ◌/◌, ◌%◌, ◌<◌}
use native.Mathlib.Omega.{arith}
use lib.ListN.{get_or}
use Rattle.bounds.specs.Bounds.{BoundAt}
use Rattle.bounds.specs.Table.{rows}
use Rattle.bounds.proofs.Rule.{entry, bounded}
use Rattle.bounds.proofs.bound.Goals as goal

as-entry : (k r : ℕ) → k < 1024 → r ≡ get_or (get_or rows (k / 64 % 16) []) (k % 64) 0 → r ≡ entry k
unfolding entry
as-entry k r h e = e ∙ ap (λ (i : ℕ). get_or (get_or rows i []) (k % 64) 0) (same k h)
  where
    same : (k : ℕ) → k < 1024 → k / 64 % 16 ≡ k / 64
    same k h = omega (arith, h)

pub returns : goal.returns
returns c =
    subst (BoundAt c.args.k) (sym (as-entry c.args.k c.cell.result c.requires c.cell.ensures)) (bounded c.args.k c.requires)
