-- `gauge_lines::fields::with_sign` meets its contract. Assumes nothing.
use Prim.Native.Nat.{ℕ, ◌%◌, ◌≤◌}
use mathlib.Core.Path.{◌≡◌, sym, ap, ◌∙◌}
use native.Mathlib.Omega.{arith}
use lib.Dec.{lit<}
use lib.IntN.{pos, ◌-ℤ◌}
use mir.Syntax.{w32}
use mir.ValLaws.{to_z_pos}
use Rattle.laws.proofs.Bools.{pick_true, pick-false}
use Rattle.index.proofs.Casts.{difference-fits, difference-is}
use Rattle.gauge_lines.specs.Lines.{with_sign}
use Rattle.gauge_lines.proofs.fields.with_sign.Goals as goal

same : (n : ℕ) → n ≤ 999 → n % 1000 ≡ n
same n h = omega arith

pub overflow_sub-result : goal.overflow_sub-result
overflow_sub-result c = difference-fits 0 (c.args.size % 1000) (lit< tt) (omega arith)

pub returns-then-negative : goal.returns-then-negative
unfolding with_sign
returns-then-negative c =
    difference-is 0 (c.args.size % 1000) (lit< tt) (omega arith) ∙ ap (λ (k : ℕ). pos 0 -ℤ pos k) (same c.args.size c.requires)
    ∙ sym (pick_true _ _ _ c.if-negative.true)

pub returns-else-negative : goal.returns-else-negative
unfolding with_sign
returns-else-negative c =
    to_z_pos w32 (c.args.size % 1000) (omega arith) ∙ ap pos (same c.args.size c.requires) ∙ sym (pick-false _ _ _ c.if-negative.false)
