-- `index::bin_from` meets its contract. Assumes nothing.
use mathlib.Core.Path.{◌≡◌, sym, ap, ◌∙◌}
use Prim.Native.Nat.{ℕ, ◌+◌, ◌-◌, ◌*◌, ◌/◌, ◌^◌, ◌≤◌}
use native.Mathlib.Omega.{arith}
use Rattle.index.specs.Bins.{finest, bin_at}
use Rattle.index.proofs.Laws.{coarser}
use Rattle.index.proofs.bin_from.Goals as goal

pub returns-then-level-le10 : goal.returns-then-level-le10
returns-then-level-le10 c =
    let w = c.args.mantissa * 2 ^ c.args.exponent in
    ap (λ (b : ℕ). b / 2 ^ (10 - c.args.level)) c.whole_bin.ensures
    ∙ sym (coarser c.args.level (10 - c.args.level) w (under c.args.level c.if-level-le10.true) ∙ ap (λ (n : ℕ). bin_at n w / 2 ^ (10 - c.args.level)) (ten c.args.level c.if-level-le10.true))
  where
    under : (level : ℕ) → level ≤ 10 → level + (10 - level) ≤ 20
    under level h = omega (arith, h)

    ten : (level : ℕ) → level ≤ 10 → level + (10 - level) ≡ 10
    ten level h = omega (arith, h)

pub returns : goal.returns
returns c = ap (λ (b : ℕ). b / 2 ^ (finest - c.args.level)) c.finest_bin.ensures
