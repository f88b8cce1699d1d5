-- `index::whole_bin` meets its contract. Assumes nothing.
use mathlib.Core.Path.{◌≡◌, sym, ap, ◌∙◌}
use Prim.Native.Nat.{ℕ, ◌*◌, ◌^◌, ◌≤◌, ◌<◌}
use native.Mathlib.Omega.{arith}
use Rattle.index.specs.Bins.{bin_at}
use Rattle.index.proofs.Whole.{whole-power, whole-other}
use Rattle.index.proofs.whole_bin.Goals as goal

pub returns-then-mantissa-eq4503599627370496 : goal.returns-then-mantissa-eq4503599627370496
returns-then-mantissa-eq4503599627370496 c =
    sym (ap (λ (m : ℕ). bin_at 10 (m * 2 ^ c.args.exponent)) c.if-mantissa-eq4503599627370496.true ∙ whole-power c.args.exponent c.requires.3)

pub returns : goal.returns
returns c =
    sym (whole-other c.args.mantissa c.args.exponent (above c.args.mantissa c.requires.0 c.if-mantissa-eq4503599627370496.false) c.requires.1 c.requires.3)
  where
    above : (m : ℕ) → 2 ^ 52 ≤ m → (m ≡ 4503599627370496 → ⊥) → 2 ^ 52 < m
    above m h n = omega (arith, h, n)
