-- `mean::nearest` meets its contract. Assumes nothing.
use mathlib.Core.Path.{sym, subst}
use Prim.Native.Nat.{ℕ, ◌+◌, ◌*◌, ◌/◌, ◌≤◌, ◌^◌}
use native.Mathlib.Nat.{le_trans}
use native.Mathlib.Omega.{arith}
use Rattle.mean.specs.Rounding.{nearest}
use Rattle.mean.proofs.Rounding.{near-zero, far, quotient_le, remainder-le, rounded-le}
use Rattle.mean.proofs.nearest.Goals as goal

pub returns-then-count-gt4503599627370496 : goal.returns-then-count-gt4503599627370496
returns-then-count-gt4503599627370496 c =
    let known : c.args.steps ≤ 2 ^ 53 = omega arith in
    let a = c.args in
    (sym (near-zero (a.steps * 100) (a.count * 1024) (far a.steps a.count (known) c.if-count-gt4503599627370496.true)), omega arith)

pub rounded-requires : goal.rounded-requires
rounded-requires c =
    let known : c.args.steps ≤ 2 ^ 53 = omega arith in
    let a = c.args in
    (quotient_le a.steps (a.count * 1024) (known), remainder-le a.steps (a.count * 1024) (known))

pub returns : goal.returns
unfolding nearest
returns c =
    let known : c.args.steps ≤ 2 ^ 53 = omega arith in
    let a = c.args in
    let q = a.steps * 100 / (a.count * 1024) in
    let l = quotient_le a.steps (a.count * 1024) (known) in
    (c.rounded.ensures, subst (λ (n : ℕ). n ≤ 2 ^ 61) (sym c.rounded.ensures) (le_trans (rounded-le q _ (a.count * 1024)) (more q l)))
  where
    more : (q : ℕ) → q ≤ 2 ^ 60 → q + 1 ≤ 2 ^ 61
    more q h = omega (arith, h)
