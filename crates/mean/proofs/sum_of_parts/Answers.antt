-- `mean::sum_of_parts` meets its contract. Assumes nothing.
use mathlib.Core.Path.{sym, ◌∙◌}
use Prim.Native.Nat.{◌-◌, ◌<◌, ◌^◌}
use native.Mathlib.Omega.{arith}
use Rattle.mean.proofs.Sums.{parts-top, parts-over, parts-far, parts_low, parts_shift, shifted-whole, shifted_none}
use Rattle.mean.proofs.sum_of_parts.Goals as goal

pub returns-then-mantissa-eq4503599627370496 : goal.returns-then-mantissa-eq4503599627370496
returns-then-mantissa-eq4503599627370496 c =
    let a = c.args in
    sym (parts-top a.negative a.mantissa a.exponent c.if-exponent-eq2039.true c.if-mantissa-eq4503599627370496.true)

pub returns-then-exponent-eq2039 : goal.returns-then-exponent-eq2039
returns-then-exponent-eq2039 c =
    let a = c.args in
    sym (parts-over a.negative a.mantissa a.exponent c.if-exponent-eq2039.true c.if-mantissa-eq4503599627370496.false)

pub returns-then-exponent-gt2038 : goal.returns-then-exponent-gt2038
returns-then-exponent-gt2038 c =
    let a = c.args in
    sym (parts-far a.negative a.mantissa a.exponent c.if-exponent-gt2038.true c.if-exponent-eq2039.false)

pub returns-then-down-gt52 : goal.returns-then-down-gt52
returns-then-down-gt52 c =
    let a = c.args in
    sym (parts_low a.negative a.mantissa a.exponent (omega (arith, c.if-exponent-gt2038.false)) c.if-down-gt52.true)

pub returns-then-steps-down : goal.returns-then-steps-down
returns-then-steps-down c =
    let most : c.args.mantissa < 2 ^ 53 = omega arith in
    let a = c.args in
    sym (parts_shift a.negative a.mantissa a.exponent (omega (arith, c.if-exponent-gt2038.false)) (omega (arith, c.if-down-gt52.false))
    ∙ shifted-whole a.negative a.mantissa (2038 - a.exponent) (most) c.if-steps-down.true)

pub returns : goal.returns
returns c =
    let most : c.args.mantissa < 2 ^ 53 = omega arith in
    let a = c.args in
    sym (parts_shift a.negative a.mantissa a.exponent (omega (arith, c.if-exponent-gt2038.false)) (omega (arith, c.if-down-gt52.false))
    ∙ shifted_none a.negative a.mantissa (2038 - a.exponent) (most) c.if-steps-down.false)
