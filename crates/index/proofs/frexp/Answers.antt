-- `index::frexp` meets its contract: `proofs/Floats.antt` says what the fields of the bit pattern are. Assumes nothing.
use mathlib.Core.Path.{sym, ap, ◌∙◌, subst}
use Prim.Native.Nat.{ℕ, ◌%◌, ◌<◌, ◌≤◌, ◌^◌, ◌-◌, ◌*◌}
use native.Mathlib.Nat.{mod-lt, zero-mul}
use native.Mathlib.Omega.{arith}
use lib.Dec.{T}
use lib.Pow.{pow_pos}
use lib.Ieee.{binary64, fits, to_bits}
use lib.Ieee.Compare.{differs_from_itself}
use lib.Count.{count_leading_zeros}
use borrow.Author.Rules.{rules}
use lib.Ieee.Scale.{finite}
use Rattle.index.proofs.Floats.{not-nan, not_finite, subnormal, normal, normalised, Shifted, from-shifted}
use Rattle.index.proofs.frexp.Goals as goal

pub returns-then-x : goal.returns-then-x
returns-then-x c = ap finite (differs_from_itself c.args.x (subst T (sym c.if-x.true) tt))

pub float_to_bits-bits : goal.float_to_bits-bits
float_to_bits-bits c = not-nan c.args.x c.if-x.false

pub returns-then-field-eq2047 : goal.returns-then-field-eq2047
returns-then-field-eq2047 c =
    let held : T (fits binary64 c.args.x) = subst T (sym c.well_formed.0.1) tt in
    not_finite c.args.x (held) c.if-field-eq2047.true

pub returns-then-digits-eq0 : goal.returns-then-digits-eq0
returns-then-digits-eq0 c =
    let held : T (fits binary64 c.args.x) = subst T (sym c.well_formed.0.1) tt in
    let i = subnormal c.args.x (held) c.if-field-eq0.true in
    (i.finite, i.size ∙ ap (λ (k : ℕ). k * 2 ^ 974) c.if-digits-eq0.true ∙ zero-mul (2 ^ 974))

pub overflow_sub-up : goal.overflow_sub-up
overflow_sub-up c =
    let digits : ℕ = to_bits binary64 c.args.x % 2 ^ 52 in
    let digits_lt : digits < 2 ^ 52 = mod-lt (to_bits binary64 c.args.x) (pow_pos 52) in
    let shift : (12 ≤ count_leading_zeros 64 (digits)) × Shifted (digits) (count_leading_zeros 64 (digits) - 11) = normalised (digits) (search rules) (digits_lt) in
    omega (arith, (shift).0)

pub overflow_cast-mantissa : goal.overflow_cast-mantissa
overflow_cast-mantissa c =
    let digits : ℕ = to_bits binary64 c.args.x % 2 ^ 52 in
    let digits_lt : digits < 2 ^ 52 = mod-lt (to_bits binary64 c.args.x) (pow_pos 52) in
    let shift : (12 ≤ count_leading_zeros 64 (digits)) × Shifted (digits) (count_leading_zeros 64 (digits) - 11) = normalised (digits) (search rules) (digits_lt) in
    record { fits = omega (arith, (shift).1.by) }

pub overflow_shl-mantissa : goal.overflow_shl-mantissa
overflow_shl-mantissa c =
    let digits : ℕ = to_bits binary64 c.args.x % 2 ^ 52 in
    let digits_lt : digits < 2 ^ 52 = mod-lt (to_bits binary64 c.args.x) (pow_pos 52) in
    let shift : (12 ≤ count_leading_zeros 64 (digits)) × Shifted (digits) (count_leading_zeros 64 (digits) - 11) = normalised (digits) (search rules) (digits_lt) in
    omega (arith, (shift).1.by)

pub overflow_sub-exponent : goal.overflow_sub-exponent
overflow_sub-exponent c =
    let digits : ℕ = to_bits binary64 c.args.x % 2 ^ 52 in
    let digits_lt : digits < 2 ^ 52 = mod-lt (to_bits binary64 c.args.x) (pow_pos 52) in
    let shift : (12 ≤ count_leading_zeros 64 (digits)) × Shifted (digits) (count_leading_zeros 64 (digits) - 11) = normalised (digits) (search rules) (digits_lt) in
    omega (arith, (shift).1.by)

pub returns-then-field-eq0 : goal.returns-then-field-eq0
returns-then-field-eq0 c =
    let held : T (fits binary64 c.args.x) = subst T (sym c.well_formed.0.1) tt in
    let digits : ℕ = to_bits binary64 c.args.x % 2 ^ 52 in
    let digits_lt : digits < 2 ^ 52 = mod-lt (to_bits binary64 c.args.x) (pow_pos 52) in
    let shift : (12 ≤ count_leading_zeros 64 (digits)) × Shifted (digits) (count_leading_zeros 64 (digits) - 11) = normalised (digits) (search rules) (digits_lt) in
    let i = subnormal c.args.x (held) c.if-field-eq0.true in
    rw c.wide-exponent.ensures (from-shifted c.args.x _ (digits) _ i (shift).1)

pub returns : goal.returns
returns c =
    let held : T (fits binary64 c.args.x) = subst T (sym c.well_formed.0.1) tt in
    let digits : ℕ = to_bits binary64 c.args.x % 2 ^ 52 in
    let digits_lt : digits < 2 ^ 52 = mod-lt (to_bits binary64 c.args.x) (pow_pos 52) in
    let i = normal c.args.x (held) c.if-field-eq2047.false c.if-field-eq0.false in
    record {
      finite = i.finite;
      sign = i.sign;
      value = i.size;
      least = omega arith;
      most = omega (arith, digits_lt);
      lowest = omega arith;
      highest = omega arith;
    }
