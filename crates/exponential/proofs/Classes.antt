-- What is counted of a value, at the finest level and at a series' own. Assumes nothing.
use Rattle.std.proofs.Common.{◌≡◌, ℕ, zero, suc, ◌+◌, ◌-◌, ◌*◌, ◌/◌, ◌^◌, ◌<◌, ◌≤◌, Bool, true, false, T, eqb, leb, sym, refl, ap, ◌∙◌, subst, mul_assoc, div-lt_iff_lt-mul, div-one, arith, pow_pos, pow-add, ne_eqb, le-leb}
use lib.Ieee.{Float, binary64, fits, of_bits}
use lib.Ieee.Scale.{finite}
use borrow.Author.Tests.{lt-leb, eqb-false}
use Rattle.laws.specs.Pick.{pick}
use Rattle.floats.specs.Starts.{zero_float}
use Rattle.points.specs.Points.{naught, plus, minus, Value}
use Rattle.points.specs.Values.{class_of}
use Rattle.points.proofs.Kept.{ValueIn}
use Rattle.index.specs.Magnitude.{magnitude, is_negative}
use Rattle.index.specs.Bins.{finest, finest_bin, end_bin}
use Rattle.index.specs.Answers.{bin_of}
use Rattle.index.specs.declared.Bin.TheVariants.{Zero, At as BinAt}
use Rattle.index.proofs.Laws.{bin-range}
use Rattle.exponential.specs.Series.{lowest_of_all}
use Rattle.exponential.specs.Inner.{class_at, value_of, Within}

-- a value d levels lower
abbrev pub coarse : ℕ → Value → Value
coarse d naught = naught
coarse d (plus i) = plus (i / 2 ^ d)
coarse d (minus i) = minus (i / 2 ^ d)

-- what the index answers at a level is the value's class there
by_sign : (d i : ℕ) (negative : Bool) → value_of (class_at (BinAt negative (i / 2 ^ d))) ≡ coarse d (pick negative (minus i) (plus i))
unfolding pick
by_sign d i true = refl
by_sign d i false = refl

by_zero : (z : Bool) (d i : ℕ) (negative : Bool)
    → value_of (class_at (pick z Zero (BinAt negative (i / 2 ^ d)))) ≡ coarse d (pick z naught (pick negative (minus i) (plus i)))
unfolding pick
by_zero true d i negative = refl
by_zero false d i negative = by_sign d i negative

-- zero is the threshold
zero-magnitude : magnitude zero_float ≡ 0
unfolding magnitude of_bits
zero-magnitude = refl

leb-zero : (n : ℕ) → leb n 0 ≡ eqb n 0
leb-zero zero = refl
leb-zero (suc n) = lt-leb (suc n) 0 (omega arith) ∙ sym (ne_eqb (suc n) 0 (omega arith))

class-of : (v : Float) → class_of zero_float v ≡ pick (eqb (magnitude v) 0) naught (pick (is_negative v) (minus (finest_bin (magnitude v))) (plus (finest_bin (magnitude v))))
unfolding class_of
class-of v = rw (zero-magnitude, leb-zero (magnitude v)) refl

pub class-is : (v : Float) (level : ℕ) → level ≤ finest → finite v ≡ true → value_of (class_at (bin_of v level)) ≡ coarse (finest - level) (class_of zero_float v)
unfolding bin_of pick
class-is v level h f =
    rw (le-leb level finest h, f) (by_zero (eqb (magnitude v) 0) (finest - level) (finest_bin (magnitude v)) (is_negative v))
    ∙ ap (coarse (finest - level)) (sym (class-of v))

-- ---- the bins of values

-- a bin of the finest level
finest-range : (v : Float) → fits binary64 v ≡ true → finite v ≡ true → (magnitude v ≡ 0 → ⊥) → (lowest_of_all ≤ finest_bin (magnitude v)) × (finest_bin (magnitude v) < end_bin finest)
finest-range v g h z = rw (div-one (finest_bin (magnitude v))) at (bin-range finest v (omega arith) (subst T (sym g) tt) h z)

ranged_in : (z negative : Bool) (i : ℕ) → (z ≡ false → (lowest_of_all ≤ i) × (i < end_bin finest)) → ValueIn lowest_of_all (pick z naught (pick negative (minus i) (plus i)))
unfolding pick
ranged_in true negative i h = tt
ranged_in false true i h = h refl
ranged_in false false i h = h refl

pub ranged-of : (v : Float) → fits binary64 v ≡ true → finite v ≡ true → ValueIn lowest_of_all (class_of zero_float v)
ranged-of v g h =
    subst (ValueIn lowest_of_all) (sym (class-of v))
    (ranged_in (eqb (magnitude v) 0) (is_negative v) (finest_bin (magnitude v)) (λ z. finest-range v g h (eqb-false (magnitude v) 0 z)))

-- lower levels have lower ends
pub end-at : (level i : ℕ) → level ≤ finest → i < end_bin finest → i / 2 ^ (finest - level) < end_bin level
end-at level i h t =
    let q : level + (finest - level) ≡ finest = omega arith in
    let e : end_bin level * 2 ^ (finest - level) ≡ end_bin finest = mul_assoc 3 (2 ^ level) (2 ^ (finest - level)) ∙ ap (λ n. 3 * n) (sym (pow-add 2 level (finest - level)) ∙ ap (λ n. 2 ^ n) q) in
    (div-lt_iff_lt-mul (pow_pos (finest - level))).1 (subst (λ (n : ℕ). i < n) (sym e) t)

within_in : (z negative : Bool) (b level : ℕ) → (z ≡ false → b < end_bin level) → Within level (class_at (pick z Zero (BinAt negative b)))
unfolding pick
within_in true negative b level h = tt
within_in false negative b level h = h refl

pub within_of : (v : Float) (level : ℕ) → level ≤ finest → fits binary64 v ≡ true → finite v ≡ true → Within level (class_at (bin_of v level))
unfolding bin_of pick
within_of v level h g f =
    rw (le-leb level finest h, f)
    (within_in (eqb (magnitude v) 0) (is_negative v) (finest_bin (magnitude v) / 2 ^ (finest - level)) level
    (λ z. end-at level (finest_bin (magnitude v)) h (finest-range v g f (eqb-false (magnitude v) 0 z)).1))
