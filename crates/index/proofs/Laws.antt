-- The laws of the bucket index that the crates above rely on. Assumes nothing.
use mathlib.Core.Path.{◌≡◌, refl, sym, ap, ◌∙◌, subst}
use mathlib.Core.Bool.{Bool, true, false}
use Prim.Native.Nat.{ℕ, zero, suc, ◌+◌, ◌-◌, ◌*◌, ◌/◌, ◌^◌, ◌≤◌, ◌<◌, suc-le-suc}
use native.Mathlib.Nat.{pow-le-pow_left, lt_of_lt_of_le, le_trans, le_of_eq, mul-le-mul, add-le-add, one-le-mul, mul_assoc, suc-mul}
use native.Mathlib.Omega.{arith}
use borrow.Author.Tests.{ltb-true, lt-ltb}
use lib.Dec.{T, ltb, lit<, lit≤}
use lib.Ieee.{Float, nan, inf, fin, neg, binary64, fits, of_bits, of_fields}
use lib.Ieee.Scale.{finite}
use lib.Pow.{pow-add, pow_pos, pow_mono, shr-shr, shr_mono, high, ones_lt}
use Rattle.laws.specs.Counting.{bit}
use Rattle.index.specs.Magnitude.{magnitude}
use Rattle.index.specs.Bins.{finest, how_many, finest_bin, bin_at, lowest_bin, end_bin}
use Rattle.index.proofs.Finest.{Held}
use Rattle.index.proofs.Ranks.{finest-from, ranked-last}
use Rattle.index.proofs.Floats.{splits}

-- ---- levels: coarser is division, and a larger magnitude has no smaller bin

pub coarser : (level k w : ℕ) → level + k ≤ finest → bin_at level w ≡ bin_at (level + k) w / 2 ^ k
coarser level k w h = ap (λ (n : ℕ). finest_bin w / 2 ^ n) (steps level k h) ∙ sym (shr-shr (finest_bin w) (finest - (level + k)) k)
  where
    steps : (level k : ℕ) → level + k ≤ 20 → 20 - level ≡ 20 - (level + k) + k
    steps level k h = omega (arith, h)

more : (p q : ℕ → Bool) → ((b : ℕ) → p b ≡ true → q b ≡ true) → (n : ℕ) → how_many p n ≤ how_many q n
unfolding how_many
more p q f zero = omega arith
more p q f (suc n) = add-le-add (one (p n) (q n) (f n)) (more p q f n)
  where
    one : (a b : Bool) → (a ≡ true → b ≡ true) → bit a ≤ bit b
    one true b g = subst (λ (c : Bool). 1 ≤ bit c) (sym (g refl)) (omega arith)
    one false b g = omega arith

pub larger-finest : (v w : ℕ) → v ≤ w → finest_bin v ≤ finest_bin w
unfolding finest_bin
larger-finest v w h =
    more (λ b. ltb (2 ^ (b + 1)) (v ^ 1024)) (λ b. ltb (2 ^ (b + 1)) (w ^ 1024))
    (λ b t. lt-ltb (2 ^ (b + 1)) (w ^ 1024) (lt_of_lt_of_le (ltb-true (2 ^ (b + 1)) (v ^ 1024) t) (pow-le-pow_left h 1024))) (3 * 2 ^ 20)

pub larger : (level v w : ℕ) → v ≤ w → bin_at level v ≤ bin_at level w
larger level v w h = shr_mono (finest - level) (larger-finest v w h)

-- ---- the ends: the bins of 2 ^ -1074 and of the greatest f64

-- their magnitudes
abbrev pub least : ℕ
least = 2 ^ 52 * 2 ^ 922

abbrev pub greatest : ℕ
greatest = (2 ^ 53 - 1) * 2 ^ 3019

pub least-is : magnitude (of_bits binary64 1) ≡ least
unfolding magnitude of_bits of_fields
least-is = refl

pub greatest-is : magnitude (of_bits binary64 0x7fef_ffff_ffff_ffff) ≡ greatest
unfolding magnitude of_bits of_fields
greatest-is = refl

pub lowest-is : (level : ℕ) → bin_at level least ≡ lowest_bin level
lowest-is level = ap (λ (b : ℕ). b / 2 ^ (finest - level)) (finest-from (2 ^ 52) 922 0 (lit≤ tt) (record { small = lit≤ tt; above = lit< tt; within = lit≤ tt }))

pub highest-is : (level : ℕ) → level ≤ finest → suc (bin_at level greatest) ≡ end_bin level
highest-is level h =
    ap (λ (b : ℕ). suc (b / 2 ^ (finest - level))) (finest-from (2 ^ 53 - 1) 3019 1024 (lit≤ tt) (record { small = lit≤ tt; above = lit< tt; within = ranked-last (2 ^ 53 - 1) (lit< tt) }))
    ∙ last level h
  where
    -- 3 * 2 ^ 20 - 1 is b * p + (p - 1), for b + 1 = 3 * 2 ^ level and p = 2 ^ (20 - level)
    whole : (b p : ℕ) → suc b * p ≡ 3145728 → 0 < p → 3145727 ≡ b * p + (p - 1)
    whole b p e g = rest (b * p) p (sym (suc-mul b p) ∙ e) g
      where
        rest : (b p : ℕ) → b + p ≡ 3145728 → 0 < p → 3145727 ≡ b + (p - 1)
        rest b p e g = omega (arith, e, g)

    back : (level : ℕ) → suc (3 * 2 ^ level - 1) ≡ 3 * 2 ^ level
    back level = one (3 * 2 ^ level) (one-le-mul (lit≤ tt) (pow_pos level))
      where
        one : (a : ℕ) → 0 < a → suc (a - 1) ≡ a
        one a h = omega (arith, h)

    product : (level : ℕ) → level ≤ 20 → 3 * 2 ^ level * 2 ^ (20 - level) ≡ 3145728
    product level h = mul_assoc 3 (2 ^ level) (2 ^ (20 - level)) ∙ ap (λ (n : ℕ). 3 * n) (sym (pow-add 2 level (20 - level)) ∙ ap (λ (n : ℕ). 2 ^ n) (sum level h))
      where
        sum : (level : ℕ) → level ≤ 20 → level + (20 - level) ≡ 20
        sum level h = omega (arith, h)

    last : (level : ℕ) → level ≤ finest → suc (3145727 / 2 ^ (finest - level)) ≡ 3 * 2 ^ level
    last level h =
        let d = finest - level in
        let b = 3 * 2 ^ level - 1 in
        ap (λ (n : ℕ). suc (n / 2 ^ d)) (whole b (2 ^ d) (ap (λ (n : ℕ). n * 2 ^ d) (back level) ∙ product level h) (pow_pos d))
        ∙ ap suc (high b d (ones_lt d))
        ∙ back level

-- the magnitude of a finite f64 that is not zero lies between them, so its bins do
pub in-range : (x : Float) → T (fits binary64 x) → finite x ≡ true → (magnitude x ≡ 0 → ⊥) → (least ≤ magnitude x) × (magnitude x ≤ greatest)
in-range x F f z =
    let r = splits x F f z in
    let s = r.3 in (
      le_trans (mul-le-mul s.least (pow_mono s.lowest)) (le_of_eq (sym s.value)),
      le_trans (le_of_eq s.value) (mul-le-mul (under r.1 s.most) (pow_mono s.highest)),
    )
  where
    under : (m : ℕ) → m < 2 ^ 53 → m ≤ 2 ^ 53 - 1
    under m h = omega (arith, h)

pub held : (x : Float) → T (fits binary64 x) → finite x ≡ true → (magnitude x ≡ 0 → ⊥) → Held (magnitude x)
held x F f z =
    let r = in-range x F f z in
    record { least = lt_of_lt_of_le (lit< tt) r.0; most = le_trans r.1 (lit≤ tt) }

pub bin-range : (level : ℕ) (x : Float) → level ≤ finest → T (fits binary64 x) → finite x ≡ true → (magnitude x ≡ 0 → ⊥)
    → (lowest_bin level ≤ bin_at level (magnitude x)) × (bin_at level (magnitude x) < end_bin level)
bin-range level x h F f z =
    let r = in-range x F f z in (
      le_trans (le_of_eq (sym (lowest-is level))) (larger level least (magnitude x) r.0),
      le_trans (suc-le-suc (larger level (magnitude x) greatest r.1)) (le_of_eq (highest-is level h)),
    )

-- ---- the sign plays no part in the bin

pub magnitude-neg : (x : Float) → magnitude (neg x) ≡ magnitude x
unfolding magnitude neg
magnitude-neg nan = refl
magnitude-neg (inf s) = refl
magnitude-neg (fin s m e) = refl
