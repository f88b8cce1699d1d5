-- What the fields of an f64's bit pattern say of its size in units of 2 ^ -2048. Assumes nothing.
use mathlib.Core.Path.{◌≡◌, refl, sym, ap, ◌∙◌, subst}
use mathlib.Core.Bool.{Bool, true, false, not}
use Prim.Native.Nat.{ℕ, zero, suc, ◌+◌, ◌-◌, ◌*◌, ◌/◌, ◌%◌, ◌^◌, ◌≤◌, ◌<◌}
use native.Mathlib.Nat.{mod-lt, zero-mul, mul_assoc, mul_right_comm, mul-div_cancel, mod-eq_of_lt, lt_of_lt_of_le, lt_of_le_of_lt, le_trans, le_of_eq, mul-le-mul_right, mul-lt-mul_of_pos_right, add_comm}
use lib.Count.{count_leading_zeros, leading_top}
use native.Mathlib.Omega.{arith}
use borrow.Author.Tests.{eqb-true, eqb-false, ne_eqb}
use lib.Dec.{T, leb, eqb, lit≤}
use lib.Pow.{pow-add, field, pow_pos}
use lib.Ieee.{Float, nan, inf, fin, binary64, up, down, odd, fits, of_fields, of_bits, to_bits, is_nan, ne}
use lib.Ieee.Fits.{down_pos}
use lib.Ieee.Bits.{of_bits-to_bits}
use lib.Ieee.Exact.{HasValue, odd_sign}
use lib.Ieee.Scale.{finite}
use Rattle.laws.proofs.Powers.{pow_lt_back}
use Rattle.index.specs.Magnitude.{magnitude, is_negative}
use Rattle.index.specs.Frexp.{Split}

-- x is finite, has the sign s, and is a units of 2 ^ -2048 in size
pub record Is (x : Float) (s : Bool) (a : ℕ) : Type 0 where
  pub finite : finite x ≡ true
  pub sign : is_negative x ≡ s
  pub size : magnitude x ≡ a

-- a units of 2 ^ -1074 are a * 2 ^ 974 of 2 ^ -2048
pub in_units_lem : (x : Float) (s : Bool) (a : ℕ) → HasValue x s a (2 ^ 1074) → Is x s (a * 2 ^ 974)
unfolding magnitude
in_units_lem nan s a h = absurd h
in_units_lem (inf t) s a h = absurd h
in_units_lem (fin t m e) s a h = record {
  finite = refl;
  sign = h.0;
  size =
      ap (λ (k : ℕ). k / down e)
      (ap (λ (k : ℕ). m * up e * k) (pow-add 2 1074 974)
      ∙ sym (mul_assoc (m * up e) (2 ^ 1074) (2 ^ 974))
      ∙ ap (λ (k : ℕ). k * 2 ^ 974) h.1
      ∙ mul_right_comm a (down e) (2 ^ 974))
      ∙ mul-div_cancel (a * 2 ^ 974) (down_pos e);
}

of_bits_is : (b : ℕ) → of_bits binary64 b ≡ of_fields binary64 (leb (2 ^ 63) b) (b % 2 ^ 63 / 2 ^ 52) (b % 2 ^ 52)
unfolding of_bits
of_bits_is b = refl

-- the pattern's fields are read as x
pub as_fields : (x : Float) → T (fits binary64 x) → x ≡ of_fields binary64 (leb (2 ^ 63) (to_bits binary64 x)) (to_bits binary64 x / 2 ^ 52 % 2 ^ 11) (to_bits binary64 x % 2 ^ 52)
as_fields x F = sym (of_bits-to_bits binary64 x F) ∙ of_bits_is (to_bits binary64 x) ∙ ap (λ (k : ℕ). of_fields binary64 (leb (2 ^ 63) (to_bits binary64 x)) k (to_bits binary64 x % 2 ^ 52)) (field (to_bits binary64 x) 11 52)

-- a field of all ones is an infinity's or a NaN's
pub at_top : (s : Bool) (t : ℕ) → finite (of_fields binary64 s 2047 t) ≡ false
unfolding of_fields
at_top s t = go (eqb t 0) refl
  where
    go : (b : Bool) → eqb t 0 ≡ b → finite (of_fields binary64 s 2047 t) ≡ false
    go true e = rw e
    go false e = rw e

pub at_bottom : (s : Bool) (t : ℕ) → Is (of_fields binary64 s 0 t) s (t * 2 ^ 974)
unfolding of_fields
at_bottom s t = subst (λ (k : ℕ). Is (of_fields binary64 s 0 t) s (k * 2 ^ 974)) (one t) (in_units_lem (odd 53 s t 0 1074) s (t * 2 ^ 0) (odd_sign 53 s t 0 1074))
  where
    one : (t : ℕ) → t * 1 ≡ t
    one t = omega arith

between : (s : Bool) (j t : ℕ) → (suc j ≡ 2047 → ⊥) → Is (of_fields binary64 s (suc j) t) s ((2 ^ 52 + t) * 2 ^ (j + 974))
unfolding of_fields
between s j t h =
    subst (λ (k : ℕ). Is (of_fields binary64 s (suc j) t) s k) (mul_assoc (2 ^ 52 + t) (2 ^ j) (2 ^ 974) ∙ ap (λ (k : ℕ). (2 ^ 52 + t) * k) (sym (pow-add 2 j 974)))
    (rw (ne_eqb (suc j) 2047 h) (in_units_lem (odd 53 s (2 ^ 52 + t) j 1074) s ((2 ^ 52 + t) * 2 ^ j) (odd_sign 53 s (2 ^ 52 + t) j 1074)))

-- ---- a subnormal's digits, shifted up until they are 53

-- t * 2 ^ u has 53 digits
pub record Shifted (t u : ℕ) : Type 0 where
  pub by : u ≤ 52
  pub least : 2 ^ 52 ≤ t * 2 ^ u
  pub most : t * 2 ^ u < 2 ^ 53
  pub kept : t * 2 ^ u % 2 ^ 64 ≡ t * 2 ^ u
  pub value : t * 2 ^ 974 ≡ t * 2 ^ u * 2 ^ (974 - u)

shifted : (t j u : ℕ) → j + u ≡ 52 → 2 ^ j ≤ t → t < 2 ^ suc j → Shifted t u
shifted t j u e l h =
    let hi : t * 2 ^ u < 2 ^ 53 =
    lt_of_lt_of_le (mul-lt-mul_of_pos_right h (pow_pos u)) (le_of_eq (sym (pow-add 2 (suc j) u) ∙ ap (λ (k : ℕ). 2 ^ k) (more j u e))) in
    let w : 2 ^ 53 ≤ 2 ^ 64 = lit≤ tt in
    record {
      by = small j u e;
      least = le_trans (le_of_eq (ap (λ (k : ℕ). 2 ^ k) (sym e) ∙ pow-add 2 j u)) (mul-le-mul_right (2 ^ u) l);
      most = hi;
      kept = mod-eq_of_lt (lt_of_lt_of_le hi w);
      value = ap (λ (k : ℕ). t * 2 ^ k) (back j u e) ∙ ap (λ (k : ℕ). t * k) (pow-add 2 u (974 - u)) ∙ sym (mul_assoc t (2 ^ u) (2 ^ (974 - u)));
    }
  where
    small : (j u : ℕ) → j + u ≡ 52 → u ≤ 52
    small j u e = omega arith

    more : (j u : ℕ) → j + u ≡ 52 → suc j + u ≡ 53
    more j u e = omega arith

    back : (j u : ℕ) → j + u ≡ 52 → 974 ≡ u + (974 - u)
    back j u e = omega arith

pub normalised : (t : ℕ) → 0 < t → t < 2 ^ 52 → (12 ≤ count_leading_zeros 64 t) × Shifted t (count_leading_zeros 64 t - 11)
normalised t p h =
    let w : 2 ^ 52 ≤ 2 ^ 64 = lit≤ tt in
    go (count_leading_zeros 64 t) (leading_top 64 t p (lt_of_lt_of_le h w))
  where
    stores_suffice : (z j : ℕ) → z + suc j ≡ 64 → j < 52 → 12 ≤ z
    stores_suffice z j e g = omega arith

    sum : (z j : ℕ) → z + suc j ≡ 64 → j < 52 → j + (z - 11) ≡ 52
    sum z j e g = omega arith

    go : (z : ℕ) → ((j : ℕ) × (z + suc j ≡ 64) × (2 ^ j ≤ t) × (t < 2 ^ suc j)) → (12 ≤ z) × Shifted t (z - 11)
    go z r =
        let j = r.0 in
        let g : j < 52 = pow_lt_back j 52 (lt_of_le_of_lt r.2 h) in
        (stores_suffice z j r.1 g, shifted t j (z - 11) (sum z j r.1 g) r.2 r.3)

-- ---- what the code's tests of a pattern's fields tell

pub not-nan : (x : Float) → ne x x ≡ false → T (not (is_nan x))
unfolding ne is_nan
not-nan nan h = absurd (subst T h tt)
not-nan (inf s) h = tt
not-nan (fin s m e) h = tt

module _ (x : Float) (F : T (fits binary64 x)) where
  abbrev s : Bool
  s = leb (2 ^ 63) (to_bits binary64 x)

  abbrev f : ℕ
  f = to_bits binary64 x / 2 ^ 52 % 2 ^ 11

  abbrev t : ℕ
  t = to_bits binary64 x % 2 ^ 52

  pub not_finite : f ≡ 2047 → finite x ≡ false
  not_finite h = ap finite (as_fields x F ∙ ap (λ (k : ℕ). of_fields binary64 s k t) h) ∙ at_top s t

  pub subnormal : f ≡ 0 → Is x s (t * 2 ^ 974)
  subnormal h = subst (λ (k : Float). Is k s (t * 2 ^ 974)) (sym (as_fields x F ∙ ap (λ (k : ℕ). of_fields binary64 s k t) h)) (at_bottom s t)

  pub normal : (f ≡ 2047 → ⊥) → (f ≡ 0 → ⊥) → Is x s ((t + 2 ^ 52) * 2 ^ (f + 973))
  normal g h = subst (λ (k : Float). Is k s ((t + 2 ^ 52) * 2 ^ (f + 973))) (sym (as_fields x F)) (go f g h)
    where
      next : (j : ℕ) → j + 974 ≡ suc j + 973
      next j = omega arith

      go : (f : ℕ) → (f ≡ 2047 → ⊥) → (f ≡ 0 → ⊥) → Is (of_fields binary64 s f t) s ((t + 2 ^ 52) * 2 ^ (f + 973))
      go zero g h = absurd (h refl)
      go (suc j) g h =
          subst (λ (k : ℕ). Is (of_fields binary64 s (suc j) t) s (k * 2 ^ (suc j + 973))) (add_comm (2 ^ 52) t)
          (subst (λ (k : ℕ). Is (of_fields binary64 s (suc j) t) s ((2 ^ 52 + t) * 2 ^ k)) (next j)
          (between s j t g))

pub from-shifted : (x : Float) (s : Bool) (t u : ℕ) → Is x s (t * 2 ^ 974) → Shifted t u → Split x s (t * 2 ^ u % 2 ^ 64) (974 - u)
from-shifted x s t u i h =
    subst (λ (k : ℕ). Split x s k (974 - u)) (sym h.kept)
    (record {
      finite = i.finite;
      sign = i.sign;
      value = i.size ∙ h.value;
      least = h.least;
      most = h.most;
      lowest = lowest u h.by;
      highest = highest u;
    })
  where
    lowest : (u : ℕ) → u ≤ 52 → 922 ≤ 974 - u
    lowest u h = omega arith

    highest : (u : ℕ) → 974 - u ≤ 3019
    highest u = omega arith

-- ---- `magnitude` is exact: a finite f64 is a whole number of units of 2 ^ -2048

exact-at : (x : Float) (s : Bool) (a : ℕ) → HasValue x s a (2 ^ 1074) → HasValue x s (magnitude x) (2 ^ 2048)
exact-at nan s a h = absurd h
exact-at (inf t) s a h = absurd h
exact-at (fin t m e) s a h = (
  h.0,
  ap (λ (k : ℕ). m * up e * k) (pow-add 2 1074 974)
      ∙ sym (mul_assoc (m * up e) (2 ^ 1074) (2 ^ 974))
      ∙ ap (λ (k : ℕ). k * 2 ^ 974) h.1
      ∙ mul_right_comm a (down e) (2 ^ 974)
      ∙ ap (λ (k : ℕ). k * down e) (sym (in_units_lem (fin t m e) s a h).size),
)

exact-fields : (s : Bool) (f t : ℕ) → finite (of_fields binary64 s f t) ≡ true → (a : ℕ) × HasValue (of_fields binary64 s f t) s a (2 ^ 1074)
unfolding of_fields
exact-fields s zero t h = (t * 2 ^ 0, odd_sign 53 s t 0 1074)
exact-fields s (suc j) t h = go (eqb (suc j) 2047) (eqb t 0) refl refl
  where
    go : (p q : Bool) → eqb (suc j) 2047 ≡ p → eqb t 0 ≡ q → (a : ℕ) × HasValue (of_fields binary64 s (suc j) t) s a (2 ^ 1074)
    go true true e d = absurd (subst T (sym (rw (e, d) at h)) tt)
    go true false e d = absurd (subst T (sym (rw (e, d) at h)) tt)
    go false q e d = rw e ((2 ^ 52 + t) * 2 ^ j, odd_sign 53 s (2 ^ 52 + t) j 1074)

pub exact : (x : Float) (F : T (fits binary64 x)) → finite x ≡ true → HasValue x (s x F) (magnitude x) (2 ^ 2048)
exact x F h =
    let r = exact-fields (s x F) (f x F) (t x F) (subst (λ (k : Float). finite k ≡ true) (as_fields x F) h) in
    exact-at x (s x F) r.0 (subst (λ (k : Float). HasValue k (s x F) r.0 (2 ^ 1074)) (sym (as_fields x F)) r.1)

-- ---- a finite f64 that is not zero has a mantissa of 53 digits and an exponent

pub splits : (x : Float) → T (fits binary64 x) → finite x ≡ true → (magnitude x ≡ 0 → ⊥) → (s : Bool) × (m : ℕ) × (e : ℕ) × Split x s m e
splits x F h z = go (eqb (f x F) 2047) (eqb (f x F) 0) refl refl
  where
    positive : (t : ℕ) → magnitude x ≡ t * 2 ^ 974 → 0 < t
    positive zero e = absurd (z (e ∙ zero-mul (2 ^ 974)))
    positive (suc t) e = omega arith

    most : (t : ℕ) → t < 2 ^ 52 → t + 2 ^ 52 < 2 ^ 53
    most t h = omega (arith, h)

    lowest : (f : ℕ) → (f ≡ 0 → ⊥) → 922 ≤ f + 973
    lowest f g = omega (arith, g)

    highest : (f : ℕ) → f < 2 ^ 11 → (f ≡ 2047 → ⊥) → f + 973 ≤ 3019
    highest f h g = omega (arith, h, g)

    go : (p q : Bool) → eqb (f x F) 2047 ≡ p → eqb (f x F) 0 ≡ q → (s : Bool) × (m : ℕ) × (e : ℕ) × Split x s m e
    go true q u v = absurd (subst T (sym h ∙ not_finite x F (eqb-true (f x F) 2047 u)) tt)
    go false true u v =
        let i = subnormal x F (eqb-true (f x F) 0 v) in
        let d = normalised (t x F) (positive (t x F) i.size) (mod-lt (to_bits binary64 x) (pow_pos 52)) in
        (s x F, t x F * 2 ^ (count_leading_zeros 64 (t x F) - 11) % 2 ^ 64, 974 - (count_leading_zeros 64 (t x F) - 11), from-shifted x (s x F) (t x F) (count_leading_zeros 64 (t x F) - 11) i d.1)
    go false false u v =
        let i = normal x F (eqb-false (f x F) 2047 u) (eqb-false (f x F) 0 v) in (
          s x F,
          t x F + 2 ^ 52,
          f x F + 973,
          record {
            finite = i.finite;
            sign = i.sign;
            value = i.size;
            least = omega arith;
            most = most (t x F) (mod-lt (to_bits binary64 x) (pow_pos 52));
            lowest = lowest (f x F) (eqb-false (f x F) 0 v);
            highest = highest (f x F) (mod-lt (to_bits binary64 x / 2 ^ 52) (pow_pos 11)) (eqb-false (f x F) 2047 u);
          },
        )
