-- The sum of a point on the grid: what `sum_of` says, and that it is what the code's mantissa and exponent tell. Assumes nothing.
use mathlib.Core.Path.{◌≡◌, refl, sym, ap, ◌∙◌, subst}
use mathlib.Core.Logic.{inl, inr}
use mathlib.Core.Bool.{Bool, true, false, false≢true, ◌&&◌}
use Prim.Native.Nat.{ℕ, zero, suc, ◌+◌, ◌-◌, ◌*◌, ◌/◌, ◌%◌, ◌^◌, ◌≤◌, ◌<◌}
use native.Mathlib.Nat.{mul_assoc, mul_right_comm, mul-div_cancel, mul-div-mul_right, eq_of_mul-eq-mul_right, mul-le-mul_left, one-le-mul}
use native.Mathlib.Nat.{div-le_self, div-mul-le_self, div-eq_of_lt, zero-mul, zero-div, mod-eq_of_lt}
use native.Mathlib.Nat.{lt_of_lt_of_le, lt_of_le_of_lt, le_trans, le_of_lt}
use native.Mathlib.Omega.{arith}
use borrow.Author.Tests.{leb-true, le-leb, lt-leb, eqb-true, eqb-false, eq-eqb, ne_eqb}
use lib.Dec.{T, leb, eqb}
use lib.IntN.{ℤ, pos, negsuc, nat_abs}
use lib.Pow.{pow-add, pow_pos, pow_mono}
use lib.Ieee.{Float, nan, inf, fin, binary64, fits, up, down}
use lib.Ieee.Fits.{down_pos}
use lib.Ieee.Exact.{HasValue}
use lib.Ieee.Nearest.{div_same}
use lib.Ieee.Scale.{finite}
use Rattle.laws.specs.Pick.{pick}
use Rattle.laws.proofs.Differences.{le_or-lt}
use Rattle.index.specs.Magnitude.{magnitude, is_negative}
use Rattle.index.specs.Frexp.{Split}
use Rattle.index.proofs.Floats.{exact}
use Rattle.floats.specs.Grid.{signed, steps, is_whole, most_steps}
use Rattle.floats.proofs.Whole.{abs-signed, none_left, left-none}
use Rattle.std.specs.Prelude.{Some, None}
use Rattle.mean.specs.Mean.{on_grid}
use Rattle.mean.specs.Inner.{Sum, OffGrid, Steps, as_sum, sum_of, shifted, sum_of_parts}

as-sum : (s : Bool) (n : ℕ) → 0 < n → as_sum (signed s n) ≡ Steps s n
as-sum true zero h = absurd (omega (arith, h))
as-sum true (suc n) h = refl
as-sum false n h = refl

eqb_iff : (p q r s : ℕ) → (p ≡ q → r ≡ s) → (r ≡ s → p ≡ q) → eqb p q ≡ eqb r s
eqb_iff p q r s h k = go (eqb p q) refl
  where
    go : (u : Bool) → eqb p q ≡ u → u ≡ eqb r s
    go true e = sym (eq-eqb r s (h (eqb-true p q e)))
    go false e = sym (ne_eqb r s (λ f. eqb-false p q e (k f)))

-- ---- what is answered is at most 2 ^ 53
abbrev size : Sum → ℕ
size None = 0
size (Some s) = s.steps

size_as : (z : ℤ) → size (as_sum z) ≡ nat_abs z
size_as (pos n) = refl
size_as (negsuc n) = refl

size-le : (x : Float) → size (sum_of x) ≤ 2 ^ 53
unfolding sum_of on_grid pick
size-le x = go (is_whole x) (leb (nat_abs (steps x)) most_steps) refl
  where
    go : (a b : Bool) → leb (nat_abs (steps x)) most_steps ≡ b → size (pick (a && b) (as_sum (steps x)) OffGrid) ≤ 2 ^ 53
    go true true q = subst (λ (n : ℕ). n ≤ 2 ^ 53) (sym (size_as (steps x))) (leb-true (nat_abs (steps x)) most_steps q)
    go true false q = omega arith
    go false b q = omega arith

pub steps-le : (x : Float) (s : Bool) (n : ℕ) → sum_of x ≡ Steps s n → n ≤ 2 ^ 53
steps-le x s n e = subst (λ (r : Sum). size r ≤ 2 ^ 53) e (size-le x)

-- ---- by the magnitude, in units of 2 ^ -2048: K of them are 1/1024
abbrev K : ℕ
K = 2 ^ 2038

cross : (x a k c d : ℕ) → 0 < d → x * k ≡ a * d → x ≡ c * d → a ≡ c * k
cross x a k c d D h e = eq_of_mul-eq-mul_right d D a (c * k) (sym h ∙ ap (λ (z : ℕ). z * k) e ∙ mul_right_comm c d k)

module _ (k : ℕ) (P : 0 < k) where
  same-quotient : (a d m : ℕ) → 0 < d → a * k ≡ m * d → a / d ≡ m / k
  same-quotient a d m D h = div_same a d m k D P h

  same_test : (a d m : ℕ) → 0 < d → a * k ≡ m * d → eqb a (a / d * d) ≡ eqb m (m / k * k)
  same_test a d m D h =
      let q = same-quotient a d m D h in
      eqb_iff a (a / d * d) m (m / k * k)
      (λ e. cross a m k (a / d) d D h e ∙ ap (λ (z : ℕ). z * k) q)
      (λ e. cross m a d (m / k) k P (sym h) e ∙ ap (λ (z : ℕ). z * d) (sym q))

abbrev by_magnitude : ℕ → Bool → ℕ → Sum
by_magnitude k s m = pick (eqb m (m / k * k) && leb (m / k) most_steps) (as_sum (signed s (m / k))) OffGrid

by_value : (x : Float) (s : Bool) (a : ℕ) → HasValue x s a (2 ^ 2048) → sum_of x ≡ by_magnitude K (is_negative x) a
unfolding sum_of on_grid is_whole
by_value nan s a h = absurd h
by_value (inf t) s a h = absurd h
by_value (fin t m e) s a h =
    let A = m * up e * 1024 in
    let D = down e in
    let f : A * K ≡ a * D = mul_assoc (m * up e) 1024 K ∙ ap (λ (z : ℕ). m * up e * z) (sym (pow-add 2 10 2038)) ∙ h.1 in
    let q : A / D ≡ a / K = same-quotient K (pow_pos 2038) A D a (down_pos e) f in
    ap (λ (b : Bool). pick (b && leb (nat_abs (signed t (A / D))) most_steps) (as_sum (signed t (A / D))) OffGrid)
    (eqb_iff (A % D) 0 A (A / D * D) (none_left A D) (left-none A D))
    ∙ ap (λ (z : ℕ). pick (eqb A (A / D * D) && leb z most_steps) (as_sum (signed t (A / D))) OffGrid) (abs-signed t (A / D))
    ∙ ap (λ (b : Bool). pick (b && leb (A / D) most_steps) (as_sum (signed t (A / D))) OffGrid)
    (same_test K (pow_pos 2038) A D a (down_pos e) f)
    ∙ ap (λ (z : ℕ). pick (eqb a (a / K * K) && leb z most_steps) (as_sum (signed t z)) OffGrid) q

pub not_finite : (x : Float) → finite x ≡ false → sum_of x ≡ OffGrid
unfolding sum_of on_grid is_whole pick
not_finite nan h = refl
not_finite (inf s) h = refl
not_finite (fin s m e) h = absurd (false≢true (sym h))

no_sign : (s : Bool) → as_sum (signed s 0) ≡ Steps false 0
no_sign true = refl
no_sign false = refl

none : (k : ℕ) (s : Bool) → by_magnitude k s 0 ≡ Steps false 0
unfolding pick
none k s =
    ap (λ (z : ℕ). pick (eqb 0 (z * k) && leb z most_steps) (as_sum (signed s z)) OffGrid) (zero-div k)
    ∙ ap (λ (b : Bool). pick (b && leb 0 most_steps) (as_sum (signed s 0)) OffGrid) (eq-eqb 0 (0 * k) (sym (zero-mul k)))
    ∙ ap (λ (b : Bool). pick b (as_sum (signed s 0)) OffGrid) (le-leb 0 most_steps (omega arith))
    ∙ no_sign s

module _ (x : Float) (F : T (fits binary64 x)) where
  by-magnitude : finite x ≡ true → sum_of x ≡ by_magnitude K (is_negative x) (magnitude x)
  by-magnitude f = by_value x _ (magnitude x) (exact x F f)

  pub is_zero : finite x ≡ true → magnitude x ≡ 0 → sum_of x ≡ Steps false 0
  is_zero f z = by-magnitude f ∙ ap (by_magnitude K (is_negative x)) z ∙ none K (is_negative x)

-- ---- by a mantissa and an exponent
scaled-test : (m n p : ℕ) → 0 < p → eqb (m * p) (n * p) ≡ eqb n m
scaled-test m n p P = eqb_iff (m * p) (n * p) n m (λ e. sym (eq_of_mul-eq-mul_right p P m n e)) (λ e. ap (λ (z : ℕ). z * p) (sym e))

-- 1/1024 is 2 ^ k times 2 ^ e
below : (s : Bool) (m k p : ℕ) → 0 < p → 0 < m → m < 2 ^ 53 → by_magnitude (2 ^ k * p) s (m * p) ≡ shifted s m k
unfolding shifted pick
below s m k p P M h =
    ap (λ (z : ℕ). pick (eqb (m * p) (z * (2 ^ k * p)) && leb z most_steps) (as_sum (signed s z)) OffGrid) (mul-div-mul_right m (2 ^ k) P)
    ∙ ap (λ (b : Bool). pick (b && leb (m / 2 ^ k) most_steps) (as_sum (signed s (m / 2 ^ k))) OffGrid) test
    ∙ ap (λ (b : Bool). pick (eqb (m / 2 ^ k * 2 ^ k) m && b) (as_sum (signed s (m / 2 ^ k))) OffGrid) (le-leb (m / 2 ^ k) most_steps small)
    ∙ go (eqb (m / 2 ^ k * 2 ^ k) m) refl
  where
    test : eqb (m * p) (m / 2 ^ k * (2 ^ k * p)) ≡ eqb (m / 2 ^ k * 2 ^ k) m
    test = ap (λ (z : ℕ). eqb (m * p) z) (sym (mul_assoc (m / 2 ^ k) (2 ^ k) p)) ∙ scaled-test m (m / 2 ^ k * 2 ^ k) p P

    small : m / 2 ^ k ≤ most_steps
    small = le_trans (div-le_self m (2 ^ k)) (le_of_lt h)

    positive : (n p m : ℕ) → n * p ≡ m → 0 < m → 0 < n
    positive zero p m e h = absurd (omega (arith, sym e ∙ zero-mul p, h))
    positive (suc n) p m e h = omega arith

    go : (b : Bool) → eqb (m / 2 ^ k * 2 ^ k) m ≡ b
        → pick (b && true) (as_sum (signed s (m / 2 ^ k))) OffGrid ≡ pick b (Steps s (m / 2 ^ k)) OffGrid
    go true e = as-sum s (m / 2 ^ k) (positive (m / 2 ^ k) (2 ^ k) m (eqb-true (m / 2 ^ k * 2 ^ k) m e) M)
    go false e = refl

above : (s : Bool) (m k : ℕ) → 0 < k → 0 < m → by_magnitude k s (m * k) ≡ pick (leb m most_steps) (Steps s m) OffGrid
unfolding pick
above s m k P M =
    ap (λ (z : ℕ). pick (eqb (m * k) (z * k) && leb z most_steps) (as_sum (signed s z)) OffGrid) (mul-div_cancel m P)
    ∙ ap (λ (b : Bool). pick (b && leb m most_steps) (as_sum (signed s m)) OffGrid) (eq-eqb (m * k) (m * k) refl)
    ∙ ap (λ (r : Sum). pick (leb m most_steps) r OffGrid) (as-sum s m M)

-- a mantissa below 2 ^ 53 is no whole number of 2 ^ k for a greater k
none-shifted : (s : Bool) (m k : ℕ) → 0 < m → m < 2 ^ 53 → 52 < k → shifted s m k ≡ OffGrid
unfolding shifted pick
none-shifted s m k M h l =
    let z : m / 2 ^ k ≡ 0 = div-eq_of_lt (lt_of_lt_of_le h (pow_mono l)) in
    simp (ne_eqb (m / 2 ^ k * 2 ^ k) m (λ e. clash m M (sym e ∙ ap (λ (n : ℕ). n * 2 ^ k) z ∙ zero-mul (2 ^ k)))) refl
  where
    clash : (m : ℕ) → 0 < m → m ≡ 0 → ⊥
    clash m h e = omega (arith, h, e)

-- ---- by the tests of the code
exact_shift : (m k : ℕ) → m < 2 ^ 53 → m / 2 ^ k * 2 ^ k % 2 ^ 64 ≡ m / 2 ^ k * 2 ^ k
exact_shift m k h = mod-eq_of_lt (lt_of_le_of_lt (div-mul-le_self m (2 ^ k)) (more m h))
  where
    more : (m : ℕ) → m < 2 ^ 53 → m < 2 ^ 64
    more m h = omega (arith, h)

pub shifted-whole : (s : Bool) (m k : ℕ) → m < 2 ^ 53 → m / 2 ^ k * 2 ^ k % 2 ^ 64 ≡ m → shifted s m k ≡ Steps s (m / 2 ^ k)
unfolding shifted pick
shifted-whole s m k h e = simp (eq-eqb (m / 2 ^ k * 2 ^ k) m (sym (exact_shift m k h) ∙ e)) refl

pub shifted_none : (s : Bool) (m k : ℕ) → m < 2 ^ 53 → (m / 2 ^ k * 2 ^ k % 2 ^ 64 ≡ m → ⊥) → shifted s m k ≡ OffGrid
unfolding shifted pick
shifted_none s m k h e = simp (ne_eqb (m / 2 ^ k * 2 ^ k) m (λ f. e (exact_shift m k h ∙ f))) refl

module _ (s : Bool) (m e : ℕ) where
  pub parts-far : 2038 < e → (e ≡ 2039 → ⊥) → sum_of_parts s m e ≡ OffGrid
  unfolding sum_of_parts pick
  parts-far h k = simp (lt-leb e 2038 h) (simp (ne_eqb e 2039 k) refl)

  at_top : e ≡ 2039 → 2038 < e
  at_top h = omega (arith, h)

  pub parts-top : e ≡ 2039 → m ≡ 2 ^ 52 → sum_of_parts s m e ≡ Steps s (2 ^ 53)
  unfolding sum_of_parts pick
  parts-top h k = simp (lt-leb e 2038 (at_top h)) (simp (eq-eqb e 2039 h) (simp (eq-eqb m (2 ^ 52) k) refl))

  pub parts-over : e ≡ 2039 → (m ≡ 2 ^ 52 → ⊥) → sum_of_parts s m e ≡ OffGrid
  unfolding sum_of_parts pick
  parts-over h k = simp (lt-leb e 2038 (at_top h)) (simp (eq-eqb e 2039 h) (simp (ne_eqb m (2 ^ 52) k) refl))

  pub parts_low : e ≤ 2038 → 52 < 2038 - e → sum_of_parts s m e ≡ OffGrid
  unfolding sum_of_parts pick
  parts_low h k = simp (le-leb e 2038 h) (simp (lt-leb (2038 - e) 52 k) refl)

  pub parts_shift : e ≤ 2038 → 2038 - e ≤ 52 → sum_of_parts s m e ≡ shifted s m (2038 - e)
  unfolding sum_of_parts pick
  parts_shift h k = simp (le-leb e 2038 h) (simp (le-leb (2038 - e) 52 k) refl)

-- ---- THE MANTISSA AND THE EXPONENT TELL
module _ (s : Bool) (m e : ℕ) (least : 2 ^ 52 ≤ m) (most : m < 2 ^ 53) where
  positive : 0 < m
  positive = omega (arith, least)

  at_most : e ≤ 2038 → by_magnitude K s (m * 2 ^ e) ≡ sum_of_parts s m e
  at_most l =
      ap (λ (k : ℕ). by_magnitude k s (m * 2 ^ e)) (ap (λ (n : ℕ). 2 ^ n) (parts e l) ∙ pow-add 2 (2038 - e) e)
      ∙ below s m (2038 - e) (2 ^ e) (pow_pos e) positive most
      ∙ elim (le_or-lt (2038 - e) 52) [
        | inl h ↦ sym (parts_shift s m e l h)
        | inr h ↦ none-shifted s m (2038 - e) positive most h ∙ sym (parts_low s m e l h)
      ]
    where
      parts : (e : ℕ) → e ≤ 2038 → 2038 ≡ 2038 - e + e
      parts e l = omega (arith, l)

  greater : 2038 < e → by_magnitude K s (m * 2 ^ e) ≡ pick (leb (m * 2 ^ (e - 2038)) most_steps) (Steps s (m * 2 ^ (e - 2038))) OffGrid
  greater l =
      ap (λ (n : ℕ). by_magnitude K s n)
      (ap (λ (n : ℕ). m * 2 ^ n) (parts e l) ∙ ap (λ (n : ℕ). m * n) (pow-add 2 (e - 2038) 2038) ∙ sym (mul_assoc m (2 ^ (e - 2038)) K))
      ∙ above s (m * 2 ^ (e - 2038)) K (pow_pos 2038) (one-le-mul positive (pow_pos (e - 2038)))
    where
      parts : (e : ℕ) → 2038 < e → e ≡ e - 2038 + 2038
      parts e l = omega (arith, l)

  too_great : (n : ℕ) → most_steps < n → pick (leb n most_steps) (Steps s n) OffGrid ≡ OffGrid
  unfolding pick
  too_great n h = simp (lt-leb n most_steps h) refl

  just : (n : ℕ) → n ≡ 2 ^ 53 → pick (leb n most_steps) (Steps s n) OffGrid ≡ Steps s (2 ^ 53)
  unfolding pick
  just n h = simp (le-leb n most_steps (omega (arith, h))) (ap (Steps s) h)

  one_up : e ≡ 2039 → 2 ^ (e - 2038) ≡ 2
  one_up h = ap (λ (n : ℕ). 2 ^ (n - 2038)) h

  four : 2038 < e → (e ≡ 2039 → ⊥) → 4 ≤ 2 ^ (e - 2038)
  four l h = pow_mono {i = 2} {j = e - 2038} (two e l h)
    where
      two : (e : ℕ) → 2038 < e → (e ≡ 2039 → ⊥) → 2 ≤ e - 2038
      two e l h = omega (arith, l, h)

  over : 2038 < e → by_magnitude K s (m * 2 ^ e) ≡ sum_of_parts s m e
  over l = greater l ∙ go (eqb e 2039) (eqb m (2 ^ 52)) refl refl
    where
      double : (m : ℕ) → m ≡ 2 ^ 52 → m * 2 ≡ 2 ^ 53
      double m h = omega (arith, h)

      beyond : (m : ℕ) → 2 ^ 52 ≤ m → (m ≡ 2 ^ 52 → ⊥) → most_steps < m * 2
      beyond m l h = omega (arith, l, h)

      far : (m : ℕ) → 2 ^ 52 ≤ m → most_steps < m * 4
      far m l = omega (arith, l)

      go : (a b : Bool) → eqb e 2039 ≡ a → eqb m (2 ^ 52) ≡ b
          → pick (leb (m * 2 ^ (e - 2038)) most_steps) (Steps s (m * 2 ^ (e - 2038))) OffGrid ≡ sum_of_parts s m e
      go true true h k =
          let f = eqb-true e 2039 h in
          let g = eqb-true m (2 ^ 52) k in
          just (m * 2 ^ (e - 2038)) (ap (λ (z : ℕ). m * z) (one_up f) ∙ double m g) ∙ sym (parts-top s m e f g)
      go true false h k =
          let f = eqb-true e 2039 h in
          let g = eqb-false m (2 ^ 52) k in
          too_great (m * 2 ^ (e - 2038)) (subst (λ (z : ℕ). most_steps < m * z) (sym (one_up f)) (beyond m least g))
          ∙ sym (parts-over s m e f g)
      go false b h k =
          let f = eqb-false e 2039 h in
          too_great (m * 2 ^ (e - 2038)) (lt_of_lt_of_le (far m least) (mul-le-mul_left m (four l f))) ∙ sym (parts-far s m e l f)

pub split-is : (x : Float) → T (fits binary64 x) → (s : Bool) (m e : ℕ) → Split x s m e → sum_of x ≡ sum_of_parts s m e
split-is x F s m e h =
    by-magnitude x F h.finite
    ∙ ap (λ (b : Bool). by_magnitude K b (magnitude x)) h.sign
    ∙ ap (λ (n : ℕ). by_magnitude K s n) h.value
    ∙ elim (le_or-lt e 2038) [ inl l ↦ at_most s m e h.least h.most l | inr l ↦ over s m e h.least h.most l ]
