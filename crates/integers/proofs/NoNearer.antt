-- THE f64 OF A WHOLE NUMBER IS THE NEAREST, ties to the even mantissa, and no other f64 is. Assumes nothing.
use Rattle.std.proofs.Common.{◌≡◌, ℕ, zero, suc, ◌+◌, ◌-◌, ◌*◌, ◌%◌, ◌^◌, ◌<◌, ◌≤◌, Bool, true, false, not, T, eqb, ◌⊎◌, ℤ, pos, negsuc, ◌-ℤ◌, nat_abs, sym, refl, ap, ◌∙◌, subst, inl, inr, le_trans, le_of_eq, lt_of_lt_of_le, lt_of_le_of_lt, mul-le-mul_right, mul_assoc, le_antisymm, mul-lt-mul_of_pos_right, mul-one, arith, lit<, lit≤, pow_pos, pow_mono, pow-add, ltb-true, eqb-true}
use borrow.Author.Tests.{eqb-false}
use lib.Signed.{mag}
use lib.Bits.{shifted_even}
use lib.Ieee.{Float, binary64, round, of_int, fits}
use lib.Ieee.Scale.{finite}
use lib.Ieee.Fits.{round-fits}
use lib.Ieee.Nearest.{closest}
use Rattle.laws.proofs.Differences.{le_or-lt}
use Rattle.index.specs.Magnitude.{magnitude, is_negative}
use Rattle.index.specs.Frexp.{Split}
use Rattle.index.proofs.Floats.{in_units_lem, splits}
use Rattle.floats.specs.Starts.{FiniteF64}
use Rattle.floats.specs.Grid.{signed}
use Rattle.integers.specs.Answers.{nearest_of, in_range}
use Rattle.integers.specs.Nearest.{in_units, EvenMantissa, Nearest}
use Rattle.integers.proofs.Range.{sub_cases}
use Rattle.integers.proofs.Closest.{apart, Close, close}
use Rattle.integers.proofs.Rounded.{Kept, rounded}
use Rattle.integers.proofs.Same.{same-f64}

-- ---- distances of signed numbers
like : (s : Bool) (a b : ℕ) → nat_abs (signed s a -ℤ signed s b) ≡ apart a b
like false a zero = omega arith
like false a (suc b) = sub_cases a (suc b) (λ z. nat_abs z ≡ apart a (suc b)) (λ h. omega arith) (λ h. omega arith)
like true zero zero = refl
like true zero (suc b) = omega arith
like true (suc a) zero = sub_cases 0 (suc a) (λ z. nat_abs z ≡ apart (suc a) 0) (λ h. omega arith) (λ h. omega arith)
like true (suc a) (suc b) = sub_cases (suc b) (suc a) (λ z. nat_abs z ≡ apart (suc a) (suc b)) (λ h. omega arith) (λ h. omega arith)

unlike : (s t : Bool) (a b : ℕ) → (t ≡ s → ⊥) → nat_abs (signed t a -ℤ signed s b) ≡ a + b
unlike false false a b h = absurd (h refl)
unlike true true a b h = absurd (h refl)
unlike false true zero zero h = refl
unlike false true (suc a) zero h = sub_cases 0 (suc a) (λ z. nat_abs z ≡ suc a + 0) (λ h. omega arith) (λ h. omega arith)
unlike false true zero (suc b) h = sub_cases 0 (suc b) (λ z. nat_abs z ≡ 0 + suc b) (λ h. omega arith) (λ h. omega arith)
unlike false true (suc a) (suc b) h = omega arith
unlike true false a zero h = omega arith
unlike true false a (suc b) h = omega arith

size-signed : (s : Bool) (a : ℕ) → nat_abs (signed s a) ≡ a
size-signed false a = refl
size-signed true zero = refl
size-signed true (suc a) = refl

none-signed : (s t : Bool) → signed t 0 ≡ signed s 0
none-signed true true = refl
none-signed true false = refl
none-signed false true = refl
none-signed false false = refl

same_sign : (s t : Bool) → (t ≡ s) ⊎ (t ≡ s → ⊥)
same_sign true true = inl refl
same_sign false false = inl refl
same_sign true false = inr (λ e. subst (λ (b : Bool). T (not b)) e tt)
same_sign false true = inr (λ e. subst T e tt)

-- ---- magnitudes: a multiple of a power of two with at most 53 digits is no nearer
abbrev Evened : ℕ → Type 0
Evened q = (q % 2 ≡ 0) × (2 ^ 52 ≤ q) × (q ≤ 2 ^ 53)

-- Q, of the digits q, against P, of the digits m
record Near (A Q P q m : ℕ) : Type 0 where
  pub least : apart Q A ≤ apart P A
  pub tie : apart P A ≡ apart Q A → (P ≡ Q) ⊎ (Evened q × (m % 2 ≡ 1))

-- all of it is kept: nothing is nearer
itself : (A Q P q m : ℕ) → Q ≡ A → Near A Q P q m
itself A Q P q m e = record { least = omega arith; tie = λ h. inl (omega arith) }

-- below the power of two under A
beneath : (A Q P C q m : ℕ) → P < C → C ≤ A → apart Q A ≤ apart C A → Near A Q P q m
beneath A Q P C q m h g c = record { least = omega arith; tie = λ t. absurd (never t) }
  where
    never : apart P A ≡ apart Q A → ⊥
    never t = omega arith

not-both : (m : ℕ) → m % 2 ≡ 0 → m % 2 ≡ 1 → ⊥
not-both m h k = omega arith

odd-digits : (m j : ℕ) → m * 2 ^ j % 2 ≡ 1 → m % 2 ≡ 1
odd-digits m zero h = sym (ap (λ (c : ℕ). c % 2) (mul-one m)) ∙ h
odd-digits m (suc j) h = absurd (not-both (m * 2 ^ suc j) (shifted_even m j) h)

module _ (n : ℕ) (q k : ℕ) (is : q ≡ closest (n * 2 ^ 2048) (2 ^ (k + 974)))
    (kept : (q * 2 ^ k ≡ n * 2 ^ 1074) ⊎ ((2 ^ (52 + k) ≤ n * 2 ^ 1074) × (2 ^ 52 ≤ q) × (q ≤ 2 ^ 53))) where
  abbrev A : ℕ
  A = n * 2 ^ 2048

  abbrev U : ℕ
  U = 2 ^ (k + 974)

  split : (c a b : ℕ) → c * 2 ^ (a + b) ≡ c * 2 ^ a * 2 ^ b
  split c a b = ap (λ (u : ℕ). c * u) (pow-add 2 a b) ∙ sym (mul_assoc c (2 ^ a) (2 ^ b))

  closer : (t : ℕ) → Close A (q * U) (t * U) q t
  closer t = subst (λ (c : ℕ). Close A (c * U) (t * U) c t) (sym is) (close A U t (pow_pos (k + 974)))

  multiple : (m j : ℕ) → (2 ^ 52 ≤ q) × (q ≤ 2 ^ 53) → Near A (q * U) (m * 2 ^ j * U) q m
  multiple m j b =
      let c = closer (m * 2 ^ j) in
      record { least = c.least; tie = λ h. elim (c.tie h) [ inl e ↦ inl e | inr e ↦ inr ((e.0, b.0, b.1), odd-digits m j e.1) ] }

  near : (m e : ℕ) → m < 2 ^ 53 → Near A (q * U) (m * 2 ^ e) q m
  near m e small =
      elim kept [
        | inl h ↦ itself A (q * U) (m * 2 ^ e) q m (split q k 974 ∙ ap (λ (u : ℕ). u * 2 ^ 974) h ∙ sym (split n 1074 974))
        | inr h ↦
            elim (le_or-lt (k + 974) e) [
              | inl g ↦ subst (λ (P : ℕ). Near A (q * U) P q m) (sym (coarse m e g)) (multiple m (e - (k + 974)) (h.1, h.2))
              | inr g ↦
                  beneath A (q * U) (m * 2 ^ e) (2 ^ 52 * U) q m
                  (lt_of_lt_of_le (mul-lt-mul_of_pos_right small (pow_pos e))
                  (le_trans (le_of_eq (sym (pow-add 2 53 e))) (le_trans (pow_mono (next e (k + 974) g)) (le_of_eq (pow-add 2 52 (k + 974))))))
                  (le_trans (le_of_eq (split (2 ^ 52) k 974 ∙ ap (λ (u : ℕ). u * 2 ^ 974) (sym (pow-add 2 52 k))))
                  (le_trans (mul-le-mul_right (2 ^ 974) h.0) (le_of_eq (sym (split n 1074 974)))))
                  (closer (2 ^ 52)).least
            ]
      ]
    where
      next : (e K : ℕ) → e < K → 53 + e ≤ 52 + K
      next e K h = omega arith

      sum : (e K : ℕ) → K ≤ e → e ≡ e - K + K
      sum e K h = omega arith

      coarse : (m e : ℕ) → k + 974 ≤ e → m * 2 ^ e ≡ m * 2 ^ (e - (k + 974)) * U
      coarse m e g = ap (λ (i : ℕ). m * 2 ^ i) (sum e (k + 974) g) ∙ split m (e - (k + 974)) (k + 974)

-- ---- floats
-- a finite f64's magnitude is such a multiple
digits : (y : Float) → FiniteF64 y → (m : ℕ) × (e : ℕ) × (magnitude y ≡ m * 2 ^ e) × (m < 2 ^ 53)
digits y v = go (eqb (magnitude y) 0) refl
  where
    known : (b : Bool) → T b → b ≡ true
    known true t = refl
    known false t = absurd t

    go : (b : Bool) → eqb (magnitude y) 0 ≡ b → (m : ℕ) × (e : ℕ) × (magnitude y ≡ m * 2 ^ e) × (m < 2 ^ 53)
    go true h = (0, 0, eqb-true (magnitude y) 0 h, lit< tt)
    go false h =
        let r = splits y v.fits (known (finite y) v.known) (eqb-false (magnitude y) 0 h) in
        let s : Split y r.0 r.1 r.2 = r.3 in
        (r.1, r.2, s.value, s.most)

-- q * 2 ^ e with q even, of 53 digits or 2 ^ 53: an even mantissa
even_mantissa : (x : Float) (q e : ℕ) → magnitude x ≡ q * 2 ^ e → Evened q → EvenMantissa x
even_mantissa x q e h v =
    elim (le_or-lt (2 ^ 53) q) [
      | inl g ↦ record {
        m = 2 ^ 52;
        e = 1 + e;
        value = h ∙ ap (λ (c : ℕ). c * 2 ^ e) (top q g v.2) ∙ ap (λ (c : ℕ). c * 2 ^ e) (pow-add 2 52 1) ∙ mul_assoc (2 ^ 52) (2 ^ 1) (2 ^ e) ∙ ap (λ (c : ℕ). 2 ^ 52 * c) (sym (pow-add 2 1 e));
        least = lit≤ tt;
        most = lit< tt;
        even = refl;
      }
      | inr g ↦ record { m = q; e = e; value = h; least = v.1; most = g; even = v.0 }
    ]
  where
    top : (q : ℕ) → 2 ^ 53 ≤ q → q ≤ 2 ^ 53 → q ≡ 2 ^ 53
    top q a b = omega (arith, a, b)

nothing : (b : ℕ) → apart 0 b ≡ b
nothing b = omega arith

across : (a z y b : ℕ) → a ≤ z → z ≡ b → a ≤ y + b
across a z y b h e = omega arith

closing : (y b a z : ℕ) → y + b ≡ a → a ≤ z → z ≡ b → (y ≡ 0) × (a ≡ b)
closing y b a z h l e = (omega arith, omega arith)

module _ (s : Bool) (n : ℕ) (x : Float) (c : Kept s n x) (F : T (fits binary64 x)) where
  abbrev B : ℕ
  B = n * 2 ^ 2048

  -- how far a float lies from n with the sign s
  abbrev far : Float → ℕ
  far y = nat_abs (in_units y -ℤ signed s B)

  abbrev top : ℕ
  top = c.q * 2 ^ (c.k + 974)

  size : magnitude x ≡ top
  size = (in_units_lem x s (c.q * 2 ^ c.k) c.value).size ∙ mul_assoc c.q (2 ^ c.k) (2 ^ 974) ∙ ap (λ (u : ℕ). c.q * u) (sym (pow-add 2 c.k 974))

  sign : is_negative x ≡ s
  sign = (in_units_lem x s (c.q * 2 ^ c.k) c.value).sign

  units-are : in_units x ≡ signed s top
  units-are = ap (λ (b : Bool). signed b (magnitude x)) sign ∙ ap (signed s) size

  x-far : far x ≡ apart top B
  x-far = ap (λ (z : ℤ). nat_abs (z -ℤ signed s B)) units-are ∙ like s top B

  -- against a float of either sign, of the digits m
  against : (y : Float) (m e : ℕ) → magnitude y ≡ m * 2 ^ e → m < 2 ^ 53
      → (far x ≤ far y) × (far y ≡ far x → (in_units y ≡ in_units x) ⊎ (Evened c.q × (m % 2 ≡ 1)))
  against y m e is small =
      elim (same_sign s (is_negative y)) [
        | inl g ↦
            let w = near n c.q c.k c.is c.kept m e small in
            let f : far y ≡ apart (m * 2 ^ e) B = ap (λ (b : Bool). nat_abs (signed b (magnitude y) -ℤ signed s B)) g ∙ like s (magnitude y) B ∙ ap (λ (a : ℕ). apart a B) is in (
              le_trans (le_of_eq x-far) (le_trans w.least (le_of_eq (sym f))),
              λ h. elim (w.tie (sym f ∙ h ∙ x-far)) [
                | inl d ↦ inl (ap (λ (b : Bool). signed b (magnitude y)) g ∙ ap (signed s) (is ∙ d) ∙ sym units-are)
                | inr d ↦ inr d
              ],
            )
        | inr g ↦
            let w = near n c.q c.k c.is c.kept 0 0 (lit< tt) in
            let f : far y ≡ magnitude y + B = unlike s (is_negative y) (magnitude y) B g in (
              le_trans (le_of_eq x-far) (le_trans (across (apart top B) (apart 0 B) (magnitude y) B w.least (nothing B)) (le_of_eq (sym f))),
              λ h. let both = closing (magnitude y) B (apart top B) (apart 0 B) (sym f ∙ h ∙ x-far) w.least (nothing B) in
                  elim (w.tie (nothing B ∙ sym both.1)) [
                    | inl d ↦ inl (ap (signed (is_negative y)) both.0 ∙ none-signed s (is_negative y) ∙ ap (signed s) d ∙ sym units-are)
                    | inr d ↦ absurd (not-both 0 refl d.1)
                  ],
            )
      ]

  is_finite : FiniteF64 x
  is_finite = record { known = subst T (sym (in_units_lem x s (c.q * 2 ^ c.k) c.value).finite) tt; fits = F }

  no-nearer : (y : Float) → FiniteF64 y → far x ≤ far y
  no-nearer y v = let d = digits y v in (against y d.0 d.1 d.2 d.3).0

  as-near : (y : Float) → FiniteF64 y → far y ≡ far x → (in_units y ≡ in_units x → ⊥) → EvenMantissa x
  as-near y v h g =
      let d = digits y v in
      elim ((against y d.0 d.1 d.2 d.3).1 h) [ inl e ↦ absurd (g e) | inr e ↦ even_mantissa x c.q (c.k + 974) size e.0 ]

  -- of two as near one mantissa is odd
  no_other : (y : Float) → FiniteF64 y → is_negative y ≡ s → far y ≤ far x → (far x ≡ far y → (in_units x ≡ in_units y → ⊥) → EvenMantissa y) → y ≡ x
  no_other y v g l t = go (eqb (magnitude y) (magnitude x)) refl
    where
      level : far y ≡ far x
      level = le_antisymm l (no-nearer y v)

      apart_from : (magnitude y ≡ magnitude x → ⊥) → in_units y ≡ in_units x → ⊥
      apart_from h e = h (sym (size-signed (is_negative y) (magnitude y)) ∙ ap nat_abs e ∙ size-signed (is_negative x) (magnitude x))

      go : (b : Bool) → eqb (magnitude y) (magnitude x) ≡ b → y ≡ x
      go true h = same-f64 y x v is_finite (g ∙ sym sign) (eqb-true (magnitude y) (magnitude x) h)
      go false h =
          let differ = apart_from (eqb-false (magnitude y) (magnitude x) h) in
          let m = t (sym level) (λ e. differ (sym e)) in
          elim ((against y m.m m.e m.value m.most).1 level) [ inl e ↦ absurd (differ e) | inr e ↦ absurd (not-both m.m m.even e.1) ]

-- for every i64, and more
pub nearest-is : (z : ℤ) → mag z < 2 ^ 63 → Nearest z (nearest_of z)
unfolding of_int
nearest-is (pos n) h =
    let x = round binary64 false n 1 in
    let c = rounded n (lt_of_lt_of_le h (lit≤ tt)) false in
    let F = round-fits binary64 false n 1 in
    record { finite = is_finite false n x c F; sign = sign false n x c F; least = no-nearer false n x c F; tie = as-near false n x c F }
nearest-is (negsuc n) h =
    let x = round binary64 true (suc n) 1 in
    let c = rounded (suc n) (lt_of_le_of_lt h (lit< tt)) true in
    let F = round-fits binary64 true (suc n) 1 in
    record { finite = is_finite true (suc n) x c F; sign = sign true (suc n) x c F; least = no-nearer true (suc n) x c F; tie = as-near true (suc n) x c F }

only-nearest : (z : ℤ) (x : Float) → mag z < 2 ^ 63 → Nearest z x → x ≡ nearest_of z
unfolding of_int
only-nearest (pos n) x h N =
    let r = round binary64 false n 1 in
    let c = rounded n (lt_of_lt_of_le h (lit≤ tt)) false in
    let F = round-fits binary64 false n 1 in
    let f = is_finite false n r c F in
    no_other false n r c F x N.finite N.sign (N.least r f) (N.tie r f)
only-nearest (negsuc n) x h N =
    let r = round binary64 true (suc n) 1 in
    let c = rounded (suc n) (lt_of_le_of_lt h (lit< tt)) true in
    let F = round-fits binary64 true (suc n) 1 in
    let f = is_finite true (suc n) r c F in
    no_other true (suc n) r c F x N.finite N.sign (N.least r f) (N.tie r f)

-- ONE f64 IS THE NEAREST
pub one-nearest : (z : ℤ) (x y : Float) → in_range z ≡ true → Nearest z x → Nearest z y → x ≡ y
one-nearest z x y h N M =
    let k = ltb-true (mag z) (2 ^ 63) h in
    only-nearest z x k N ∙ sym (only-nearest z y k M)
