-- Sums and differences of i64 against its range: what the code's tests tell. Assumes nothing.
use Rattle.std.proofs.Common.{◌≡◌, ℕ, zero, suc, ◌+◌, ◌-◌, ◌^◌, ◌<◌, ◌≤◌, Bool, true, false, not, T, ltb, ℤ, pos, negsuc, ◌+ℤ◌, ◌-ℤ◌, nat_abs, sym, refl, ap, ◌∙◌, subst, arith, lit<, le→leb, ltb→lt, lt→ltb, w64, Fits, SFits, to_z, of_z, ltb-false, ltb-true, le-ltb, lt-ltb}
use lib.Ieee.{binary64, in_float}
use lib.IntN.{sub_ℕ}
use lib.Signed.{mag, lt_z, non_neg}
use mir.ValLaws.{to_z-of_z, to_z_pos}
use Rattle.laws.specs.Pick.{pick}
use Rattle.laws.proofs.Bools.{pick_true, pick-false}
use Rattle.integers.specs.Answers.{between, in_range, sum_of, bits_of, of_bits}
use Rattle.std.specs.Prelude.{Some, None}

-- a difference of whole numbers, either way
pub sub_cases : (a b : ℕ) (P : ℤ → Type 0) → (a < b → P (negsuc (b - suc a))) → (b ≤ a → P (pos (a - b))) → P (sub_ℕ a b)
sub_cases a b P f g = go (ltb a b) refl
  where
    go : (t : Bool) → ltb a b ≡ t → P (sub_ℕ a b)
    go true e = rw e (f (ltb-true a b e))
    go false e = rw e (g (ltb-false a b e))

ltb-not : (x n y m : ℕ) → (x < n → m ≤ y) → (n ≤ x → y < m) → ltb x n ≡ not (ltb y m)
ltb-not x n y m f g = go (ltb x n) (ltb y m) refl refl
  where
    clash : m ≤ y → y < m → ⊥
    clash h k = omega arith

    go : (s t : Bool) → ltb x n ≡ s → ltb y m ≡ t → s ≡ not t
    go true true e d = absurd (clash (f (ltb-true x n e)) (ltb-true y m d))
    go true false e d = refl
    go false true e d = refl
    go false false e d = absurd (clash (ltb-false y m d) (g (ltb-false x n e)))

never : (y m : ℕ) → y < m → false ≡ not (ltb y m)
never y m h = go (ltb y m) (lt→ltb y m h)
  where
    go : (t : Bool) → T t → false ≡ not t
    go true k = refl
    go false k = absurd k

always : (y m : ℕ) → m ≤ y → true ≡ not (ltb y m)
always y m h = go (ltb y m) (ltb→lt y m)
  where
    clash : y < m → ⊥
    clash k = omega arith

    go : (t : Bool) → (T t → y < m) → true ≡ not t
    go true k = absurd (clash (k tt))
    go false k = refl

-- ---- the range: from -m to m - 1
module _ (m : ℕ) where
  -- the least number, a negative one taken off it
  pub low_fits : (b : ℕ) → b < m → mag (negsuc (m - 1) -ℤ negsuc b) < m
  low_fits b h = sub_cases (suc b) (suc (m - 1)) (λ z. mag z < m) (λ k. omega arith) (λ k. omega arith)

  pub low-test : (a : ℤ) (b : ℕ) → mag a < m → b < m → lt_z a (negsuc (m - 1) -ℤ negsuc b) ≡ not (ltb (mag (a +ℤ negsuc b)) m)
  low-test (pos n) b p q =
      sub_cases (suc b) (suc (m - 1)) (λ z. lt_z (pos n) z ≡ false) (λ k. refl) (λ k. below (suc b - suc (m - 1)) (omega arith))
      ∙ sub_cases n (suc b) (λ z. false ≡ not (ltb (mag z) m)) (λ k. never (suc b - suc n) m (omega arith)) (λ k. never (n - suc b) m (omega arith))
    where
      below : (d : ℕ) → d ≡ 0 → ltb n d ≡ false
      below d e = ap (ltb n) e ∙ go (ltb n 0) (ltb→lt n 0)
        where
          none : n < 0 → ⊥
          none h = omega arith

          go : (t : Bool) → (T t → n < 0) → t ≡ false
          go true k = absurd (none (k tt))
          go false k = refl
  low-test (negsuc n) b p q =
      sub_cases (suc b) (suc (m - 1)) (λ z. lt_z (negsuc n) z ≡ not (ltb (suc (n + b)) m))
      (λ k. ltb-not (suc (m - 1) - suc (suc b)) n (suc (n + b)) m (λ x. omega arith) (λ x. omega arith))
      (λ k. always (suc (n + b)) m (omega arith))

  -- a whole number taken off the greatest
  taken : (b : ℕ) → b < m → pos (m - 1) -ℤ pos b ≡ pos (m - 1 - b)
  taken zero h = ap pos (none (m - 1))
    where
      none : (n : ℕ) → n + 0 ≡ n - 0
      none n = omega arith
  taken (suc b) h = sub_cases (m - 1) (suc b) (λ z. z ≡ pos (m - 1 - suc b)) (λ k. absurd (clash k)) (λ k. refl)
    where
      clash : m - 1 < suc b → ⊥
      clash k = omega arith

  pub high_fits : (t b : ℕ) → t < m → b < m → mag (pos t -ℤ pos b) < m
  high_fits t zero h g = omega arith
  high_fits t (suc b) h g = sub_cases t (suc b) (λ z. mag z < m) (λ k. omega arith) (λ k. omega arith)

  pub high-test : (a : ℤ) (b : ℕ) → mag a < m → b < m → lt_z (pos (m - 1) -ℤ pos b) a ≡ not (ltb (mag (a +ℤ pos b)) m)
  high-test (pos n) b p q = ap (λ (z : ℤ). lt_z z (pos n)) (taken b q) ∙ ltb-not (m - 1 - b) n (n + b) m (λ x. omega arith) (λ x. omega arith)
  high-test (negsuc n) b p q =
      ap (λ (z : ℤ). lt_z z (negsuc n)) (taken b q)
      ∙ sub_cases b (suc n) (λ z. false ≡ not (ltb (mag z) m)) (λ k. never (suc n - suc b) m (omega arith)) (λ k. never (b - suc n) m (omega arith))

-- ---- the middle: from -m to m - 1, of which two have a sum from -2m to 2m - 1
pub middling : (m : ℕ) (z : ℤ) → 0 < m → between (negsuc (m - 1)) z (pos m) ≡ true → mag z < m
unfolding pick
middling m (pos n) p h = ltb-true n m h
middling m (negsuc n) p h = go (ltb (m - 1) n) refl h
  where
    go : (t : Bool) → ltb (m - 1) n ≡ t → pick t false true ≡ true → n < m
    go true e k = absurd (subst (λ (b : Bool). T (not b)) k tt)
    go false e k = omega (arith, ltb-false (m - 1) n e)

middle-sum : (m : ℕ) (a v : ℤ) → mag a < m → mag v < m → mag (a +ℤ v) < m + m
middle-sum m (pos a) (pos v) p q = omega arith
middle-sum m (pos a) (negsuc v) p q = sub_cases a (suc v) (λ z. mag z < m + m) (λ k. omega arith) (λ k. omega arith)
middle-sum m (negsuc a) (pos v) p q = sub_cases v (suc a) (λ z. mag z < m + m) (λ k. omega arith) (λ k. omega arith)
middle-sum m (negsuc a) (negsuc v) p q = omega arith

-- up to 2 ^ 53 a whole number is an f64
pub exact : (z : ℤ) → mag z < 2 ^ 53 → T (in_float binary64 z)
unfolding in_float
exact (pos n) h = le→leb n (2 ^ 53) (omega (arith, h))
exact (negsuc n) h = lt→ltb n (2 ^ 53) h

-- ---- i64
pub held : (z : ℤ) → SFits w64 z → to_z w64 (of_z w64 z) ≡ z
held z f = to_z-of_z w64 z f

-- one of two, by a test of what is held
pub first_taken : (a v : ℤ) (t : ℤ → ℤ → Bool) → SFits w64 a → SFits w64 v → t (to_z w64 (of_z w64 v)) (to_z w64 (of_z w64 a)) ≡ true → v ≡ pick (t v a) v a
first_taken a v t f g h = sym (pick_true (t v a) v a (sym (ap (λ (z : ℤ). t z (to_z w64 (of_z w64 a))) (held v g) ∙ ap (t v) (held a f)) ∙ h))

pub first-left : (a v : ℤ) (t : ℤ → ℤ → Bool) → SFits w64 a → SFits w64 v → t (to_z w64 (of_z w64 v)) (to_z w64 (of_z w64 a)) ≡ false → a ≡ pick (t v a) v a
first-left a v t f g h = sym (pick-false (t v a) v a (sym (ap (λ (z : ℤ). t z (to_z w64 (of_z w64 a))) (held v g) ∙ ap (t v) (held a f)) ∙ h))

negative : (z : ℤ) → lt_z z (pos 0) ≡ true → (b : ℕ) × (z ≡ negsuc b)
negative (pos n) h = absurd (none (ltb-true n 0 h))
  where
    none : n < 0 → ⊥
    none k = omega arith
negative (negsuc n) h = (n, refl)

natural : (z : ℤ) → lt_z z (pos 0) ≡ false → (b : ℕ) × (z ≡ pos b)
natural (pos n) h = (n, refl)
natural (negsuc n) h = absurd (subst T h tt)

unlike : (t : Bool) → not t ≡ true → t ≡ false
unlike true h = sym h
unlike false h = refl

alike : (t : Bool) → not t ≡ false → t ≡ true
alike true h = refl
alike false h = sym h

pub sum-outside : (a v : ℤ) → in_range (a +ℤ v) ≡ false → None ≡ sum_of a v
unfolding sum_of
sum-outside a v h = sym (pick-false (in_range (a +ℤ v)) (Some (a +ℤ v)) None h)

pub sum_inside : (a v : ℤ) → in_range (a +ℤ v) ≡ true → Some (a +ℤ v) ≡ sum_of a v
unfolding sum_of
sum_inside a v h = sym (pick_true (in_range (a +ℤ v)) (Some (a +ℤ v)) None h)

module _ (a v : ℤ) (f : SFits w64 a) (g : SFits w64 v) where
  low-sub : lt_z v (pos 0) ≡ true → mag (negsuc 9223372036854775807 -ℤ v) < 2 ^ 63
  low-sub h =
      let r = negative v h in
      subst (λ (z : ℤ). mag (negsuc 9223372036854775807 -ℤ z) < 2 ^ 63) (sym r.1) (low_fits (2 ^ 63) r.0 (subst (λ (z : ℤ). mag z < 2 ^ 63) r.1 g.sfits))

  pub low-is : lt_z v (pos 0) ≡ true → lt_z a (negsuc 9223372036854775807 -ℤ v) ≡ not (in_range (a +ℤ v))
  low-is h =
      let r = negative v h in
      subst (λ (z : ℤ). lt_z a (negsuc 9223372036854775807 -ℤ z) ≡ not (in_range (a +ℤ z))) (sym r.1)
      (low-test (2 ^ 63) a r.0 f.sfits (subst (λ (z : ℤ). mag z < 2 ^ 63) r.1 g.sfits))

  pub high-sub : (t : ℕ) → t < 2 ^ 63 → lt_z v (pos 0) ≡ false → mag (pos t -ℤ v) < 2 ^ 63
  high-sub t l h =
      let r = natural v h in
      subst (λ (z : ℤ). mag (pos t -ℤ z) < 2 ^ 63) (sym r.1) (high_fits (2 ^ 63) t r.0 l (subst (λ (z : ℤ). mag z < 2 ^ 63) r.1 g.sfits))

  pub high_is : lt_z v (pos 0) ≡ false → lt_z (pos 9223372036854775807 -ℤ v) a ≡ not (in_range (a +ℤ v))
  high_is h =
      let r = natural v h in
      subst (λ (z : ℤ). lt_z (pos 9223372036854775807 -ℤ z) a ≡ not (in_range (a +ℤ z))) (sym r.1)
      (high-test (2 ^ 63) a r.0 f.sfits (subst (λ (z : ℤ). mag z < 2 ^ 63) r.1 g.sfits))

  -- the same of what the code computes
  low_held : lt_z v (pos 0) ≡ true → to_z w64 (of_z w64 (negsuc 9223372036854775807 -ℤ to_z w64 (of_z w64 v))) ≡ negsuc 9223372036854775807 -ℤ v
  low_held h = ap (λ (z : ℤ). to_z w64 (of_z w64 (negsuc 9223372036854775807 -ℤ z))) (held v g) ∙ held (negsuc 9223372036854775807 -ℤ v) (record { sfits = low-sub h })

  high_held : lt_z v (pos 0) ≡ false → to_z w64 (of_z w64 (pos 9223372036854775807 -ℤ to_z w64 (of_z w64 v))) ≡ pos 9223372036854775807 -ℤ v
  high_held h = ap (λ (z : ℤ). to_z w64 (of_z w64 (pos 9223372036854775807 -ℤ z))) (held v g) ∙ held (pos 9223372036854775807 -ℤ v) (record { sfits = high-sub 9223372036854775807 (lit< tt) h })

  zero_held : (t : Bool) → lt_z (to_z w64 (of_z w64 v)) (pos 0) ≡ t → lt_z v (pos 0) ≡ t
  zero_held t h = sym (ap (λ (z : ℤ). lt_z z (pos 0)) (held v g)) ∙ h

  abbrev LowTest : Bool → Type 0
  LowTest t = lt_z (to_z w64 (of_z w64 a)) (to_z w64 (of_z w64 (negsuc 9223372036854775807 -ℤ to_z w64 (of_z w64 v)))) ≡ t

  abbrev HighTest : Bool → Type 0
  HighTest t = lt_z (to_z w64 (of_z w64 (pos 9223372036854775807 -ℤ to_z w64 (of_z w64 v)))) (to_z w64 (of_z w64 a)) ≡ t

  low_told : (t : Bool) → lt_z (to_z w64 (of_z w64 v)) (pos 0) ≡ true → LowTest t → not (in_range (a +ℤ v)) ≡ t
  low_told t h k = sym (low-is (zero_held true h)) ∙ sym (ap (lt_z a) (low_held (zero_held true h))) ∙ sym (ap (λ (z : ℤ). lt_z z (to_z w64 (of_z w64 (negsuc 9223372036854775807 -ℤ to_z w64 (of_z w64 v))))) (held a f)) ∙ k

  high-told : (t : Bool) → lt_z (to_z w64 (of_z w64 v)) (pos 0) ≡ false → HighTest t → not (in_range (a +ℤ v)) ≡ t
  high-told t h k = sym (high_is (zero_held false h)) ∙ sym (ap (λ (z : ℤ). lt_z z a) (high_held (zero_held false h))) ∙ sym (ap (lt_z (to_z w64 (of_z w64 (pos 9223372036854775807 -ℤ to_z w64 (of_z w64 v))))) (held a f)) ∙ k

  pub low_need : lt_z (to_z w64 (of_z w64 v)) (pos 0) ≡ true → SFits w64 (negsuc 9223372036854775807 -ℤ to_z w64 (of_z w64 v))
  low_need h = subst (λ (z : ℤ). SFits w64 (negsuc 9223372036854775807 -ℤ z)) (sym (held v g)) (record { sfits = low-sub (zero_held true h) })

  pub high_need : (t : ℕ) → t < 2 ^ 63 → lt_z (to_z w64 (of_z w64 v)) (pos 0) ≡ false → SFits w64 (pos t -ℤ to_z w64 (of_z w64 v))
  high_need t l h = subst (λ (z : ℤ). SFits w64 (pos t -ℤ z)) (sym (held v g)) (record { sfits = high-sub t l (zero_held false h) })

  outside : not (in_range (a +ℤ v)) ≡ true → None ≡ sum_of a v
  outside h = sum-outside a v (unlike (in_range (a +ℤ v)) h)

  pub low-outside : lt_z (to_z w64 (of_z w64 v)) (pos 0) ≡ true → LowTest true → None ≡ sum_of a v
  low-outside h k = outside (low_told true h k)

  pub high-outside : lt_z (to_z w64 (of_z w64 v)) (pos 0) ≡ false → HighTest true → None ≡ sum_of a v
  high-outside h k = outside (high-told true h k)

  sums : to_z w64 (of_z w64 a) +ℤ to_z w64 (of_z w64 v) ≡ a +ℤ v
  sums = ap (λ (z : ℤ). z +ℤ to_z w64 (of_z w64 v)) (held a f) ∙ ap (λ (z : ℤ). a +ℤ z) (held v g)

  fine : not (in_range (a +ℤ v)) ≡ false → SFits w64 (to_z w64 (of_z w64 a) +ℤ to_z w64 (of_z w64 v))
  fine h = subst (λ (z : ℤ). SFits w64 z) (sym sums) (record { sfits = ltb-true (mag (a +ℤ v)) (2 ^ 63) (alike (in_range (a +ℤ v)) h) })

  inside : not (in_range (a +ℤ v)) ≡ false → Some (to_z w64 (of_z w64 (to_z w64 (of_z w64 a) +ℤ to_z w64 (of_z w64 v)))) ≡ sum_of a v
  inside h = ap Some (held (to_z w64 (of_z w64 a) +ℤ to_z w64 (of_z w64 v)) (fine h) ∙ sums) ∙ sum_inside a v (alike (in_range (a +ℤ v)) h)

  pub low-fine : lt_z (to_z w64 (of_z w64 v)) (pos 0) ≡ true → LowTest false → SFits w64 (to_z w64 (of_z w64 a) +ℤ to_z w64 (of_z w64 v))
  low-fine h k = fine (low_told false h k)

  pub high-fine : lt_z (to_z w64 (of_z w64 v)) (pos 0) ≡ false → HighTest false → SFits w64 (to_z w64 (of_z w64 a) +ℤ to_z w64 (of_z w64 v))
  high-fine h k = fine (high-told false h k)

  pub low-inside : lt_z (to_z w64 (of_z w64 v)) (pos 0) ≡ true → LowTest false → Some (to_z w64 (of_z w64 (to_z w64 (of_z w64 a) +ℤ to_z w64 (of_z w64 v)))) ≡ sum_of a v
  low-inside h k = inside (low_told false h k)

  pub high-inside : lt_z (to_z w64 (of_z w64 v)) (pos 0) ≡ false → HighTest false → Some (to_z w64 (of_z w64 (to_z w64 (of_z w64 a) +ℤ to_z w64 (of_z w64 v)))) ≡ sum_of a v
  high-inside h k = inside (high-told false h k)

  in_middle : mag a < 2 ^ 62 → mag v < 2 ^ 62 → not (in_range (a +ℤ v)) ≡ false
  in_middle p q = ap not (lt-ltb (mag (a +ℤ v)) (2 ^ 63) (middle-sum (2 ^ 62) a v p q))

  pub middle-fine : mag a < 2 ^ 62 → mag v < 2 ^ 62 → SFits w64 (to_z w64 (of_z w64 a) +ℤ to_z w64 (of_z w64 v))
  middle-fine p q = fine (in_middle p q)

  pub middle-inside : mag a < 2 ^ 62 → mag v < 2 ^ 62 → Some (to_z w64 (of_z w64 (to_z w64 (of_z w64 a) +ℤ to_z w64 (of_z w64 v)))) ≡ sum_of a v
  middle-inside p q = inside (in_middle p q)

-- ---- bits
minus_one : (b : ℕ) → negsuc 0 -ℤ negsuc b ≡ pos b
minus_one b = sub_cases (suc b) 1 (λ z. z ≡ pos b) (λ h. absurd (none b h)) (λ h. ap pos (less b))
  where
    none : (b : ℕ) → suc b < 1 → ⊥
    none b h = omega arith

    less : (b : ℕ) → suc b - 1 ≡ b
    less b = omega arith

module _ (x : ℤ) (f : SFits w64 x) (h : lt_z (to_z w64 (of_z w64 x)) (pos 0) ≡ true) where
  abbrev r : (b : ℕ) × (x ≡ negsuc b)
  r = negative x (zero_held x x f f true h)

  turned : negsuc 0 -ℤ to_z w64 (of_z w64 x) ≡ pos r.0
  turned = ap (λ (z : ℤ). negsuc 0 -ℤ z) (held x f ∙ r.1) ∙ minus_one r.0

  small : r.0 < 2 ^ 63
  small = subst (λ (z : ℤ). mag z < 2 ^ 63) r.1 f.sfits

  pub turned-fits : SFits w64 (negsuc 0 -ℤ to_z w64 (of_z w64 x))
  turned-fits = subst (λ (z : ℤ). SFits w64 z) (sym turned) (record { sfits = small })

  turned-is : to_z w64 (of_z w64 (negsuc 0 -ℤ to_z w64 (of_z w64 x))) ≡ pos r.0
  turned-is = held (negsuc 0 -ℤ to_z w64 (of_z w64 x)) turned-fits ∙ turned

  pub turned-natural : T (non_neg (to_z w64 (of_z w64 (negsuc 0 -ℤ to_z w64 (of_z w64 x))))) × Fits w64 (nat_abs (to_z w64 (of_z w64 (negsuc 0 -ℤ to_z w64 (of_z w64 x)))))
  turned-natural = (
    subst (λ (z : ℤ). T (non_neg z)) (sym turned-is) tt,
    subst (λ (z : ℤ). Fits w64 (nat_abs z)) (sym turned-is) (record { fits = full r.0 small }),
  )
    where
      full : (b : ℕ) → b < 2 ^ 63 → b < 2 ^ 64
      full b h = omega (arith, h)

  pub turned_le : nat_abs (to_z w64 (of_z w64 (negsuc 0 -ℤ to_z w64 (of_z w64 x)))) ≤ 18446744073709551615
  turned_le = subst (λ (z : ℤ). nat_abs z ≤ 18446744073709551615) (sym turned-is) (full r.0 small)
    where
      full : (b : ℕ) → b < 2 ^ 63 → b ≤ 18446744073709551615
      full b h = omega (arith, h)

  pub turned-bits : 18446744073709551615 - nat_abs (to_z w64 (of_z w64 (negsuc 0 -ℤ to_z w64 (of_z w64 x)))) ≡ bits_of x
  turned-bits = ap (λ (z : ℤ). 18446744073709551615 - nat_abs z) turned-is ∙ same r.0 ∙ sym (ap bits_of r.1)
    where
      same : (b : ℕ) → 18446744073709551615 - b ≡ 2 ^ 64 - suc b
      same b = omega arith

module _ (x : ℤ) (f : SFits w64 x) (h : lt_z (to_z w64 (of_z w64 x)) (pos 0) ≡ false) where
  abbrev p : (b : ℕ) × (x ≡ pos b)
  p = natural x (zero_held x x f f false h)

  pub plain-natural : T (non_neg (to_z w64 (of_z w64 x))) × Fits w64 (nat_abs (to_z w64 (of_z w64 x)))
  plain-natural = (
    subst (λ (z : ℤ). T (non_neg z)) (sym (held x f ∙ p.1)) tt,
    subst (λ (z : ℤ). Fits w64 (nat_abs z)) (sym (held x f ∙ p.1)) (record { fits = full p.0 (subst (λ (z : ℤ). mag z < 2 ^ 63) p.1 f.sfits) }),
  )
    where
      full : (b : ℕ) → b < 2 ^ 63 → b < 2 ^ 64
      full b h = omega (arith, h)

  pub plain-bits : nat_abs (to_z w64 (of_z w64 x)) ≡ bits_of x
  plain-bits = ap nat_abs (held x f ∙ p.1) ∙ sym (ap bits_of p.1)

-- back: a whole number below 2 ^ 63 taken off -1
back_is : (n : ℕ) → negsuc 0 -ℤ pos n ≡ negsuc n
back_is zero = refl
back_is (suc n) = ap negsuc (less n)
  where
    less : (n : ℕ) → suc (0 + n) ≡ suc n
    less n = omega arith

module _ (b : ℕ) (h : 2 ^ 63 ≤ b) (g : b < 2 ^ 64) where
  left : 18446744073709551615 - b < 2 ^ 63
  left = go b h g
    where
      go : (b : ℕ) → 2 ^ 63 ≤ b → b < 2 ^ 64 → 18446744073709551615 - b < 2 ^ 63
      go b h g = omega (arith, h, g)

  back_at : negsuc 0 -ℤ to_z w64 (18446744073709551615 - b) ≡ negsuc (18446744073709551615 - b)
  back_at = ap (λ (z : ℤ). negsuc 0 -ℤ z) (to_z_pos w64 (18446744073709551615 - b) left) ∙ back_is (18446744073709551615 - b)

  pub back_fits : SFits w64 (negsuc 0 -ℤ to_z w64 (18446744073709551615 - b))
  back_fits = subst (λ (z : ℤ). SFits w64 z) (sym back_at) (record { sfits = left })

  pub back-bits : to_z w64 (of_z w64 (negsuc 0 -ℤ to_z w64 (18446744073709551615 - b))) ≡ of_bits b
  unfolding of_bits
  back-bits =
      held (negsuc 0 -ℤ to_z w64 (18446744073709551615 - b)) back_fits ∙ back_at ∙ ap negsuc (same b)
      ∙ sym (pick-false (ltb b (2 ^ 63)) (pos b) (negsuc (2 ^ 64 - suc b)) (le-ltb b (2 ^ 63) h))
    where
      same : (b : ℕ) → 18446744073709551615 - b ≡ 2 ^ 64 - suc b
      same b = omega arith

pub low_bits : (b : ℕ) → b < 2 ^ 63 → to_z w64 b ≡ of_bits b
unfolding of_bits
low_bits b h = to_z_pos w64 b h ∙ sym (pick_true (ltb b (2 ^ 63)) (pos b) (negsuc (2 ^ 64 - suc b)) (lt-ltb b (2 ^ 63) h))

-- there and back: the bits say the number, and every word is some number's
pub of-bits-of : (z : ℤ) → mag z < 2 ^ 63 → of_bits (bits_of z) ≡ z
unfolding of_bits
of-bits-of (pos n) h = pick_true (ltb n (2 ^ 63)) (pos n) (negsuc (2 ^ 64 - suc n)) (lt-ltb n (2 ^ 63) h)
of-bits-of (negsuc n) h =
    pick-false (ltb (2 ^ 64 - suc n) (2 ^ 63)) (pos (2 ^ 64 - suc n)) (negsuc (2 ^ 64 - suc (2 ^ 64 - suc n))) (le-ltb (2 ^ 64 - suc n) (2 ^ 63) (high n h))
    ∙ ap negsuc (again n h)
  where
    high : (n : ℕ) → n < 2 ^ 63 → 2 ^ 63 ≤ 2 ^ 64 - suc n
    high n h = omega (arith, h)

    again : (n : ℕ) → n < 2 ^ 63 → 2 ^ 64 - suc (2 ^ 64 - suc n) ≡ n
    again n h = omega (arith, h)
