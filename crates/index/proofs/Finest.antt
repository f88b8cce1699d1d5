-- The finest bin of a magnitude is the one whose bucket holds it. Assumes nothing.
use mathlib.Core.Path.{◌≡◌, sym, ap, ◌∙◌, subst}
use mathlib.Core.Bool.{Bool, true, false}
use mathlib.Core.Logic.{inl, inr}
use Prim.Native.Nat.{ℕ, zero, suc, ◌+◌, ◌*◌, ◌^◌, ◌≤◌, ◌<◌}
use native.Mathlib.Nat.{lt_of_le_of_lt, lt_of_lt_of_le, le_trans, le_of_eq, pow-le-pow_left, not-le_of_lt, zero-add}
use native.Mathlib.Omega.{arith}
use borrow.Author.Tests.{lt-ltb, le-ltb}
use lib.Dec.{ltb, lit<}
use lib.Pow.{pow_mono}
use Rattle.laws.specs.Counting.{bit}
use Rattle.laws.proofs.Powers.{pow_mul}
use Rattle.laws.proofs.Differences.{le_or-lt}
use Rattle.index.specs.Bins.{how_many, finest_bin}
use Rattle.index.proofs.Buckets.{Between}

-- a test that passes below k, and not from there to n, passes k times below n
how-many : (p : ℕ → Bool) (k n : ℕ) → k ≤ n → ((b : ℕ) → b < k → p b ≡ true) → ((b : ℕ) → k ≤ b → b < n → p b ≡ false) → how_many p n ≡ k
unfolding how_many
how-many p k zero h pass fail = omega (arith, h)
how-many p k (suc n) h pass fail =
    elim (le_or-lt k n) [
      | inl g ↦ ap (λ (b : Bool). bit b + how_many p n) (fail n g (omega arith)) ∙ zero-add (how_many p n) ∙ how-many p k n g pass (λ b l u. fail b l (omega (arith, u)))
      | inr g ↦
          ap (λ (b : Bool). bit b + how_many p n) (pass n g)
          ∙ ap (λ (m : ℕ). 1 + m) (how-many p n n (omega arith) (λ b l. pass b (omega (arith, l, g))) (λ b l u. absurd (not-le_of_lt u l)))
          ∙ last k n h g
    ]
  where
    last : (k n : ℕ) → k ≤ suc n → n < k → 1 + n ≡ k
    last k n h g = omega (arith, h, g)

-- the finest bin is the one whose bucket holds w
pub finest-is : (w b : ℕ) → b < 3 * 2 ^ 20 → Between 10 0 w b → finest_bin w ≡ b
unfolding finest_bin
finest-is w b h i = how-many (λ c. ltb (2 ^ (c + 1)) (w ^ 1024)) b (3 * 2 ^ 20) (omega (arith, h)) pass fail
  where
    pass : (c : ℕ) → c < b → ltb (2 ^ (c + 1)) (w ^ 1024) ≡ true
    pass c l = lt-ltb (2 ^ (c + 1)) (w ^ 1024) (lt_of_le_of_lt (pow_mono (up c b l)) i.above)
      where
        up : (c b : ℕ) → c < b → c + 1 ≤ b * 1
        up c b l = omega (arith, l)

    fail : (c : ℕ) → b ≤ c → c < 3 * 2 ^ 20 → ltb (2 ^ (c + 1)) (w ^ 1024) ≡ false
    fail c l u = le-ltb (2 ^ (c + 1)) (w ^ 1024) (le_trans i.within (pow_mono (up b c l)))
      where
        up : (b c : ℕ) → b ≤ c → (b + 1) * 1 ≤ c + 1
        up b c l = omega (arith, l)

-- each number from 2 up to 2 ^ (n + 1) lies between two neighbouring powers of two
between : (a n : ℕ) → 1 < a → a ≤ 2 ^ (n + 1) → (b : ℕ) × (b ≤ n) × (2 ^ (b * 1) < a) × (a ≤ 2 ^ ((b + 1) * 1))
between a zero l h = (0, omega arith, l, h)
between a (suc n) l h =
    elim (le_or-lt a (2 ^ (n + 1))) [
      | inl g ↦ let r = between a n l g in (r.0, weak r.0 n r.1, r.2, r.3)
      | inr g ↦ (suc n, omega arith, subst (λ (k : ℕ). 2 ^ k < a) (low n) g, subst (λ (k : ℕ). a ≤ 2 ^ k) (high n) h)
    ]
  where
    weak : (b n : ℕ) → b ≤ n → b ≤ suc n
    weak b n h = omega (arith, h)

    low : (n : ℕ) → n + 1 ≡ suc n * 1
    low n = omega arith

    high : (n : ℕ) → suc n + 1 ≡ (suc n + 1) * 1
    high n = omega arith

-- a magnitude that the bins can hold
pub record Held (w : ℕ) : Type 0 where
  pub least : 1 < w
  pub most : w ≤ 2 ^ 3072

-- its finest bin's bucket holds it
pub finest_in : (w : ℕ) → Held w → Between 10 0 w (finest_bin w)
finest_in w h =
    let r = between (w ^ 1024) 3145727 one top in
    let i : Between 10 0 w r.0 = record { above = r.2; within = r.3 } in
    subst (λ (b : ℕ). Between 10 0 w b) (sym (finest-is w r.0 (small r.0 r.1) i)) i
  where
    one : 1 < w ^ 1024
    one = lt_of_lt_of_le (lit< tt) (pow-le-pow_left h.least 1024)

    top : w ^ 1024 ≤ 2 ^ (3145727 + 1)
    top = le_trans (pow-le-pow_left h.most 1024) (le_of_eq (pow_mul 2 3072 1024))

    small : (b : ℕ) → b ≤ 3145727 → b < 3 * 2 ^ 20
    small b h = omega (arith, h)
