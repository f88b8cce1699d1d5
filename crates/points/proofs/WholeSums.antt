-- The sum that a series of i64 values keeps: it takes a value, or would leave i64. Assumes nothing.
use Prim.Native.Nat.{ℕ, ◌<◌, ◌≤◌}
use mathlib.Core.Path.{◌≡◌, refl, sym, ap, subst, ◌∙◌}
use mathlib.Core.Bool.{Bool, true, false}
use native.Mathlib.Omega.{arith}
use borrow.Author.Tests.{eqb-false}
use lib.Dec.{T, eqb}
use lib.IntN.{ℤ, ◌+ℤ◌}
use Rattle.laws.specs.Pick.{pick}
use Rattle.laws.proofs.Bools.{pick_true, pick-false}
use Rattle.integers.specs.Answers.{in_range, sum_of, kept_sum, last_number}
use Rattle.std.specs.Prelude.{Option, Some, None}
use Rattle.points.specs.Whole.{whole}

no : {A : Type 0} → true ≡ false → A
no h = absurd (subst T h tt)

abbrev total_in : ℤ → Option ℤ → ℤ
total_in d None = d
total_in d (Some s) = s

abbrev is_in : Option ℤ → Bool
is_in None = false
is_in (Some s) = true

-- it takes the value, or not
pub record Takes (on : Bool) (x v s : ℤ) : Type 0 where
  pub takes : whole.takes on x v ≡ true
  pub sum : s ≡ whole.noted on x v

pub sum-takes : (on : Bool) (x v s : ℤ) → kept_sum on x v ≡ Some s → Takes on x v s
unfolding pick sum_of
sum-takes true x v s e = go (in_range (x +ℤ v)) refl
  where
    go : (b : Bool) → in_range (x +ℤ v) ≡ b → Takes true x v s
    go true d = record { takes = d; sum = sym (ap (total_in s) (sym (pick_true (in_range (x +ℤ v)) (Some (x +ℤ v)) None d) ∙ e)) }
    go false d = no (sym (ap is_in (sym (pick-false (in_range (x +ℤ v)) (Some (x +ℤ v)) None d) ∙ e)))
sum-takes false x v s e = record { takes = refl; sum = sym (ap (total_in s) e) }

pub sum-leaves : (on : Bool) (x v : ℤ) → kept_sum on x v ≡ None → whole.takes on x v ≡ false
unfolding pick sum_of
sum-leaves true x v e = go (in_range (x +ℤ v)) refl
  where
    go : (b : Bool) → in_range (x +ℤ v) ≡ b → in_range (x +ℤ v) ≡ false
    go true d = no (ap is_in (sym (pick_true (in_range (x +ℤ v)) (Some (x +ℤ v)) None d) ∙ e))
    go false d = d
sum-leaves false x v e = no (ap is_in e)

-- 16 is a refusal
pub last_some : (n : ℕ) → last_number n ≡ 0 → ⊥
last_some n e = go (eqb n 0) refl
  where
    other : (m : ℕ) → m ≡ 16 → m ≡ 0 → ⊥
    other m d f = omega (arith, d, f)

    go : (b : Bool) → eqb n 0 ≡ b → ⊥
    go true d = other (last_number n) (pick_true (eqb n 0) 16 n d) e
    go false d = eqb-false n 0 d (sym (pick-false (eqb n 0) 16 n d) ∙ e)

-- 16 or what comes first is the number of a refusal, where the latter is
pub last-within : (n k : ℕ) → n ≤ 16 → k ≡ last_number n → (0 < k) × (k ≤ 16)
last-within n k h e = go (eqb n 0) refl
  where
    first : (m : ℕ) → k ≡ m → m ≡ 16 → (0 < k) × (k ≤ 16)
    first m d f = (omega (arith, d, f), omega (arith, d, f))

    other : (m : ℕ) → k ≡ m → m ≡ n → (n ≡ 0 → ⊥) → (0 < k) × (k ≤ 16)
    other m d f z = (omega (arith, d, f, z), omega (arith, d, f, h))

    go : (b : Bool) → eqb n 0 ≡ b → (0 < k) × (k ≤ 16)
    go true d = first (last_number n) e (pick_true (eqb n 0) 16 n d)
    go false d = other (last_number n) e (pick-false (eqb n 0) 16 n d) (eqb-false n 0 d)
