-- The least change of scale: by what is known of it, guessed by digits, and for size 1 told by them. Assumes nothing.
use Prim.Native.Nat.{ℕ, suc, ◌+◌, ◌-◌, ◌*◌, ◌/◌, ◌%◌, ◌^◌, ◌≤◌, ◌<◌}
use mathlib.Core.Path.{◌≡◌, sym, ap, ap₂, ◌∙◌}
use mathlib.Core.Logic.{⊎_elim, inl}
use native.Mathlib.Nat.{add-mul, one-mul, div-mul-le_self, lt-div-mul-add, div-eq_of_lt, le-div_iff_mul-le, div-lt_iff_lt-mul, mul-le-mul_right, le_trans, lt_of_le_of_lt, mod-lt}
use native.Mathlib.Omega.{arith}
use lib.Bits.{bit_xor, xor_block, xor_lt, xor_self, xor_add_and, and_le_l, and_le_r}
use lib.Count.{count_leading_zeros, leading_top}
use lib.Pow.{split, high, pow-add, pow_pos, pow_mono, shr_mono}
use borrow.Author.Tests.{leb-true, le-leb}
use Rattle.laws.proofs.Differences.{le_or-lt}
use Rattle.laws.proofs.Powers.{pow_lt_back}
use Rattle.laws.proofs.Search.{least-is}
use Rattle.rows.specs.Rows.{narrow, lowering}

pub change-is : (size lo hi r : ℕ) → r ≤ 32 → hi / 2 ^ r - lo / 2 ^ r < size → ((d : ℕ) → d < r → size ≤ hi / 2 ^ d - lo / 2 ^ d) → r ≡ lowering size lo hi
unfolding lowering narrow
change-is size lo hi r h g f =
    least-is (narrow size lo hi) 0 32 r
    (record {
      ge = omega arith;
      le = omega arith;
      stop = inl (le-leb (suc (hi / 2 ^ r - lo / 2 ^ r)) size (omega arith));
      first = λ m _ q.
          ⊎_elim
          (λ (k : r ≤ m). k)
          (λ (k : m < r). absurd (omega (arith, f m k, leb-true (suc (hi / 2 ^ m - lo / 2 ^ m)) size q)))
          (le_or-lt r m);
    })

-- ---- by how many binary digits hi - lo has more than size - 1

-- z multiples of m apart, the quotients are z apart
apart : (m lo hi z : ℕ) → 0 < m → lo ≤ hi → z * m ≤ hi - lo → z ≤ hi / m - lo / m
apart m lo hi z p l h =
    let g : lo / m + z ≤ hi / m = (le-div_iff_mul-le p).1 (omega (arith, add-mul (lo / m) z m, div-mul-le_self lo m)) in
    omega arith

-- less than z multiples of m apart, they are z apart at most
near : (m lo hi z : ℕ) → 0 < m → lo ≤ hi → hi - lo < z * m → hi / m - lo / m ≤ z
near m lo hi z p l h =
    let g : hi / m < lo / m + 1 + z = (div-lt_iff_lt-mul p).1 (omega (arith, add-mul (lo / m + 1) z m, add-mul (lo / m) 1 m, one-mul m, lt-div-mul-add {a = lo} {b = m} p)) in
    omega arith

-- k levels are too few or right, and one more suffices
pub record Guess (lo hi size k : ℕ) : Type 0 where
  pub few : k < 32
  pub under : (d : ℕ) → d < k → size ≤ hi / 2 ^ d - lo / 2 ^ d
  pub next : hi / 2 ^ (k + 1) - lo / 2 ^ (k + 1) < size

-- size - 1 has j digits and one, how far they are apart has i digits and one
guess-at : (lo hi size i j : ℕ) → lo ≤ hi → hi < 2 ^ 32 → size - 1 < hi - lo → 2 ^ j ≤ size - 1 → size - 1 < 2 ^ suc j → 2 ^ i ≤ hi - lo → hi - lo < 2 ^ suc i
    → Guess lo hi size (i - j)
guess-at lo hi size i j l u h a b a' b' =
    let ij : j < suc i = pow_lt_back j (suc i) (lt_of_le_of_lt a (lt_of_le_of_lt (omega arith) b')) in
    let i32 : i < 32 = pow_lt_back i 32 (lt_of_le_of_lt a' (omega arith)) in
    let e : suc i ≡ j + (i - j + 1) = omega arith in
    record {
      few = omega arith;
      under = λ d g.
          apart (2 ^ d) lo hi size (pow_pos d) l
          (le_trans (mul-le-mul_right {m = size} {n = 2 ^ suc j} (2 ^ d) (omega arith))
          (le_trans (rw (sym (pow-add 2 (suc j) d)) (pow_mono {i = suc j + d} {j = i} (omega arith))) a'));
      next = lt_of_le_of_lt (near (2 ^ (i - j + 1)) lo hi (2 ^ j) (pow_pos (i - j + 1)) l (rw (e, pow-add 2 j (i - j + 1)) at b')) (omega arith);
    }

pub guess : (lo hi size : ℕ) → lo ≤ hi → hi < 2 ^ 32 → size < 2 ^ 64 → 0 < size - 1 → size - 1 < hi - lo
    → (count_leading_zeros 64 (hi - lo) ≤ count_leading_zeros 64 (size - 1)) × Guess lo hi size (count_leading_zeros 64 (size - 1) - count_leading_zeros 64 (hi - lo))
guess lo hi size l u w p h = go (leading_top 64 (size - 1) p (omega arith)) (leading_top 64 (hi - lo) (omega arith) (omega arith))
  where
    go : ((j : ℕ) × (count_leading_zeros 64 (size - 1) + suc j ≡ 64) × (2 ^ j ≤ size - 1) × (size - 1 < 2 ^ suc j))
        → ((i : ℕ) × (count_leading_zeros 64 (hi - lo) + suc i ≡ 64) × (2 ^ i ≤ hi - lo) × (hi - lo < 2 ^ suc i))
        → (count_leading_zeros 64 (hi - lo) ≤ count_leading_zeros 64 (size - 1)) × Guess lo hi size (count_leading_zeros 64 (size - 1) - count_leading_zeros 64 (hi - lo))
    go (j, ej, a, b) (i, ei, a', b') =
        let ij : j < suc i = pow_lt_back j (suc i) (lt_of_le_of_lt a (lt_of_le_of_lt (omega (arith, h)) b')) in
        let e : count_leading_zeros 64 (size - 1) - count_leading_zeros 64 (hi - lo) ≡ i - j = omega arith in
        (omega arith, rw e (guess-at lo hi size i j l u h a b a' b'))

-- ---- by the highest digit in which lo and hi differ

xor_shift : (a b k : ℕ) → bit_xor a b / 2 ^ k ≡ bit_xor (a / 2 ^ k) (b / 2 ^ k)
xor_shift a b k =
    let p : a % 2 ^ k < 2 ^ k = mod-lt a (pow_pos k) in
    let q : b % 2 ^ k < 2 ^ k = mod-lt b (pow_pos k) in
    ap (λ (n : ℕ). n / 2 ^ k) (ap₂ bit_xor (sym (split a k)) (sym (split b k)) ∙ xor_block k (a / 2 ^ k) (b / 2 ^ k) (a % 2 ^ k) (b % 2 ^ k) p q)
    ∙ high (bit_xor (a / 2 ^ k) (b / 2 ^ k)) k (xor_lt k (a % 2 ^ k) (b % 2 ^ k) p q)

-- where no digit differs
xor-none : (a b : ℕ) → bit_xor a b ≡ 0 → a ≡ b
xor-none a b e = omega (arith, e, xor_add_and a b, and_le_l a b, and_le_r a b)

differ : (lo hi : ℕ) → lo < hi → 0 < bit_xor lo hi
differ lo hi l =
    ⊎_elim
    (λ (h : bit_xor lo hi ≤ 0). let e : bit_xor lo hi ≡ 0 = omega arith in absurd (omega (arith, xor-none lo hi e)))
    (λ (h : 0 < bit_xor lo hi). h)
    (le_or-lt (bit_xor lo hi) 0)

-- a digit differs at d or above it
still-apart : (lo hi d : ℕ) → lo ≤ hi → 2 ^ d ≤ bit_xor lo hi → 1 ≤ hi / 2 ^ d - lo / 2 ^ d
still-apart lo hi d l h =
    let g : 1 ≤ bit_xor lo hi / 2 ^ d = (le-div_iff_mul-le (pow_pos d)).1 (rw one-mul h) in
    ⊎_elim
    (λ (k : 1 ≤ hi / 2 ^ d - lo / 2 ^ d). k)
    (λ (k : hi / 2 ^ d - lo / 2 ^ d < 1).
    let e : lo / 2 ^ d ≡ hi / 2 ^ d = omega (arith, shr_mono d l) in
    absurd (omega (arith, g, xor_shift lo hi d ∙ ap (λ (n : ℕ). bit_xor n (hi / 2 ^ d)) e ∙ xor_self (hi / 2 ^ d))))
    (le_or-lt 1 (hi / 2 ^ d - lo / 2 ^ d))

pub differing : (lo hi : ℕ) → lo < hi → hi < 2 ^ 32
    → (count_leading_zeros 32 (bit_xor lo hi) ≤ 32) × (32 - count_leading_zeros 32 (bit_xor lo hi) ≡ lowering 1 lo hi)
differing lo hi l u = go (leading_top 32 (bit_xor lo hi) (differ lo hi l) (xor_lt 32 lo hi (omega arith) u))
  where
    go : ((j : ℕ) × (count_leading_zeros 32 (bit_xor lo hi) + suc j ≡ 32) × (2 ^ j ≤ bit_xor lo hi) × (bit_xor lo hi < 2 ^ suc j))
        → (count_leading_zeros 32 (bit_xor lo hi) ≤ 32) × (32 - count_leading_zeros 32 (bit_xor lo hi) ≡ lowering 1 lo hi)
    go (j, e, a, b) =
        let k : 32 - count_leading_zeros 32 (bit_xor lo hi) ≡ suc j = omega arith in
        let same : lo / 2 ^ suc j ≡ hi / 2 ^ suc j = xor-none (lo / 2 ^ suc j) (hi / 2 ^ suc j) (sym (xor_shift lo hi (suc j)) ∙ div-eq_of_lt b) in
        (omega arith, rw k (change-is 1 lo hi (suc j) (omega arith) (omega (arith, same)) (λ d g. still-apart lo hi d (omega (arith, l)) (le_trans (pow_mono {i = d} {j = j} (omega (arith, g))) a))))
