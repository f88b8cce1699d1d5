-- The guess of a rank. It rises with the mantissa, and at each bound and just above it antt computes it: so it is near everywhere. Assumes nothing.
use mathlib.Core.Bool.{Bool, true, ◌&&◌}
use mathlib.Core.Logic.{inl, inr}
use mathlib.Core.Path.{◌≡◌, refl, sym, ap, ◌∙◌, subst}
use Prim.Native.Nat.{ℕ, zero, suc, ◌+◌, ◌-◌, ◌*◌, ◌/◌, ◌%◌, ◌^◌, ◌≤◌, ◌<◌}
use native.Mathlib.Nat.{le_trans, le_of_eq, mul_comm, mul-le-mul_left, div-le_of_le-mul}
use native.Mathlib.Omega.{arith}
use lib.Dec.{T, leb, ltb, leb→le, ltb→lt}
use lib.ListN.{get_or}
use lib.Pow.{shr_mono}
use Rattle.laws.proofs.Differences.{le_or-lt}
use Rattle.laws.proofs.Every.{every, at, both_left, both_right}
use Rattle.bounds.specs.Table.{rows}
use Rattle.bounds.proofs.Rule.{entry, row, at_entry, bounded}
use Rattle.index.specs.Ranked.{Near}
use Rattle.index.specs.Pieces.{pieces}
use Rattle.index.proofs.Ranks.{ranked-first, ranked-last, ranked-up, ranked-down}

-- where piece p starts, and how far it rises
abbrev start : ℕ → ℕ
start p = get_or pieces p 0 / 4294967296

abbrev rise : ℕ → ℕ
rise p = get_or pieces p 0 % 4294967296

-- the height of a chord at part f of 2 ^ 32, that of the chords at x of 2 ^ 38, and the guess
abbrev height : ℕ → ℕ → ℕ → ℕ
height s r f = s + r * f / 4294967296

unfoldable pub chord : ℕ → ℕ
chord x = height (start (x / 4294967296)) (rise (x / 4294967296)) (x % 4294967296)

unfoldable pub guessed : ℕ → ℕ
guessed m = chord ((m - 4503599627370496) / 16384) / 1048576

-- the first n pieces end where the next one starts or below, and no piece goes up to 1024 ranks
climbs : ℕ → Bool
climbs zero = true
climbs (suc n) = leb (start n + rise n) (start (n + 1)) && climbs n

all-climb : T (climbs 63)
unfolding climbs
all-climb = tt

climb : (n p : ℕ) → T (climbs n) → p < n → start p + rise p ≤ start (p + 1)
unfolding climbs
climb zero p t h = absurd (none p h)
  where
    none : (p : ℕ) → p < 0 → ⊥
    none p h = omega (arith, h)
climb (suc n) p t h =
    elim (le_or-lt n p) [
      | inl g ↦ subst (λ (i : ℕ). start i + rise i ≤ start (i + 1)) (same p n h g) (leb→le (start n + rise n) (start (n + 1)) (both_left (leb (start n + rise n) (start (n + 1))) (climbs n) t))
      | inr g ↦ climb n p (both_right (leb (start n + rise n) (start (n + 1))) (climbs n) t) g
    ]
  where
    same : (p n : ℕ) → p < suc n → n ≤ p → n ≡ p
    same p n h g = omega (arith, h, g)

low : ℕ → ℕ → Bool
low p e = leb (e / 4294967296 + e % 4294967296) 1073741823

all-low : T (every low 0 pieces)
unfolding low
all-low = tt

top : (p : ℕ) → p < 64 → start p + rise p ≤ 1073741823
unfolding low
top p h = leb→le (start p + rise p) 1073741823 (at low 0 pieces 0 all-low p h)

-- what rises at each step rises
rises : (f : ℕ → ℕ) (n : ℕ) → ((i : ℕ) → i < n → f i ≤ f (i + 1)) → (x y : ℕ) → x ≤ y → y ≤ n → f x ≤ f y
rises f n s x zero h g = le_of_eq (ap f (none x h))
  where
    none : (x : ℕ) → x ≤ 0 → x ≡ 0
    none x h = omega (arith, h)
rises f n s x (suc y) h g =
    elim (le_or-lt x y) [
      | inl k ↦ le_trans (rises f n s x y k (under y n g)) (subst (λ (i : ℕ). f y ≤ f i) (one y) (s y g))
      | inr k ↦ le_of_eq (ap f (same x y h k))
    ]
  where
    under : (y n : ℕ) → suc y ≤ n → y ≤ n
    under y n g = omega (arith, g)

    one : (y : ℕ) → y + 1 ≡ suc y
    one y = omega arith

    same : (x y : ℕ) → x ≤ suc y → y < x → x ≡ suc y
    same x y h k = omega (arith, h, k)

add : (s a b : ℕ) → a ≤ b → s + a ≤ s + b
add s a b h = omega (arith, h)

-- a chord stays below its end, and rises
below_end : (s r f : ℕ) → f < 4294967296 → height s r f ≤ s + r
below_end s r f g = add s (r * f / 4294967296) r (div-le_of_le-mul 4294967296 (le_trans (mul-le-mul_left r (under f g)) (le_of_eq (mul_comm r 4294967296))))
  where
    under : (f : ℕ) → f < 4294967296 → f ≤ 4294967296
    under f g = omega (arith, g)

steeper : (s r f g : ℕ) → f ≤ g → height s r f ≤ height s r g
steeper s r f g h = add s (r * f / 4294967296) (r * g / 4294967296) (shr_mono 32 (mul-le-mul_left r h))

chord-end : (x : ℕ) → chord x ≤ start (x / 4294967296) + rise (x / 4294967296)
unfolding chord
chord-end x = below_end (start (x / 4294967296)) (rise (x / 4294967296)) (x % 4294967296) (omega arith)

chord-step : (x : ℕ) → x < 274877906943 → chord x ≤ chord (x + 1)
unfolding chord
chord-step x h =
    elim (le_or-lt (x % 4294967296) 4294967294) [
      | inl g ↦
          subst (λ (p : ℕ). chord x ≤ height (start p) (rise p) ((x + 1) % 4294967296)) (stays x g)
          (steeper (start (x / 4294967296)) (rise (x / 4294967296)) (x % 4294967296) ((x + 1) % 4294967296) (part x g))
      | inr g ↦
          le_trans (chord-end x)
          (le_trans (climb 63 (x / 4294967296) all-climb (before x h g))
          (le_trans (le_of_eq (ap start (moves x g))) (first (start ((x + 1) / 4294967296)) (rise ((x + 1) / 4294967296) * ((x + 1) % 4294967296) / 4294967296))))
    ]
  where
    stays : (x : ℕ) → x % 4294967296 ≤ 4294967294 → x / 4294967296 ≡ (x + 1) / 4294967296
    stays x g = omega (arith, g)

    part : (x : ℕ) → x % 4294967296 ≤ 4294967294 → x % 4294967296 ≤ (x + 1) % 4294967296
    part x g = omega (arith, g)

    moves : (x : ℕ) → 4294967294 < x % 4294967296 → x / 4294967296 + 1 ≡ (x + 1) / 4294967296
    moves x g = omega (arith, g)

    before : (x : ℕ) → x < 274877906943 → 4294967294 < x % 4294967296 → x / 4294967296 < 63
    before x h g = omega (arith, h, g)

    first : (s q : ℕ) → s ≤ s + q
    first s q = omega arith

guessed-rises : (m n : ℕ) → m ≤ n → n < 2 ^ 53 → guessed m ≤ guessed n
unfolding guessed
guessed-rises m n h g = shr_mono 20 (rises chord 274877906943 chord-step ((m - 4503599627370496) / 16384) ((n - 4503599627370496) / 16384) (omega (arith, h)) (omega (arith, g)))

guessed-small : (m : ℕ) → m < 2 ^ 53 → guessed m < 1024
unfolding guessed
guessed-small m h = small (chord x) (le_trans (chord-end x) (top (x / 4294967296) (omega (arith, h))))
  where
    x : ℕ
    x = (m - 4503599627370496) / 16384

    small : (c : ℕ) → c ≤ 1073741823 → c / 1048576 < 1024
    small c h = omega (arith, h)

-- at a bound the guess is not above its place, and just above it not below
fair : ℕ → ℕ → Bool
fair k b = leb (guessed b) k && (leb k (guessed (suc b)) && ltb (suc b) (2 ^ 53))

all_fair : T (every (row fair) 0 rows)
unfolding fair guessed chord
all_fair = tt

fair-low : (k : ℕ) → k < 1024 → guessed (entry k) ≤ k
unfolding fair
fair-low k h = leb→le (guessed (entry k)) k (both_left (leb (guessed (entry k)) k) (leb k (guessed (suc (entry k))) && ltb (suc (entry k)) (2 ^ 53)) (at_entry fair all_fair k h))

fair-rest : (k : ℕ) → k < 1024 → T (leb k (guessed (suc (entry k))) && ltb (suc (entry k)) (2 ^ 53))
unfolding fair
fair-rest k h = both_right (leb (guessed (entry k)) k) (leb k (guessed (suc (entry k))) && ltb (suc (entry k)) (2 ^ 53)) (at_entry fair all_fair k h)

fair-high : (k : ℕ) → k < 1024 → k ≤ guessed (suc (entry k))
fair-high k h = leb→le k (guessed (suc (entry k))) (both_left (leb k (guessed (suc (entry k)))) (ltb (suc (entry k)) (2 ^ 53)) (fair-rest k h))

entry-small : (k : ℕ) → k < 1024 → entry k < 2 ^ 53
entry-small k h = under (entry k) (ltb→lt (suc (entry k)) (2 ^ 53) (both_right (leb k (guessed (suc (entry k)))) (ltb (suc (entry k)) (2 ^ 53)) (fair-rest k h)))
  where
    under : (b : ℕ) → suc b < 2 ^ 53 → b < 2 ^ 53
    under b h = omega (arith, h)

-- so each bound before the guess lies below m, and each bound behind it does not
before-guess : (m k : ℕ) → k < guessed m → k < 1024 → 2 ^ (k + 1 + 53247) < m ^ 1024
before-guess m k g h =
    elim (le_or-lt m (entry k)) [
      | inl l ↦ absurd (clash k (guessed m) (guessed (entry k)) g (guessed-rises m (entry k) l (entry-small k h)) (fair-low k h))
      | inr l ↦ ranked-up m k (entry k) (bounded k h) l
    ]
  where
    clash : (k a b : ℕ) → k < a → a ≤ b → b ≤ k → ⊥
    clash k a b g r f = omega (arith, g, r, f)

behind-guess : (m k : ℕ) → m < 2 ^ 53 → guessed m < k → k < 1024 → m ^ 1024 ≤ 2 ^ (k + 53248)
behind-guess m k e g h =
    elim (le_or-lt m (entry k)) [
      | inl l ↦ ranked-down m k (entry k) (bounded k h) l
      | inr l ↦ absurd (clash k (guessed m) (guessed (suc (entry k))) g (fair-high k h) (guessed-rises (suc (entry k)) m l e))
    ]
  where
    clash : (k a b : ℕ) → a < k → k ≤ b → b ≤ a → ⊥
    clash k a b g f r = omega (arith, g, f, r)

above-guess : (m g : ℕ) → 2 ^ 52 ≤ m → g ≤ guessed m → g < 1024 → 2 ^ (g + 53247) < m ^ 1024
above-guess m zero h e l = ranked-first m h
above-guess m (suc k) h e l = subst (λ (i : ℕ). 2 ^ (i + 53247) < m ^ 1024) (one k) (before-guess m k e (under k l))
  where
    one : (k : ℕ) → k + 1 ≡ suc k
    one k = omega arith

    under : (k : ℕ) → suc k < 1024 → k < 1024
    under k l = omega (arith, l)

within-guess : (m g : ℕ) → m < 2 ^ 53 → guessed m ≡ g → g < 1024 → m ^ 1024 ≤ 2 ^ (g + 1 + 53248)
within-guess m g h e l =
    elim (le_or-lt 1023 g) [
      | inl k ↦ subst (λ (i : ℕ). m ^ 1024 ≤ 2 ^ (i + 53248)) (last g k l) (ranked-last m h)
      | inr k ↦ behind-guess m (g + 1) h (next (guessed m) g e) (under g k)
    ]
  where
    last : (g : ℕ) → 1023 ≤ g → g < 1024 → 1024 ≡ g + 1
    last g k l = omega (arith, k, l)

    next : (a g : ℕ) → a ≡ g → a < g + 1
    next a g e = omega (arith, e)

    under : (g : ℕ) → g < 1023 → g + 1 < 1024
    under g k = omega (arith, k)

pub near : (m : ℕ) → 2 ^ 52 ≤ m → m < 2 ^ 53 → Near m (guessed m)
near m h l =
    let s = guessed-small m l in
    record { small = s; above = above-guess m (guessed m) h (le_of_eq refl) s; within = within-guess m (guessed m) l refl s }

-- as the code has it, from the entry e of the pieces
pub as-guessed : (m e : ℕ) → m < 2 ^ 53 → e ≡ get_or pieces ((m - 4503599627370496) / 16384 / 4294967296 % 64) 0 → guessed m ≡ (e / 4294967296 + e % 4294967296 * ((m - 4503599627370496) / 16384 % 4294967296) / 4294967296) / 1048576
unfolding guessed chord
as-guessed m e h p =
    ap (λ (i : ℕ). height (start i) (rise i) ((m - 4503599627370496) / 16384 % 4294967296) / 1048576) (same m h)
    ∙ ap (λ (a : ℕ). height (a / 4294967296) (a % 4294967296) ((m - 4503599627370496) / 16384 % 4294967296) / 1048576) (sym p)
  where
    same : (m : ℕ) → m < 2 ^ 53 → (m - 4503599627370496) / 16384 / 4294967296 ≡ (m - 4503599627370496) / 16384 / 4294967296 % 64
    same m h = omega (arith, h)
