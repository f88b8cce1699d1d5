-- Hexadecimal digits tested one by one, and taken two at a time. Assumes nothing.
use Rattle.std.proofs.Common.{Option, Some, None, ◌≡◌, ℕ, zero, suc, ◌+◌, ◌-◌, ◌*◌, ◌/◌, ◌%◌, ◌^◌, ◌<◌, ◌≤◌, Bool, true, false, ◌&&◌, ltb, leb, ◌⊎◌, List, [], ◌∷◌, length, get_or, drop, set, sym, refl, ap, ◌∙◌, subst, inl, inr, ⊎_elim, pow-suc, add-one, arith, lit<, drop_of_length-le, get_or-set_other, get_or-set_same, le-ltb, lt-ltb, le-leb, leb-true}
use Rattle.std.proofs.lemmas.Option.{none-some}
use mathlib.Core.Bool.{and-false}
use native.Mathlib.Nat.{pow-le-pow_right}
use borrow.Author.Tests.{lt-leb}
use Rattle.laws.specs.Pick.{pick}
use Rattle.laws.proofs.Bools.{not-both, and_left, and_right, and_intro, pick_true, pick-false}
use Rattle.laws.proofs.Differences.{le_or-lt}
use Rattle.text.specs.Numbers.{digit_of, spelled_from}
use Rattle.text.specs.Pairs.{is_decimal, is_letter, are_hex, pair_of, Paired, joined_to}
use Rattle.text.proofs.Spelling.{from-here, next_digit}

-- the n numbers from a to m, tested by a difference that wraps
pub in-range : (w b a n m : ℕ) → w < 256 → a + n ≤ 256 → a + n ≡ m + 1 → (w + a) % 256 ≡ b → ltb w n ≡ leb a b && leb b m
in-range w b a n m f t e q =
    ⊎_elim
    (λ (l : n ≤ w).
    le-ltb w n l
    ∙ sym (⊎_elim
    (λ (g : 256 ≤ w + a). ap (λ (t : Bool). t && leb b m) (lt-leb a b (omega (arith, q))))
    (λ (g : w + a < 256). ap (λ (t : Bool). leb a b && t) (lt-leb b m (omega (arith, q))) ∙ and-false (leb a b))
    (le_or-lt 256 (w + a))))
    (λ (l : w < n).
    let g : b ≡ w + a = omega (arith, q) in
    lt-ltb w n l ∙ sym (and_intro (leb a b) (leb b m) (le-leb a b (omega arith)) (le-leb b m (omega arith))))
    (le_or-lt n w)

decimal_digit : (b : ℕ) → 48 ≤ b → b ≤ 57 → digit_of b ≡ b - 48
unfolding digit_of pick
decimal_digit b h g = simp (le-ltb b 48 h, le-leb b 57 g) refl

letter_digit : (b : ℕ) → 65 ≤ b → b ≤ 70 → digit_of b ≡ b - 55
unfolding digit_of pick
letter_digit b h g =
    let k : 48 ≤ b = omega arith in
    let l : 57 < b = omega arith in
    simp (le-ltb b 48 k, lt-leb b 57 l, le-ltb b 65 h, le-leb b 70 g) refl

decimal-is : (b : ℕ) → is_decimal b ≡ true → digit_of b < 16
unfolding is_decimal
decimal-is b h =
    let l = leb-true 48 b (and_left (leb 48 b) (leb b 57) h) in
    let g = leb-true b 57 (and_right (leb 48 b) (leb b 57) h) in
    omega (arith, decimal_digit b l g)

letter-is : (b : ℕ) → is_letter b ≡ true → digit_of b < 16
unfolding is_letter
letter-is b h =
    let l = leb-true 65 b (and_left (leb 65 b) (leb b 70) h) in
    let g = leb-true b 70 (and_right (leb 65 b) (leb b 70) h) in
    omega (arith, letter_digit b l g)

pub below-digits : (b : ℕ) → b < 48 → digit_of b ≡ 16
unfolding digit_of pick
below-digits b h = simp (lt-ltb b 48 h) refl

between-digits : (b : ℕ) → 57 < b → b < 65 → digit_of b ≡ 16
unfolding digit_of pick
between-digits b h g =
    let k : 48 ≤ b = omega arith in
    simp (le-ltb b 48 k, lt-leb b 57 h, lt-ltb b 65 g) refl

above-digits : (b : ℕ) → 70 < b → digit_of b ≡ 16
unfolding digit_of pick
above-digits b h =
    let k : 48 ≤ b = omega arith in
    let l : 57 < b = omega arith in
    let m : 65 ≤ b = omega arith in
    simp (le-ltb b 48 k, lt-leb b 57 l, le-ltb b 65 m, lt-leb b 70 h) refl

pub above_decimals : (b : ℕ) → 57 < b → 10 ≤ digit_of b
above_decimals b h =
    ⊎_elim
    (λ (k : 65 ≤ b).
    ⊎_elim
    (λ (l : b ≤ 70). omega (arith, letter_digit b k l))
    (λ (l : 70 < b). omega (arith, above-digits b l))
    (le_or-lt b 70))
    (λ (k : b < 65). omega (arith, between-digits b h k))
    (le_or-lt 65 b)

-- one digit is 0
pub digit-zero : (b : ℕ) → digit_of b ≡ 0 → b ≡ 48
digit-zero b h =
    ⊎_elim
    (λ (k : 48 ≤ b).
    ⊎_elim
    (λ (l : b ≤ 57). omega (arith, decimal_digit b k l))
    (λ (l : 57 < b). absurd (omega (arith, above_decimals b l)))
    (le_or-lt b 57))
    (λ (k : b < 48). absurd (omega (arith, below-digits b k)))
    (le_or-lt 48 b)

-- what stands in a `Some`
abbrev pub got : Option ℕ → ℕ
got None = 0
got (Some x) = x

-- what the code's digit is
pub digit-none : (b : ℕ) → 10 ≤ digit_of b → None ≡ pick (ltb (digit_of b) 10) (Some (digit_of b)) None
digit-none b h = sym (pick-false _ _ _ (le-ltb (digit_of b) 10 h))

pub digit-some : (b : ℕ) → 48 ≤ b → b ≤ 57 → Some (b - 48) ≡ pick (ltb (digit_of b) 10) (Some (digit_of b)) None
digit-some b h g =
    let e = decimal_digit b h g in
    sym (pick_true _ _ _ (lt-ltb (digit_of b) 10 (omega (arith, e))) ∙ ap Some e)

pub digit_low : (b d : ℕ) → pick (ltb (digit_of b) 10) (Some (digit_of b)) None ≡ Some d → (d < 10) × (d ≡ digit_of b)
digit_low b d e =
    ⊎_elim
    (λ (l : 10 ≤ digit_of b). absurd (none-some d (digit-none b l ∙ e)))
    (λ (l : digit_of b < 10).
    let f = ap got (sym (pick_true _ _ _ (lt-ltb (digit_of b) 10 l)) ∙ e) in
    (omega (arith, f), sym f))
    (le_or-lt 10 (digit_of b))

pub digit-high : (b : ℕ) → pick (ltb (digit_of b) 10) (Some (digit_of b)) None ≡ None → 10 ≤ digit_of b
digit-high b e =
    ⊎_elim
    (λ (l : 10 ≤ digit_of b). l)
    (λ (l : digit_of b < 10). absurd (none-some (digit_of b) (sym e ∙ pick_true _ _ _ (lt-ltb (digit_of b) 10 l))))
    (le_or-lt 10 (digit_of b))

no-decimal : (b : ℕ) → is_decimal b ≡ false → 48 ≤ b → 57 < b
unfolding is_decimal
no-decimal b h l =
    ⊎_elim
    (λ (g : b ≤ 57). absurd (not-both (is_decimal b) (and_intro (leb 48 b) (leb b 57) (le-leb 48 b l) (le-leb b 57 g)) h))
    (λ (g : 57 < b). g)
    (le_or-lt b 57)

no-letter : (b : ℕ) → is_letter b ≡ false → 65 ≤ b → 70 < b
unfolding is_letter
no-letter b h l =
    ⊎_elim
    (λ (g : b ≤ 70). absurd (not-both (is_letter b) (and_intro (leb 65 b) (leb b 70) (le-leb 65 b l) (le-leb b 70 g)) h))
    (λ (g : 70 < b). g)
    (le_or-lt b 70)

-- a byte that is neither is no digit
neither : (b : ℕ) → is_decimal b ≡ false → is_letter b ≡ false → 16 ≤ digit_of b
neither b h g =
    ⊎_elim
    (λ (k : 65 ≤ b). omega (arith, above-digits b (no-letter b g k)))
    (λ (k : b < 65).
    ⊎_elim
    (λ (l : 48 ≤ b). omega (arith, between-digits b (no-decimal b h l) k))
    (λ (l : b < 48). omega (arith, below-digits b l))
    (le_or-lt 48 b))
    (le_or-lt 65 b)

-- what is said by digits tested two ways
hex-cases : (d l r : Bool) → pick d r (pick l r false) ≡ false → ((d ≡ false) × (l ≡ false)) ⊎ (r ≡ false)
unfolding pick
hex-cases true l r h = inr h
hex-cases false true r h = inr h
hex-cases false false r h = inl (refl, refl)

hex-both : (d l r : Bool) → pick d r (pick l r false) ≡ true → ((d ≡ true) ⊎ (l ≡ true)) × (r ≡ true)
unfolding pick
hex-both true l r h = (inl refl, h)
hex-both false true r h = (inr refl, h)
hex-both false false r h = absurd (not-both false h refl)

-- none by either choice
pub pick-none : (t : Bool) (n : Option ℕ) → n ≡ None → pick t None n ≡ None
unfolding pick
pick-none true n h = refl
pick-none false n h = h

-- one that is no digit makes all none
pub hex-none : (x : ℕ) (bs : List ℕ) → are_hex bs ≡ false → spelled_from 16 x bs ≡ None
unfolding are_hex spelled_from
hex-none x [] h = absurd (not-both true refl h)
hex-none x (b ∷ bs) h =
    ⊎_elim
    (λ (g : (is_decimal b ≡ false) × (is_letter b ≡ false)). pick_true _ _ _ (le-leb 16 (digit_of b) (neither b g.0 g.1)))
    (λ (g : are_hex bs ≡ false). pick-none _ _ (pick-none _ _ (hex-none (x * 16 + digit_of b) bs g)))
    (hex-cases (is_decimal b) (is_letter b) (are_hex bs) h)

-- each is one
pub hex-at : (bs : List ℕ) (j : ℕ) → are_hex bs ≡ true → j < length bs → digit_of (get_or bs j 0) < 16
unfolding are_hex
hex-at [] j h l = absurd (omega arith)
hex-at (b ∷ bs) zero h l = ⊎_elim (decimal-is b) (letter-is b) (hex-both (is_decimal b) (is_letter b) (are_hex bs) h).0
hex-at (b ∷ bs) (suc j) h l = hex-at bs j (hex-both (is_decimal b) (is_letter b) (are_hex bs) h).1 (omega arith)

swapped : (all d l r : Bool) → pick (pick d all (pick l all false)) r false ≡ pick all (pick d r (pick l r false)) false
unfolding pick
swapped true true true r = refl
swapped true true false r = refl
swapped true false true r = refl
swapped true false false r = refl
swapped false true true r = refl
swapped false true false r = refl
swapped false false true r = refl
swapped false false false r = refl

pick_same : (b : Bool) → pick b true false ≡ b
unfolding pick
pick_same true = refl
pick_same false = refl

-- a turn of the test, and its end
pub hex-turn : (all : Bool) (bs : List ℕ) (i : ℕ) → i < length bs
    → pick (pick (is_decimal (get_or bs i 0)) all (pick (is_letter (get_or bs i 0)) all false)) (are_hex (drop (i + 1) bs)) false ≡ pick all (are_hex (drop i bs)) false
unfolding are_hex
hex-turn all bs i h =
    swapped all (is_decimal (get_or bs i 0)) (is_letter (get_or bs i 0)) (are_hex (drop (i + 1) bs))
    ∙ ap (λ (r : List ℕ). pick all (are_hex r) false) (sym (from-here i bs h))

pub hex-end : (all : Bool) (bs : List ℕ) (i : ℕ) → length bs ≤ i → pick all (are_hex (drop i bs)) false ≡ all
unfolding are_hex
hex-end all bs i h = ap (λ (r : List ℕ). pick all (are_hex r) false) (drop_of_length-le bs h) ∙ pick_same all

-- a digit's value without a test
pub value-is : (b : ℕ) → digit_of b < 16 → b % 16 + 9 * (b / 64) ≡ digit_of b
value-is b h =
    ⊎_elim
    (λ (k : 65 ≤ b).
    let g : b ≤ 70 = ⊎_elim (λ (l : b ≤ 70). l) (λ (l : 70 < b). absurd (omega (arith, above-digits b l))) (le_or-lt b 70) in
    omega (arith, letter_digit b k g))
    (λ (k : b < 65).
    let l : 48 ≤ b = ⊎_elim (λ (l : 48 ≤ b). l) (λ (l : b < 48). absurd (omega (arith, below-digits b l))) (le_or-lt 48 b) in
    let g : b ≤ 57 = ⊎_elim (λ (g : b ≤ 57). g) (λ (g : 57 < b). absurd (omega (arith, between-digits b g k))) (le_or-lt b 57) in
    omega (arith, decimal_digit b l g))
    (le_or-lt 65 b)

-- two digits more
pair_turn : (bs : List ℕ) (j x : ℕ) → are_hex bs ≡ true → 2 * j + 1 < length bs → x * 256 + 255 < 2 ^ 64
    → spelled_from 16 x (drop (2 * j) bs) ≡ spelled_from 16 (x * 256 + pair_of (get_or bs (2 * j) 0) (get_or bs (2 * j + 1) 0)) (drop (2 * j + 1 + 1) bs)
unfolding pair_of
pair_turn bs j x h l g =
    let a = digit_of (get_or bs (2 * j) 0) in
    let b = digit_of (get_or bs (2 * j + 1) 0) in
    let p : a < 16 = hex-at bs (2 * j) h (omega arith) in
    let q : b < 16 = hex-at bs (2 * j + 1) h l in
    let e : (x * 16 + a) * 16 + b ≡ x * 256 + (a * 16 + b) = omega arith in
    next_digit 16 x (2 * j) bs (omega arith) p (omega arith)
    ∙ next_digit 16 (x * 16 + a) (2 * j + 1) bs l q (omega arith)
    ∙ ap (λ (n : ℕ). spelled_from 16 n (drop (2 * j + 1 + 1) bs)) e

pair_small : (a b : ℕ) → digit_of a < 16 → digit_of b < 16 → pair_of a b < 256
unfolding pair_of
pair_small a b h g = omega arith

pub spelled-pairs : (k : ℕ) (bs out : List ℕ) → are_hex bs ≡ true → k ≤ 8 → 2 * k ≤ length bs → Paired bs k out
    → (joined_to k out < 256 ^ k) × (spelled_from 16 0 bs ≡ spelled_from 16 (joined_to k out) (drop (2 * k) bs))
unfolding joined_to Paired
spelled-pairs zero bs out h s l p = (lit< tt, refl)
spelled-pairs (suc k) bs out h s l p =
    let q = spelled-pairs k bs out h (omega arith) (omega arith) (λ j g. p j (omega arith)) in
    let x = joined_to k out in
    let y = pair_of (get_or bs (2 * k) 0) (get_or bs (2 * k + 1) 0) in
    let n : k ≤ 7 = omega arith in
    let m : 256 ^ k ≤ 256 ^ 7 = pow-le-pow_right (lit< tt) n in
    let z : y < 256 = pair_small _ _ (hex-at bs (2 * k) h (omega arith)) (hex-at bs (2 * k + 1) h (omega arith)) in
    let r : get_or out k 0 ≡ y = p k (omega arith) in
    let d : 2 * k + 1 + 1 ≡ 2 * suc k = omega arith in (
      omega (arith, pow-suc 256 k, q.0, r),
      q.1
          ∙ pair_turn bs k x h (omega arith) (omega (arith, m, q.0))
          ∙ ap (λ (n : ℕ). spelled_from 16 (x * 256 + n) (drop (2 * k + 1 + 1) bs)) (sym r)
          ∙ ap (λ (n : ℕ). spelled_from 16 (x * 256 + get_or out k 0) (drop n bs)) d,
    )

-- one pair more, put behind those that stand
pub pair_put : (bs out : List ℕ) (i y : ℕ) → i < length out → Paired bs i out → y ≡ pair_of (get_or bs (2 * i) 0) (get_or bs (2 * i + 1) 0) → Paired bs (i + 1) (set out i y)
unfolding Paired
pair_put bs out i y h p e j l =
    ⊎_elim
    (λ (g : i ≤ j).
    let q : j ≡ i = omega arith in
    subst (λ (k : ℕ). get_or (set out i y) k 0 ≡ pair_of (get_or bs (2 * k) 0) (get_or bs (2 * k + 1) 0)) (sym q) (get_or-set_same out i y 0 h ∙ e))
    (λ (g : j < i).
    let q : j ≡ i → ⊥ = λ r. omega arith in
    get_or-set_other out i j y 0 q ∙ p j g)
    (le_or-lt i j)

-- a byte more stays below 2^64
pub joined-fits : (x i : ℕ) → i < 8 → x < 256 ^ i → x * 256 + 255 < 2 ^ 64
joined-fits x i h l =
    let n : i ≤ 7 = omega arith in
    let m : 256 ^ i ≤ 256 ^ 7 = pow-le-pow_right (lit< tt) n in
    omega (arith, m, l)

joined-more : (x i y : ℕ) (bs : List ℕ) → x ≡ joined_to i bs → y ≡ get_or bs i 0 → x * 256 + y ≡ joined_to (i + 1) bs
unfolding joined_to
joined-more x i y bs e q = ap (λ (n : ℕ). n * 256 + y) e ∙ ap (λ (n : ℕ). joined_to i bs * 256 + n) q ∙ sym (ap (λ (n : ℕ). joined_to n bs) (add-one i))

pub joined-turn : (x i y : ℕ) (bs : List ℕ) → x < 256 ^ i → x ≡ joined_to i bs → y < 256 → y ≡ get_or bs i 0 → (x * 256 + y < 256 ^ (i + 1)) × (x * 256 + y ≡ joined_to (i + 1) bs)
joined-turn x i y bs l e s q =
    let r : 256 ^ (i + 1) ≡ 256 ^ i * 256 = ap (λ (n : ℕ). 256 ^ n) (add-one i) ∙ pow-suc 256 i in
    (omega (arith, r, l), joined-more x i y bs e q)

-- all eight
pub bits-joined : (bs out : List ℕ) → are_hex bs ≡ true → length bs ≡ 16 → Paired bs 8 out → spelled_from 16 0 bs ≡ Some (joined_to 8 out)
unfolding spelled_from
bits-joined bs out h l p =
    let g : length bs ≤ 2 * 8 = omega arith in
    (spelled-pairs 8 bs out h (omega arith) (omega arith) p).1 ∙ ap (spelled_from 16 (joined_to 8 out)) (drop_of_length-le bs g)
