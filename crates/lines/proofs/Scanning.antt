-- A number read digit by digit up to a mark. Assumes nothing.
use Prim.Native.Nat.{ℕ, zero, suc, min, ◌+◌, ◌-◌, ◌*◌, ◌^◌, ◌≤◌, ◌<◌}
use mathlib.Core.Path.{◌≡◌, refl, sym, ap, ◌∙◌}
use mathlib.Core.Logic.{⊎_elim}
use mathlib.Core.Bool.{Bool, true, false, not}
use Rattle.std.specs.Prelude.{Option, Some, None}
use mathlib.Core.List.{List, [], ◌∷◌}
use native.Mathlib.Omega.{arith}
use native.Mathlib.Nat.{pow-suc, pow-succ', pow-le-pow_right, mul_assoc, add-mul}
use native.Mathlib.Numerals.{add-one}
use lib.Dec.{lit<, ltb, eqb}
use lib.ListN.{length, get_or, take, drop}
use borrow.Author.Tests.{lt-ltb, le-ltb, le-leb, lt-leb, eq-eqb, ne_eqb, eqb-true}
use Rattle.laws.specs.Pick.{pick}
use Rattle.laws.proofs.Bools.{flag, not-both, pick_true, pick-false}
use Rattle.laws.proofs.Differences.{le_or-lt}
use Rattle.text.specs.Fields.{until}
use Rattle.text.specs.Numbers.{digit_of, spelled_from, ill_led, decimal_of}
use Rattle.text.proofs.Spelling.{from-here}
use Rattle.text.proofs.Splitting.{until-turn, until_stop, until_none, until-is}
use Rattle.text.proofs.Pairing.{digit-zero, below-digits, above_decimals}
use Rattle.lines.specs.Spelled.{word_in, word_of}
use Rattle.lines.specs.declared.attributes.Word.{Word}
use Rattle.lines.specs.Scanned.{Says, Read, behind, word, word_end, Scanned}

until-more : (m : ℕ) (bs : List ℕ) (i : ℕ) → i < length bs → (get_or bs i 0 ≡ m → ⊥) → until m (drop i bs) ≡ get_or bs i 0 ∷ until m (drop (i + 1) bs)
unfolding until
until-more m bs i h n = ap (until m) (from-here i bs h) ∙ pick-false _ _ _ (ne_eqb (get_or bs i 0) m n)

digit-says : (x b : ℕ) (u : List ℕ) → digit_of b < 10 → x * 10 + digit_of b < 2 ^ 64 → spelled_from 10 x (b ∷ u) ≡ spelled_from 10 (x * 10 + digit_of b) u
unfolding spelled_from
digit-says x b u h g = pick-false _ _ _ (lt-leb 10 (digit_of b) h) ∙ pick-false _ _ _ (lt-leb (2 ^ 64) (x * 10 + digit_of b) g)

-- none yet
pub says_none : (bs : List ℕ) (from : ℕ) → Says bs from 0 from
unfolding Says
says_none bs from m q = (refl, refl)

-- a digit more
pub says-more : (bs : List ℕ) (from x j d : ℕ) → j < length bs → d ≡ digit_of (get_or bs j 0) → d < 10 → x * 10 + d < 2 ^ 64 → Says bs from x j → Says bs from (x * 10 + d) (j + 1)
unfolding Says
says-more bs from x j d h e l g s m q =
    let b = get_or bs j 0 in
    let y : digit_of b < 10 = omega (arith, e) in
    let n : b ≡ m → ⊥ = λ r. omega (arith, ap digit_of r) in
    let u = until-more m bs j h n in
    let k : length (until m (drop j bs)) ≡ suc (length (until m (drop (j + 1) bs))) = ap length u in
    let f : x * 10 + digit_of b < 2 ^ 64 = omega (arith, e) in (
      omega (arith, (s m q).0, k),
      (s m q).1
          ∙ ap (spelled_from 10 x) u
          ∙ digit-says x b (until m (drop (j + 1) bs)) y f
          ∙ ap (λ (n : ℕ). spelled_from 10 (x * 10 + n) (until m (drop (j + 1) bs))) (sym e),
    )

-- whether a byte stands that is not the mark
pub other-stands : (m : ℕ) (bs : List ℕ) (i : ℕ) → i < length bs → not (eqb (get_or bs i 0) m) ≡ ltb 0 (length (until m (drop i bs)))
other-stands m bs i h =
    ⊎_elim
    (λ (e : eqb (get_or bs i 0) m ≡ true). ap not e ∙ sym (le-ltb 0 (length (until m (drop i bs))) (omega (arith, until_stop m bs i h (eqb-true (get_or bs i 0) m e)))))
    (λ (e : eqb (get_or bs i 0) m ≡ false).
    let n : get_or bs i 0 ≡ m → ⊥ = λ r. not-both (eqb (get_or bs i 0) m) (eq-eqb (get_or bs i 0) m r) e in
    ap not e ∙ sym (lt-ltb 0 (length (until m (drop i bs))) (omega (arith, until-turn m bs i h n))))
    (flag (eqb (get_or bs i 0) m))

pub none-stands : (m : ℕ) (bs : List ℕ) (i : ℕ) → length bs ≤ i → false ≡ ltb 0 (length (until m (drop i bs)))
none-stands m bs i h = sym (le-ltb 0 (length (until m (drop i bs))) (omega (arith, until_none m bs i h)))

-- ten digits fit
pub run_fits : (x i d : ℕ) → i < 10 → x < 10 ^ i → d < 10 → (x * 10 + d < 10 ^ (i + 1)) × (x * 10 + d < 2 ^ 64)
run_fits x i d h l s =
    let n : i ≤ 9 = omega arith in
    let m : 10 ^ i ≤ 10 ^ 9 = pow-le-pow_right (lit< tt) n in
    let r : 10 ^ (i + 1) ≡ 10 ^ i * 10 = ap (λ (n : ℕ). 10 ^ n) (add-one i) ∙ pow-suc 10 i in
    (omega (arith, r, l), omega (arith, m, l))

-- Numbers that are no words.
word-pick : (t : Bool) (n : Option ℕ) → word_in n ≡ None → word_in (pick t None n) ≡ None
unfolding pick
word-pick true n h = refl
word-pick false n h = h

large : (x : ℕ) (u : List ℕ) → 2 ^ 32 ≤ x → word_in (spelled_from 10 x u) ≡ None
unfolding spelled_from
large x [] h = pick-false _ _ _ (le-ltb x (2 ^ 32) h)
large x (b ∷ u) h = word-pick _ _ (word-pick _ _ (large (x * 10 + digit_of b) u (omega arith)))

grown : (m x : ℕ) (u : List ℕ) → 10 ^ 10 ≤ x * 10 ^ m → m ≤ length u → word_in (spelled_from 10 x u) ≡ None
unfolding spelled_from
grown zero x u h l = large x u (omega arith)
grown (suc m) x [] h l = absurd (omega arith)
grown (suc m) x (b ∷ u) h l =
    let p = 10 ^ m in
    let e : x * 10 ^ suc m ≡ x * 10 * p = ap (λ (n : ℕ). x * n) (pow-succ' 10 m) ∙ sym (mul_assoc x 10 p) in
    word-pick _ _ (word-pick _ _ (grown m (x * 10 + digit_of b) u (omega (arith, e, h, add-mul (x * 10) (digit_of b) p)) (omega arith)))

pub led-none : (u : List ℕ) → ill_led u ≡ true → word_of u ≡ None
unfolding word_of decimal_of
led-none u h = ap word_in (pick_true (ill_led u) None (spelled_from 10 0 u) h)

pub word-is : (u : List ℕ) (n : Option ℕ) → ill_led u ≡ false → spelled_from 10 0 u ≡ n → word_of u ≡ word_in n
unfolding word_of decimal_of
word-is u n h e = ap word_in (pick-false (ill_led u) None (spelled_from 10 0 u) h ∙ e)

pub none-spelled : (u : List ℕ) → word_in (spelled_from 10 0 u) ≡ None → word_of u ≡ None
unfolding word_of decimal_of
none-spelled u h = word-pick (ill_led u) (spelled_from 10 0 u) h

zero_led : (b : ℕ) (u : List ℕ) → 11 ≤ suc (length u) → b ≡ 48 → ill_led (b ∷ u) ≡ true
unfolding ill_led
zero_led b u h e =
    let y : suc (length u) ≡ 0 → ⊥ = λ r. omega arith in
    let z : suc (length u) ≡ 1 → ⊥ = λ r. omega arith in
    pick-false _ _ _ (ne_eqb (suc (length u)) 0 y) ∙ pick-false _ _ _ (ne_eqb (suc (length u)) 1 z) ∙ eq-eqb b 48 e

led-by : (b : ℕ) (u : List ℕ) → 10 ≤ length u → (b ≡ 48 → ⊥) → word_in (spelled_from 10 0 (b ∷ u)) ≡ None
unfolding spelled_from
led-by b u h n =
    let d : 1 ≤ digit_of b = ⊎_elim (λ (l : 1 ≤ digit_of b). l) (λ (l : digit_of b < 1). let z : digit_of b ≡ 0 = omega arith in absurd (n (digit-zero b z))) (le_or-lt 1 (digit_of b)) in
    word-pick _ _ (word-pick _ _ (grown 10 (0 * 10 + digit_of b) u (omega arith) h))

-- no number of eleven digits is a word
long-none : (u : List ℕ) → 11 ≤ length u → word_of u ≡ None
long-none [] h = absurd (omega arith)
long-none (b ∷ u) h =
    ⊎_elim
    (λ (e : eqb b 48 ≡ true). led-none (b ∷ u) (zero_led b u h (eqb-true b 48 e)))
    (λ (e : eqb b 48 ≡ false). none-spelled (b ∷ u) (led-by b u (omega arith) (λ r. not-both (eqb b 48) (eq-eqb b 48 r) e)))
    (flag (eqb b 48))

no_digit-first : (x b : ℕ) (u : List ℕ) → 10 ≤ digit_of b → spelled_from 10 x (b ∷ u) ≡ None
unfolding spelled_from
no_digit-first x b u h = pick_true _ _ _ (le-leb 10 (digit_of b) h)

empty : (l : List ℕ) → length l ≡ 0 → l ≡ []
empty [] h = refl
empty (b ∷ l) h = absurd (omega arith)

-- What was read up to a place where a byte stands that is not the mark, is no word.
module _ (bs : List ℕ) (from m x to : ℕ) (q : 10 ≤ digit_of m) (r : Read bs from (min (from + 10) (length bs)) x to) where
  pub goes_none : 0 < length (until m (drop to bs)) → word_of (until m (drop from bs)) ≡ None
  unfolding Says
  goes_none h =
      let l : to < length bs = ⊎_elim (λ (g : length bs ≤ to). absurd (omega (arith, until_none m bs to g))) (λ (g : to < length bs). g) (le_or-lt (length bs) to) in
      let n : get_or bs to 0 ≡ m → ⊥ = λ e. omega (arith, until_stop m bs to l e) in
      let s = r.says m q in
      ⊎_elim
      (λ (d : 10 ≤ digit_of (get_or bs to 0)).
      none-spelled (until m (drop from bs)) (ap word_in (s.1 ∙ ap (spelled_from 10 x) (until-more m bs to l n) ∙ no_digit-first x (get_or bs to 0) (until m (drop (to + 1) bs)) d)))
      (λ (d : min (from + 10) (length bs) ≤ to). long-none (until m (drop from bs)) (omega (arith, s.0)))
      r.stop

  -- what was read up to the mark or the end
  pub stops-there : length (until m (drop to bs)) ≡ 0 → (to ≡ from + length (until m (drop from bs))) × (spelled_from 10 0 (until m (drop from bs)) ≡ Some x) × (take (to - from) (drop from bs) ≡ until m (drop from bs))
  unfolding Says spelled_from
  stops-there h =
      let s = r.says m q in
      let e : to - from ≡ length (until m (drop from bs)) = omega (arith, s.0, h) in
      (omega (arith, s.0, h), s.1 ∙ ap (spelled_from 10 x) (empty (until m (drop to bs)) h), ap (λ (n : ℕ). take n (drop from bs)) e ∙ until-is m (drop from bs))

-- the marks are no digits
pub colon-mark : 10 ≤ digit_of 58
colon-mark = above_decimals 58 (lit< tt)

pub comma-mark : 10 ≤ digit_of 44
comma-mark = omega (arith, below-digits 44 (lit< tt))

-- no number
pub scanned-none : (u : List ℕ) (from : ℕ) (r : Option Word) → r ≡ None → word_of u ≡ None → Scanned u from (word r) (word_end r)
scanned-none u from r p k = (ap word p ∙ sym k, ap word_end p ∙ sym (ap (λ (x : Option Word). behind (word x) (from + length u)) p))
