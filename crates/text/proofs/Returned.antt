-- Bits that are written are read back: the definitions of both ways agree. Assumes nothing.
use Rattle.std.proofs.Common.{Some, ◌≡◌, ℕ, zero, suc, ◌+◌, ◌*◌, ◌/◌, ◌%◌, ◌^◌, ◌<◌, ◌≤◌, length, sym, refl, ap, ◌∙◌, subst, ⊎_elim, mod-lt, mod-eq_of_lt, mul_assoc, add-mul, le-mul_of_pos_right, arith, lit<, le-ltb, lt-ltb, eq-eqb, le-leb}
use native.Mathlib.Nat.{pow-succ', one-le-pow}
use lib.Arith.{mod-mul}
use borrow.Author.Tests.{lt-leb}
use Rattle.laws.specs.Pick.{pick}
use Rattle.laws.proofs.Bools.{pick_true, pick-false}
use Rattle.laws.proofs.Differences.{le_or-lt}
use Rattle.text.specs.Numbers.{digit_of, spelled_from, bits_of, glyph_of, hex_digits}

glyph_digit : (d : ℕ) → d < 16 → digit_of (glyph_of d) ≡ d
unfolding digit_of glyph_of pick
glyph_digit d h =
    ⊎_elim
    (λ (l : 10 ≤ d).
    let a : 57 < 55 + d = omega arith in
    let b : 55 + d ≤ 70 = omega arith in
    simp (le-ltb d 10 l, le-ltb (55 + d) 48 (omega arith), lt-leb (55 + d) 57 a, le-ltb (55 + d) 65 (omega arith), le-leb (55 + d) 70 b) (omega arith))
    (λ (l : d < 10).
    let b : 48 + d ≤ 57 = omega arith in
    simp (lt-ltb d 10 l, le-ltb (48 + d) 48 (omega arith), le-leb (48 + d) 57 b) (omega arith))
    (le_or-lt 10 d)

-- a digit more, as a number
total : (k x n : ℕ) → x * 16 ^ suc k + n % 16 ^ suc k ≡ (x * 16 + n / 16 ^ k % 16) * 16 ^ k + n % 16 ^ k
total k x n =
    let q = 16 ^ k in
    let d = n / q % 16 in
    let p : n % 16 ^ suc k ≡ d * q + n % q = ap (λ (m : ℕ). n % m) (pow-succ' 16 k) ∙ mod-mul n {m = 16} {c = q} (lit< tt) (one-le-pow k 16 (lit< tt)) in
    let s : x * 16 ^ suc k ≡ x * 16 * q = ap (λ (m : ℕ). x * m) (pow-succ' 16 k) ∙ sym (mul_assoc x 16 q) in
    omega (arith, p, s, add-mul (x * 16) d q)

spelled_hex : (k x n : ℕ) → x * 16 ^ k + n % 16 ^ k < 2 ^ 64 → spelled_from 16 x (hex_digits k n) ≡ Some (x * 16 ^ k + n % 16 ^ k)
unfolding spelled_from hex_digits
spelled_hex zero x n h = let e : x ≡ x * 1 + n % 1 = omega arith in ap Some e
spelled_hex (suc k) x n h =
    let d = n / 16 ^ k % 16 in
    let l : d < 16 = mod-lt (n / 16 ^ k) (lit< tt) in
    let e = glyph_digit d l in
    let t = total k x n in
    let b : (x * 16 + d) * 16 ^ k + n % 16 ^ k < 2 ^ 64 = omega (arith, t, h) in
    let m : x * 16 + d < 2 ^ 64 = omega (arith, b, le-mul_of_pos_right {m = 16 ^ k} (x * 16 + d) (one-le-pow k 16 (lit< tt))) in
    pick-false _ _ _ (lt-leb 16 (digit_of (glyph_of d)) (subst (λ (y : ℕ). y < 16) (sym e) l))
    ∙ pick-false _ _ _ (lt-leb (2 ^ 64) (x * 16 + digit_of (glyph_of d)) (subst (λ (y : ℕ). x * 16 + y < 2 ^ 64) (sym e) m))
    ∙ ap (λ (y : ℕ). spelled_from 16 (x * 16 + y) (hex_digits k n)) e
    ∙ spelled_hex k (x * 16 + d) n b
    ∙ ap Some (sym t)

length_hex : (k n : ℕ) → length (hex_digits k n) ≡ k
unfolding hex_digits
length_hex zero n = refl
length_hex (suc k) n = ap suc (length_hex k n)

pub read_back : (n : ℕ) → n < 2 ^ 64 → bits_of (hex_digits 16 n) ≡ Some n
unfolding bits_of
read_back n h =
    let e : n % 16 ^ 16 ≡ n = mod-eq_of_lt h in
    let t : 0 * 16 ^ 16 + n % 16 ^ 16 ≡ n = omega (arith, e) in
    pick_true _ _ _ (eq-eqb (length (hex_digits 16 n)) 16 (length_hex 16 n))
    ∙ spelled_hex 16 0 n (omega (arith, t, h))
    ∙ ap Some t
