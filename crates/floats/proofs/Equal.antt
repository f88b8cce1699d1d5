-- `eq` is `eqb` of the keys. Assumes nothing.
use mathlib.Core.Path.{◌≡◌, refl, sym, ap, ◌∙◌}
use Prim.Native.Nat.{ℕ, ◌+◌, ◌-◌, ◌*◌, ◌^◌, ◌<◌}
use native.Mathlib.Nat.{mul-pos, zero-mul, eq_of_mul-eq-mul_right}
use native.Mathlib.Omega.{arith}
use mathlib.Core.Bool.{Bool, true, false, ◌&&◌, ◌||◌}
use lib.Dec.{T, eqb, eqb_refl, eqb→eq}
use lib.Pow.{pow_pos}
use lib.Ieee.{Float, nan, inf, fin, Format, low, up, down, level, eq}
use lib.Ieee.Fits.{down_pos, and_i, and_l, and_r, eq→eqb}
use Rattle.laws.specs.Pick.{pick}
use Rattle.floats.proofs.Order.{key, big, Ok, units_of, small, key-fin, left_units, right_units, key_above, key_below, big-pos}

both_ways : (a b : Bool) → (T a → T b) → (T b → T a) → a ≡ b
both_ways true true f g = refl
both_ways true false f g = absurd (f tt)
both_ways false true f g = absurd (g tt)
both_ways false false f g = refl

module _ (A C a c : ℕ) (P : 0 < C) (p : 0 < c) (h : A * c ≡ a * C) where
  none-down : A ≡ 0 → a ≡ 0
  none-down z = eq_of_mul-eq-mul_right C P a 0 (sym h ∙ ap (λ (n : ℕ). n * c) z ∙ zero-mul c ∙ sym (zero-mul C))

  none-up : a ≡ 0 → A ≡ 0
  none-up z = eq_of_mul-eq-mul_right c p A 0 (h ∙ ap (λ (n : ℕ). n * C) z ∙ zero-mul C ∙ sym (zero-mul c))

module _ (A B C a b c g : ℕ) (P : 0 < C) (p : 0 < c) (h : A * c ≡ a * C) (k : B * c ≡ b * C) (x : a < g) (y : b < g) where
  same-down : A ≡ B → a ≡ b
  same-down e = eq_of_mul-eq-mul_right C P a b (sym h ∙ ap (λ (n : ℕ). n * c) e ∙ k)

  same_up : a ≡ b → A ≡ B
  same_up e = eq_of_mul-eq-mul_right c p A B (h ∙ ap (λ (n : ℕ). n * C) e ∙ sym k)

  one-sign : (u : Bool) (m n : ℕ) → (a ≡ b → m ≡ n) → (m ≡ n → a ≡ b) → eqb A B && (true || u) ≡ eqb m n
  one-sign u m n i j = both_ways (eqb A B && true) (eqb m n) (λ t. eq→eqb (i (same-down (eqb→eq A B (and_l (eqb A B) true t))))) (λ t. and_i (eqb A B) true (eq→eqb (same_up (j (eqb→eq m n t)))) tt)

  two-signs : (m n : ℕ) → (a ≡ 0 → b ≡ 0 → m ≡ n) → (m ≡ n → a ≡ 0) → (m ≡ n → b ≡ 0) → eqb A B && (false || eqb A 0) ≡ eqb m n
  two-signs m n i j l = both_ways (eqb A B && eqb A 0) (eqb m n)
      (λ t. let z : a ≡ 0 = none-down A C a c P p h (eqb→eq A 0 (and_r (eqb A B) (eqb A 0) t)) in
      eq→eqb (i z (sym (same-down (eqb→eq A B (and_l (eqb A B) (eqb A 0) t))) ∙ z)))
      (λ t. let e = eqb→eq m n t in and_i (eqb A B) (eqb A 0) (eq→eqb (same_up (j e ∙ sym (l e)))) (eq→eqb (none-up A C a c P p h (j e))))

  signs : (s t : Bool) → level s A t B ≡ eqb (pick s (g - a) (g + a)) (pick t (g - b) (g + b))
  unfolding pick
  signs false false = one-sign (eqb A 0) (g + a) (g + b) (λ e. omega arith) (λ e. omega arith)
  signs true true = one-sign (eqb A 0) (g - a) (g - b) (λ e. omega arith) (λ e. omega arith)
  signs false true = two-signs (g + a) (g - b) (λ e d. omega arith) (λ e. omega arith) (λ e. omega arith)
  signs true false = two-signs (g - a) (g + b) (λ e d. omega arith) (λ e. omega arith) (λ e. omega arith)

eqb_no : (m n : ℕ) → (m ≡ n → ⊥) → false ≡ eqb m n
eqb_no m n f = both_ways false (eqb m n) (λ t. absurd t) (λ t. f (eqb→eq m n t))

eqb_yes : (n : ℕ) → true ≡ eqb n n
eqb_yes n = both_ways true (eqb n n) (λ t. eqb_refl n) (λ t. tt)

below-no : (m n : ℕ) → m < n → m ≡ n → ⊥
below-no m n h e = omega arith

above-no : (m n : ℕ) → n < m → m ≡ n → ⊥
above-no m n h e = omega arith

twice : (g : ℕ) → 0 < g → 0 < g + g
twice g h = omega arith

pub eq-key : (f : Format) (x y : Float) → Ok f x → Ok f y → eq x y ≡ eqb (key f x) (key f y)
unfolding eq key
eq-key f nan y p q = absurd p
eq-key f (inf s) nan p q = absurd q
eq-key f (fin s m e) nan p q = absurd q
eq-key f (inf true) (inf true) p q = eqb_yes 0
eq-key f (inf true) (inf false) p q = eqb_no 0 (big f + big f) (below-no 0 (big f + big f) (twice (big f) (big-pos f)))
eq-key f (inf false) (inf true) p q = eqb_no (big f + big f) 0 (above-no (big f + big f) 0 (twice (big f) (big-pos f)))
eq-key f (inf false) (inf false) p q = eqb_yes (big f + big f)
eq-key f (inf true) (fin t n d) p q = eqb_no 0 (key f (fin t n d)) (below-no 0 (key f (fin t n d)) (key_above f t n d q))
eq-key f (inf false) (fin t n d) p q = eqb_no (big f + big f) (key f (fin t n d)) (above-no (big f + big f) (key f (fin t n d)) (key_below f t n d q))
eq-key f (fin s m e) (inf true) p q = eqb_no (key f (fin s m e)) 0 (above-no (key f (fin s m e)) 0 (key_above f s m e p))
eq-key f (fin s m e) (inf false) p q = eqb_no (key f (fin s m e)) (big f + big f) (below-no (key f (fin s m e)) (big f + big f) (key_below f s m e p))
eq-key f (fin s m e) (fin t n d) p q =
    signs (m * up e * down d) (n * up d * down e) (down e * down d) (units_of f m e) (units_of f n d) (2 ^ low f) (big f)
    (mul-pos (down_pos e) (down_pos d)) (pow_pos (low f)) (left_units f s m e d p) (right_units f t n d e q) (small f s m e p) (small f t n d q) s t
    ∙ sym (ap (λ (x : ℕ). eqb x (key f (fin t n d))) (key-fin f s m e) ∙ ap (eqb (pick s (big f - units_of f m e) (big f + units_of f m e))) (key-fin f t n d))
