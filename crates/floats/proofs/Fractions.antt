-- Order, sum and difference of fractions over one denominator: a sum of floats sees only the values of its summands. Assumes nothing.
use mathlib.Core.Path.{◌≡◌, refl, sym, ap, ◌∙◌, subst}
use Prim.Native.Nat.{ℕ, ◌+◌, ◌-◌, ◌*◌, ◌<◌}
use native.Mathlib.Nat.{add-mul, mul-sub, mul_right_comm, mul_assoc, mul_comm, mul-pos, mul-lt-mul_of_pos_right, lt_of_mul-lt-mul_right}
use mathlib.Core.Bool.{Bool, true, false, ◌&&◌}
use lib.Dec.{T, ltb, ltb→lt, lt→ltb}
use lib.Ieee.{Float, nan, inf, fin, Format, up, down, sum, add}
use lib.Ieee.Fits.{down_pos}
use lib.Ieee.Exact.{HasValue}
use lib.Ieee.Scale.{round_same}

pub ltb_iff : (p q r s : ℕ) → (p < q → r < s) → (r < s → p < q) → ltb p q ≡ ltb r s
ltb_iff p q r s h k = go (ltb p q) (ltb r s) (λ t. lt→ltb r s (h (ltb→lt p q t))) (λ t. lt→ltb p q (k (ltb→lt r s t)))
  where
    go : (u v : Bool) → (T u → T v) → (T v → T u) → u ≡ v
    go true true f g = refl
    go true false f g = absurd (f tt)
    go false true f g = absurd (g tt)
    go false false f g = refl

-- with A / C = a / c and B / C = b / c
module _ (A B C a b c : ℕ) (P : 0 < C) (p : 0 < c) (h : A * c ≡ a * C) (k : B * c ≡ b * C) where
  lt-down : A < B → a < b
  lt-down l = lt_of_mul-lt-mul_right C (subst (λ (z : ℕ). z < b * C) h (subst (λ (z : ℕ). A * c < z) k (mul-lt-mul_of_pos_right l p)))

  lt_up : a < b → A < B
  lt_up l = lt_of_mul-lt-mul_right c (subst (λ (z : ℕ). z < B * c) (sym h) (subst (λ (z : ℕ). a * C < z) (sym k) (mul-lt-mul_of_pos_right l P)))

  pub ltb-same : ltb A B ≡ ltb a b
  ltb-same = ltb_iff A B a b lt-down lt_up

  pub plus-same : (A + B) * c ≡ (a + b) * C
  plus-same = add-mul A B c ∙ ap (λ (z : ℕ). z + B * c) h ∙ ap (λ (z : ℕ). a * C + z) k ∙ sym (add-mul a b C)

  minus-same : (A - B) * c ≡ (a - b) * C
  minus-same =
      mul_comm (A - B) c ∙ mul-sub c A B
      ∙ ap (λ (z : ℕ). z - c * B) (mul_comm c A ∙ h ∙ mul_comm a C) ∙ ap (λ (z : ℕ). C * a - z) (mul_comm c B ∙ k ∙ mul_comm b C)
      ∙ sym (mul-sub C a b) ∙ mul_comm C (a - b)

pub sum_same : (f : Format) (s : Bool) (A : ℕ) (t : Bool) (B C a b c : ℕ) → 0 < C → 0 < c → A * c ≡ a * C → B * c ≡ b * C → sum f s A t B C ≡ sum f s a t b c
unfolding sum
sum_same f s A t B C a b c P p h k =
    rw (
      round_same f s (A + B) C (a + b) c P p (plus-same A B C a b c P p h k),
      round_same f t (B - A) C (b - a) c P p (minus-same B A C b a c P p k h),
      round_same f (s && ltb B A) (A - B) C (a - b) c P p (minus-same A B C a b c P p h k),
      ltb-same A B C a b c P p h k,
      ltb-same B A C b a c P p k h,
    )

-- the sum of two finite floats, by any one denominator of theirs
pub add_at : (f : Format) (x y : Float) (s : Bool) (a : ℕ) (t : Bool) (b c : ℕ) → 0 < c → HasValue x s a c → HasValue y t b c → add f x y ≡ sum f s a t b c
unfolding add
add_at f nan y s a t b c p v w = absurd v
add_at f (inf u) y s a t b c p v w = absurd v
add_at f (fin u m e) nan s a t b c p v w = absurd w
add_at f (fin u m e) (inf r) s a t b c p v w = absurd w
add_at f (fin u m e) (fin r n d) s a t b c p v w =
    sum_same f u (m * up e * down d) r (n * up d * down e) (down e * down d) a b c (mul-pos (down_pos e) (down_pos d)) p
    (mul_right_comm (m * up e) (down d) c ∙ ap (λ (z : ℕ). z * down d) v.1 ∙ mul_assoc a (down e) (down d))
    (mul_right_comm (n * up d) (down e) c ∙ ap (λ (z : ℕ). z * down e) w.1 ∙ mul_assoc b (down d) (down e) ∙ ap (λ (z : ℕ). b * z) (mul_comm (down d) (down e)))
    ∙ ap (λ (z : Bool). sum f z a r b c) v.0 ∙ ap (λ (z : Bool). sum f s a z b c) w.0
