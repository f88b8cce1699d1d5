-- A fraction rounded to the nearest whole number, a tie to the even one: no whole number lies nearer, and where another lies as near it is
-- even and the other odd. Over whole numbers only. Assumes nothing.
use Rattle.std.proofs.Common.{◌≡◌, ℕ, zero, suc, ◌+◌, ◌-◌, ◌*◌, ◌/◌, ◌%◌, ◌<◌, ◌≤◌, not, T, eqb, ◌⊎◌, sym, refl, ap, ◌∙◌, subst, inl, inr, le_trans, le_of_eq, mul-le-mul_right, mod-lt, add-mul, one-mul, div-add-mod', arith, eqb→eq, leb→le}
use Prim.Native.Nat.{compare, Ordering}
use native.Mathlib.Nat.{eq_of_mul-eq-mul_right}
use lib.Dec.{is_le, compare_is_eq, nleb→lt, eqb_refl}
use lib.Arith.{lt_of_le-ne}
use lib.Ieee.{nearest}
use lib.Ieee.Nearest.{closest}
use Rattle.laws.proofs.Differences.{le_or-lt}

-- ---- what `compare` says
abbrev Cmp : Ordering → ℕ → ℕ → Type 0
Cmp Ordering.lt a b = a < b
Cmp Ordering.eq a b = a ≡ b
Cmp Ordering.gt a b = b < a

cmp : (a b : ℕ) → Cmp (compare a b) a b
cmp a b = go (compare a b) (leb→le a b) (nleb→lt a b) (eqb→eq a b) (λ (e : a ≡ b). subst (λ (x : ℕ). T (eqb a x)) e (eqb_refl a))
  where
    go : (o : Ordering) → (T (is_le o) → a ≤ b) → (T (not (is_le o)) → b < a) → (T (compare_is_eq o) → a ≡ b) → (a ≡ b → T (compare_is_eq o)) → Cmp o a b
    go Ordering.lt h k e n = lt_of_le-ne (h tt) n
    go Ordering.eq h k e n = e tt
    go Ordering.gt h k e n = k tt

-- how far apart two whole numbers are
abbrev pub apart : ℕ → ℕ → ℕ
apart a b = (a - b) + (b - a)

-- the multiple Q of q against the multiple P of p: no further off a, and if as far then they are one or q is even and p odd
pub record Close (a Q P q p : ℕ) : Type 0 where
  pub least : apart Q a ≤ apart P a
  pub tie : apart P a ≡ apart Q a → (P ≡ Q) ⊎ ((q % 2 ≡ 0) × (p % 2 ≡ 1))

even : (w : ℕ) → (w + w % 2) % 2 ≡ 0
even w = omega arith

after-even : (w p : ℕ) → w % 2 ≡ 0 → p ≡ suc w → p % 2 ≡ 1
after-even w p v e = omega arith

-- the multiples of u: W that of the whole part w, with r left over
module _ (a u r w W P p : ℕ) (e : W + r ≡ a) (l : r < u) (s : (P ≤ W) ⊎ (W + u ≤ P)) where
  down : r * 2 < u → Close a W P w p
  down h = record {
    least = elim s [ inl k ↦ omega arith | inr k ↦ omega arith ];
    tie = λ t. inl (elim s [ inl k ↦ omega arith | inr k ↦ omega arith ]);
  }

  up : u < r * 2 → Close a (W + u) P (suc w) p
  up h = record {
    least = elim s [ inl k ↦ omega arith | inr k ↦ omega arith ];
    tie = λ t. inl (elim s [ inl k ↦ omega arith | inr k ↦ omega arith ]);
  }

  -- a half: to w where that is even, otherwise to the next
  half : r * 2 ≡ u → (P ≡ W → p ≡ w) → (P ≡ W + u → p ≡ suc w) → (R : ℕ) → ((w % 2 ≡ 0) × (R ≡ W)) ⊎ ((w % 2 ≡ 1) × (R ≡ W + u)) → Close a R P (w + w % 2) p
  half h i j R (inl (v, g)) = record {
    least = elim s [ inl k ↦ omega arith | inr k ↦ omega arith ];
    tie = λ t. elim s [ inl k ↦ inl (omega arith) | inr k ↦ inr (even w, after-even w p v (j (omega arith))) ];
  }
  half h i j R (inr (v, g)) = record {
    least = elim s [ inl k ↦ omega arith | inr k ↦ omega arith ];
    tie = λ t. elim s [ inl k ↦ inr (even w, ap (λ (c : ℕ). c % 2) (i (omega arith)) ∙ v) | inr k ↦ inl (omega arith) ];
  }

more : (w u : ℕ) → suc w * u ≡ w * u + u
more w u = ap (λ (n : ℕ). n * u) (one w) ∙ add-mul w 1 u ∙ ap (λ (n : ℕ). w * u + n) (one-mul u)
  where
    one : (w : ℕ) → suc w ≡ w + 1
    one w = omega arith

-- w + w % 2 is w or w + 1
either : (w u : ℕ) → ((w % 2 ≡ 0) × ((w + w % 2) * u ≡ w * u)) ⊎ ((w % 2 ≡ 1) × ((w + w % 2) * u ≡ w * u + u))
either w u = go (w % 2) refl
  where
    two : (n : ℕ) → suc (suc n) ≡ w % 2 → ⊥
    two n e = omega arith

    none : (w : ℕ) → w + 0 ≡ w
    none w = omega arith

    go : (b : ℕ) → b ≡ w % 2 → ((b ≡ 0) × ((w + b) * u ≡ w * u)) ⊎ ((b ≡ 1) × ((w + b) * u ≡ w * u + u))
    go zero e = inl (refl, ap (λ (n : ℕ). n * u) (none w))
    go (suc zero) e = inr (refl, add-mul w 1 u ∙ ap (λ (n : ℕ). w * u + n) (one-mul u))
    go (suc (suc n)) e = absurd (two n e)

-- OF ALL MULTIPLES OF u THE CLOSEST TO a
pub close : (a u t : ℕ) → 0 < u → Close a (closest a u * u) (t * u) (closest a u) t
close a u t h = go (compare (a % u * 2) u) (cmp (a % u * 2) u)
  where
    sides : (t * u ≤ a / u * u) ⊎ (a / u * u + u ≤ t * u)
    sides =
        elim (le_or-lt t (a / u)) [
          | inl k ↦ inl (mul-le-mul_right u k)
          | inr k ↦ inr (le_trans (le_of_eq (sym (more (a / u) u))) (mul-le-mul_right u k))
        ]

    go : (o : Ordering) → Cmp o (a % u * 2) u → Close a (nearest (a / u) o * u) (t * u) (nearest (a / u) o) t
    go Ordering.lt k = down a u (a % u) (a / u) (a / u * u) (t * u) t (div-add-mod' a u) (mod-lt a h) sides k
    go Ordering.eq k =
        half a u (a % u) (a / u) (a / u * u) (t * u) t (div-add-mod' a u) (mod-lt a h) sides k
        (eq_of_mul-eq-mul_right u h t (a / u)) (λ e. eq_of_mul-eq-mul_right u h t (suc (a / u)) (e ∙ sym (more (a / u) u)))
        ((a / u + a / u % 2) * u) (either (a / u) u)
    go Ordering.gt k =
        subst (λ (n : ℕ). Close a n (t * u) (suc (a / u)) t) (sym (more (a / u) u))
        (up a u (a % u) (a / u) (a / u * u) (t * u) t (div-add-mod' a u) (mod-lt a h) sides k)
