-- The Data Model's index of a magnitude: each has one, and the bin at a level gives it. Assumes nothing.
use mathlib.Core.Path.{◌≡◌, refl, sym, ap, ◌∙◌, subst}
use mathlib.Core.Logic.{inl, inr}
use Prim.Native.Nat.{ℕ, suc, ◌+◌, ◌-◌, ◌*◌, ◌/◌, ◌^◌, ◌≤◌}
use native.Mathlib.Omega.{arith}
use lib.IntN.{ℤ, pos, negsuc, ◌-ℤ◌}
use lib.Signed.{shr_z}
use lib.Pow.{pow-add}
use Rattle.laws.proofs.Differences.{difference, shift-sub, sub_cancel}
use Rattle.index.specs.DataModel.{InBucket, IsIndex}
use Rattle.index.specs.Bins.{finest, finest_bin, bin_at, scale_of, index_of}
use Rattle.index.proofs.Buckets.{Between, from_10, only as one-bin}
use Rattle.index.proofs.Finest.{Held, finest_in}
use Rattle.index.proofs.Integers.{signed, only, shifted}
use Rattle.index.proofs.Laws.{coarser}

-- the index of scale 0, shifted right as document 01 says, meets the Data Model's inequality at a scale below 0 too
pub inequality : (n w : ℕ) (i : ℤ) → IsIndex (negsuc n) w i → InBucket 0 (suc n) w i
inequality n w i r = subst (λ (z : ℤ). InBucket 0 (suc n) w z) (sym r.2) (shifted (suc n) w r.0 r.1)

-- a magnitude has at most one index at a scale
pub one_index : (s : ℤ) (w : ℕ) (i j : ℤ) → IsIndex s w i → IsIndex s w j → i ≡ j
one_index (pos s) w i j p q = only s 0 w i j p q
one_index (negsuc n) w i j p q = p.2 ∙ ap (λ (z : ℤ). shr_z z (2 ^ suc n)) (only 0 0 w p.0 q.0 p.1 q.1) ∙ sym q.2

-- the bias of a level, multiplied out
bias : (level u t : ℕ) → level + t ≡ 10 + u → 2 ^ (level + 1) * 2 ^ t ≡ 2048 * 2 ^ u
bias level u t e = sym (pow-add 2 (level + 1) t) ∙ ap (λ (k : ℕ). 2 ^ k) (sum level u t e) ∙ pow-add 2 11 u
  where
    sum : (level u t : ℕ) → level + t ≡ 10 + u → level + 1 + t ≡ 11 + u
    sum level u t e = omega (arith, e)

-- the inequality holds of the bin's index at every level
pub in-bucket : (level u t w : ℕ) → level ≤ finest → level + t ≡ 10 + u → (10 - (finest - level) ≡ u) × (finest - level - 10 ≡ t) → Held w
    → InBucket u t w (index_of level (bin_at level w))
in-bucket level u t w h e r held =
    signed u t w (bin_at level w) (2 ^ (level + 1)) (bias level u t e)
    (subst (λ (n : ℕ). Between n t w (bin_at level w)) r.0
    (subst (λ (n : ℕ). Between (10 - (finest - level)) n w (bin_at level w)) r.1 (from_10 (finest - level) w (finest_bin w) (finest_in w held))))

-- the bin's index is the Data Model's
pub is-index : (level w : ℕ) → level ≤ finest → Held w → IsIndex (scale_of level) w (index_of level (bin_at level w))
is-index level w h held =
    elim (difference level 10) [
      | inl r ↦
          subst (λ (s : ℤ). IsIndex s w (index_of level (bin_at level w))) (sym r.2)
          (in-bucket level r.0 0 w h (up r.0 level r.1) (fine r.0 level h r.1) held)
      | inr r ↦
          subst (λ (s : ℤ). IsIndex s w (index_of level (bin_at level w))) (sym r.2) (
            index_of 10 (bin_at 10 w),
            in-bucket 10 0 0 w (omega arith) refl (refl, refl) held,
            coarse (suc r.0) level r.1,
          )
    ]
  where
    up : (u level : ℕ) → level ≡ u + 10 → level + 0 ≡ 10 + u
    up u level e = omega (arith, e)

    fine : (u level : ℕ) → level ≤ 20 → level ≡ u + 10 → (10 - (20 - level) ≡ u) × (20 - level - 10 ≡ 0)
    fine u level h e = (omega (arith, h, e), omega (arith, h, e))

    coarse : (t level : ℕ) → 10 ≡ t + level → index_of level (bin_at level w) ≡ shr_z (index_of 10 (bin_at 10 w)) (2 ^ t)
    coarse t level e =
        ap (λ (b : ℕ). pos b -ℤ pos (2 ^ (level + 1))) (coarser level t w (under t level e) ∙ ap (λ (n : ℕ). bin_at n w / 2 ^ t) (ten t level e))
        ∙ sym (ap (λ (n : ℕ). shr_z (pos (bin_at 10 w) -ℤ pos n) (2 ^ t)) (half t level e) ∙ shift-sub (bin_at 10 w) (2 ^ (level + 1)) t)
      where
        under : (t level : ℕ) → 10 ≡ t + level → level + t ≤ 20
        under t level e = omega (arith, e)

        ten : (t level : ℕ) → 10 ≡ t + level → level + t ≡ 10
        ten t level e = omega (arith, e)

        half : (t level : ℕ) → 10 ≡ t + level → 2 ^ 11 ≡ 2 ^ (level + 1) * 2 ^ t
        half t level e = ap (λ (k : ℕ). 2 ^ k) (eleven t level e) ∙ pow-add 2 (level + 1) t
          where
            eleven : (t level : ℕ) → 10 ≡ t + level → 11 ≡ level + 1 + t
            eleven t level e = omega (arith, e)

-- magnitudes with one bin are in one bucket, and magnitudes in one bucket have one bin
pub same-bucket : (level v w : ℕ) → level ≤ finest → Held w → bin_at level v ≡ bin_at level w → IsIndex (scale_of level) w (index_of level (bin_at level v))
same-bucket level v w h held e = subst (λ (b : ℕ). IsIndex (scale_of level) w (index_of level b)) (sym e) (is-index level w h held)

pub same_bin : (level v w : ℕ) (i : ℤ) → level ≤ finest → Held v → Held w → IsIndex (scale_of level) v i → IsIndex (scale_of level) w i → bin_at level v ≡ bin_at level w
same_bin level v w i h a b p q =
    sub_cancel (bin_at level v) (bin_at level w) (2 ^ (level + 1))
    (one_index (scale_of level) v (index_of level (bin_at level v)) i (is-index level v h a) p
    ∙ one_index (scale_of level) w i (index_of level (bin_at level w)) q (is-index level w h b))

-- whatever index a magnitude has at the scale of a level, its bin there is that index and the bias
pub bin-is : (level w : ℕ) (b : ℕ) → level ≤ finest → Held w → IsIndex (scale_of level) w (index_of level b) → bin_at level w ≡ b
bin-is level w b h held p =
    sub_cancel (bin_at level w) b (2 ^ (level + 1)) (one_index (scale_of level) w (index_of level (bin_at level w)) (index_of level b) (is-index level w h held) p)

-- a bin whose bucket holds the magnitude is its bin
pub bin-from : (level w b : ℕ) → level ≤ finest → Held w → Between (level - 10) (10 - level) w b → bin_at level w ≡ b
bin-from level w b h held i =
    one-bin (level - 10) (10 - level) w (bin_at level w) b
    (subst (λ (n : ℕ). Between n (10 - level) w (bin_at level w)) (up level h)
    (subst (λ (n : ℕ). Between (10 - (finest - level)) n w (bin_at level w)) (down level h) (from_10 (finest - level) w (finest_bin w) (finest_in w held))))
    i
  where
    up : (level : ℕ) → level ≤ 20 → 10 - (20 - level) ≡ level - 10
    up level h = omega (arith, h)

    down : (level : ℕ) → level ≤ 20 → 20 - level - 10 ≡ 10 - level
    down level h = omega (arith, h)
