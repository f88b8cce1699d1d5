-- The figures of a slot agree exactly where the code reads a head from it that agrees. Assumes nothing.
use Prim.Native.Nat.{ℕ, suc, ◌+◌, ◌-◌, ◌≤◌}
use mathlib.Core.Path.{◌≡◌, refl, ap, ◌∙◌}
use mathlib.Core.Logic.{⊎_elim}
use mathlib.Core.Bool.{Bool, true, false, ◌&&◌, and-false}
use mathlib.Core.List.{List}
use native.Mathlib.Omega.{arith}
use lib.Dec.{leb}
use lib.ListN.{length, get_or, take}
use borrow.Author.Tests.{leb-true, le-leb}
use Rattle.laws.proofs.Bools.{flag, not-both, and_left, and_right, pick_true, pick-false}
use Rattle.laws.proofs.Cases.{and-true}
use Rattle.index.specs.Bins.{finest, end_bin}
use Rattle.points.specs.Agreement as A
use Rattle.points.proofs.Agreement as PA
use Rattle.points.specs.Figures.{Kind, exponential, explicit, size_passes, Counts, exponential_counts}
use Rattle.points.specs.Handed.{Handed, counts_agree, shown_agrees, handed_agrees}
use Rattle.exponential.specs.Series.{lowest_of_all, read}
use Rattle.exponential.specs.Series as S
use Rattle.exponential.proofs.Facts.{size_in, agreed, agreed-agrees}
use Rattle.exponential.proofs.Write.{level_pow}
use Rattle.kinds.specs.Histograms.{passes, counts_hold}
use Rattle.exponential_slots.specs.Cells.{counts_in, narrow}
use Rattle.exponential_slots.specs.Meaning.{shaped, shapeless, counts_at}
use Rattle.exponential_slots.proofs.Cases.{narrow-says, narrow-of}
use Rattle.laws.specs.Counting.{most_count}

-- ---- words in shape

pub record Shaped (size : ℕ) (f : List ℕ) : Type 0 where
  pub count : get_or f 0 0 ≤ most_count
  pub level : get_or f 2 0 ≤ finest
  pub pos : get_or f 4 0 ≤ size
  pub neg : get_or f 6 0 ≤ size

pub shaped-says : (size : ℕ) (f : List ℕ) → shaped size f ≡ true → Shaped size f
unfolding shaped
shaped-says size f h =
    let t₁ = leb (get_or f 0 0) most_count in
    let t₂ = leb (get_or f 2 0) finest in
    let t₃ = leb (get_or f 4 0) size in
    let t₄ = leb (get_or f 6 0) size in
    let h₂ = and_right t₁ (t₂ && (t₃ && t₄)) h in
    let h₃ = and_right t₂ (t₃ && t₄) h₂ in
    record {
      count = leb-true (get_or f 0 0) most_count (and_left t₁ (t₂ && (t₃ && t₄)) h);
      level = leb-true (get_or f 2 0) finest (and_left t₂ (t₃ && t₄) h₂);
      pos = leb-true (get_or f 4 0) size (and_left t₃ t₄ h₃);
      neg = leb-true (get_or f 6 0) size (and_right t₃ t₄ h₃);
    }

pub shaped_of : (size : ℕ) (f : List ℕ) → Shaped size f → shaped size f ≡ true
unfolding shaped
shaped_of size f k =
    rw (le-leb (get_or f 0 0) most_count k.count, le-leb (get_or f 2 0) finest k.level, le-leb (get_or f 4 0) size k.pos, le-leb (get_or f 6 0) size k.neg)

-- ---- words out of shape

shapeless-counts : (size top low : ℕ) → counts_agree size top low shapeless ≡ false
unfolding A.agrees
shapeless-counts size top low = and-false (leb (finest - top) (suc finest))

-- a series that the map holds does not agree with them, whatever is configured
pub shapeless-held : (k : Kind) → counts_hold k shapeless ≡ false
shapeless-held (exponential size top) = shapeless-counts size top lowest_of_all
shapeless-held (explicit bounds) = refl

-- nor does a point that is handed out
pub shapeless-handed : (size top low : ℕ) (p : Handed) → p.counts ≡ shapeless → handed_agrees size top low p ≡ false
unfolding handed_agrees
shapeless-handed size top low p e =
    ap (λ (c : Counts). counts_agree size top low c && shown_agrees p) e ∙ ap (λ (a : Bool). a && shown_agrees p) (shapeless-counts size top low)

-- ---- settings that configuring accepts

pub record Accepted (size top : ℕ) : Type 0 where
  pub least : 3 ≤ size
  pub most : size ≤ 160
  pub fine : top ≤ finest

pub accepted-of : (size top : ℕ) → passes (exponential size top) ≡ true → Accepted size top
accepted-of size top h =
    let a = and-true (size_passes size) (leb top finest) h in
    let b = size_in size a.0 in
    record { least = b.0; most = b.1; fine = leb-true top finest a.1 }

-- ---- both sides of the law

module _ (size : ℕ) (f xs ys : List ℕ) where
  pub counts_in_lem : shaped size f ≡ true → counts_at size f xs ys ≡ exponential_counts (read (counts_in f) xs ys)
  unfolding counts_at
  counts_in_lem h = pick_true (shaped size f) (exponential_counts (read (counts_in f) xs ys)) shapeless h

  counts-out : shaped size f ≡ false → counts_at size f xs ys ≡ shapeless
  unfolding counts_at
  counts-out h = pick-false (shaped size f) (exponential_counts (read (counts_in f) xs ys)) shapeless h

  module _ (top : ℕ) (z : Accepted size top) where
    -- what agrees is in shape
    pub in-shape : counts_hold (exponential size top) (counts_at size f xs ys) ≡ true → shaped size f ≡ true
    in-shape h =
        ⊎_elim
        (λ (e : shaped size f ≡ true). e)
        (λ (e : shaped size f ≡ false).
        absurd (not-both (counts_hold (exponential size top) (counts_at size f xs ys)) h (ap (counts_hold (exponential size top)) (counts-out e) ∙ shapeless-held (exponential size top))))
        (flag (shaped size f))

    pub holds-is : shaped size f ≡ true → counts_hold (exponential size top) (counts_at size f xs ys) ≡ A.agrees size top lowest_of_all (read (counts_in f) xs ys)
    holds-is h = ap (counts_hold (exponential size top)) (counts_in_lem h)

    module _ (p : length xs ≡ size) (q : length ys ≡ size) where
      -- a bin of a row that agrees is a u32
      low : (s n d : ℕ) → s + n ≤ end_bin (finest - d) → s ≤ 4294967295
      low s n d h = omega (arith, h, level_pow (finest - d) (omega arith))

      -- in shape and agreeing: a head can be read, and it agrees
      pub can-read : shaped size f ≡ true → A.agrees size top lowest_of_all (read (counts_in f) xs ys) ≡ true → narrow f ≡ true
      can-read h a =
          let w = shaped-says size f h in
          let k = PA.agrees-says size top lowest_of_all (read (counts_in f) xs ys) a in
          let d = finest - get_or f 2 0 in
          narrow-of f (record {
            count = w.count;
            level = omega (arith, w.level);
            pos = low (get_or f 3 0) (length (take (get_or f 4 0) xs)) d k.pos.below;
            neg = low (get_or f 5 0) (length (take (get_or f 6 0) ys)) d k.neg.below;
          })

      pub series-agrees : shaped size f ≡ true → A.agrees size top lowest_of_all (read (counts_in f) xs ys) ≡ true → S.agrees size top (counts_in f) xs ys ≡ true
      series-agrees h a =
          let w = shaped-says size f h in
          let k = PA.agrees-says size top lowest_of_all (read (counts_in f) xs ys) a in
          agreed-agrees size top (counts_in f) xs ys (record {
            least = z.least;
            most = z.most;
            greatest = z.fine;
            level = omega (arith, w.level, z.fine, k.fine);
            pos_there = omega (arith, w.pos, p);
            neg_there = omega (arith, w.neg, q);
            point = k;
          })

      -- and the other way round
      pub shape_of : narrow f ≡ true → S.agrees size top (counts_in f) xs ys ≡ true → shaped size f ≡ true
      shape_of n a =
          let k = agreed size top (counts_in f) xs ys a in
          shaped_of size f (record {
            count = (narrow-says f n).count;
            level = omega (arith, k.level, k.greatest);
            pos = omega (arith, k.pos_there, p);
            neg = omega (arith, k.neg_there, q);
          })

      pub point_agrees : S.agrees size top (counts_in f) xs ys ≡ true → A.agrees size top lowest_of_all (read (counts_in f) xs ys) ≡ true
      point_agrees a = PA.agreed-agrees size top lowest_of_all (read (counts_in f) xs ys) (agreed size top (counts_in f) xs ys a).point
