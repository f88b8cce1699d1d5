-- What merging two stored points comes to: refused with nothing changed, or taken with as many counts as the merged point says. Assumes nothing.
use Prim.Native.Nat.{ℕ, ◌≤◌, ◌<◌}
use mathlib.Core.Path.{◌≡◌, refl, sym, ap, ◌∙◌}
use mathlib.Core.Logic.{◌⊎◌, inl, inr, ⊎_elim}
use mathlib.Core.Bool.{true, false}
use mathlib.Core.List.{List, [], ◌∷◌}
use native.Mathlib.Nat.{eq-zero-or-pos}
use native.Mathlib.Omega.{arith}
use borrow.Author.Tests.{leb-true, eq-eqb, ne_eqb}
use lib.Dec.{leb, eqb}
use lib.ListN.{length}
use lib.Ieee.{Float, binary64, add}
use Rattle.laws.specs.Said.{refusal, success}
use Rattle.laws.specs.Pick.{pick}
use Rattle.laws.proofs.Bools.{flag, and_left, and_right, pick_true, pick-false}
use Rattle.floats.specs.Answers.{smaller_of, larger_of}
use Rattle.rows.specs.Rows.{over}
use Rattle.points.specs.Explicit.{bucket_count}
use Rattle.points.specs.Figures as F
use Rattle.points.specs.Handed.{merge_counts, merge_handed, pos_of, neg_of}
use Rattle.points.proofs.Explicit.{buckets-say, merge-buckets-ok}
use Rattle.explicit.specs.Series.{buckets_in}
use Rattle.point.specs.declared.Point.{Point}
use Rattle.point.specs.declared.Figures.{Figures}
use Rattle.point.specs.declared.Figures.TheVariants.{Exponential, Explicit}
use Rattle.point.specs.Handing.{Stored, counts_as, counts_in, figures_for, ended, refusal_before, merging}
use Rattle.point.proofs.Laid.{same_count}
use Rattle.point.proofs.Calls as calls
use Rattle.point.proofs.Answers.{has_room, with-room, no_room}
use Rattle.listing.specs.Listed.{buckets_of, pos_len, neg_len}
use Rattle.listing.specs.declared.Span.{Span}

pub buckets-are : (bs : List Float) (n : ℕ) → length bs ≡ n → buckets_of n ≡ bucket_count bs
buckets-are bs n e = sym (ap buckets_of e) ∙ go bs
  where
    go : (bs : List Float) → buckets_of (length bs) ≡ bucket_count bs
    go [] = refl
    go (b ∷ bs) = refl

-- the number where there is no place
abbrev pub lastly : ℕ → ℕ
lastly n = pick (eqb n 0) 10 n

lastly-some : (n : ℕ) → (n ≡ 0 → ⊥) → lastly n ≡ n
lastly-some n h = pick-false (eqb n 0) 10 n (ne_eqb n 0 h)

module _ (size : ℕ) (x y : Stored) where
  abbrev made : F.Counts
  made = merge_counts size (counts_in x) (counts_in y)

  -- the merged point
  abbrev pub point : Point
  point =
      record {
        figures = figures_for (merge_counts size (counts_in x) (counts_in y));
        extremes = x.point.extremes;
        min = smaller_of x.point.min y.point.min;
        max = larger_of x.point.max y.point.max;
        sum = add binary64 x.point.sum y.point.sum;
      }

  -- ---- its counts are as many as it says
  pub record Many (c : F.Counts) (b : Span) : Type 0 where
    pub pos : length (pos_of c) ≡ pos_len (figures_for c) b
    pub neg : length (neg_of c) ≡ neg_len (figures_for c)

  module _ (e : refusal_before size x y ≡ 0) (b : Span) (l : length x.bounds ≡ b.len) where
    abbrev Enough : Figures → Figures → Type 0
    Enough f g = Many (merge_counts size (counts_as f x.bounds x.pos x.neg) (counts_as g y.bounds y.pos y.neg)) b

    explicit-many : (n m : ℕ) → x.point.figures ≡ Explicit n → y.point.figures ≡ Explicit m → Enough (Explicit n) (Explicit m)
    explicit-many n m f g =
        let bs = x.bounds in
        let cs = y.bounds in
        let p = buckets-say bs (buckets_in bs n x.pos) (calls.ok-first size x y e n m f g) in
        let q = buckets-say cs (buckets_in cs m y.pos) (calls.ok-second size x y e n m f g) in
        let w = (merge-buckets-ok bs cs (buckets_in bs n x.pos) (buckets_in cs m y.pos) (same_count bs cs (calls.same size x y e n m f g)) p q).whole in
        record { pos = w ∙ sym (buckets-are bs b.len l); neg = refl }

    many : (f g : Figures) → x.point.figures ≡ f → y.point.figures ≡ g → Enough f g
    many (Exponential c) (Exponential d) f g = record { pos = refl; neg = refl }
    many (Exponential c) (Explicit m) f g = absurd (calls.not_mixed size x y e c m f g)
    many (Explicit n) (Exponential d) f g = absurd (calls.not_mixed_2 size x y e n d f g)
    many (Explicit n) (Explicit m) f g = explicit-many n m f g

    pub enough : Many (merge_counts size (counts_in x) (counts_in y)) b
    enough = many x.point.figures y.point.figures refl refl

  module _ (us vs : List ℕ) where
    -- ---- the verdict

    pub record Turned (n : ℕ) : Type 0 where
      pub number : lastly (refusal_before size x y) ≡ n
      pub is : merging size x y us vs ≡ ended (refusal n) x.bounds us vs

    pub record Taken : Type 0 where
      pub free : refusal_before size x y ≡ 0
      pub pos : length (pos_of (merge_counts size (counts_in x) (counts_in y))) ≤ length us
      pub neg : length (neg_of (merge_counts size (counts_in x) (counts_in y))) ≤ length vs
      pub is : merging size x y us vs
          ≡ ended (success point) x.bounds (over (pos_of (merge_counts size (counts_in x) (counts_in y))) us) (over (neg_of (merge_counts size (counts_in x) (counts_in y))) vs)

    taken : refusal_before size x y ≡ 0 → has_room made us vs ≡ true → Taken
    unfolding merge_handed
    taken e h =
        record {
          free = e;
          pos = leb-true _ _ (and_left (leb (length (pos_of made)) (length us)) (leb (length (neg_of made)) (length vs)) h);
          neg = leb-true _ _ (and_right (leb (length (pos_of made)) (length us)) (leb (length (neg_of made)) (length vs)) h);
          is = with-room size x y e us vs h;
        }

    turned_10 : refusal_before size x y ≡ 0 → has_room made us vs ≡ false → Turned 10
    turned_10 e h =
        record { number = pick_true (eqb (refusal_before size x y) 0) 10 _ (eq-eqb (refusal_before size x y) 0 e); is = no_room size x y e us vs h }

    turned-before : (refusal_before size x y ≡ 0 → ⊥) → Turned (refusal_before size x y)
    turned-before h =
        record { number = lastly-some (refusal_before size x y) h; is = sym (calls.refused_law size x y us vs (refusal_before size x y) refl h) }

    pub verdict : ((n : ℕ) × Turned n) ⊎ Taken
    verdict =
        ⊎_elim
        (λ (e : refusal_before size x y ≡ 0).
        ⊎_elim (λ (h : has_room made us vs ≡ true). inr (taken e h)) (λ (h : has_room made us vs ≡ false). inl (10, turned_10 e h)) (flag (has_room made us vs)))
        (λ (p : 0 < refusal_before size x y). inl (refusal_before size x y, turned-before (λ e. omega arith)))
        (eq-zero-or-pos (refusal_before size x y))
