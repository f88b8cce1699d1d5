-- Points without values, merged by code: the other's extremes stay. A fresh one agrees, and that of the greatest scale changes nothing but
-- the sum, to which it adds 0. Assumes nothing.
use Prim.Native.Nat.{ℕ, ◌-◌}
use mathlib.Core.Path.{◌≡◌, refl, ap, sym, subst, ◌∙◌}
use mathlib.Core.Bool.{true, false, ◌&&◌}
use mathlib.Core.List.{List, []}
use lib.Ieee.{Float}
use Rattle.laws.specs.Lists.{All}
use Rattle.laws.specs.Said.{success}
use Rattle.index.specs.Bins.{finest}
use Rattle.points.specs.Counts.{Kind, exponential, explicit, Settings, Counts, exponential_counts, explicit_counts, kind_counts, count_of, counts_agree, resized, Shape}
use Rattle.points.specs.Number.{Number}
use Rattle.points.specs.Any.{Handed, handed_out, handed, merge_handed, shown_agrees, handed_agrees, summary_of, with_sum, Of}
use Rattle.points.specs.Coded.{Coded, PointOf}
use Rattle.points.proofs.Agreement.{agrees-says, fresh}
use Rattle.points.proofs.Explicit.{buckets-say}
use Rattle.points.proofs.Counts.{under, size_of, Agreeing, shape_of}
use Rattle.points.proofs.Owed.{Owed}
use Rattle.points.proofs.AnyPoint.{handed-stands, stands-agrees}
use Rattle.points.proofs.AnyGrouping as G
use Rattle.points.proofs.AnyGrouping.{Known, known}
use Rattle.points.proofs.Larger.{empty-shows}
use Rattle.point.specs.Lists.{Configured}
use Rattle.point.proofs.Answers.{sound}
use Rattle.merging.specs.Merged.{Good, AtTop}
use Rattle.merging.proofs.Owed.{Merges, merged-reads, merged-agree}
use Rattle.merging.proofs.Accepted.{low, counts-ok}

-- ---- THE FRESH POINT agrees under any max_size that passes: it has no rows
resized-fresh : (size : ℕ) (k : Kind) (t : Float) → kind_counts k t [] ≡ kind_counts (resized size k) t []
resized-fresh size (exponential m top) t = ap exponential_counts (fresh m (finest - top) ∙ sym (fresh size (finest - top)))
resized-fresh size (explicit bounds) t = refl

-- a max_size is asked of exponential counts alone
own-size : (size : ℕ) (k : Kind) (c : Counts) → Shape k c → counts_agree (size_of (resized size k)) finest low c ≡ counts_agree size finest low c
own-size size (exponential m top) (exponential_counts p) h = refl
own-size size (exponential m top) (explicit_counts b p) h = absurd h
own-size size (explicit b) (exponential_counts p) h = absurd h
own-size size (explicit b) (explicit_counts c p) h = refl

-- "at the greatest allowed scale"
agreeing : (size : ℕ) (k : Kind) (c : Counts) → AtTop k → Shape k c → counts_agree size finest low c ≡ true → Agreeing size low k c
agreeing size (exponential m top) (exponential_counts p) t h a = agrees-says size top low p (rw t a)
agreeing size (exponential m top) (explicit_counts b p) t h a = absurd h
agreeing size (explicit b) (exponential_counts p) t h a = absurd h
agreeing size (explicit b) (explicit_counts c p) t h a = rw (sym h) (buckets-say c p a)

module _ {N : Number} (O : Owed N) (C : Coded N) where
  -- ---- ANY POINT OF COUNT 0: the other's extremes stay
  module _ (M : Merges C) (size : ℕ) (x y z : C.Stored) (us vs : List ℕ) (e : C.merging size x y us vs ≡ success z) where
    abbrev p : Handed N
    p = C.handed_in x

    abbrev q : Handed N
    q = C.handed_in y

    reads : C.handed_in z ≡ merge_handed N size p q
    reads = (merged-reads C M size x y z us vs e).0

    pub empty-first : count_of p.counts ≡ 0 → ((C.handed_in z).min ≡ q.min) × ((C.handed_in z).max ≡ q.max)
    empty-first n =
        let t = empty-shows N O size low p (merged-agree C M size x y z us vs e).0 n in (
          ap (λ (h : Handed N). h.min) reads ∙ ap (λ a. N.smaller a q.min) t.0 ∙ (O.nearer-none true q.min).0,
          ap (λ (h : Handed N). h.max) reads ∙ ap (λ a. N.larger a q.max) t.1 ∙ (O.nearer-none false q.max).0,
        )

    pub empty-second : count_of q.counts ≡ 0 → ((C.handed_in z).min ≡ p.min) × ((C.handed_in z).max ≡ p.max)
    empty-second n =
        let t = empty-shows N O size low q (merged-agree C M size x y z us vs e).1 n in (
          ap (λ (h : Handed N). h.min) reads ∙ ap (N.smaller p.min) t.0 ∙ (O.nearer-none true p.min).1,
          ap (λ (h : Handed N). h.max) reads ∙ ap (N.larger p.max) t.1 ∙ (O.nearer-none false p.max).1,
        )

  -- ---- THE FRESH POINT
  module _ (size : ℕ) (s : Settings) where
    abbrev k : Kind
    k = resized size s.kind

    empty-alike : kind_counts s.kind s.threshold (N.nears []) ≡ kind_counts k s.threshold (N.nears [])
    empty-alike =
        ap (kind_counts s.kind s.threshold) O.nears-none ∙ resized-fresh size s.kind s.threshold ∙ ap (kind_counts k s.threshold) (sym O.nears-none)

    fresh-agrees : Configured k → handed_agrees N size finest low (handed N s []) ≡ true
    unfolding All
    fresh-agrees sized =
        ap (λ b. b && shown_agrees N (handed N s []))
        (sym (own-size size s.kind (kind_counts s.kind s.threshold (N.nears [])) (shape_of s.kind s.threshold (N.nears []))))
        ∙ ap (λ c. handed_agrees N (size_of k) finest low (handed_out N s (record { counts = c; summary = summary_of N s.sums [] }))) empty-alike
        ∙ stands-agrees N O (under size s) (handed N (under size s) []) [] (sound k sized) (handed-stands N O (under size s) [] tt)

    pub fresh-good : Configured k → (f : C.Stored) → PointOf C s [] f → Good C size s f
    fresh-good sized f none =
        record {
          shape = none.shape;
          agree = subst (λ h. handed_agrees N size finest low h ≡ true) (sym none.is) (fresh-agrees sized);
          of = subst (Of N s) (sym none.is) (record { shape = shape_of s.kind s.threshold (N.nears []); shown = summary_of N s.sums []; same = (handed-stands N O s [] none.values).same });
        }

  -- and at the greatest scale it changes nothing but the sum
  module _ (M : Merges C) (size : ℕ) (s : Settings) (top : AtTop s.kind) (f y : C.Stored) (none : PointOf C s [] f) (g : Good C size s y) where
    abbrev other : Handed N
    other = C.handed_in y

    point-of : Known N O s other
    point-of = known N O s other g.of

    counts_of : Agreeing size low s.kind other.counts
    counts_of = agreeing size s.kind other.counts top g.of.shape (counts-ok O C size s y g)

    -- merged with another, and another with it
    pub fresh-first : (z : C.Stored) (us vs : List ℕ) → C.merging size f y us vs ≡ success z → C.handed_in z ≡ with_sum N (N.add N.zero other.sum) other
    fresh-first z us vs e =
        (merged-reads C M size f y z us vs e).0 ∙ ap (λ h. merge_handed N size h other) none.is ∙ G.fresh-first N O size low s other point-of counts_of

    pub fresh-second : (z : C.Stored) (us vs : List ℕ) → C.merging size y f us vs ≡ success z → C.handed_in z ≡ with_sum N (N.add other.sum N.zero) other
    fresh-second z us vs e =
        (merged-reads C M size y f z us vs e).0 ∙ ap (merge_handed N size other) none.is ∙ G.fresh-second N O size low s other point-of counts_of
