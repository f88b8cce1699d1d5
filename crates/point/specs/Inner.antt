-- BETWEEN OUR OWN CRATES: serves inner contracts and proofs; nobody needs it to believe the public calls or the theorems.
-- A merge as code does it, over points as they are stored: its tests one by one, and merged counts over lent rows. Assumes nothing.
use Rattle.std.specs.Prelude.{ℕ, ◌+◌, Bool, true, false, ◌&&◌, List, leb, length, take, Float, Result, Ok, Err}
use Rattle.std.specs.Float.{binary64}
use Rattle.std.specs.Float.Ieee.{add}
use Rattle.laws.specs.Pick.{pick}
use Rattle.laws.specs.Said.{Said, refusal, success}
use Rattle.index.specs.Bins.{finest}
use Rattle.floats.specs.Answers.{shows, smaller_of, larger_of}
use Rattle.points.specs.Explicit.{added, same_bounds, buckets_agree}
use Rattle.points.specs.Figures as F
use Rattle.points.specs.Figures.{size_passes}
use Rattle.points.specs.Handed.{extremes_agree, pos_of, neg_of}
use Rattle.rows.specs.Rows.{over}
use Rattle.exponential.specs.Series.{agrees}
use Rattle.explicit.specs.Series.{buckets_in}
use Rattle.point.specs.declared.Point.{Point}
use Rattle.point.specs.declared.Figures.{Figures}
use Rattle.point.specs.declared.Figures.TheVariants.{Exponential, Explicit}
use Rattle.refusals.specs.declared.Refusal.{Refusal}
use Rattle.refusals.specs.declared.Refusal.TheVariants.{NoRoom}
use Rattle.refusals.specs.Refusals.{number}
use Rattle.point.specs.Handing.{Stored, count_in, figures_for}

-- ---- the tests; that they make up `refusal_before` is the law `refusal_is`

-- agreement, under a max_size; the greatest level of a merge is the finest
abbrev pub figures_agree : ℕ → Figures → List Float → List ℕ → List ℕ → Bool
figures_agree size (Exponential c) bs xs ys = agrees size finest c xs ys
figures_agree size (Explicit n) bs xs ys = buckets_agree bs (buckets_in bs n xs)

abbrev pub extremes_ok : Point → Bool
extremes_ok p = extremes_agree (shows p.extremes (count_in p.figures)) p.min p.max

unfoldable pub point_agrees : ℕ → Stored → Bool
point_agrees size x = figures_agree size x.point.figures x.bounds x.pos x.neg && extremes_ok x.point

abbrev pub is_explicit : Figures → Bool
is_explicit (Exponential c) = false
is_explicit (Explicit n) = true

abbrev pub same_figures : Figures → List Float → Figures → List Float → Bool
same_figures (Exponential c) bs (Exponential d) cs = true
same_figures (Exponential c) bs (Explicit m) cs = false
same_figures (Explicit n) bs (Exponential d) cs = false
same_figures (Explicit n) bs (Explicit m) cs = same_bounds bs cs

abbrev pub size_fits : ℕ → Figures → Figures → Bool
size_fits size f g = pick (is_explicit f) (pick (is_explicit g) true (size_passes size)) (size_passes size)

-- ---- counts laid over lent rows, where there is room for them

-- what a merge makes: figures, or a refusal for want of room
abbrev pub Made : Type 0
Made = Result Figures Refusal

pub record Over : Type 0 where
  pub made : Made
  pub pos : List ℕ
  pub neg : List ℕ

abbrev pub made_over : Made → List ℕ → List ℕ → Over
made_over m us vs = record { made = m; pos = us; neg = vs }

unfoldable pub counts_over : F.Counts → List ℕ → List ℕ → Over
counts_over c us vs =
    pick (leb (length (pos_of c)) (length us) && leb (length (neg_of c)) (length vs))
    (made_over (Ok (figures_for c)) (over (pos_of c) us) (over (neg_of c) vs))
    (made_over (Err NoRoom) us vs)

-- the explicit kind, whose counts need one row
pub record One : Type 0 where
  pub made : Made
  pub counts : List ℕ

abbrev pub made_one : Made → List ℕ → One
made_one m us = record { made = m; counts = us }

unfoldable pub laid_one : ℕ → ℕ → List ℕ → ℕ → List ℕ → List ℕ → One
laid_one k n xs m zs us =
    pick (leb k (length us)) (made_one (Ok (Explicit (n + m))) (over (added (take k xs) (take k zs)) us)) (made_one (Err NoRoom) us)

-- ---- the merged point of the counts that were made; 10 where there is no room

abbrev pub merged_of : Point → Point → Figures → Point
merged_of a b f =
    record {
      figures = f;
      extremes = a.extremes;
      min = smaller_of a.min b.min;
      max = larger_of a.max b.max;
      sum = add binary64 a.sum b.sum;
    }

abbrev pub finished : Point → Point → Made → Said Point
finished a b (Err e) = refusal (number e)
finished a b (Ok f) = success (merged_of a b f)
