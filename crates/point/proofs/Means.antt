-- The code's points are those of crate `points`: what is handed out, agreement, and the refusals of a merge. Assumes nothing.
use Prim.Native.Nat.{ℕ, ◌+◌}
use mathlib.Core.Path.{◌≡◌, refl, ap, ◌∙◌}
use mathlib.Core.Bool.{Bool, true, false, beq, ◌&&◌, and_assoc}
use mathlib.Core.List.{List}
use lib.Dec.{leb}
use lib.ListN.{length}
use lib.Ieee.{Float}
use Rattle.laws.specs.Pick.{pick}
use Rattle.index.specs.Bins.{finest, lowest_bin}
use Rattle.floats.specs.Answers.{shows}
use Rattle.points.specs.Figures as F
use Rattle.points.specs.Figures.{Kind, most_size, size_passes, settings_of, exponential_counts, explicit_counts, figures_of}
use Rattle.points.specs.Handed.{Handed, handed_out, same_kind, mergeable, extremes_agree, counts_agree, handed_agrees, count_of, size_asked, unmergeable}
use Rattle.points.specs.Any.{handed}
use Rattle.points.specs.Real.{real}
use Rattle.exponential.specs.declared.Head as SH
use Rattle.exponential.specs.Series.{read, agrees}
use Rattle.exponential.proofs.Lists as SRInnerLists
use Rattle.explicit.specs.declared.Head as BH
use Rattle.explicit.specs.Series as B
use Rattle.explicit.specs.Series.{buckets_in}
use Rattle.point.specs.declared.Figures.{Figures}
use Rattle.point.specs.declared.Figures.TheVariants.{Exponential, Explicit}
use Rattle.point.specs.Handing.{Stored, stored_in, counts_as, counts_in, handed_in, figures_shaped, in_shape, agrees_alone, exponential_point, explicit_point, refusal_before, count_in}
use Rattle.point.specs.Inner.{figures_agree, extremes_ok, point_agrees, same_figures, size_fits}
use Rattle.laws.specs.Counting.{most_count}

-- ---- WHAT A SERIES HANDS OUT, by its two switches; the zero threshold is 0.0
-- what a head and its rows hold
abbrev pub exponential_in : SH.Head → List ℕ → List ℕ → F.Figures
exponential_in h xs ys = record { counts = exponential_counts (read h.counts xs ys); summary = SRInnerLists.summary h }

abbrev pub explicit_in : List Float → BH.Head → List ℕ → F.Figures
explicit_in bs h xs = record { counts = explicit_counts bs (buckets_in bs h.count xs); summary = B.summary h }

-- of a series that holds the figures of a list, the point of the list
module _ (k : Kind) (extremes sums : Bool) (bs : List Float) (xs ys : List ℕ) (vs : List Float) where
  pub exponential-list : (h : SH.Head) → exponential_in h xs ys ≡ figures_of (settings_of k extremes sums) vs
      → handed_in (stored_in (exponential_point h extremes sums) bs xs ys) ≡ handed real (settings_of k extremes sums) vs
  exponential-list h e = ap (handed_out (settings_of k extremes sums)) e

  pub explicit-list : (h : BH.Head) → explicit_in bs h xs ≡ figures_of (settings_of k extremes sums) vs
      → handed_in (stored_in (explicit_point h extremes sums) bs xs ys) ≡ handed real (settings_of k extremes sums) vs
  explicit-list h e = ap (handed_out (settings_of k extremes sums)) e

-- ---- AGREEMENT
-- the max_size could be configured, where the kind has one
abbrev pub size_for : ℕ → Figures → Bool
size_for size (Exponential c) = size_passes size
size_for size (Explicit n) = true

regroup : (s l p n g : Bool) → s && (true && (l && (p && (n && g)))) ≡ (s && (l && (p && n))) && g
regroup true true true n g = refl
regroup true true false n g = refl
regroup true false p n g = refl
regroup false l p n g = refl

abbrev pub agrees_read : ℕ → Handed → Bool
agrees_read size = handed_agrees size finest (lowest_bin finest)

figures-is : (size : ℕ) (f : Figures) (bs : List Float) (xs ys : List ℕ)
    → figures_agree size f bs xs ys ≡ (size_for size f && figures_shaped f xs ys) && counts_agree size finest (lowest_bin finest) (counts_as f bs xs ys)
unfolding agrees
figures-is size (Exponential c) bs xs ys =
    regroup (size_passes size) (leb c.level finest) (leb c.pos.len (length xs)) (leb c.neg.len (length ys)) (counts_agree size finest (lowest_bin finest) (exponential_counts (read c xs ys)))
figures-is size (Explicit n) bs xs ys = refl

pub count-is : (f : Figures) (bs : List Float) (xs ys : List ℕ) → count_in f ≡ count_of (counts_as f bs xs ys)
count-is (Exponential c) bs xs ys = refl
count-is (Explicit n) bs xs ys = refl

module _ (size : ℕ) (x : Stored) where
  pub agrees-is : point_agrees size x ≡ (size_for size x.point.figures && in_shape x) && agrees_read size (handed_in x)
  unfolding point_agrees handed_agrees
  agrees-is =
      ap (λ (b : Bool). b && extremes_ok x.point) (figures-is size x.point.figures x.bounds x.pos x.neg)
      ∙ and_assoc (size_for size x.point.figures && in_shape x) (counts_agree size finest (lowest_bin finest) (counts_in x)) (extremes_ok x.point)
      ∙ ap (λ (n : ℕ). (size_for size x.point.figures && in_shape x)
      && (counts_agree size finest (lowest_bin finest) (counts_in x) && extremes_agree (shows x.point.extremes n) x.point.min x.point.max))
      (count-is x.point.figures x.bounds x.pos x.neg)

  -- of a point that is in shape
  pub agrees-whole : size_for size x.point.figures ≡ true → in_shape x ≡ true → point_agrees size x ≡ agrees_read size (handed_in x)
  agrees-whole s w = agrees-is ∙ (λ j. (s j && w j) && agrees_read size (handed_in x))

most_for : (f : Figures) → size_for most_size f ≡ true
most_for (Exponential c) = refl
most_for (Explicit n) = refl

-- by itself
pub agrees-alone : (x : Stored) → point_agrees most_size x ≡ agrees_alone x
unfolding agrees_alone
agrees-alone x = agrees-is most_size x ∙ ap (λ (b : Bool). (b && in_shape x) && agrees_read most_size (handed_in x)) (most_for x.point.figures)

-- ---- THE REFUSALS OF A MERGE
swap : (i j g h : Bool) → (i && g) && (j && h) ≡ (i && j) && (g && h)
swap true true g h = refl
swap true false true h = refl
swap true false false h = refl
swap false j g h = refl

module _ (i j g h : Bool) (R : ℕ) where
  gather : (s t u : Bool) → (s ≡ true → t ≡ true) → (s ≡ true → u ≡ true)
      → pick s (pick (((t && i) && g) && ((u && j) && h)) R 8) 1 ≡ pick s (pick ((i && j) && (g && h)) R 8) 1
  unfolding pick
  gather true t u k l = (λ n. pick (((k refl n && i) && g) && ((l refl n && j) && h)) R 8) ∙ ap (λ (b : Bool). pick b R 8) (swap i j g h)
  gather false t u k l = refl

first-size : (size : ℕ) (f g : Figures) → size_fits size f g ≡ true → size_for size f ≡ true
unfolding pick
first-size size (Exponential c) (Exponential d) h = h
first-size size (Exponential c) (Explicit m) h = h
first-size size (Explicit n) g h = refl

second-size : (size : ℕ) (f g : Figures) → size_fits size f g ≡ true → size_for size g ≡ true
unfolding pick
second-size size (Exponential c) (Exponential d) h = h
second-size size (Exponential c) (Explicit m) h = refl
second-size size (Explicit n) (Exponential d) h = h
second-size size (Explicit n) (Explicit m) h = refl

module _ (size : ℕ) (bs : List Float) (xs ys : List ℕ) (cs : List Float) (zs ws : List ℕ) where
  size_is : (f g : Figures) → size_fits size f g ≡ size_asked size (counts_as f bs xs ys) (counts_as g cs zs ws)
  unfolding pick
  size_is (Exponential c) (Exponential d) = refl
  size_is (Exponential c) (Explicit m) = refl
  size_is (Explicit n) (Exponential d) = refl
  size_is (Explicit n) (Explicit m) = refl

  kind-is : (f g : Figures) → same_figures f bs g cs ≡ same_kind (counts_as f bs xs ys) (counts_as g cs zs ws)
  kind-is (Exponential c) (Exponential d) = refl
  kind-is (Exponential c) (Explicit m) = refl
  kind-is (Explicit n) (Exponential d) = refl
  kind-is (Explicit n) (Explicit m) = refl

-- the tests of code, in their order
abbrev pub tested : ℕ → Stored → Stored → ℕ
tested size x y =
    let f = x.point.figures in
    let g = y.point.figures in
    pick (size_fits size f g)
    (pick (point_agrees size x && point_agrees size y)
    (pick (same_figures f x.bounds g y.bounds && beq x.point.extremes y.point.extremes) (pick (leb (count_in f + count_in g) most_count) 0 9) 11)
    8)
    1

-- THE LAW: they make up the refusal of what the points read as
pub refusal_is : (size : ℕ) (x y : Stored) → tested size x y ≡ refusal_before size x y
unfolding refusal_before unmergeable mergeable
refusal_is size x y =
    let f = x.point.figures in
    let g = y.point.figures in
    let p = handed_in x in
    let q = handed_in y in
    let R : ℕ = pick (same_kind p.counts q.counts && beq p.extremes q.extremes) (pick (leb (count_of p.counts + count_of q.counts) most_count) 0 9) 11 in
    (λ j. pick (size_fits size f g)
    (pick (agrees-is size x j && agrees-is size y j)
    (pick (kind-is size x.bounds x.pos x.neg y.bounds y.pos y.neg f g j && beq p.extremes q.extremes)
    (pick (leb (count-is f x.bounds x.pos x.neg j + count-is g y.bounds y.pos y.neg j) most_count) 0 9) 11) 8) 1)
    ∙ gather (in_shape x) (in_shape y) (agrees_read size p) (agrees_read size q) R (size_fits size f g) (size_for size f) (size_for size g) (first-size size f g) (second-size size f g)
    ∙ ap (λ (s : Bool). pick s (pick ((in_shape x && in_shape y) && (agrees_read size p && agrees_read size q)) R 8) 1) (size_is size x.bounds x.pos x.neg y.bounds y.pos y.neg f g)
