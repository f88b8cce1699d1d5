-- A value recorded into a head and a slot's parts: the slot holds the kind's next figures, every other slot what it held. Assumes nothing.
use Prim.Native.Nat.{ℕ, ◌+◌, ◌*◌, ◌≤◌, ◌<◌}
use mathlib.Core.Path.{◌≡◌, refl, sym, ap, ◌∙◌}
use mathlib.Core.Bool.{Bool, true}
use mathlib.Core.List.{List, [], ◌∷◌}
use native.Mathlib.Omega.{arith}
use lib.ListN.{length, set, length-set}
use lib.Seq.{get_or-set_same, get_or-set_other}
use lib.Ieee.{Float, binary64, fits}
use lib.Ieee.Scale.{finite}
use Rattle.laws.proofs.Cases.{and-true}
use Rattle.rows.specs.Parts.{part_at, put_at}
use Rattle.rows.specs.Recording.{Recording, after}
use Rattle.rows.proofs.Parts.{part_length, put-length, put-own, put_other}
use Rattle.floats.specs.Starts.{zero_float}
use Rattle.rows.specs.Rows.{over}
use Rattle.rows.proofs.Laws.{length_over}
use Rattle.points.specs.Points.{Point, record1}
use Rattle.points.specs.Values.{class_of, Summary, noted}
use Rattle.points.specs.Figures.{exponential, Counts, exponential_counts, Figures, record_figures}
use Rattle.points.proofs.Agreement.{Agreed}
use Rattle.exponential.specs.declared.Head.{Head}
use Rattle.exponential.specs.Series.{lowest_of_all, read, counts_for, head_of, refusal_of, recording}
use Rattle.exponential.specs.Series as S
use Rattle.exponential.proofs.Call.{full, none, refused_law}
use Rattle.exponential.proofs.Classes.{ranged-of}
use Rattle.exponential.proofs.Stays.{next-ok, reads}
use Rattle.exponential.proofs.Lists.{accepted-is, total-one, summary}
use Rattle.kinds.specs.Histograms.{passes, histograms}
use Rattle.exponential_slots.specs.Cells.{Cells, words_of}
use Rattle.exponential_slots.specs.Meaning.{settings, counts_at, summary_in, series_at}
use Rattle.exponential_slots.proofs.Cases.{into}
use Rattle.exponential_slots.proofs.Agreeing.{shaped_of, counts_in_lem}
use Rattle.laws.specs.Counting.{most_count}

-- what a caller of `record` has tested: the settings, the stores and the value
pub record Fit (size top x : ℕ) (s : Cells) (v : Float) : Type 0 where
  pub valid : passes (exponential size top) ≡ true
  pub figures : x < length s.figures
  pub extremes : x < length s.extremes
  pub pos : x * size + size ≤ length s.pos
  pub neg : x * size + size ≤ length s.neg
  pub value : histograms.finite v ≡ true

-- the head h over the rows xs and ys agrees and has the figures y
pub record Held (size top : ℕ) (h : Head) (xs ys : List ℕ) (y : Figures) : Type 0 where
  pub agree : S.agrees size top h.counts xs ys ≡ true
  pub min : finite h.min ≡ true
  pub max : finite h.max ≡ true
  pub count : h.counts.count ≤ most_count
  pub is : y ≡ record { counts = exponential_counts (read h.counts xs ys); summary = summary h }

-- the outcome o of a call that came to slot x took the value: the slot has the figures y, every other slot what it had
pub record Took (size x : ℕ) (s : Cells) (o : Recording Cells) (y : Figures) : Type 0 where
  pub no : o.no ≡ 0
  pub own : series_at size o.cells x ≡ y
  pub others : (j : ℕ) → (j ≡ x → ⊥) → series_at size o.cells j ≡ series_at size s j
  pub figures : length o.cells.figures ≡ length s.figures
  pub extremes : length o.cells.extremes ≡ length s.extremes
  pub pos : length o.cells.pos ≡ length s.pos
  pub neg : length o.cells.neg ≡ length s.neg

-- ---- a new head and new rows written into the slot

module _ (size x : ℕ) (s : Cells) (p : Point) (m : Summary) (xs ys : List ℕ)
    (lf : x < length s.figures) (le : x < length s.extremes) (lp : x * size + size ≤ length s.pos) (ln : x * size + size ≤ length s.neg)
    (ex : length xs ≡ size) (ey : length ys ≡ size) where
  abbrev left : Cells
  left =
      record {
        figures = set s.figures x (words_of (counts_for p));
        extremes = set s.extremes x (m.min ∷ m.max ∷ m.sum ∷ []);
        pos = put_at size s.pos x xs;
        neg = put_at size s.neg x ys;
      }

  written-own : series_at size left x ≡ record { counts = counts_at size (words_of (counts_for p)) xs ys; summary = m }
  written-own =
      λ j. record {
        counts = counts_at size (get_or-set_same s.figures x (words_of (counts_for p)) [] lf j) (put-own size s.pos x lp xs ex j) (put-own size s.neg x ln ys ey j);
        summary = summary_in (get_or-set_same s.extremes x (m.min ∷ m.max ∷ m.sum ∷ []) [] le j);
      }

  written-other : (i : ℕ) → (i ≡ x → ⊥) → series_at size left i ≡ series_at size s i
  written-other i d =
      λ j. record {
        counts = counts_at size (get_or-set_other s.figures x i (words_of (counts_for p)) [] d j) (put_other size s.pos x lp xs ex i d j) (put_other size s.neg x ln ys ey i d j);
        summary = summary_in (get_or-set_other s.extremes x i (m.min ∷ m.max ∷ m.sum ∷ []) [] d j);
      }

-- the words of a point that agrees read as that point
pub counts_of : (size top : ℕ) (p : Point) (xs ys : List ℕ) → Agreed size top lowest_of_all p → p.total ≤ most_count
    → read (counts_for p) (over p.pos.counts xs) (over p.neg.counts ys) ≡ p
    → counts_at size (words_of (counts_for p)) (over p.pos.counts xs) (over p.neg.counts ys) ≡ exponential_counts p
counts_of size top p xs ys k n e =
    counts_in_lem size (words_of (counts_for p)) (over p.pos.counts xs) (over p.neg.counts ys)
    (shaped_of size (words_of (counts_for p)) (record { count = n; level = omega arith; pos = k.pos.short; neg = k.neg.short }))
    ∙ ap exponential_counts e

-- ---- the series' call written into the slot

-- a refusal changes nothing
pub into-refused : (size top x : ℕ) (s : Cells) (v : Float) (h : Head) (n : ℕ)
    → refusal_of size top h (part_at size s.pos x) (part_at size s.neg x) v ≡ n → (n ≡ 0 → ⊥)
    → into size x s (recording size top h (part_at size s.pos x) (part_at size s.neg x) v) ≡ after n s
into-refused size top x s v h n e z =
    ap (into size x s) (sym (refused_law size top h (part_at size s.pos x) (part_at size s.neg x) v n (sym e) z))

module _ (size top x : ℕ) (s : Cells) (v : Float) (g : Fit size top x s v) (h : Head) where
  abbrev xs : List ℕ
  xs = part_at size s.pos x

  abbrev ys : List ℕ
  ys = part_at size s.neg x

  long-pos : length xs ≡ size
  long-pos = part_length size s.pos x g.pos

  long-neg : length ys ≡ size
  long-neg = part_length size s.neg x g.neg

  pub finite_v : finite v ≡ true
  finite_v = (and-true (finite v) (fits binary64 v) g.value).0

  module _ (y : Figures) (k : Held size top h xs ys y) where
    pub into-full : h.counts.count ≡ most_count → into size x s (recording size top h xs ys v) ≡ after 9 s
    into-full e =
        into-refused size top x s v h 9
        (full size top h xs ys v (omega (arith, long-pos)) (omega (arith, long-neg)) finite_v k.agree k.min k.max e)
        (λ z. omega arith)

    abbrev next : Point
    next = record1 size (read h.counts xs ys) (class_of zero_float v)

    pub into-took : (e m : Bool) → h.counts.count < most_count
        → Took size x s (into size x s (recording size top h xs ys v)) (record_figures (settings size top e m) y v)
    into-took e m n =
        let w = ranged-of v (and-true (finite v) (fits binary64 v) g.value).1 finite_v in
        let ok = next-ok size top h.counts xs ys (class_of zero_float v) k.agree w in
        let z = none size top h xs ys v (omega (arith, long-pos)) (omega (arith, long-neg)) finite_v k.agree k.min k.max (λ q. omega arith) in
        let ps = over next.pos.counts xs in
        let qs = over next.neg.counts ys in
        let lp : length ps ≡ size = length_over next.pos.counts xs (omega (arith, ok.pos.short, long-pos)) ∙ long-pos in
        let lq : length qs ≡ size = length_over next.neg.counts ys (omega (arith, ok.neg.short, long-neg)) ∙ long-neg in
        let t = total-one size (read h.counts xs ys) (class_of zero_float v) in
        let o = head_of (counts_for next) (noted (summary h) v) in
        rw (accepted-is size top h xs ys v z)
        (record {
          no = refl;
          own = written-own size x s next (summary o) ps qs g.figures g.extremes g.pos g.neg lp lq
              ∙ ap (λ (c : Counts). record { counts = c; summary = summary o }) (counts_of size top next xs ys ok (omega (arith, t)) (reads size top h.counts xs ys (class_of zero_float v) k.agree w))
              ∙ ap (λ (y : Figures). record_figures (settings size top e m) y v) (sym k.is);
          others = written-other size x s next (summary o) ps qs g.figures g.extremes g.pos g.neg lp lq;
          figures = length-set s.figures x (words_of (counts_for next));
          extremes = length-set s.extremes x (o.min ∷ o.max ∷ o.sum ∷ []);
          pos = put-length size s.pos x g.pos ps lp;
          neg = put-length size s.neg x g.neg qs lq;
        })
