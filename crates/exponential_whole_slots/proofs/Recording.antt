-- THE LAWS OF A SLOT over i64. Recording into it is the kind's: 8 where its series disagrees, 9 where its count is full, 16 where its sum does not
-- take the value, else the series with one value more. A refusal changes nothing. Assumes nothing.
use Prim.Native.Nat.{ℕ, suc, ◌+◌, ◌*◌, ◌^◌, ◌≤◌, ◌<◌}
use mathlib.Core.Path.{◌≡◌, refl, sym, ap, ◌∙◌}
use mathlib.Core.Logic.{⊎_elim}
use mathlib.Core.Bool.{Bool, true, false, ◌&&◌}
use mathlib.Core.List.{List, [], ◌∷◌}
use mathlib.Core.Option
use mathlib.Core.Option.{Option, none, some}
use native.Mathlib.Omega.{arith}
use lib.Dec.{eqb}
use lib.IntN.{ℤ}
use lib.ListN.{length, get_or, set, length-set}
use lib.Seq.{get_or-set_same, get_or-set_other}
use lib.Signed.{mag}
use lib.Ieee.{binary64, of_bits, fits as fits_float}
use lib.Ieee.Bits.{is_true}
use lib.Ieee.Scale.{finite}
use borrow.Author.Tests.{ltb-true, ltb-false}
use Rattle.laws.specs.Pick.{pick}
use Rattle.laws.specs.Said.{Said, refusal, success}
use Rattle.laws.specs.Over.{over}
use Rattle.laws.specs.Counting.{most_count}
use Rattle.laws.proofs.Bools.{flag, not-both, and_intro}
use Rattle.laws.proofs.Cases.{and-true}
use Rattle.rows.specs.Parts.{part_at, put_at}
use Rattle.rows.specs.Recording.{Recording, after}
use Rattle.rows.proofs.Parts.{part_length, put-length, put-own, put_other}
use Rattle.rows.proofs.Laws.{length_over}
use Rattle.floats.specs.Starts.{zero_float, FiniteF64}
use Rattle.integers.specs.Answers.{nearest_of}
use Rattle.integers.proofs.NoNearer.{nearest-is}
use Rattle.points.specs.Points.{Point, record1}
use Rattle.points.specs.Classes.{class_of}
use Rattle.points.specs.Counts.{exponential, Settings, Counts, exponential_counts}
use Rattle.points.specs.Any.{Summary, start, noted, Figures, record_figures}
use Rattle.points.specs.Whole.{whole}
use Rattle.exponential.specs.Series.{read, counts_for}
use Rattle.exponential.specs.Series as S
use Rattle.exponential.proofs.Call as E
use Rattle.exponential.proofs.Classes.{ranged-of}
use Rattle.exponential.proofs.Stays.{next-ok, reads}
use Rattle.exponential.proofs.Lists.{fresh_holds, total-one}
use Rattle.exponential_wholes.specs.declared.Head.{Head}
use Rattle.exponential_wholes.specs.Series.{summary, fresh_head, under, refusal_of, recording}
use Rattle.exponential_wholes.proofs.Call as W
use Rattle.exponential_slots.specs.Cells.{counts_in, words_of, narrow, readable}
use Rattle.exponential_slots.specs.Meaning.{shaped, counts_at}
use Rattle.exponential_slots.proofs.Cases.{reads_held, reads-fresh}
use Rattle.exponential_slots.proofs.Agreeing.{Accepted, accepted-of, shaped-says, counts_in_lem, in-shape, holds-is, can-read, series-agrees, shape_of, point_agrees}
use Rattle.exponential_slots.proofs.Written.{counts_of}
use Rattle.tally.specs.Map.{sound}
use Rattle.tally.proofs.MapSteps.{fits}
use Rattle.kinds.specs.Any.{passes, counts_hold}
use Rattle.kinds.specs.Wholes.{wholes}
use Rattle.exponential_whole_slots.specs.Cells.{Cells, head_in, head_at, summary_in, settings, series_at, written, recorded_at}
use Rattle.exponential_whole_slots.proofs.Cases.{head-held, head-fresh, into, unread, called}

-- what a caller of `record` has tested: the settings, the stores and the value
pub record Fit (size top x : ℕ) (s : Cells) (v : ℤ) : Type 0 where
  pub valid : passes (exponential size top) ≡ true
  pub figures : x < length s.figures
  pub extremes : x < length s.extremes
  pub pos : x * size + size ≤ length s.pos
  pub neg : x * size + size ≤ length s.neg
  pub value : wholes.finite v ≡ true

-- the head h over the rows xs and ys agrees and has the figures y
record Held (size top : ℕ) (h : Head) (xs ys : List ℕ) (y : Figures whole) : Type 0 where
  agree : S.agrees size top h.counts xs ys ≡ true
  count : h.counts.count ≤ most_count
  is : y ≡ record { counts = exponential_counts (read h.counts xs ys); summary = summary h }

-- the outcome o of a call that came to slot x took the value: the slot has the figures y, every other slot what it had
pub record Took (size x : ℕ) (s : Cells) (o : Recording Cells) (y : Figures whole) : Type 0 where
  pub no : o.no ≡ 0
  pub own : series_at size o.cells x ≡ y
  pub others : (j : ℕ) → (j ≡ x → ⊥) → series_at size o.cells j ≡ series_at size s j
  pub figures : length o.cells.figures ≡ length s.figures
  pub extremes : length o.cells.extremes ≡ length s.extremes
  pub pos : length o.cells.pos ≡ length s.pos
  pub neg : length o.cells.neg ≡ length s.neg

-- ---- the nearest f64 is finite
near : (v : ℤ) → wholes.finite v ≡ true → FiniteF64 (nearest_of v)
near v h = (nearest-is v (ltb-true (mag v) (2 ^ 63) h)).finite

zero-finite : finite zero_float ≡ true
unfolding of_bits
zero-finite = refl

-- ---- a new head and new rows written into the slot
module _ (size x : ℕ) (s : Cells) (p : Point) (m : Summary whole) (xs ys : List ℕ)
    (lf : x < length s.figures) (le : x < length s.extremes) (lp : x * size + size ≤ length s.pos) (ln : x * size + size ≤ length s.neg)
    (ex : length xs ≡ size) (ey : length ys ≡ size) where
  abbrev left : Cells
  left =
      record {
        figures = set s.figures x (words_of (counts_for p));
        extremes = set s.extremes x (m.min ∷ m.max ∷ m.sum ∷ []);
        pos = put_at size s.pos x xs;
        neg = put_at size s.neg x ys;
      }

  written-own : series_at size left x ≡ record { counts = counts_at size (words_of (counts_for p)) xs ys; summary = m }
  written-own =
      λ j. record {
        counts = counts_at size (get_or-set_same s.figures x (words_of (counts_for p)) [] lf j) (put-own size s.pos x lp xs ex j) (put-own size s.neg x ln ys ey j);
        summary = summary_in (get_or-set_same s.extremes x (m.min ∷ m.max ∷ m.sum ∷ []) [] le j);
      }

  written-other : (i : ℕ) → (i ≡ x → ⊥) → series_at size left i ≡ series_at size s i
  written-other i d =
      λ j. record {
        counts = counts_at size (get_or-set_other s.figures x i (words_of (counts_for p)) [] d j) (put_other size s.pos x lp xs ex i d j) (put_other size s.neg x ln ys ey i d j);
        summary = summary_in (get_or-set_other s.extremes x i (m.min ∷ m.max ∷ m.sum ∷ []) [] d j);
      }

-- ---- A REFUSAL CHANGES NOTHING, whatever is given
kept : (size x : ℕ) (s : Cells) (a : Said Head) (xs ys : List ℕ) → ((written size x s a xs ys).no ≡ 0 → ⊥) → (written size x s a xs ys).cells ≡ s
kept size x s (refusal n) xs ys d = refl
kept size x s (success h) xs ys d = absurd (d refl)

pub unchanged : (size top : ℕ) (sums : Bool) (x : ℕ) (updated : Bool) (s : Cells) (v : ℤ) → ((recorded_at size top sums x updated s v).no ≡ 0 → ⊥)
    → (recorded_at size top sums x updated s v).cells ≡ s
unchanged size top sums x updated s v d =
    let f = get_or s.figures x [] in
    ⊎_elim
    (λ (r : readable updated f ≡ true).
    let c = called size top sums x updated s v r in
    let o = recording size top sums (head_at top s x updated) (part_at size s.pos x) (part_at size s.neg x) v in
    ap (λ (o : Recording Cells). o.cells) c
    ∙ kept size x s o.answer o.pos o.neg (λ n. d (ap (λ (o : Recording Cells). o.no) c ∙ n)))
    (λ (r : readable updated f ≡ false). ap (λ (o : Recording Cells). o.cells) (unread size top sums x updated s v r))
    (flag (readable updated f))

count-full : (c : ℕ) → c ≤ most_count → fits (suc c) ≡ false → c ≡ most_count
count-full c h n = omega (arith, h, ltb-false (suc c) (2 ^ 64) n)

count_less : (c : ℕ) → fits (suc c) ≡ true → c < most_count
count_less c n = omega (arith, ltb-true (suc c) (2 ^ 64) n)

-- ---- THE LAWS
module _ (size top : ℕ) (sums : Bool) (x : ℕ) (s : Cells) (v : ℤ) (e : Bool) (g : Fit size top x s v) where
  abbrev f : List ℕ
  f = get_or s.figures x []

  abbrev l : List ℤ
  l = get_or s.extremes x []

  abbrev xs : List ℕ
  xs = part_at size s.pos x

  abbrev ys : List ℕ
  ys = part_at size s.neg x

  abbrev z : Settings
  z = settings size top sums e

  long-pos : length xs ≡ size
  long-pos = part_length size s.pos x g.pos

  long-neg : length ys ≡ size
  long-neg = part_length size s.neg x g.neg

  at-pos : size ≤ length xs
  at-pos = omega (arith, long-pos)

  at-neg : size ≤ length ys
  at-neg = omega (arith, long-neg)

  ok : Accepted size top
  ok = accepted-of size top g.valid

  finite-near : finite (nearest_of v) ≡ true
  finite-near = is_true (finite (nearest_of v)) (near v g.value).known

  -- ---- the numbers of a head
  into-number : (h : Head) (n : ℕ) → refusal_of size top sums h xs ys v ≡ n → (n ≡ 0 → ⊥) → into size x s (recording size top sums h xs ys v) ≡ after n s
  into-number h n d q = ap (into size x s) (sym (W.gives_up size top sums h xs ys v n d q))

  module _ (h : Head) where
    before_8 : S.agrees size top h.counts xs ys ≡ false → refusal_of size top sums h xs ys v ≡ 8
    before_8 a =
        let b = E.disagrees size top (under h.counts) xs ys (nearest_of v) at-pos at-neg finite-near a in
        W.number-before size top sums h xs ys v (λ q. omega (arith, b, q)) ∙ b

    module _ (y : Figures whole) (k : Held size top h xs ys y) where
      into-full : h.counts.count ≡ most_count → into size x s (recording size top sums h xs ys v) ≡ after 9 s
      into-full d =
          let b = E.full size top (under h.counts) xs ys (nearest_of v) at-pos at-neg finite-near k.agree zero-finite zero-finite d in
          into-number h 9 (W.number-before size top sums h xs ys v (λ q. omega (arith, b, q)) ∙ b) (λ q. omega arith)

      module _ (n : h.counts.count < most_count) where
        free : S.refusal_of size top (under h.counts) xs ys (nearest_of v) ≡ 0
        free = E.none size top (under h.counts) xs ys (nearest_of v) at-pos at-neg finite-near k.agree zero-finite zero-finite (λ q. omega arith)

        into-barred : whole.takes sums h.sum v ≡ false → into size x s (recording size top sums h xs ys v) ≡ after 16 s
        unfolding pick
        into-barred t =
            into-number h 16 (W.number-last size top sums h xs ys v t ∙ ap (λ m. pick (eqb m 0) 16 m) free) (λ q. omega arith)

        abbrev next : Point
        next = record1 size (read h.counts xs ys) (class_of zero_float (nearest_of v))

        into-took : whole.takes sums h.sum v ≡ true
            → Took size x s (into size x s (recording size top sums h xs ys v)) (record_figures whole z y v)
        into-took t =
            let w = ranged-of (nearest_of v) (is_true (fits_float binary64 (nearest_of v)) (near v g.value).fits) finite-near in
            let ok = next-ok size top h.counts xs ys (class_of zero_float (nearest_of v)) k.agree w in
            let ps = over next.pos.counts xs in
            let qs = over next.neg.counts ys in
            let lp : length ps ≡ size = length_over next.pos.counts xs (omega (arith, ok.pos.short, long-pos)) ∙ long-pos in
            let lq : length qs ≡ size = length_over next.neg.counts ys (omega (arith, ok.neg.short, long-neg)) ∙ long-neg in
            let u = total-one size (read h.counts xs ys) (class_of zero_float (nearest_of v)) in
            let o = noted whole sums (summary h) v in
            rw (W.goes_on size top sums h xs ys v (W.number-none size top sums h xs ys v free t))
            (record {
              no = refl;
              own = written-own size x s next o ps qs g.figures g.extremes g.pos g.neg lp lq
                  ∙ ap (λ (c : Counts). record { counts = c; summary = o })
                  (counts_of size top next xs ys ok (omega (arith, u)) (reads size top h.counts xs ys (class_of zero_float (nearest_of v)) k.agree w))
                  ∙ ap (λ (y : Figures whole). record_figures whole z y v) (sym k.is);
              others = written-other size x s next o ps qs g.figures g.extremes g.pos g.neg lp lq;
              figures = length-set s.figures x (words_of (counts_for next));
              extremes = length-set s.extremes x (o.min ∷ o.max ∷ o.sum ∷ []);
              pos = put-length size s.pos x g.pos ps lp;
              neg = put-length size s.neg x g.neg qs lq;
            })

  -- ---- a series that is there and agrees
  module _ (a : wholes.agrees z (series_at size s x) ≡ true) where
    holds : counts_hold (exponential size top) (counts_at size f xs ys) ≡ true
    holds = (and-true (counts_hold (exponential size top) (counts_at size f xs ys)) (true && true) a).0

    shape : shaped size f ≡ true
    shape = in-shape size f xs ys top ok holds

    narrow-is : narrow f ≡ true
    narrow-is = can-read size f xs ys top ok long-pos long-neg shape (sym (holds-is size f xs ys top ok shape) ∙ holds)

    held-there : Held size top (head_in (counts_in f) l) xs ys (series_at size s x)
    held-there =
        record {
          agree = series-agrees size f xs ys top ok long-pos long-neg shape (sym (holds-is size f xs ys top ok shape) ∙ holds);
          count = (shaped-says size f shape).count;
          is = ap (λ (c : Counts). record { counts = c; summary = (series_at size s x).summary }) (counts_in_lem size f xs ys shape);
        }

  -- ---- a fresh one
  held-fresh : Held size top (fresh_head top) xs ys (wholes.fresh z)
  held-fresh =
      let h = fresh_holds size top xs ys ok.least ok.most ok.fine at-pos at-neg in
      record {
        agree = h.agree;
        count = omega arith;
        is = ap (λ (p : Point). record { counts = exponential_counts p; summary = start whole }) (sym h.rows);
      }

  -- ---- which head is read
  from-there : narrow f ≡ true → recorded_at size top sums x true s v ≡ into size x s (recording size top sums (head_in (counts_in f) l) xs ys v)
  from-there n =
      called size top sums x true s v (reads_held true f refl ∙ n)
      ∙ ap (λ (h : Head). into size x s (recording size top sums h xs ys v)) (head-held top true f l refl)

  from-fresh : recorded_at size top sums x false s v ≡ into size x s (recording size top sums (fresh_head top) xs ys v)
  from-fresh =
      called size top sums x false s v (reads-fresh false f refl)
      ∙ ap (λ (h : Head). into size x s (recording size top sums h xs ys v)) (head-fresh top false f l refl)

  -- ---- a series that disagrees
  eight : narrow f ≡ true → wholes.agrees z (series_at size s x) ≡ false → refusal_of size top sums (head_in (counts_in f) l) xs ys v ≡ 8
  eight n a =
      ⊎_elim
      (λ (t : S.agrees size top (counts_in f) xs ys ≡ true).
      let h = shape_of size f xs ys top ok long-pos long-neg n t in
      let c = holds-is size f xs ys top ok h ∙ point_agrees size f xs ys top ok long-pos long-neg t in
      absurd (not-both (wholes.agrees z (series_at size s x)) (and_intro (counts_hold (exponential size top) (counts_at size f xs ys)) (true && true) c refl) a))
      (λ (t : S.agrees size top (counts_in f) xs ys ≡ false). before_8 (head_in (counts_in f) l) t)
      (flag (S.agrees size top (counts_in f) xs ys))

  -- ---- the slot's series, if its entry was updated, as tally's map has it
  abbrev there : Bool → Option (Figures whole)
  there updated = pick updated (some (series_at size s x)) none

  abbrev was : Bool → Figures whole
  was updated = Option.get_or (there updated) (wholes.fresh z)

  pub disagreeing : (updated : Bool) → sound wholes z (there updated) ≡ false → recorded_at size top sums x updated s v ≡ after 8 s
  unfolding pick
  disagreeing false a = absurd (not-both true refl a)
  disagreeing true a =
      ⊎_elim
      (λ (n : narrow f ≡ true). from-there n ∙ into-number (head_in (counts_in f) l) 8 (eight n a) (λ z. omega arith))
      (λ (n : narrow f ≡ false). unread size top sums x true s v (reads_held true f refl ∙ n))
      (flag (narrow f))

  -- the count of the figures is the head's
  counted : (h : Head) (y : Figures whole) → Held size top h xs ys y → wholes.total y ≡ h.counts.count
  counted h y k = ap wholes.total k.is

  sum_is : (h : Head) (y : Figures whole) → Held size top h xs ys y → y.summary.sum ≡ h.sum
  sum_is h y k = ap (λ (y : Figures whole). y.summary.sum) k.is

  pub full : (updated : Bool) → sound wholes z (there updated) ≡ true → fits (suc (wholes.total (was updated))) ≡ false → recorded_at size top sums x updated s v ≡ after 9 s
  unfolding pick
  full false a n =
      from-fresh
      ∙ into-full (fresh_head top) (wholes.fresh z) held-fresh (count-full 0 (omega arith) (ap (λ c. fits (suc c)) (sym (counted (fresh_head top) (wholes.fresh z) held-fresh)) ∙ n))
  full true a n =
      let k = held-there a in
      let h = head_in (counts_in f) l in
      from-there (narrow-is a)
      ∙ into-full h (series_at size s x) k (count-full h.counts.count k.count (ap (λ c. fits (suc c)) (sym (counted h (series_at size s x) k)) ∙ n))

  pub barred : (updated : Bool) → sound wholes z (there updated) ≡ true → fits (suc (wholes.total (was updated))) ≡ true
      → wholes.allows z (was updated) v ≡ false → recorded_at size top sums x updated s v ≡ after 16 s
  unfolding pick
  barred false a n b =
      from-fresh ∙ into-barred (fresh_head top) (wholes.fresh z) held-fresh (omega arith) (ap (λ y. whole.takes sums y v) (sym (sum_is (fresh_head top) (wholes.fresh z) held-fresh)) ∙ b)
  barred true a n b =
      let k = held-there a in
      let h = head_in (counts_in f) l in
      from-there (narrow-is a)
      ∙ into-barred h (series_at size s x) k (count_less h.counts.count (ap (λ c. fits (suc c)) (sym (counted h (series_at size s x) k)) ∙ n))
      (ap (λ y. whole.takes sums y v) (sym (sum_is h (series_at size s x) k)) ∙ b)

  pub took : (updated : Bool) → sound wholes z (there updated) ≡ true → fits (suc (wholes.total (was updated))) ≡ true
      → wholes.allows z (was updated) v ≡ true → Took size x s (recorded_at size top sums x updated s v) (wholes.add z (was updated) v)
  unfolding pick
  took false a n b =
      rw from-fresh
      (into-took (fresh_head top) (wholes.fresh z) held-fresh (omega arith) (ap (λ y. whole.takes sums y v) (sym (sum_is (fresh_head top) (wholes.fresh z) held-fresh)) ∙ b))
  took true a n b =
      let k = held-there a in
      let h = head_in (counts_in f) l in
      rw (from-there (narrow-is a))
      (into-took h (series_at size s x) k (count_less h.counts.count (ap (λ c. fits (suc c)) (sym (counted h (series_at size s x) k)) ∙ n))
      (ap (λ y. whole.takes sums y v) (sym (sum_is h (series_at size s x) k)) ∙ b))
