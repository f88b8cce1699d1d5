-- The exponential kind's code at a slot: how it reads a series, records one value and puts the series back (`Slotted`). Assumes nothing.
use Prim.Native.Nat.{ℕ}
use mathlib.Core.Path.{◌≡◌, refl, sym, ap, subst, ◌∙◌}
use mathlib.Core.Logic.{⊎_elim}
use mathlib.Core.Bool.{Bool, true, false, ◌&&◌}
use mathlib.Core.List.{List, []}
use native.Mathlib.Omega.{arith}
use lib.Dec.{eqb}
use lib.ListN.{length, get_or, set, length-set}
use lib.Seq.{get_or-set_same, set-set}
use lib.Ieee.{Float, nan, binary64, fits}
use lib.Ieee.Scale.{finite}
use Rattle.laws.specs.Pick.{pick}
use Rattle.laws.specs.Said.{Said, refusal, success, number}
use Rattle.laws.proofs.Bools.{flag, not-both, and_intro, pick-false}
use Rattle.laws.proofs.Cases.{and-true}
use Rattle.rows.specs.Parts.{part_at, put_at}
use Rattle.rows.specs.Recording.{Recording}
use Rattle.rows.specs.Recording as R
use Rattle.rows.proofs.Parts.{part_length, put-length, put-own, put_same}
use Rattle.many.specs.Many.{Many}
use Rattle.many.proofs.Alike.{pick_first, pick_second}
use Rattle.points.specs.Figures.{exponential, Settings}
use Rattle.kinds.specs.Histograms.{counts_hold, histograms}
use Rattle.exponential.specs.declared.Head.{Head}
use Rattle.exponential.specs.Series.{Outcome, recording, refusal_of}
use Rattle.exponential.specs.Runs.{fresh_head}
use Rattle.exponential.specs.Inner.{Series, after}
use Rattle.exponential.proofs.Call.{not_finite}
use Rattle.exponential.proofs.Lists.{accepted-is, fresh_holds}
use Rattle.exponential_slots.specs.Cells.{Cells, Room, words_of, narrow, readable, head_in, head_of, head_at, written, recorded_at}
use Rattle.exponential_slots.specs.Meaning.{settings, shaped, counts_at, series_at}
use Rattle.exponential_slots.proofs.Cases.{into, reads_held, reads-fresh, head-held, head-fresh, unread, called}
use Rattle.exponential_slots.proofs.Agreeing.{Accepted, accepted-of, in-shape, holds-is, can-read, series-agrees}
use Rattle.value_map.specs.Exponential.{exponential_store}
use Rattle.value_map.proofs.ExponentialOwes.{unset-valid}
use Rattle.batches.proofs.Slotted.{Ready, Slotted}
use Rattle.batches.proofs.Puts.{put-put}
use Rattle.exponential_batches.specs.Series.{Sound, step}
use Rattle.exponential_batches.specs.Slot.{load, extremes_of, put}
use Rattle.exponential_batches.proofs.Steps as Steps

-- ---- the number of a value, as the code asks for it

module _ (size top : ℕ) (c : Cells) (x : ℕ) (u : Bool) (v : Float) where
  abbrev n : ℕ
  n = (recorded_at size top x u c v).no

  -- that of the series which is read
  pub read_no : readable u (get_or c.figures x []) ≡ true → n ≡ (step size top (load size top c x u) v).no
  unfolding step
  read_no r =
      let s = load size top c x u in
      let o = recording size top s.head s.pos s.neg v in
      ap (λ (y : Recording Cells). y.no) (called size top x u c v r) ∙ number_of o o.answer
    where
      number_of : (o : Outcome) (a : Said Head) → (written size x c a o.pos o.neg).no ≡ number a
      number_of o (refusal n) = refl
      number_of o (success h) = refl

  module _ (known : Bool) (k : known ≡ false) where
    pub asked-unread : readable u (get_or c.figures x []) ≡ false → 8 ≡ pick known 0 n
    asked-unread r = sym (pick-false known 0 n k ∙ ap (λ (y : Recording Cells). y.no) (unread size top x u c v r))

    pub asked-read : readable u (get_or c.figures x []) ≡ true → refusal_of size top (head_at top c x u) (part_at size c.pos x) (part_at size c.neg x) v ≡ pick known 0 n
    asked-read r = sym (pick-false known 0 n k ∙ read_no r ∙ Steps.number_is size top (load size top c x u) v)

-- ---- a slot that is ready: its words can be read, and its series agrees

module _ (size top : ℕ) (c : Cells) (x : ℕ) (u : Bool) (r : Ready (exponential_store size top) (true, true) x u c) where
  abbrev f : List ℕ
  f = get_or c.figures x []

  abbrev l : List Float
  l = get_or c.extremes x []

  abbrev xs : List ℕ
  xs = part_at size c.pos x

  abbrev ys : List ℕ
  ys = part_at size c.neg x

  abbrev z : Settings
  z = settings size top true true

  long-pos : length xs ≡ size
  long-pos = part_length size c.pos x r.room.pos

  long-neg : length ys ≡ size
  long-neg = part_length size c.neg x r.room.neg

  ok : Accepted size top
  ok = accepted-of size top (unset-valid size top r.set)

  abbrev under : Head → Series
  under h = record { head = h; pos = xs; neg = ys }

  module _ (a : histograms.agrees z (series_at size c x) ≡ true) where
    abbrev holds : counts_hold (exponential size top) (counts_at size f xs ys) ≡ true
    holds = (and-true (counts_hold (exponential size top) (counts_at size f xs ys)) (finite (get_or l 0 nan) && finite (get_or l 1 nan)) a).0

    ends : (finite (get_or l 0 nan) ≡ true) × (finite (get_or l 1 nan) ≡ true)
    ends = and-true (finite (get_or l 0 nan)) (finite (get_or l 1 nan)) (and-true (counts_hold (exponential size top) (counts_at size f xs ys)) (finite (get_or l 0 nan) && finite (get_or l 1 nan)) a).1

    shape : shaped size f ≡ true
    shape = in-shape size f xs ys top ok holds

    narrow-is : narrow f ≡ true
    narrow-is = can-read size f xs ys top ok long-pos long-neg shape (sym (holds-is size f xs ys top ok shape) ∙ holds)

    sound-held : Sound size top (under (head_in f l))
    unfolding head_in
    sound-held =
        record {
          agree = series-agrees size f xs ys top ok long-pos long-neg shape (sym (holds-is size f xs ys top ok shape) ∙ holds);
          min = ends.0;
          max = ends.1;
          pos = omega (arith, long-pos);
          neg = omega (arith, long-neg);
        }

  sound-fresh : Sound size top (under (fresh_head top))
  sound-fresh =
      let h = fresh_holds size top xs ys ok.least ok.most ok.fine (omega (arith, long-pos)) (omega (arith, long-neg)) in
      record { agree = h.agree; min = h.fin_min; max = h.fin_max; pos = h.long_pos; neg = h.long_neg }

  pub reads : readable u f ≡ true
  reads =
      ⊎_elim
      (λ (e : u ≡ true). reads_held u f e ∙ narrow-is (r.series e))
      (λ (e : u ≡ false). reads-fresh u f e)
      (flag u)

  pub sound-there : Sound size top (load size top c x u)
  sound-there =
      ⊎_elim
      (λ (e : u ≡ true). subst (λ (h : Head). Sound size top (under h)) (sym (head-held top u f l e)) (sound-held (r.series e)))
      (λ (e : u ≡ false). subst (λ (h : Head). Sound size top (under h)) (sym (head-fresh top u f l e)) sound-fresh)
      (flag u)

  -- ---- one value

  module _ (v : Float) (t : fits binary64 v ≡ true) where
    abbrev s : Series
    s = load size top c x u

    abbrev o : Outcome
    o = recording size top s.head s.pos s.neg v

    pub wild : histograms.finite v ≡ false → (step size top s v).no ≡ 6
    wild q =
        let k : finite v ≡ false = ⊎_elim (λ (e : finite v ≡ true). absurd (not-both (histograms.finite v) (and_intro (finite v) (fits binary64 v) e t) q)) (λ (e : finite v ≡ false). e) (flag (finite v)) in
        let e = not_finite size top s.head s.pos s.neg v (omega (arith, long-pos)) (omega (arith, long-neg)) k in
        ap (λ (y : Recording Series). y.no) (Steps.refused size top s v (λ i. let j = sym e ∙ i in omega (arith, j))) ∙ e

    recorded-is : recorded_at size top x u c v ≡ into size x c o
    recorded-is = called size top x u c v reads

    pub took : (step size top s v).no ≡ 0 → recorded_at size top x u c v ≡ R.after 0 (put size c x (step size top s v).cells)
    unfolding step
    took e =
        recorded-is
        ∙ subst (λ (y : Outcome). into size x c y ≡ R.after 0 (put size c x (after y s))) (sym (accepted-is size top s.head s.pos s.neg v (Steps.not-refused size top s v e))) refl

    pub fitting : (step size top s v).no ≡ 0 → (length (step size top s v).cells.pos ≡ size) × (length (step size top s v).cells.neg ≡ size)
    fitting e =
        let k = Steps.lengths size top s v sound-there t (Steps.not-refused size top s v e) in
        (k.0 ∙ long-pos, k.1 ∙ long-neg)

-- ---- a series put into a slot

module _ (size top : ℕ) (c : Cells) (x : ℕ) (s : Series) (r : Room size c x) (lp : length s.pos ≡ size) (ln : length s.neg ≡ size) where
  pub read_back : load size top (put size c x s) x true ≡ s
  unfolding head_of pick head_in
  read_back =
      let f = get_or-set_same c.figures x (words_of s.head.counts) [] r.figures in
      let e = get_or-set_same c.extremes x (extremes_of s.head) [] r.extremes in
      λ j. record { head = head_of top true (f j) (e j); pos = put-own size c.pos x r.pos s.pos lp j; neg = put-own size c.neg x r.neg s.neg ln j }

  pub put-again : (t : Series) → put size (put size c x s) x t ≡ put size c x t
  put-again t =
      λ j. record {
        figures = set-set c.figures x (words_of s.head.counts) (words_of t.head.counts) j;
        extremes = set-set c.extremes x (extremes_of s.head) (extremes_of t.head) j;
        pos = put-put size c.pos x s.pos t.pos r.pos lp j;
        neg = put-put size c.neg x s.neg t.neg r.neg ln j;
      }

  pub put-room : Room size (put size c x s) x
  put-room =
      record {
        figures = omega (arith, r.figures, length-set c.figures x (words_of s.head.counts));
        extremes = omega (arith, r.extremes, length-set c.extremes x (extremes_of s.head));
        pos = omega (arith, r.pos, put-length size c.pos x r.pos s.pos lp);
        neg = omega (arith, r.neg, put-length size c.neg x r.neg s.neg ln);
      }

-- ---- the cells at the code's end: the rows are put back, the head only if something was taken

module _ (size top : ℕ) (c : Cells) (x : ℕ) (u : Bool) (m : Many Series) (figures : List (List ℕ)) (extremes : List (List Float))
    (p : figures ≡ pick (eqb m.taken 0) c.figures (set c.figures x (words_of m.left.head.counts)))
    (q : extremes ≡ pick (eqb m.taken 0) c.extremes (set c.extremes x (extremes_of m.left.head))) where
  abbrev pub end : Cells
  end = record { figures = figures; extremes = extremes; pos = put_at size c.pos x m.left.pos; neg = put_at size c.neg x m.left.neg }

  pub kept_off : m.taken ≡ 0 → m.left ≡ load size top c x u → end ≡ c
  kept_off z l =
      let f = p ∙ pick_first m.taken z c.figures (set c.figures x (words_of m.left.head.counts)) in
      let g = q ∙ pick_first m.taken z c.extremes (set c.extremes x (extremes_of m.left.head)) in
      let a = ap (λ (y : Series). put_at size c.pos x y.pos) l ∙ put_same size c.pos x in
      let b = ap (λ (y : Series). put_at size c.neg x y.neg) l ∙ put_same size c.neg x in
      λ j. record { figures = f j; extremes = g j; pos = a j; neg = b j }

  pub kept_on : (m.taken ≡ 0 → ⊥) → end ≡ put size c x m.left
  kept_on d =
      let f = p ∙ pick_second m.taken d c.figures (set c.figures x (words_of m.left.head.counts)) in
      let g = q ∙ pick_second m.taken d c.extremes (set c.extremes x (extremes_of m.left.head)) in
      λ j. record { figures = f j; extremes = g j; pos = end.pos; neg = end.neg }

-- ---- the instance

abbrev pub slotted : (size top : ℕ) → Slotted (exponential_store size top) (true, true)
slotted size top =
    record {
      Series = Series;
      load = load size top;
      put = put size;
      step = step size top;
      Shape = λ v. fits binary64 v ≡ true;
      nought = nan;
      Fitting = λ s. (length s.pos ≡ size) × (length s.neg ≡ size);
      unchanged = λ c x u v r t d. Steps.kept size top (load size top c x u) v d;
      wild = λ c x u v r t q. wild size top c x u r v t q;
      refused = λ c x u v r t q d. read_no size top c x u v (reads size top c x u r);
      took = λ c x u v r t q e. (took size top c x u r v t e, fitting size top c x u r v t e);
      read_back = λ c x s r g. read_back size top c x s r g.0 g.1;
      put-again = λ c x s t r g. put-again size top c x s r g.0 g.1 t;
      put-room = λ c x s r g. put-room size top c x s r g.0 g.1;
    }
