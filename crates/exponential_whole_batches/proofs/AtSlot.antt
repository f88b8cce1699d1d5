-- THE EXPONENTIAL KIND'S SLOTS over i64, as the code records many values there: read once, put back once. Assumes nothing.
use Prim.Native.Nat.{ℕ}
use mathlib.Core.Path.{◌≡◌, refl, sym, ap, ◌∙◌}
use mathlib.Core.Logic.{⊎_elim}
use mathlib.Core.Bool.{Bool, true, false, ◌&&◌}
use mathlib.Core.List.{List, []}
use native.Mathlib.Omega.{arith}
use lib.IntN as Whole
use lib.IntN.{ℤ}
use lib.Dec.{eqb}
use lib.ListN.{length, get_or, drop, set, length-set}
use lib.Seq.{get_or-set_same, set-set, drop-cons}
use Rattle.laws.specs.Pick.{pick}
use Rattle.laws.specs.Said.{Said, refusal, success, number}
use Rattle.laws.proofs.Bools.{flag, not-both, and_intro, pick_true, pick-false}
use Rattle.laws.proofs.Cases.{and-true}
use Rattle.integers.specs.Answers.{in_range}
use Rattle.points.specs.Counts.{exponential}
use Rattle.kinds.specs.Any.{counts_hold}
use Rattle.rows.specs.Parts.{part_at, put_at}
use Rattle.rows.specs.Recording.{Recording, after}
use Rattle.rows.proofs.Parts.{part_length, put-length, put-own, put_same}
use Rattle.exponential.specs.Series.{agrees}
use Rattle.exponential.proofs.Lists.{fresh_holds}
use Rattle.exponential_wholes.specs.declared.Head.{Head}
use Rattle.exponential_wholes.specs.Series.{Outcome, recording}
use Rattle.exponential_slots.specs.Cells.{counts_in, words_of, narrow, readable}
use Rattle.exponential_slots.specs.Meaning.{counts_at}
use Rattle.exponential_slots.proofs.Cases.{reads_held, reads-fresh}
use Rattle.exponential_slots.proofs.Agreeing.{Accepted, accepted-of, in-shape, holds-is, can-read, series-agrees, shape_of, point_agrees}
use Rattle.exponential_whole_slots.specs.Cells.{Cells, Room, head_of, written, recorded_at}
use Rattle.exponential_whole_slots.proofs.Cases.{head-held, head-fresh, into, called}
use Rattle.value_map.proofs.ExponentialOwes.{unset-valid}
use Rattle.whole_map.specs.Exponential.{exponential_wholes}
use Rattle.kinds.specs.Wholes.{wholes}
use Rattle.kinds.proofs.Wholes.{wholes-steady}
use Rattle.whole_map.proofs.ExponentialOwes.{owed}
use Rattle.many.specs.Many.{Many, many, stopped, each}
use Rattle.many.proofs.Alike.{pick_first, pick_second}
use Rattle.batches.specs.Inner.{recorded_all}
use Rattle.batches.proofs.Puts.{put-put}
use Rattle.batches.proofs.Slotted.{Ready, Slotted, unsound-all, slot-ends}
use Rattle.exponential_whole_batches.specs.Series.{Series, Sound, leaving, step}
use Rattle.exponential_whole_batches.specs.Slot.{load, extremes_of, put, agrees_at, Asks}
use Rattle.exponential_whole_batches.proofs.Turn.{is_i64, no_i64, step_is, kept, taken_is, long}

-- ---- the counts at a slot: their words can be read and they agree just where they hold
module _ (size top : ℕ) (ok : Accepted size top) (f xs ys : List ℕ) (lp : length xs ≡ size) (ln : length ys ≡ size) where
  abbrev hold : Bool
  hold = counts_hold (exponential size top) (counts_at size f xs ys)

  pub counts-held : hold ≡ true → (narrow f ≡ true) × (agrees size top (counts_in f) xs ys ≡ true)
  counts-held h =
      let shape = in-shape size f xs ys top ok h in
      let point = sym (holds-is size f xs ys top ok shape) ∙ h in
      (can-read size f xs ys top ok lp ln shape point, series-agrees size f xs ys top ok lp ln shape point)

  pub hold-is : narrow f ≡ true → agrees size top (counts_in f) xs ys ≡ hold
  hold-is n =
      ⊎_elim
      (λ (t : agrees size top (counts_in f) xs ys ≡ true).
      t ∙ sym (holds-is size f xs ys top ok (shape_of size f xs ys top ok lp ln n t) ∙ point_agrees size f xs ys top ok lp ln t))
      (λ (t : agrees size top (counts_in f) xs ys ≡ false).
      ⊎_elim (λ (h : hold ≡ true). absurd (not-both (agrees size top (counts_in f) xs ys) (counts-held h).1 t)) (λ (h : hold ≡ false). t ∙ sym h) (flag hold))
      (flag (agrees size top (counts_in f) xs ys))

  pub hold-not : narrow f ≡ false → hold ≡ false
  hold-not n = ⊎_elim (λ (h : hold ≡ true). absurd (not-both (narrow f) (counts-held h).0 n)) (λ (h : hold ≡ false). h) (flag hold)

  -- the series of the slot's words and rows agrees, where one is held
  pub there-is : (u : Bool) → u ≡ true → narrow f ≡ true → agrees size top (counts_in f) xs ys ≡ agrees_at size top u f xs ys
  unfolding agrees_at
  there-is u e n = hold-is n ∙ sym (pick_true _ _ _ e)

  pub there-not : (u : Bool) → u ≡ true → narrow f ≡ false → false ≡ agrees_at size top u f xs ys
  unfolding agrees_at
  there-not u e n = sym (pick_true _ _ _ e ∙ hold-not n)

module _ (size top : ℕ) (f xs ys : List ℕ) where
  pub there-none : (u : Bool) → u ≡ false → true ≡ agrees_at size top u f xs ys
  unfolding agrees_at
  there-none u e = sym (pick-false _ _ _ e)

  abbrev Held : Bool
  Held = counts_hold (exponential size top) (counts_at size f xs ys)

  pub there-agrees : (u : Bool) → agrees_at size top u f xs ys ≡ true → u ≡ true → Held ≡ true
  unfolding agrees_at
  there-agrees u a e = sym (pick_true _ _ _ e) ∙ a

  pub there-known : (u : Bool) → (u ≡ true → Held ≡ true) → agrees_at size top u f xs ys ≡ true
  unfolding agrees_at pick
  there-known true h = h refl
  there-known false h = refl

  pub there-disagrees : (u : Bool) → agrees_at size top u f xs ys ≡ false → (u ≡ true) × (Held ≡ false)
  unfolding agrees_at pick
  there-disagrees true h = (refl, h)
  there-disagrees false h = absurd (not-both true refl h)

-- ---- a series put into a slot

-- its rows are as long as the slot's
abbrev Fitting : ℕ → Series → Type 0
Fitting size s = (length s.pos ≡ size) × (length s.neg ≡ size)

module _ (size : ℕ) (c : Cells) (x : ℕ) (s : Series) (r : Room size c x) (l : Fitting size s) where
  read_back : (top : ℕ) → load size top (put size c x s) x true ≡ s
  unfolding head_of pick
  read_back top =
      let f = get_or-set_same c.figures x (words_of s.head.counts) [] r.figures in
      let e = get_or-set_same c.extremes x (extremes_of s.head) [] r.extremes in
      λ j. record {
        head = head_of top true (f j) (e j);
        pos = put-own size c.pos x r.pos s.pos l.0 j;
        neg = put-own size c.neg x r.neg s.neg l.1 j;
      }

  put-again : (t : Series) → put size (put size c x s) x t ≡ put size c x t
  put-again t =
      λ j. record {
        figures = set-set c.figures x (words_of s.head.counts) (words_of t.head.counts) j;
        extremes = set-set c.extremes x (extremes_of s.head) (extremes_of t.head) j;
        pos = put-put size c.pos x s.pos t.pos r.pos l.0 j;
        neg = put-put size c.neg x s.neg t.neg r.neg l.1 j;
      }

  put-room : Room size (put size c x s) x
  put-room =
      record {
        figures = omega (arith, r.figures, length-set c.figures x (words_of s.head.counts));
        extremes = omega (arith, r.extremes, length-set c.extremes x (extremes_of s.head));
        pos = omega (arith, r.pos, put-length size c.pos x r.pos s.pos l.0);
        neg = omega (arith, r.neg, put-length size c.neg x r.neg s.neg l.1);
      }

into-number : (size x : ℕ) (c : Cells) (a : Said Head) (xs ys : List ℕ) → (written size x c a xs ys).no ≡ number a
into-number size x c (refusal n) xs ys = refl
into-number size x c (success h) xs ys = refl

-- ---- a slot that is ready
module _ (size top : ℕ) (sums w : Bool) (x : ℕ) (u : Bool) (c : Cells) (r : Ready (exponential_wholes size top sums) w x u c) where
  abbrev f : List ℕ
  f = get_or c.figures x []

  abbrev m : List ℤ
  m = get_or c.extremes x []

  abbrev xs : List ℕ
  xs = part_at size c.pos x

  abbrev ys : List ℕ
  ys = part_at size c.neg x

  abbrev s : Series
  s = load size top c x u

  ok : Accepted size top
  ok = accepted-of size top (unset-valid size top r.set)

  lp : length xs ≡ size
  lp = part_length size c.pos x r.room.pos

  ln : length ys ≡ size
  ln = part_length size c.neg x r.room.neg

  there : u ≡ true → (narrow f ≡ true) × (agrees size top (counts_in f) xs ys ≡ true)
  there e = counts-held size top ok f xs ys lp ln (and-true (counts_hold (exponential size top) (counts_at size f xs ys)) (true && true) (r.series e)).0

  reads-by : (b : Bool) → u ≡ b → readable u f ≡ true
  reads-by true e = reads_held u f e ∙ (there e).0
  reads-by false e = reads-fresh u f e

  pub reads : readable u f ≡ true
  reads = reads-by u refl

  agrees-by : (b : Bool) → u ≡ b → agrees size top s.head.counts xs ys ≡ true
  agrees-by true e = ap (λ (h : Head). agrees size top h.counts xs ys) (head-held top u f m e) ∙ (there e).1
  agrees-by false e =
      ap (λ (h : Head). agrees size top h.counts xs ys) (head-fresh top u f m e)
      ∙ (fresh_holds size top xs ys ok.least ok.most ok.fine (omega (arith, lp)) (omega (arith, ln))).agree

  pub sound-there : Sound size top s
  sound-there = record { agree = agrees-by u refl; pos = omega (arith, lp); neg = omega (arith, ln) }

  module _ (v : ℤ) where
    abbrev o : Outcome
    o = recording size top sums s.head xs ys v

    recorded-is : recorded_at size top sums x u c v ≡ into size x c o
    recorded-is = called size top sums x u c v reads

    unchanged : ((step size top sums s v).no ≡ 0 → ⊥) → (step size top sums s v).cells ≡ s
    unchanged d =
        ⊎_elim (λ (h : in_range v ≡ true). kept size top sums s v (is_i64 v h) d)
        (λ (h : in_range v ≡ false). ap (λ (y : Recording Series). y.cells) (no_i64 size top sums s v h))
        (flag (in_range v))

    module _ (q : in_range v ≡ true) where
      refused : (recorded_at size top sums x u c v).no ≡ (step size top sums s v).no
      refused =
          ap (λ (y : Recording Cells). y.no) recorded-is ∙ into-number size x c o.answer o.pos o.neg
          ∙ ap (λ (y : Recording Series). y.no) (sym (step_is size top sums s v (is_i64 v q)))

      took : (step size top sums s v).no ≡ 0 → (recorded_at size top sums x u c v ≡ after 0 (put size c x (step size top sums s v).cells)) × Fitting size (step size top sums s v).cells
      took t =
          let i = is_i64 v q in
          let a = taken_is size top sums s v i t in
          let l = long size top sums s v i sound-there t in (
            recorded-is ∙ ap (into size x c) a ∙ ap (λ (y : Recording Series). after 0 (put size c x y.cells)) (sym (step_is size top sums s v i ∙ ap (leaving s) a)),
            (l.0 ∙ lp, l.1 ∙ ln),
          )

pub slotted : (size top : ℕ) (sums w : Bool) → Slotted (exponential_wholes size top sums) w
slotted size top sums w =
    record {
      Series = Series;
      load = load size top;
      put = put size;
      step = step size top sums;
      Shape = λ v. Unit {0};
      nought = Whole.pos 0;
      Fitting = Fitting size;
      unchanged = λ c x u v r k d. unchanged size top sums w x u c r v d;
      wild = λ c x u v r k q. ap (λ (y : Recording Series). y.no) (no_i64 size top sums (load size top c x u) v q);
      refused = λ c x u v r k q d. refused size top sums w x u c r v q;
      took = λ c x u v r k q t. took size top sums w x u c r v q t;
      read_back = λ c x s r l. read_back size c x s r l top;
      put-again = λ c x s t r l. put-again size c x s r l t;
      put-room = λ c x s r l. put-room size c x s r l;
    }

-- ---- what the code asks and leaves, of a slot as it was lent
module _ (known : Bool) (size top : ℕ) (sums : Bool) (x : ℕ) (u : Bool) (c : Cells) (vs : List ℤ) (q : Asks known size top sums x u c vs) where
  abbrev words : List ℕ
  words = get_or c.figures x []

  abbrev ps : List ℕ
  ps = part_at size c.pos x

  abbrev ns : List ℕ
  ns = part_at size c.neg x

  pub rows_long : (length ps ≡ size) × (length ns ≡ size)
  rows_long = (part_length size c.pos x q.room.pos, part_length size c.neg x q.room.neg)

  pub known-agrees : known ≡ true → agrees_at size top u words ps ns ≡ true
  known-agrees k =
      there-known size top words ps ns u (λ e. (and-true (counts_hold (exponential size top) (counts_at size words ps ns)) (true && true) (q.series k e)).0)

  -- it agrees
  pub ready : agrees_at size top u words ps ns ≡ true → Ready (exponential_wholes size top sums) true x u c
  ready a =
      record {
        set = q.set;
        room = q.room;
        series = λ e. and_intro (counts_hold (exponential size top) (counts_at size words ps ns)) (true && true) (there-agrees size top words ps ns u a e) refl;
      }

  -- it does not: 8
  pub stops : agrees_at size top u words ps ns ≡ false → stopped 8 c ≡ recorded_all (exponential_wholes size top sums) x u c vs
  stops a =
      let d = there-disagrees size top words ps ns u a in
      let k : wholes.agrees ((exponential_wholes size top sums).settings true) ((exponential_wholes size top sums).at c x) ≡ false = rw d.1 in
      sym (ap (recorded_all (exponential_wholes size top sums) x u c) (drop-cons vs 0 (Whole.pos 0) q.some)
      ∙ unsound-all (owed size top sums) true x u c q.set q.room (get_or vs 0 (Whole.pos 0)) (drop 1 vs) q.first d.0 k)

  -- what the loop left, its head kept
  pub ends : Ready (exponential_wholes size top sums) true x u c → (m : Many Series) → m ≡ each (step size top sums) (load size top c x u) vs
      → (figures : List (List ℕ)) (extremes : List (List ℤ)) → figures ≡ pick (eqb m.taken 0) c.figures (set c.figures x (words_of m.left.head.counts))
      → extremes ≡ pick (eqb m.taken 0) c.extremes (set c.extremes x (extremes_of m.left.head))
      → many m.taken m.no (record { figures = figures; extremes = extremes; pos = put_at size c.pos x m.left.pos; neg = put_at size c.neg x m.left.neg })
      ≡ recorded_all (exponential_wholes size top sums) x u c vs
  unfolding slotted
  ends r m e figures extremes p q =
      slot-ends (owed size top sums) wholes-steady true (slotted size top sums true) x u c r vs (λ i. tt) m e
      (record { figures = figures; extremes = extremes; pos = put_at size c.pos x m.left.pos; neg = put_at size c.neg x m.left.neg })
      (λ t l j.
      record {
        figures = (p ∙ pick_first m.taken t c.figures (set c.figures x (words_of m.left.head.counts))) j;
        extremes = (q ∙ pick_first m.taken t c.extremes (set c.extremes x (extremes_of m.left.head))) j;
        pos = (ap (λ (y : Series). put_at size c.pos x y.pos) l ∙ put_same size c.pos x) j;
        neg = (ap (λ (y : Series). put_at size c.neg x y.neg) l ∙ put_same size c.neg x) j;
      })
      (λ d j.
      record {
        figures = (p ∙ pick_second m.taken d c.figures (set c.figures x (words_of m.left.head.counts))) j;
        extremes = (q ∙ pick_second m.taken d c.extremes (set c.extremes x (extremes_of m.left.head))) j;
        pos = put_at size c.pos x m.left.pos;
        neg = put_at size c.neg x m.left.neg;
      })
