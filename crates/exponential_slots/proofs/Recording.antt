-- THE LAWS OF A SLOT. Recording into it is the kind's: 8 where its series disagrees, 9 where its count is full, else the series with one
-- value more. A refusal changes nothing. Assumes nothing.
use Prim.Native.Nat.{ℕ, suc, ◌^◌, ◌≤◌, ◌<◌}
use mathlib.Core.Path.{◌≡◌, refl, sym, ap, ◌∙◌}
use mathlib.Core.Logic.{⊎_elim}
use mathlib.Core.Bool.{Bool, true, false, ◌&&◌}
use mathlib.Core.List.{List, []}
use mathlib.Core.Option
use mathlib.Core.Option.{Option, none, some}
use native.Mathlib.Omega.{arith}
use lib.ListN.{length, get_or}
use lib.Ieee.{Float, nan}
use lib.Ieee.Scale.{finite}
use borrow.Author.Tests.{ltb-true, ltb-false}
use Rattle.laws.specs.Pick.{pick}
use Rattle.laws.specs.Said.{Said, refusal, success}
use Rattle.laws.proofs.Bools.{flag, not-both}
use Rattle.laws.proofs.Cases.{and-true}
use Rattle.rows.specs.Parts.{part_at}
use Rattle.rows.specs.Recording.{Recording, after}
use Rattle.rows.proofs.Parts.{part_length}
use Rattle.points.specs.Points.{Point}
use Rattle.points.specs.Values.{start}
use Rattle.points.specs.Figures.{exponential, Settings, Counts, exponential_counts, Figures}
use Rattle.exponential.specs.declared.Head.{Head}
use Rattle.exponential.specs.Series.{refusal_of, recording}
use Rattle.exponential.specs.Series as S
use Rattle.exponential.specs.Runs.{fresh_head}
use Rattle.exponential.proofs.Call as Call
use Rattle.exponential.proofs.Lists.{fresh_holds}
use Rattle.tally.specs.Map.{sound}
use Rattle.tally.proofs.MapSteps.{fits}
use Rattle.kinds.specs.Histograms.{counts_hold, histograms}
use Rattle.exponential_slots.specs.Cells.{Cells, counts_in, narrow, readable, head_in, head_at, written, recorded_at}
use Rattle.exponential_slots.specs.Meaning.{settings, shaped, counts_at, series_at}
use Rattle.exponential_slots.proofs.Cases.{into, reads_held, reads-fresh, head-held, head-fresh, unread, called}
use Rattle.exponential_slots.proofs.Agreeing.{Accepted, accepted-of, shaped-says, counts_in_lem, in-shape, holds-is, can-read, series-agrees, shape_of, point_agrees}
use Rattle.exponential_slots.proofs.Written.{Fit, Held, Took, finite_v, into-refused, into-full, into-took}
use Rattle.laws.specs.Counting.{most_count}

-- the count of a series is full exactly where one more does not fit
count-is : (size top : ℕ) (h : Head) (xs ys : List ℕ) (y : Figures) → Held size top h xs ys y → histograms.total y ≡ h.counts.count
count-is size top h xs ys y k = ap histograms.total k.is

count-full : (c : ℕ) → c ≤ most_count → fits (suc c) ≡ false → c ≡ most_count
count-full c h n = omega (arith, h, ltb-false (suc c) (2 ^ 64) n)

count_less : (c : ℕ) → fits (suc c) ≡ true → c < most_count
count_less c n = omega (arith, ltb-true (suc c) (2 ^ 64) n)

-- A REFUSAL CHANGES NOTHING, whatever is given
kept : (size x : ℕ) (s : Cells) (a : Said Head) (xs ys : List ℕ) → ((written size x s a xs ys).no ≡ 0 → ⊥) → (written size x s a xs ys).cells ≡ s
kept size x s (refusal n) xs ys d = refl
kept size x s (success h) xs ys d = absurd (d refl)

pub unchanged : (size top x : ℕ) (updated : Bool) (s : Cells) (v : Float) → ((recorded_at size top x updated s v).no ≡ 0 → ⊥)
    → (recorded_at size top x updated s v).cells ≡ s
unchanged size top x updated s v d =
    let f = get_or s.figures x [] in
    ⊎_elim
    (λ (r : readable updated f ≡ true).
    let c = called size top x updated s v r in
    let o = recording size top (head_at top s x updated) (part_at size s.pos x) (part_at size s.neg x) v in
    ap (λ (o : Recording Cells). o.cells) c
    ∙ kept size x s o.answer o.pos o.neg (λ n. d (ap (λ (o : Recording Cells). o.no) c ∙ n)))
    (λ (r : readable updated f ≡ false). ap (λ (o : Recording Cells). o.cells) (unread size top x updated s v r))
    (flag (readable updated f))

module _ (size top x : ℕ) (s : Cells) (v : Float) (e m : Bool) (g : Fit size top x s v) where
  abbrev f : List ℕ
  f = get_or s.figures x []

  abbrev l : List Float
  l = get_or s.extremes x []

  abbrev xs : List ℕ
  xs = part_at size s.pos x

  abbrev ys : List ℕ
  ys = part_at size s.neg x

  abbrev z : Settings
  z = settings size top e m

  long-pos : length xs ≡ size
  long-pos = part_length size s.pos x g.pos

  long-neg : length ys ≡ size
  long-neg = part_length size s.neg x g.neg

  ok : Accepted size top
  ok = accepted-of size top g.valid

  -- ---- a series that is there and agrees

  module _ (a : histograms.agrees z (series_at size s x) ≡ true) where
    holds : counts_hold (exponential size top) (counts_at size f xs ys) ≡ true
    holds = (and-true (counts_hold (exponential size top) (counts_at size f xs ys)) (finite (get_or l 0 nan) && finite (get_or l 1 nan)) a).0

    ends : (finite (get_or l 0 nan) ≡ true) × (finite (get_or l 1 nan) ≡ true)
    ends = and-true (finite (get_or l 0 nan)) (finite (get_or l 1 nan)) (and-true (counts_hold (exponential size top) (counts_at size f xs ys)) (finite (get_or l 0 nan) && finite (get_or l 1 nan)) a).1

    shape : shaped size f ≡ true
    shape = in-shape size f xs ys top ok holds

    narrow-is : narrow f ≡ true
    narrow-is = can-read size f xs ys top ok long-pos long-neg shape (sym (holds-is size f xs ys top ok shape) ∙ holds)

    held-there : Held size top (head_in f l) xs ys (series_at size s x)
    unfolding head_in
    held-there =
        record {
          agree = series-agrees size f xs ys top ok long-pos long-neg shape (sym (holds-is size f xs ys top ok shape) ∙ holds);
          min = ends.0;
          max = ends.1;
          count = (shaped-says size f shape).count;
          is = ap (λ (c : Counts). record { counts = c; summary = (series_at size s x).summary }) (counts_in_lem size f xs ys shape);
        }

  -- ---- a fresh one

  held-fresh : Held size top (fresh_head top) xs ys (histograms.fresh z)
  held-fresh =
      let h = fresh_holds size top xs ys ok.least ok.most ok.fine (omega (arith, long-pos)) (omega (arith, long-neg)) in
      record {
        agree = h.agree;
        min = h.fin_min;
        max = h.fin_max;
        count = omega arith;
        is = ap (λ (p : Point). record { counts = exponential_counts p; summary = start }) (sym h.rows);
      }

  -- ---- which head is read

  from-there : narrow f ≡ true → recorded_at size top x true s v ≡ into size x s (recording size top (head_in f l) xs ys v)
  from-there n =
      called size top x true s v (reads_held true f refl ∙ n)
      ∙ ap (λ (h : Head). into size x s (recording size top h xs ys v)) (head-held top true f l refl)

  from-fresh : recorded_at size top x false s v ≡ into size x s (recording size top (fresh_head top) xs ys v)
  from-fresh =
      called size top x false s v (reads-fresh false f refl)
      ∙ ap (λ (h : Head). into size x s (recording size top h xs ys v)) (head-fresh top false f l refl)

  -- ---- a series that disagrees

  module _ (n : narrow f ≡ true) (a : histograms.agrees z (series_at size s x) ≡ false) where
    both : S.agrees size top (counts_in f) xs ys ≡ true → finite (get_or l 0 nan) ≡ true → finite (get_or l 1 nan) ≡ true → ⊥
    both t p q =
        let h = shape_of size f xs ys top ok long-pos long-neg n t in
        let c = holds-is size f xs ys top ok h ∙ point_agrees size f xs ys top ok long-pos long-neg t in
        not-both (histograms.agrees z (series_at size s x)) (rw (c, p, q)) a

    eight : refusal_of size top (head_in f l) xs ys v ≡ 8
    unfolding head_in
    eight =
        let lp : size ≤ length xs = omega (arith, long-pos) in
        let ln : size ≤ length ys = omega (arith, long-neg) in
        let w = finite_v size top x s v g (head_in f l) in
        ⊎_elim
        (λ (t : S.agrees size top (counts_in f) xs ys ≡ true).
        ⊎_elim
        (λ (p : finite (get_or l 0 nan) ≡ true).
        ⊎_elim
        (λ (q : finite (get_or l 1 nan) ≡ true). absurd (both t p q))
        (λ (q : finite (get_or l 1 nan) ≡ false). Call.bad-max size top (head_in f l) xs ys v lp ln w t p q)
        (flag (finite (get_or l 1 nan))))
        (λ (p : finite (get_or l 0 nan) ≡ false). Call.bad-min size top (head_in f l) xs ys v lp ln w t p)
        (flag (finite (get_or l 0 nan))))
        (λ (t : S.agrees size top (counts_in f) xs ys ≡ false). Call.disagrees size top (head_in f l) xs ys v lp ln w t)
        (flag (S.agrees size top (counts_in f) xs ys))

  -- ---- the laws: the slot's series, if its entry was updated, as tally's map has it

  abbrev pub there : Bool → Option Figures
  there updated = pick updated (some (series_at size s x)) none

  pub disagreeing : (updated : Bool) → sound histograms z (there updated) ≡ false → recorded_at size top x updated s v ≡ after 8 s
  unfolding pick
  disagreeing false a = absurd (not-both true refl a)
  disagreeing true a =
      ⊎_elim
      (λ (n : narrow f ≡ true). from-there n ∙ into-refused size top x s v (head_in f l) 8 (eight n a) (λ z. omega arith))
      (λ (n : narrow f ≡ false). unread size top x true s v (reads_held true f refl ∙ n))
      (flag (narrow f))

  pub full : (updated : Bool) → sound histograms z (there updated) ≡ true → fits (suc (histograms.total (Option.get_or (there updated) (histograms.fresh z)))) ≡ false
      → recorded_at size top x updated s v ≡ after 9 s
  unfolding pick
  full false a n =
      from-fresh
      ∙ into-full size top x s v g (fresh_head top) (histograms.fresh z) held-fresh
      (count-full 0 (omega arith) (ap (λ c. fits (suc c)) (sym (count-is size top (fresh_head top) xs ys (histograms.fresh z) held-fresh)) ∙ n))
  full true a n =
      let k = held-there a in
      from-there (narrow-is a)
      ∙ into-full size top x s v g (head_in f l) (series_at size s x) k
      (count-full (head_in f l).counts.count k.count (ap (λ c. fits (suc c)) (sym (count-is size top (head_in f l) xs ys (series_at size s x) k)) ∙ n))

  pub took : (updated : Bool) → sound histograms z (there updated) ≡ true → fits (suc (histograms.total (Option.get_or (there updated) (histograms.fresh z)))) ≡ true
      → Took size x s (recorded_at size top x updated s v) (histograms.add z (Option.get_or (there updated) (histograms.fresh z)) v)
  unfolding pick
  took false a n =
      rw from-fresh
      (into-took size top x s v g (fresh_head top) (histograms.fresh z) held-fresh e m (omega arith))
  took true a n =
      let k = held-there a in
      rw (from-there (narrow-is a))
      (into-took size top x s v g (head_in f l) (series_at size s x) k e m
      (count_less (head_in f l).counts.count (ap (λ c. fits (suc c)) (sym (count-is size top (head_in f l) xs ys (series_at size s x) k)) ∙ n)))
