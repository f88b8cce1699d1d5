-- Recording the values of a list one by one from the fresh series gives the point of the list. Assumes nothing.
use Rattle.std.proofs.Common.{◌≡◌, ℕ, ◌+◌, ◌-◌, ◌^◌, ◌<◌, ◌≤◌, true, false, List, [], ◌∷◌, map, length, sym, refl, ap, ◌∙◌, subst, arith, eq-eqb}
use mathlib.Core.List.{foldl}
use lib.Ieee.{Float, binary64, fits, of_bits}
use lib.Ieee.Bits.{is_true}
use lib.Ieee.Scale.{finite}
use Rattle.laws.specs.Pick.{pick}
use Rattle.laws.specs.Lists.{All}
use Rattle.laws.specs.Said.{success}
use Rattle.index.specs.Bins.{finest}
use Rattle.floats.specs.Starts.{FiniteF64, zero_float}
use Rattle.floats.proofs.Choices.{finite-chosen}
use Rattle.points.specs.Points.{Point, row, row_of, Value, naught, plus, minus, one, bag, build, record1, point_of}
use Rattle.points.specs.Values.{class_of, counts_of, Summary, start, noted, summary_of}
use Rattle.points.proofs.Agreement as PA
use Rattle.points.proofs.Kept.{point_of-agrees}
use Rattle.points.proofs.Orders.{record_all, record_all-point_of}
use Rattle.rows.proofs.Laws.{length_over}
use Rattle.exponential.specs.declared.Head.{Head}
use Rattle.exponential.specs.Series.{most_size, lowest_of_all, agrees, read, counts_for, refusal_of, Outcome, outcome, accepted, recording}
pub use Rattle.exponential.specs.Series.{summary}
use Rattle.exponential.specs.Inner.{Series, after, run_all}
use Rattle.exponential.specs.Runs.{fresh_head, next}
use Rattle.exponential.proofs.Facts.{agreed-agrees}
use Rattle.exponential.proofs.Call.{none}
use Rattle.exponential.proofs.Classes.{ranged-of}
use Rattle.exponential.proofs.Stays.{next-ok, stays, reads}

-- s holds the point p and this summary, and agrees
pub record Holds (size top : ℕ) (p : Point) (m : Summary) (s : Series) : Type 0 where
  pub counts : s.head.counts ≡ counts_for p
  pub rows : read s.head.counts s.pos s.neg ≡ p
  pub summary : summary s.head ≡ m
  pub agree : agrees size top s.head.counts s.pos s.neg ≡ true
  pub fin_min : finite s.head.min ≡ true
  pub fin_max : finite s.head.max ≡ true
  pub long_pos : size ≤ length s.pos
  pub long_neg : size ≤ length s.neg

one-total : (v : Value) → (one v).total ≡ 1
one-total naught = refl
one-total (plus i) = refl
one-total (minus i) = refl

pub total-one : (size : ℕ) (p : Point) (v : Value) → (record1 size p v).total ≡ p.total + 1
unfolding record1 build bag
total-one size p v = ap (λ n. p.total + n) (one-total v)

-- an accepted call
pub accepted-is : (size top : ℕ) (h : Head) (xs ys : List ℕ) (v : Float) → refusal_of size top h xs ys v ≡ 0
    → recording size top h xs ys v ≡ accepted (record1 size (read h.counts xs ys) (class_of zero_float v)) h xs ys v
unfolding recording pick
accepted-is size top h xs ys v e = rw (eq-eqb (refusal_of size top h xs ys v) 0 e)

not-refused : (size top : ℕ) (p : Point) (m : Summary) (s : Series) (v : Float) → Holds size top p m s → FiniteF64 v → p.total + 1 < 2 ^ 64
    → refusal_of size top s.head s.pos s.neg v ≡ 0
not-refused size top p m s v h f n =
    let t : s.head.counts.count ≡ p.total = ap (λ c. c.count) h.counts in
    none size top s.head s.pos s.neg v h.long_pos h.long_neg (is_true (finite v) f.known) h.agree h.fin_min h.fin_max (omega (arith, t))

step : (size top : ℕ) (p : Point) (m : Summary) (s : Series) (v : Float) → Holds size top p m s → FiniteF64 v → p.total + 1 < 2 ^ 64
    → Holds size top (record1 size p (class_of zero_float v)) (noted m v) (after (recording size top s.head s.pos s.neg v) s)
step size top p m s v h f n =
    let xs = s.pos in
    let ys = s.neg in
    let c = s.head.counts in
    let k : finite v ≡ true = is_true (finite v) f.known in
    let w = ranged-of v (is_true (fits binary64 v) f.fits) k in
    let z = not-refused size top p m s v h f n in
    let q = record1 size (read c xs ys) (class_of zero_float v) in
    let ok = next-ok size top c xs ys (class_of zero_float v) h.agree w in
    let e : q ≡ record1 size p (class_of zero_float v) = ap (λ o. record1 size o (class_of zero_float v)) h.rows in
    rw (accepted-is size top s.head xs ys v z)
    (record {
      counts = ap counts_for e;
      rows = reads size top c xs ys (class_of zero_float v) h.agree w ∙ e;
      summary = ap (λ m. noted m v) h.summary;
      agree = stays size top c xs ys (class_of zero_float v) h.agree w;
      fin_min = finite-chosen true s.head.min v h.fin_min k;
      fin_max = finite-chosen false s.head.max v h.fin_max k;
      long_pos = omega (arith, h.long_pos, length_over q.pos.counts xs (omega (arith, ok.pos.short, h.long_pos)));
      long_neg = omega (arith, h.long_neg, length_over q.neg.counts ys (omega (arith, ok.neg.short, h.long_neg)));
    })

pub run_holds : (size top : ℕ) (vs : List Float) (p : Point) (m : Summary) (s : Series) → Holds size top p m s → All FiniteF64 vs → p.total + length vs < 2 ^ 64
    → Holds size top (record_all size p (map (class_of zero_float) vs)) (foldl noted m vs) (run_all size top s vs)
unfolding run_all All
run_holds size top [] p m s h g n = h
run_holds size top (v ∷ vs) p m s h g n =
    run_holds size top vs (record1 size p (class_of zero_float v)) (noted m v) (after (recording size top s.head s.pos s.neg v) s)
    (step size top p m s v h g.0 (omega arith)) g.1 (omega (arith, total-one size p (class_of zero_float v)))

-- a series as a call leaves it that was accepted
abbrev left : Series → Outcome
left s = outcome (success s.head) s.pos s.neg

-- the calls one after another, each given what the last one left
abbrev pub called : ℕ → ℕ → Outcome → List Float → Outcome
called size top = foldl (λ o v. next o.answer (λ h. recording size top h o.pos o.neg v) o)

-- all are accepted
pub run-called : (size top : ℕ) (vs : List Float) (p : Point) (m : Summary) (s : Series) → Holds size top p m s → All FiniteF64 vs → p.total + length vs < 2 ^ 64
    → called size top (left s) vs ≡ left (run_all size top s vs)
unfolding run_all All
run-called size top [] p m s h g n = refl
run-called size top (v ∷ vs) p m s h g n =
    let o = recording size top s.head s.pos s.neg v in
    let e = accepted-is size top s.head s.pos s.neg v (not-refused size top p m s v h g.0 (omega arith)) in
    let w : o ≡ left (after o s) = e ∙ ap (λ (x : Outcome). left (after x s)) (sym e) in
    ap (λ (x : Outcome). called size top x vs) w
    ∙ run-called size top vs (record1 size p (class_of zero_float v)) (noted m v) (after o s)
    (step size top p m s v h g.0 (omega arith)) g.1 (omega (arith, total-one size p (class_of zero_float v)))

-- ---- from the fresh series

fin-min : finite start.min ≡ true
unfolding of_bits
fin-min = refl

fin-max : finite start.max ≡ true
unfolding of_bits
fin-max = refl

pub fresh_holds : (size top : ℕ) (xs ys : List ℕ) → 3 ≤ size → size ≤ most_size → top ≤ finest → size ≤ length xs → size ≤ length ys
    → Holds size top (point_of size (finest - top) []) start (record { head = fresh_head top; pos = xs; neg = ys })
unfolding row row_of
fresh_holds size top xs ys a b t p q =
    let e : top ≡ finest - (finest - top) = omega arith in
    let f = PA.fresh size (finest - top) in
    record {
      counts = (λ j. record { count = 0; zeros = 0; level = e j; pos = record { start = 0; len = 0 }; neg = record { start = 0; len = 0 } }) ∙ ap counts_for (sym f);
      rows = sym f;
      summary = refl;
      agree = agreed-agrees size top (fresh_head top).counts xs ys (record {
        least = a;
        most = b;
        greatest = t;
        level = omega arith;
        pos_there = omega arith;
        neg_there = omega arith;
        point = subst (PA.Agreed size top lowest_of_all) f (point_of-agrees size top lowest_of_all [] a tt);
      });
      fin_min = fin-min;
      fin_max = fin-max;
      long_pos = p;
      long_neg = q;
    }

-- THE LAW. Recording a list from the fresh series: the point of the list, its extremes and its sum.
pub run_is : (size top : ℕ) (xs ys : List ℕ) (vs : List Float) → 3 ≤ size → size ≤ most_size → top ≤ finest → size ≤ length xs → size ≤ length ys
    → All FiniteF64 vs → length vs < 2 ^ 64
    → Holds size top (counts_of size (finest - top) zero_float vs) (summary_of vs) (run_all size top (record { head = fresh_head top; pos = xs; neg = ys }) vs)
run_is size top xs ys vs a b t p q g n =
    subst
    (λ (o : Point). Holds size top o (summary_of vs) (run_all size top (record { head = fresh_head top; pos = xs; neg = ys }) vs))
    (record_all-point_of size (finest - top) [] (map (class_of zero_float) vs))
    (run_holds size top vs (point_of size (finest - top) []) start (record { head = fresh_head top; pos = xs; neg = ys })
    (fresh_holds size top xs ys a b t p q) g (omega (arith, ap (λ (o : Point). o.total) (PA.fresh size (finest - top)))))

-- and each value is accepted
pub all-called : (size top : ℕ) (xs ys : List ℕ) (vs : List Float) → 3 ≤ size → size ≤ most_size → top ≤ finest → size ≤ length xs → size ≤ length ys
    → All FiniteF64 vs → length vs < 2 ^ 64
    → (let s = run_all size top (record { head = fresh_head top; pos = xs; neg = ys }) vs in
    called size top (outcome (success (fresh_head top)) xs ys) vs ≡ outcome (success s.head) s.pos s.neg)
all-called size top xs ys vs a b t p q g n =
    run-called size top vs (point_of size (finest - top) []) start (record { head = fresh_head top; pos = xs; neg = ys })
    (fresh_holds size top xs ys a b t p q) g (omega (arith, ap (λ (o : Point). o.total) (PA.fresh size (finest - top))))
