-- A point laid over rows reads as that point, and agrees if the point does; so a series that agrees stays agreeing. Assumes nothing.
use Rattle.std.proofs.Common.{◌≡◌, ℕ, ◌-◌, ◌≤◌, true, List, length, drop, sym, subst, arith, length-append}
use Rattle.index.specs.Bins.{finest}
use Rattle.points.specs.Points.{Point, Value, record1}
use Rattle.points.proofs.Agreement as PA
use Rattle.points.proofs.Kept.{ValueIn, record-agrees}
use Rattle.rows.specs.Rows.{over}
use Rattle.rows.proofs.Laws.{take-over}
use Rattle.exponential.specs.declared.Counts.{Counts}
use Rattle.exponential.specs.Series.{most_size, lowest_of_all, agrees, read, counts_for}
use Rattle.exponential.proofs.Facts.{agreed, agreed-agrees}

length-over-le : (q xs : List ℕ) → length q ≤ length (over q xs)
unfolding over
length-over-le q xs = rw (length-append q (drop (length q) xs)) (omega arith)

module _ (p : Point) (xs ys : List ℕ) where
  pub read-point : p.d ≤ finest → read (counts_for p) (over p.pos.counts xs) (over p.neg.counts ys) ≡ p
  read-point h =
      let e : finest - (finest - p.d) ≡ p.d = omega arith in
      λ j. record {
        d = e j;
        pos = record { start = p.pos.start; counts = take-over p.pos.counts xs j };
        neg = record { start = p.neg.start; counts = take-over p.neg.counts ys j };
        zeros = p.zeros;
        total = p.total;
      }

  pub agrees-point : (size top : ℕ) → 3 ≤ size → size ≤ most_size → top ≤ finest → PA.Agreed size top lowest_of_all p
      → agrees size top (counts_for p) (over p.pos.counts xs) (over p.neg.counts ys) ≡ true
  agrees-point size top a b t k =
      agreed-agrees size top (counts_for p) (over p.pos.counts xs) (over p.neg.counts ys)
      (record {
        least = a;
        most = b;
        greatest = t;
        level = omega (arith, k.fine);
        pos_there = length-over-le p.pos.counts xs;
        neg_there = length-over-le p.neg.counts ys;
        point = subst (PA.Agreed size top lowest_of_all) (sym (read-point k.coarse)) k;
      })

-- A SERIES THAT AGREES STAYS AGREEING, and holds what the definition says
module _ (size top : ℕ) (c : Counts) (xs ys : List ℕ) (v : Value) (a : agrees size top c xs ys ≡ true) (w : ValueIn lowest_of_all v) where
  abbrev next : Point
  next = record1 size (read c xs ys) v

  pub next-ok : PA.Agreed size top lowest_of_all next
  next-ok = let k = agreed size top c xs ys a in record-agrees size size top lowest_of_all (read c xs ys) v k.least k.point w

  pub stays : agrees size top (counts_for next) (over next.pos.counts xs) (over next.neg.counts ys) ≡ true
  stays = let k = agreed size top c xs ys a in agrees-point next xs ys size top k.least k.most k.greatest next-ok

  pub reads : read (counts_for next) (over next.pos.counts xs) (over next.neg.counts ys) ≡ next
  reads = read-point next xs ys next-ok.coarse
