-- What agreement says, and that a point that agrees is the point of what it stands for. Assumes nothing.
use Prim.Native.Nat.{ℕ, ◌+◌, ◌-◌, ◌*◌, ◌/◌, ◌^◌, ◌≤◌, ◌<◌, max, pred}
use mathlib.Core.Path.{◌≡◌, ap, sym, ◌∙◌}
use mathlib.Core.Logic.{inl, inr}
use mathlib.Core.Bool.{true, not, ◌&&◌}
use mathlib.Core.List.{[], map}
use native.Mathlib.Omega.{arith}
use lib.Dec.{leb, leb-zero, eqb}
use lib.ListN.{length, get_or}
use borrow.Author.Tests.{leb-true, le-leb, eqb-true, eqb-false, eq-eqb, ne_eqb, not-true}
use Rattle.laws.specs.Counting.{total}
use Rattle.laws.proofs.Bools.{flag, and_left, and_right, and_intro, pick_true, pick-false}
use Rattle.laws.proofs.Search.{least_spec}
use Rattle.index.specs.Bins.{finest, end_bin}
use Rattle.points.specs.Points.{Row, row, row_of, expand, indices, fits, fits_both, scale, none, Point, point_at, build, point_of, bag, merge}
use Rattle.points.specs.Agreement.{row_agrees, agrees}
use Rattle.points.proofs.Rows.{Canonical, row_of-cong, row_of-expand}
use Rattle.points.proofs.Alike.{up-down}
use Rattle.points.proofs.Merge.{merge-build, none_⊕}

-- ---- the tests, and the facts that they stand for
pub record RowOk (size low end : ℕ) (r : Row) : Type 0 where
  pub canonical : Canonical r
  pub short : length r.counts ≤ size
  pub above : 0 < length r.counts → low ≤ r.start
  pub below : r.start + length r.counts ≤ end

pub record Agreed (size top low : ℕ) (p : Point) : Type 0 where
  pub fine : finest - top ≤ p.d
  pub coarse : p.d ≤ finest
  pub pos : RowOk size (low / 2 ^ p.d) (end_bin (finest - p.d)) p.pos
  pub neg : RowOk size (low / 2 ^ p.d) (end_bin (finest - p.d)) p.neg
  pub adds : p.total ≡ p.zeros + (total p.pos.counts + total p.neg.counts)

nonzero : (n : ℕ) → not (eqb n 0) ≡ true → 0 < n
nonzero n h = let e = eqb-false n 0 (not-true (eqb n 0) h) in omega arith

zeroless : (n : ℕ) → 0 < n → not (eqb n 0) ≡ true
zeroless n h = rw (ne_eqb n 0 (λ e. omega arith))

last-is : (n : ℕ) → n - 1 ≡ pred n
last-is n = omega arith

module _ (size low end : ℕ) (r : Row) where
  pub row-says : row_agrees size low end r ≡ true → RowOk size low end r
  unfolding row_agrees
  row-says h =
      let n = length r.counts in
      let a = leb n size in
      let b = leb low r.start in
      let c = leb (r.start + n) end in
      let f = not (eqb (get_or r.counts 0 0) 0) in
      let l = not (eqb (get_or r.counts (n - 1) 0) 0) in
      elim (flag (eqb n 0)) [
        | inl e ↦
            let z = eqb-true n 0 e in
            let s = eqb-true r.start 0 (sym (pick_true (eqb n 0) (eqb r.start 0) (a && (b && (c && (f && l)))) e) ∙ h) in
            record {
              canonical = record { empty = λ _. s; first = λ p. absurd (omega arith); last = λ p. absurd (omega arith) };
              short = omega arith;
              above = λ p. absurd (omega arith);
              below = omega arith;
            }
        | inr e ↦
            let t = sym (pick-false (eqb n 0) (eqb r.start 0) (a && (b && (c && (f && l)))) e) ∙ h in
            let t2 = and_right a (b && (c && (f && l))) t in
            let t3 = and_right b (c && (f && l)) t2 in
            let t4 = and_right c (f && l) t3 in
            record {
              canonical =
                  record {
                    empty = λ z. absurd (eqb-false n 0 e z);
                    first = λ _. nonzero (get_or r.counts 0 0) (and_left f l t4);
                    last = λ _. rw (last-is n) at (nonzero (get_or r.counts (n - 1) 0) (and_right f l t4));
                  };
              short = leb-true n size (and_left a (b && (c && (f && l))) t);
              above = λ _. leb-true low r.start (and_left b (c && (f && l)) t2);
              below = leb-true (r.start + n) end (and_left c (f && l) t3);
            }
      ]

  pub row-agrees : RowOk size low end r → row_agrees size low end r ≡ true
  unfolding row_agrees
  row-agrees k =
      let n = length r.counts in
      let a = leb n size in
      let b = leb low r.start in
      let c = leb (r.start + n) end in
      let f = not (eqb (get_or r.counts 0 0) 0) in
      let l = not (eqb (get_or r.counts (n - 1) 0) 0) in
      elim (flag (eqb n 0)) [
        | inl e ↦
            pick_true (eqb n 0) (eqb r.start 0) (a && (b && (c && (f && l)))) e ∙ eq-eqb r.start 0 (k.canonical.empty (eqb-true n 0 e))
        | inr e ↦
            let ne = eqb-false n 0 e in
            let p : 0 < n = omega arith in
            pick-false (eqb n 0) (eqb r.start 0) (a && (b && (c && (f && l)))) e
            ∙ and_intro a (b && (c && (f && l))) (le-leb n size k.short)
            (and_intro b (c && (f && l)) (le-leb low r.start (k.above p))
            (and_intro c (f && l) (le-leb (r.start + n) end k.below)
            (and_intro f l (zeroless (get_or r.counts 0 0) (k.canonical.first p))
            (rw (← last-is n) at (zeroless (get_or r.counts (pred n) 0) (k.canonical.last p))))))
      ]

module _ (size top low : ℕ) (p : Point) where
  pub agrees-says : agrees size top low p ≡ true → Agreed size top low p
  unfolding agrees
  agrees-says h =
      let l = low / 2 ^ p.d in
      let e = end_bin (finest - p.d) in
      let n = p.zeros + (total p.pos.counts + total p.neg.counts) in
      let a = leb (finest - top) p.d in
      let b = leb p.d finest in
      let c = row_agrees size l e p.pos in
      let d = row_agrees size l e p.neg in
      let t = eqb p.total n in
      let h2 = and_right a (b && (c && (d && t))) h in
      let h3 = and_right b (c && (d && t)) h2 in
      let h4 = and_right c (d && t) h3 in
      record {
        fine = leb-true (finest - top) p.d (and_left a (b && (c && (d && t))) h);
        coarse = leb-true p.d finest (and_left b (c && (d && t)) h2);
        pos = row-says size l e p.pos (and_left c (d && t) h3);
        neg = row-says size l e p.neg (and_left d t h4);
        adds = eqb-true p.total n (and_right d t h4);
      }

  pub agreed-agrees : Agreed size top low p → agrees size top low p ≡ true
  unfolding agrees
  agreed-agrees k =
      let l = low / 2 ^ p.d in
      let e = end_bin (finest - p.d) in
      let n = p.zeros + (total p.pos.counts + total p.neg.counts) in
      let a = leb (finest - top) p.d in
      let b = leb p.d finest in
      let c = row_agrees size l e p.pos in
      let d = row_agrees size l e p.neg in
      let t = eqb p.total n in
      and_intro a (b && (c && (d && t))) (le-leb (finest - top) p.d k.fine)
      (and_intro b (c && (d && t)) (le-leb p.d finest k.coarse)
      (and_intro c (d && t) (row-agrees size l e p.pos k.pos)
      (and_intro d t (row-agrees size l e p.neg k.neg) (eq-eqb p.total n k.adds))))

-- ---- a point that agrees is the point of what it stands for
pub row-indices : (d : ℕ) (r : Row) → Canonical r → row d (indices d r) ≡ r
unfolding row indices
row-indices d r c =
    row_of-cong (map (λ i. i / 2 ^ d) (map (λ i. i * 2 ^ d) (expand r.start r.counts))) (expand r.start r.counts)
    (λ w. up-down w d (expand r.start r.counts))
    ∙ row_of-expand r c

pub fits-valid : (size d : ℕ) (r : Row) → Canonical r → length r.counts ≤ size → fits size d (indices d r) ≡ true
unfolding fits
fits-valid size d r c h = rw (row-indices d r c) (le-leb (length r.counts) size h)

pub scale-valid : (size top low : ℕ) (p : Point) → Agreed size top low p → scale size p.d (bag p) ≡ p.d
unfolding scale bag fits_both
scale-valid size top low p v =
    let l = least_spec (fits_both size (bag p)) p.d (finest - p.d) in
    let f : fits_both size (bag p) p.d ≡ true =
    and_intro (fits size p.d (indices p.d p.pos)) (fits size p.d (indices p.d p.neg))
    (fits-valid size p.d p.pos v.pos.canonical v.pos.short) (fits-valid size p.d p.neg v.neg.canonical v.neg.short) in
    omega (arith, l.ge, l.first p.d (omega arith) f)

pub build-bag : (size top low : ℕ) (p : Point) → Agreed size top low p → build size p.d (bag p) ≡ p
unfolding build bag
build-bag size top low p v =
    ap (λ e. point_at e (bag p)) (scale-valid size top low p v)
    ∙ (λ i. record {
      d = p.d;
      pos = row-indices p.d p.pos v.pos.canonical i;
      neg = row-indices p.d p.neg v.neg.canonical i;
      zeros = p.zeros;
      total = p.total;
    })

-- ---- the fresh point: it has no rows, whatever the size, and changes nothing in an agreeing point no finer than it
scale-none : (size d : ℕ) → scale size d none ≡ d
unfolding scale fits_both fits row row_of
scale-none size d =
    let l = least_spec (fits_both size none) d (finest - d) in
    omega (arith, l.ge, l.first d (omega arith) (rw leb-zero))

pub fresh : (size d : ℕ) → point_of size d [] ≡ point_at d none
unfolding point_of build
fresh size d = ap (λ e. point_at e none) (scale-none size d)

pub fresh_neutral : (size top low d : ℕ) (p : Point) → d ≤ p.d → Agreed size top low p → merge size (point_at d none) p ≡ p
unfolding point_of
fresh_neutral size top low d p h v =
    let e : max d p.d ≡ p.d = omega arith in
    ap (λ q. merge size q p) (sym (fresh size d))
    ∙ merge-build size size d none p (omega arith) ∙ rw (e, none_⊕ (bag p)) (build-bag size top low p v)
