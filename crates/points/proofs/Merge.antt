-- Merging points: the order does not matter, and the point of values is what merging makes of them, also where it merges under a
-- smaller size than they were built under. Assumes nothing.
use Prim.Native.Nat.{ℕ, ◌-◌, ◌/◌, ◌^◌, ◌≤◌, max}
use mathlib.Core.Path.{◌≡◌, refl, ap, sym, ◌∙◌}
use mathlib.Core.Bool.{true}
use mathlib.Core.List.{List, [], ◌∷◌, ◌++◌, map, map-append, append_assoc}
use native.Mathlib.Nat.{add_assoc, zero-add}
use native.Mathlib.Omega.{arith}
use lib.ListN.{length}
use borrow.Author.Tests.{leb-true, le-leb}
use Rattle.laws.specs.Search.{least}
use Rattle.laws.proofs.Bools.{and_left, and_right, and_intro}
use Rattle.laws.proofs.Same.{Same, sum_append}
use Rattle.laws.proofs.Search.{least_spec, least-cong, least_restart, least-le}
use Rattle.index.specs.Bins.{finest}
use Rattle.points.specs.Points.{row, row_of, fits, fits_both, scale, Bag, ◌⊕◌, none, one, bag_of, Point, point_at, build, point_of, bag, merge, Value}
use Rattle.points.proofs.Rows.{row_of-length}
use Rattle.points.proofs.Alike.{Alike, alike-coarser, alike_append, alike-of-same, indices-alike, row-alike}

-- ---- bags that cannot be told apart k steps below the finest level
pub record Like (k : ℕ) (b c : Bag) : Type 0 where
  pub pos : Alike k b.pos c.pos
  pub neg : Alike k b.neg c.neg
  pub zeros : b.zeros ≡ c.zeros
  pub total : b.total ≡ c.total

like-coarser : (k e : ℕ) (b c : Bag) → k ≤ e → Like k b c → Like e b c
like-coarser k e b c g h =
    record {
      pos = alike-coarser k e b.pos c.pos g h.pos;
      neg = alike-coarser k e b.neg c.neg g h.neg;
      zeros = h.zeros;
      total = h.total;
    }

like_append : (k : ℕ) (b b' c : Bag) → Like k b b' → Like k (b ⊕ c) (b' ⊕ c)
like_append k b b' c h =
    record {
      pos = alike_append k b.pos b'.pos c.pos h.pos;
      neg = alike_append k b.neg b'.neg c.neg h.neg;
      zeros = omega (arith, h.zeros);
      total = omega (arith, h.total);
    }

point_at-like : (e : ℕ) (b c : Bag) → Like e b c → point_at e b ≡ point_at e c
point_at-like e b c h =
    λ i. record { d = e; pos = row-alike e b.pos c.pos h.pos i; neg = row-alike e b.neg c.neg h.neg i; zeros = h.zeros i; total = h.total i }

fits-alike : (size e : ℕ) (xs ys : List ℕ) → Alike e xs ys → fits size e xs ≡ fits size e ys
unfolding fits
fits-alike size e xs ys h = rw (row-alike e xs ys h)

scale-like : (size d : ℕ) (b c : Bag) → Like d b c → scale size d b ≡ scale size d c
unfolding scale fits_both
scale-like size d b c h =
    least-cong (fits_both size b) (fits_both size c) d (finest - d)
    (λ e g.
    let k = like-coarser d e b c g h in
    rw (fits-alike size e b.pos c.pos k.pos, fits-alike size e b.neg c.neg k.neg))

pub scale-ge : (size d : ℕ) (b : Bag) → d ≤ scale size d b
unfolding scale
scale-ge size d b = (least_spec (fits_both size b) d (finest - d)).ge

-- bags alike d steps below make the same point from there on
pub build-like : (size d : ℕ) (b c : Bag) → Like d b c → build size d b ≡ build size d c
unfolding build
build-like size d b c h =
    ap (λ e. point_at e b) (scale-like size d b c h)
    ∙ point_at-like (scale size d c) b c (like-coarser d (scale size d c) b c (scale-ge size d c) h)

-- bags with the same values in another order
pub record Equal (b c : Bag) : Type 0 where
  pub pos : Same b.pos c.pos
  pub neg : Same b.neg c.neg
  pub zeros : b.zeros ≡ c.zeros
  pub total : b.total ≡ c.total

pub build_equal : (size d e : ℕ) (b c : Bag) → d ≡ e → Equal b c → build size d b ≡ build size e c
build_equal size d e b c p h =
    ap (λ t. build size t b) p
    ∙ build-like size e b c
    (record {
      pos = alike-of-same e b.pos c.pos h.pos;
      neg = alike-of-same e b.neg c.neg h.neg;
      zeros = h.zeros;
      total = h.total;
    })

pub equal-comm : (b c : Bag) → Equal (b ⊕ c) (c ⊕ b)
equal-comm b c =
    record {
      pos = λ w. omega (arith, sum_append w b.pos c.pos, sum_append w c.pos b.pos);
      neg = λ w. omega (arith, sum_append w b.neg c.neg, sum_append w c.neg b.neg);
      zeros = omega arith;
      total = omega arith;
    }

-- ---- a bag may be replaced by what its point stands for, also where the point was built under a larger size
fits_append : (small size e : ℕ) (xs ys : List ℕ) → small ≤ size → fits small e (xs ++ ys) ≡ true → fits size e xs ≡ true
unfolding fits row
fits_append small size e xs ys g h =
    let f : ℕ → ℕ = λ i. i / 2 ^ e in
    le-leb (length (row_of (map f xs)).counts) size
    (omega (
      arith,
      row_of-length (map f xs) (map f ys),
      rw (map-append f xs ys) at (leb-true (length (row_of (map f (xs ++ ys))).counts) small h),
    ))

fits_both_append : (small size e : ℕ) (b c : Bag) → small ≤ size → fits_both small (b ⊕ c) e ≡ true → fits_both size b e ≡ true
unfolding fits_both
fits_both_append small size e b c g h =
    let p = fits small e (b.pos ++ c.pos) in
    let n = fits small e (b.neg ++ c.neg) in
    and_intro (fits size e b.pos) (fits size e b.neg)
    (fits_append small size e b.pos c.pos g (and_left p n h))
    (fits_append small size e b.neg c.neg g (and_right p n h))

-- the search for a larger bag may start where a part of it ended
scale_absorb : (small size d k : ℕ) (b c : Bag) → small ≤ size → scale small (max (scale size d b) k) (b ⊕ c) ≡ scale small (max d k) (b ⊕ c)
unfolding scale
scale_absorb small size d k b c g =
    let p = fits_both size b in
    let q = fits_both small (b ⊕ c) in
    let a = least_spec p d (finest - d) in
    let l = least-le finest p q d (max d k) (omega arith) (λ e. fits_both_append small size e b c g) in
    least_restart finest q (max d k) (max (least p d (finest - d)) k) (omega (arith, a.ge))
    (omega (arith, l, (least_spec q (max d k) (finest - max d k)).ge))

build-from : (size d e : ℕ) (b : Bag) → scale size d b ≡ scale size e b → build size d b ≡ build size e b
unfolding build
build-from size d e b h = ap (λ t. point_at t b) h

bag-like : (size d : ℕ) (b : Bag) → Like (scale size d b) (bag (build size d b)) b
unfolding bag build
bag-like size d b =
    record { pos = indices-alike (scale size d b) b.pos; neg = indices-alike (scale size d b) b.neg; zeros = refl; total = refl }

pub build_absorb : (small size d k : ℕ) (b c : Bag) → small ≤ size
    → build small (max (scale size d b) k) (bag (build size d b) ⊕ c) ≡ build small (max d k) (b ⊕ c)
build_absorb small size d k b c g =
    let e = max (scale size d b) k in
    build-like small e (bag (build size d b) ⊕ c) (b ⊕ c)
    (like-coarser (scale size d b) e (bag (build size d b) ⊕ c) (b ⊕ c) (omega arith)
    (like_append (scale size d b) (bag (build size d b)) b c (bag-like size d b)))
    ∙ build-from small e (max d k) (b ⊕ c) (scale_absorb small size d k b c g)

-- ---- MERGING IS COMMUTATIVE AND ASSOCIATIVE, of any points
pub merge-comm : (size : ℕ) (p q : Point) → merge size p q ≡ merge size q p
unfolding merge
merge-comm size p q =
    build_equal size (max p.d q.d) (max q.d p.d) (bag p ⊕ bag q) (bag q ⊕ bag p) (omega arith) (equal-comm (bag p) (bag q))

-- the point of a bag merged with any point
pub merge-build : (small size d : ℕ) (b : Bag) (q : Point) → small ≤ size → merge small (build size d b) q ≡ build small (max d q.d) (b ⊕ bag q)
unfolding merge build
merge-build small size d b q g = build_absorb small size d q.d b (bag q) g

pub ⊕-assoc : (a b c : Bag) → a ⊕ b ⊕ c ≡ a ⊕ (b ⊕ c)
⊕-assoc a b c =
    λ i. record {
      pos = append_assoc a.pos b.pos c.pos i;
      neg = append_assoc a.neg b.neg c.neg i;
      zeros = add_assoc a.zeros b.zeros c.zeros i;
      total = add_assoc a.total b.total c.total i;
    }

-- three points merged are the point of what the three stand for
merge-left : (size : ℕ) (p q r : Point) → merge size (merge size p q) r ≡ build size (max (max p.d q.d) r.d) (bag p ⊕ bag q ⊕ bag r)
unfolding merge
merge-left size p q r = merge-build size size (max p.d q.d) (bag p ⊕ bag q) r (omega arith)

pub merge-assoc : (size : ℕ) (p q r : Point) → merge size (merge size p q) r ≡ merge size p (merge size q r)
merge-assoc size p q r =
    merge-left size p q r
    ∙ build_equal size (max (max p.d q.d) r.d) (max (max q.d r.d) p.d) (bag p ⊕ bag q ⊕ bag r) (bag q ⊕ bag r ⊕ bag p) (omega arith)
    (rw ⊕-assoc (equal-comm (bag p) (bag q ⊕ bag r)))
    ∙ sym (merge-left size q r p)
    ∙ merge-comm size (merge size q r) p

-- ---- THE POINT OF ALL VALUES is that of the parts, merged. The parts may have begun at different levels and under larger sizes.
pub merge_builds : (size m n d e : ℕ) (b c : Bag) → size ≤ m → size ≤ n → merge size (build m d b) (build n e c) ≡ build size (max d e) (b ⊕ c)
unfolding build
merge_builds size m n d e b c g h =
    merge-build size m d b (build n e c) g
    ∙ build_equal size (max d (scale n e c)) (max (scale n e c) d) (b ⊕ bag (build n e c)) (bag (build n e c) ⊕ b) (omega arith) (equal-comm b (bag (build n e c)))
    ∙ build_absorb size n e d c b h
    ∙ build_equal size (max e d) (max d e) (c ⊕ b) (b ⊕ c) (omega arith) (equal-comm c b)

pub none_⊕ : (b : Bag) → none ⊕ b ≡ b
none_⊕ b = λ i. record { pos = b.pos; neg = b.neg; zeros = zero-add b.zeros i; total = zero-add b.total i }

pub bag_of_append : (xs ys : List Value) → bag_of (xs ++ ys) ≡ bag_of xs ⊕ bag_of ys
bag_of_append [] ys = sym (none_⊕ (bag_of ys))
bag_of_append (x ∷ xs) ys = ap (λ b. one x ⊕ b) (bag_of_append xs ys) ∙ sym (⊕-assoc (one x) (bag_of xs) (bag_of ys))

pub merge-points : (size m n d e : ℕ) (xs ys : List Value) → size ≤ m → size ≤ n
    → merge size (point_of m d xs) (point_of n e ys) ≡ point_of size (max d e) (xs ++ ys)
unfolding point_of
merge-points size m n d e xs ys g h =
    merge_builds size m n d e (bag_of xs) (bag_of ys) g h ∙ ap (λ b. build size (max d e) b) (sym (bag_of_append xs ys))
