-- Agreement is kept: the point of a bag whose bins are in range agrees, and so do merged points and a point with one value more.
-- Assumes nothing.
use Prim.Native.Nat.{ℕ, suc, ◌+◌, ◌-◌, ◌*◌, ◌/◌, ◌^◌, ◌≤◌, ◌<◌, max, pred}
use mathlib.Core.Path.{◌≡◌, refl, ap, sym, subst, ◌∙◌}
use mathlib.Core.Logic.{◌⊎◌, inl, inr}
use mathlib.Core.Bool.{true}
use mathlib.Core.List.{List, [], ◌∷◌, ◌++◌, map, map-append}
use native.Mathlib.Nat.{eq-zero-or-pos, add-zero, div-one, div-lt_iff_lt-mul, mul_assoc}
use native.Mathlib.Decide.{ℕ_discrete}
use native.Mathlib.Omega.{arith}
use lib.Pow.{pow_pos, pow-add, shr-shr, shl-shr, shr_mono}
use lib.ListN.{length, replicate}
use borrow.Author.Tests.{leb-true}
use Rattle.laws.specs.Counting.{count, total}
use Rattle.laws.proofs.Bools.{and_left, and_right}
use Rattle.laws.proofs.Same.{sum_append, sum-map, bit-other, count_append}
use Rattle.laws.proofs.Counting.{map-count, count-map-pos, many, many-replicate}
use Rattle.laws.proofs.Search.{least_spec}
use Rattle.index.specs.Bins.{finest, end_bin}
use Rattle.points.specs.Points.{Row, row, row_of, expand, indices, fits, fits_both, scale, Bag, ◌⊕◌, one, bag_of, Point, build, point_of, bag, merge, record1, Value, naught, plus, minus}
use Rattle.points.proofs.Rows.{Canonical, row_of-canonical, at-row_of, at_in, at-pos, count-expand, expand-row_of}
use Rattle.points.proofs.Agreement.{RowOk, Agreed}

-- ---- bins in range d steps below the finest level: from that of low to the last of the level
abbrev pub Within : ℕ → ℕ → List ℕ → Type 0
Within low end xs = (i : ℕ) → 0 < count i xs → (low ≤ i) × (i < end)

abbrev pub InRange : ℕ → ℕ → List ℕ → Type 0
InRange low d xs = Within (low / 2 ^ d) (end_bin (finest - d)) (map (λ i. i / 2 ^ d) xs)

pub within_append : (low end : ℕ) (xs ys : List ℕ) → Within low end xs → Within low end ys → Within low end (xs ++ ys)
within_append low end xs ys h g i p =
    elim (eq-zero-or-pos (count i xs)) [
      | inl z ↦ g i (omega (arith, count_append i xs ys))
      | inr q ↦ h i q
    ]

pub range_append : (low d : ℕ) (xs ys : List ℕ) → InRange low d xs → InRange low d ys → InRange low d (xs ++ ys)
range_append low d xs ys h g =
    let f : ℕ → ℕ = λ i. i / 2 ^ d in
    rw (map-append f xs ys) (within_append (low / 2 ^ d) (end_bin (finest - d)) (map f xs) (map f ys) h g)

ends-split : (d e : ℕ) → d ≤ e → e ≤ finest → end_bin (finest - e) * 2 ^ (e - d) ≡ end_bin (finest - d)
ends-split d e h g =
    let q : (finest - e) + (e - d) ≡ finest - d = omega arith in
    mul_assoc 3 (2 ^ (finest - e)) (2 ^ (e - d)) ∙ ap (λ n. 3 * n) (sym (pow-add 2 (finest - e) (e - d))) ∙ ap (λ n. 3 * 2 ^ n) q

shr-both : (x d e : ℕ) → d ≤ e → x / 2 ^ e ≡ x / 2 ^ d / 2 ^ (e - d)
shr-both x d e h = let q : d + (e - d) ≡ e = omega arith in sym (rw q at (shr-shr x d (e - d)))

pub range-coarser : (low d e : ℕ) (xs : List ℕ) → d ≤ e → e ≤ finest → InRange low d xs → InRange low e xs
range-coarser low d e xs h g b i p =
    let r = map-count (λ i. i / 2 ^ e) xs i p in
    let x = r.0 in
    let c = b (x / 2 ^ d) (count-map-pos (λ i. i / 2 ^ d) x xs r.1) in
    rw (← r.2, shr-both x d e h, shr-both low d e h) (
      shr_mono (e - d) c.0,
      (div-lt_iff_lt-mul (pow_pos (e - d))).1 (subst (λ (n : ℕ). x / 2 ^ d < n) (sym (ends-split d e h g)) c.1),
    )

pub range-indices : (size low d : ℕ) (r : Row) → RowOk size (low / 2 ^ d) (end_bin (finest - d)) r → InRange low d (indices d r)
unfolding indices
range-indices size low d r ok i p =
    let m = map-count (λ i. i / 2 ^ d) (map (λ i. i * 2 ^ d) (expand r.start r.counts)) i p in
    let k = map-count (λ i. i * 2 ^ d) (expand r.start r.counts) m.0 m.1 in
    let e : k.0 ≡ i = sym (shl-shr k.0 d) ∙ ap (λ n. n / 2 ^ d) k.2 ∙ m.2 in
    let q = at-pos r k.0 (omega (arith, k.1, count-expand r k.0)) in
    omega (arith, q, e, ok.below, ok.above (omega (arith, q)))

-- ---- the row of such a list
pub row_ok : (size low e : ℕ) (xs : List ℕ) → e ≤ finest → 3 ≤ size → InRange low e xs → (fits size e xs ≡ true) ⊎ (e ≡ finest)
    → RowOk size (low / 2 ^ e) (end_bin (finest - e)) (row e xs)
unfolding row fits
row_ok size low e xs h s b f =
    record {
      canonical = c;
      short =
          elim f [
            | inl t ↦ leb-true (length r.counts) size t
            | inr t ↦ let z : finest - e ≡ 0 = omega arith in omega (arith, rw z at high)
          ];
      above = λ p. (b r.start (omega (arith, rw add-zero at (at_in r 0), at-row_of ys r.start, c.first p))).0;
      below = high;
    }
  where
    ys : List ℕ
    ys = map (λ i. i / 2 ^ e) xs

    r : Row
    r = row_of ys

    c : Canonical r
    c = row_of-canonical ys

    high : r.start + length r.counts ≤ end_bin (finest - e)
    high =
        elim (eq-zero-or-pos (length r.counts)) [
          | inl z ↦ omega (arith, c.empty z)
          | inr p ↦
              let k = pred (length r.counts) in
              omega (arith, (b (r.start + k) (omega (arith, at_in r k, at-row_of ys (r.start + k), c.last p))).1)
        ]

stop-pos : (size d : ℕ) (b : Bag) → d ≤ finest → (fits size (scale size d b) b.pos ≡ true) ⊎ (scale size d b ≡ finest)
unfolding scale fits_both
stop-pos size d b h =
    let t = scale size d b in
    elim (least_spec (fits_both size b) d (finest - d)).stop [
      | inl s ↦ inl (and_left (fits size t b.pos) (fits size t b.neg) s)
      | inr s ↦ inr (omega (arith, s))
    ]

stop-neg : (size d : ℕ) (b : Bag) → d ≤ finest → (fits size (scale size d b) b.neg ≡ true) ⊎ (scale size d b ≡ finest)
unfolding scale fits_both
stop-neg size d b h =
    let t = scale size d b in
    elim (least_spec (fits_both size b) d (finest - d)).stop [
      | inl s ↦ inl (and_right (fits size t b.pos) (fits size t b.neg) s)
      | inr s ↦ inr (omega (arith, s))
    ]

-- ---- counts: a bag counts its values, and so does its point
unfoldable pub Counted : Bag → Type 0
Counted b = b.total ≡ b.zeros + (many b.pos + many b.neg)

many-expand : (s : ℕ) (cs : List ℕ) → many (expand s cs) ≡ total cs
many-expand s [] = refl
many-expand s (c ∷ cs) = omega (arith, sum_append (λ _. 1) (replicate c s) (expand (suc s) cs), many-replicate c s, many-expand (suc s) cs)

row-total : (d : ℕ) (xs : List ℕ) → total (row d xs).counts ≡ many xs
unfolding row
row-total d xs =
    let r = row_of (map (λ i. i / 2 ^ d) xs) in
    sym (many-expand r.start r.counts) ∙ expand-row_of (map (λ i. i / 2 ^ d) xs) (λ _. 1) ∙ sum-map (λ _. 1) (λ i. i / 2 ^ d) xs

many-indices : (d : ℕ) (r : Row) → many (indices d r) ≡ total r.counts
unfolding indices
many-indices d r = sum-map (λ _. 1) (λ i. i * 2 ^ d) (expand r.start r.counts) ∙ many-expand r.start r.counts

pub counted_⊕ : (b c : Bag) → Counted b → Counted c → Counted (b ⊕ c)
unfolding Counted
counted_⊕ b c h k = omega (arith, h, k, sum_append (λ _. 1) b.pos c.pos, sum_append (λ _. 1) b.neg c.neg)

-- ---- what is counted is in range d steps below the finest level, and counted
pub record BagIn (low d : ℕ) (b : Bag) : Type 0 where
  pub pos : InRange low d b.pos
  pub neg : InRange low d b.neg
  pub counted : Counted b

pub ⊕-in : (low d : ℕ) (b c : Bag) → BagIn low d b → BagIn low d c → BagIn low d (b ⊕ c)
⊕-in low d b c h k =
    record {
      pos = range_append low d b.pos c.pos h.pos k.pos;
      neg = range_append low d b.neg c.neg h.neg k.neg;
      counted = counted_⊕ b c h.counted k.counted;
    }

-- of an agreeing point, from its level on
pub bag_in : (size top low e : ℕ) (p : Point) → p.d ≤ e → e ≤ finest → Agreed size top low p → BagIn low e (bag p)
unfolding bag Counted
bag_in size top low e p h g v =
    record {
      pos = range-coarser low p.d e (indices p.d p.pos) h g (range-indices size low p.d p.pos v.pos);
      neg = range-coarser low p.d e (indices p.d p.neg) h g (range-indices size low p.d p.neg v.neg);
      counted = omega (arith, v.adds, many-indices p.d p.pos, many-indices p.d p.neg);
    }

-- of a value whose finest bin is in range, and of a list of these
abbrev pub ValueIn : ℕ → Value → Type 0
ValueIn low naught = Unit {0}
ValueIn low (plus i) = (low ≤ i) × (i < end_bin finest)
ValueIn low (minus i) = (low ≤ i) × (i < end_bin finest)

abbrev pub ValuesIn : ℕ → List Value → Type 0
ValuesIn low [] = Unit {0}
ValuesIn low (v ∷ vs) = ValueIn low v × ValuesIn low vs

nothing_in : (low d : ℕ) → InRange low d []
nothing_in low d i p = absurd (omega arith)

single_in : (low d i : ℕ) → d ≤ finest → (low ≤ i) × (i < end_bin finest) → InRange low d (i ∷ [])
single_in low d i h b =
    range-coarser low 0 d (i ∷ []) (omega arith) h
    (λ j p.
    elim (ℕ_discrete (i / 1) j) [
      | yes e ↦ omega (arith, e, div-one i, div-one low, b)
      | no ne ↦ absurd (omega (arith, bit-other j (i / 1) ne))
    ])

pub one_in : (low d : ℕ) (v : Value) → d ≤ finest → ValueIn low v → BagIn low d (one v)
unfolding Counted
one_in low d naught h b = record { pos = nothing_in low d; neg = nothing_in low d; counted = refl }
one_in low d (plus i) h b = record { pos = single_in low d i h b; neg = nothing_in low d; counted = refl }
one_in low d (minus i) h b = record { pos = nothing_in low d; neg = single_in low d i h b; counted = refl }

pub bag_of_in : (low d : ℕ) (vs : List Value) → d ≤ finest → ValuesIn low vs → BagIn low d (bag_of vs)
unfolding Counted
bag_of_in low d [] h b = record { pos = nothing_in low d; neg = nothing_in low d; counted = refl }
bag_of_in low d (v ∷ vs) h b = ⊕-in low d (one v) (bag_of vs) (one_in low d v h b.0) (bag_of_in low d vs h b.1)

-- ---- BUILDING, MERGING, RECORDING give points that agree
pub build-agrees : (size top low d : ℕ) (b : Bag) → 3 ≤ size → finest - top ≤ d → d ≤ finest → BagIn low d b → Agreed size top low (build size d b)
unfolding build scale Counted
build-agrees size top low d b s g h k =
    let l = least_spec (fits_both size b) d (finest - d) in
    let e = scale size d b in
    let le : e ≤ finest = omega (arith, l.le) in
    record {
      fine = omega (arith, l.ge);
      coarse = le;
      pos = row_ok size low e b.pos le s (range-coarser low d e b.pos l.ge le k.pos) (stop-pos size d b h);
      neg = row_ok size low e b.neg le s (range-coarser low d e b.neg l.ge le k.neg) (stop-neg size d b h);
      adds = omega (arith, k.counted, row-total e b.pos, row-total e b.neg);
    }

pub point_of-agrees : (size top low : ℕ) (vs : List Value) → 3 ≤ size → ValuesIn low vs → Agreed size top low (point_of size (finest - top) vs)
unfolding point_of
point_of-agrees size top low vs s h =
    let l : finest - top ≤ finest = omega arith in
    build-agrees size top low (finest - top) (bag_of vs) s (omega arith) l (bag_of_in low (finest - top) vs l h)

-- the points may have been built under other sizes, and the second under another greatest level
pub merge-agrees : (size m n top t low : ℕ) (p q : Point) → 3 ≤ size → Agreed m top low p → Agreed n t low q → Agreed size top low (merge size p q)
unfolding merge
merge-agrees size m n top t low p q s v w =
    let e = max p.d q.d in
    let le : e ≤ finest = omega (arith, v.coarse, w.coarse) in
    build-agrees size top low e (bag p ⊕ bag q) s (omega (arith, v.fine)) le
    (⊕-in low e (bag p) (bag q) (bag_in m top low e p (omega arith) le v) (bag_in n t low e q (omega arith) le w))

pub record-agrees : (size m top low : ℕ) (p : Point) (v : Value) → 3 ≤ size → Agreed m top low p → ValueIn low v → Agreed size top low (record1 size p v)
unfolding record1
record-agrees size m top low p v s a b =
    build-agrees size top low p.d (bag p ⊕ one v) s a.fine a.coarse
    (⊕-in low p.d (bag p) (one v) (bag_in m top low p.d p (omega arith) a.coarse a) (one_in low p.d v a.coarse b))
