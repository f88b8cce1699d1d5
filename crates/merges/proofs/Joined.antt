-- Rows joined, and points merged step by step, are what the definitions say. Assumes nothing.
use Prim.Native.Nat.{ℕ, suc, ◌+◌, ◌-◌, ◌/◌, ◌^◌, ◌≤◌, ◌<◌, min, max, pred}
use Rattle.index.specs.Bins.{finest}
use mathlib.Core.Path.{◌≡◌, refl, ap, sym, ◌∙◌}
use mathlib.Core.Logic.{⊎_elim, inl, inr}
use mathlib.Core.Bool.{true}
use mathlib.Core.List.{List, [], ◌∷◌, ◌++◌, map, map-append, append-nil}
use native.Mathlib.Omega.{arith}
use lib.Dec.{leb, eqb-suc-zero}
use lib.ListN.{length, replicate, length-append}
use lib.Pow.{shr_mono}
use borrow.Author.Tests.{le-leb}
use Rattle.laws.specs.Pick.{pick}
use Rattle.laws.specs.Counting.{count, lowest, highest, table}
use Rattle.laws.specs.Search.{least}
use Rattle.laws.proofs.Bools.{and_left, and_right, and_intro}
use Rattle.laws.proofs.Same.{count_append}
use Rattle.laws.proofs.Counting.{ends_of, ends_append, length-table}
use Rattle.laws.proofs.Search.{least_spec, least-is}
use Rattle.points.specs.Points.{Row, row_of, row, indices, fits, fits_both, scale, Bag, ◌⊕◌, bag, Point, point_at, build, merge}
use Rattle.points.proofs.Rows.{Canonical, at-row_of, at}
use Rattle.points.proofs.Agreement.{Agreed, row-indices}
use Rattle.points.proofs.Kept.{InRange, range-coarser, row_ok, BagIn, ⊕-in, bag_in}
use Rattle.rows.specs.Rows.{add_at, add_all, downscaled}
use Rattle.rows.proofs.Laws.{length-add_at_in, length-add_at-out}
use Rattle.rows.proofs.Algebra.{count_at, length-downscaled-is, le_or-lt}
use Rattle.exponential.specs.Steps.{lowered, narrow, lowering}
use Rattle.merges.specs.Merges.{joined}
use Rattle.exponential.proofs.Counted.{row-by-ends, at-is, count_at-add_at, count_at-zeros, length-replicate}
use Rattle.exponential.proofs.Joint.{row_lower, fits_on}

-- the lowering at which a row is at most size counts
abbrev pub span : ℕ → Row → ℕ
span size r = lowering size r.start (r.start + pred (length r.counts))

-- both points' rows of a sign at the level d steps below the finest, joined
abbrev pub levelled : ℕ → Point → Row → Point → Row → Row
levelled d p r q t = joined (lowered (d - p.d) r) (lowered (d - q.d) t)

-- the coarser's level, and how much lower either sign's row then needs it
unfoldable pub merged_low : ℕ → Point → Point → ℕ
merged_low size p q =
    let d = max p.d q.d in
    max (span size (levelled d p p.pos q q.pos)) (span size (levelled d p p.neg q q.neg))

unfoldable pub merged_steps : ℕ → Point → Point → Point
merged_steps size p q =
    let e = max p.d q.d + merged_low size p q in
    record {
      d = e;
      pos = levelled e p p.pos q q.pos;
      neg = levelled e p p.neg q q.neg;
      zeros = p.zeros + q.zeros;
      total = p.total + q.total;
    }

-- ---- counts added by bin

count_at-add_all : (s k : ℕ) (ys xs : List ℕ) (j : ℕ) → count_at s (add_all k ys xs) j ≡ count_at s xs j + count_at (s + k) ys j
unfolding count_at add_all
count_at-add_all s k [] xs j = omega arith
count_at-add_all s k (y ∷ ys) xs j =
    let e : s + suc k ≡ suc (s + k) = omega arith in
    omega (arith, rw e at (count_at-add_all s (suc k) ys (add_at k y xs) j), count_at-add_at s k y xs j)

pub length-add_at-max : (k v : ℕ) (xs : List ℕ) → length (add_at k v xs) ≡ max (length xs) (suc k)
length-add_at-max k v xs =
    ⊎_elim
    (λ (h : length xs ≤ k). omega (arith, length-add_at-out k v xs h))
    (λ (h : k < length xs). omega (arith, length-add_at_in k v xs h))
    (le_or-lt (length xs) k)

pub length-add_all : (k y : ℕ) (ys xs : List ℕ) → length (add_all k (y ∷ ys) xs) ≡ max (length xs) (k + suc (length ys))
unfolding add_all
length-add_all k y [] xs = omega (arith, length-add_at-max k y xs)
length-add_all k y (z ∷ zs) xs = omega (arith, length-add_all (suc k) z zs (add_at k y xs), length-add_at-max k y xs)

-- the row from the lowest to the highest of two
module _ (a b : Row) where
  abbrev both-rows : Row
  both-rows = record { start = min a.start b.start; counts = add_all (b.start - a.start) b.counts (replicate (a.start - b.start) 0 ++ a.counts) }

  at_both : (j : ℕ) → at both-rows j ≡ at a j + at b j
  at_both j =
      let lo = min a.start b.start in
      let e₁ : min a.start b.start + (b.start - a.start) ≡ b.start = omega arith in
      let e₂ : min a.start b.start + (a.start - b.start) ≡ a.start = omega arith in
      let y = rw e₁ at (count_at-add_all lo (b.start - a.start) b.counts (replicate (a.start - b.start) 0 ++ a.counts) j) in
      let z = rw e₂ at (count_at-zeros lo (a.start - b.start) a.counts j) in
      omega (arith, at-is both-rows j, y, z, at-is a j, at-is b j)

-- how long that row is
max-less : (a b l : ℕ) → l ≤ a → l ≤ b → max (suc (a - l)) (suc (b - l)) ≡ suc (max a b - l)
max-less a b l h g =
    ⊎_elim
    (λ (q : a ≤ b). let e : max a b ≡ b = omega arith in rw e (omega arith))
    (λ (q : b < a). let e : max a b ≡ a = omega arith in rw e (omega arith))
    (le_or-lt a b)

long-low : (lo hi lo' hi' : ℕ) → lo ≤ hi → lo' ≤ hi' → lo ≤ lo' → max (lo - lo' + suc (hi - lo)) (lo' - lo + suc (hi' - lo')) ≡ suc (max hi hi' - min lo lo')
long-low lo hi lo' hi' h g l =
    let a : lo - lo' + suc (hi - lo) ≡ suc (hi - lo) = omega arith in
    let b : min lo lo' ≡ lo = omega arith in
    let c : lo' - lo + suc (hi' - lo') ≡ suc (hi' - lo) = omega arith in
    rw (a, b, c) (max-less hi hi' lo h (omega arith))

long-high : (lo hi lo' hi' : ℕ) → lo ≤ hi → lo' ≤ hi' → lo' < lo → max (lo - lo' + suc (hi - lo)) (lo' - lo + suc (hi' - lo')) ≡ suc (max hi hi' - min lo lo')
long-high lo hi lo' hi' h g l =
    let a : lo' - lo + suc (hi' - lo') ≡ suc (hi' - lo') = omega arith in
    let b : min lo lo' ≡ lo' = omega arith in
    let c : lo - lo' + suc (hi - lo) ≡ suc (hi - lo') = omega arith in
    rw (a, b, c) (max-less hi hi' lo' (omega arith) g)

long-both : (lo hi lo' hi' : ℕ) → lo ≤ hi → lo' ≤ hi' → max (lo - lo' + suc (hi - lo)) (lo' - lo + suc (hi' - lo')) ≡ suc (max hi hi' - min lo lo')
long-both lo hi lo' hi' h g = ⊎_elim (λ (l : lo ≤ lo'). long-low lo hi lo' hi' h g l) (λ (l : lo' < lo). long-high lo hi lo' hi' h g l) (le_or-lt lo lo')

joined-empty : (a b : Row) → length b.counts ≡ 0 → joined a b ≡ a
unfolding joined pick
joined-empty a b h = rw h

joined-first : (a b : Row) (n : ℕ) → length b.counts ≡ suc n → length a.counts ≡ 0 → joined a b ≡ b
unfolding joined pick
joined-first a b n g h = rw (g, h, eqb-suc-zero n)

joined-both : (a b : Row) (n m : ℕ) → length b.counts ≡ suc n → length a.counts ≡ suc m → joined a b ≡ both-rows a b
unfolding joined pick
joined-both a b n m g h = rw (g, h, eqb-suc-zero n, eqb-suc-zero m)

pub joined-row_of : (xs ys : List ℕ) → joined (row_of xs) (row_of ys) ≡ row_of (xs ++ ys)
unfolding row_of
joined-row_of xs [] = joined-empty (row_of xs) (row_of []) refl ∙ ap row_of (sym (append-nil xs))
joined-row_of [] (y ∷ ys) = joined-first (row_of []) (row_of (y ∷ ys)) _ refl refl
joined-row_of (x ∷ xs) (y ∷ ys) =
    let a = row_of (x ∷ xs) in
    let b = row_of (y ∷ ys) in
    let lo = lowest x xs in
    let hi = highest x xs in
    let lo' = lowest y ys in
    let hi' = highest y ys in
    let f : ℕ → ℕ = λ i. count i (x ∷ xs) in
    let g : ℕ → ℕ = λ i. count i (y ∷ ys) in
    let e = ends_of x xs in
    let e' = ends_of y ys in
    let n = length-table f (suc lo) (hi - lo) in
    let n' = length-table g (suc lo') (hi' - lo') in
    let zs = replicate (lo - lo') 0 ++ a.counts in
    let l : length zs ≡ (lo - lo') + suc (length (table f (suc lo) (hi - lo))) = length-append (replicate (lo - lo') 0) a.counts ∙ ap (λ m. m + suc (length (table f (suc lo) (hi - lo)))) (length-replicate (lo - lo')) in
    joined-both a b _ _ refl refl
    ∙ row-by-ends (both-rows a b) (min lo lo') (max hi hi') ((x ∷ xs) ++ (y ∷ ys)) (ends_append lo hi lo' hi' (x ∷ xs) (y ∷ ys) e e')
    refl
    (rw (l, n, n') at (length-add_all (lo' - lo) (g lo') (table g (suc lo') (hi' - lo')) zs) ∙ long-both lo hi lo' hi' (e.all hi e.high).0 (e'.all hi' e'.high).0)
    (λ j. omega (arith, at_both a b j, at-row_of (x ∷ xs) j, at-row_of (y ∷ ys) j, count_append j (x ∷ xs) (y ∷ ys)))

-- ---- levels

by-counts : (size k a : ℕ) (cs : List ℕ) → 0 < size → leb (length (downscaled k a cs)) size ≡ narrow size a (a + pred (length cs)) k
unfolding narrow downscaled
by-counts size k a [] s =
    let e : a + pred 0 ≡ a = omega arith in
    le-leb 0 size (omega arith) ∙ sym (rw e (le-leb (suc (a / 2 ^ k - a / 2 ^ k)) size (omega arith)))
by-counts size k a (x ∷ cs) s =
    ap (λ n. leb n size) (exact k a x cs)
  where
    exact : (k a x : ℕ) (cs : List ℕ) → length (downscaled k a (x ∷ cs)) ≡ suc ((a + pred (length (x ∷ cs))) / 2 ^ k - a / 2 ^ k)
    exact k a x cs = omega (arith, length-downscaled-is k a x cs, shr_mono {a = a} {b = a + length cs} k (omega arith))

-- whether a row fits k levels lower, by its ends
fits-span : (size d k : ℕ) (xs : List ℕ) → 0 < size → fits size (d + k) xs ≡ narrow size (row d xs).start ((row d xs).start + pred (length (row d xs).counts)) k
unfolding fits
fits-span size d k xs s = ap (λ r. leb (length r.counts) size) (row_lower d k xs) ∙ by-counts size k (row d xs).start (row d xs).counts s

-- where some level fits within n, the span of the row is the least
span-least : (size d n : ℕ) (xs : List ℕ) → 0 < size → n ≤ 31 → fits size (d + n) xs ≡ true
    → (span size (row d xs) ≤ n) × (fits size (d + span size (row d xs)) xs ≡ true)
unfolding lowering
span-least size d n xs s h f =
    let r = row d xs in
    let t = narrow size r.start (r.start + pred (length r.counts)) in
    let l = least_spec t 0 32 in
    let m : least t 0 32 ≤ n = l.first n (omega arith) (sym (fits-span size d n xs s) ∙ f) in
    (m, fits-span size d (least t 0 32) xs s ∙ ⊎_elim (λ q. q) (λ (q : least t 0 32 ≡ 0 + 32). absurd (omega (arith, m, q))) l.stop)

span-first : (size d m : ℕ) (xs : List ℕ) → 0 < size → fits size (d + m) xs ≡ true → span size (row d xs) ≤ m
unfolding lowering
span-first size d m xs s f =
    let r = row d xs in
    (least_spec (narrow size r.start (r.start + pred (length r.counts))) 0 32).first m (omega arith) (sym (fits-span size d m xs s) ∙ f)

-- ---- the joint of merging

row-join : (d : ℕ) (xs ys : List ℕ) → joined (row d xs) (row d ys) ≡ row d (xs ++ ys)
unfolding row
row-join d xs ys = joined-row_of (map (λ i. i / 2 ^ d) xs) (map (λ i. i / 2 ^ d) ys) ∙ ap row_of (sym (map-append (λ i. i / 2 ^ d) xs ys))

row-level : (d e : ℕ) (r : Row) → e ≤ d → Canonical r → lowered (d - e) r ≡ row d (indices e r)
row-level d e r h c =
    let x : e + (d - e) ≡ d = omega arith in
    ap (lowered (d - e)) (sym (row-indices e r c)) ∙ sym (row_lower e (d - e) (indices e r)) ∙ ap (λ n. row n (indices e r)) x

-- rows of two points, at their common level d: xs and ys are what they stand for
module _ (d e f : ℕ) (a b : Row) (h : e ≤ d) (g : f ≤ d) (ca : Canonical a) (cb : Canonical b) where
  pub rows_join : joined (lowered (d - e) a) (lowered (d - f) b) ≡ row d (indices e a ++ indices f b)
  rows_join = rw (row-level d e a h ca, row-level d f b g cb) (row-join d (indices e a) (indices f b))

fits_last : (size low d : ℕ) (xs : List ℕ) → d ≤ finest → 3 ≤ size → InRange low d xs → fits size (d + (finest - d)) xs ≡ true
unfolding fits
fits_last size low d xs h s b =
    let e : d + (finest - d) ≡ finest = omega arith in
    rw e (le-leb (length (row finest xs).counts) size (row_ok size low finest xs (omega arith) s (range-coarser low d finest xs h (omega arith) b) (inr refl)).short)

fits-later : (size d j k : ℕ) (xs : List ℕ) → j ≤ k → fits size (d + j) xs ≡ true → fits size (d + k) xs ≡ true
fits-later size d j k xs h f = let e : d + j + (k - j) ≡ d + k = omega arith in rw e at (fits_on size (d + j) xs (k - j) f)

scale-two : (size low d : ℕ) (b : Bag) → d ≤ finest → 3 ≤ size → InRange low d b.pos → InRange low d b.neg
    → d + max (span size (row d b.pos)) (span size (row d b.neg)) ≡ scale size d b
unfolding scale fits_both
scale-two size low d b h s bp bn =
    let j = span size (row d b.pos) in
    let l = span size (row d b.neg) in
    let k = max j l in
    let p = span-least size d (finest - d) b.pos (omega arith) (omega arith) (fits_last size low d b.pos h s bp) in
    let n = span-least size d (finest - d) b.neg (omega arith) (omega arith) (fits_last size low d b.neg h s bn) in
    least-is (fits_both size b) d (finest - d) (d + k)
    (record {
      ge = omega arith;
      le = omega (arith, p.0, n.0);
      stop = inl (and_intro (fits size (d + k) b.pos) (fits size (d + k) b.neg) (fits-later size d j k b.pos (omega arith) p.1) (fits-later size d l k b.neg (omega arith) n.1));
      first = λ m g q.
          let e : d + (m - d) ≡ m = omega arith in
          let fp : fits size (d + (m - d)) b.pos ≡ true = rw e (and_left (fits size m b.pos) (fits size m b.neg) q) in
          let fn : fits size (d + (m - d)) b.neg ≡ true = rw e (and_right (fits size m b.pos) (fits size m b.neg) q) in
          least-max d m j l g (span-first size d (m - d) b.pos (omega arith) fp) (span-first size d (m - d) b.neg (omega arith) fn);
    })
  where
    least-max : (d m j l : ℕ) → d ≤ m → j ≤ m - d → l ≤ m - d → d + max j l ≤ m
    least-max d m j l g a b = omega arith

module _ (size top low : ℕ) (p q : Point) (s : 3 ≤ size) (v : Agreed size top low p) (w : Agreed size top low q) where
  abbrev both_bags : Bag
  both_bags = bag p ⊕ bag q

  in_both : BagIn low (max p.d q.d) both_bags
  in_both =
      let d = max p.d q.d in
      ⊕-in low d (bag p) (bag q) (bag_in size top low d p (omega arith) (omega (arith, v.coarse, w.coarse)) v) (bag_in size top low d q (omega arith) (omega (arith, v.coarse, w.coarse)) w)

  -- the level that the steps find is that of the definition
  pub level-is : max p.d q.d + merged_low size p q ≡ scale size (max p.d q.d) both_bags
  unfolding merged_low bag
  level-is =
      let d = max p.d q.d in
      ap (λ n. d + n)
      (λ j. max (span size (rows_join d p.d q.d p.pos q.pos (omega arith) (omega arith) v.pos.canonical w.pos.canonical j))
      (span size (rows_join d p.d q.d p.neg q.neg (omega arith) (omega arith) v.neg.canonical w.neg.canonical j)))
      ∙ scale-two size low d (bag p ⊕ bag q) (omega (arith, v.coarse, w.coarse)) s in_both.pos in_both.neg

  -- and no level is below the coarsest
  pub level-le : max p.d q.d + merged_low size p q ≤ finest
  unfolding scale
  level-le =
      let d = max p.d q.d in
      omega (arith, level-is, (least_spec (fits_both size both_bags) d (finest - d)).le, v.coarse, w.coarse)

  -- THE JOINT OF MERGING
  pub merged-is : merged_steps size p q ≡ merge size p q
  unfolding merged_steps merge build bag
  merged-is =
      let e = max p.d q.d + merged_low size p q in
      (λ j. record {
        d = e;
        pos = rows_join e p.d q.d p.pos q.pos (omega arith) (omega arith) v.pos.canonical w.pos.canonical j;
        neg = rows_join e p.d q.d p.neg q.neg (omega arith) (omega arith) v.neg.canonical w.neg.canonical j;
        zeros = p.zeros + q.zeros;
        total = p.total + q.total;
      })
      ∙ ap (λ n. point_at n (bag p ⊕ bag q)) level-is
