-- One value recorded, as the code does it, is what the definition of a point says. Assumes nothing.
use Rattle.std.proofs.Common.{◌≡◌, ℕ, zero, suc, pred, ◌+◌, ◌-◌, ◌*◌, ◌/◌, ◌^◌, ◌<◌, ◌≤◌, max, Bool, true, false, eqb, leb, List, [], ◌∷◌, ◌++◌, map, length, sym, refl, ap, ◌∙◌, subst, inl, ⊎_elim, append-nil, add-zero, mul_assoc, div-lt_iff_lt-mul, arith, pow_pos, pow-add, shr-shr, le-leb, leb-true}
use Rattle.index.specs.Bins.{finest, end_bin}
use mathlib.Core.List.{map-append}
use lib.Pow.{shr_mono}
use Rattle.laws.specs.Pick.{pick}
use Rattle.laws.specs.Search.{least}
use Rattle.laws.proofs.Bools.{and_left, and_right, and_intro}
use Rattle.laws.proofs.Counting.{Ends, ends-map}
use Rattle.laws.proofs.Search.{Least, least_spec, least-is}
use Rattle.points.specs.Points.{Row, row_of, row, indices, fits, fits_both, scale, ◌⊕◌, one, bag, Point, point_at, build, record1, Value, naught, plus, minus}
use Rattle.points.proofs.Rows.{Canonical}
use Rattle.points.proofs.Ends.{ends-row, fits-coarser}
use Rattle.points.proofs.Agreement.{RowOk, Agreed, row-indices, fits-valid}
use Rattle.points.proofs.Kept.{ValueIn}
use Rattle.exponential.specs.Steps.{lowered, with1, low_bin, high_bin, narrow, lowering, needed, placed}
use Rattle.exponential.proofs.Classes.{coarse}
use Rattle.exponential.proofs.Counted.{lowered-row_of, with1-row_of, lowered-with1, ends-with1}

-- k levels below d
pub map_shr : (d k : ℕ) (xs : List ℕ) → map (λ i. i / 2 ^ (d + k)) xs ≡ map (λ i. i / 2 ^ k) (map (λ i. i / 2 ^ d) xs)
map_shr d k [] = refl
map_shr d k (x ∷ xs) = rw (← shr-shr x d k, map_shr d k xs)

pub row_lower : (d k : ℕ) (xs : List ℕ) → row (d + k) xs ≡ lowered k (row d xs)
unfolding row
row_lower d k xs = ap row_of (map_shr d k xs) ∙ sym (lowered-row_of k (map (λ i. i / 2 ^ d) xs))

-- the row of a row's indices and one more
pub row_one : (d i : ℕ) (r : Row) → Canonical r → row d (indices d r ++ i ∷ []) ≡ with1 r (i / 2 ^ d)
unfolding row
row_one d i r c =
    let f : ℕ → ℕ = λ i. i / 2 ^ d in
    ap row_of (map-append f (indices d r) (i ∷ []))
    ∙ sym (with1-row_of (map f (indices d r)) (f i))
    ∙ ap (λ q. with1 q (f i)) (row-indices d r c)

ends-one : (d i : ℕ) (r : Row) → Canonical r
    → Ends (low_bin r.start (length r.counts) (i / 2 ^ d)) (high_bin r.start (length r.counts) (i / 2 ^ d)) (map (λ i. i / 2 ^ d) (indices d r ++ i ∷ []))
unfolding row
ends-one d i r c =
    let f : ℕ → ℕ = λ i. i / 2 ^ d in
    rw (map-append f (indices d r) (i ∷ []))
    (subst (λ q. Ends (low_bin q.start (length q.counts) (f i)) (high_bin q.start (length q.counts) (f i)) (map f (indices d r) ++ f i ∷ []))
    (row-indices d r c) (ends-with1 (map f (indices d r)) (f i)))

module _ (size d i : ℕ) (r : Row) (c : Canonical r) where
  abbrev lo : ℕ
  lo = low_bin r.start (length r.counts) (i / 2 ^ d)

  abbrev hi : ℕ
  hi = high_bin r.start (length r.counts) (i / 2 ^ d)

  -- whether the row and one more fit, k levels lower
  fits_one : (k : ℕ) → fits size (d + k) (indices d r ++ i ∷ []) ≡ narrow size lo hi k
  unfolding fits row narrow
  fits_one k =
      let f : ℕ → ℕ = λ i. i / 2 ^ d in
      let xs = indices d r ++ i ∷ [] in
      rw (map_shr d k xs)
      (ap (λ n. leb n size) (ends-row (lo / 2 ^ k) (hi / 2 ^ k) (map (λ i. i / 2 ^ k) (map f xs)) (ends-map (λ i. i / 2 ^ k) (λ a b. shr_mono k) lo hi (map f xs) (ends-one d i r c))).1)

  -- at level 0 all fits
  module _ {low : ℕ} (s : 3 ≤ size) (h : d ≤ finest) (top : i < end_bin finest) (ok : RowOk size low (end_bin (finest - d)) r) where
    third : (x : ℕ) → x < end_bin (finest - d) → x / 2 ^ (finest - d) < 3
    third x g = (div-lt_iff_lt-mul (pow_pos (finest - d))).1 g

    bin-top : i / 2 ^ d < end_bin (finest - d)
    bin-top =
        let q : (finest - d) + d ≡ finest = omega arith in
        let e : end_bin (finest - d) * 2 ^ d ≡ end_bin finest = mul_assoc 3 (2 ^ (finest - d)) (2 ^ d) ∙ ap (λ n. 3 * n) (sym (pow-add 2 (finest - d) d)) ∙ ap (λ n. 3 * 2 ^ n) q in
        (div-lt_iff_lt-mul (pow_pos d)).1 (subst (λ (n : ℕ). i < n) (sym e) top)

    hi-top : hi < end_bin (finest - d)
    unfolding high_bin pick
    hi-top = go (length r.counts) refl (eqb (length r.counts) 0)
      where
        go : (n : ℕ) → length r.counts ≡ n → (b : Bool) → pick b (i / 2 ^ d) (max (r.start + pred (length r.counts)) (i / 2 ^ d)) < end_bin (finest - d)
        go n e true = bin-top
        go zero e false = omega (arith, bin-top, c.empty e)
        go (suc n) e false = omega (arith, bin-top, ok.below)

    all-fits : narrow size lo hi (finest - d) ≡ true
    unfolding narrow
    all-fits = le-leb (suc (hi / 2 ^ (finest - d) - lo / 2 ^ (finest - d))) size (omega (arith, third hi hi-top))

    pub least-one : Least (narrow size lo hi) 0 32 (needed size r (i / 2 ^ d))
    unfolding lowering
    least-one = least_spec (narrow size lo hi) 0 32

    pub few : needed size r (i / 2 ^ d) ≤ finest - d
    few = least-one.first (finest - d) (omega arith) all-fits

    pub fits-lowered : narrow size lo hi (needed size r (i / 2 ^ d)) ≡ true
    fits-lowered = ⊎_elim (λ t. t) (λ (t : needed size r (i / 2 ^ d) ≡ 0 + 32). absurd (omega (arith, few, t))) least-one.stop

-- what fits goes on fitting
pub fits_on : (size d : ℕ) (xs : List ℕ) (k : ℕ) → fits size d xs ≡ true → fits size (d + k) xs ≡ true
fits_on size d xs zero h = rw (add-zero d) h
fits_on size d xs (suc k) h = let e : d + suc k ≡ suc (d + k) = omega arith in rw e (fits-coarser size (d + k) xs (fits_on size d xs k h))

-- the level that a search finds: r is the row recorded into, p the test of both rows
scale_one : (size d i : ℕ) (r : Row) (p : ℕ → Bool) {low : ℕ} → Canonical r → 3 ≤ size → d ≤ finest → i < end_bin finest → RowOk size low (end_bin (finest - d)) r
    → ((k : ℕ) → fits size (d + k) (indices d r ++ i ∷ []) ≡ true → p (d + k) ≡ true)
    → ((e : ℕ) → p e ≡ true → fits size e (indices d r ++ i ∷ []) ≡ true)
    → d + needed size r (i / 2 ^ d) ≡ least p d (finest - d)
scale_one size d i r p c s h t ok to fro =
    let k = needed size r (i / 2 ^ d) in
    let l = least-one size d i r c s h t ok in
    least-is p d (finest - d) (d + k)
    (record {
      ge = omega arith;
      le = omega (arith, few size d i r c s h t ok);
      stop = inl (to k (fits_one size d i r c k ∙ fits-lowered size d i r c s h t ok));
      first = λ m g q.
          let e : d + (m - d) ≡ m = omega arith in
          let f : fits size (d + (m - d)) (indices d r ++ i ∷ []) ≡ true = rw e (fro m q) in
          omega (arith, l.first (m - d) (omega arith) (sym (fits_one size d i r c (m - d)) ∙ f));
    })

row_same : (d k : ℕ) (r : Row) → Canonical r → lowered k r ≡ row (d + k) (indices d r ++ [])
row_same d k r c = ap (lowered k) (sym (row-indices d r c)) ∙ sym (row_lower d k (indices d r)) ∙ ap (row (d + k)) (sym (append-nil (indices d r)))

row_more : (d k i : ℕ) (r : Row) → Canonical r → with1 (lowered k r) (i / 2 ^ d / 2 ^ k) ≡ row (d + k) (indices d r ++ i ∷ [])
row_more d k i r c = sym (lowered-with1 k r (i / 2 ^ d)) ∙ ap (lowered k) (sym (row_one d i r c)) ∙ sym (row_lower d k (indices d r ++ i ∷ []))

other_fits : (size d : ℕ) (r : Row) (k : ℕ) {low end : ℕ} → RowOk size low end r → fits size (d + k) (indices d r ++ []) ≡ true
other_fits size d r k ok = rw (append-nil (indices d r)) (fits_on size d (indices d r) k (fits-valid size d r ok.canonical ok.short))

-- the row with one more is no longer than size
pub room-one : (size d i : ℕ) (r : Row) {low : ℕ} → 3 ≤ size → d ≤ finest → i < end_bin finest → RowOk size low (end_bin (finest - d)) r
    → length (with1 (lowered (needed size r (i / 2 ^ d)) r) (i / 2 ^ d / 2 ^ needed size r (i / 2 ^ d))).counts ≤ size
unfolding fits
room-one size d i r s h t ok =
    let c = ok.canonical in
    let k = needed size r (i / 2 ^ d) in
    leb-true (length (with1 (lowered k r) (i / 2 ^ d / 2 ^ k)).counts) size
    (ap (λ q. leb (length q.counts) size) (row_more d k i r c) ∙ fits_one size d i r c k ∙ fits-lowered size d i r c s h t ok)

-- THE JOINT
pub placed-is : (size : ℕ) (p : Point) (v : Value) {top low : ℕ} → 3 ≤ size → Agreed size top low p → ValueIn low v → placed size p (coarse p.d v) ≡ record1 size p v
unfolding placed record1 build scale bag fits_both
placed-is size p naught s ok t =
    let d = p.d in
    let q = fits_both size (bag p ⊕ one naught) in
    let f : fits_both size (bag p ⊕ one naught) d ≡ true = subst (λ e. fits_both size (bag p ⊕ one naught) e ≡ true) (add-zero d) (and_intro _ _ (other_fits size d p.pos 0 ok.pos) (other_fits size d p.neg 0 ok.neg)) in
    let e : d ≡ least q d (finest - d) = least-is q d (finest - d) d (record { ge = omega arith; le = omega arith; stop = inl f; first = λ m g _. g }) in
    (λ j. record {
      d = d;
      pos = (sym (row-indices d p.pos ok.pos.canonical) ∙ ap (row d) (sym (append-nil (indices d p.pos)))) j;
      neg = (sym (row-indices d p.neg ok.neg.canonical) ∙ ap (row d) (sym (append-nil (indices d p.neg)))) j;
      zeros = p.zeros + 1;
      total = p.total + 1;
    })
    ∙ ap (λ e. point_at e (bag p ⊕ one naught)) e
placed-is size p (plus i) s ok t =
    let d = p.d in
    let k = needed size p.pos (i / 2 ^ d) in
    let b = bag p ⊕ one (plus i) in
    let e : d + k ≡ least (fits_both size b) d (finest - d) =
    scale_one size d i p.pos (fits_both size b) ok.pos.canonical s ok.coarse t.1 ok.pos
    (λ k h. and_intro (fits size (d + k) b.pos) (fits size (d + k) b.neg) h (other_fits size d p.neg k ok.neg))
    (λ e h. and_left (fits size e b.pos) (fits size e b.neg) h) in
    (λ j. record {
      d = d + k;
      pos = row_more d k i p.pos ok.pos.canonical j;
      neg = row_same d k p.neg ok.neg.canonical j;
      zeros = sym (add-zero p.zeros) j;
      total = p.total + 1;
    })
    ∙ ap (λ e. point_at e b) e
placed-is size p (minus i) s ok t =
    let d = p.d in
    let k = needed size p.neg (i / 2 ^ d) in
    let b = bag p ⊕ one (minus i) in
    let e : d + k ≡ least (fits_both size b) d (finest - d) =
    scale_one size d i p.neg (fits_both size b) ok.neg.canonical s ok.coarse t.1 ok.neg
    (λ k h. and_intro (fits size (d + k) b.pos) (fits size (d + k) b.neg) (other_fits size d p.pos k ok.pos) h)
    (λ e h. and_right (fits size e b.pos) (fits size e b.neg) h) in
    (λ j. record {
      d = d + k;
      pos = row_same d k p.pos ok.pos.canonical j;
      neg = row_more d k i p.neg ok.neg.canonical j;
      zeros = sym (add-zero p.zeros) j;
      total = p.total + 1;
    })
    ∙ ap (λ e. point_at e b) e
