-- Classes of f64 values: their bins are in range, so that the point of finite values agrees; the rows of a list by its magnitudes.
-- Assumes nothing.
use Prim.Native.Nat.{ℕ, suc, ◌-◌, ◌/◌, ◌^◌, ◌≤◌, ◌<◌}
use mathlib.Core.Path.{◌≡◌, refl, ap, sym, ◌∙◌}
use mathlib.Core.Logic.{inl, inr}
use mathlib.Core.Bool.{Bool, true, false, beq}
use mathlib.Core.List.{List, [], ◌∷◌, map}
use native.Mathlib.Nat.{div-one, eq-zero-or-pos}
use native.Mathlib.Omega.{arith}
use lib.Dec.{leb, eqb}
use lib.ListN.{length}
use lib.Ieee.{Float, of_bits}
use lib.Ieee.Bits.{is_true}
use lib.Ieee.Scale.{finite}
use lib.Pow.{shr_mono}
use borrow.Author.Tests.{leb-false, le-leb, lt-leb, eq-eqb, ne_eqb}
use Rattle.laws.specs.Pick.{pick}
use Rattle.laws.specs.Lists.{All}
use Rattle.laws.specs.Counting.{lowest, highest}
use Rattle.laws.proofs.Counting.{Ends, ends_of, ends-map, ends-unique}
use Rattle.index.specs.Magnitude.{magnitude, is_negative}
use Rattle.index.specs.Bins.{finest, finest_bin, lowest_bin, end_bin}
use Rattle.index.proofs.Laws.{bin-range, larger-finest}
use Rattle.floats.specs.Starts.{FiniteF64, zero_float}
use Rattle.points.specs.Points.{Row, row, Bag, ◌⊕◌, Point, build, naught, plus, minus, one, bag_of, point_of}
use Rattle.points.specs.Values.{class_of, counts_of}
use Rattle.points.proofs.Agreement.{Agreed}
use Rattle.points.proofs.Kept.{ValueIn, ValuesIn, point_of-agrees}
use Rattle.points.proofs.Ends.{ends-row, Apart, why-coarse}

-- ---- IN RANGE
finest-range : (v : Float) → FiniteF64 v → (magnitude v ≡ 0 → ⊥) → (lowest_bin finest ≤ finest_bin (magnitude v)) × (finest_bin (magnitude v) < end_bin finest)
finest-range v p z =
    let r = bin-range finest v (omega arith) p.fits (is_true (finite v) p.known) z in
    rw (div-one (finest_bin (magnitude v))) at r

pub class_in : (threshold v : Float) → FiniteF64 v → ValueIn (lowest_bin finest) (class_of threshold v)
unfolding class_of pick
class_in threshold v p = go (leb (magnitude v) (magnitude threshold)) refl (is_negative v)
  where
    i : ℕ
    i = finest_bin (magnitude v)

    range : leb (magnitude v) (magnitude threshold) ≡ false → (lowest_bin finest ≤ i) × (i < end_bin finest)
    range h = finest-range v p (λ z. let l = leb-false (magnitude v) (magnitude threshold) h in omega arith)

    go : (b : Bool) → leb (magnitude v) (magnitude threshold) ≡ b → (n : Bool) → ValueIn (lowest_bin finest) (pick b naught (pick n (minus i) (plus i)))
    go true h n = tt
    go false h true = range h
    go false h false = range h

pub classes_in : (threshold : Float) (vs : List Float) → All FiniteF64 vs → ValuesIn (lowest_bin finest) (map (class_of threshold) vs)
unfolding All
classes_in threshold [] p = tt
classes_in threshold (v ∷ vs) p = (class_in threshold v p.0, classes_in threshold vs p.1)

-- THE POINT OF FINITE VALUES AGREES
pub counts_of-agrees : (size top : ℕ) (threshold : Float) (vs : List Float) → 3 ≤ size → All FiniteF64 vs
    → Agreed size top (lowest_bin finest) (counts_of size (finest - top) threshold vs)
counts_of-agrees size top threshold vs h p = point_of-agrees size top (lowest_bin finest) (map (class_of threshold) vs) h (classes_in threshold vs p)

-- ---- BY MAGNITUDES: those of the values of a sign that are not zeros
abbrev pub magnitudes : Bool → Float → List Float → List ℕ
magnitudes negative threshold [] = []
magnitudes negative threshold (v ∷ vs) =
    pick (leb (magnitude v) (magnitude threshold))
    (magnitudes negative threshold vs)
    (pick (beq (is_negative v) negative) (magnitude v ∷ magnitudes negative threshold vs) (magnitudes negative threshold vs))

abbrev pub side : Bool → Bag → List ℕ
side true b = b.neg
side false b = b.pos

abbrev pub row_side : Bool → Point → Row
row_side true p = p.neg
row_side false p = p.pos

side-is : (negative : Bool) (threshold : Float) (vs : List Float) → side negative (bag_of (map (class_of threshold) vs)) ≡ map finest_bin (magnitudes negative threshold vs)
unfolding class_of pick
side-is true threshold [] = refl
side-is false threshold [] = refl
side-is negative threshold (v ∷ vs) =
    go (leb (magnitude v) (magnitude threshold)) (is_negative v) negative (side-is negative threshold vs)
  where
    i : ℕ
    i = finest_bin (magnitude v)

    go : (b n negative : Bool) → side negative (bag_of (map (class_of threshold) vs)) ≡ map finest_bin (magnitudes negative threshold vs)
        → side negative (one (pick b naught (pick n (minus i) (plus i))) ⊕ bag_of (map (class_of threshold) vs))
        ≡ map finest_bin (pick b (magnitudes negative threshold vs) (pick (beq n negative) (magnitude v ∷ magnitudes negative threshold vs) (magnitudes negative threshold vs)))
    go true n true h = h
    go true n false h = h
    go false true true h = ap (λ l. i ∷ l) h
    go false true false h = h
    go false false true h = h
    go false false false h = ap (λ l. i ∷ l) h

row-side : (negative : Bool) (size d : ℕ) (b : Bag) → row_side negative (build size d b) ≡ row (build size d b).d (side negative b)
unfolding build
row-side true size d b = refl
row-side false size d b = refl

module _ (size d : ℕ) (threshold : Float) (vs : List Float) (negative : Bool) where
  -- A ROW'S ENDS are the bins of the least and of the greatest magnitude of its sign
  pub row_ends : (lo hi : ℕ) → Ends lo hi (magnitudes negative threshold vs)
      → ((row_side negative (counts_of size d threshold vs)).start ≡ finest_bin lo / 2 ^ (counts_of size d threshold vs).d)
      × (length (row_side negative (counts_of size d threshold vs)).counts ≡ suc (finest_bin hi / 2 ^ (counts_of size d threshold vs).d - finest_bin lo / 2 ^ (counts_of size d threshold vs).d))
  unfolding point_of row
  row_ends lo hi h =
      let b = bag_of (map (class_of threshold) vs) in
      let e = (build size d b).d in
      rw (row-side negative size d b, side-is negative threshold vs)
      (ends-row (finest_bin lo / 2 ^ e) (finest_bin hi / 2 ^ e) (map (λ i. i / 2 ^ e) (map finest_bin (magnitudes negative threshold vs)))
      (ends-map (λ i. i / 2 ^ e) (λ a b. shr_mono e) (finest_bin lo) (finest_bin hi) (map finest_bin (magnitudes negative threshold vs))
      (ends-map finest_bin larger-finest lo hi (magnitudes negative threshold vs) h)))

-- ---- WHY THIS COARSE: two magnitudes of one sign whose bins lie size or more apart, e steps below the finest level
pub record Wide (size e : ℕ) (ms : List ℕ) : Type 0 where
  pub lo : ℕ
  pub hi : ℕ
  pub ends : Ends lo hi ms
  pub far : size ≤ finest_bin hi / 2 ^ e - finest_bin lo / 2 ^ e

wide : (size e : ℕ) (ms : List ℕ) → Apart size e (map finest_bin ms) → Wide size e ms
wide size e [] a = absurd (omega (arith, a.ends.low))
wide size e (m ∷ ms) a =
    let lo = lowest m ms in
    let hi = highest m ms in
    let u = ends-unique a.lo a.hi (finest_bin lo) (finest_bin hi) (map finest_bin (m ∷ ms)) a.ends (ends-map finest_bin larger-finest lo hi (m ∷ ms) (ends_of m ms)) in
    record { lo = lo; hi = hi; ends = ends_of m ms; far = rw (u.0, u.1) at a.far }

pub why-this-coarse : (size d e : ℕ) (threshold : Float) (vs : List Float) → (counts_of size d threshold vs).d ≡ suc e → d ≤ e
    → (negative : Bool) × Wide size e (magnitudes negative threshold vs)
unfolding point_of
why-this-coarse size d e threshold vs h g =
    elim (why-coarse size d e (bag_of (map (class_of threshold) vs)) h g) [
      | inl a ↦ (false, wide size e (magnitudes false threshold vs) (rw (side-is false threshold vs) at a))
      | inr a ↦ (true, wide size e (magnitudes true threshold vs) (rw (side-is true threshold vs) at a))
    ]

-- ---- THE THRESHOLD 0.0: only zeros are in its band
zero-magnitude : magnitude zero_float ≡ 0
unfolding magnitude of_bits
zero-magnitude = refl

pub zero_band : (v : Float) → leb (magnitude v) (magnitude zero_float) ≡ eqb (magnitude v) 0
zero_band v =
    ap (λ n. leb (magnitude v) n) zero-magnitude
    ∙ elim (eq-zero-or-pos (magnitude v)) [
      | inl z ↦ le-leb (magnitude v) 0 (omega arith) ∙ sym (eq-eqb (magnitude v) 0 z)
      | inr p ↦ lt-leb (magnitude v) 0 p ∙ sym (ne_eqb (magnitude v) 0 (λ e. omega arith))
    ]
