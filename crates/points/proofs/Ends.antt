-- The ends of a row and the level: a row runs from the least bin to the greatest, and below the greatest level one sign does not fit
-- one level finer. Assumes nothing.
use Prim.Native.Nat.{ℕ, zero, suc, ◌+◌, ◌-◌, ◌/◌, ◌^◌, ◌≤◌, ◌<◌, pred}
use mathlib.Core.Path.{◌≡◌, refl, ap, sym, ◌∙◌}
use mathlib.Core.Logic.{◌⊎◌, inl, inr}
use mathlib.Core.Bool.{Bool, true, false}
use mathlib.Core.List.{List, [], ◌∷◌, map}
use native.Mathlib.Numerals.{add-one}
use native.Mathlib.Omega.{arith}
use lib.Dec.{leb, leb-zero, eqb}
use lib.ListN.{length, replicate}
use lib.Pow.{shr-shr, shr_mono}
use borrow.Author.Tests.{leb-true, leb-false, le-leb}
use Rattle.laws.specs.Pick.{pick}
use Rattle.laws.specs.Counting.{bit, sum, lowest, highest}
use Rattle.laws.proofs.Bools.{flag, not-both, and_intro}
use Rattle.laws.proofs.Same.{sum_append}
use Rattle.laws.proofs.Counting.{Ends, ends_of, ends-map}
use Rattle.laws.proofs.Search.{least_spec}
use Rattle.index.specs.Bins.{finest}
use Rattle.points.specs.Points.{row, row_of, expand, fits, fits_both, scale, Bag, build}
use Rattle.points.proofs.Rows.{row_of-canonical, at-row_of, at_in, at-pos}

-- ---- THE ENDS OF A ROW
pub ends-row : (lo hi : ℕ) (xs : List ℕ) → Ends lo hi xs → ((row_of xs).start ≡ lo) × (length (row_of xs).counts ≡ suc (hi - lo))
ends-row lo hi xs e =
    let r = row_of xs in
    let c = row_of-canonical xs in
    let a = at-pos r lo (omega (arith, at-row_of xs lo, e.low)) in
    let b = at-pos r hi (omega (arith, at-row_of xs hi, e.high)) in
    let k = pred (length r.counts) in
    let p : 0 < length r.counts = omega (arith, a) in
    omega (
      arith,
      a,
      b,
      e.all (r.start + 0) (omega (arith, at_in r 0, at-row_of xs (r.start + 0), c.first p)),
      e.all (r.start + k) (omega (arith, at_in r k, at-row_of xs (r.start + k), c.last p)),
    )

-- whether a list with these ends fits
pub ends-fits : (size e lo hi : ℕ) (xs : List ℕ) → Ends lo hi xs → fits size e xs ≡ leb (suc (hi / 2 ^ e - lo / 2 ^ e)) size
unfolding fits row
ends-fits size e lo hi xs h =
    ap (λ n. leb n size) (ends-row (lo / 2 ^ e) (hi / 2 ^ e) (map (λ i. i / 2 ^ e) xs) (ends-map (λ i. i / 2 ^ e) (λ a b. shr_mono e) lo hi xs h)).1

-- what fits goes on fitting at the coarser levels
pub fits-coarser : (size e : ℕ) (xs : List ℕ) → fits size e xs ≡ true → fits size (suc e) xs ≡ true
unfolding fits row row_of
fits-coarser size e [] h = h
fits-coarser size e (x ∷ xs) h =
    let lo = lowest x xs in
    let hi = highest x xs in
    let n = suc (hi / 2 ^ e - lo / 2 ^ e) in
    let m = suc (hi / 2 ^ suc e - lo / 2 ^ suc e) in
    let f = leb-true n size (sym (ends-fits size e lo hi (x ∷ xs) (ends_of x xs)) ∙ h) in
    ends-fits size (suc e) lo hi (x ∷ xs) (ends_of x xs)
    ∙ le-leb m size (omega (arith, f, half hi e, half lo e))
  where
    half : (a e : ℕ) → a / 2 ^ suc e ≡ a / 2 ^ e / 2
    half a e = rw (← add-one e) (sym (shr-shr a e 1))

-- ---- THE LEVEL. Two of the list lie size bins or more apart, e steps below the finest level
pub record Apart (size e : ℕ) (xs : List ℕ) : Type 0 where
  pub lo : ℕ
  pub hi : ℕ
  pub ends : Ends lo hi xs
  pub far : size ≤ hi / 2 ^ e - lo / 2 ^ e

pub apart : (size e : ℕ) (xs : List ℕ) → fits size e xs ≡ false → Apart size e xs
unfolding fits row row_of
apart size e [] h = absurd (not-both (leb 0 size) (rw leb-zero) h)
apart size e (x ∷ xs) h =
    let lo = lowest x xs in
    let hi = highest x xs in
    let n = suc (hi / 2 ^ e - lo / 2 ^ e) in
    let f = leb-false n size (sym (ends-fits size e lo hi (x ∷ xs) (ends_of x xs)) ∙ h) in
    record { lo = lo; hi = hi; ends = ends_of x xs; far = omega arith }

-- below the level that the search began at, one sign does not fit one level finer
pub why-coarse : (size d e : ℕ) (b : Bag) → (build size d b).d ≡ suc e → d ≤ e → Apart size e b.pos ⊎ Apart size e b.neg
unfolding build scale fits_both
why-coarse size d e b h g =
    let p = fits size e b.pos in
    let n = fits size e b.neg in
    elim (flag p) [
      | inr f ↦ inl (apart size e b.pos f)
      | inl s ↦
          elim (flag n) [
            | inr f ↦ inr (apart size e b.neg f)
            | inl t ↦ absurd (omega (arith, h, (least_spec (fits_both size b) d (finest - d)).first e g (and_intro p n s t)))
          ]
    ]

-- ---- THE COUNTS of a coarser row: what falls into bin j, k steps coarser, of the counts cs of the bins s, s + 1, ..
abbrev pub bucket : ℕ → ℕ → List ℕ → ℕ → ℕ
bucket k s [] j = 0
bucket k s (c ∷ cs) j = pick (eqb (s / 2 ^ k) j) c 0 + bucket k (suc s) cs j

pub sum-replicate : (b : Bool) (w : ℕ → ℕ) (c s : ℕ) → w s ≡ bit b → sum w (replicate c s) ≡ pick b c 0
unfolding pick
sum-replicate true w zero s h = refl
sum-replicate true w (suc c) s h = omega (arith, h, sum-replicate true w c s h)
sum-replicate false w zero s h = refl
sum-replicate false w (suc c) s h = omega (arith, h, sum-replicate false w c s h)

pub sum-expand : (k j s : ℕ) (cs : List ℕ) → sum (λ i. bit (eqb (i / 2 ^ k) j)) (expand s cs) ≡ bucket k s cs j
sum-expand k j s [] = refl
sum-expand k j s (c ∷ cs) =
    let w : ℕ → ℕ = λ i. bit (eqb (i / 2 ^ k) j) in
    omega (arith, sum_append w (replicate c s) (expand (suc s) cs), sum-replicate (eqb (s / 2 ^ k) j) w c s refl, sum-expand k j (suc s) cs)
