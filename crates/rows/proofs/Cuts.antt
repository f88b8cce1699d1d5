-- A row cut into groups of neighbours: the first, which may be cut, the whole ones, and the rest. Assumes nothing.
use mathlib.Core.Path.{◌≡◌, refl, sym, ap, ◌∙◌}
use mathlib.Core.Bool.{Bool, true, false}
use mathlib.Core.List.{List, [], ◌∷◌, ◌++◌, append-nil}
use Prim.Native.Nat.{ℕ, zero, suc, ◌+◌, ◌-◌, ◌*◌, ◌/◌, ◌^◌, ◌≤◌, ◌<◌}
use native.Mathlib.Nat.{not-suc-le-zero, zero-add, add-zero, add-suc, suc-add, div-mul-le_self, lt-div-mul-add, div-eq_of_lt-le, add-mul, one-mul, suc-mul, zero-mul, mul-div_cancel, le_trans, div-one, sub-zero, mul-le-mul_left, mul-one}
use native.Mathlib.Numerals.{add-one}
use native.Mathlib.Omega.{arith}
use lib.Dec.{eqb}
use lib.Pow.{pow_pos, pow-lt, shr_mono}
use lib.ListN.{length, take, drop, set, length-append, length-drop, length-set, length-take}
use lib.Seq.{drop-drop, length-take-le, take-add}
use borrow.Author.Tests.{eq-eqb, ne_eqb}
use Rattle.laws.specs.Counting.{total}
use Rattle.rows.specs.Rows.{over, onto, downscaled}
use Rattle.rows.specs.Parts.{part}
use Rattle.rows.specs.Groups.{groups, gathered, Gatherable}
use Rattle.laws.proofs.Over.{over-snoc, over-over, take-over}
use Rattle.rows.proofs.Laws.{next-div, onto_nil}
use Rattle.rows.proofs.Algebra.{length-step, downscaled-some}
use Rattle.rows.proofs.Adds.{over-self}
use Rattle.rows.proofs.Groups.{part-below, drop-over, length-groups, gathered-length}

-- ---- where the first group ends

pub record First (s d w : ℕ) : Type 0 where
  pub fits : (s / 2 ^ d + 1) * w < 2 ^ 64
  pub below : s ≤ (s / 2 ^ d + 1) * w
  pub meets : s + ((s / 2 ^ d + 1) * w - s) ≡ (s / 2 ^ d + 1) * 2 ^ d

pub first : (s d w : ℕ) → s < 2 ^ 32 → d < 32 → w ≡ 2 ^ d → First s d w
first s d w h l e =
    let few : 2 ^ d < 2 ^ 32 = pow-lt l in
    let sum : (s / 2 ^ d + 1) * 2 ^ d ≡ s / 2 ^ d * 2 ^ d + 2 ^ d = add-mul (s / 2 ^ d) 1 (2 ^ d) ∙ ap (λ (n : ℕ). s / 2 ^ d * 2 ^ d + n) (one-mul (2 ^ d)) in
    let under : s / 2 ^ d * 2 ^ d ≤ s = div-mul-le_self s (2 ^ d) in
    let behind : s < s / 2 ^ d * 2 ^ d + 2 ^ d = lt-div-mul-add {a = s} {b = 2 ^ d} (pow_pos d) in
    rw e (record { fits = omega arith; below = omega arith; meets = omega arith })

-- ---- a row whose first part ends where a group ends

onto_append : (t : Bool) (x : ℕ) (r ys : List ℕ) → 0 < length r → onto t x (r ++ ys) ≡ onto t x r ++ ys
unfolding onto
onto_append t x [] ys h = absurd (not-suc-le-zero h)
onto_append true x (y ∷ r) ys h = refl
onto_append false x (y ∷ r) ys h = refl

-- where what xs is counted in ends before the group of the next index
downscaled_append : (d s : ℕ) (xs ys : List ℕ) → length (downscaled d s xs) + s / 2 ^ d ≡ (s + length xs) / 2 ^ d
    → downscaled d s (xs ++ ys) ≡ downscaled d s xs ++ downscaled d (s + length xs) ys
unfolding downscaled onto
downscaled_append d s [] ys h = rw add-zero
downscaled_append d s (x ∷ []) ys h =
    let h' : 1 + s / 2 ^ d ≡ suc s / 2 ^ d = rw (onto_nil (eqb (s / 2 ^ d) (suc s / 2 ^ d)) x, add-one s) at h in
    rw (ne_eqb (s / 2 ^ d) (suc s / 2 ^ d) (omega arith), add-one s)
downscaled_append d s (x ∷ y ∷ xs) ys h =
    let r : List ℕ = downscaled d (suc s) (y ∷ xs) in
    let some : 0 < length r = downscaled-some d (suc s) (y ∷ xs) (omega arith) in
    let e = length-step (s / 2 ^ d) (suc s / 2 ^ d) (length r + suc s / 2 ^ d) x r some refl (next-div s (2 ^ d) (pow_pos d)) in
    ap (onto (eqb (s / 2 ^ d) (suc s / 2 ^ d)) x) (downscaled_append d (suc s) (y ∷ xs) ys (sym e ∙ h ∙ simp (suc-add, add-suc)))
    ∙ onto_append (eqb (s / 2 ^ d) (suc s / 2 ^ d)) x r (downscaled d (suc s + length (y ∷ xs)) ys) some
    ∙ simp (suc-add, add-suc)

-- ---- one group

one-group : (d s x : ℕ) (xs : List ℕ) → (s + length xs) / 2 ^ d ≡ s / 2 ^ d → downscaled d s (x ∷ xs) ≡ total (x ∷ xs) ∷ []
unfolding downscaled onto
one-group d s x [] h = rw add-zero (onto_nil (eqb (s / 2 ^ d) (suc s / 2 ^ d)) x)
one-group d s x (y ∷ ys) h =
    let a : s / 2 ^ d ≤ suc s / 2 ^ d = shr_mono d (omega arith) in
    let b : suc s / 2 ^ d ≤ (s + length (y ∷ ys)) / 2 ^ d = shr_mono d (omega arith) in
    let e : s / 2 ^ d ≡ suc s / 2 ^ d = omega arith in
    let t : (suc s + length ys) / 2 ^ d ≡ suc s / 2 ^ d = rw suc-add (simp add-suc at h ∙ e) in
    rw (one-group d (suc s) y ys t, eq-eqb (s / 2 ^ d) (suc s / 2 ^ d) e)

-- counts that end at the next multiple of 2 ^ d, or before it
a-group : (d s : ℕ) (ys : List ℕ) → 0 < length ys → s + length ys ≤ (s / 2 ^ d + 1) * 2 ^ d → downscaled d s ys ≡ total ys ∷ []
a-group d s [] h e = absurd (not-suc-le-zero h)
a-group d s (y ∷ ys) h e = one-group d s y ys (div-eq_of_lt-le (2 ^ d) (le_trans (div-mul-le_self s (2 ^ d)) (omega arith)) (omega arith))

-- a first group that ends at the next multiple, and what is behind it
first_group : (d s : ℕ) (xs ys : List ℕ) → 0 < length xs → s + length xs ≡ (s / 2 ^ d + 1) * 2 ^ d
    → downscaled d s (xs ++ ys) ≡ total xs ∷ downscaled d (s + length xs) ys
first_group d s xs ys h e =
    let g : downscaled d s xs ≡ total xs ∷ [] = a-group d s xs h (omega arith) in
    downscaled_append d s xs ys (ap (λ (r : List ℕ). length r + s / 2 ^ d) g ∙ omega arith ∙ sym (ap (λ (n : ℕ). n / 2 ^ d) e ∙ mul-div_cancel (s / 2 ^ d + 1) (pow_pos d)))
    ∙ ap (λ (r : List ℕ). r ++ downscaled d (s + length xs) ys) g

-- ---- whole groups from a multiple q * 2 ^ d on, and r counts behind them

whole : (d q m r : ℕ) (ys : List ℕ) → m * 2 ^ d + r ≤ length ys
    → downscaled d (q * 2 ^ d) (take (m * 2 ^ d + r) ys) ≡ groups (2 ^ d) m ys ++ downscaled d ((q + m) * 2 ^ d) (take r (drop (m * 2 ^ d) ys))
unfolding groups
whole d q zero r ys h = rw (zero-mul (2 ^ d), zero-add r, add-zero q)
whole d q (suc m) r ys h =
    let w : ℕ = 2 ^ d in
    let e : suc m * 2 ^ d + r ≡ 2 ^ d + (m * 2 ^ d + r) = omega (arith, suc-mul m (2 ^ d)) in
    let l : length (take w ys) ≡ 2 ^ d = length-take-le w ys (omega arith) in
    let n : q * 2 ^ d + 2 ^ d ≡ (q + 1) * 2 ^ d = omega (arith, add-mul q 1 w, one-mul w) in
    let u : q * 2 ^ d / 2 ^ d ≡ q = mul-div_cancel q (pow_pos d) in
    let k : q + 1 + m ≡ q + suc m = omega arith in
    let b : 2 ^ d + m * 2 ^ d ≡ suc m * 2 ^ d = omega (arith, suc-mul m (2 ^ d)) in
    let t : downscaled d (q * 2 ^ d + length (take (2 ^ d) ys)) (take (m * 2 ^ d + r) (drop (2 ^ d) ys))
    ≡ groups (2 ^ d) m (drop (2 ^ d) ys) ++ downscaled d ((q + suc m) * 2 ^ d) (take r (drop (suc m * 2 ^ d) ys)) =
    rw (l, n) (rw (k, drop-drop (m * w) w ys, b) at (whole d (q + 1) m r (drop w ys) (rw length-drop (omega arith)))) in
    rw (e, take-add w (m * w + r) ys)
    (first_group d (q * w) (take w ys) (take (m * w + r) (drop w ys)) (rw l (pow_pos d)) (rw (l, u) n) ∙ ap (λ (r : List ℕ). total (take w ys) ∷ r) t)

-- ---- what `lower` owes, of how many counts and of a slice ys at exit

abbrev pub Done : (xs : List ℕ) (d s n len : ℕ) (ys : List ℕ) → Type 0
Done xs d s n len ys = (len ≡ length (downscaled d s (take n xs))) × (ys ≡ over (downscaled d s (take n xs)) xs)

-- no level lower: every count stays
pub downscaled-none : (s : ℕ) (xs : List ℕ) → downscaled 0 s xs ≡ xs
unfolding downscaled onto
downscaled-none s [] = refl
downscaled-none s (x ∷ xs) = rw (ne_eqb (s / 1) (suc s / 1) (omega (arith, div-one s, div-one (suc s)))) (ap (λ (r : List ℕ). x ∷ r) (downscaled-none (suc s) xs))

pub same-level : (xs : List ℕ) (d s n : ℕ) → d ≡ 0 → n ≤ length xs → Done xs d s n n xs
same-level xs d s n e r = rw (e, downscaled-none s (take n xs)) (sym (length-take-le n xs r), sym (over-self n xs r))

pub no-counts : (xs : List ℕ) (d s n : ℕ) → n ≡ 0 → Done xs d s n 0 xs
unfolding downscaled over
no-counts xs d s n e = rw e (refl, refl)

nothing : (d s : ℕ) → downscaled d s [] ≡ []
unfolding downscaled
nothing d s = refl

-- the first count made another
over_first : (v : ℕ) (xs : List ℕ) → 0 < length xs → set xs 0 v ≡ over (v ∷ []) xs
unfolding over
over_first v xs h = over-snoc [] xs v h

-- all counts are one group
pub only-group : (xs : List ℕ) (d s n : ℕ) → 0 < n → n ≤ length xs → s + n ≤ (s / 2 ^ d + 1) * 2 ^ d → Done xs d s n 1 (set xs 0 (total (part xs 0 n)))
only-group xs d s n h r e =
    let l : length (take n xs) ≡ n = length-take-le n xs r in
    rw (a-group d s (take n xs) (rw l h) (rw l e), sub-zero n) (refl, over_first (total (take n xs)) xs (omega arith))

-- a first group of f counts, m whole ones and the rest
module _ (xs : List ℕ) (d s n f m : ℕ) (some : 0 < f) (more : f < n) (room : n ≤ length xs) (ends : s + f ≡ (s / 2 ^ d + 1) * 2 ^ d) (wholes : m ≡ (n - f) / 2 ^ d) where
  abbrev I : ℕ
  I = f + m * 2 ^ d

  in_row : f + m * 2 ^ d ≤ n
  in_row = rw wholes (omega (arith, div-mul-le_self (n - f) (2 ^ d)))

  behind : n < f + m * 2 ^ d + 2 ^ d
  behind = rw wholes (omega (arith, lt-div-mul-add {a = n - f} {b = 2 ^ d} (pow_pos d)))

  abbrev Front : List ℕ
  Front = total (take f xs) ∷ groups (2 ^ d) m (drop f xs)

  abbrev Rest : List ℕ
  Rest = downscaled d ((s / 2 ^ d + 1 + m) * 2 ^ d) (part xs I n)

  cut : downscaled d s (take n xs) ≡ Front ++ Rest
  cut =
      let w : ℕ = 2 ^ d in
      let q : ℕ = s / 2 ^ d + 1 in
      let e : n ≡ f + (m * 2 ^ d + (n - I)) = omega (arith, in_row) in
      let l : length (take f xs) ≡ f = length-take-le f xs (omega arith) in
      let t : downscaled d (s + length (take f xs)) (take (m * 2 ^ d + (n - I)) (drop f xs)) ≡ groups (2 ^ d) m (drop f xs) ++ Rest =
      rw (l, ends) (rw (drop-drop (m * 2 ^ d) f xs) at (whole d q m (n - I) (drop f xs) (rw length-drop (omega (arith, in_row))))) in
      ap (λ (k : ℕ). downscaled d s (take k xs)) e
      ∙ ap (downscaled d s) (take-add f (m * w + (n - I)) xs)
      ∙ first_group d s (take f xs) (take (m * w + (n - I)) (drop f xs)) (rw l some) (rw l ends)
      ∙ ap (λ (r : List ℕ). total (take f xs) ∷ r) t

  -- the first group's total laid, the whole groups are ready to be gathered, and what they leave
  abbrev Laid : List ℕ
  Laid = set xs 0 (total (part xs 0 f))

  laid-is : Laid ≡ over (total (take f xs) ∷ []) xs
  laid-is = over_first (total (part xs 0 f)) xs (omega arith) ∙ rw (sub-zero f)

  drop-laid : drop f Laid ≡ drop f xs
  drop-laid = ap (drop f) laid-is ∙ drop-over (total (take f xs) ∷ []) xs f (omega arith)

  ready : total (take n xs) < 2 ^ 64 → Gatherable (2 ^ d) 1 f m Laid
  ready t =
      let p : total (part Laid f I) ≡ total (part xs f I) = ap (λ (r : List ℕ). total (take (I - f) r)) drop-laid in
      (some, rw length-set (omega (arith, in_row)), rw p (omega (arith, part-below xs f I n (omega arith) in_row)))

  front-is : length Front ≡ m + 1
  front-is = omega (arith, length-groups (2 ^ d) m (drop f xs))

  gathered-is : gathered (2 ^ d) 1 f m Laid ≡ over Front xs
  gathered-is =
      rw (drop-laid, laid-is, take-over (total (take f xs) ∷ []) xs)
      (over-over (total (take f xs) ∷ []) Front xs (omega arith))

  no-rest : f + m * 2 ^ d ≡ n → Done xs d s n (m + 1) (gathered (2 ^ d) 1 f m Laid)
  no-rest e =
      let z : n - I ≡ 0 = omega arith in
      let r : downscaled d s (take n xs) ≡ Front = cut ∙ rw (z, nothing d ((s / 2 ^ d + 1 + m) * 2 ^ d)) (append-nil Front) in
      rw r (sym front-is, gathered-is)

  part-is : part (gathered (2 ^ d) 1 f m Laid) I n ≡ part xs I n
  part-is = ap (take (n - I)) (ap (drop I) gathered-is ∙ drop-over Front xs I (omega (arith, front-is, some, mul-le-mul_left {m = 1} {n = 2 ^ d} m (pow_pos d), mul-one m)))

  rest-fits : total (take n xs) < 2 ^ 64 → total (part (gathered (2 ^ d) 1 f m Laid) I n) < 2 ^ 64
  rest-fits t = rw part-is (omega (arith, part-below xs I n n in_row (omega arith)))

  a-rest : I < n → Done xs d s n (m + 2) (set (gathered (2 ^ d) 1 f m Laid) (m + 1) (total (part (gathered (2 ^ d) 1 f m Laid) I n)))
  a-rest h =
      let l : length (part xs I n) ≡ n - I = simp (length-take, length-drop) (omega arith) in
      let q : ℕ = s / 2 ^ d + 1 + m in
      let u : q * 2 ^ d / 2 ^ d ≡ q = mul-div_cancel q (pow_pos d) in
      let g : Rest ≡ total (part xs I n) ∷ [] = a-group d (q * 2 ^ d) (part xs I n) (rw l (omega arith)) (rw (l, u) (omega (arith, behind, add-mul q 1 (2 ^ d), one-mul (2 ^ d)))) in
      let r : downscaled d s (take n xs) ≡ Front ++ (total (part xs I n) ∷ []) = cut ∙ ap (λ (r : List ℕ). Front ++ r) g in
      rw (part-is, gathered-is, r) (
        sym (length-append Front (total (part xs I n) ∷ []) ∙ omega (arith, front-is)),
        rw front-is at (over-snoc Front xs (total (part xs I n)) (omega (arith, front-is, some, mul-le-mul_left {m = 1} {n = 2 ^ d} m (pow_pos d), mul-one m))),
      )

-- in `lower`, once the whole groups are gathered: w how many counts are a group, cs the slice then
pub record Cut (xs cs : List ℕ) (d s n f w m : ℕ) : Type 0 where
  pub kept : length cs ≡ length xs
  pub inside : f + m * w ≤ n
  pub few : m < f + m * w
  pub fits : total (part cs (f + m * w) n) < 2 ^ 64
  pub no-rest : f + m * w ≡ n → Done xs d s n (m + 1) cs
  pub a-rest : f + m * w < n → Done xs d s n (m + 2) (set cs (m + 1) (total (part cs (f + m * w) n)))

-- x is the first group's total
module _ (xs : List ℕ) (d s n f w x m : ℕ) (more : f < n) (room : n ≤ length xs) (sums : total (take n xs) < 2 ^ 64)
    (ends : s + f ≡ (s / 2 ^ d + 1) * 2 ^ d) (width : w ≡ 2 ^ d) (one : x ≡ total (part xs 0 f)) (wholes : m ≡ (n - f) / 2 ^ d) where
  some : 0 < f
  some = omega (arith, ends, lt-div-mul-add {a = s} {b = 2 ^ d} (pow_pos d), add-mul (s / 2 ^ d) 1 (2 ^ d), one-mul (2 ^ d))

  pub gatherable : Gatherable w 1 f m (set xs 0 x)
  gatherable = rw (width, one) (ready xs d s n f m some more room ends wholes sums)

  pub cut-is : (cs : List ℕ) → cs ≡ gathered w 1 f m (set xs 0 x) → Cut xs cs d s n f w m
  cut-is cs e =
      let i : f + m * 2 ^ d ≤ n = in_row xs d s n f m some more room ends wholes in
      let g : m < f + m * 2 ^ d = omega (arith, some, mul-le-mul_left {m = 1} {n = 2 ^ d} m (pow_pos d), mul-one m) in
      rw (e, one, width) (record {
        kept = gathered-length (2 ^ d) 1 f m (set xs 0 (total (part xs 0 f))) (rw length-set (omega arith)) ∙ length-set xs 0 (total (part xs 0 f));
        inside = i;
        few = g;
        fits = rest-fits xs d s n f m some more room ends wholes sums;
        no-rest = no-rest xs d s n f m some more room ends wholes;
        a-rest = a-rest xs d s n f m some more room ends wholes;
      })
