-- What a sheet is judged to be: fine where its entries pass their tests and their sets ascend, with all that its points take. Assumes nothing.
use Prim.Native.Nat.{ℕ, zero, suc, ◌+◌, ◌≤◌}
use mathlib.Core.Path.{◌≡◌, refl, sym, ap, ◌∙◌}
use mathlib.Core.Bool.{Bool, true, false, ◌&&◌, ◌||◌, and-false}
use mathlib.Core.List.{List, [], ◌∷◌}
use native.Mathlib.Nat.{add-zero}
use native.Mathlib.Omega.{arith}
use lib.Dec.{eqb, eqb-suc-zero}
use lib.ListN.{length, take, drop, length-drop, length-map}
use lib.Seq.{drop-drop, length-take-le}
use lib.Ieee.{binary64, of_bits}
use Rattle.laws.specs.Counting.{sum}
use Rattle.laws.specs.Pick.{pick}
use Rattle.laws.proofs.Bools.{pick-false}
use Rattle.laws.proofs.Cases.{true-not-false}
use Rattle.sets.specs.Rows.{set_of, below}
use Rattle.tally.specs.Sets.{Set, cmp}
use Rattle.listing.specs.Words.{bounds_in}
use Rattle.records.specs.Records.{width, cells}
use Rattle.sheets.specs.Entries.{Entry, head_in, pos_in, neg_in, stored_from, entry_of, entry_len, entries_of, ascending}
use Rattle.sheets.specs.Sheet.{points_in}
use Rattle.sheets.specs.Inner.{entry_at, entries_at}
use Rattle.sheet_reading.specs.Inner.{sizes_of, words_in, more, judged_from, nothing, judged}
use Rattle.std.specs.Prelude.{Option, None, Some}
use Rattle.sheet_reading.specs.declared.judge.Sizes.{Sizes}
use Rattle.sheet_reading.proofs.EntryLaws.{entry-within}
use Rattle.sheet_reading.proofs.SizeLaws.{width-least}

-- ---- sets behind a set

-- they ascend; unless at place 0, behind the set before them
abbrev behind : ℕ → Set → List Entry → Bool
behind zero a es = ascending es
behind (suc i) a [] = true
behind (suc i) a (e ∷ es) = below (cmp a e.0) && ascending (e ∷ es)

behind-none : (i : ℕ) (a : Set) → behind i a [] ≡ true
behind-none zero a = refl
behind-none (suc i) a = refl

behind-next : (i : ℕ) (e : Entry) (es : List Entry) → ascending (e ∷ es) ≡ behind (suc i) e.0 es
behind-next i e [] = refl
behind-next i e (f ∷ es) = refl

behind-first : (i : ℕ) (a : Set) (e : Entry) (es : List Entry) → behind i a (e ∷ es) ≡ ((eqb i 0 || below (cmp a e.0)) && ascending (e ∷ es))
behind-first zero a e es = refl
behind-first (suc i) a e es = ap (λ (b : Bool). (b || below (cmp a e.0)) && ascending (e ∷ es)) (sym (eqb-suc-zero i))

-- ---- what entries take

abbrev bounds_len : Entry → ℕ
bounds_len e = length e.1.bounds

abbrev pos_len : Entry → ℕ
pos_len e = length e.1.pos

abbrev neg_len : Entry → ℕ
neg_len e = length e.1.neg

abbrev with : Sizes → List Entry → Sizes
with y es = record { bounds = y.bounds + sum bounds_len es; pos = y.pos + sum pos_len es; neg = y.neg + sum neg_len es }

-- an entry that passes takes what its head says
module _ (s : List ℕ) (k : ℕ) (h : entry_at s k ≡ true) where
  abbrev l : List ℕ
  l = drop k (cells s)

  abbrev w : List ℕ
  w = head_in l

  rest-long : width (bounds_in w).len + width (pos_in w + neg_in w) ≤ length (drop 21 l)
  rest-long = omega (arith, entry-within s k h, length-drop 21 l, length-drop k (cells s))

  own-bounds : bounds_len (entry_of l) ≡ (bounds_in w).len
  unfolding entry_of stored_from
  own-bounds =
      length-map (take (bounds_in w).len (drop 21 l)) (of_bits binary64)
      ∙ length-take-le (bounds_in w).len (drop 21 l) (omega (arith, rest-long, width-least (bounds_in w).len))

  own-pos : pos_len (entry_of l) ≡ pos_in w
  unfolding entry_of stored_from
  own-pos =
      let c = drop (width (bounds_in w).len) (drop 21 l) in
      length-take-le (pos_in w) c (omega (arith, rest-long, width-least (pos_in w + neg_in w), length-drop (width (bounds_in w).len) (drop 21 l)))

  own-neg : neg_len (entry_of l) ≡ neg_in w
  unfolding entry_of stored_from
  own-neg =
      let c = drop (width (bounds_in w).len) (drop 21 l) in
      length-take-le (neg_in w) (drop (pos_in w) c)
      (omega (arith, rest-long, width-least (pos_in w + neg_in w), length-drop (width (bounds_in w).len) (drop 21 l), length-drop (pos_in w) c))

  taken : (y : Sizes) (es : List Entry) → with (more y (sizes_of w)) es ≡ with y (entry_of l ∷ es)
  taken y es =
      let b : y.bounds + (bounds_in w).len + sum bounds_len es ≡ y.bounds + (bounds_len (entry_of l) + sum bounds_len es) = omega (arith, own-bounds) in
      let p : y.pos + pos_in w + sum pos_len es ≡ y.pos + (pos_len (entry_of l) + sum pos_len es) = omega (arith, own-pos) in
      let n : y.neg + neg_in w + sum neg_len es ≡ y.neg + (neg_len (entry_of l) + sum neg_len es) = omega (arith, own-neg) in
      λ i. record { bounds = b i; pos = p i; neg = n i }

-- ---- judged

none_left : (b c : Bool) (y : Sizes) → c ≡ true → pick b (Some y) None ≡ pick (b && c) (Some (with y [])) None
unfolding pick
none_left false c y e = refl
none_left true c y e =
    let z : y ≡ with y [] = λ i. record { bounds = sym (add-zero y.bounds) i; pos = sym (add-zero y.pos) i; neg = sym (add-zero y.neg) i } in
    ap Some z ∙ sym (ap (λ (b : Bool). pick b (Some (with y [])) None) e)

one_left : (a f b c : Bool) (x z : Sizes) (r : Option Sizes) → r ≡ pick (b && c) (Some x) None → (a ≡ true → x ≡ z)
    → pick (a && f) r None ≡ pick ((a && b) && (f && c)) (Some z) None
unfolding pick
one_left false f b c x z r h g = refl
one_left true false b c x z r h g = sym (pick-false (b && false) (Some z) None (and-false b))
one_left true true b c x z r h g = h ∙ ap (λ (y : Sizes). pick (b && c) (Some y) None) (g refl)

abbrev passes : ℕ → List ℕ → ℕ → ℕ → List ℕ → Bool
passes n s k i row = entries_at n s k && behind i (set_of row) (entries_of n (drop k (cells s)))

pub judged-is : (n : ℕ) (s : List ℕ) (k i : ℕ) (row : List ℕ) (y : Sizes)
    → judged_from n s k i row y ≡ pick (passes n s k i row) (Some (with y (entries_of n (drop k (cells s))))) None
unfolding entries_at entry_of entry_len
judged-is zero s k i row y = none_left (eqb (length (drop k (cells s))) 0) (behind i (set_of row) []) y (behind-none i (set_of row))
judged-is (suc n) s k i row y =
    let l = drop k (cells s) in
    let z = sizes_of (head_in l) in
    let m = words_in z in
    let es = entries_of n (drop m l) in
    let d : entries_of n (drop (k + m) (cells s)) ≡ es = ap (entries_of n) (sym (drop-drop m k (cells s))) in
    let f : Bool = eqb i 0 || below (cmp (set_of row) (set_of (take 9 l))) in
    let ih = judged-is n s (k + m) (suc i) (take 9 l) (more y z)
    ∙ ap (λ (x : List Entry). pick (entries_at n s (k + m) && behind (suc i) (set_of (take 9 l)) x) (Some (with (more y z) x)) None) d in
    one_left (entry_at s k) f (entries_at n s (k + m)) (behind (suc i) (set_of (take 9 l)) es) (with (more y z) es) (with y (entry_of l ∷ es))
    (judged_from n s (k + m) (suc i) (take 9 l) (more y z)) ih (λ h. taken s k h y es)
    ∙ ap (λ (b : Bool). pick ((entry_at s k && entries_at n s (k + m)) && b) (Some (with y (entry_of l ∷ es))) None)
    (sym (behind-first i (set_of row) (entry_of l) es ∙ ap (λ (b : Bool). f && b) (behind-next i (entry_of l) es)))

-- ---- a whole sheet

length-entries : (n : ℕ) (l : List ℕ) → length (entries_of n l) ≡ n
length-entries zero l = refl
length-entries (suc n) l = ap suc (length-entries n (drop (entry_len (head_in l)) l))

abbrev sizes_in : Option Sizes → Sizes
sizes_in None = nothing
sizes_in (Some z) = z

abbrev fine? : Option Sizes → Bool
fine? None = false
fine? (Some z) = true

picked_bad : (b : Bool) (z : Sizes) → pick b (Some z) None ≡ None → b ≡ false
unfolding pick
picked_bad true z h = ap fine? h
picked_bad false z h = refl

picked-fine : (b : Bool) (x z : Sizes) → pick b (Some x) None ≡ Some z → (b ≡ true) × (x ≡ z)
unfolding pick
picked-fine true x z h = (refl, ap sizes_in h)
picked-fine false x z h = true-not-false (sym (ap fine? h))

module _ (s : List ℕ) where
  abbrev n : ℕ
  n = points_in s

  abbrev entries : List Entry
  entries = entries_of (points_in s) (drop 3 (cells s))

  judged-all : judged s ≡ pick (entries_at n s 3 && ascending entries) (Some (with nothing entries)) None
  unfolding judged
  judged-all = judged-is n s 3 0 [] nothing

  pub judged_bad : judged s ≡ None → (entries_at n s 3 && ascending entries) ≡ false
  judged_bad h = picked_bad (entries_at n s 3 && ascending entries) (with nothing entries) (sym judged-all ∙ h)

  pub judged-fine : (z : Sizes) → judged s ≡ Some z
      → ((entries_at n s 3 && ascending entries) ≡ true)
      × (z.pos ≡ sum (λ e. length e.1.pos) entries)
      × (z.neg ≡ sum (λ e. length e.1.neg) entries)
      × (z.bounds ≡ sum (λ e. length e.1.bounds) entries)
      × (length entries ≡ n)
  judged-fine z h =
      let p = picked-fine (entries_at n s 3 && ascending entries) (with nothing entries) z (sym judged-all ∙ h) in (
        p.0,
        omega (arith, ap (λ (x : Sizes). x.pos) p.1),
        omega (arith, ap (λ (x : Sizes). x.neg) p.1),
        omega (arith, ap (λ (x : Sizes). x.bounds) p.1),
        length-entries n (drop 3 (cells s)),
      )
