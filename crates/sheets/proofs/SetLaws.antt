-- The row of a set, by the tests of the code. Assumes nothing.
use Prim.Native.Nat.{ℕ, ◌+◌, ◌-◌, ◌≤◌, ◌<◌}
use mathlib.Core.Path.{◌≡◌, sym, ap, subst, ◌∙◌}
use mathlib.Core.Logic.{⊎_elim}
use mathlib.Core.Bool.{Bool, true, false, ◌&&◌, ◌||◌}
use mathlib.Core.List.{List, [], ◌∷◌, ◌++◌, map}
use native.Mathlib.Omega.{arith}
use borrow.Author.Tests.{leb-true, le-leb, eqb-true, eq-eqb, ne_eqb}
use lib.Dec.{leb, eqb}
use lib.ListN.{length, get_or, replicate, length-append, length-map, length-replicate, get_or-replicate, get_or-append}
use lib.Seq.{get_or-append-add}
use Rattle.laws.proofs.Bools.{flag, not-both, and_left}
use Rattle.tally.specs.Sets.{Set}
use Rattle.sets.specs.All.{allb}
use Rattle.sets.specs.Rows.{size, set_of, word_of, row_of, soundb}
use Rattle.sets.proofs.Alls.{allb-at, allb-yes, allb-more, allb-no}
use Rattle.sets.proofs.Exact.{row-own}
use Rattle.sets.proofs.Keyed.{length-set-of}
use Rattle.sheets.specs.Entries.{set_fine}
use Rattle.sheets.specs.Sheet.{same_list}
use Rattle.sheets.specs.Inner.{row_fine}
use Rattle.sheets.proofs.SameLists.{same-says, same-list, no_test}

-- word n + i is zero
abbrev pub zero_from : List ℕ → ℕ → ℕ → Bool
zero_from row n i = eqb (get_or row (n + i) 0) 0

-- one word more, and one that is not zero
pub zero_more : (row : List ℕ) (n i : ℕ) → n ≤ i → allb (i - n) (zero_from row n) ≡ true → get_or row i 0 ≡ 0 → allb (i + 1 - n) (zero_from row n) ≡ true
zero_more row n i h a z =
    let e : i - n + 1 ≡ i + 1 - n = omega arith in
    let f : n + (i - n) ≡ i = omega arith in
    subst (λ (k : ℕ). allb k (zero_from row n) ≡ true) e
    (allb-more (zero_from row n) (i - n) a (eq-eqb (get_or row (n + (i - n)) 0) 0 (ap (λ (k : ℕ). get_or row k 0) f ∙ z)))

pub zero-not : (row : List ℕ) (n i : ℕ) → n ≤ i → i < 8 → (get_or row i 0 ≡ 0 → ⊥) → false ≡ allb (8 - n) (zero_from row n)
zero-not row n i h l z =
    let f : n + (i - n) ≡ i = omega arith in
    sym (allb-no (zero_from row n) (8 - n) (i - n) (omega arith)
    (ne_eqb (get_or row (n + (i - n)) 0) 0 (λ e. z (ap (λ (k : ℕ). get_or row k 0) (sym f) ∙ e))))

-- ---- the row of a set

pub length-row : (s : Set) → length (row_of s) ≡ length s + (8 - length s) + 1
unfolding row_of
length-row s =
    let o : ℕ = 0 in
    let r : List ℕ = replicate (8 - length s) o in
    omega (arith, length-append (map word_of s) (r ++ (length s ∷ [])), length-append r (length s ∷ []), length-map s word_of, length-replicate (8 - length s) o)

-- behind a set's words come zeros
zeros-row : (s : Set) (i : ℕ) → i < 8 - length s → get_or (row_of s) (length s + i) 0 ≡ 0
unfolding row_of
zeros-row s i h =
    let o : ℕ = 0 in
    let r : List ℕ = replicate (8 - length s) o in
    let e : length s + i ≡ length (map word_of s) + i = ap (λ (k : ℕ). k + i) (sym (length-map s word_of)) in
    ap (λ (j : ℕ). get_or (map word_of s ++ (r ++ (length s ∷ []))) j 0) e
    ∙ get_or-append-add (map word_of s) (r ++ (length s ∷ [])) i 0
    ∙ get_or-append r (length s ∷ []) 0 i (omega (arith, length-replicate (8 - length s) o))
    ∙ get_or-replicate (8 - length s) i o 0 h

-- ---- the tests one by one

row-says : (row : List ℕ) → row_fine row ≡ true → row_of (set_of row) ≡ row
unfolding row_fine
row-says row h = same-says (row_of (set_of row)) row (and_left (same_list (row_of (set_of row)) row) (set_fine (set_of row)) h)

-- over 8 attributes
pub row-long : (row : List ℕ) → length row ≡ 9 → 8 < size row → false ≡ row_fine row
row-long row l h =
    sym (no_test (row_fine row) (λ t. let e : length (row_of (set_of row)) ≡ length row = ap length (row-says row t) in
    absurd (omega (arith, length-row (set_of row), length-set-of row))))

-- words behind the attributes
pub row_unclean : (row : List ℕ) → size row ≤ 8 → allb (8 - size row) (zero_from row (size row)) ≡ false → false ≡ row_fine row
row_unclean row h f =
    let n = length-set-of row in
    sym (no_test (row_fine row) (λ t. not-both (allb (8 - size row) (zero_from row (size row)))
    (allb-yes (zero_from row (size row)) (8 - size row)
    (λ i l. eq-eqb (get_or row (size row + i) 0) 0
    (ap (λ (r : List ℕ). get_or r (size row + i) 0) (sym (row-says row t))
    ∙ ap (λ (k : ℕ). get_or (row_of (set_of row)) (k + i) 0) (sym n)
    ∙ zeros-row (set_of row) i (omega arith))))
    f))

module _ (row : List ℕ) (long : length row ≡ 9) (few : size row ≤ 8) (zeros : allb (8 - size row) (zero_from row (size row)) ≡ true) where
  own : row_of (set_of row) ≡ row
  own =
      row-own row
      (record {
        long = long;
        zeros = λ j a b.
            let e : size row + (j - size row) ≡ j = omega arith in
            ap (λ (k : ℕ). get_or row k 0) (sym e)
            ∙ eqb-true (get_or row (size row + (j - size row)) 0) 0 (allb-at (zero_from row (size row)) (8 - size row) zeros (j - size row) (omega arith));
      })
      few

  clean-fine : row_fine row ≡ (eqb (size row) 0 || soundb row)
  unfolding row_fine set_fine
  clean-fine =
      let n = length-set-of row in
      let t : same_list (row_of (set_of row)) row ≡ true = same-list (row_of (set_of row)) row own in
      ap (λ (a : Bool). a && (eqb (length (set_of row)) 0 || (leb (length (set_of row)) 8 && soundb (row_of (set_of row))))) t
      ∙ ap (λ (k : ℕ). eqb k 0 || (leb k 8 && soundb (row_of (set_of row)))) n
      ∙ ap (λ (b : Bool). eqb (size row) 0 || (b && soundb (row_of (set_of row)))) (le-leb (size row) 8 few)
      ∙ ap (λ (r : List ℕ). eqb (size row) 0 || soundb r) own

  -- the empty set
  pub row-empty : size row ≡ 0 → true ≡ row_fine row
  row-empty e = sym (clean-fine ∙ ap (λ (a : Bool). a || soundb row) (eq-eqb (size row) 0 e))

  pub row_named : (size row ≡ 0 → ⊥) → soundb row ≡ row_fine row
  row_named n = sym (clean-fine ∙ ap (λ (a : Bool). a || soundb row) (ne_eqb (size row) 0 n))

-- ---- a set that is written has at most 8 attributes

pub set-few : (s : Set) → set_fine s ≡ true → length s ≤ 8
unfolding set_fine
set-few s h =
    ⊎_elim (λ e. let z = eqb-true (length s) 0 e in omega arith)
    (λ e. leb-true (length s) 8 (and_left (leb (length s) 8) (soundb (row_of s)) (sym (ap (λ (b : Bool). b || (leb (length s) 8 && soundb (row_of s))) e) ∙ h)))
    (flag (eqb (length s) 0))

pub row-few : (row : List ℕ) → set_fine (set_of row) ≡ true → size row ≤ 8
row-few row h = omega (arith, set-few (set_of row) h, length-set-of row)
