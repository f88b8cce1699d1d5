-- What a row's size and soundness say of its set. Assumes nothing.
use Prim.Native.Nat.{Ordering}
use Prim.Native.Nat.{ℕ, zero, suc, ◌+◌, ◌-◌, ◌/◌, ◌≤◌, ◌<◌}
use mathlib.Core.Path.{◌≡◌, refl, ap, sym, subst, ◌∙◌}
use mathlib.Core.Logic.{⊎_elim}
use mathlib.Core.Bool.{true, false}
use mathlib.Core.List.{List, [], map}
use native.Mathlib.Omega.{arith}
use native.Mathlib.Nat.{eq-or-lt_of_le}
use native.Mathlib.Numerals.{add-one}
use borrow.Author.Tests.{leb-true, ltb-true, lt-ltb, le-leb, lt-leb}
use lib.Dec.{leb}
use lib.ListN.{length, get_or, length-map}
use Rattle.laws.proofs.Cases.{and-true}
use Rattle.tally.specs.Sets.{cmp, same, Over, Keyed}
use Rattle.sets.specs.All.{allb}
use Rattle.sets.specs.Rows.{pair, size, span, set_of, key_at, soundb}
use Rattle.sets.proofs.Alls.{allb-at, allb-yes}
use Rattle.sets.proofs.Spans.{span-length}

-- the empty set, and those with an attribute
pub empty-row : (row : List ℕ) → size row ≡ 0 → same (set_of row) [] ≡ true
unfolding set_of
empty-row row e = ap (λ (k : ℕ). same (map pair (span row 0 k)) []) e

pub named-row : (row : List ℕ) → (size row ≡ 0 → ⊥) → same (set_of row) [] ≡ false
unfolding set_of
named-row row n = let e : size row ≡ suc (size row - 1) = one (size row) n in ap (λ (k : ℕ). same (map pair (span row 0 k)) []) e
  where
    one : (k : ℕ) → (k ≡ 0 → ⊥) → k ≡ suc (k - 1)
    one zero n = absurd (n refl)
    one (suc k) n = omega arith

-- a set with an attribute comes after the empty one
pub after-empty : (row : List ℕ) → 1 ≤ size row → cmp [] (set_of row) ≡ Ordering.lt
unfolding set_of
after-empty row h = let e : size row ≡ suc (size row - 1) = omega arith in ap (λ (k : ℕ). cmp [] (map pair (span row 0 k))) e

-- what a sound row has
pub sound-some : (row : List ℕ) → soundb row ≡ true → 1 ≤ size row
unfolding soundb
sound-some row e = leb-true 1 (size row) (and-true _ _ e).0

pub sound-few : (row : List ℕ) → soundb row ≡ true → size row ≤ 8
unfolding soundb
sound-few row e = leb-true (size row) 8 (and-true (leb (size row) 8) _ (and-true (leb 1 (size row)) _ e).1).0

-- the key of word j
abbrev key_of : List ℕ → ℕ → ℕ
key_of row j = get_or row j 0 / 4294967296

-- keys that rise from each word to the next, rise
module _ (row : List ℕ) (n : ℕ) (up : (j : ℕ) → suc j < n → key_of row j < key_of row (suc j)) where
  climb : (j k : ℕ) → j + suc k < n → key_of row j < key_of row (j + suc k)
  climb j zero h = let e : suc j ≡ j + suc zero = omega arith in subst (λ (i : ℕ). key_of row j < key_of row i) e (up j (omega arith))
  climb j (suc k) h =
      let e : suc (j + suc k) ≡ j + suc (suc k) = omega arith in
      let a = climb j k (omega arith) in
      let b = up (j + suc k) (omega arith) in
      subst (λ (i : ℕ). key_of row j < key_of row i) e (omega arith)

  later : (j k : ℕ) → j < k → k < n → key_of row j < key_of row k
  later j k h u =
      let e : j + suc (k - j - 1) ≡ k = omega arith in
      subst (λ (i : ℕ). key_of row j < key_of row i) e (climb j (k - j - 1) (omega arith))

  over-span : (a i k : ℕ) → ((j : ℕ) → i ≤ j → j < i + k → a < key_of row j) → Over a (map pair (span row i k))
  over-span a i zero h = tt
  over-span a i (suc k) h = (h i (omega arith) (omega arith), over-span a (suc i) k (λ j p q. h j (omega arith) (omega arith)))

  keyed-span : (i k : ℕ) → i + k ≤ n → Keyed (map pair (span row i k))
  keyed-span i zero h = tt
  keyed-span i (suc k) h =
      (over-span (key_of row i) (suc i) k (λ j p q. later i j (omega arith) (omega arith)), keyed-span (suc i) k (omega arith))

pub unsound-none : (row : List ℕ) → size row < 1 → soundb row ≡ false
unfolding soundb
unsound-none row h = simp (lt-leb _ _ h)

pub unsound-many : (row : List ℕ) → 8 < size row → soundb row ≡ false
unfolding soundb
unsound-many row h = simp (le-leb 1 (size row) (omega arith), lt-leb _ _ h)

pub sound-keys : (row : List ℕ) → 1 ≤ size row → size row ≤ 8 → soundb row ≡ allb (size row - 1) (key_at row)
unfolding soundb
sound-keys row h k = simp (le-leb _ _ h, le-leb _ _ k)

pub key-rise : (row : List ℕ) → soundb row ≡ true → (k : ℕ) → k + 1 < size row → key_at row k ≡ true
key-rise row e k h = allb-at (key_at row) (size row - 1) (sym (sound-keys row (sound-some row e) (sound-few row e)) ∙ e) k (omega arith)

pub sound_keyed : (row : List ℕ) → soundb row ≡ true → Keyed (set_of row)
unfolding set_of soundb
sound_keyed row e =
    let a = and-true (leb 1 (size row)) _ e in
    let b = and-true (leb (size row) 8) (allb (size row - 1) (key_at row)) a.1 in
    keyed-span row (size row)
    (λ j h. subst (λ (i : ℕ). key_of row j < key_of row i) (add-one j) (ltb-true _ _ (allb-at (key_at row) (size row - 1) b.1 j (omega arith))))
    0 (size row) (omega arith)

-- and a row whose set has rising keys is sound
keyed-at : (row : List ℕ) (i k : ℕ) → Keyed (map pair (span row i k)) → (j : ℕ) → i ≤ j → suc j < i + k → key_of row j < key_of row (suc j)
keyed-at row i zero h j a b = absurd (omega arith)
keyed-at row i (suc zero) h j a b = absurd (omega arith)
keyed-at row i (suc (suc k)) h j a b =
    ⊎_elim (λ e. subst (λ (m : ℕ). key_of row m < key_of row (suc m)) e h.0.0)
    (λ l. keyed-at row (suc i) (suc k) h.1 j l (omega arith))
    (eq-or-lt_of_le a)

pub keyed-sound : (row : List ℕ) → 1 ≤ size row → size row ≤ 8 → Keyed (set_of row) → soundb row ≡ true
unfolding set_of soundb
keyed-sound row a b h =
    let t : allb (size row - 1) (key_at row) ≡ true = allb-yes (key_at row) (size row - 1) (λ j l. lt-ltb (key_of row j) (key_of row (j + 1)) (subst (λ (i : ℕ). key_of row j < key_of row i) (sym (add-one j)) (keyed-at row 0 (size row) h j (omega arith) (omega arith)))) in
    rw (le-leb 1 (size row) a, le-leb (size row) 8 b, t)

pub length-set-of : (row : List ℕ) → length (set_of row) ≡ size row
unfolding set_of
length-set-of row = length-map (span row 0 (size row)) pair ∙ span-length row 0 (size row)
