-- Number 12 of a count store, without the product, and of all stores of a kind by the least of them; stores that suffice have each slot.
-- Assumes nothing.
use Prim.Native.Nat.{ℕ, zero, suc, ◌+◌, ◌*◌, ◌/◌, ◌≤◌, ◌<◌, min}
use mathlib.Core.Path.{◌≡◌, sym, ◌∙◌}
use mathlib.Core.Logic.{⊎_elim}
use mathlib.Core.Bool.{Bool, true, false, ◌&&◌}
use mathlib.Core.List.{List, [], ◌∷◌}
use native.Mathlib.Nat.{le-div_iff_mul-le}
use native.Mathlib.Omega.{arith}
use lib.Dec.{leb}
use lib.ListN.{length, get_or}
use borrow.Author.Tests.{le-leb, lt-leb, leb-true, leb-false}
use Rattle.laws.specs.Tests.{all}
use Rattle.laws.proofs.Bools.{flag}
use Rattle.laws.proofs.Cases.{and-true}
use Rattle.rows.proofs.Parts.{within}
use Rattle.seats.proofs.Least.{both_suffice, one_less}
use Rattle.value_map.specs.Store.{lengths_suffice}

pub rows_none : (limit n length : ℕ) → n ≡ 0 → true ≡ leb ((limit + 2) * n) length
rows_none limit n length e = sym (le-leb ((limit + 2) * n) length (rw e (omega arith)))

pub rows-many : (limit n length : ℕ) → (n ≡ 0 → ⊥) → leb (limit + 2) (length / n) ≡ leb ((limit + 2) * n) length
rows-many limit n length d =
    let p : 0 < n = omega (arith, d) in
    let w = le-div_iff_mul-le {k = n} {x = limit + 2} {y = length} p in
    ⊎_elim
    (λ (e : leb (limit + 2) (length / n) ≡ true). e ∙ sym (le-leb ((limit + 2) * n) length (w.0 (leb-true (limit + 2) (length / n) e))))
    (λ (e : leb (limit + 2) (length / n) ≡ false).
    e ∙ sym (not-le ((limit + 2) * n) length (λ h. let a = w.1 h in let b = leb-false (limit + 2) (length / n) e in omega arith)))
    (flag (leb (limit + 2) (length / n)))
  where
    not-le : (a b : ℕ) → (a ≤ b → ⊥) → leb a b ≡ false
    not-le a b h = lt-leb a b (omega (arith, h))

-- two stores of a and b entries, and count stores that the test t is of: those without counts, and those that have room for m slots
module _ (limit a b : ℕ) (t : Bool) where
  two : (leb (limit + 2) a && leb (limit + 2) b) ≡ all (leb (limit + 2)) (a ∷ b ∷ [])
  two = λ i. leb (limit + 2) a && one_less (leb (limit + 2) b) i

  pub least-none : true ≡ t → leb (limit + 2) (min a b) ≡ (all (leb (limit + 2)) (a ∷ b ∷ []) && t)
  least-none e = both_suffice a b (limit + 2) ∙ two ∙ one_less (all (leb (limit + 2)) (a ∷ b ∷ [])) ∙ (λ i. all (leb (limit + 2)) (a ∷ b ∷ []) && e i)

  pub least-many : (m : ℕ) → leb (limit + 2) m ≡ t → leb (limit + 2) (min (min a b) m) ≡ (all (leb (limit + 2)) (a ∷ b ∷ []) && t)
  least-many m e = both_suffice (min a b) m (limit + 2) ∙ (λ i. (both_suffice a b (limit + 2) ∙ two) i && e i)

-- ---- slot x of stores that suffice lies in each of them

all-at : (p : ℕ → Bool) (l : List ℕ) → all p l ≡ true → (k : ℕ) → k < length l → p (get_or l k 0) ≡ true
all-at p [] e k b = absurd (omega arith)
all-at p (y ∷ l) e zero b = (and-true (p y) (all p l) e).0
all-at p (y ∷ l) e (suc k) b = all-at p l (and-true (p y) (all p l) e).1 k (omega arith)

module _ (n limit x : ℕ) (counts others : List ℕ) (e : lengths_suffice n limit counts others ≡ true) (h : x ≤ limit + 1) where
  pub entry_in : (k : ℕ) → k < length others → x < get_or others k 0
  entry_in k b =
      let t = leb-true (limit + 2) (get_or others k 0) (all-at (leb (limit + 2)) others (and-true (all (leb (limit + 2)) others) _ e).0 k b) in
      omega (arith, h, t)

  pub counts_in_lem : (k : ℕ) → k < length counts → x * n + n ≤ get_or counts k 0
  counts_in_lem k b =
      within x (limit + 2) n (get_or counts k 0) (omega (arith, h))
      (leb-true ((limit + 2) * n) (get_or counts k 0) (all-at (leb ((limit + 2) * n)) counts (and-true (all (leb (limit + 2)) others) _ e).1 k b))
