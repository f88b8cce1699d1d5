-- Which rows hold a plain set, neither empty nor overflow. Assumes nothing.
use Prim.Native.Nat.{ℕ, zero, suc, ◌-◌, ◌≤◌, compare, Ordering}
use mathlib.Core.Path.{◌≡◌, refl, ap, ◌∙◌}
use mathlib.Core.Bool.{true, false, not}
use mathlib.Core.List.{List, [], ◌∷◌, map}
use native.Mathlib.Omega.{arith}
use lib.Dec.{compare_is_eq}
use lib.ListN.{get_or}
use Rattle.laws.proofs.Compare.{compare-eq, compare_self}
use Rattle.tally.specs.Sets.{overflow, three, same}
use Rattle.tally.specs.Map.{plain, bit}
use Rattle.sets.specs.Rows.{pair, size, span, set_of}
use Rattle.sets.proofs.Words.{cmp_words, cmp-words}

-- plain rows
over-words : (w : List ℕ) → same (map pair w) overflow ≡ compare_is_eq (cmp_words w (18446744069414584321 ∷ []))
over-words w = ap compare_is_eq (cmp-words w (18446744069414584321 ∷ []))

plain-words : (x : ℕ) (l : List ℕ) → plain (map pair (x ∷ l)) ≡ not (compare_is_eq (cmp_words (x ∷ l) (18446744069414584321 ∷ [])))
plain-words x l = ap not (over-words (x ∷ l))

two-other : (x y : ℕ) (l : List ℕ) → plain (map pair (x ∷ y ∷ l)) ≡ true
two-other x y l = plain-words x (y ∷ l) ∙ go (compare x 18446744069414584321)
  where
    go : (o : Ordering) → not (compare_is_eq (three o Ordering.lt Ordering.gt Ordering.gt)) ≡ true
    go Ordering.lt = refl
    go Ordering.eq = refl
    go Ordering.gt = refl

one-over : (x : ℕ) → x ≡ 18446744069414584321 → plain (map pair (x ∷ [])) ≡ false
one-over x e = plain-words x [] ∙ rw (ap (λ (y : ℕ). compare y 18446744069414584321) e ∙ compare_self 18446744069414584321)

one-other : (x : ℕ) → (x ≡ 18446744069414584321 → ⊥) → plain (map pair (x ∷ [])) ≡ true
one-other x n = plain-words x [] ∙ go (compare x 18446744069414584321) refl
  where
    go : (o : Ordering) → compare x 18446744069414584321 ≡ o → not (compare_is_eq (three o Ordering.lt Ordering.eq Ordering.gt)) ≡ true
    go Ordering.lt e = refl
    go Ordering.eq e = absurd (n (compare-eq _ _ e))
    go Ordering.gt e = refl

module _ (row : List ℕ) where
  pub plain_over : size row ≡ 1 → get_or row 0 0 ≡ 18446744069414584321 → bit (plain (set_of row)) ≡ 0
  unfolding set_of
  plain_over h e = ap bit (ap (λ (k : ℕ). plain (map pair (span row 0 k))) h ∙ one-over (get_or row 0 0) e)

  pub plain-one : size row ≡ 1 → (get_or row 0 0 ≡ 18446744069414584321 → ⊥) → bit (plain (set_of row)) ≡ 1
  unfolding set_of
  plain-one h e = ap bit (ap (λ (k : ℕ). plain (map pair (span row 0 k))) h ∙ one-other (get_or row 0 0) e)

  pub plain-many : 1 ≤ size row → (size row ≡ 1 → ⊥) → bit (plain (set_of row)) ≡ 1
  unfolding set_of
  plain-many h n =
      let z : size row ≡ suc (suc (size row - 2)) = two (size row) h n in
      ap bit (ap (λ (k : ℕ). plain (map pair (span row 0 k))) z ∙ two-other (get_or row 0 0) (get_or row 1 0) (span row 2 (size row - 2)))
    where
      two : (k : ℕ) → 1 ≤ k → (k ≡ 1 → ⊥) → k ≡ suc (suc (k - 2))
      two zero h n = absurd (omega arith)
      two (suc zero) h n = absurd (n refl)
      two (suc (suc k)) h n = omega arith
