-- The attributes of a set's row, as they are printed. Assumes nothing.
use Prim.Native.Nat.{ℕ, ◌+◌, ◌<◌, min}
use mathlib.Core.Path.{◌≡◌, ap, ◌∙◌}
use mathlib.Core.List.{List, [], ◌∷◌, map}
use native.Mathlib.Omega.{arith}
use lib.ListN.{length, get_or, take, length-take, length-map, get_or-map}
use lib.Seq.{get_or-take}
use Rattle.sets.specs.Rows.{pair, size, span, set_of}
use Rattle.sets.proofs.Spans.{span-length, span-at}
use Rattle.printing.specs.Fields.{joined, listed, attribute_field, set_field}
use Rattle.printing.proofs.Putting.{listed-some}

-- those of a row: at most eight
abbrev pub eight : List ℕ → List (ℕ × ℕ)
eight row = take 8 (set_of row)

module _ (row : List ℕ) where
  many : length (set_of row) ≡ size row
  unfolding set_of
  many = length-map (span row 0 (size row)) pair ∙ span-length row 0 (size row)

  pub eight-length : length (eight row) ≡ min 8 (size row)
  eight-length = length-take 8 (set_of row) ∙ ap (min 8) many

  pub eight-at : (i : ℕ) → i < 8 → i < size row → get_or (eight row) i (pair 0) ≡ pair (get_or row i 0)
  unfolding set_of
  eight-at i h l =
      let z : 0 + i ≡ i = omega arith in
      get_or-take 8 (set_of row) i (pair 0) h
      ∙ get_or-map pair (span row 0 (size row)) i 0
      ∙ ap pair (span-at row 0 (size row) i l ∙ ap (λ (k : ℕ). get_or row k 0) z)

  pub field-none : size row ≡ 0 → set_field (eight row) ≡ 45 ∷ []
  unfolding set_field set_of listed
  field-none h = ap (λ (k : ℕ). listed (map attribute_field (take 8 (map pair (span row 0 k))))) h

  pub field-some : (size row ≡ 0 → ⊥) → joined 44 (map attribute_field (eight row)) ≡ set_field (eight row)
  unfolding set_field
  field-some h = listed-some attribute_field (eight row) (omega (arith, eight-length, h))
