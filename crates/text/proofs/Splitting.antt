-- Fields of a line, found byte by byte. Assumes nothing.
use Rattle.std.proofs.Common.{◌≡◌, ℕ, zero, suc, ◌+◌, ◌-◌, ◌<◌, ◌≤◌, Bool, true, false, eqb, List, [], ◌∷◌, length, get_or, take, drop, refl, ap, ◌∙◌, arith, drop_of_length-le, eq-eqb, ne_eqb}
use Rattle.laws.specs.Pick.{pick}
use Rattle.laws.proofs.Bools.{pick_true, pick-false}
use Rattle.text.specs.Fields.{space, spaces_of, until, start_of}
use Rattle.text.proofs.Spelling.{from-here}

pub start-here : (xs : List ℕ) → start_of xs 0 ≡ 0
unfolding start_of
start-here [] = refl
start-here (b ∷ bs) = refl

-- no byte is left
pub start_none : (line : List ℕ) (i k : ℕ) → length line ≤ i → start_of (drop i line) k ≡ 0
unfolding start_of
start_none line i k h = rw (drop_of_length-le line h) refl

pub start-turn : (line : List ℕ) (i left : ℕ) → i < length line → 0 < left → start_of (drop i line) left ≡ suc (start_of (drop (i + 1) line) (left - space (get_or line i 0)))
unfolding start_of
start-turn line i zero h l = absurd (omega arith)
start-turn line i (suc k) h l = ap (λ (xs : List ℕ). start_of xs (suc k)) (from-here i line h)

pub spaces-turn : (line : List ℕ) (i : ℕ) → i < length line → spaces_of (drop i line) ≡ space (get_or line i 0) + spaces_of (drop (i + 1) line)
unfolding spaces_of
spaces-turn line i h = ap spaces_of (from-here i line h)

pub spaces-none : (line : List ℕ) (i : ℕ) → length line ≤ i → spaces_of (drop i line) ≡ 0
unfolding spaces_of
spaces-none line i h = rw (drop_of_length-le line h) refl

module _ (s : ℕ) (line : List ℕ) (i : ℕ) where
  pub until-turn : i < length line → (get_or line i 0 ≡ s → ⊥) → length (until s (drop i line)) ≡ suc (length (until s (drop (i + 1) line)))
  unfolding until
  until-turn h n =
      ap (λ (xs : List ℕ). length (until s xs)) (from-here i line h)
      ∙ ap length (pick-false _ _ _ (ne_eqb (get_or line i 0) s n))

  pub until_stop : i < length line → get_or line i 0 ≡ s → length (until s (drop i line)) ≡ 0
  unfolding until
  until_stop h e =
      ap (λ (xs : List ℕ). length (until s xs)) (from-here i line h)
      ∙ ap length (pick_true _ _ _ (eq-eqb (get_or line i 0) s e))

  pub until_none : length line ≤ i → length (until s (drop i line)) ≡ 0
  unfolding until
  until_none h = rw (drop_of_length-le line h) refl

until-pick : (s b : ℕ) (bs : List ℕ) → take (length (until s bs)) bs ≡ until s bs → (t : Bool) → take (length (pick t [] (b ∷ until s bs))) (b ∷ bs) ≡ pick t [] (b ∷ until s bs)
unfolding pick
until-pick s b bs ih true = refl
until-pick s b bs ih false = ap (λ (r : List ℕ). b ∷ r) ih

pub until-is : (s : ℕ) (xs : List ℕ) → take (length (until s xs)) xs ≡ until s xs
unfolding until
until-is s [] = refl
until-is s (b ∷ bs) = until-pick s b bs (until-is s bs) (eqb b s)
