-- Bytes gathered one after another. Assumes nothing.
use Prim.Native.Nat.{ℕ, ◌+◌, ◌≤◌, ◌<◌}
use mathlib.Core.Path.{◌≡◌, refl, sym, ap, ◌∙◌}
use mathlib.Core.List.{List, [], ◌∷◌, ◌++◌}
use lib.ListN.{length, get_or, drop, drop_of_length-le}
use Rattle.text.proofs.Spelling.{from-here}
use Rattle.lines.specs.Gathered.{Text, ◌behind◌}

module _ (bs : List ℕ) (i : ℕ) (t : Text) where
  pub behind-turn : i < length bs → drop i bs behind t ≡ drop (i + 1) bs behind get_or bs i 0 ∷ [] behind t
  unfolding ◌behind◌
  behind-turn h = ap (λ (r : List ℕ). r behind t) (from-here i bs h)

  pub behind-none : length bs ≤ i → drop i bs behind t ≡ t
  unfolding ◌behind◌
  behind-none h = ap (λ (r : List ℕ). r behind t) (drop_of_length-le bs h)

pub behind_append : (xs ys : List ℕ) (t : Text) → xs ++ ys behind t ≡ ys behind xs behind t
unfolding ◌behind◌
behind_append [] ys t = refl
behind_append (x ∷ xs) ys t = behind_append xs ys _

-- two texts put one behind the other
pub then : (xs ys : List ℕ) (t : Text) {u v : Text} → u ≡ (xs behind t) → v ≡ (ys behind u) → v ≡ (xs ++ ys behind t)
then xs ys t p q = q ∙ ap (λ (w : Text). ys behind w) p ∙ sym (behind_append xs ys t)

-- a text by another spelling of its bytes
pub spelt : {xs ys : List ℕ} → xs ≡ ys → (t : Text) {u : Text} → u ≡ (xs behind t) → u ≡ (ys behind t)
spelt p t e = e ∙ ap (λ (r : List ℕ). r behind t) p
