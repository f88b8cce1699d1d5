-- The points of slots read back from lent output as the points of their series. Assumes nothing.
use Prim.Native.Nat.{ℕ, ◌+◌}
use mathlib.Core.Path.{◌≡◌, refl, ap, ◌∙◌}
use mathlib.Core.List.{List, [], ◌∷◌}
use mathlib.Core.Option.{none, some}
use native.Mathlib.Omega.{arith}
use Rattle.floats.specs.Answers.{bits_of}
use Rattle.collecting.specs.Slots.{behind_at}
use Rattle.collecting.proofs.Owed.{Finds, Lists}
use Rattle.singles.specs.declared.Aggregation.{Aggregation}
use Rattle.singles.specs.Points.{single_lister}
use Rattle.singles.proofs.Owes.{was-is}

finds : (a : Aggregation) (b : ℕ) → Finds (single_lister a).found (b ∷ []) [] [] b
finds a b at o l =
    let p : at.pos ≡ at.pos + 0 = omega arith in
    let n : at.neg ≡ at.neg + 0 = omega arith in
    ap (λ (ws : List ℕ). elim ws [ [] ↦ none | x ∷ xs ↦ some (x, record { place = at.place + 1; pos = at.pos; neg = at.neg }) ]) l.words
    ∙ (λ j. some (b, record { place = at.place + 1; pos = p j; neg = n j }))

pub lists : (a : Aggregation) → Lists (single_lister a) tt
lists a c x u on l r s =
    record {
      found = λ at o h. finds a (bits_of _) at o h ∙ ap (λ (b : ℕ). some (b, behind_at at 0 0)) (ap bits_of (was-is a c x u));
      pos = refl;
      neg = refl;
    }
