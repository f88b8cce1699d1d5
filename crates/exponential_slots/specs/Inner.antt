-- BETWEEN OUR OWN CRATES: serves inner contracts and proofs; nobody needs it to believe the public calls or the theorems.
-- The head's two stores after a value was recorded into slot x, or refused. Assumes nothing.
use Rattle.std.specs.Prelude.{ℕ, List, [], ◌∷◌, set, Float}
use Rattle.laws.specs.Said.{Said, refusal, success}
use Rattle.exponential.specs.declared.Head.{Head}
use Rattle.exponential_slots.specs.Cells.{words_of}

abbrev pub figures_after : ℕ → List (List ℕ) → Said Head → List (List ℕ)
figures_after x figures (refusal n) = figures
figures_after x figures (success h) = set figures x (words_of h.counts)

abbrev pub extremes_after : ℕ → List (List Float) → Said Head → List (List Float)
extremes_after x extremes (refusal n) = extremes
extremes_after x extremes (success h) = set extremes x (h.min ∷ h.max ∷ h.sum ∷ [])
