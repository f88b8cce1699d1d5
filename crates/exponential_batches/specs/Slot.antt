-- BETWEEN OUR OWN CRATES: serves inner contracts and proofs; nobody needs it to believe the public calls or the theorems.
-- A series as the code holds it, read from a slot and put there. Assumes nothing.
use Rattle.std.specs.Prelude.{ℕ, Bool, List, [], ◌∷◌, set, Float}
use Rattle.rows.specs.Parts.{part_at, put_at}
use Rattle.exponential.specs.declared.Head.{Head}
use Rattle.exponential.specs.Inner.{Series}
use Rattle.exponential_slots.specs.Cells.{Cells, head_at, words_of}

abbrev pub load : ℕ → ℕ → Cells → ℕ → Bool → Series
load size top c x u = record { head = head_at top c x u; pos = part_at size c.pos x; neg = part_at size c.neg x }

abbrev pub extremes_of : Head → List Float
extremes_of h = h.min ∷ h.max ∷ h.sum ∷ []

abbrev pub put : ℕ → Cells → ℕ → Series → Cells
put size c x s =
    record {
      figures = set c.figures x (words_of s.head.counts);
      extremes = set c.extremes x (extremes_of s.head);
      pos = put_at size c.pos x s.pos;
      neg = put_at size c.neg x s.neg;
    }
