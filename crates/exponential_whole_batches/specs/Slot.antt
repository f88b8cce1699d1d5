-- BETWEEN OUR OWN CRATES: serves inner contracts and proofs; nobody needs it to believe the public calls or the theorems.
-- A series over i64 as the code holds it, read from a slot and put there. Assumes nothing.
use Rattle.std.specs.Prelude.{ℕ, Bool, true, List, [], ◌∷◌, ℤ, pos, set}
use Rattle.laws.specs.Pick.{pick}
use Rattle.rows.specs.Parts.{part_at, put_at}
use Rattle.points.specs.Counts.{exponential}
use Rattle.kinds.specs.Any.{counts_hold}
use Rattle.exponential_wholes.specs.declared.Head.{Head}
use Rattle.exponential_slots.specs.Cells.{words_of}
use Rattle.exponential_slots.specs.Meaning.{counts_at}
use Rattle.exponential_whole_slots.specs.Cells.{Cells, head_at}
use Rattle.whole_map.specs.Exponential.{exponential_wholes}
use Rattle.batches.specs.Asked.{Asked}
use Rattle.exponential_whole_batches.specs.Series.{Series}

abbrev pub load : ℕ → ℕ → Cells → ℕ → Bool → Series
load size top c x u = record { head = head_at top c x u; pos = part_at size c.pos x; neg = part_at size c.neg x }

abbrev pub extremes_of : Head → List ℤ
extremes_of h = h.min ∷ h.max ∷ h.sum ∷ []

abbrev pub put : ℕ → Cells → ℕ → Series → Cells
put size c x s =
    record {
      figures = set c.figures x (words_of s.head.counts);
      extremes = set c.extremes x (extremes_of s.head);
      pos = put_at size c.pos x s.pos;
      neg = put_at size c.neg x s.neg;
    }

-- the series of a slot's words and rows agrees, where one is held
unfoldable pub agrees_at : ℕ → ℕ → Bool → List ℕ → List ℕ → List ℕ → Bool
agrees_at size top updated f xs ys = pick updated (counts_hold (exponential size top) (counts_at size f xs ys)) true

-- what a caller of the slot has asked: its place, the settings, the first value, and where it is known the series
abbrev pub Asks : Bool → ℕ → ℕ → Bool → ℕ → Bool → Cells → List ℤ → Type 0
Asks known size top sums x u c vs = Asked (exponential_wholes size top sums) true (pos 0) known x u c vs
