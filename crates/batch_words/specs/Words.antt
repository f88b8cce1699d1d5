-- BETWEEN OUR OWN CRATES: serves inner contracts and proofs; nobody needs it to believe the public calls or the theorems.
-- What many values left, as it is handed to programs in other languages. Assumes nothing.
use Rattle.std.specs.Prelude.{ℕ, List, set}
use Rattle.directory.specs.View.{Stores}
use Rattle.value_map.specs.Calls.{Held}
use Rattle.map_words.specs.Words.{words_of}
use Rattle.many.specs.Many.{Many}

-- document 01's number that refused a value (0: none was refused), how many were taken before it, the lent state, and the lent stores, for any
-- kind's cells
pub record Handed (Cells : Type 0) : Type 0 where
  pub number : ℕ
  pub taken : List ℕ
  pub state : List (List ℕ)
  pub stores : Stores
  pub cells : Cells

-- as a contract writes it
abbrev pub handed : {Cells : Type 0} → ℕ → List ℕ → List (List ℕ) → Stores → Cells → Handed Cells
handed n taken state s x = record { number = n; taken = taken; state = state; stores = s; cells = x }

abbrev pub handed_out : {Cells : Type 0} → List ℕ → List (List ℕ) → Many (Held Cells) → Handed Cells
handed_out taken state m =
    record {
      number = m.no;
      taken = set taken 0 m.taken;
      state = set state 0 (words_of m.left.kept.dir);
      stores = m.left.kept.stores;
      cells = m.left.cells;
    }
