-- BETWEEN OUR OWN CRATES: serves inner contracts and proofs; nobody needs it to believe the public calls or the theorems.
-- A call's outcome as it is handed to programs in other languages. Assumes nothing.
use Rattle.std.specs.Prelude.{ℕ, List, [], ◌∷◌, get_or, set}
use Rattle.laws.specs.Said.{number}
use Rattle.directory.specs.declared.Directory.{Directory}
use Rattle.directory.specs.View.{Stores}
use Rattle.value_map.specs.Calls.{Outcome}

-- the directory's state as three words: slots used, the map's count, the last birth number spent
abbrev pub state_of : List ℕ → Directory
state_of l = record { used = get_or l 0 0; count = get_or l 1 0; last = get_or l 2 0 }

abbrev pub words_of : Directory → List ℕ
words_of d = d.used ∷ d.count ∷ d.last ∷ []

-- document 01's number of the answer, the lent state, and the lent stores, for any kind's cells
pub record Handed (Cells : Type 0) : Type 0 where
  pub number : ℕ
  pub state : List (List ℕ)
  pub stores : Stores
  pub cells : Cells

-- as a contract writes it
abbrev pub handed : {Cells : Type 0} → ℕ → List (List ℕ) → Stores → Cells → Handed Cells
handed n state s x = record { number = n; state = state; stores = s; cells = x }

abbrev pub handed_out : {Cells : Type 0} → List (List ℕ) → Outcome Cells → Handed Cells
handed_out state o =
    record {
      number = number o.answer;
      state = set state 0 (words_of o.held.kept.dir);
      stores = o.held.kept.stores;
      cells = o.held.cells;
    }
