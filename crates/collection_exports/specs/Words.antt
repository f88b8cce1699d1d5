-- BETWEEN OUR OWN CRATES: serves inner contracts and proofs; nobody needs it to believe the public calls or the theorems.
-- A collection's outcome as it is handed to programs in other languages. Assumes nothing.
use Rattle.std.specs.Prelude.{ℕ, List, set}
use Rattle.laws.specs.Said.{Said, refusal, success, number}
use Rattle.directory.specs.View.{Stores}
use Rattle.listing.specs.Listed.{Output}
use Rattle.collecting.specs.Collected.{Collected}
use Rattle.map_words.specs.Words.{words_of}

-- how many points lie in the output
abbrev pub points_in : Said ℕ → ℕ
points_in (refusal n) = 0
points_in (success n) = n

-- document 01's number, how many points there are, and the lent output
pub record Listed : Type 0 where
  pub number : ℕ
  pub points : List ℕ
  pub out : Output

-- and, of a call that resets, the lent state and stores
pub record Handed : Type 0 where
  pub listed : Listed
  pub state : List (List ℕ)
  pub stores : Stores

-- as a contract writes them
abbrev pub listed : ℕ → List ℕ → Output → Listed
listed n points o = record { number = n; points = points; out = o }

abbrev pub handed : ℕ → List (List ℕ) → List ℕ → Stores → Output → Handed
handed n state points s o = record { listed = listed n points o; state = state; stores = s }

abbrev pub listed_out : {Cells : Type 0} → List ℕ → Collected Cells → Listed
listed_out points c = record { number = number c.answer; points = set points 0 (points_in c.answer); out = c.out }

abbrev pub handed_out : {Cells : Type 0} → List (List ℕ) → List ℕ → Collected Cells → Handed
handed_out state points c =
    record { listed = listed_out points c; state = set state 0 (words_of c.held.kept.dir); stores = c.held.kept.stores }
