-- BETWEEN OUR OWN CRATES: serves inner contracts and proofs; nobody needs it to believe the public calls or the theorems.
-- The state after a line with many values, for any kind's store. Assumes nothing.
use Rattle.std.specs.Prelude.{ℕ, Bool, List, eqb, take}
use Rattle.laws.specs.Pick.{pick}
use Rattle.many.specs.Many.{Many}
use Rattle.tally.specs.Kind.{Kind}
use Rattle.tally.specs.Sets.{Set}
use Rattle.directory.specs.View.{Stores}
use Rattle.directory.specs.declared.Directory.{Directory}
use Rattle.value_map.specs.Store.{Store}
use Rattle.value_map.specs.Calls.{Held, held}
use Rattle.batches.specs.Batch.{measured_all, measured_all_by}
use Rattle.replay_state.specs.declared.State.{State}
use Rattle.replay_state.specs.After.{field, answered, refused}
use Rattle.replay_state.specs.Bound.{filter_in}

-- it tells how many values were taken, with the number that refused the next one and the directory that is left
abbrev pub batched_in : ℕ → ℕ → Directory → State → State
batched_in taken n dir s = answered s (refused n) taken dir s.handles s.start s.listed s.collected

abbrev pub batched : {Cells : Type 0} → State → Many (Held Cells) → State
batched s m = batched_in m.taken m.no m.left.kept.dir s

-- the values of a line: field k says how many they are
abbrev pub list_in : {A : Type 0} → State → ℕ → List A → List A
list_in s k values = take (field s k) values

-- by a line's letter, after `R` and `H`; any other, and a line that is not of the crate's kinds, leaves the state
unfoldable pub batched_as : Bool → State → State → State → State
batched_as mine s r h = pick mine (pick (eqb s.letter 82) r (pick (eqb s.letter 72) h s)) s

module _ {K : Kind} (S : Store K) where
  -- `R`: the values in its first field, the set in its second
  unfoldable pub after_all : State → List K.Value → Set → Stores → S.Cells → State
  after_all s vs attrs d c = batched s (measured_all S s.limit (filter_in s) (held s.dir d c) vs attrs)

  -- `H`: the birth number in its first field, the values in its second
  unfoldable pub after_all_by : State → List K.Value → Stores → S.Cells → State
  after_all_by s vs d c = batched s (measured_all_by S s.limit (held s.dir d c) vs (field s 1))

  -- any line, if it is of the crate's kinds
  abbrev pub after_batch : Bool → State → List K.Value → Set → Stores → S.Cells → State
  after_batch mine s values attrs d c = batched_as mine s (after_all s (list_in s 1 values) attrs d c) (after_all_by s (list_in s 2 values) d c)
