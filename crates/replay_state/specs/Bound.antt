-- BETWEEN OUR OWN CRATES: serves inner contracts and proofs; nobody needs it to believe the public calls or the theorems.
-- The state after a line that binds or releases, and what is lent of a script's stores. Assumes nothing.
use Rattle.std.specs.Prelude.{ℕ, List, eqb, take}
use Rattle.std.proofs.Math.Option.{Option}
use Rattle.laws.specs.Pick.{pick}
use Rattle.tally.specs.Sets.{Set}
use Rattle.sets.specs.Sorted.{given, filter_of}
use Rattle.directory.specs.View.{Stores}
use Rattle.bindings.specs.Calls.{Outcome, bound, released}
use Rattle.replay_state.specs.declared.State.{State}
use Rattle.replay_state.specs.After.{field, done_by}

-- the directory's stores, as long as a line `m` says
abbrev pub lent_stores : State → List (List ℕ) → List (List ℕ) → List ℕ → Stores
lent_stores s sets entries order =
    record { sets = take s.entries sets; entries = take s.entries entries; order = take s.entries order }

-- the filter that was configured
abbrev pub filter_in : State → Option (List ℕ)
filter_in s = filter_of s.filtered (take s.keys s.filter)

-- the attributes of a line, whose second field says how many they are
abbrev pub given_in : State → List (List ℕ) → Set
given_in s attrs = given (take (field s 2) attrs)

abbrev pub after : State → Outcome → State
after s o = done_by o.answer o.kept.dir s

-- `b` binds the line's set, and any other line releases its handle
unfoldable pub after_bound : State → Set → Stores → State
after_bound s attrs d =
    pick (eqb s.letter 98) (after s (bound s.limit (filter_in s) s.dir d attrs)) (after s (released s.limit s.dir d (field s 1)))
