-- BETWEEN OUR OWN CRATES: serves inner contracts and proofs; nobody needs it to believe the public calls or the theorems.
-- The state after a line that collects from a map of sums or last values. Assumes nothing.
use Rattle.std.specs.Prelude.{ℕ, min, List, [], take, Float}
use Rattle.directory.specs.View.{Stores}
use Rattle.value_map.specs.Calls.{held}
use Rattle.listing.specs.Listed.{Output}
use Rattle.collecting.specs.Collected.{Collected, delta_collected, cumulative_collected}
use Rattle.singles.specs.Points.{as_words, single_lister}
use Rattle.replay_state.specs.declared.State.{State}
use Rattle.replay_state.specs.After.{single, field, collected_by}
use Rattle.replay_state.specs.Lines.{collected_as}
use Rattle.replay_singles.specs.Followed.{kind_of}

-- the output, as long as the line says, at most 66 points, whose bits are the first of its counts
abbrev pub output_in : State → List (List ℕ) → List ℕ → Output
output_in s sets counts =
    record { sets = take (min (field s 2) 66) sets; words = as_words (take (min (field s 2) 66) counts); pos = []; neg = [] }

abbrev pub listed : State → Collected (List Float) → State
listed s x = collected_by x.answer x.held.kept.dir s

unfoldable pub after_delta : State → Stores → List Float → Output → State
after_delta s d c o = listed s (delta_collected (single_lister (kind_of s)) tt s.limit (held s.dir d c) o)

unfoldable pub after_cumulative : State → Stores → List Float → Output → State
after_cumulative s d c o = listed s (cumulative_collected (single_lister (kind_of s)) tt s.limit (held s.dir d c) o)

-- a line that is no `c`, or is not of these kinds, leaves the state
abbrev pub after_collected : State → Stores → List Float → Output → State
after_collected s d c o = collected_as (single s.of) s (after_delta s d c o) (after_cumulative s d c o)
