-- BETWEEN OUR OWN CRATES: serves inner contracts and proofs; nobody needs it to believe the public calls or the theorems.
-- The state after a line that collects from a map of the explicit kind over i64. Assumes nothing.
use Rattle.std.specs.Prelude.{List, eqb, Float}
use Rattle.directory.specs.View.{Stores}
use Rattle.explicit_whole_slots.specs.Cells.{Cells}
use Rattle.value_map.specs.Calls.{held}
use Rattle.listing.specs.Listed.{Output}
use Rattle.collecting.specs.Collected.{Collected, delta_collected, cumulative_collected}
use Rattle.explicit_whole_collection.specs.Points.{explicit_whole_lister}
use Rattle.replay_state.specs.declared.State.{State}
use Rattle.replay_state.specs.After.{collected_by}
use Rattle.replay_state.specs.Lines.{collected_as}
use Rattle.replay_explicit.specs.Followed.{bounds_in}

abbrev pub listed : State → Collected Cells → State
listed s x = collected_by x.answer x.held.kept.dir s

unfoldable pub after_delta : State → List Float → Stores → Cells → Output → State
after_delta s bounds d c o =
    listed s (delta_collected (explicit_whole_lister (bounds_in s bounds) s.sums) s.extremes s.limit (held s.dir d c) o)

unfoldable pub after_cumulative : State → List Float → Stores → Cells → Output → State
after_cumulative s bounds d c o =
    listed s (cumulative_collected (explicit_whole_lister (bounds_in s bounds) s.sums) s.extremes s.limit (held s.dir d c) o)

-- a line that is no `c`, or is not of this kind, leaves the state
abbrev pub after_collected : State → List Float → Stores → Cells → Output → State
after_collected s bounds d c o = collected_as (eqb s.of 88) s (after_delta s bounds d c o) (after_cumulative s bounds d c o)
