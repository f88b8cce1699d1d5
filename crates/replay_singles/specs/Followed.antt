-- BETWEEN OUR OWN CRATES: serves inner contracts and proofs; nobody needs it to believe the public calls or the theorems.
-- The state after a line of a map of sums or last values that configures, records, binds or releases. Assumes nothing.
use Rattle.std.specs.Prelude.{List, eqb, take, drop, Float}
use Rattle.std.specs.Float.{binary64}
use Rattle.std.specs.Float.Ieee.{of_bits}
use Rattle.laws.specs.Pick.{pick}
use Rattle.laws.specs.Said.{Said, refusal, success}
use Rattle.tally.specs.Sets.{Set}
use Rattle.sets.specs.Sorted.{filter_of}
use Rattle.directory.specs.View.{Stores}
use Rattle.value_map.specs.Calls.{Outcome, held, measured, measured_by}
use Rattle.singles.specs.Stores.{single_store}
use Rattle.singles.specs.Configured.{configured}
use Rattle.singles.specs.declared.Aggregation.{Aggregation}
use Rattle.singles.specs.declared.Aggregation.TheVariants.{Sum, LastValue}
use Rattle.singles.specs.declared.Setup.{Setup}
use Rattle.replay_state.specs.declared.State.{State}
use Rattle.replay_state.specs.After.{single, field, not_begun, newly_begun, done_by}
use Rattle.replay_state.specs.Bound.{filter_in, after_bound}
use Rattle.replay_state.specs.Lines.{followed_by}

-- of which of the two kinds the map of a line is
abbrev pub kind_of : State → Aggregation
kind_of s = pick (eqb s.of 115) Sum LastValue

-- the values, which lie behind the bounds, as long as a line `m` says
abbrev pub values_in : State → List Float → List Float
values_in s bounds = take s.entries (drop 2200 bounds)

-- ---- configuring

abbrev pub configured_by : Said Setup → State → State
configured_by (refusal n) s = not_begun n s
configured_by (success u) s = newly_begun 0 u.dir s

-- with the filter that waits
unfoldable pub after_configured : State → Stores → List Float → State
after_configured s d c =
    configured_by (configured (kind_of s) (field s 6) (filter_of s.next_filtered (take s.next_keys s.next_filter)) d c).answer s

-- ---- recording

abbrev pub recorded : State → Outcome (List Float) → State
recorded s o = done_by o.answer o.held.kept.dir s

unfoldable pub after_measured : State → Set → Stores → List Float → State
after_measured s attrs d c =
    recorded s (measured (single_store (kind_of s)) s.limit (filter_in s) (held s.dir d c) (of_bits binary64 (field s 1)) attrs)

unfoldable pub after_measured_by : State → Stores → List Float → State
after_measured_by s d c =
    recorded s (measured_by (single_store (kind_of s)) s.limit (held s.dir d c) (of_bits binary64 (field s 2)) (field s 1))

-- ---- any line

-- by its letter; a line that is not of these kinds leaves the state
abbrev pub after_followed : State → Set → Stores → List Float → State
after_followed s attrs d c =
    followed_by (single s.of) s.letter (after_configured s d c) (after_measured s attrs d c) (after_measured_by s d c)
    (after_bound s attrs d) s
