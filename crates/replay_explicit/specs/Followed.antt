-- BETWEEN OUR OWN CRATES: serves inner contracts and proofs; nobody needs it to believe the public calls or the theorems.
-- The state after a line of a map of the explicit kind that configures, records, binds or releases. Assumes nothing.
use Rattle.std.specs.Prelude.{ℕ, min, List, eqb, take, drop, Float}
use Rattle.std.specs.Float.{binary64}
use Rattle.std.specs.Float.Ieee.{of_bits}
use Rattle.laws.specs.Said.{Said, refusal, success}
use Rattle.tally.specs.Sets.{Set}
use Rattle.sets.specs.Sorted.{filter_of}
use Rattle.directory.specs.View.{Stores}
use Rattle.explicit_slots.specs.Cells.{Cells}
use Rattle.value_map.specs.Calls.{Outcome, held, measured, measured_by}
use Rattle.value_map.specs.Explicit.{explicit_store}
use Rattle.explicit_collection.specs.Configured.{configured}
use Rattle.explicit_collection.specs.declared.Setup.{Setup}
use Rattle.replay_state.specs.declared.State.{State}
use Rattle.replay_state.specs.After.{field, not_begun, newly_begun, done_by}
use Rattle.replay_state.specs.Bound.{filter_in, after_bound}
use Rattle.replay_state.specs.Lines.{followed_by}

-- of the store of bounds the first part, of 200 at most: those that wait for the next `n`
abbrev pub waiting_in : State → List Float → List Float
waiting_in s bounds = take (min s.next_bounds 200) bounds

-- and the second: those that were configured
abbrev pub bounds_in : State → List Float → List Float
bounds_in s bounds = take (min s.bounds 200) (drop 200 bounds)

-- the series' stores, as long as a line `m` says; the totals lie behind the negative counts, which this kind has no use for
abbrev pub cells_in : State → List ℕ → List (List Float) → List ℕ → Cells
cells_in s neg extremes pos =
    record {
      totals = take s.entries (drop 10560 neg);
      extremes = take s.entries extremes;
      counts = take s.counts pos;
    }

-- ---- configuring

abbrev pub configured_by : Said Setup → State → State
configured_by (refusal n) s = not_begun n s
configured_by (success u) s = newly_begun 0 u.dir s

-- with the bounds and the filter that wait
unfoldable pub after_configured : State → List Float → Stores → Cells → State
after_configured s bounds d c =
    configured_by
    (configured (waiting_in s bounds) (eqb (field s 8) 49) (eqb (field s 9) 49) (field s 6)
    (filter_of s.next_filtered (take s.next_keys s.next_filter)) d c).answer s

-- ---- recording

abbrev pub recorded : State → Outcome Cells → State
recorded s o = done_by o.answer o.held.kept.dir s

unfoldable pub after_measured : State → List Float → Set → Stores → Cells → State
after_measured s bounds attrs d c =
    recorded s
    (measured (explicit_store (bounds_in s bounds)) s.limit (filter_in s) (held s.dir d c) (of_bits binary64 (field s 1)) attrs)

unfoldable pub after_measured_by : State → List Float → Stores → Cells → State
after_measured_by s bounds d c =
    recorded s (measured_by (explicit_store (bounds_in s bounds)) s.limit (held s.dir d c) (of_bits binary64 (field s 2)) (field s 1))

-- ---- any line

-- by its letter; a line that is not of this kind, `x`, leaves the state
abbrev pub after_followed : State → List Float → Set → Stores → Cells → State
after_followed s bounds attrs d c =
    followed_by (eqb s.of 120) s.letter (after_configured s bounds d c) (after_measured s bounds attrs d c)
    (after_measured_by s bounds d c) (after_bound s attrs d) s
