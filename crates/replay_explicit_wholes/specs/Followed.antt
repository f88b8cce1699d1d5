-- BETWEEN OUR OWN CRATES: serves inner contracts and proofs; nobody needs it to believe the public calls or the theorems.
-- The state after a line of a map of the explicit kind over i64 that configures, records, binds or releases. Assumes nothing.
use Rattle.std.specs.Prelude.{ℕ, List, eqb, take, drop, ℤ, Float}
use Rattle.tally.specs.Sets.{Set}
use Rattle.sets.specs.Sorted.{filter_of}
use Rattle.directory.specs.View.{Stores}
use Rattle.explicit_whole_slots.specs.Cells.{Cells}
use Rattle.value_map.specs.Calls.{Outcome, held, measured, measured_by}
use Rattle.whole_map.specs.Explicit.{explicit_wholes}
use Rattle.integers.specs.Answers.{of_bits}
use Rattle.explicit_whole_collection.specs.Configured.{configured}
use Rattle.replay_state.specs.declared.State.{State}
use Rattle.replay_state.specs.After.{field, done_by}
use Rattle.replay_state.specs.Bound.{filter_in, after_bound}
use Rattle.replay_state.specs.Lines.{followed_by}
use Rattle.replay_explicit.specs.Followed.{waiting_in, bounds_in, configured_by}

-- the series' stores, as long as a line `m` says; the totals lie behind the negative counts, which this kind has no use for
abbrev pub cells_in : State → List ℕ → List (List ℤ) → List ℕ → Cells
cells_in s neg extremes pos =
    record {
      totals = take s.entries (drop 10560 neg);
      extremes = take s.entries extremes;
      counts = take s.counts pos;
    }

-- ---- configuring

-- with the bounds and the filter that wait
unfoldable pub after_configured : State → List Float → Stores → Cells → State
after_configured s bounds d c =
    configured_by
    (configured (waiting_in s bounds) (eqb (field s 8) 49) (eqb (field s 9) 49) (field s 6)
    (filter_of s.next_filtered (take s.next_keys s.next_filter)) d c).answer s

-- ---- recording

abbrev pub recorded : State → Outcome Cells → State
recorded s o = done_by o.answer o.held.kept.dir s

unfoldable pub after_measured : State → List Float → Set → Stores → Cells → State
after_measured s bounds attrs d c =
    recorded s
    (measured (explicit_wholes (bounds_in s bounds) s.sums) s.limit (filter_in s) (held s.dir d c) (of_bits (field s 1)) attrs)

unfoldable pub after_measured_by : State → List Float → Stores → Cells → State
after_measured_by s bounds d c =
    recorded s (measured_by (explicit_wholes (bounds_in s bounds) s.sums) s.limit (held s.dir d c) (of_bits (field s 2)) (field s 1))

-- ---- any line

-- by its letter; a line that is not of this kind, `X`, leaves the state
abbrev pub after_followed : State → List Float → Set → Stores → Cells → State
after_followed s bounds attrs d c =
    followed_by (eqb s.of 88) s.letter (after_configured s bounds d c) (after_measured s bounds attrs d c)
    (after_measured_by s bounds d c) (after_bound s attrs d) s
