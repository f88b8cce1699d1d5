-- BETWEEN OUR OWN CRATES: serves inner contracts and proofs; nobody needs it to believe the public calls or the theorems.
-- The state after a line of a map of the exponential kind over i64 that configures, records, binds or releases. Assumes nothing.
use Rattle.std.specs.Prelude.{ℕ, ◌%◌, List, eqb, ℤ, take}
use Rattle.tally.specs.Sets.{Set}
use Rattle.sets.specs.Sorted.{filter_of}
use Rattle.directory.specs.View.{Stores}
use Rattle.exponential_whole_slots.specs.Cells.{Cells}
use Rattle.value_map.specs.Calls.{Outcome, held, measured, measured_by}
use Rattle.whole_map.specs.Exponential.{exponential_wholes}
use Rattle.exponential_whole_collection.specs.Configured.{configured}
use Rattle.integers.specs.Answers.{of_bits}
use Rattle.replay_state.specs.declared.State.{State}
use Rattle.replay_state.specs.After.{field, done_by}
use Rattle.replay_state.specs.Bound.{filter_in, after_bound}
use Rattle.replay_state.specs.Lines.{followed_by}
use Rattle.replay_exponential.specs.Followed.{scale_in, configured_by}

-- the series' stores, as long as a line `m` says
abbrev pub cells_in : State → List (List ℕ) → List (List ℤ) → List ℕ → List ℕ → Cells
cells_in s figures extremes positive negative =
    record {
      figures = take s.entries figures;
      extremes = take s.entries extremes;
      pos = take s.counts positive;
      neg = take s.counts negative;
    }

-- ---- configuring

-- with the filter that waits
unfoldable pub after_configured : State → Stores → Cells → State
after_configured s d c =
    configured_by
    (configured (field s 3 % 4294967296) (scale_in (field s 4)) (eqb (field s 8) 49) (eqb (field s 9) 49) (field s 6)
    (filter_of s.next_filtered (take s.next_keys s.next_filter)) d c).answer s

-- ---- recording

abbrev pub recorded : State → Outcome Cells → State
recorded s o = done_by o.answer o.held.kept.dir s

unfoldable pub after_measured : State → Set → Stores → Cells → State
after_measured s attrs d c =
    recorded s
    (measured (exponential_wholes s.size s.top s.sums) s.limit (filter_in s) (held s.dir d c) (of_bits (field s 1)) attrs)

unfoldable pub after_measured_by : State → Stores → Cells → State
after_measured_by s d c =
    recorded s (measured_by (exponential_wholes s.size s.top s.sums) s.limit (held s.dir d c) (of_bits (field s 2)) (field s 1))

-- ---- any line

-- by its letter; a line that is not of this kind, `E`, leaves the state
abbrev pub after_followed : State → Set → Stores → Cells → State
after_followed s attrs d c =
    followed_by (eqb s.of 69) s.letter (after_configured s d c) (after_measured s attrs d c) (after_measured_by s d c)
    (after_bound s attrs d) s
