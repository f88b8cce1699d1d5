-- BETWEEN OUR OWN CRATES: serves inner contracts and proofs; nobody needs it to believe the public calls or the theorems.
-- The state after a line of a map of the exponential kind that configures, records, binds or releases. Assumes nothing.
use Rattle.std.specs.Prelude.{ℕ, ◌%◌, List, eqb, ℤ, pos, ◌-ℤ◌, take, Float}
use Rattle.std.specs.Float.{binary64}
use Rattle.std.specs.Float.Ieee.{of_bits}
use Rattle.laws.specs.Said.{Said, refusal, success}
use Rattle.tally.specs.Sets.{Set}
use Rattle.sets.specs.Sorted.{filter_of}
use Rattle.directory.specs.View.{Stores}
use Rattle.exponential_slots.specs.Cells.{Cells}
use Rattle.value_map.specs.Calls.{Outcome, held, measured, measured_by}
use Rattle.value_map.specs.Exponential.{exponential_store}
use Rattle.exponential_collection.specs.Configured.{configured}
use Rattle.exponential_collection.specs.declared.Setup.{Setup}
use Rattle.replay_state.specs.declared.State.{State}
use Rattle.replay_state.specs.After.{field, not_begun, newly_begun, done_by}
use Rattle.replay_state.specs.Bound.{filter_in, after_bound}
use Rattle.replay_state.specs.Lines.{followed_by}

-- the series' stores, as long as a line `m` says
abbrev pub cells_in : State → List (List ℕ) → List (List Float) → List ℕ → List ℕ → Cells
cells_in s figures extremes positive negative =
    record {
      figures = take s.entries figures;
      extremes = take s.entries extremes;
      pos = take s.counts positive;
      neg = take s.counts negative;
    }

-- ---- configuring

-- the scale of a number 128 above it, whose lower byte counts
abbrev pub scale_in : ℕ → ℤ
scale_in n = pos (n % 256) -ℤ pos 128

abbrev pub configured_by : Said Setup → State → State
configured_by (refusal n) s = not_begun n s
configured_by (success u) s = newly_begun u.settings.top u.dir s

-- with the filter that waits
unfoldable pub after_configured : State → Stores → Cells → State
after_configured s d c =
    configured_by
    (configured (field s 3 % 4294967296) (scale_in (field s 4)) (eqb (field s 8) 49) (eqb (field s 9) 49) (field s 6)
    (filter_of s.next_filtered (take s.next_keys s.next_filter)) d c).answer s

-- ---- recording

abbrev pub recorded : State → Outcome Cells → State
recorded s o = done_by o.answer o.held.kept.dir s

unfoldable pub after_measured : State → Set → Stores → Cells → State
after_measured s attrs d c =
    recorded s
    (measured (exponential_store s.size s.top) s.limit (filter_in s) (held s.dir d c) (of_bits binary64 (field s 1)) attrs)

unfoldable pub after_measured_by : State → Stores → Cells → State
after_measured_by s d c =
    recorded s (measured_by (exponential_store s.size s.top) s.limit (held s.dir d c) (of_bits binary64 (field s 2)) (field s 1))

-- ---- any line

-- by its letter; a line that is not of this kind, `e`, leaves the state
abbrev pub after_followed : State → Set → Stores → Cells → State
after_followed s attrs d c =
    followed_by (eqb s.of 101) s.letter (after_configured s d c) (after_measured s attrs d c) (after_measured_by s d c)
    (after_bound s attrs d) s
