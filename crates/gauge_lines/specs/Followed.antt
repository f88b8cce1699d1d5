-- The gauge after a line, with every store. Document 01, "A run of the gauge program": 'It is delta, everything recorded, no filter. An
-- accepted `e` starts anew', 'Accepted `e` and `r` lines print nothing', 'A line that it can't read, .. refused, before any accepted `e` ..
-- prints `? N`'; and 'Every refusal changes nothing.' Assumes nothing.
use Rattle.std.specs.Prelude.{ℕ, Bool, true, false, List, [], ◌∷◌, take, replicate, Float, Some, None}
use Rattle.std.specs.Prelude as Std
use Rattle.std.proofs.Math.Option.{Option, none}
use Rattle.std.specs.Float.{binary64}
use Rattle.std.specs.Float.Ieee.{of_bits}
use Rattle.laws.specs.Pick.{pick}
use Rattle.laws.specs.Said.{Said, refusal, success}
use Rattle.lines.specs.Gathered.{Text, waiting, ◌behind◌}
use Rattle.sets.specs.Sorted.{given}
use Rattle.directory.specs.View.{Stores}
use Rattle.directory.specs.declared.Directory.{Directory}
use Rattle.exponential_slots.specs.Cells.{Cells}
use Rattle.value_map.specs.Calls as Map
use Rattle.value_map.specs.Calls.{held, measured}
use Rattle.value_map.specs.Exponential.{exponential_store}
use Rattle.listing.specs.Listed.{Output}
use Rattle.collecting.specs.Configured.{Configuring}
use Rattle.collecting.specs.Collected as Collecting
use Rattle.collecting.specs.Collected.{delta_collected}
use Rattle.exponential_collection.specs.Configured.{configured}
use Rattle.exponential_collection.specs.Points.{exponential_lister}
use Rattle.exponential_collection.specs.declared.Setup.{Setup}
use Rattle.clock.specs.Starts.{turned}
use Rattle.printing.specs.Printed.{collection_lines, unread_line}
use Rattle.printing.specs.declared.Form.{Form}
use Rattle.gauge_lines.specs.Lines.{settings_of, board_of, attributes_in, time_of, call_of}
use Rattle.gauge_lines.specs.declared.cells.Gauge.{Gauge}
use Rattle.gauge_lines.specs.declared.collect.Collected.{Collected}
use Rattle.gauge_lines.specs.declared.collect.Next.{Next}
use Rattle.gauge_lines.specs.declared.fields.Board.{Board}
use Rattle.gauge_lines.specs.declared.fields.Wanted.{Wanted}
use Rattle.gauge_lines.specs.declared.fields.Call.{Call}
use Rattle.gauge_lines.specs.declared.fields.Call.TheVariants as C

-- ---- a line that prints nothing

-- whether it was accepted, and the gauge after it, which a refusal leaves as it was
pub record Outcome : Type 0 where
  pub taken : Bool
  pub gauge : Gauge

-- as a call answers it that found the gauge g
abbrev pub outcome : Gauge → Std.Option Gauge → Outcome
outcome g None = record { taken = false; gauge = g }
outcome g (Some h) = record { taken = true; gauge = h }

-- what a line comes to, with the map's stores after it
pub record After : Type 0 where
  pub outcome : Outcome
  pub stores : Stores
  pub cells : Cells

-- as a contract writes it
abbrev pub after : Outcome → Stores → Cells → After
after o s c = record { outcome = o; stores = s; cells = c }

-- before any accepted `e` no map runs; nobody reads what else there is
abbrev pub unstarted : Gauge
unstarted =
    record {
      running = false;
      settings = record { size = 0; top = 0; extremes = false; sums = false; limit = 0 };
      dir = record { used = 0; count = 0; last = 0 };
      clock = record { start = 0 };
    }

-- a gauge whose map runs
abbrev pub running_with : Gauge → Directory → Gauge
running_with g dir = record { running = true; settings = g.settings; dir = dir; clock = g.clock }

abbrev pub refused_of : Gauge → Outcome
refused_of g = record { taken = false; gauge = g }

abbrev pub taken_with : Gauge → Directory → Outcome
taken_with g dir = record { taken = true; gauge = running_with g dir }

-- ---- `e`

-- a map that was just configured, and a clock that holds the line's START; where it is refused the map before it stays
abbrev pub begun_by : Gauge → ℕ → Said Setup → Outcome
begun_by g start (refusal n) = refused_of g
begun_by g start (success u) =
    record { taken = true; gauge = record { running = true; settings = u.settings; dir = u.dir; clock = record { start = start } } }

abbrev pub configured_by : Gauge → ℕ → Cells → Configuring Setup → After
configured_by g start c x = after (begun_by g start x.answer) x.stores c

-- 'everything recorded, no filter': with min, max and sum
abbrev pub started_by : Gauge → Std.Option Wanted → Stores → Cells → After
started_by g None s c = after (refused_of g) s c
started_by g (Some w) s c = configured_by g w.start c (configured w.size w.scale true true w.limit none s c)

unfoldable pub after_start : Gauge → List ℕ → Stores → Cells → After
after_start g bs s c = started_by g (settings_of bs) s c

-- ---- `r`

abbrev pub answered_by : Gauge → Said (Option ℕ) → Directory → Outcome
answered_by g (refusal n) dir = refused_of g
answered_by g (success b) dir = taken_with g dir

abbrev pub measured_by : Gauge → Map.Outcome Cells → After
measured_by g o = after (answered_by g o.answer o.held.kept.dir) o.held.kept.stores o.held.cells

-- with the first n attributes of a store
abbrev pub recorded_by : Gauge → Std.Option Board → List (List ℕ) → Stores → Cells → After
recorded_by g None attrs s c = after (refused_of g) s c
recorded_by g (Some b) attrs s c =
    measured_by g (measured (exponential_store g.settings.size g.settings.top) g.settings.limit none (held g.dir s c)
    (of_bits binary64 b.bits) (given (take b.many attrs)))

-- nine attributes are kept of a set that has more: one more than any call takes
unfoldable pub after_record : Gauge → List ℕ → Stores → Cells → After
after_record g bs s c = recorded_by g (board_of bs) (attributes_in bs (replicate 9 (0 ∷ 0 ∷ []))) s c

-- ---- `c`

-- what any line comes to, with the text that waits and every store after it
pub record Followed : Type 0 where
  pub taken : Bool
  pub gauge : Gauge
  pub text : Text
  pub stores : Stores
  pub cells : Cells
  pub out : Output

-- as a call answers it that found the gauge g and n bytes of text
abbrev pub collected : Gauge → ℕ → Std.Option Next → Collected
collected g n None = record { taken = false; gauge = g; text = n }
collected g n (Some r) = record { taken = true; gauge = r.gauge; text = r.text }

-- as a contract writes it
abbrev pub followed : Collected → List ℕ → Stores → Cells → Output → Followed
followed r text s c o =
    record { taken = r.taken; gauge = r.gauge; text = waiting r.text text; stores = s; cells = c; out = o }

-- the gauge after an accepted collection: the clock holds the line's TIME
abbrev pub turned_by : Gauge → Directory → ℕ → Gauge
turned_by g dir time = record { running = true; settings = g.settings; dir = dir; clock = (turned g.clock 0 time).clock }

-- an exponential point has no bounds: whatever lies there is not read
abbrev pub no_bounds : List Float
no_bounds = of_bits binary64 0 ∷ []

-- `c` START TIME POINTS, and the points in a form, behind the text that waits; START is what the clock held
abbrev pub shown_in : Form → Gauge → ℕ → Text → Said ℕ → Output → Text
shown_in form g time t (refusal n) o = t
shown_in form g time t (success many) o = collection_lines form (turned g.clock 0 time).start time many o no_bounds behind t

abbrev pub listed_in : Gauge → ℕ → Said ℕ → Directory → Gauge
listed_in g time (refusal n) dir = g
listed_in g time (success many) dir = turned_by g dir time

abbrev pub accepted : Said ℕ → Bool
accepted (refusal n) = false
accepted (success many) = true

abbrev pub listed_by : Form → Gauge → ℕ → Text → Collecting.Collected Cells → Followed
listed_by form g time t x =
    record {
      taken = accepted x.answer;
      gauge = listed_in g time x.answer x.held.kept.dir;
      text = shown_in form g time t x.answer x.out;
      stores = x.held.kept.stores;
      cells = x.held.cells;
      out = x.out;
    }

-- a line that is refused changes nothing
abbrev pub unfollowed : Gauge → Text → Stores → Cells → Output → Followed
unfollowed g t s c o = record { taken = false; gauge = g; text = t; stores = s; cells = c; out = o }

abbrev pub collected_by : Form → Gauge → Std.Option ℕ → Text → Stores → Cells → Output → Followed
collected_by form g None t s c o = unfollowed g t s c o
collected_by form g (Some time) t s c o =
    listed_by form g time t (delta_collected (exponential_lister g.settings.size g.settings.top) (g.settings.extremes, g.settings.sums)
    g.settings.limit (held g.dir s c) o)

unfoldable pub after_collect : Form → Gauge → List ℕ → Text → Stores → Cells → Output → Followed
after_collect form g bs t s c o = collected_by form g (time_of bs) t s c o

-- ---- any line

-- 'Accepted `e` and `r` lines print nothing', and leave the output's stores
abbrev pub silent_by : After → Text → Output → Followed
silent_by x t o =
    record { taken = x.outcome.taken; gauge = x.outcome.gauge; text = t; stores = x.stores; cells = x.cells; out = o }

abbrev pub by_call : Form → Call → Gauge → List ℕ → Text → Stores → Cells → Output → Followed
by_call form C.None g bs t s c o = record { taken = true; gauge = g; text = t; stores = s; cells = c; out = o }
by_call form C.Unread g bs t s c o = unfollowed g t s c o
by_call form C.Start g bs t s c o = silent_by (after_start g bs s c) t o
by_call form C.Record g bs t s c o = silent_by (after_record g bs s c) t o
by_call form C.Collect g bs t s c o = after_collect form g bs t s c o

-- whether the input is over decides whether no byte is a line
unfoldable pub after_call : Form → Gauge → List ℕ → Bool → Text → Stores → Cells → Output → Followed
after_call form g bs over t s c o = by_call form (call_of bs g.running over) g bs t s c o

-- 'A line that it can't read, .. prints `? N`', N its number
abbrev pub numbered : ℕ → Followed → Followed
numbered number x =
    record {
      taken = x.taken;
      gauge = x.gauge;
      text = pick x.taken [] (unread_line number) behind x.text;
      stores = x.stores;
      cells = x.cells;
      out = x.out;
    }

abbrev pub after_line : Form → ℕ → Gauge → List ℕ → Bool → Text → Stores → Cells → Output → Followed
after_line form number g bs over t s c o = numbered number (after_call form g bs over t s c o)
