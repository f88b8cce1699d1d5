-- The program after a line, with every store. Assumes nothing.
use Rattle.std.specs.Prelude.{ℕ, ◌+◌, ◌-◌, min, Bool, true, false, List, [], ltb, eqb, length, take, Float, Option, Some, None}
use Rattle.std.proofs.lemmas.List.Edits.{sets}
use Rattle.laws.specs.Pick.{pick}
use Rattle.laws.specs.Said.{Said, refusal, success}
use Rattle.lines.specs.Gathered.{Text, waiting, ◌behind◌}
use Rattle.directory.specs.View.{Stores}
use Rattle.directory.specs.declared.Directory.{Directory}
use Rattle.exponential_slots.specs.Cells.{Cells}
use Rattle.value_map.specs.Calls.{held}
use Rattle.pooling.specs.Lists.{Source}
use Rattle.collecting.specs.Collected as Collecting
use Rattle.collecting.specs.Collected.{delta_collected}
use Rattle.exponential_collection.specs.Points.{exponential_lister}
use Rattle.clock.specs.Starts.{turned}
use Rattle.printing.specs.Printed.{unread_line}
use Rattle.gauge_lines.specs.Lines.{time_of, call_of}
use Rattle.gauge_lines.specs.Followed.{After, turned_by, after_start, after_record}
use Rattle.gauge_lines.specs.declared.cells.Gauge.{Gauge}
use Rattle.gauge_lines.specs.declared.fields.Call.{Call}
use Rattle.gauge_lines.specs.declared.fields.Call.TheVariants as C
use Rattle.sheets.specs.declared.Header.{Header}
use Rattle.sheet_writing.specs.Writing.{writing}
use Rattle.sheet_reading.specs.Reading.{reading}
use Rattle.sheet.specs.Digits.{is_record, bytes_in}
use Rattle.sheet.specs.Shown.{Wrote, wrote_by, records_of, Shown, shown_by}
use Rattle.sheet.specs.declared.state.State.{State}
use Rattle.sheet.specs.declared.state.Done.{Done}
use Rattle.sheet.specs.declared.state.Next.{Next}

-- outside a sheet
abbrev pub outside_of : Gauge → State
outside_of g = record { gauge = g; left = 0; at = 0 }

-- as a call answers it that is always followed
abbrev pub taken_by : Next → Done
taken_by r = record { taken = true; state = r.state; text = r.text }

-- and one that may be refused, which found the gauge g and n bytes of text: then the program stands outside a sheet
abbrev pub done : Gauge → ℕ → Option Next → Done
done g n None = record { taken = false; state = outside_of g; text = n }
done g n (Some r) = taken_by r

-- ---- a sheet's lines

-- what such a line comes to, with the text that waits and the list after it
pub record Went : Type 0 where
  pub taken : Bool
  pub state : State
  pub text : Text
  pub list : Source

-- as a contract writes it
abbrev pub went : Done → List ℕ → Source → Went
went r text x = record { taken = r.taken; state = r.state; text = waiting r.text text; list = x }

abbrev pub read_by : State → Shown → Went
read_by st s = record { taken = true; state = st; text = s.text; list = s.list }

-- it is read if no record is still to come
unfoldable pub went_on : State → Text → Source → List ℕ → Went
went_on st t x s =
    pick (ltb 0 st.left) (record { taken = true; state = st; text = t; list = x })
    (read_by st (shown_by (reading (take st.at s) x) t))

-- a sheet of n records begins
abbrev pub opened : Gauge → ℕ → State
opened g n = record { gauge = g; left = n; at = 0 }

-- one record more: the store has room for 233504 bytes, and no sheet has more
abbrev pub next : State → State
next st = record { gauge = st.gauge; left = st.left - 1; at = min st.at 233472 + 32 }

-- where the input is over, no byte is no line
abbrev pub no_line : List ℕ → Bool → Bool
no_line bs over = pick (eqb (length bs) 0) over false

-- the store of bytes after a line in a sheet
unfoldable pub record_put : State → List ℕ → Bool → List ℕ → List ℕ
record_put st bs over s = pick (no_line bs over) s (pick (is_record bs) (sets s (min st.at 233472) (bytes_in bs)) s)

-- a line that is no record ends the sheet
unfoldable pub in_sheet : State → List ℕ → Bool → Text → Source → List ℕ → Went
in_sheet st bs over t x s =
    pick (no_line bs over) (record { taken = true; state = outside_of st.gauge; text = t; list = x })
    (pick (is_record bs) (went_on (next st) t x (sets s (min st.at 233472) (bytes_in bs)))
    (record { taken = false; state = outside_of st.gauge; text = t; list = x }))

-- ---- any line

-- what it comes to, with the text that waits and every store after it
pub record Followed : Type 0 where
  pub taken : Bool
  pub state : State
  pub text : Text
  pub stores : Stores
  pub cells : Cells
  pub list : Source
  pub bytes : List ℕ

-- as a contract writes it
abbrev pub followed : Done → List ℕ → Stores → Cells → Source → List ℕ → Followed
followed r text s c x b =
    record { taken = r.taken; state = r.state; text = waiting r.text text; stores = s; cells = c; list = x; bytes = b }

-- a line of the gauge, after which the program stands outside a sheet
abbrev pub standing : Bool → Gauge → Text → Stores → Cells → Source → List ℕ → Followed
standing taken g t s c x b = record { taken = taken; state = outside_of g; text = t; stores = s; cells = c; list = x; bytes = b }

-- ---- `c`

-- "one for each collection": from what the clock held to the line's TIME
abbrev pub header_of : Gauge → ℕ → Header
header_of g time = record { start = (turned g.clock 0 time).start; time = time; delta = true }

abbrev pub collected_with : Gauge → Wrote → Stores → Cells → Source → Followed
collected_with g w s c x = standing true g w.text s c x w.bytes

abbrev pub listed_as : Gauge → ℕ → Text → Said ℕ → Directory → Stores → Cells → Source → List ℕ → Followed
listed_as g time t (refusal n) dir s c x b = standing false g t s c x b
listed_as g time t (success many) dir s c x b =
    collected_with (turned_by g dir time) (wrote_by (writing (header_of g time) many x b) t) s c x

abbrev pub listed_by : Gauge → ℕ → Text → List Float → List ℕ → Collecting.Collected Cells → Followed
listed_by g time t bounds b y =
    listed_as g time t y.answer y.held.kept.dir y.held.kept.stores y.held.cells (record { list = y.out; bounds = bounds }) b

abbrev pub collected_by : Gauge → Option ℕ → Text → Stores → Cells → Source → List ℕ → Followed
collected_by g None t s c x b = standing false g t s c x b
collected_by g (Some time) t s c x b =
    listed_by g time t x.bounds b (delta_collected (exponential_lister g.settings.size g.settings.top)
    (g.settings.extremes, g.settings.sums) g.settings.limit (held g.dir s c) x.list)

unfoldable pub after_collect : Gauge → List ℕ → Text → Stores → Cells → Source → List ℕ → Followed
after_collect g bs t s c x b = collected_by g (time_of bs) t s c x b

-- ---- the gauge's lines

abbrev pub silent_by : After → Text → Source → List ℕ → Followed
silent_by y t x b = standing y.outcome.taken y.outcome.gauge t y.stores y.cells x b

abbrev pub by_call : Call → Gauge → List ℕ → Text → Stores → Cells → Source → List ℕ → Followed
by_call C.None g bs t s c x b = standing true g t s c x b
by_call C.Unread g bs t s c x b = standing false g t s c x b
by_call C.Start g bs t s c x b = silent_by (after_start g bs s c) t x b
by_call C.Record g bs t s c x b = silent_by (after_record g bs s c) t x b
by_call C.Collect g bs t s c x b = after_collect g bs t s c x b

unfoldable pub after_call : Gauge → List ℕ → Bool → Text → Stores → Cells → Source → List ℕ → Followed
after_call g bs over t s c x b = by_call (call_of bs g.running over) g bs t s c x b

-- ---- each line in its place

-- a sheet's line leaves the map
abbrev pub aside : Went → Stores → Cells → List ℕ → Followed
aside w s c b = record { taken = w.taken; state = w.state; text = w.text; stores = s; cells = c; list = w.list; bytes = b }

abbrev pub by_records : Option ℕ → Gauge → List ℕ → Bool → Text → Stores → Cells → Source → List ℕ → Followed
by_records None g bs over t s c x b = after_call g bs over t s c x b
by_records (Some n) g bs over t s c x b = aside (went_on (opened g n) t x b) s c b

unfoldable pub after_step : State → List ℕ → Bool → Text → Stores → Cells → Source → List ℕ → Followed
after_step st bs over t s c x b =
    pick (ltb 0 st.left) (aside (in_sheet st bs over t x b) s c (record_put st bs over b))
    (by_records (records_of bs) st.gauge bs over t s c x b)

-- a line that can't be followed prints `? N`, N its number
abbrev pub numbered : ℕ → Followed → Followed
numbered number y =
    record {
      taken = y.taken;
      state = y.state;
      text = pick y.taken [] (unread_line number) behind y.text;
      stores = y.stores;
      cells = y.cells;
      list = y.list;
      bytes = y.bytes;
    }

abbrev pub after_line : ℕ → State → List ℕ → Bool → Text → Stores → Cells → Source → List ℕ → Followed
after_line number st bs over t s c x b = numbered number (after_step st bs over t s c x b)
