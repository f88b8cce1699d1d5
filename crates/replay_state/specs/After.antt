-- BETWEEN OUR OWN CRATES: serves inner contracts and proofs; nobody needs it to believe the public calls or the theorems.
-- The state of a script after a line: refused, accepted, and after each kind of call. Assumes nothing.
use Rattle.std.specs.Prelude.{ℕ, min, ◌%◌, Bool, false, ◌||◌, List, eqb, get_or, set, replicate, Result, Ok, Err, [], ◌∷◌}
use Rattle.std.proofs.Math.Option.{Option, none, some}
use Rattle.laws.specs.Pick.{pick}
use Rattle.laws.specs.Said.{Said, refusal, success}
use Rattle.directory.specs.declared.Directory.{Directory}
use Rattle.refusals.specs.declared.Refusal.TheVariants as V
use Rattle.refusals.specs.Refusals.{number}
use Rattle.replay_state.specs.declared.State.{State}
use Rattle.replay_state.specs.declared.Fault.{Fault}
use Rattle.replay_state.specs.declared.Fault.TheVariants.{Unread, Refused, Other}

-- whether a kind's letter is that of sums, `s`, or of last values, `l`
abbrev pub single : ℕ → Bool
single kind = eqb kind 115 || eqb kind 108

-- whether it is that of a kind over i64, `E` or `X`, as lines are read
abbrev pub whole : ℕ → Bool
whole kind = eqb kind 69 || eqb kind 88

-- field k of the line that is followed
abbrev pub field : State → ℕ → ℕ
field s k = get_or s.f k 0

-- the faults of the numbers from 0 to 16
abbrev pub first_faults : List Fault
first_faults =
    Other 0 ∷ Refused V.MaxSize ∷ Refused V.MaxScale ∷ Refused V.Bounds ∷ Refused V.Limit ∷ Refused V.Attributes ∷ Refused V.NotFinite
    ∷ Refused V.NoHandle ∷ Refused V.Disagrees ∷ Refused V.Full ∷ Refused V.NoRoom ∷ Refused V.Unlike ∷ Refused V.LentShort
    ∷ Refused V.NoValues ∷ Refused V.OffGrid ∷ Refused V.NotASheet ∷ Refused V.SumOutside ∷ []

-- of any number: 255 is that of a line that can't be read, and one that is nobody's is itself. `fault_number` gives each number back
-- (proofs/Named.antt)
abbrev pub fault_of : ℕ → Fault
fault_of n = get_or first_faults n (pick (eqb n 255) Unread (Other n))

abbrev pub fault_number : Fault → ℕ
fault_number Unread = 255
fault_number (Refused e) = number e
fault_number (Other n) = n

-- what a line comes to: accepted, or refused with a number
abbrev pub Outcome : Type 0
Outcome = Result (Unit {0}) Fault

abbrev pub accepted : Outcome
accepted = Ok tt

-- by a number, which is 0 where it is accepted
abbrev pub refused : ℕ → Outcome
refused n = pick (eqb n 0) accepted (Err (fault_of n))

-- with what a call can change: what the line comes to, the map's state, the handles, the held start, how many points were listed and of which
-- kind they are
abbrev pub answered : State → Outcome → ℕ → Directory → List ℕ → ℕ → ℕ → ℕ → State
answered s n told dir handles start listed collected =
    record {
      letter = s.letter;
      of = s.of;
      f = s.f;
      no = n;
      told = told;
      kind = s.kind;
      size = s.size;
      top = s.top;
      extremes = s.extremes;
      sums = s.sums;
      limit = s.limit;
      delta = s.delta;
      bounds = s.bounds;
      filtered = s.filtered;
      keys = s.keys;
      filter = s.filter;
      dir = dir;
      handles = handles;
      start = start;
      next_bounds = s.next_bounds;
      next_filtered = s.next_filtered;
      next_keys = s.next_keys;
      next_filter = s.next_filter;
      counts = s.counts;
      entries = s.entries;
      listed = listed;
      collected = collected;
    }

abbrev pub unread_by : State → State
unread_by s = answered s (Err Unread) s.told s.dir s.handles s.start s.listed s.collected

-- one that comes to a number, which 0 accepts
abbrev pub refused_by : ℕ → State → State
refused_by n s = answered s (refused n) s.told s.dir s.handles s.start s.listed s.collected

-- accepted, with what it tells and another directory
abbrev pub accepted_in : Directory → ℕ → State → State
accepted_in dir told s = answered s accepted told dir s.handles s.start s.listed s.collected

-- ---- configuring

-- after a refused `n` nothing waits
abbrev pub waiting_none : Outcome → State → State
waiting_none o s =
    record {
      letter = s.letter;
      of = s.of;
      f = s.f;
      no = o;
      told = s.told;
      kind = s.kind;
      size = s.size;
      top = s.top;
      extremes = s.extremes;
      sums = s.sums;
      limit = s.limit;
      delta = s.delta;
      bounds = s.bounds;
      filtered = s.filtered;
      keys = s.keys;
      filter = s.filter;
      dir = s.dir;
      handles = s.handles;
      start = s.start;
      next_bounds = 0;
      next_filtered = false;
      next_keys = 0;
      next_filter = s.next_filter;
      counts = s.counts;
      entries = s.entries;
      listed = s.listed;
      collected = s.collected;
    }

abbrev pub not_begun : ℕ → State → State
not_begun n s = waiting_none (refused n) s

-- after an accepted `n`: what was asked for, with what waited
abbrev pub begun_as : ℕ → ℕ → ℕ → Directory → State → State
begun_as kind size top dir s =
    record {
      letter = s.letter;
      of = s.of;
      f = s.f;
      no = accepted;
      told = s.told;
      kind = kind;
      size = size;
      top = top;
      extremes = eqb (field s 8) 49;
      sums = eqb (field s 9) 49;
      limit = field s 6;
      delta = eqb (field s 7) 100;
      bounds = s.next_bounds;
      filtered = s.next_filtered;
      keys = s.next_keys;
      filter = s.next_filter;
      dir = dir;
      handles = replicate 100 0;
      start = field s 10;
      next_bounds = 0;
      next_filtered = false;
      next_keys = 0;
      next_filter = s.next_filter;
      counts = s.counts;
      entries = s.entries;
      listed = s.listed;
      collected = s.collected;
    }

abbrev pub newly_begun : ℕ → Directory → State → State
newly_begun top dir s = begun_as (field s 1 % 256) (field s 3 % 4294967296) top dir s

-- ---- recording, binding and releasing

-- after a call that says so, with the directory that it leaves: the place of the line's handle holds a binding's birth number
abbrev pub done_by : Said (Option ℕ) → Directory → State → State
done_by (refusal n) dir s = refused_by n s
done_by (success none) dir s = accepted_in dir 0 s
done_by (success (some birth)) dir s = answered s accepted birth dir (set s.handles (min (field s 1) 99) birth) s.start s.listed s.collected

-- ---- collecting

-- after a collection that says so: it tells the held start, a delta collection holds the line's time, and its points are of the map's kind
abbrev pub collected_by : Said ℕ → Directory → State → State
collected_by (refusal n) dir s = refused_by n s
collected_by (success many) dir s = answered s accepted s.start dir s.handles (pick s.delta (field s 1) s.start) many s.kind
