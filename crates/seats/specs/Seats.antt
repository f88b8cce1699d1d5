-- What a recording asks of the directory, and what it leaves of it: exactly, in its stores. Assumes nothing.
use Rattle.std.specs.Prelude.{ℕ, ◌+◌, Bool, false, List, [], ◌∷◌, eqb, leb, get_or, set, Ok, Err, Result}
use Rattle.laws.specs.Pick.{pick}
use Rattle.sets.specs.Rows.{span}
use Rattle.sets.specs.Sorted.{most_attributes}
use Rattle.directory.specs.View.{Stores, agreesb, updated_in}
use Rattle.directory.specs.Calls.{Kept, over_row, located, scan, admitted}
use Rattle.directory.specs.declared.Directory.{Directory}
use Rattle.directory.specs.declared.Target.{Target}
use Rattle.directory.specs.declared.Target.TheVariants.{Disagrees, Old, New, Over}
use Rattle.refusals.specs.Refusals.{number}
use Rattle.refusals.specs.declared.Refusal.{Refusal}
use Rattle.seats.specs.declared.Seated.{Seated}
use Rattle.laws.specs.Counting.{most_count}

-- where a recording goes. no: document 01's number of the refusal, 0 if none; slot: the slot that it goes to; updated: whether that slot
-- holds a series; target: what the directory is to write
pub record Seating : Type 0 where
  pub no : ℕ
  pub slot : ℕ
  pub updated : Bool
  pub target : Target

-- refused with the number n: nothing is to be written
abbrev pub away : ℕ → Seating
away n = record { no = n; slot = 0; updated = false; target = Disagrees }

-- as a contract writes it: a seat that the code found, or its refusal
abbrev pub seating : Result Seated Refusal → Seating
seating (Ok a) = record { no = 0; slot = a.slot; updated = a.updated; target = a.target }
seating (Err e) = away (number e)

abbrev pub held_seat : List (List ℕ) → ℕ → Seating
held_seat entries x = record { no = 0; slot = x; updated = updated_in entries x; target = Old x }

-- "9: a .. birth number would pass 2^64 - 1"; a new slot is the next one, and holds no series
unfoldable pub new_seat : Directory → Target → Seating
new_seat d t =
    pick (leb most_count d.last) (away 9) (record { no = 0; slot = d.used + 1; updated = false; target = t })

abbrev pub seat_at : Directory → Stores → Target → Seating
seat_at d s Disagrees = away 8
seat_at d s (Old x) = held_seat s.entries x
seat_at d s (New r) = new_seat d (New r)
seat_at d s (Over r) = new_seat d (Over r)

-- where a recording with the set of a row goes. "Recording: .. 8, 9", as far as the directory decides
unfoldable pub seated : ℕ → Directory → Stores → List ℕ → Seating
seated limit d s row = seat_at d s (located limit d s row)

-- "7: handle names no entry, or one without bindings"
abbrev pub seat_by : Stores → Result ℕ ℕ → Seating
seat_by s (Err r) = away 7
seat_by s (Ok x) = held_seat s.entries x

-- where a recording by a handle goes. "Recording by handle: .. 8, 7, 9", as far as the directory decides
unfoldable pub seated_by : ℕ → Directory → Stores → ℕ → Seating
seated_by limit d s h =
    pick (agreesb limit d s) (seat_by s (scan h s.entries (0 ∷ span s.order 0 d.used))) (away 8)

-- "Recording: 12, 6, 5, 8": of stores that suffice or not, a value that is finite or not, a number of attributes, a configuration that was
-- accepted or not
unfoldable pub barred_by : Bool → Bool → ℕ → Bool → ℕ
barred_by room fin n ok = pick room (pick fin (pick (leb n most_attributes) (pick ok 0 8) 5) 6) 12

-- the seating, unless a number bars the call before it
unfoldable pub unless_barred : ℕ → Seating → Seating
unless_barred n a = pick (eqb n 0) a (away n)

-- the slot is marked updated: its third word is 1, birth number and bindings are as they were
unfoldable pub marked : List (List ℕ) → ℕ → List (List ℕ)
marked entries x = set entries x (get_or (get_or entries x []) 0 0 ∷ get_or (get_or entries x []) 1 0 ∷ 1 ∷ [])

abbrev pub marked_in : Kept → ℕ → Kept
marked_in k x =
    record {
      dir = k.dir;
      stores = record { sets = k.stores.sets; entries = marked k.stores.entries x; order = k.stores.order };
    }

-- what the directory is once the series at the target took the value: a slot that is held is marked; a new one, without bindings, is made
-- and marked. "the overflow series .. doesn't raise the count when made that way": 1 for the set's own entry, 0 for that of overflow
unfoldable pub committed : Directory → Stores → List ℕ → Target → Kept
committed d s row Disagrees = record { dir = d; stores = s }
committed d s row (Old x) = marked_in (record { dir = d; stores = s }) x
committed d s row (New r) = marked_in (admitted d s row r 1 0) (d.used + 1)
committed d s row (Over r) = marked_in (admitted d s over_row r 0 0) (d.used + 1)
