-- BETWEEN OUR OWN CRATES: serves inner contracts and proofs; nobody needs it to believe the public calls or the theorems.
-- One value taken by a kind's cells, and the directory's end of it: the definitions of the crate's own functions. Assumes nothing.
use Rattle.std.specs.Prelude.{ℕ, ◌≡◌, Bool, true, ◌&&◌, List, eqb, leb, Result, Ok, Err}
use Rattle.std.proofs.Math.Option.{none}
use Rattle.laws.specs.Pick.{pick}
use Rattle.laws.specs.Said.{success}
use Rattle.tally.specs.Kind.{Kind}
use Rattle.directory.specs.View.{Stores}
use Rattle.directory.specs.declared.Directory.{Directory}
use Rattle.directory.specs.declared.Target.{Target}
use Rattle.directory.specs.declared.Target.TheVariants.{Disagrees}
use Rattle.bindings.specs.Calls as Bindings
use Rattle.seats.specs.Seats.{committed}
use Rattle.value_map.specs.Store.{Store, Recording}

-- what is to be written, as a seating has it: nothing where the recording was refused
abbrev pub target_in : {E : Type 0} → Result Target E → Target
target_in (Ok t) = t
target_in (Err e) = Disagrees

-- the end of a recording: refused with a number, or written to the directory
unfoldable pub finished : ℕ → Directory → Stores → List ℕ → Target → Bindings.Outcome
finished n d s row t = pick (eqb n 0) (record { answer = success none; kept = committed d s row t }) (Bindings.refused n d s)

module _ {K : Kind} (S : Store K) where
  -- a slot that is named has its cells, and its value is finite
  abbrev pub Takes : S.Cells → K.Value → ℕ → ℕ → Type 0
  Takes c v n x = n ≡ 0 → S.Room c x × (K.finite v ≡ true)

  -- the kind's part of a recording at a slot, where nothing was refused: 0 and the cells afterwards, or the series' refusal; else the number
  -- that is to be said, and the cells as they were
  unfoldable pub taken : S.Cells → K.Value → ℕ → ℕ → ℕ → Bool → Recording S.Cells
  taken c v n otherwise x updated = pick (eqb n 0) (S.recorded x updated c v) (record { no = otherwise; cells = c })

-- the number of a seating that is refused, the bounds asked last, for its series does it: of "12, 6, 5, 8, 9" and "12, 6, 8, 7, 9" those
-- after 8 give way to it, where configuring could not have accepted the bounds
unfoldable pub turned : Bool → ℕ → ℕ
turned passes n = pick (leb 7 n && leb n 9) (pick passes n 8) n
