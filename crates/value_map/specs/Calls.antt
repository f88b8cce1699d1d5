-- What the map's calls make of it: answer, state and every lent store, for any kind's store. Assumes nothing.
use Rattle.std.specs.Prelude.{ℕ, Bool, ◌&&◌, List, leb, eqb, length, replicate}
use Rattle.std.proofs.Math.Option.{Option, none}
use Rattle.laws.specs.Pick.{pick}
use Rattle.laws.specs.Said.{Said, refusal, success}
use Rattle.tally.specs.Sets.{Set, canonical}
use Rattle.tally.specs.Kind.{Kind}
use Rattle.sets.specs.Rows.{row_of}
use Rattle.directory.specs.View.{Stores}
use Rattle.directory.specs.Calls.{Kept, kept, most_sets, accepts, stores_suffice}
use Rattle.directory.specs.declared.Directory.{Directory}
use Rattle.bindings.specs.Calls as Bindings
use Rattle.bindings.specs.Calls.{said, fresh}
use Rattle.bindings.specs.declared.Reply.{Reply}
use Rattle.refusals.specs.declared.Refusal.{Refusal}
use Rattle.seats.specs.Seats.{seated, seated_by, barred_by, unless_barred, committed, Seating}
use Rattle.value_map.specs.Store.{Store}

-- the map as it is lent: the directory with its stores, and the series' stores
pub record Held (Cells : Type 0) : Type 0 where
  pub kept : Kept
  pub cells : Cells

-- what a call says, with the map after it
pub record Outcome (Cells : Type 0) : Type 0 where
  pub answer : Said (Option ℕ)
  pub held : Held Cells

-- as a contract writes them: the map that a call is given, and what it replied with the stores that it left
abbrev pub held : {Cells : Type 0} → Directory → Stores → Cells → Held Cells
held d s c = record { kept = kept d s; cells = c }

abbrev pub gave : {Cells : Type 0} → Reply Refusal → Stores → Cells → Outcome Cells
gave r s c = record { answer = said r.answer; held = held r.dir s c }

-- "Every refusal changes nothing."
abbrev pub refused : {Cells : Type 0} → ℕ → Held Cells → Outcome Cells
refused n h = record { answer = refusal n; held = h }

-- what is done unless the number refuses it
unfoldable pub unless_refused : {Cells : Type 0} → Held Cells → ℕ → Outcome Cells → Outcome Cells
unless_refused h n o = pick (eqb n 0) o (refused n h)

-- Configuring: "1, 2, 3, 4, 12", with the kind's number for its settings, and whether its cells suffice
unfoldable pub begun : ℕ → Bool → ℕ → Option (List ℕ) → Stores → Bindings.Outcome
begun unset cells limit filter s =
    pick (eqb unset 0)
    (pick (accepts limit filter) (pick cells (Bindings.started limit filter s) (Bindings.refused 12 fresh s)) (Bindings.refused 4 fresh s))
    (Bindings.refused unset fresh s)

-- the directory's part of an outcome, with the cells beside it
abbrev pub beside : {Cells : Type 0} → Bindings.Outcome → Cells → Outcome Cells
beside o c = record { answer = o.answer; held = record { kept = o.kept; cells = c } }

module _ {K : Kind} (S : Store K) where
  -- configuring accepts the settings
  abbrev pub passes : Bool
  passes = eqb S.unset 0

  abbrev pub lent : ℕ → Held S.Cells → Bool
  lent limit h = stores_suffice limit h.kept.stores && S.suffices limit h.cells

  -- the directory refused with its number, or named a slot; the series there refused with its own, or took the value and left its cells; then
  -- the directory is written
  unfoldable pub entered : Held S.Cells → K.Value → List ℕ → Seating → Outcome S.Cells
  entered h v row a =
      let o = S.recorded a.slot a.updated h.cells v in
      unless_refused h a.no (unless_refused h o.no
      (record { answer = success none; held = record { kept = committed h.kept.dir h.kept.stores row a.target; cells = o.cells } }))

  -- a recording with n attributes, under a limit and a filter that configuring accepted or not, which goes to a seating
  unfoldable pub called : ℕ → Held S.Cells → K.Value → ℕ → Bool → List ℕ → Seating → Outcome S.Cells
  called limit h v n ok row a = entered h v row (unless_barred (barred_by (lent limit h) (K.finite v) n (passes && ok)) a)

  -- "Recording: 12, 6, 5, 8, 9". 8 also where configuring could not have accepted the settings, the limit and the filter.
  unfoldable pub measured : ℕ → Option (List ℕ) → Held S.Cells → K.Value → Set → Outcome S.Cells
  measured limit filter h v attrs =
      let row = row_of (canonical filter attrs) in
      called limit h v (length attrs) (accepts limit filter) row (seated limit h.kept.dir h.kept.stores row)

  -- "Recording by handle: 12, 6, 8, 7, 9". No set is named: no row is written.
  unfoldable pub measured_by : ℕ → Held S.Cells → K.Value → ℕ → Outcome S.Cells
  measured_by limit h v handle =
      called limit h v 0 (leb limit most_sets) (replicate 9 0) (seated_by limit h.kept.dir h.kept.stores handle)

  -- Configuring. The series' stores are left as they are: no entry is updated, so nobody reads them.
  unfoldable pub started : ℕ → Option (List ℕ) → Stores → S.Cells → Outcome S.Cells
  started limit filter s c = beside (begun S.unset (S.suffices limit c) limit filter s) c
