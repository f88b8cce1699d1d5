-- BETWEEN OUR OWN CRATES: serves inner contracts and proofs; nobody needs it to believe the public calls or the theorems.
-- Many values at one slot, as a kind's code records them: the slot's number refuses, or 6. Assumes nothing.
use Rattle.std.specs.Prelude.{ℕ, ◌≡◌, Bool, true, ◌||◌, List, eqb}
use Rattle.std.proofs.Math.Option.{Option, none}
use Rattle.laws.specs.Pick.{pick}
use Rattle.laws.specs.Said.{Said, refusal, success}
use Rattle.rows.specs.Recording.{Recording, after}
use Rattle.many.specs.Many.{Many, stopped, each}
use Rattle.tally.specs.Kind.{Kind}
use Rattle.directory.specs.View.{Stores}
use Rattle.directory.specs.Calls.{Kept, kept}
use Rattle.directory.specs.declared.Directory.{Directory}
use Rattle.directory.specs.declared.Target.{Target}
use Rattle.seats.specs.Seats.{committed}
use Rattle.value_map.specs.Store.{Store}

-- cells of which a slot holds a series or not
pub record Part (Cells : Type 0) : Type 0 where
  pub updated : Bool
  pub cells : Cells

abbrev pub part : {Cells : Type 0} → Bool → Cells → Part Cells
part u c = record { updated = u; cells = c }

module _ {K : Kind} (S : Store K) where
  -- one value at slot x: once it was taken, the slot holds a series
  unfoldable pub recorded_one : ℕ → Part S.Cells → K.Value → Recording (Part S.Cells)
  recorded_one x p v =
      let o = S.recorded x p.updated p.cells v in
      pick (K.finite v) (after o.no (part (p.updated || eqb o.no 0) o.cells)) (after 6 p)

  -- values one after another at slot x, which held a series or not
  unfoldable pub recorded_all : ℕ → Bool → S.Cells → List K.Value → Many S.Cells
  recorded_all x u c vs =
      let m = each (recorded_one x) (part u c) vs in
      record { taken = m.taken; no = m.no; left = m.left.cells }

  -- what recording at a slot may know: nothing, or that the series held there agrees
  abbrev pub Known : S.Switches → Bool → ℕ → Bool → S.Cells → Type 0
  Known w known x u c = known ≡ true → u ≡ true → K.agrees (S.settings w) (S.at c x) ≡ true

  -- what recording at a seat may count on, unless the number n refused it: settings that configuring accepts, the slot's place, and what is known
  abbrev pub TakesAll : S.Switches → Bool → S.Cells → ℕ → ℕ → Bool → Type 0
  TakesAll w known c n x u = n ≡ 0 → (S.unset ≡ 0) × S.Room c x × Known w known x u c

-- unless a number refused the first value before
unfoldable pub unless_stopped : {Left : Type 0} → ℕ → Left → Many Left → Many Left
unless_stopped n l m = pick (eqb n 0) m (stopped n l)

-- the end of a batch: the directory is written if anything was taken
unfoldable pub finished_all : ℕ → Directory → Stores → List ℕ → Target → Kept
finished_all taken d s row t = pick (eqb taken 0) (kept d s) (committed d s row t)

-- what a single call says where its number is n
unfoldable pub answer_of : ℕ → Said (Option ℕ)
answer_of n = pick (eqb n 0) (success none) (refusal n)
