-- A KIND'S STORE: what the map's calls ask of a kind of series that lies in lent memory, under settings that are fixed. Each kind is one such
-- record (Exponential.antt, Explicit.antt, Stores.antt of crate singles); the calls are defined over it once (Calls.antt). Assumes nothing.
use Rattle.std.specs.Prelude.{ℕ, ◌+◌, ◌*◌, Bool, ◌&&◌, List, leb}
use Rattle.laws.specs.Tests.{all}
use Rattle.tally.specs.Kind.{Kind}
pub use Rattle.rows.specs.Recording.{Recording}

pub record Store (K : Kind) : Type 1 where
  -- the settings that no recording reads: they act where a point is handed out
  pub Switches : Type 0
  pub settings : Switches → K.Settings
  -- the number with which configuring refuses the settings: "1, 2, 3" of "1, 2, 3, 4, 12"; 0 if it accepts them
  pub unset : ℕ
  -- the series' stores, beside the directory's
  pub Cells : Type 0
  -- "12: a lent count store under (limit + 2) × .. counts, or any other lent store under limit + 2 entries", of the series' stores
  pub suffices : ℕ → Cells → Bool
  -- a slot lies in the cells
  pub Room : Cells → ℕ → Type 0
  -- the series that lies at a slot
  pub at : Cells → ℕ → K.Series
  -- a value recorded at a slot, which holds a series where its entry was updated
  pub recorded : ℕ → Bool → Cells → K.Value → Recording Cells

-- "12: a lent count store under (limit + 2) × max_size counts (explicit: × buckets, one store), or any other lent store under limit + 2
-- entries": by the lengths of the count stores, which have n counts a slot, and of the others
abbrev pub lengths_suffice : ℕ → ℕ → List ℕ → List ℕ → Bool
lengths_suffice n limit counts others = all (leb (limit + 2)) others && all (leb ((limit + 2) * n)) counts
