-- WHAT COLLECTING ASKS of a kind's store: the point of a slot's series as it lies in lent output. Each kind is one such record; the
-- collecting calls are defined over it once (Collected.antt). Assumes nothing.
use Rattle.std.specs.Prelude.{ℕ, Bool, List}
use Rattle.std.proofs.Math.Option.{Option}
use Rattle.tally.specs.Kind.{Kind}
use Rattle.value_map.specs.Store.{Store}
use Rattle.listing.specs.Listed.{Output}
use Rattle.listing.specs.declared.Cursor.{Cursor}

pub record Lister {K : Kind} (S : Store K) : Type 1 where
  -- cells that can be lent: the floats among them are f64s
  pub Lent : S.Cells → Type 0
  -- of a slot's series where its entry was updated, else of one without values: the words of its point under the switches, and its counts
  pub words : S.Switches → S.Cells → ℕ → Bool → List ℕ
  pub pos : S.Cells → ℕ → Bool → List ℕ
  pub neg : S.Cells → ℕ → Bool → List ℕ
  -- the reader: the point that lies at a cursor of a list, if one does, and the cursor of the next
  pub found : Cursor → Output → Option (K.Point × Cursor)
