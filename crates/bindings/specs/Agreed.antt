-- A MAP THAT AGREES, as `bind_agreed` and `release_agreed` require it: what the public calls ask of lent memory and of its configuration each
-- time, once and for all. Assumes nothing.
use Rattle.std.specs.Prelude.{ℕ, ◌≡◌, true, List}
use Rattle.std.proofs.Math.Option.{Option}
use Rattle.directory.specs.Calls.{accepts, stores_suffice}
use Rattle.directory.specs.View.{Stores, agreesb}
use Rattle.directory.specs.declared.Directory.{Directory}

-- 12 and 8 do not come up: the stores suffice, the directory agrees, and configuring accepted the limit and the filter
pub record Agreed (limit : ℕ) (filter : Option (List ℕ)) (d : Directory) (s : Stores) : Type 0 where
  pub agrees : agreesb limit d s ≡ true
  pub lent : stores_suffice limit s ≡ true
  pub accepted : accepts limit filter ≡ true
