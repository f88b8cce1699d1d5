-- BETWEEN OUR OWN CRATES: serves inner contracts and proofs; nobody needs it to believe the public calls or the theorems.
-- What a caller has asked before values are recorded at a slot. Assumes nothing.
use Rattle.std.specs.Prelude.{ℕ, ◌<◌, ◌≡◌, Bool, true, List, length, get_or}
use Rattle.tally.specs.Kind.{Kind}
use Rattle.value_map.specs.Store.{Store}
use Rattle.batches.specs.Inner.{Known}

-- the slot's place, the settings, a first value that is finite, and where that is known a series that agrees; `nought`: what is read beyond a
-- list's end
pub record Asked {K : Kind} (S : Store K) (w : S.Switches) (nought : K.Value) (known : Bool) (x : ℕ) (u : Bool) (c : S.Cells) (vs : List K.Value) : Type 0 where
  pub room : S.Room c x
  pub set : S.unset ≡ 0
  pub some : 0 < length vs
  pub first : K.finite (get_or vs 0 nought) ≡ true
  pub series : Known S w known x u c
