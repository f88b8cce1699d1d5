-- BETWEEN OUR OWN CRATES: serves inner contracts and proofs; nobody needs it to believe the public calls or the theorems.
-- Seatings that are barred, and room in the stores: the definitions of functions between our own crates. Assumes nothing.
use Rattle.std.specs.Prelude.{ℕ, ◌+◌, ◌^◌, ◌≤◌, ◌<◌, ◌≡◌, Bool, true, ◌&&◌, List, eqb, leb, length}
use Rattle.laws.specs.Pick.{pick}
use Rattle.directory.specs.View.{Stores, agreesb}
use Rattle.directory.specs.Calls.{stores_suffice}
use Rattle.directory.specs.declared.Directory.{Directory}
use Rattle.directory.specs.declared.Target.{Target}
use Rattle.directory.specs.declared.Target.TheVariants.{Disagrees, Old, New, Over}
use Rattle.seats.specs.Seats.{barred_by}

-- `barred_by`, of what the kind found (how many slots its cells have room for, whether it takes the value, its settings' number), the
-- directory's stores, a number of attributes, and a limit and a filter that configuring accepts or not
abbrev pub barred_at : ℕ → Bool → ℕ → ℕ → Stores → ℕ → Bool → ℕ
barred_at cells value unset limit s n ok = barred_by (stores_suffice limit s && leb (limit + 2) cells) value n (eqb unset 0 && ok)

-- the row that the call is lent: that of its set, unless a number bars the call, and then as it was
unfoldable pub row_unless_barred : ℕ → List ℕ → List ℕ → List ℕ
row_unless_barred n row old = pick (eqb n 0) row old

-- what a call may know of the map that it is lent, so that 12 and 8 do not come up; `slots`: how many the kind's cells have room for
pub record Sure (slots unset limit : ℕ) (d : Directory) (s : Stores) (ok : Bool) : Type 0 where
  pub sets : limit + 2 ≤ length s.sets
  pub entries : limit + 2 ≤ length s.entries
  pub order : limit + 2 ≤ length s.order
  pub cells : limit + 2 ≤ slots
  pub set : unset ≡ 0
  pub accepted : ok ≡ true
  pub agrees : agreesb limit d s ≡ true

-- there is room for a new entry at a place
pub record Roomy (d : Directory) (s : Stores) (r : ℕ) : Type 0 where
  pub sets : d.used + 1 < length s.sets
  pub entries : d.used + 1 < length s.entries
  pub order : d.used < length s.order
  pub rank : r ≤ d.used
  pub slot : d.used + 1 < 2 ^ 32
  pub last : d.last + 1 < 2 ^ 64
  pub count : d.count + 1 < 2 ^ 64

-- what is to be written has its place in the stores: a seat that is not refused guarantees it (proofs/Seatings.antt, `Safe`)
abbrev pub Fits : Directory → Stores → Target → Type 0
Fits d s Disagrees = Unit
Fits d s (Old x) = x < length s.entries
Fits d s (New r) = Roomy d s r
Fits d s (Over r) = Roomy d s r
