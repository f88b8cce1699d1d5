-- What the calls of this crate answer. Assumes nothing.
use Rattle.std.specs.Prelude.{ℕ, leb, eqb, Float}
use Rattle.std.specs.Float.Ieee.Scale.{finite}
use Rattle.laws.specs.Pick.{pick}
use Rattle.index.specs.Magnitude.{magnitude, is_negative}
use Rattle.index.specs.Bins.{finest, bin_at}
use Rattle.index.specs.declared.Bin.{Bin}
use Rattle.index.specs.declared.Bin.TheVariants.{NoLevel, NotFinite, Zero, At}

-- the bin of x at a level, with x's sign
unfoldable pub bin_of : Float → ℕ → Bin
bin_of x level =
    pick (leb level finest)
    (pick (finite x)
    (pick (eqb (magnitude x) 0)
    Zero
    (At (is_negative x) (bin_at level (magnitude x))))
    NotFinite)
    NoLevel
