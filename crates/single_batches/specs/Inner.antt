-- BETWEEN OUR OWN CRATES: serves inner contracts and proofs; nobody needs it to believe the public calls or the theorems.
-- One value more on what a slot holds. Assumes nothing.
use Rattle.std.specs.Prelude.{Float}
use Rattle.laws.specs.Pick.{pick}
use Rattle.rows.specs.Recording.{Recording, after}
use Rattle.singles.specs.declared.Aggregation.{Aggregation}
use Rattle.singles.specs.Kinds.{step, singles}

-- what a value makes of the f64 that is held, with its number: 6 where it is not finite
unfoldable pub stepped : Aggregation → Float → Float → Recording Float
stepped a x v = pick ((singles a).finite v) (after 0 (step a x v)) (after 6 x)
