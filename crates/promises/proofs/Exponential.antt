-- The exponential kind pays what is owed of its points in lent output: they are stored points whose counts are there, and recording keeps cells that
-- can be lent. Assumes nothing.
use Prim.Native.Nat.{ℕ}
use mathlib.Core.Path.{refl}
use mathlib.Core.Bool.{Bool}
use mathlib.Core.List.{[]}
use Rattle.exponential_slots.specs.Cells.{Cells, head_at}
use Rattle.point.specs.Handing.{Stored, stored_in, exponential_point}
use Rattle.exponential_collection.specs.Points.{exponential_lister}
use Rattle.exponential_collection.proofs.Lists.{shaped, finds, recording-keeps}
use Rattle.promises.specs.Numbers.{reals}
use Rattle.promises.proofs.Runs.{Keeps}
use Rattle.promises.proofs.Stored.{Storing}

pub keeps : (size top : ℕ) → Keeps (exponential_lister size top)
keeps size top c x u v f l = recording-keeps size top x v f.value u c l

-- a slot's point as it is stored
abbrev stored_at : (size top : ℕ) → Bool × Bool → Cells → ℕ → Bool → Stored
stored_at size top w c x u =
    stored_in (exponential_point (head_at top c x u) w.0 w.1) [] ((exponential_lister size top).pos c x u) ((exponential_lister size top).neg c x u)

pub storing : (size top : ℕ) → Storing reals (exponential_lister size top) []
storing size top =
    record {
      found = λ at o. refl;
      stored = stored_at size top;
      lies = λ w c x u on l r s. (shaped size top on c x r w l u s, finds size top on c x r w l u s);
    }
