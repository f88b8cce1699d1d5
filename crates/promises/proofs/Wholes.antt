-- The two kinds over i64 pay what is owed of their points in lent output: they are stored points whose counts are there, and recording keeps cells
-- that can be lent. Assumes nothing.
use Prim.Native.Nat.{ℕ}
use mathlib.Core.Path.{refl}
use mathlib.Core.Bool.{Bool}
use mathlib.Core.List.{List, []}
use lib.Ieee.{Float}
use Rattle.exponential_whole_slots.specs.Cells as Exponential
use Rattle.explicit_whole_slots.specs.Cells as Explicit
use Rattle.whole_point.specs.Handing.{stored_in, exponential_point, explicit_point}
use Rattle.listing.specs.Listed.{bounds_at}
use Rattle.collecting.specs.Read.{span_of}
use Rattle.exponential_whole_collection.specs.Points.{exponential_whole_lister}
use Rattle.exponential_whole_collection.proofs.Lists as ExponentialLists
use Rattle.explicit_whole_collection.specs.Points.{explicit_whole_lister}
use Rattle.explicit_whole_collection.proofs.Lists as ExplicitLists
use Rattle.explicit_whole_collection.proofs.Lent as ExplicitLent
use Rattle.promises.specs.Numbers.{wholes}
use Rattle.promises.proofs.Runs.{Keeps}
use Rattle.promises.proofs.Stored.{Storing}

pub exponential-keeps : (size top : ℕ) (sums : Bool) → Keeps (exponential_whole_lister size top sums)
exponential-keeps size top sums c x u v f l = ExponentialLists.recording-keeps size top sums x v f.value u c l

pub exponential-storing : (size top : ℕ) (sums : Bool) → Storing wholes (exponential_whole_lister size top sums) []
exponential-storing size top sums =
    let L = exponential_whole_lister size top sums in
    record {
      found = λ at o. refl;
      stored = λ w c x u. stored_in (exponential_point (Exponential.head_at top c x u) w sums) [] (L.pos c x u) (L.neg c x u);
      lies = λ w c x u on l r s. (ExponentialLists.shaped size top sums on c x r w l u s, ExponentialLists.finds size top sums on c x r w l u s);
    }

pub explicit-keeps : (bounds : List Float) (sums : Bool) → Keeps (explicit_whole_lister bounds sums)
explicit-keeps bounds sums c x u v f l = ExplicitLent.recording-keeps bounds sums v f.value x u c l

pub explicit-storing : (bounds : List Float) (sums : Bool) → Storing wholes (explicit_whole_lister bounds sums) bounds
explicit-storing bounds sums =
    record {
      found = λ at o. refl;
      stored = λ w c x u. stored_in (explicit_point (Explicit.head_at c x u) w sums) (bounds_at (span_of bounds) bounds) (Explicit.counts_at bounds c x u) [];
      lies = λ w c x u on l r s. (refl, ExplicitLists.finds bounds sums w c x u l r);
    }
