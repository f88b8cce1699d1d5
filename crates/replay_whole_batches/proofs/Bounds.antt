-- What a batch of the explicit kind over i64 comes to is the same where its bounds are. Assumes nothing.
use Prim.Native.Nat.{ℕ}
use mathlib.Core.Path.{◌≡◌, ap}
use mathlib.Core.Bool.{Bool}
use mathlib.Core.List.{List}
use mathlib.Core.Option.{Option}
use lib.IntN.{ℤ}
use lib.Ieee.{Float}
use Rattle.tally.specs.Sets.{Set}
use Rattle.explicit_whole_slots.specs.Cells.{Cells}
use Rattle.value_map.specs.Calls.{Held}
use Rattle.whole_map.specs.Explicit.{explicit_wholes}
use Rattle.batches.specs.Batch.{measured_all, measured_all_by}

module _ {b b' : List Float} (k : b ≡ b') (sums : Bool) (limit : ℕ) where
  pub of-bounds : (filter : Option (List ℕ)) (h : Held Cells) (vs : List ℤ) (attrs : Set)
      → measured_all (explicit_wholes b sums) limit filter h vs attrs ≡ measured_all (explicit_wholes b' sums) limit filter h vs attrs
  of-bounds filter h vs attrs = ap (λ (x : List Float). measured_all (explicit_wholes x sums) limit filter h vs attrs) k

  pub of-bounds-by : (h : Held Cells) (vs : List ℤ) (handle : ℕ)
      → measured_all_by (explicit_wholes b sums) limit h vs handle ≡ measured_all_by (explicit_wholes b' sums) limit h vs handle
  of-bounds-by h vs handle = ap (λ (x : List Float). measured_all_by (explicit_wholes x sums) limit h vs handle) k
