use Prim.Native.Nat.{◌≤◌}
use mathlib.Core.Path.{◌≡◌}
use lib.ListN.{take}
use Rattle.points.specs.Explicit.{bucket_of}
use Rattle.explicit.proofs.bucket_of.Given as goal

abbrev pub invariant-loop-b : goal.invariant-loop-b
invariant-loop-b l = (l.k ≤ l.b-index) × (l.k ≡ bucket_of (take l.b-index l.bounds) l.v)
