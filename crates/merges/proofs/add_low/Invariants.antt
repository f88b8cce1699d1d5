use Prim.Native.Nat.{◌+◌, ◌≤◌}
use mathlib.Core.Path.{◌≡◌}
use lib.ListN.{length, take}
use Rattle.rows.specs.Rows.{over}
use Rattle.merges.specs.Merges.{add_low}
use Rattle.merges.proofs.add_low.Given as goal

abbrev pub invariant-loop-x : goal.invariant-loop-x
invariant-loop-x l =
    (l.index ≡ l.t + l.x-index) × (l.len ≡ length (add_low l.k l.s l.t (take l.x-index l.other) (take l.n l.initial.counts))) × (l.counts ≡ over (add_low l.k l.s l.t (take l.x-index l.other) (take l.n l.initial.counts)) l.initial.counts) × (length l.counts ≡ length l.initial.counts) × (l.len ≤ length l.initial.counts)
