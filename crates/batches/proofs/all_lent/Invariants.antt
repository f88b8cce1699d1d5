-- `batches::all_lent` meets its contract. Assumes nothing.
use Prim.Native.Nat.{ℕ, ◌<◌}
use mathlib.Core.List.{[]}
use lib.ListN.{get_or}
use Rattle.batches.proofs.all_lent.Given as goal

abbrev pub invariant-loop-a : goal.invariant-loop-a
invariant-loop-a l = (k : ℕ) → k < l.a-index → (get_or (get_or l.attrs k []) 0 0 < 4294967296) × (get_or (get_or l.attrs k []) 1 0 < 4294967296)
