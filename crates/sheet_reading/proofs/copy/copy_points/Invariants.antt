-- `sheet_reading::copy::copy_points` meets its contract. Assumes nothing.
use Prim.Native.Nat.{ℕ}
use mathlib.Core.List.{List}
use lib.Ieee.{Float}
use Rattle.pooling.specs.Lists.{Source}
use Rattle.sheet_reading.proofs.WalkLaws.{Left}
use Rattle.sheet_reading.proofs.copy.copy_points.Given as goal

abbrev lent : List (List ℕ) → List (List ℕ) → List ℕ → List ℕ → List Float → Source
lent sets words pos neg bounds = record { list = record { sets = sets; words = words; pos = pos; neg = neg }; bounds = bounds }

abbrev pub invariant-loop-i : goal.invariant-loop-i
invariant-loop-i l =
    Left l.s l.n (lent l.initial.sets l.initial.words l.initial.pos l.initial.neg l.initial.bounds) l.y l.k l.i (lent l.sets l.words l.pos l.neg l.bounds)
