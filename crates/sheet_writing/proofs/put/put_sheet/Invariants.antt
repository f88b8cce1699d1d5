-- `sheet_writing::put::put_sheet` meets its contract. Assumes nothing.
use mathlib.Core.Path.{◌≡◌}
use Prim.Native.Nat.{◌-◌}
use Rattle.pooling.specs.Lists.{Source}
use Rattle.sheet_writing.specs.Inner.{put_from}
use Rattle.sheet_writing.proofs.Walk.{Left}
use Rattle.sheet_writing.proofs.put.put_sheet.Given as goal

abbrev pub invariant-loop-i : goal.invariant-loop-i
invariant-loop-i l =
    let x : Source = record { list = record { sets = l.sets; words = l.words; pos = l.pos; neg = l.neg }; bounds = l.bounds } in
    Left l.n l.i l.records l.at l.k x
    × (put_from l.n l.initial.at l.info l.records l.initial.k x l.initial.s ≡ put_from (l.n - l.i) l.at l.info l.records l.k x l.s)
