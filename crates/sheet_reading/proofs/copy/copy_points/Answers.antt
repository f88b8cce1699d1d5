-- `sheet_reading::copy::copy_points` meets its contract. Assumes nothing.
use Prim.Native.Nat.{ℕ, ◌≤◌}
use mathlib.Core.List.{List}
use native.Mathlib.Omega.{arith}
use lib.Ieee.{Float}
use Rattle.pooling.specs.Lists.{Source}
use Rattle.sheet_reading.proofs.WalkLaws.{left-start, left-done, left-next}
use Rattle.sheet_reading.proofs.WalkLaws.{next_small, head-there, head-passes, sizes-few, entry-room, addable, words_small}
use Rattle.sheet_reading.proofs.copy.copy_points.Goals as goal

abbrev lent : List (List ℕ) → List (List ℕ) → List ℕ → List ℕ → List Float → Source
lent sets words pos neg bounds = record { list = record { sets = sets; words = words; pos = pos; neg = neg }; bounds = bounds }

pub loop-i-init : goal.loop-i-init
loop-i-init c =
    let a = c.args in
    left-start a.s.now a.n (lent a.sets.now a.words.now a.pos.now a.neg.now a.bounds.now) c.requires

pub overflow_add-k : goal.overflow_add-k
overflow_add-k c = omega (arith, next_small c.loop-i.invariant c.loop-i-test.true)

pub head_at-w-requires : goal.head_at-w-requires
head_at-w-requires c = head-there c.loop-i.invariant c.loop-i-test.true

pub sizes_of-z-requires : goal.sizes_of-z-requires
sizes_of-z-requires c =
    head-passes c.loop-i.invariant c.loop-i-test.true c.head_at-w.result c.head_at-w.ensures

pub copy_entry-requires : goal.copy_entry-requires
copy_entry-requires c =
    entry-room c.loop-i.invariant c.loop-i-test.true c.head_at-w.result c.head_at-w.ensures c.sizes_of-z.result c.sizes_of-z.ensures

pub added-y-requires : goal.added-y-requires
added-y-requires c =
    addable c.loop-i.invariant c.loop-i-test.true c.head_at-w.result c.head_at-w.ensures c.sizes_of-z.result c.sizes_of-z.ensures

pub words_in-k-requires : goal.words_in-k-requires
words_in-k-requires c =
    sizes-few c.loop-i.invariant c.loop-i-test.true c.head_at-w.result c.head_at-w.ensures c.sizes_of-z.result c.sizes_of-z.ensures

pub overflow_add-k-in-loop-i : goal.overflow_add-k-in-loop-i
overflow_add-k-in-loop-i c =
    omega (
      arith,
      words_small c.loop-i.invariant c.loop-i-test.true c.head_at-w.result c.head_at-w.ensures c.sizes_of-z.result
          c.sizes_of-z.ensures c.words_in-k.result c.words_in-k.ensures,
    )

pub loop-i-preserved : goal.loop-i-preserved
loop-i-preserved c =
    left-next c.loop-i.invariant c.loop-i-test.true c.head_at-w.result c.head_at-w.ensures c.sizes_of-z.result c.sizes_of-z.ensures
    c.added-y.result c.words_in-k.result _ c.added-y.ensures c.words_in-k.ensures c.copy_entry.ensures

pub returns : goal.returns
returns c =
    let l = c.loop-i in
    let h : c.args.n ≤ l.i = omega (arith, c.loop-i-test.false) in
    left-done l.invariant h
