-- `explicit_whole_batches::measure_by_agreed` meets its contract. Assumes nothing.
use mathlib.Core.Path.{ap, ◌∙◌}
use mathlib.Core.List.{[], ◌∷◌}
use lib.IntN.{ℤ}
use Rattle.integers.proofs.Range as Range
use Rattle.directory.specs.View.{stores}
use Rattle.explicit_whole_slots.specs.Cells.{Cells, cells}
use Rattle.value_map.specs.Calls.{Held, held}
use Rattle.whole_map.specs.Explicit.{explicit_wholes}
use Rattle.batches.specs.Batch.{measured_all_by}
use Rattle.batches.proofs.Ends.{one-by}
use Rattle.explicit_whole_batches.proofs.measure_by_agreed.Goals as goal

pub returns : goal.returns
returns c =
    let lent_map : Held Cells = let a = c.args in held a.d (stores a.sets.now a.entries.now a.order.now) (cells a.totals.now a.extremes.now a.counts.now) in
    let a = c.args in
    one-by (explicit_wholes a.bounds.now a.sums) a.limit (lent_map) a.v c.all_by-got.result c.single.result c.single.ensures _ _ a.h
    (c.all_by-got.ensures ∙ ap (λ (z : ℤ). measured_all_by (explicit_wholes a.bounds.now a.sums) a.limit (lent_map) (z ∷ []) a.h) (Range.held a.v c.ranges.v))
