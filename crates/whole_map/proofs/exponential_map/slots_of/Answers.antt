-- `whole_map::exponential_map::slots_of` meets its contract. Assumes nothing.
use Prim.Native.Nat.{◌+◌, ◌*◌, ◌/◌, min}
use mathlib.Core.Path.{ap, ◌∙◌}
use mathlib.Core.Bool.{true, ◌&&◌}
use lib.Dec.{leb}
use Rattle.seats.proofs.Least.{both_suffice, one_less}
use Rattle.value_map.proofs.Products.{rows_none, rows-many, least-none, least-many}
use Rattle.whole_map.proofs.exponential_map.slots_of.Goals as goal

pub returns-then-n-eq0 : goal.returns-then-n-eq0
returns-then-n-eq0 c limit =
    let a = c.args in
    ap (leb (limit + 2)) c.min-least.ensures
    ∙ least-none limit a.figures a.extremes _ (λ i. rows_none limit a.size a.pos c.if-n-eq0.true i && (rows_none limit a.size a.neg c.if-n-eq0.true i && true))

pub returns : goal.returns
returns c limit =
    let a = c.args in
    ap (leb (limit + 2)) (c.min.ensures ∙ (λ i. min (c.min-least.ensures i) (c.min-counts.ensures i / a.size)))
    ∙ least-many limit a.figures a.extremes _ (min a.pos a.neg / a.size)
    (rows-many limit a.size (min a.pos a.neg) c.if-n-eq0.false ∙ both_suffice a.pos a.neg ((limit + 2) * a.size)
    ∙ (λ i. leb ((limit + 2) * a.size) a.pos && one_less (leb ((limit + 2) * a.size) a.neg) i))
