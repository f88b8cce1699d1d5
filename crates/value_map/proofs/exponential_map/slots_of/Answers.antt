-- `value_map::exponential_map::slots_of` meets its contract. Assumes nothing.
use Prim.Native.Nat.{◌+◌, ◌/◌, min}
use mathlib.Core.Path.{ap, ◌∙◌}
use mathlib.Core.Bool.{true, ◌&&◌}
use lib.Dec.{leb}
use Rattle.seats.proofs.Least.{both_suffice, one_less}
use Rattle.value_map.proofs.Products.{rows_none, rows-many, least-none, least-many}
use Rattle.value_map.proofs.exponential_map.slots_of.Goals as goal

pub returns-then-n-eq0 : goal.returns-then-n-eq0
returns-then-n-eq0 c limit =
    let a = c.args in
    ap (leb (limit + 2)) c.min-least.ensures
    ∙ least-none limit a.figures a.extremes _ (λ i. rows_none limit a.size a.pos c.if-n-eq0.true i && (rows_none limit a.size a.neg c.if-n-eq0.true i && true))

pub returns : goal.returns
returns c limit =
    let a = c.args in
    ap (leb (limit + 2)) (c.min.ensures ∙ (λ i. min (c.min-least.ensures i) (c.min-rows.ensures i)))
    ∙ least-many limit a.figures a.extremes _ (min (a.pos / a.size) (a.neg / a.size))
    (both_suffice (a.pos / a.size) (a.neg / a.size) (limit + 2) ∙ (λ i. rows-many limit a.size a.pos c.if-n-eq0.false i && (rows-many limit a.size a.neg c.if-n-eq0.false ∙ one_less _) i))
