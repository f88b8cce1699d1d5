-- `value_map::explicit_map::slots_of` meets its contract. Assumes nothing.
use Prim.Native.Nat.{ℕ, ◌+◌, ◌*◌, ◌/◌, min}
use mathlib.Core.Path.{ap, ◌∙◌}
use lib.Dec.{leb}
use Rattle.seats.proofs.Least.{one_less}
use Rattle.value_map.proofs.Products.{rows_none, rows-many, least-none, least-many}
use Rattle.value_map.proofs.explicit_map.slots_of.Goals as goal

pub returns-then-n-eq0 : goal.returns-then-n-eq0
returns-then-n-eq0 c limit =
    let a = c.args in
    ap (leb (limit + 2)) c.min-least.ensures
    ∙ least-none limit a.totals a.extremes _
    (rows_none limit c.bucket_count-n.result a.counts c.if-n-eq0.true ∙ ap (λ (k : ℕ). leb ((limit + 2) * k) a.counts) c.bucket_count-n.ensures ∙ one_less _)

pub returns : goal.returns
returns c limit =
    let a = c.args in
    ap (leb (limit + 2)) (c.min.ensures ∙ ap (λ (k : ℕ). min k (a.counts / c.bucket_count-n.result)) c.min-least.ensures)
    ∙ least-many limit a.totals a.extremes _ (a.counts / c.bucket_count-n.result)
    (rows-many limit c.bucket_count-n.result a.counts c.if-n-eq0.false ∙ ap (λ (k : ℕ). leb ((limit + 2) * k) a.counts) c.bucket_count-n.ensures ∙ one_less _)
