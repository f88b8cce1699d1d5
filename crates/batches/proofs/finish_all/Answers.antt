-- `batches::finish_all` meets its contract. Assumes nothing.
use mathlib.Core.Path.{ap, ◌∙◌}
use Rattle.numbered.specs.Numbered.{code_by}
use Rattle.many.specs.Many.{many}
use Rattle.directory.specs.View.{Stores, stores}
use Rattle.directory.specs.Calls.{Kept}
use Rattle.batches.proofs.Batches.{finish-none, finish-some}
use Rattle.batches.proofs.finish_all.Goals as goal

pub returns-then-taken-eq0 : goal.returns-then-taken-eq0
returns-then-taken-eq0 g c =
    let lent : Stores = stores c.args.sets.now c.args.entries.now c.args.order.now in
    let a = c.args in
    ap (λ (k : Kept). many a.taken (code_by g.E.Numbered.number a.end) k) (finish-none a.taken a.d (lent) a.row.now a.target c.if-taken-eq0.true)

pub commit-e-requires : goal.commit-e-requires
commit-e-requires g c = c.requires c.if-taken-eq0.false

pub returns : goal.returns
returns g c =
    let lent : Stores = stores c.args.sets.now c.args.entries.now c.args.order.now in
    let a = c.args in
    ap (λ (x : Kept). many a.taken (code_by g.E.Numbered.number a.end) x) (c.commit-e.ensures ∙ finish-some a.taken a.d (lent) a.row.now a.target c.if-taken-eq0.false)
