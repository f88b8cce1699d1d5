-- `sweep::passes::stays` meets its contract. Assumes nothing.
use mathlib.Core.Path.{ap, ◌∙◌}
use Prim.Native.Nat.{ℕ}
use lib.Dec.{eqb}
use Rattle.tally.specs.Map.{plain}
use Rattle.sets.specs.Rows.{set_of}
use Rattle.sweep.proofs.Turns.{stays-used, stays-bound, stays-other, empty-other, less-bit}
use Rattle.sweep.proofs.passes.stays.Goals as goal

pub returns-then-updated-ne0 : goal.returns-then-updated-ne0
returns-then-updated-ne0 c =
    let a = c.args in
    stays-used a.updated a.bindings (plain (set_of a.row.now)) c.if-updated-ne0.true

pub returns-then-bindings-ne0 : goal.returns-then-bindings-ne0
returns-then-bindings-ne0 c =
    let a = c.args in
    stays-bound a.updated a.bindings (plain (set_of a.row.now)) c.if-updated-ne0.false c.if-bindings-ne0.true

pub returns-then-row-eq0 : goal.returns-then-row-eq0
returns-then-row-eq0 c =
    let a = c.args in
    empty-other a.row.now c.if-row-eq0.true ∙ stays-other a.updated a.bindings (plain (set_of a.row.now)) c.if-updated-ne0.false c.if-bindings-ne0.false

pub returns : goal.returns
returns c =
    let a = c.args in
    ap (λ (n : ℕ). eqb n 0) c.plain_row.ensures ∙ less-bit (plain (set_of a.row.now)) ∙ stays-other a.updated a.bindings (plain (set_of a.row.now)) c.if-updated-ne0.false c.if-bindings-ne0.false
