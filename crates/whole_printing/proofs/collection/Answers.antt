-- `whole_printing::collection` meets its contract: what waits in the end is what the points left give from here. Assumes nothing.
use Prim.Native.Nat.{ℕ}
use mathlib.Core.Path.{sym, ◌∙◌}
use mathlib.Core.List.{List}
use native.Mathlib.Omega.{arith}
use Rattle.listing.specs.Listed.{Output, output}
use Rattle.listing.specs.declared.Cursor.{Cursor}
use Rattle.lines.specs.Gathered.{waiting}
use Rattle.lines.proofs.Gathering.{then}
use Rattle.printing.specs.Printed.{collection_head}
use Rattle.whole_printing.specs.Printed.{line_at, next_at, collection_lines}
use Rattle.printing.proofs.Points.{lines_start, lines-turn, lines_end}
use Rattle.whole_printing.proofs.collection.Goals as goal

pub head-m-requires : goal.head-m-requires
head-m-requires c = tt

pub loop-i-init : goal.loop-i-init
loop-i-init c =
    let listed : Output = let a = c.args in output a.sets.now a.words.now a.pos.now a.neg.now in
    let printed : Cursor → List ℕ = λ at. line_at at (listed) c.args.bounds.now in
    let next : Cursor → Cursor = λ at. next_at at (listed) in
    (lines_start (printed) (next) c.args.many _ _)

pub point-done-requires : goal.point-done-requires
point-done-requires c = tt

pub loop-i-preserved : goal.loop-i-preserved
loop-i-preserved c =
    let listed : Output = let a = c.args in output a.sets.now a.words.now a.pos.now a.neg.now in
    let printed : Cursor → List ℕ = λ at. line_at at (listed) c.args.bounds.now in
    let next : Cursor → Cursor = λ at. next_at at (listed) in
    let l = c.loop-i in
    lines-turn (printed) (next) c.args.many l.done.at _ l._i c.point-done.result.at (omega arith) c.point-done.ensures.text_value c.point-done.ensures.at_value
    ∙ l.invariant

pub returns : goal.returns
unfolding collection_lines
returns c =
    let listed : Output = let a = c.args in output a.sets.now a.words.now a.pos.now a.neg.now in
    let printed : Cursor → List ℕ = λ at. line_at at (listed) c.args.bounds.now in
    let next : Cursor → Cursor = λ at. next_at at (listed) in
    let l = c.loop-i in
    let a = c.args in
    then (collection_head a.start a.time a.many) _ (waiting a.n a.text.now) c.head-m.ensures
    (sym (lines_end (printed) (next) a.many l.done.at _ l._i (omega arith)) ∙ l.invariant)
