-- `printing::counts` meets its contract: what waits in the end is what the counts left give from here. Assumes nothing.
use mathlib.Core.Path.{sym, ◌∙◌}
use mathlib.Core.List.{map}
use native.Mathlib.Omega.{arith}
use Rattle.lines.specs.Written.{decimal}
use Rattle.printing.proofs.Putting.{from_start, joined-turn, joined_end}
use Rattle.printing.proofs.counts.Goals as goal

pub loop-i-init : goal.loop-i-init
loop-i-init c = (from_start 44 (map decimal c.args.row.now) _)

pub comma-a-requires : goal.comma-a-requires
comma-a-requires c = tt

pub decimal-m-requires : goal.decimal-m-requires
decimal-m-requires c = tt

pub loop-i-preserved : goal.loop-i-preserved
loop-i-preserved c =
    let l = c.loop-i in
    (joined-turn decimal c.args.row.now 44 l.i _ 0 (omega arith) c.comma-a.ensures c.decimal-m.ensures ∙ l.invariant)

pub returns : goal.returns
returns c =
    let l = c.loop-i in
    sym (joined_end decimal c.args.row.now 44 l.i _ (omega arith)) ∙ l.invariant
