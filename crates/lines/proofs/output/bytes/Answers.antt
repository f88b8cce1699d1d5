-- `lines::output::bytes` meets its contract: what waits in the end is what the bytes left give from here. Assumes nothing.
use native.Mathlib.Omega.{arith}
use Prim.Native.Nat.{◌+◌}
use mathlib.Core.Path.{sym, ap, ◌∙◌}
use lib.ListN.{drop}
use Rattle.lines.specs.Gathered.{Text, ◌behind◌}
use Rattle.lines.proofs.Gathering.{behind-turn, behind-none}
use Rattle.lines.proofs.output.bytes.Goals as goal

pub loop-b-preserved : goal.loop-b-preserved
loop-b-preserved c =
    let l = c.loop-b in
    ap (λ (w : Text). drop (l.b-index + 1) c.args.all.now behind w) c.byte-m.ensures ∙ sym (behind-turn c.args.all.now l.b-index _ (omega arith)) ∙ l.invariant

pub returns : goal.returns
returns c =
    let l = c.loop-b in
    sym (behind-none c.args.all.now l.b-index _ (omega arith)) ∙ l.invariant
