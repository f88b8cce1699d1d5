-- `sheet::digits::record_lines` meets its contract: what waits in the end is what the records left give from here. Assumes nothing.
use Prim.Native.Nat.{ℕ, ◌+◌, ◌-◌, ◌*◌}
use mathlib.Core.Path.{◌≡◌, sym, ap, ◌∙◌}
use native.Mathlib.Omega.{arith}
use lib.ListN.{take, drop}
use Rattle.lines.proofs.Gathering.{spelt}
use Rattle.sheet.specs.Digits.{record_line}
use Rattle.sheet.proofs.Hex.{lines_start, lines-turn, lines_end}
use Rattle.sheet.proofs.digits.record_lines.Goals as goal

pub loop-k-init : goal.loop-k-init
loop-k-init c = lines_start _ 0 _ _

pub record_line-m-requires : goal.record_line-m-requires
record_line-m-requires c = tt

pub loop-k-preserved : goal.loop-k-preserved
loop-k-preserved c =
    let l = c.loop-k in
    let e : l.k * 32 + 32 - l.k * 32 ≡ 32 = omega arith in
    let f = spelt (ap (λ (j : ℕ). record_line (take j (drop (l.k * 32) c.args.bytes.now))) e) _ c.record_line-m.ensures in
    lines-turn _ l.k c.args.bytes.now _ (omega arith) f ∙ l.invariant

pub returns : goal.returns
returns c =
    let l = c.loop-k in
    sym (lines_end _ l.k c.args.bytes.now _ (omega arith)) ∙ l.invariant
