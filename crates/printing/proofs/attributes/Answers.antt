-- `printing::attributes` meets its contract: what waits in the end is what the attributes left give from here. Assumes nothing.
use Prim.Native.Nat.{ℕ, ◌<◌}
use mathlib.Core.Path.{◌≡◌, sym, ap, ◌∙◌}
use mathlib.Core.List.{map}
use native.Mathlib.Omega.{arith}
use lib.ListN.{length, length-take}
use lib.Seq.{get_or-take}
use Rattle.sets.specs.Rows.{pair}
use Rattle.lines.proofs.Gathering.{spelt}
use Rattle.printing.specs.Fields.{attribute_field}
use Rattle.printing.proofs.Putting.{from_start, joined-turn, joined_end}
use Rattle.printing.proofs.Sets.{eight, eight-length, eight-at}
use Rattle.printing.proofs.attributes.Goals as goal

pub loop-i-init : goal.loop-i-init
loop-i-init c = from_start 44 (map attribute_field (eight c.args.row)) _

pub loop-i-preserved : goal.loop-i-preserved
loop-i-preserved c =
    let l = c.loop-i in
    let row = c.args.row in
    let k = c.min-many.result in
    let n = length-take k row in
    let h : l.i < k = omega (arith, n, c.loop-i-test.true) in
    let e = eight-at row l.i (omega (arith, h, c.min-many.ensures)) (omega (arith, h, c.min-many.ensures)) in
    joined-turn attribute_field (eight row) 44 l.i _ (pair 0) (omega (arith, eight-length row, h, c.min-many.ensures)) c.comma-a.ensures
    (spelt (ap (λ (x : ℕ). attribute_field (pair x)) (get_or-take k row l.i 0 h) ∙ ap attribute_field (sym e)) _ c.attribute-m.ensures)
    ∙ l.invariant

pub returns : goal.returns
returns c =
    let l = c.loop-i in
    let row = c.args.row in
    let g : length row ≡ 9 = omega arith in
    let n = length-take c.min-many.result row in
    sym (joined_end attribute_field (eight row) 44 l.i _ (omega (arith, eight-length row, n, g, c.min-many.ensures))) ∙ l.invariant
