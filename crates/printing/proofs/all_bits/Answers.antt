-- `printing::all_bits` meets its contract: what waits in the end is what the bounds left give from here. Assumes nothing.
use mathlib.Core.Path.{sym, ap, ◌∙◌}
use mathlib.Core.List.{map}
use native.Mathlib.Omega.{arith}
use Rattle.text.specs.Numbers.{hex_digits}
use Rattle.lines.proofs.Gathering.{spelt}
use Rattle.printing.specs.Fields.{float_field}
use Rattle.printing.proofs.Putting.{from_start, joined-turn, joined_end}
use Rattle.printing.proofs.all_bits.Goals as goal

pub loop-i-init : goal.loop-i-init
loop-i-init c = (from_start 44 (map float_field c.args.bounds.now) _)

pub comma-a-requires : goal.comma-a-requires
comma-a-requires c = tt

pub bits_of-requires : goal.bits_of-requires
bits_of-requires c = tt

pub bits-m-requires : goal.bits-m-requires
bits-m-requires c = tt

pub loop-i-preserved : goal.loop-i-preserved
unfolding float_field
loop-i-preserved c =
    let l = c.loop-i in
    joined-turn float_field c.args.bounds.now 44 l.i _ _ (omega arith) c.comma-a.ensures
    (spelt (ap (hex_digits 16) c.bits_of.ensures) _ c.bits-m.ensures) ∙ l.invariant

pub returns : goal.returns
returns c =
    let l = c.loop-i in
    sym (joined_end float_field c.args.bounds.now 44 l.i _ (omega arith)) ∙ l.invariant
