-- `sets::set_row::sound` meets its contract. Assumes nothing.
use mathlib.Core.Path.{sym, ◌∙◌}
use native.Mathlib.Omega.{arith}
use Rattle.sets.proofs.Keyed.{unsound-none, unsound-many, sound-keys}
use Rattle.sets.proofs.set_row.sound.Goals as goal

pub returns-then-n-lt1 : goal.returns-then-n-lt1
returns-then-n-lt1 c =
    sym (unsound-none c.args.row.now c.if-n-lt1.true)

pub returns-then-n-gt8 : goal.returns-then-n-gt8
returns-then-n-gt8 c =
    sym (unsound-many c.args.row.now c.if-n-gt8.true)

pub rises-requires : goal.rises-requires
rises-requires c = (omega (arith, c.if-n-lt1.false), c.if-n-gt8.false, (λ k h. absurd (omega arith)))

pub returns : goal.returns
returns c =
    c.rises.ensures ∙ sym (sound-keys c.args.row.now c.if-n-lt1.false c.if-n-gt8.false)
