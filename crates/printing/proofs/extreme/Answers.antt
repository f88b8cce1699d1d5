-- `printing::extreme` meets its contract. Assumes nothing.
use Prim.Native.Nat.{ℕ}
use mathlib.Core.Path.{sym, ap, ◌∙◌}
use mathlib.Core.List.{◌∷◌}
use Rattle.text.specs.Numbers.{hex_digits}
use Rattle.std.specs.Prelude.{Option, Float}
use Rattle.lines.specs.Gathered.{waiting}
use Rattle.lines.proofs.Gathering.{spelt}
use Rattle.printing.specs.Fields.{float_field, extreme_field}
use Rattle.printing.proofs.extreme.Goals as goal

pub returns-in-None : goal.returns-in-None
returns-in-None c =
    let a = c.args in
    spelt (ap (λ (x : Option Float). 32 ∷ extreme_field x) (sym c.in-None.is)) (waiting a.n a.text.now) c.bytes.ensures

pub returns-in-Some : goal.returns-in-Some
unfolding float_field
returns-in-Some c =
    let a = c.args in
    spelt
    (ap (λ (k : ℕ). 32 ∷ hex_digits 16 k) c.bits_of.ensures
    ∙ ap (λ (x : Option Float). 32 ∷ extreme_field x) (sym c.in-Some.is))
    (waiting a.n a.text.now) c.bits.ensures
