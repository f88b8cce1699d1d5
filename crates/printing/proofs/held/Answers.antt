-- `printing::held` meets its contract. Assumes nothing.
use Prim.Native.Nat.{ℕ}
use mathlib.Core.Path.{ap}
use mathlib.Core.List.{[], ◌∷◌}
use Rattle.text.specs.Numbers.{hex_digits}
use Rattle.lines.specs.Gathered.{waiting}
use Rattle.lines.proofs.Gathering.{spelt}
use Rattle.printing.specs.Fields.{float_field, extreme_field}
use Rattle.printing.proofs.Putting.{a-field, no_field}
use Rattle.printing.proofs.held.Goals as goal

pub returns : goal.returns
unfolding float_field
returns c =
    let a = c.args in
    let sum = float_field a.p.sum in
    let max = extreme_field a.p.max in
    a-field 32 (waiting a.n a.text.now) (extreme_field a.p.min) (max ∷ sum ∷ []) c.extreme-a.ensures
    (a-field 32 _ max (sum ∷ []) c.extreme-b.ensures
    (a-field 32 _ sum [] (spelt (ap (λ (k : ℕ). 32 ∷ hex_digits 16 k) c.sum_bits.ensures) _ c.bits.ensures) (no_field 32 _)))
