-- `lines::output::bits` meets its contract. Assumes nothing.
use Prim.Native.Nat.{ℕ}
use mathlib.Core.Path.{ap, ◌∙◌}
use mathlib.Core.List.{List}
use Rattle.lines.specs.Gathered.{waiting, ◌behind◌}
use Rattle.lines.proofs.output.bits.Goals as goal

pub returns : goal.returns
returns c =
    let a = c.args in
    c.sixteen.ensures ∙ ap (λ (ds : List ℕ). ds behind waiting a.n a.text.now) c.hex_digits-digits.ensures
