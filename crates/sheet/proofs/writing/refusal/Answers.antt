-- `sheet::writing::refusal` meets its contract. Assumes nothing.
use Prim.Native.Nat.{ℕ}
use mathlib.Core.Path.{ap}
use mathlib.Core.List.{[], ◌∷◌}
use Rattle.lines.specs.Gathered.{waiting}
use Rattle.lines.specs.Written.{decimal}
use Rattle.lines.proofs.Gathering.{spelt}
use Rattle.printing.proofs.Putting.{a-line, a-field, no_field}
use Rattle.sheet.specs.Shown.{refusal_line}
use Rattle.sheet.proofs.writing.refusal.Goals as goal

pub returns : goal.returns
unfolding refusal_line
returns g c =
    let a = c.args in
    let no = g.E.Numbered.number a.no in
    a-line (33 ∷ []) (decimal no ∷ []) (waiting a.n a.text.now) c.byte-a.ensures
    (a-field 32 _ (decimal no) [] (spelt (ap (λ (k : ℕ). 32 ∷ decimal k) c.number.ensures) _ c.number-b.ensures) (no_field 32 _)) c.byte.ensures
