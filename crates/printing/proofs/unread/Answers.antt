-- `printing::unread` meets its contract. Assumes nothing.
use mathlib.Core.List.{[], ◌∷◌}
use Rattle.lines.specs.Gathered.{waiting}
use Rattle.lines.specs.Written.{decimal}
use Rattle.printing.specs.Printed.{unread_line}
use Rattle.printing.proofs.Putting.{a-line, a-field, no_field}
use Rattle.printing.proofs.unread.Goals as goal

pub returns : goal.returns
unfolding unread_line
returns c =
    let a = c.args in
    a-line (63 ∷ []) (decimal a.line ∷ []) (waiting a.n a.text.now) c.byte-a.ensures
    (a-field 32 _ (decimal a.line) [] c.number-b.ensures (no_field 32 _)) c.byte.ensures
