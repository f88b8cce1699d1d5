-- `whole_printing::exponential` meets its contract. Assumes nothing.
use mathlib.Core.Path.{ap, ◌∙◌}
use mathlib.Core.Bool.{true, false}
use mathlib.Core.List.{[], ◌∷◌}
use Rattle.std.specs.Prelude.{Option, ℤ}
use Rattle.point.specs.declared.Point as P
use Rattle.point.specs.Signed.{scale_shown, offset_shown}
use Rattle.lines.specs.Gathered.{waiting}
use Rattle.lines.proofs.Gathering.{spelt}
use Rattle.printing.specs.Fields.{integer_field, row_field}
use Rattle.whole_printing.specs.Printed.{held_fields}
use Rattle.printing.proofs.Putting.{a-field, fields, no_field}
use Rattle.whole_printing.proofs.exponential.Goals as goal

pub returns : goal.returns
returns c =
    let a = c.args in
    let p = a.p in
    let above = row_field (offset_shown false p.figures) a.pos.now in
    let below = row_field (offset_shown true p.figures) a.neg.now in
    let f = ap (λ (x : P.Point). x.figures) c.shadow_of-q.ensures in
    a-field 32 (waiting a.n a.text.now) (integer_field (scale_shown p.figures)) (held_fields p (above ∷ below ∷ []))
    (spelt (ap (λ (x : Option ℤ). 32 ∷ integer_field x) (c.scale.ensures ∙ ap scale_shown f)) _ c.integer-a.ensures)
    (fields 32 _ (held_fields p []) (above ∷ below ∷ []) c.held-b.ensures
    (a-field 32 _ above (below ∷ [])
    (spelt (ap (λ (x : Option ℤ). 32 ∷ row_field x a.pos.now) (c.offset.ensures ∙ ap (offset_shown false) f)) _ c.row-c.ensures)
    (a-field 32 _ below []
    (spelt (ap (λ (x : Option ℤ). 32 ∷ row_field x a.neg.now) (c.offset-2.ensures ∙ ap (offset_shown true) f)) _ c.row.ensures)
    (no_field 32 _))))
