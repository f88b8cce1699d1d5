-- `whole_printing::point_line` meets its contract. Assumes nothing.
use Prim.Native.Nat.{ℕ}
use mathlib.Core.Path.{ap, ◌∙◌}
use mathlib.Core.Bool.{true, false}
use mathlib.Core.List.{List, [], ◌∷◌}
use lib.Ieee.{Float}
use Rattle.whole_point.specs.Handing.{Stored, stored_in}
use Rattle.listing.specs.Listed.{row_at, bounds_at}
use Rattle.lines.specs.Gathered.{waiting}
use Rattle.lines.specs.Written.{decimal}
use Rattle.lines.proofs.Gathering.{spelt}
use Rattle.printing.specs.Fields.{each, set_field}
use Rattle.whole_printing.specs.Printed.{exponential_fields, explicit_fields}
use Rattle.printing.proofs.Putting.{a-line, a-field}
use Rattle.whole_printing.proofs.Points.{exponential-line, explicit-line}
use Rattle.printing.proofs.Sets.{eight}
use Rattle.whole_printing.proofs.point_line.Goals as goal

pub returns-in-Exponential : goal.returns-in-Exponential
returns-in-Exponential c =
    let stored : Stored =
    let a = c.args in
    stored_in a.e.point (bounds_at a.e.bounds a.bounds.now) (row_at a.at a.e.next false a.pos.now a.neg.now)
    (row_at a.at a.e.next true a.pos.now a.neg.now) in
    let a = c.args in
    let x = stored in
    let p = a.e.point in
    let rest = exponential_fields p x.pos x.neg in
    let rows =
    ap (λ (l : List ℕ). each 32 (exponential_fields p l c.row_at-below.result.now)) c.row_at-above.ensures
    ∙ ap (λ (l : List ℕ). each 32 (exponential_fields p x.pos l)) c.row_at-below.ensures in
    spelt (exponential-line (eight a.row) x c.in-Exponential.c c.in-Exponential.is) (waiting a.n a.text.now)
    (a-line (112 ∷ []) (set_field (eight a.row) ∷ decimal c.in-Exponential.c.count ∷ decimal c.in-Exponential.c.zeros ∷ rest) _ c.byte-a.ensures
    (a-field 32 _ (set_field (eight a.row)) (decimal c.in-Exponential.c.count ∷ decimal c.in-Exponential.c.zeros ∷ rest) c.set-b.ensures
    (a-field 32 _ (decimal c.in-Exponential.c.count) (decimal c.in-Exponential.c.zeros ∷ rest) c.number-d.ensures
    (a-field 32 _ (decimal c.in-Exponential.c.zeros) rest c.number-g.ensures (spelt rows _ c.exponential-h.ensures))))
    c.byte.ensures)

pub returns-in-Explicit : goal.returns-in-Explicit
returns-in-Explicit c =
    let stored : Stored =
    let a = c.args in
    stored_in a.e.point (bounds_at a.e.bounds a.bounds.now) (row_at a.at a.e.next false a.pos.now a.neg.now)
    (row_at a.at a.e.next true a.pos.now a.neg.now) in
    let a = c.args in
    let x = stored in
    let p = a.e.point in
    let rest = explicit_fields p x.pos x.bounds in
    let rows =
    ap (λ (l : List ℕ). each 32 (explicit_fields p l c.bounds_at-own.result.now)) c.row_at-above.ensures
    ∙ ap (λ (l : List Float). each 32 (explicit_fields p x.pos l)) c.bounds_at-own.ensures in
    spelt (explicit-line (eight a.row) x c.in-Explicit.count c.in-Explicit.is) (waiting a.n a.text.now)
    (a-line (113 ∷ []) (set_field (eight a.row) ∷ decimal c.in-Explicit.count ∷ rest) _ c.byte-a-in-Explicit.ensures
    (a-field 32 _ (set_field (eight a.row)) (decimal c.in-Explicit.count ∷ rest) c.set-b-in-Explicit.ensures
    (a-field 32 _ (decimal c.in-Explicit.count) rest c.number-d-in-Explicit.ensures (spelt rows _ c.explicit-g.ensures)))
    c.byte-in-Explicit.ensures)
