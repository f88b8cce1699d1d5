-- `singles::map::take` meets its contract. Assumes nothing.
use Prim.Native.Nat.{ℕ}
use mathlib.Core.Path.{◌≡◌, sym, ap, ◌∙◌}
use Rattle.std.specs.Prelude.{Result}
use Rattle.std.proofs.Common.{rules}
use Rattle.refusals.specs.declared.Refusal.{Refusal}
use Rattle.refusals.specs.Refusals.{number, code}
use Rattle.rows.specs.Recording.{after}
use Rattle.seats.specs.declared.Seated.{Seated}
use Rattle.seats.specs.Seats.{seating}
use Rattle.value_map.proofs.Ways.{seat-refused, seat-held}
use Rattle.singles.specs.Stores.{single_store}
use Rattle.singles.proofs.map.take.Goals as goal

pub returns-in_err-s-clause-value : goal.returns-in_err-s-clause-value
returns-in_err-s-clause-value c =
    let a = c.args in
    let no : code c.from_residual.result ≡ number c.in_err-s.field-0.0 = search rules in
    seat-refused (single_store a.aggregation) a.values.now a.v a.seat (seating a.seat).no c.in_err-s.field-0.0 (code c.from_residual.result) c.in_err-s.was
    ((no) ∙ ap (λ (r : Result Seated Refusal). (seating r).no) (sym c.in_err-s.was))

pub returns-in_err-record-clause-value : goal.returns-in_err-record-clause-value
returns-in_err-record-clause-value c =
    let a = c.args in
    let no : code c.from_residual-in_err-record.result ≡ number c.in_err-record.field-0.0 = search rules in
    ap (λ (n : ℕ). after n c.«record».new.values) (no)
    ∙ c.in_err-record.ensures
    ∙ seat-held (single_store a.aggregation) a.values.now a.v a.seat (seating a.seat).no c.in_ok-s.s c.in_ok-s.was

pub returns-clause-value : goal.returns-clause-value
returns-clause-value c =
    let a = c.args in
    c.in_ok-record.ensures ∙ seat-held (single_store a.aggregation) a.values.now a.v a.seat (seating a.seat).no c.in_ok-s.s c.in_ok-s.was
