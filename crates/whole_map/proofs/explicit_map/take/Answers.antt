-- `whole_map::explicit_map::take` meets its contract. Assumes nothing.
use Prim.Native.Nat.{ℕ}
use mathlib.Core.Path.{◌≡◌, sym, ap, ◌∙◌}
use Rattle.std.specs.Prelude.{Result}
use Rattle.std.proofs.Common.{rules}
use Rattle.points.specs.Explicit.{bounds_pass}
use Rattle.refusals.specs.declared.Refusal.{Refusal}
use Rattle.refusals.specs.Refusals.{number, code}
use Rattle.integers.proofs.Range.{held}
use Rattle.rows.specs.Recording.{after}
use Rattle.seats.specs.declared.Seated.{Seated}
use Rattle.seats.specs.Seats.{seating}
use Rattle.explicit_whole_slots.specs.Cells.{Cells, cells, recorded_at}
use Rattle.whole_map.specs.Explicit.{explicit_wholes}
use Rattle.value_map.specs.Inner.{turned}
use Rattle.value_map.proofs.Ways.{seat-refused, seat-held}
use Rattle.whole_map.proofs.explicit_map.take.Goals as goal

pub returns-in-Err-clause-value : goal.returns-in-Err-clause-value
returns-in-Err-clause-value c =
    let a = c.args in
    let lent : Cells = cells a.totals.now a.extremes.now a.counts.now in
    seat-refused (explicit_wholes a.bounds.now a.sums) (lent) a.v a.seat (turned (bounds_pass a.bounds.now) (seating a.seat).no) c.in-Err.no (number c.turned_by.result) c.in-Err.is
    (c.turned_by.ensures ∙ ap (λ (r : Result Seated Refusal). turned (bounds_pass a.bounds.now) (seating r).no) (sym c.in-Err.is))

pub returns-in_err-record-in-Ok-clause-value : goal.returns-in_err-record-in-Ok-clause-value
returns-in_err-record-in-Ok-clause-value c =
    let a = c.args in
    let lent : Cells = cells a.totals.now a.extremes.now a.counts.now in
    let no : code c.from_residual.result ≡ number c.in_err-record-in-Ok.field-0.0 = search rules in
    ap (λ (n : ℕ). after n (cells c.«record».new.totals c.«record».new.extremes c.«record».new.counts)) (no)
    ∙ c.in_err-record-in-Ok.ensures ∙ ap (recorded_at a.bounds.now a.sums c.in-Ok.s.slot c.in-Ok.s.updated (lent)) (held a.v c.ranges.v)
    ∙ seat-held (explicit_wholes a.bounds.now a.sums) (lent) a.v a.seat (turned (bounds_pass a.bounds.now) (seating a.seat).no) c.in-Ok.s c.in-Ok.is

pub returns-in_ok-record-in-Ok-clause-value : goal.returns-in_ok-record-in-Ok-clause-value
returns-in_ok-record-in-Ok-clause-value c =
    let a = c.args in
    let lent : Cells = cells a.totals.now a.extremes.now a.counts.now in
    c.in_ok-record-in-Ok.ensures ∙ ap (recorded_at a.bounds.now a.sums c.in-Ok.s.slot c.in-Ok.s.updated (lent)) (held a.v c.ranges.v) ∙ seat-held (explicit_wholes a.bounds.now a.sums) (lent) a.v a.seat (turned (bounds_pass a.bounds.now) (seating a.seat).no) c.in-Ok.s c.in-Ok.is
