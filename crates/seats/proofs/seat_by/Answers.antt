-- `seats::seat_by` meets its contract. Assumes nothing.
use Prim.Native.Nat.{ℕ, ◌+◌}
use mathlib.Core.Path.{◌≡◌, ap, sym, ◌∙◌}
use mathlib.Core.Bool.{◌&&◌}
use lib.Dec.{eqb, leb}
use Rattle.laws.proofs.Cases.{and-true}
use Rattle.directory.specs.View.{Stores, stores}
use Rattle.directory.specs.Calls.{most_sets, stores_suffice}
use Rattle.directory.proofs.Refusals.{suffices}
use Rattle.seats.specs.Seats.{seating, away, barred_by, seated_by, Seating}
use Rattle.seats.specs.Inner.{barred_at}
use Rattle.seats.proofs.Bars.{clear, barred-away, barred-on}
use Rattle.refusals.specs.Refusals.{number}
use Rattle.numbered.specs.Numbered.{code_by}
use Rattle.refusals.specs.declared.Refusal.{Refusal}
use Rattle.refusals.proofs.Numbers.{number-nonzero, passed-on}
use Rattle.seats.proofs.seat_by.Goals as goal

pub returns-in_err-barred : goal.returns-in_err-barred
returns-in_err-barred g c =
    let e : Refusal = c.in_err-barred.field-0.0 in
    let lent : Stores = stores c.args.sets.now c.args.entries.now c.args.order.now in
    let first : ℕ = let a = c.args in barred_at a.cells a.value (code_by g.E.Numbered.number a.unset) a.limit (lent) 0 (leb a.limit most_sets) in
    let same : number e ≡ first = c.in_err-barred.ensures ∙ (λ j. barred_by (c.suffices-lent.ensures j) c.args.value 0 (eqb (code_by g.E.Numbered.number c.args.unset) 0 && leb c.args.limit most_sets)) in
    let goes : Seating = seated_by c.args.limit c.args.d (lent) c.args.h in
    ap seating (passed-on c.from_residual.result e c.from_residual.ensures.1) ∙ ap away (same) ∙ sym (barred-away (first) (goes) (λ z. number-nonzero e (same ∙ z)))

pub seat_by_in-requires : goal.seat_by_in-requires
seat_by_in-requires g c =
    let lent : Stores = stores c.args.sets.now c.args.entries.now c.args.order.now in
    let first : ℕ = let a = c.args in barred_at a.cells a.value (code_by g.E.Numbered.number a.unset) a.limit (lent) 0 (leb a.limit most_sets) in
    let same : 0 ≡ first = c.in_ok-barred.ensures ∙ (λ j. barred_by (c.suffices-lent.ensures j) c.args.value 0 (eqb (code_by g.E.Numbered.number c.args.unset) 0 && leb c.args.limit most_sets)) in
    let k = clear (stores_suffice c.args.limit (lent) && leb (c.args.limit + 2) c.args.cells) c.args.value 0 (eqb (code_by g.E.Numbered.number c.args.unset) 0 && leb c.args.limit most_sets) (sym (same)) in
    let l = suffices c.args.limit (lent) (and-true (stores_suffice c.args.limit (lent)) (leb (c.args.limit + 2) c.args.cells) k.room-is).0 in
    (l.sets, l.entries, l.order)

pub returns : goal.returns
returns g c =
    let lent : Stores = stores c.args.sets.now c.args.entries.now c.args.order.now in
    let first : ℕ = let a = c.args in barred_at a.cells a.value (code_by g.E.Numbered.number a.unset) a.limit (lent) 0 (leb a.limit most_sets) in
    let goes : Seating = seated_by c.args.limit c.args.d (lent) c.args.h in
    let same : 0 ≡ first = c.in_ok-barred.ensures ∙ (λ j. barred_by (c.suffices-lent.ensures j) c.args.value 0 (eqb (code_by g.E.Numbered.number c.args.unset) 0 && leb c.args.limit most_sets)) in
    c.seat_by_in.ensures ∙ sym (barred-on (first) (goes) (sym (same)))
