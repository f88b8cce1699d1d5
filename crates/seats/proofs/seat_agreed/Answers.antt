-- `seats::seat_agreed` meets its contract. Assumes nothing.
use Prim.Native.Nat.{ℕ}
use mathlib.Core.Path.{◌≡◌, ap, sym, ◌∙◌}
use mathlib.Core.Bool.{true}
use mathlib.Core.List.{List}
use native.Mathlib.Omega.{arith}
use lib.ListN.{length, length-map}
use Rattle.tally.specs.Sets.{canonical}
use Rattle.sets.specs.Rows.{row_of}
use Rattle.sets.specs.Sorted.{attribute, given, filter_of}
use Rattle.directory.specs.View.{Stores, stores}
use Rattle.seats.specs.Seats.{seating, away, barred_by, seated, Seating}
use Rattle.seats.proofs.Bars.{Clear, clear, barred-away, barred-on, row_kept, row_written}
use Rattle.refusals.specs.Refusals.{number}
use Rattle.refusals.specs.declared.Refusal.{Refusal}
use Rattle.refusals.proofs.Numbers.{number-nonzero, passed-on}
use Rattle.seats.proofs.seat_agreed.Goals as goal

pub returns-in_err-barred : goal.returns-in_err-barred
returns-in_err-barred c =
    let e : Refusal = c.in_err-barred.field-0.0 in
    let attrs : List (ℕ × ℕ) = given c.args.attrs.now in
    let first : ℕ = barred_by true c.args.value (length (attrs)) true in
    let same : number e ≡ first = c.in_err-barred.ensures ∙ (λ j. barred_by true c.args.value (sym (length-map c.args.attrs.now attribute) j) true) in
    let lent : Stores = stores c.args.sets.now c.args.entries.now c.args.order.now in
    let set_row : List ℕ = row_of (canonical (filter_of c.args.present c.args.filter.now) (attrs)) in
    let goes : Seating = seated c.args.limit c.args.d (lent) (set_row) in
    let d : first ≡ 0 → ⊥ = λ z. number-nonzero e (same ∙ z) in record { value = ap seating (passed-on c.from_residual.result e c.from_residual.ensures.1) ∙ ap away (same) ∙ sym (barred-away (first) (goes) d); row_after = row_kept (first) (set_row) c.args.row.now d }

pub sort_into-requires : goal.sort_into-requires
sort_into-requires c =
    let attrs : List (ℕ × ℕ) = given c.args.attrs.now in
    let first : ℕ = barred_by true c.args.value (length (attrs)) true in
    let same : 0 ≡ first = c.in_ok-barred.ensures ∙ (λ j. barred_by true c.args.value (sym (length-map c.args.attrs.now attribute) j) true) in
    let known : Clear true c.args.value (length (attrs)) true = clear _ _ _ _ (sym (same)) in
    omega (arith, (known).few, length-map c.args.attrs.now attribute)

pub seat_right-requires : goal.seat_right-requires
seat_right-requires c =
    (c.requires.0, c.requires.1, c.requires.2, c.sort_into.ensures.1, c.requires.3)

pub returns : goal.returns
returns c =
    let attrs : List (ℕ × ℕ) = given c.args.attrs.now in
    let first : ℕ = barred_by true c.args.value (length (attrs)) true in
    let same : 0 ≡ first = c.in_ok-barred.ensures ∙ (λ j. barred_by true c.args.value (sym (length-map c.args.attrs.now attribute) j) true) in
    let lent : Stores = stores c.args.sets.now c.args.entries.now c.args.order.now in
    let set_row : List ℕ = row_of (canonical (filter_of c.args.present c.args.filter.now) (attrs)) in
    let goes : Seating = seated c.args.limit c.args.d (lent) (set_row) in
    let z : first ≡ 0 = sym (same) in record { value = c.seat_right.ensures ∙ ap (seated c.args.limit c.args.d (lent)) c.sort_into.ensures.0 ∙ sym (barred-on (first) (goes) z); row_after = c.sort_into.ensures.0 ∙ row_written (first) (set_row) c.args.row.now z }
