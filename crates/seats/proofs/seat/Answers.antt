-- `seats::seat` meets its contract. Assumes nothing.
use Prim.Native.Nat.{ℕ, ◌+◌}
use mathlib.Core.Path.{◌≡◌, ap, sym, ◌∙◌}
use mathlib.Core.Bool.{Bool, ◌&&◌}
use mathlib.Core.List.{List}
use mathlib.Core.Option.{Option}
use native.Mathlib.Omega.{arith}
use lib.Dec.{eqb, leb}
use lib.ListN.{length, length-map}
use Rattle.laws.proofs.Cases.{and-true}
use Rattle.tally.specs.Sets.{canonical}
use Rattle.sets.specs.Rows.{row_of}
use Rattle.sets.specs.Sorted.{attribute, given, filter_of}
use Rattle.directory.specs.View.{Stores, stores}
use Rattle.directory.specs.Calls.{accepts, stores_suffice}
use Rattle.directory.proofs.Refusals.{suffices}
use Rattle.seats.specs.Seats.{seating, away, barred_by, seated, Seating}
use Rattle.seats.specs.Inner.{barred_at}
use Rattle.seats.proofs.Bars.{Clear, clear, barred-away, barred-on, row_kept, row_written}
use Rattle.refusals.specs.Refusals.{number}
use Rattle.numbered.specs.Numbered.{code_by}
use Rattle.refusals.specs.declared.Refusal.{Refusal}
use Rattle.refusals.proofs.Numbers.{number-nonzero, passed-on}
use Rattle.seats.proofs.seat.Goals as goal

pub returns-in_err-barred : goal.returns-in_err-barred
returns-in_err-barred g c =
    let e : Refusal = c.in_err-barred.field-0.0 in
    let lent : Stores = stores c.args.sets.now c.args.entries.now c.args.order.now in
    let attrs : List (ℕ × ℕ) = given c.args.attrs.now in
    let filter : Option (List ℕ) = filter_of c.args.present c.args.filter.now in
    let first : ℕ = let a = c.args in barred_at a.cells a.value (code_by g.E.Numbered.number a.unset) a.limit (lent) (length (attrs)) (accepts a.limit (filter)) in
    let same : number e ≡ first =
    c.in_err-barred.ensures
    ∙ (λ j. barred_by (c.suffices-lent.ensures j) c.args.value (sym (length-map c.args.attrs.now attribute) j) (eqb (code_by g.E.Numbered.number c.args.unset) 0 && c.accepted-ok.ensures j)) in
    let set_row : List ℕ = row_of (canonical (filter) (attrs)) in
    let goes : Seating = seated c.args.limit c.args.d (lent) (set_row) in
    let d : first ≡ 0 → ⊥ = λ z. number-nonzero e (same ∙ z) in record { value = ap seating (passed-on c.from_residual.result e c.from_residual.ensures.1) ∙ ap away (same) ∙ sym (barred-away (first) (goes) d); row_after = row_kept (first) (set_row) c.args.row.now d }

pub sort_into-requires : goal.sort_into-requires
sort_into-requires g c =
    let lent : Stores = stores c.args.sets.now c.args.entries.now c.args.order.now in
    let room : Bool = stores_suffice c.args.limit (lent) && leb (c.args.limit + 2) c.args.cells in
    let attrs : List (ℕ × ℕ) = given c.args.attrs.now in
    let filter : Option (List ℕ) = filter_of c.args.present c.args.filter.now in
    let first : ℕ = let a = c.args in barred_at a.cells a.value (code_by g.E.Numbered.number a.unset) a.limit (lent) (length (attrs)) (accepts a.limit (filter)) in
    let same : 0 ≡ first =
    c.in_ok-barred.ensures
    ∙ (λ j. barred_by (c.suffices-lent.ensures j) c.args.value (sym (length-map c.args.attrs.now attribute) j) (eqb (code_by g.E.Numbered.number c.args.unset) 0 && c.accepted-ok.ensures j)) in
    let known : Clear (room) c.args.value (length (attrs)) (eqb (code_by g.E.Numbered.number c.args.unset) 0 && accepts c.args.limit (filter)) = clear _ _ _ _ (sym (same)) in
    omega (arith, (known).few, length-map c.args.attrs.now attribute)

pub seat_in-requires : goal.seat_in-requires
seat_in-requires g c =
    let lent : Stores = stores c.args.sets.now c.args.entries.now c.args.order.now in
    let room : Bool = stores_suffice c.args.limit (lent) && leb (c.args.limit + 2) c.args.cells in
    let attrs : List (ℕ × ℕ) = given c.args.attrs.now in
    let filter : Option (List ℕ) = filter_of c.args.present c.args.filter.now in
    let first : ℕ = let a = c.args in barred_at a.cells a.value (code_by g.E.Numbered.number a.unset) a.limit (lent) (length (attrs)) (accepts a.limit (filter)) in
    let same : 0 ≡ first =
    c.in_ok-barred.ensures
    ∙ (λ j. barred_by (c.suffices-lent.ensures j) c.args.value (sym (length-map c.args.attrs.now attribute) j) (eqb (code_by g.E.Numbered.number c.args.unset) 0 && c.accepted-ok.ensures j)) in
    let known : Clear (room) c.args.value (length (attrs)) (eqb (code_by g.E.Numbered.number c.args.unset) 0 && accepts c.args.limit (filter)) = clear _ _ _ _ (sym (same)) in
    let l = suffices c.args.limit (lent) (and-true (stores_suffice c.args.limit (lent)) (leb (c.args.limit + 2) c.args.cells) (known).room-is).0 in
    (l.sets, l.entries, l.order, c.sort_into.ensures.1)

pub returns : goal.returns
returns g c =
    let lent : Stores = stores c.args.sets.now c.args.entries.now c.args.order.now in
    let attrs : List (ℕ × ℕ) = given c.args.attrs.now in
    let filter : Option (List ℕ) = filter_of c.args.present c.args.filter.now in
    let first : ℕ = let a = c.args in barred_at a.cells a.value (code_by g.E.Numbered.number a.unset) a.limit (lent) (length (attrs)) (accepts a.limit (filter)) in
    let same : 0 ≡ first =
    c.in_ok-barred.ensures
    ∙ (λ j. barred_by (c.suffices-lent.ensures j) c.args.value (sym (length-map c.args.attrs.now attribute) j) (eqb (code_by g.E.Numbered.number c.args.unset) 0 && c.accepted-ok.ensures j)) in
    let set_row : List ℕ = row_of (canonical (filter) (attrs)) in
    let goes : Seating = seated c.args.limit c.args.d (lent) (set_row) in
    let z : first ≡ 0 = sym (same) in record { value = c.seat_in.ensures ∙ ap (seated c.args.limit c.args.d (lent)) c.sort_into.ensures.0 ∙ sym (barred-on (first) (goes) z); row_after = c.sort_into.ensures.0 ∙ row_written (first) (set_row) c.args.row.now z }
