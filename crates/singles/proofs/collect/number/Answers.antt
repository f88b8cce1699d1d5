-- `singles::collect::number` meets its contract. Assumes nothing.
use Prim.Native.Nat.{ℕ}
use mathlib.Core.Path.{refl, sym, ap, ◌∙◌}
use mathlib.Core.List.{List}
use Rattle.refusals.specs.Refusals.{number, code}
use Rattle.refusals.proofs.Numbers.{number-nonzero, passed-on}
use mathlib.Core.Option.{none}
use lib.Ieee.{Float}
use lib.ListN.{length}
use Rattle.directory.specs.View.{stores}
use Rattle.value_map.specs.Calls.{Held, held}
use Rattle.listing.specs.Listed.{Output}
use Rattle.collecting.specs.Lister.{Lister}
use Rattle.collecting.specs.Slots.{surveyed_by}
use Rattle.collecting.proofs.Decides.{number-first, walk_here, number-then}
use Rattle.collecting.proofs.Sure.{unbarred, walk-known}
use Rattle.singles.specs.Stores.{single_store}
use Rattle.singles.specs.Points.{output, single_lister}
use Rattle.singles.proofs.Owes.{owed}
use Rattle.singles.proofs.Alike.{words_long}
use Rattle.singles.proofs.collect.number.Goals as goal

pub barred-requires : goal.barred-requires
barred-requires c k =
    let map : Held (List Float) = let a = c.args in held a.d (stores a.sets.now a.entries.now a.order.now) a.values.now in
    let a = c.args in
    unbarred (single_store a.s.aggregation) tt a.s.limit none (map) (c.requires k) c.suffices-room.result 0 c.suffices-room.ensures refl

pub returns-in_err-barred : goal.returns-in_err-barred
returns-in_err-barred c =
    let L : Lister (single_store c.args.s.aggregation) = single_lister c.args.s.aggregation in
    let map : Held (List Float) = let a = c.args in held a.d (stores a.sets.now a.entries.now a.order.now) a.values.now in
    let out : Output = output c.args.out_sets.now c.args.out_values.now in
    let a = c.args in
    ap code (passed-on c.from_residual.result c.in_err-barred.field-0.0 c.from_residual.ensures.1)
    ∙ number-first (L) (owed a.s.aggregation) tt a.cumulative a.s.limit (map) (out)
    c.suffices-room.result 0 (number c.in_err-barred.field-0.0) c.suffices-room.ensures refl c.in_err-barred.ensures (number-nonzero c.in_err-barred.field-0.0)

pub survey-found-requires : goal.survey-found-requires
survey-found-requires c =
    let L : Lister (single_store c.args.s.aggregation) = single_lister c.args.s.aggregation in
    let map : Held (List Float) = let a = c.args in held a.d (stores a.sets.now a.entries.now a.order.now) a.values.now in
    let out : Output = output c.args.out_sets.now c.args.out_values.now in
    let a = c.args in record {
      walk = walk_here (L) (owed a.s.aggregation) tt a.cumulative a.s.limit (map) (out)
          c.suffices-room.result 0 0 c.suffices-room.ensures refl c.in_ok-barred.ensures refl;
      all_known = walk-known (single_store a.s.aggregation) tt a.s.limit none (map) a.known c.requires tt (λ x. refl);
    }

pub returns : goal.returns
returns c =
    let L : Lister (single_store c.args.s.aggregation) = single_lister c.args.s.aggregation in
    let map : Held (List Float) = let a = c.args in held a.d (stores a.sets.now a.entries.now a.order.now) a.values.now in
    let out : Output = output c.args.out_sets.now c.args.out_values.now in
    let a = c.args in
    number-then (L) (owed a.s.aggregation) tt a.cumulative a.s.limit (map) (out)
    c.suffices-room.result 0 0 c.suffices-room.ensures refl c.in_ok-barred.ensures refl
    tt (λ x. refl) c.found.result (code c.number_of.result) (c.found.ensures ∙ c.survey-found.ensures)
    (c.number_of.ensures
    ∙ ap (λ (n : ℕ). surveyed_by c.found.result (length a.out_sets.now) n 0 0) (sym (words_long a.out_values.now)))
