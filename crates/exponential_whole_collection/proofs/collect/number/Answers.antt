-- `exponential_whole_collection::collect::number` meets its contract. Assumes nothing.
use mathlib.Core.Path.{refl, ap, ◌∙◌}
use mathlib.Core.Bool.{true}
use mathlib.Core.Option.{none}
use Rattle.refusals.specs.Refusals.{number, code}
use Rattle.refusals.proofs.Numbers.{number-nonzero, passed-on}
use Rattle.directory.specs.View.{stores}
use Rattle.exponential_whole_slots.specs.Cells.{Cells, cells}
use Rattle.value_map.specs.Calls.{Held, held}
use Rattle.value_map.proofs.Owed.{Owed}
use Rattle.whole_map.specs.Exponential.{exponential_wholes}
use Rattle.whole_map.proofs.ExponentialOwes.{owed}
use Rattle.listing.specs.Listed.{Output, output}
use Rattle.collecting.specs.Lister.{Lister}
use Rattle.collecting.proofs.Decides.{number-first, walk_here, number-then}
use Rattle.collecting.proofs.Sure.{unbarred, walk-known}
use Rattle.exponential_whole_collection.specs.Points.{exponential_whole_lister}
use Rattle.exponential_whole_collection.proofs.Slots.{sums_apart}
use Rattle.exponential_whole_collection.proofs.collect.number.Goals as goal

pub barred-requires : goal.barred-requires
barred-requires c k =
    let map : Held Cells = let a = c.args in held a.d (stores a.sets.now a.entries.now a.order.now) (cells a.figures.now a.extremes.now a.pos.now a.neg.now) in
    let a = c.args in
    unbarred (exponential_wholes a.s.size a.s.top a.s.sums) a.s.extremes a.s.limit none (map) (c.requires k)
    c.cells_suffice-room.result (code c.unset_of-unset.result) c.cells_suffice-room.ensures c.unset_of-unset.ensures

pub returns-in_err-barred : goal.returns-in_err-barred
returns-in_err-barred c =
    let L : Lister (exponential_wholes c.args.s.size c.args.s.top true) = exponential_whole_lister c.args.s.size c.args.s.top true in
    let W : Owed (exponential_wholes c.args.s.size c.args.s.top true) = owed c.args.s.size c.args.s.top true in
    let map : Held Cells = let a = c.args in held a.d (stores a.sets.now a.entries.now a.order.now) (cells a.figures.now a.extremes.now a.pos.now a.neg.now) in
    let out : Output = let a = c.args in output a.out_sets.now a.out_words.now a.out_pos.now a.out_neg.now in
    let a = c.args in
    ap code (passed-on c.from_residual.result c.in_err-barred.field-0.0 c.from_residual.ensures.1)
    ∙ number-first (L) (W) a.s.extremes a.cumulative a.s.limit (map) (out)
    c.cells_suffice-room.result (code c.unset_of-unset.result) (number c.in_err-barred.field-0.0) c.cells_suffice-room.ensures c.unset_of-unset.ensures c.in_err-barred.ensures (number-nonzero c.in_err-barred.field-0.0)
    ∙ sums_apart a.s.size a.s.top a.s.sums a.s.extremes a.cumulative a.s.limit (map) (out)

pub survey-found-requires : goal.survey-found-requires
survey-found-requires c =
    let L : Lister (exponential_wholes c.args.s.size c.args.s.top true) = exponential_whole_lister c.args.s.size c.args.s.top true in
    let W : Owed (exponential_wholes c.args.s.size c.args.s.top true) = owed c.args.s.size c.args.s.top true in
    let map : Held Cells = let a = c.args in held a.d (stores a.sets.now a.entries.now a.order.now) (cells a.figures.now a.extremes.now a.pos.now a.neg.now) in
    let out : Output = let a = c.args in output a.out_sets.now a.out_words.now a.out_pos.now a.out_neg.now in
    let a = c.args in record {
      walk = walk_here (L) (W) a.s.extremes a.cumulative a.s.limit (map) (out)
          c.cells_suffice-room.result (code c.unset_of-unset.result) 0 c.cells_suffice-room.ensures c.unset_of-unset.ensures c.in_ok-barred.ensures refl;
      all_known = walk-known (exponential_wholes a.s.size a.s.top a.s.sums) a.s.extremes a.s.limit none (map) a.known c.requires true (λ x. refl);
    }

pub returns : goal.returns
returns c =
    let L : Lister (exponential_wholes c.args.s.size c.args.s.top true) = exponential_whole_lister c.args.s.size c.args.s.top true in
    let W : Owed (exponential_wholes c.args.s.size c.args.s.top true) = owed c.args.s.size c.args.s.top true in
    let map : Held Cells = let a = c.args in held a.d (stores a.sets.now a.entries.now a.order.now) (cells a.figures.now a.extremes.now a.pos.now a.neg.now) in
    let out : Output = let a = c.args in output a.out_sets.now a.out_words.now a.out_pos.now a.out_neg.now in
    let a = c.args in
    number-then (L) (W) a.s.extremes a.cumulative a.s.limit (map) (out)
    c.cells_suffice-room.result (code c.unset_of-unset.result) 0 c.cells_suffice-room.ensures c.unset_of-unset.ensures c.in_ok-barred.ensures refl
    true (λ x. refl) c.found.result (code c.number_of.result) (c.found.ensures ∙ c.survey-found.ensures) c.number_of.ensures
    ∙ sums_apart a.s.size a.s.top a.s.sums a.s.extremes a.cumulative a.s.limit (map) (out)
