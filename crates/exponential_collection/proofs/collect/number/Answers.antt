-- `exponential_collection::collect::number` meets its contract. Assumes nothing.
use mathlib.Core.Path.{refl, ap, ◌∙◌}
use mathlib.Core.Bool.{true}
use mathlib.Core.Option.{none}
use Rattle.refusals.specs.Refusals.{number, code}
use Rattle.refusals.proofs.Numbers.{number-nonzero, passed-on}
use Rattle.directory.specs.View.{stores}
use Rattle.exponential_slots.specs.Cells.{Cells, cells}
use Rattle.value_map.specs.Calls.{Held, held}
use Rattle.value_map.specs.Exponential.{exponential_store}
use Rattle.value_map.proofs.ExponentialOwes.{owed}
use Rattle.listing.specs.Listed.{Output, output}
use Rattle.collecting.proofs.Decides.{number-first, walk_here, number-then}
use Rattle.collecting.proofs.Sure.{unbarred, walk-known}
use Rattle.exponential_collection.specs.Points.{exponential_lister}
use Rattle.exponential_collection.proofs.collect.number.Goals as goal

pub barred-requires : goal.barred-requires
barred-requires c k =
    let map : Held Cells = let a = c.args in held a.d (stores a.sets.now a.entries.now a.order.now) (cells a.figures.now a.extremes.now a.pos.now a.neg.now) in
    let a = c.args in
    unbarred (exponential_store a.s.size a.s.top) (a.s.extremes, a.s.sums) a.s.limit none (map) (c.requires k)
    c.cells_suffice-room.result (code c.unset_of-unset.result) c.cells_suffice-room.ensures c.unset_of-unset.ensures

pub returns-in_err-barred : goal.returns-in_err-barred
returns-in_err-barred c =
    let map : Held Cells = let a = c.args in held a.d (stores a.sets.now a.entries.now a.order.now) (cells a.figures.now a.extremes.now a.pos.now a.neg.now) in
    let out : Output = let a = c.args in output a.out_sets.now a.out_words.now a.out_pos.now a.out_neg.now in
    let a = c.args in
    ap code (passed-on c.from_residual.result c.in_err-barred.field-0.0 c.from_residual.ensures.1)
    ∙ number-first (exponential_lister a.s.size a.s.top) (owed a.s.size a.s.top) (a.s.extremes, a.s.sums) a.cumulative a.s.limit (map) (out)
    c.cells_suffice-room.result (code c.unset_of-unset.result) (number c.in_err-barred.field-0.0) c.cells_suffice-room.ensures c.unset_of-unset.ensures c.in_err-barred.ensures (number-nonzero c.in_err-barred.field-0.0)

pub survey-found-requires : goal.survey-found-requires
survey-found-requires c =
    let map : Held Cells = let a = c.args in held a.d (stores a.sets.now a.entries.now a.order.now) (cells a.figures.now a.extremes.now a.pos.now a.neg.now) in
    let out : Output = let a = c.args in output a.out_sets.now a.out_words.now a.out_pos.now a.out_neg.now in
    let a = c.args in record {
      walk = walk_here (exponential_lister a.s.size a.s.top) (owed a.s.size a.s.top) (a.s.extremes, a.s.sums) a.cumulative a.s.limit (map) (out)
          c.cells_suffice-room.result (code c.unset_of-unset.result) 0 c.cells_suffice-room.ensures c.unset_of-unset.ensures c.in_ok-barred.ensures refl;
      all_known = walk-known (exponential_store a.s.size a.s.top) (a.s.extremes, a.s.sums) a.s.limit none (map) a.known c.requires (true, true) (λ x. refl);
    }

pub returns : goal.returns
returns c =
    let map : Held Cells = let a = c.args in held a.d (stores a.sets.now a.entries.now a.order.now) (cells a.figures.now a.extremes.now a.pos.now a.neg.now) in
    let out : Output = let a = c.args in output a.out_sets.now a.out_words.now a.out_pos.now a.out_neg.now in
    let a = c.args in
    number-then (exponential_lister a.s.size a.s.top) (owed a.s.size a.s.top) (a.s.extremes, a.s.sums) a.cumulative a.s.limit (map) (out)
    c.cells_suffice-room.result (code c.unset_of-unset.result) 0 c.cells_suffice-room.ensures c.unset_of-unset.ensures c.in_ok-barred.ensures refl
    (true, true) (λ x. refl) c.found.result (code c.number_of.result) (c.found.ensures ∙ c.survey-found.ensures) c.number_of.ensures
