-- `explicit_whole_collection::collect::number` meets its contract. Assumes nothing.
use mathlib.Core.Path.{refl, ap, ◌∙◌}
use mathlib.Core.Bool.{true}
use mathlib.Core.Option.{none}
use Rattle.refusals.specs.Refusals.{number, code}
use Rattle.refusals.proofs.Numbers.{number-nonzero, passed-on}
use Rattle.directory.specs.View.{stores}
use Rattle.explicit_whole_slots.specs.Cells.{Cells, cells}
use Rattle.value_map.specs.Calls.{Held, held}
use Rattle.whole_map.specs.Explicit.{explicit_wholes}
use Rattle.whole_map.proofs.ExplicitOwes.{owed}
use Rattle.listing.specs.Listed.{Output, output}
use Rattle.collecting.proofs.Decides.{number-first, walk_here, number-then}
use Rattle.collecting.proofs.Sure.{unbarred, walk-known}
use Rattle.explicit_whole_collection.specs.Points.{explicit_whole_lister}
use Rattle.explicit_whole_collection.proofs.Slots.{walk-counts, survey-counts}
use Rattle.explicit_whole_collection.proofs.collect.number.Goals as goal

pub barred-requires : goal.barred-requires
barred-requires c k =
    let map : Held Cells = let a = c.args in held a.d (stores a.sets.now a.entries.now a.order.now) (cells a.totals.now a.extremes.now a.counts.now) in
    let a = c.args in
    unbarred (explicit_wholes a.bounds.now a.s.sums) a.s.extremes a.s.limit none (map) (c.requires k)
    c.cells_suffice-room.result (code c.unset_of-unset.result) c.cells_suffice-room.ensures c.unset_of-unset.ensures

pub returns-in_err-barred : goal.returns-in_err-barred
returns-in_err-barred c =
    let map : Held Cells = let a = c.args in held a.d (stores a.sets.now a.entries.now a.order.now) (cells a.totals.now a.extremes.now a.counts.now) in
    let out : Output = let a = c.args in output a.out_sets.now a.out_words.now a.out_pos.now a.out_neg.now in
    let a = c.args in
    ap code (passed-on c.from_residual.result c.in_err-barred.field-0.0 c.from_residual.ensures.1)
    ∙ number-first (explicit_whole_lister a.bounds.now a.s.sums) (owed a.bounds.now a.s.sums) a.s.extremes a.cumulative a.s.limit (map) (out)
    c.cells_suffice-room.result (code c.unset_of-unset.result) (number c.in_err-barred.field-0.0)
    c.cells_suffice-room.ensures c.unset_of-unset.ensures c.in_err-barred.ensures (number-nonzero c.in_err-barred.field-0.0)

pub survey-found-requires : goal.survey-found-requires
survey-found-requires c =
    let map : Held Cells = let a = c.args in held a.d (stores a.sets.now a.entries.now a.order.now) (cells a.totals.now a.extremes.now a.counts.now) in
    let out : Output = let a = c.args in output a.out_sets.now a.out_words.now a.out_pos.now a.out_neg.now in
    let a = c.args in record {
      walk = walk-counts a.bounds.now a.s.sums a.d.used a.entries.now a.order.now a.totals.now a.extremes.now a.counts.now
          (walk_here (explicit_whole_lister a.bounds.now a.s.sums) (owed a.bounds.now a.s.sums) a.s.extremes a.cumulative a.s.limit (map) (out)
          c.cells_suffice-room.result (code c.unset_of-unset.result) 0
          c.cells_suffice-room.ensures c.unset_of-unset.ensures c.in_ok-barred.ensures refl);
      all_known = walk-known (explicit_wholes a.bounds.now a.s.sums) a.s.extremes a.s.limit none (map) a.known c.requires true (λ x. refl);
    }

pub returns : goal.returns
returns c =
    let map : Held Cells = let a = c.args in held a.d (stores a.sets.now a.entries.now a.order.now) (cells a.totals.now a.extremes.now a.counts.now) in
    let out : Output = let a = c.args in output a.out_sets.now a.out_words.now a.out_pos.now a.out_neg.now in
    let a = c.args in
    number-then (explicit_whole_lister a.bounds.now a.s.sums) (owed a.bounds.now a.s.sums) a.s.extremes a.cumulative a.s.limit (map) (out)
    c.cells_suffice-room.result (code c.unset_of-unset.result) 0
    c.cells_suffice-room.ensures c.unset_of-unset.ensures c.in_ok-barred.ensures refl
    true (λ x. refl) c.found.result (code c.number_of.result)
    (c.found.ensures ∙ c.survey-found.ensures ∙ survey-counts a.bounds.now a.s.sums a.d.used a.entries.now a.order.now a.totals.now a.extremes.now a.counts.now a.cumulative)
    c.number_of.ensures
