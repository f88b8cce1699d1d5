-- `exponential_whole_collection::configure` meets its contract. Assumes nothing.
use Prim.Native.Nat.{ℕ}
use mathlib.Core.Path.{ap, ◌∙◌}
use mir.Syntax.{w32}
use mir.ValLaws.{to_z-of_z}
use Rattle.refusals.specs.Refusals.{said}
use Rattle.index.specs.Signed.{level_answer}
use Rattle.sets.specs.Sorted.{filter_of}
use Rattle.directory.specs.View.{Stores, stores}
use Rattle.directory.specs.declared.Directory.{Directory}
use Rattle.exponential_whole_slots.specs.Cells.{Cells, cells}
use Rattle.whole_map.specs.Exponential.{exponential_wholes}
use Rattle.collecting.specs.Configured.{configured_as}
use Rattle.collecting.proofs.Configures.{configured-is}
use Rattle.exponential_collection.specs.declared.Setup.{Setup}
use Rattle.exponential_collection.specs.Configured.{level_or, setup_of}
use Rattle.exponential_whole_collection.specs.Configured.{configured}
use Rattle.exponential_whole_collection.proofs.configure.Goals as goal

pub returns : goal.returns
unfolding configured
returns c =
    let handed : ℕ → Directory → Setup = λ top d. let a = c.args in setup_of a.size top a.show a.sums a.limit d in
    let dirs : Stores = let a = c.args in stores a.sets.now a.entries.now a.order.now in
    let lent : Cells = let a = c.args in cells a.figures.now a.extremes.now a.pos.now a.neg.now in
    let a = c.args in
    let f = filter_of a.present a.filter.now in
    let level = c.level_or-top.ensures ∙ ap level_or (c.level_of-found.ensures ∙ ap level_answer (to_z-of_z w32 a.scale c.ranges.scale)) in
    configured-is (exponential_wholes a.size c.level_or-top.result a.sums) (handed c.level_or-top.result) a.limit f (dirs) (lent) c.start-reply.result _ (said c.set_up.result)
    c.start-reply.ensures c.set_up.ensures
    ∙ ap (λ (n : ℕ). configured_as (exponential_wholes a.size n a.sums) (handed n) a.limit f (dirs) (lent)) level
