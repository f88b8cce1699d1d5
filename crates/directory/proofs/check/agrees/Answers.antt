-- `directory::check::agrees` meets its contract. Assumes nothing.
use Rattle.std.proofs.Common.{◌≡◌, true, sym, ◌∙◌}
use Rattle.directory.specs.View.{Stores}
use Rattle.directory.specs.Inner.{bornb}
use Rattle.directory.proofs.Agreed.{placed_broken, placed-plain}
use Rattle.directory.proofs.Walks.{agree-far, agree_births, agree-places, agree-counts}
use Rattle.directory.proofs.check.agrees.Goals as goal

pub returns-then-used-limit : goal.returns-then-used-limit
returns-then-used-limit c =
    let stores : Stores = record { sets = c.args.sets.now; entries = c.args.entries.now; order = c.args.order.now } in
    sym (agree-far c.args.limit c.args.d (stores) c.if-used-limit.true)

pub returns-then-not-births : goal.returns-then-not-births
returns-then-not-births c =
    let stores : Stores = record { sets = c.args.sets.now; entries = c.args.entries.now; order = c.args.order.now } in
    sym (agree_births c.args.limit c.args.d (stores) (sym c.births.ensures ∙ c.if-not-births.true))

pub returns-in-None : goal.returns-in-None
returns-in-None c =
    let stores : Stores = record { sets = c.args.sets.now; entries = c.args.entries.now; order = c.args.order.now } in
    sym (agree-places c.args.limit c.args.d (stores) (placed_broken c.args.d.used c.args.sets.now c.args.order.now (sym c.places.ensures ∙ c.in-None.is)))

pub returns-in-Some : goal.returns-in-Some
returns-in-Some c =
    let stores : Stores = record { sets = c.args.sets.now; entries = c.args.entries.now; order = c.args.order.now } in
    let right : bornb c.args.d.used c.args.d.last c.args.entries.now ≡ true = sym c.births.ensures ∙ c.if-not-births.false in
    c.counts.ensures
    ∙ sym (agree-counts c.args.limit c.args.d (stores) c.if-used-limit.false (right) _ (placed-plain c.args.d.used c.args.sets.now c.args.order.now _ (sym c.places.ensures ∙ c.in-Some.is)))
