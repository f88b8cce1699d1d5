-- `value_map::first::finish` meets its contract. Assumes nothing.
use mathlib.Core.Path.{refl, ap, sym, ◌∙◌}
use mathlib.Core.Option.{none}
use Rattle.std.specs.Prelude.{Result}
use Rattle.std.proofs.lemmas.Result.{IfOk-at_ok}
use Rattle.laws.specs.Said.{success}
use Rattle.numbered.specs.Numbered.{code_by}
use Rattle.directory.specs.View.{Stores, stores}
use Rattle.directory.specs.Calls.{Kept}
use Rattle.directory.specs.declared.Target.{Target}
use Rattle.directory.specs.declared.Target.TheVariants.{Disagrees}
use Rattle.seats.specs.Inner.{Fits}
use Rattle.bindings.specs.Calls.{Outcome}
use Rattle.value_map.specs.Inner.{finished, target_in}
use Rattle.value_map.proofs.Ways.{finish-no, finish-done}
use Rattle.value_map.proofs.first.finish.Goals as goal

pub returns-in-Err : goal.returns-in-Err
returns-in-Err g c =
    let lent : Stores = stores c.args.sets.now c.args.entries.now c.args.order.now in
    finish-no (g.E.Numbered.number c.in-Err.why) c.args.d (lent) c.args.row.now Disagrees (g.met.E.Reason.refuses c.in-Err.why)
    ∙ ap (λ (r : Result Target g.row.E.Denot). finished (code_by g.E.Numbered.number r) c.args.d (lent) c.args.row.now (target_in r)) (sym c.in-Err.is)

pub commit-e-requires : goal.commit-e-requires
commit-e-requires g c =
    let lent : Stores = stores c.args.sets.now c.args.entries.now c.args.order.now in
    IfOk-at_ok (Fits c.args.d (lent)) c.in-Ok.is c.requires

pub returns : goal.returns
returns g c =
    let lent : Stores = stores c.args.sets.now c.args.entries.now c.args.order.now in
    ap {B = Outcome} (λ (x : Kept). record { answer = success none; kept = x }) c.commit-e.ensures
    ∙ finish-done 0 c.args.d (lent) c.args.row.now c.in-Ok.target refl
    ∙ ap (λ (r : Result Target g.row.E.Denot). finished (code_by g.E.Numbered.number r) c.args.d (lent) c.args.row.now (target_in r)) (sym c.in-Ok.is)
