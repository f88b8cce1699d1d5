-- `bindings::calls::bind_new` meets its contract. Assumes nothing.
use Prim.Native.Nat.{ℕ}
use mathlib.Core.Path.{refl, ap, sym, ◌∙◌}
use mathlib.Core.Option.{some}
use Rattle.directory.specs.Calls.{Kept, admitted}
use Rattle.directory.specs.View.{Stores}
use Rattle.directory.proofs.Admits.{as-made}
use Rattle.laws.specs.Said.{success}
use Rattle.bindings.proofs.Binds.{born-none, born-one}
use Rattle.bindings.proofs.calls.bind_new.Goals as goal

pub returns-then-d-ge18446744073709551615 : goal.returns-then-d-ge18446744073709551615
returns-then-d-ge18446744073709551615 c =
    let stores : Stores = record { sets = c.args.sets.now; entries = c.args.entries.now; order = c.args.order.now } in
    sym (born-none c.args.d (stores) c.args.row c.args.rank c.args.more c.if-d-ge18446744073709551615.true)

pub returns : goal.returns
returns c =
    let stores : Stores = record { sets = c.args.sets.now; entries = c.args.entries.now; order = c.args.order.now } in
    ap (λ (k : Kept). record { answer = success (some k.dir.last); kept = k }) c.admit-e.ensures
    ∙ ap (λ (n : ℕ). record { answer = success (some n); kept = admitted c.args.d (stores) c.args.row c.args.rank c.args.more 1 }) (as-made _ c.args.d (stores) c.args.row c.args.rank c.args.more 1 refl)
    ∙ sym (born-one c.args.d (stores) c.args.row c.args.rank c.args.more c.if-d-ge18446744073709551615.false)
