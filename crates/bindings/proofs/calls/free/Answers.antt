-- `bindings::calls::free` meets its contract. Assumes nothing.
use Prim.Native.Nat.{ℕ, ◌<◌}
use mathlib.Core.Path.{ap, sym, subst, ◌∙◌}
use mathlib.Core.List.{List, []}
use mathlib.Core.Option.{none}
use native.Mathlib.Omega.{arith}
use lib.ListN.{length, get_or}
use Rattle.directory.specs.View.{Stores}
use Rattle.laws.specs.Said.{success}
use Rattle.bindings.specs.Calls.{released_at}
use Rattle.bindings.specs.Inner.{Bound}
use Rattle.bindings.proofs.calls.free.Goals as goal

pub overflow_sub-n : goal.overflow_sub-n
overflow_sub-n c =
    let there : (c.in-Ok.x < length c.args.entries.now) × (0 < get_or (get_or c.args.entries.now c.in-Ok.x []) 1 0) = subst (Bound c.args.entries.now) c.in-Ok.is c.requires in
    omega (arith, (there).1)

pub rebind-requires : goal.rebind-requires
rebind-requires c =
    let there : (c.in-Ok.x < length c.args.entries.now) × (0 < get_or (get_or c.args.entries.now c.in-Ok.x []) 1 0) = subst (Bound c.args.entries.now) c.in-Ok.is c.requires in
    (there).0

pub returns-in-Err : goal.returns-in-Err
returns-in-Err c sets order =
    let stores : List (List ℕ) → List ℕ → Stores = λ sets order. record { sets = sets; entries = c.args.entries.now; order = order } in
    sym (ap (released_at c.args.d (stores sets order)) c.in-Err.is)

pub returns-in-Ok : goal.returns-in-Ok
returns-in-Ok c sets order =
    let stores : List (List ℕ) → List ℕ → Stores = λ sets order. record { sets = sets; entries = c.args.entries.now; order = order } in
    ap (λ l. record { answer = success none; kept = record { dir = c.args.d; stores = record { sets = sets; entries = l; order = order } } }) c.rebind.ensures
    ∙ sym (ap (released_at c.args.d (stores sets order)) c.in-Ok.is)
