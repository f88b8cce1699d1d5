-- `bindings::calls::bind_held` meets its contract. Assumes nothing.
use Prim.Native.Nat.{ℕ, ◌+◌}
use mathlib.Core.Path.{ap, sym, ◌∙◌}
use mathlib.Core.List.{List, []}
use mathlib.Core.Option.{some}
use lib.ListN.{get_or}
use Rattle.directory.specs.Calls.{bound_to}
use Rattle.directory.specs.View.{Stores}
use Rattle.laws.specs.Said.{success}
use Rattle.bindings.proofs.Binds.{held-full, held_more}
use Rattle.bindings.proofs.calls.bind_held.Goals as goal

pub returns-then-n-ge18446744073709551615 : goal.returns-then-n-ge18446744073709551615
returns-then-n-ge18446744073709551615 c sets order =
    let stores : List (List ℕ) → List ℕ → Stores = λ sets order. record { sets = sets; entries = c.args.entries.now; order = order } in
    sym (held-full c.args.d (stores sets order) c.args.x c.if-n-ge18446744073709551615.true)

pub returns : goal.returns
returns c sets order =
    let stores : List (List ℕ) → List ℕ → Stores = λ sets order. record { sets = sets; entries = c.args.entries.now; order = order } in
    ap (λ l. record { answer = success (some c.birth_of-b.result); kept = record { dir = c.args.d; stores = record { sets = sets; entries = l; order = order } } }) c.rebind.ensures
    ∙ ap (λ (h : ℕ). record { answer = success (some h); kept = record { dir = c.args.d; stores = record { sets = sets; entries = bound_to c.args.entries.now c.args.x (get_or (get_or c.args.entries.now c.args.x []) 1 0 + 1); order = order } } }) c.birth_of-b.ensures
    ∙ sym (held_more c.args.d (stores sets order) c.args.x c.if-n-ge18446744073709551615.false)
