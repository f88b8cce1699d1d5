-- `bindings::release_agreed` meets its contract. Assumes nothing.
use Prim.Native.Nat.{◌+◌, ◌≤◌}
use mathlib.Core.Path.{sym, ◌∙◌}
use mathlib.Core.Option.{none}
use native.Mathlib.Omega.{arith}
use Rattle.directory.specs.View.{Stores}
use Rattle.directory.proofs.Births.{agreed-rise}
use Rattle.directory.proofs.Laws.{few}
use Rattle.directory.proofs.Refusals.{Suffice, suffices, within}
use Rattle.bindings.proofs.Refusals.{released-on}
use Rattle.bindings.proofs.Releases.{release-at, bound-there}
use Rattle.bindings.proofs.release_agreed.Goals as goal

pub by_birth-found-requires : goal.by_birth-found-requires
by_birth-found-requires c =
    let stores : Stores = record { sets = c.args.sets.now; entries = c.args.entries.now; order = c.args.order.now } in
    let few-of : c.args.d.used ≤ c.args.limit + 1 = few c.args.limit c.args.d (stores) c.requires.agrees in
    let room : Suffice c.args.limit (stores) = suffices c.args.limit (stores) c.requires.lent in (
      omega (arith, few-of, (room).entries),
      record { limit = c.args.limit; sets = c.args.sets.now; right = c.requires.agrees },
      agreed-rise c.args.limit c.args.d (stores) c.requires.agrees,
    )

pub free-requires : goal.free-requires
free-requires c =
    let stores : Stores = record { sets = c.args.sets.now; entries = c.args.entries.now; order = c.args.order.now } in
    let room : Suffice c.args.limit (stores) = suffices c.args.limit (stores) c.requires.lent in
    bound-there c.args.limit c.args.d (stores) c.args.h c.requires.agrees (room).entries c.by_birth-found.result (sym c.by_birth-found.ensures)

pub returns : goal.returns
returns c =
    let stores : Stores = record { sets = c.args.sets.now; entries = c.args.entries.now; order = c.args.order.now } in
    c.free.ensures c.args.sets.now c.args.order.now
    ∙ sym (release-at c.args.limit c.args.d (stores) c.args.h c.requires.agrees c.by_birth-found.result (sym c.by_birth-found.ensures))
    ∙ sym (released-on c.args.limit c.args.d (stores) c.args.h c.requires.lent (within c.args.limit none c.requires.accepted))
