-- `bindings::calls::bind_in` meets its contract. Assumes nothing.
use mathlib.Core.Path.{sym, ◌∙◌}
use Rattle.directory.specs.View.{Stores}
use Rattle.bindings.proofs.Binds.{bind-no}
use Rattle.bindings.proofs.calls.bind_in.Goals as goal

pub returns-then-not-agrees : goal.returns-then-not-agrees
returns-then-not-agrees c =
    let stores : Stores = record { sets = c.args.sets.now; entries = c.args.entries.now; order = c.args.order.now } in
    sym (bind-no c.args.limit c.args.d (stores) c.args.row (sym c.agrees.ensures ∙ c.if-not-agrees.true))

pub bind_right-requires : goal.bind_right-requires
bind_right-requires c =
    (c.requires.0, c.requires.1, c.requires.2, c.requires.3, c.requires.4, sym c.agrees.ensures ∙ c.if-not-agrees.false)

pub returns : goal.returns
returns c = c.bind_right.ensures
