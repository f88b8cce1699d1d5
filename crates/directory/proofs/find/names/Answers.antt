-- `directory::find::names` meets its contract. Assumes nothing.
use Rattle.directory.proofs.Finds.{names-yes, names-unbound, names-other}
use Rattle.directory.proofs.find.names.Goals as goal

pub returns-then-bindings-gt0 : goal.returns-then-bindings-gt0
returns-then-bindings-gt0 c = names-yes c.args.birth c.args.bindings c.args.h c.if-birth-h.true c.if-bindings-gt0.true

pub returns-then-birth-h : goal.returns-then-birth-h
returns-then-birth-h c = names-unbound c.args.birth c.args.bindings c.args.h c.if-birth-h.true c.if-bindings-gt0.false

pub returns : goal.returns
returns c = names-other c.args.birth c.args.bindings c.args.h c.if-birth-h.false
