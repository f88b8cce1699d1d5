-- `explicit_batches::unset_if` meets its contract. Assumes nothing.
use mathlib.Core.Path.{sym}
use Rattle.explicit_batches.proofs.unset_if.Goals as goal

pub returns-then-known : goal.returns-then-known
returns-then-known c = sym (c.requires c.if-known.true)
