-- `directory::is_updated` meets its contract. Assumes nothing.
use Rattle.std.proofs.Common.{not, sym, ap, eq-eqb, ne_eqb}
use Rattle.directory.proofs.is_updated.Goals as goal

pub returns-then-entries-x-eq0 : goal.returns-then-entries-x-eq0
returns-then-entries-x-eq0 c = sym (ap not (eq-eqb _ _ c.if-entries-x-eq0.true))

pub returns : goal.returns
returns c = sym (ap not (ne_eqb _ _ c.if-entries-x-eq0.false))
