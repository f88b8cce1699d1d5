-- `directory::alike::same_keys` meets its contract. Assumes nothing.
use Rattle.std.proofs.Common.{sym, ltb-true}
use Rattle.laws.proofs.Cases.{true-not-false}
use Rattle.directory.proofs.Bitwise.{all-below}
use Rattle.directory.proofs.alike.same_keys.Goals as goal

pub returns-then-d-ne0 : goal.returns-then-d-ne0
returns-then-d-ne0 c = λ e. true-not-false (sym e)

pub returns : goal.returns
returns c = λ e. record { long = c.if-d-ne0.false; keys = all-below c.args.d 4294967296 (ltb-true _ _ e) }
