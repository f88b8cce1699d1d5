-- `last_number` meets its contract. Assumes nothing.
use Rattle.std.proofs.Common.{sym, arith, eq-eqb, ne_eqb}
use Rattle.laws.proofs.Bools.{pick_true, pick-false}
use Rattle.integers.proofs.last_number.Goals as goal

pub returns-then-no-ne0 : goal.returns-then-no-ne0
returns-then-no-ne0 c = sym (pick-false _ _ _ (ne_eqb c.args.no 0 (λ z. omega (arith, z, c.if-no-ne0.true))))

pub returns : goal.returns
returns c = sym (pick_true _ _ _ (eq-eqb c.args.no 0 (omega (arith, c.if-no-ne0.false))))
