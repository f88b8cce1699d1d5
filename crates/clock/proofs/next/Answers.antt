-- `clock::next` meets its contract. Assumes nothing.
use mathlib.Core.Path.{◌≡◌, sym, ap}
use Prim.Native.Nat.{ℕ}
use borrow.Author.Tests.{eq-eqb, ne_eqb}
use Rattle.laws.proofs.Bools.{pick_true, pick-false}
use Rattle.clock.specs.Starts.{gave}
use Rattle.clock.proofs.next.Goals as goal

holds : (start : ℕ) {s s' : ℕ} → s' ≡ s → gave start (record { start = s }) ≡ gave start (record { start = s' })
holds start e = ap (λ (m : ℕ). gave start (record { start = m })) (sym e)

pub returns-then-no-eq0 : goal.returns-then-no-eq0
returns-then-no-eq0 c = holds c.args.c.start (pick_true _ c.args.time c.args.c.start (eq-eqb _ 0 c.if-no-eq0.true))

pub returns : goal.returns
returns c = holds c.args.c.start (pick-false _ c.args.time c.args.c.start (ne_eqb _ 0 c.if-no-eq0.false))
