-- `directory::check::births` meets its contract. Assumes nothing.
use Rattle.std.proofs.Common.{◌≡◌, ℕ, ◌+◌, true, [], get_or, sym, refl, ap, ◌∙◌, subst, arith}
use Rattle.sets.specs.All.{allb}
use Rattle.sets.proofs.Alls.{allb-none, allb-more, allb-no}
use Rattle.directory.specs.View.{born_at, birth_at}
use Rattle.directory.proofs.Checks.{birth-named, born-late, born-yes, births-no, births-end}
use Rattle.directory.proofs.check.births.Goals as goal

pub loop-i-init : goal.loop-i-init
loop-i-init c = (omega arith, refl, allb-none _)

pub returns-then-b-prev : goal.returns-then-b-prev
returns-then-b-prev c =
    sym (births-no c.args.entries.now _ _ (allb-no (born_at c.args.entries.now) _ c.loop-i.i (omega (arith, c.loop-i-test.true)) (born-late c.args.entries.now c.loop-i.i (c.loop-i.i + 1) c.loop-i.prev c.loop-i.invariant.1 refl c.if-b-prev.true)))

pub returns-then-c-b : goal.returns-then-c-b
returns-then-c-b c =
    sym (births-no c.args.entries.now _ _ (allb-no (born_at c.args.entries.now) _ (c.loop-i.i + 1) c.loop-i-test.true (born-late c.args.entries.now (c.loop-i.i + 1) (c.loop-i.i + 2) (get_or (get_or c.args.entries.now (c.loop-i.i + 1) []) 0 0) (sym (birth-named c.args.entries.now (c.loop-i.i + 1) (omega arith))) (omega arith) c.if-c-b.true)))

pub loop-i-preserved : goal.loop-i-preserved
loop-i-preserved c =
    let one = allb-more (born_at c.args.entries.now) c.loop-i.i c.loop-i.invariant.2 (born-yes c.args.entries.now c.loop-i.i (c.loop-i.i + 1) c.loop-i.prev c.loop-i.invariant.1 refl c.if-b-prev.false) in
    let two = allb-more (born_at c.args.entries.now) (c.loop-i.i + 1) one (born-yes c.args.entries.now (c.loop-i.i + 1) (c.loop-i.i + 2) (get_or (get_or c.args.entries.now (c.loop-i.i + 1) []) 0 0) (sym (birth-named c.args.entries.now (c.loop-i.i + 1) (omega arith))) (omega arith) c.if-c-b.false) in
    let n : c.loop-i.i + 1 + 1 ≡ c.loop-i.i + 2 = omega arith in
    (omega (arith, c.loop-i-test.true), sym (birth-named c.args.entries.now (c.loop-i.i + 2) (omega arith)), subst (λ (k : ℕ). allb k (born_at c.args.entries.now) ≡ true) n two)

pub returns-then-b-prev-2 : goal.returns-then-b-prev-2
returns-then-b-prev-2 c =
    sym (births-no c.args.entries.now _ _ (allb-no (born_at c.args.entries.now) _ c.loop-i.i c.if-i-used.true (born-late c.args.entries.now c.loop-i.i (c.loop-i.i + 1) c.loop-i.prev c.loop-i.invariant.1 refl c.if-b-prev-2.true)))

pub returns-then-i-used : goal.returns-then-i-used
returns-then-i-used c =
    let e : c.loop-i.i + 1 ≡ c.args.used = omega (arith, c.if-i-used.true, c.loop-i-test.false) in
    let one = allb-more (born_at c.args.entries.now) c.loop-i.i c.loop-i.invariant.2 (born-yes c.args.entries.now c.loop-i.i (c.loop-i.i + 1) c.loop-i.prev c.loop-i.invariant.1 refl c.if-b-prev-2.false) in
    sym (births-end c.args.entries.now _ _ _ (sym (birth-named c.args.entries.now (c.loop-i.i + 1) (omega arith)) ∙ ap (birth_at c.args.entries.now) e) (subst (λ (k : ℕ). allb k (born_at c.args.entries.now) ≡ true) e one))

pub returns : goal.returns
returns c =
    let e : c.loop-i.i ≡ c.args.used = omega (arith, c.if-i-used.false, c.loop-i.invariant.0) in
    sym (births-end c.args.entries.now _ _ _ (c.loop-i.invariant.1 ∙ ap (birth_at c.args.entries.now) e) (subst (λ (k : ℕ). allb k (born_at c.args.entries.now) ≡ true) e c.loop-i.invariant.2))
