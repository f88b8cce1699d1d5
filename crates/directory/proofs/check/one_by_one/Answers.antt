-- `directory::check::one_by_one` meets its contract. Assumes nothing.
use Rattle.std.specs.Prelude.{Some}
use Rattle.std.proofs.Common.{◌≡◌, ℕ, ◌+◌, ◌-◌, true, false, [], get_or, sym, refl, ap, ◌∙◌, subst, arith}
use Rattle.tally.specs.Map.{plain}
use Rattle.sets.specs.All.{allb}
use Rattle.sets.specs.Rows.{set_of, soundb}
use Rattle.sets.proofs.Alls.{allb-none, allb-more, allb-no}
use Rattle.sets.proofs.Keyed.{sound-some}
use Rattle.directory.specs.View.{plainly}
use Rattle.directory.specs.Inner.{step_at}
use Rattle.directory.proofs.Checks.{step-low, step-high, step-test, plainly-more, placed-no, placed-yes, bit-one}
use Rattle.laws.proofs.Cases.{and-true}
use Rattle.directory.proofs.check.one_by_one.Goals as goal

pub loop-i-init : goal.loop-i-init
loop-i-init c = (omega arith, omega arith, (λ n. absurd (n refl)), (λ n. absurd (n refl)), allb-none _, refl, omega arith)

pub returns-then-q-lt1 : goal.returns-then-q-lt1
returns-then-q-lt1 c =
    sym (placed-no c.args.used c.args.sets.now c.args.order.now (allb-no (step_at c.args.sets.now c.args.order.now c.args.used) c.args.used c.loop-i.i c.loop-i-test.true (step-low c.args.sets.now c.args.order.now c.args.used c.loop-i.i c.if-q-lt1.true)))

pub returns-then-q-used : goal.returns-then-q-used
returns-then-q-used c =
    sym (placed-no c.args.used c.args.sets.now c.args.order.now (allb-no (step_at c.args.sets.now c.args.order.now c.args.used) c.args.used c.loop-i.i c.loop-i-test.true (step-high c.args.sets.now c.args.order.now c.args.used c.loop-i.i c.if-q-lt1.false c.if-q-used.true)))

pub follows-requires : goal.follows-requires
follows-requires c =
    c.loop-i.invariant.3

pub returns-then-not-follows : goal.returns-then-not-follows
returns-then-not-follows c =
    sym (placed-no c.args.used c.args.sets.now c.args.order.now (allb-no (step_at c.args.sets.now c.args.order.now c.args.used) c.args.used c.loop-i.i c.loop-i-test.true (step-test c.args.sets.now c.args.order.now c.args.used c.loop-i.i c.loop-i.p c.if-q-lt1.false c.if-q-used.false c.loop-i.invariant.2 false (sym c.if-not-follows.true ∙ c.follows.ensures))))

pub plain_row-plain-requires : goal.plain_row-plain-requires
plain_row-plain-requires c =
    let firm : soundb (get_or c.args.sets.now (get_or c.args.order.now c.loop-i.i 0) []) ≡ true = (and-true (soundb _) _ (sym c.follows.ensures ∙ c.if-not-follows.false)).0 in
    sound-some _ (firm)

pub overflow_add-plain : goal.overflow_add-plain
overflow_add-plain c =
    omega (arith, bit-one (plain (set_of (get_or c.args.sets.now (get_or c.args.order.now c.loop-i.i 0) []))), c.plain_row-plain.ensures, c.loop-i.invariant.6, c.loop-i-test.true)

pub loop-i-preserved : goal.loop-i-preserved
loop-i-preserved c =
    let firm : soundb (get_or c.args.sets.now (get_or c.args.order.now c.loop-i.i 0) []) ≡ true = (and-true (soundb _) _ (sym c.follows.ensures ∙ c.if-not-follows.false)).0 in
    let q = get_or c.args.order.now c.loop-i.i 0 in
    let d : c.loop-i.i ≡ c.loop-i.i + 1 - 1 = omega arith in (
      omega (arith, c.loop-i-test.true),
      c.if-q-used.false,
      (λ n. (ap (λ (k : ℕ). get_or c.args.order.now k 0) d, c.if-q-lt1.false)),
      (λ n. firm),
      allb-more (step_at c.args.sets.now c.args.order.now c.args.used) c.loop-i.i c.loop-i.invariant.4 (step-test c.args.sets.now c.args.order.now c.args.used c.loop-i.i c.loop-i.p c.if-q-lt1.false c.if-q-used.false c.loop-i.invariant.2 true (sym c.if-not-follows.false ∙ c.follows.ensures)),
      ap (λ (k : ℕ). k + c.plain_row-plain.result) c.loop-i.invariant.5 ∙ ap (λ (k : ℕ). plainly c.args.sets.now c.args.order.now c.loop-i.i + k) c.plain_row-plain.ensures ∙ sym (plainly-more c.args.sets.now c.args.order.now c.loop-i.i c.if-q-lt1.false),
      omega (arith, bit-one (plain (set_of (get_or c.args.sets.now q []))), c.plain_row-plain.ensures, c.loop-i.invariant.6),
    )

pub returns : goal.returns
returns c =
    let e : c.loop-i.i ≡ c.args.used = omega (arith, c.loop-i-test.false) in
    ap (λ (k : ℕ). Some k) (c.loop-i.invariant.5 ∙ ap (plainly c.args.sets.now c.args.order.now) e)
    ∙ sym (placed-yes c.args.used c.args.sets.now c.args.order.now (subst (λ (k : ℕ). allb k (step_at c.args.sets.now c.args.order.now c.args.used) ≡ true) e c.loop-i.invariant.4))
