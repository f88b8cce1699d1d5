-- `series::record_all` meets its contract: what is recorded so far, and the values left, make the whole. Assumes nothing.
use borrow.Author.Rules.{rules}
use mathlib.Core.Path.{◌≡◌, refl, sym, ap, subst, ◌∙◌}
use native.Mathlib.Omega.{arith}
use lib.IntN as Whole
use lib.ListN.{get_or}
use mir.Syntax.{w64}
use mir.Val.{SFits}
use Rattle.refusals.specs.Refusals.{number}
use Rattle.refusals.proofs.Numbers.{number-nonzero}
use Rattle.rows.specs.Recording.{Recording, after}
use Rattle.many.proofs.Turns.{begins, turn, halt, through}
use Rattle.integers.proofs.Range.{held}
use Rattle.exponential_whole_batches.specs.Series.{Series, series, Sound, step}
use Rattle.exponential_whole_batches.proofs.Turn.{sound}
use Rattle.exponential_whole_batches.proofs.series.record_all.Goals as goal

pub loop-i-init : goal.loop-i-init
loop-i-init c =
    let a = c.args in
    (refl, refl, c.requires, begins (step a.size a.top a.sums) (series a.head a.pos.now a.neg.now) a.values.now)

pub next-requires : goal.next-requires
next-requires c = c.loop-i.invariant.2

pub shape_of-pos-in-Err : goal.shape_of-pos-in-Err
shape_of-pos-in-Err c = c.next.auto.pos ∙ c.loop-i.invariant.0

pub shape_of-neg-in-Err : goal.shape_of-neg-in-Err
shape_of-neg-in-Err c = c.next.auto.neg ∙ c.loop-i.invariant.1

pub returns-in-Err : goal.returns-in-Err
returns-in-Err c =
    let there : Series = let l = c.loop-i in record { head = l.h; pos = l.pos; neg = l.neg } in
    let gone : Recording Series = after (number c.in-Err.e) (record { head = c.loop-i.h; pos = c.next.new.pos; neg = c.next.new.neg }) in
    let value : Whole.ℤ = get_or c.args.values.now c.loop-i.i (Whole.pos 0) in
    let is_i64 : SFits w64 (value) = search rules in
    let went : (let a = c.args in gone ≡ step a.size a.top a.sums (there) (value)) =
    let a = c.args in
    c.in-Err.ensures ∙ ap (step a.size a.top a.sums (there)) (held (value) (is_i64)) in
    let l = c.loop-i in
    let a = c.args in
    sym (l.invariant.3 ∙ halt (step a.size a.top a.sums) (there) a.values.now l.i (Whole.pos 0) c.loop-i-test.true (gone) (went) (number-nonzero c.in-Err.e))

pub loop-i-preserved : goal.loop-i-preserved
loop-i-preserved c =
    let gone : Recording Series = after 0 (record { head = c.in-Ok.one; pos = c.next.new.pos; neg = c.next.new.neg }) in
    let there : Series = let l = c.loop-i in record { head = l.h; pos = l.pos; neg = l.neg } in
    let value : Whole.ℤ = get_or c.args.values.now c.loop-i.i (Whole.pos 0) in
    let is_i64 : SFits w64 (value) = search rules in
    let went : (let a = c.args in gone ≡ step a.size a.top a.sums (there) (value)) =
    let a = c.args in
    c.in-Ok.ensures ∙ ap (step a.size a.top a.sums (there)) (held (value) (is_i64)) in
    let l = c.loop-i in
    let a = c.args in (
      c.next.auto.pos ∙ l.invariant.0,
      c.next.auto.neg ∙ l.invariant.1,
      subst (λ (x : Recording Series). Sound a.size a.top x.cells) (sym (went))
          (sound a.size a.top a.sums (there) (value) (is_i64) l.invariant.2 (ap (λ (x : Recording Series). x.no) (sym (went)))),
      l.invariant.3 ∙ turn (step a.size a.top a.sums) (there) a.values.now l.i (Whole.pos 0) c.loop-i-test.true (gone) (went) refl,
    )

pub shape_of-pos : goal.shape_of-pos
shape_of-pos c = c.loop-i.invariant.0

pub shape_of-neg : goal.shape_of-neg
shape_of-neg c = c.loop-i.invariant.1

pub returns : goal.returns
returns c =
    let l = c.loop-i in
    let a = c.args in
    sym (l.invariant.3 ∙ through (step a.size a.top a.sums) (record { head = l.h; pos = l.pos; neg = l.neg }) a.values.now l.i (omega (arith, c.loop-i-test.false, l.auto.i-end)))
