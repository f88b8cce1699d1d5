-- `series::record_all` meets its contract: what is recorded so far, and the values left, make the whole. Assumes nothing.
use borrow.Author.Rules.{rules}
use Prim.Native.Nat.{◌^◌}
use mathlib.Core.Path.{◌≡◌, refl, sym, ap, subst, ◌∙◌}
use mathlib.Core.Bool.{true}
use native.Mathlib.Omega.{arith}
use lib.IntN.{ℤ, pos}
use lib.ListN.{get_or}
use lib.Ieee.{Float}
use lib.Signed.{mag}
use borrow.Author.Tests.{lt-ltb}
use mir.Syntax.{w64}
use mir.Val.{SFits}
use Rattle.refusals.specs.Refusals.{number}
use Rattle.refusals.proofs.Numbers.{number-nonzero}
use Rattle.integers.specs.Answers.{nearest_of}
use Rattle.integers.proofs.Range.{held}
use Rattle.kinds.specs.Wholes.{wholes}
use Rattle.rows.specs.Recording.{Recording, after}
use Rattle.rows.specs.Rows.{over}
use Rattle.many.proofs.Turns.{begins, turn, halt, through}
use Rattle.points.specs.Explicit.{record_bucket}
use Rattle.explicit.specs.Series.{buckets_in}
use Rattle.explicit_wholes.specs.declared.Head.{Head}
use Rattle.explicit_batches.specs.Values.{Counted}
use Rattle.explicit_whole_batches.specs.Values.{Series, step, raising}
use Rattle.explicit_whole_batches.proofs.Values.{raised_is, room-more, step-refused, step-taken, counted_step}
use Rattle.explicit_whole_batches.proofs.series.record_all.Goals as goal

pub loop-i-init : goal.loop-i-init
loop-i-init c =
    let a = c.args in
    (refl, c.requires, begins (step a.bounds.now a.sums) (record { head = a.head; counts = a.counts.now }) a.values.now)

pub shape_of-counts-in-Err : goal.shape_of-counts-in-Err
shape_of-counts-in-Err c = c.loop-i.invariant.0

pub returns-in-Err : goal.returns-in-Err
returns-in-Err c =
    let there : Series = let l = c.loop-i in record { head = l.h; counts = l.counts } in
    let one : ℤ = get_or c.args.values.now c.loop-i.i (pos 0) in
    let fits : SFits w64 (one) = search rules in
    let whole : wholes.finite (one) ≡ true = lt-ltb (mag (one)) (2 ^ 63) fits.sfits in
    let lifted : (after (number c.in-Err.e) c.loop-i.h ≡ raising c.args.sums c.loop-i.h (one)) = c.in-Err.ensures ∙ ap (raising c.args.sums c.loop-i.h) (held (one) (fits)) in
    let l = c.loop-i in
    let a = c.args in
    sym (l.invariant.2
    ∙ halt (step a.bounds.now a.sums) (there) a.values.now l.i (pos 0) c.loop-i-test.true (after (number c.in-Err.e) (there))
    (step-refused a.bounds.now a.sums (there) (one) l.invariant.1 (whole) (number c.in-Err.e) (ap (λ (o : Recording Head). o.no) (lifted)) (number-nonzero c.in-Err.e)) (number-nonzero c.in-Err.e))

pub count_in-requires : goal.count_in-requires
count_in-requires c =
    let there : Series = let l = c.loop-i in record { head = l.h; counts = l.counts } in
    let one : ℤ = get_or c.args.values.now c.loop-i.i (pos 0) in
    let fits : SFits w64 (one) = search rules in
    let whole : wholes.finite (one) ≡ true = lt-ltb (mag (one)) (2 ^ 63) fits.sfits in
    let lifted : (after 0 c.in-Ok.next ≡ raising c.args.sums c.loop-i.h (one)) = c.in-Ok.ensures ∙ ap (raising c.args.sums c.loop-i.h) (held (one) (fits)) in
    let none : ((raising c.args.sums c.loop-i.h (one)).no ≡ 0) = ap (λ (o : Recording Head). o.no) (sym (lifted)) in
    let l = c.loop-i in
    let a = c.args in record { bounds_in_bounds = l.invariant.1.long; counts_bound = room-more a.bounds.now a.sums (there) (one) l.invariant.1 (whole) (raised_is a.sums l.h (one) (none)).free }

pub loop-i-preserved : goal.loop-i-preserved
loop-i-preserved c =
    let there : Series = let l = c.loop-i in record { head = l.h; counts = l.counts } in
    let one : ℤ = get_or c.args.values.now c.loop-i.i (pos 0) in
    let fits : SFits w64 (one) = search rules in
    let whole : wholes.finite (one) ≡ true = lt-ltb (mag (one)) (2 ^ 63) fits.sfits in
    let lifted : (after 0 c.in-Ok.next ≡ raising c.args.sums c.loop-i.h (one)) = c.in-Ok.ensures ∙ ap (raising c.args.sums c.loop-i.h) (held (one) (fits)) in
    let none : ((raising c.args.sums c.loop-i.h (one)).no ≡ 0) = ap (λ (o : Recording Head). o.no) (sym (lifted)) in
    let near : c.nearest.result ≡ nearest_of (one) = c.nearest.ensures ∙ ap nearest_of (held (one) (fits)) in
    let l = c.loop-i in
    let a = c.args in
    let bs = a.bounds.now in
    let x : Recording Series = after 0 (record { head = c.in-Ok.next; counts = c.count_in.new.counts }) in
    let is : x ≡ step bs a.sums (there) (one) =
    step-taken bs a.sums (there) (one) l.invariant.1 (whole) (none) c.in-Ok.next c.count_in.new.counts (ap (λ (o : Recording Head). o.cells) (lifted))
    (c.count_in.ensures ∙ ap (λ (y : Float). over (record_bucket bs (buckets_in bs 0 l.counts) y).counts l.counts) (near)) in (
      c.count_in.auto.counts ∙ l.invariant.0,
      subst (λ (o : Recording Series). Counted bs o.cells.head.count o.cells.counts) (sym is) (counted_step bs a.sums (there) (one) l.invariant.1 (whole) (none)),
      l.invariant.2 ∙ turn (step bs a.sums) (there) a.values.now l.i (pos 0) c.loop-i-test.true x is refl,
    )

pub shape_of-counts : goal.shape_of-counts
shape_of-counts c = c.loop-i.invariant.0

pub returns : goal.returns
returns c =
    let l = c.loop-i in
    let a = c.args in
    sym (l.invariant.2 ∙ through (step a.bounds.now a.sums) (record { head = l.h; counts = l.counts }) a.values.now l.i (omega (arith, c.loop-i-test.false, l.auto.i-end)))
