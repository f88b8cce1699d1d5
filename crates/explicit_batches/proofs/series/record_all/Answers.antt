-- `series::record_all` meets its contract: what is recorded so far, and the values left, make the whole. Assumes nothing.
use Prim.Native.Nat.{◌<◌}
use mathlib.Core.Path.{◌≡◌, refl, sym, ap, subst, ◌∙◌}
use native.Mathlib.Omega.{arith}
use lib.ListN.{get_or}
use lib.Ieee.{Float, nan}
use Rattle.laws.specs.Counting.{most_count}
use Rattle.rows.specs.Recording.{Recording, after}
use Rattle.refusals.specs.Refusals.{number, code}
use Rattle.refusals.proofs.Numbers.{number-nonzero}
use Rattle.many.proofs.Refused.{not-refused}
use Rattle.many.proofs.Turns.{begins, turn, halt, through}
use Rattle.explicit_batches.specs.Values.{Series, step, Sound, barring}
use Rattle.explicit_batches.proofs.Values.{free, room-more, step-refused, step-taken, sound-next}
use Rattle.explicit_batches.proofs.series.record_all.Goals as goal

pub loop-i-init : goal.loop-i-init
loop-i-init c =
    let a = c.args in
    (refl, c.requires, begins (step a.bounds.now) (record { head = a.head; counts = a.counts.now }) a.values.now)

pub shape_of-counts-in-Err : goal.shape_of-counts-in-Err
shape_of-counts-in-Err c = c.loop-i.invariant.0

pub returns-in-Err : goal.returns-in-Err
returns-in-Err c =
    let held : Series = let l = c.loop-i in record { head = l.h; counts = l.counts } in
    let one : Float = get_or c.args.values.now c.loop-i.i nan in
    let l = c.loop-i in
    let a = c.args in
    sym (l.invariant.2
    ∙ halt (step a.bounds.now) (held) a.values.now l.i nan c.loop-i-test.true (after (number c.in-Err.e) (held))
    (step-refused a.bounds.now (held) (one) l.invariant.1 (number c.in-Err.e) (sym (ap code c.in-Err.is) ∙ c.barred.ensures) (number-nonzero c.in-Err.e)) (number-nonzero c.in-Err.e))

pub count_in-requires : goal.count_in-requires
count_in-requires c =
    let held : Series = let l = c.loop-i in record { head = l.h; counts = l.counts } in
    let one : Float = get_or c.args.values.now c.loop-i.i nan in
    let unbarred : 0 ≡ barring c.loop-i.h.count (one) = sym (not-refused c.barred.result c.in_default.not-Err) ∙ c.barred.ensures in
    let found : c.loop-i.h.count < most_count = free c.loop-i.h.count (one) (sym (unbarred)) in
    let l = c.loop-i in record { bounds_in_bounds = l.invariant.1.counted.long; counts_bound = room-more c.args.bounds.now (held) (one) l.invariant.1 (found) }

pub raised-h-requires : goal.raised-h-requires
raised-h-requires c =
    let one : Float = get_or c.args.values.now c.loop-i.i nan in
    let unbarred : 0 ≡ barring c.loop-i.h.count (one) = sym (not-refused c.barred.result c.in_default.not-Err) ∙ c.barred.ensures in
    let found : c.loop-i.h.count < most_count = free c.loop-i.h.count (one) (sym (unbarred)) in
    found

pub loop-i-preserved : goal.loop-i-preserved
loop-i-preserved c =
    let held : Series = let l = c.loop-i in record { head = l.h; counts = l.counts } in
    let one : Float = get_or c.args.values.now c.loop-i.i nan in
    let unbarred : 0 ≡ barring c.loop-i.h.count (one) = sym (not-refused c.barred.result c.in_default.not-Err) ∙ c.barred.ensures in
    let l = c.loop-i in
    let a = c.args in
    let bs = a.bounds.now in
    let x : Recording Series = after 0 (record { head = c.raised-h.result; counts = c.count_in.new.counts }) in
    let is : x ≡ step bs (held) (one) = step-taken bs (held) (one) l.invariant.1 (unbarred) c.raised-h.result c.count_in.new.counts c.raised-h.ensures c.count_in.ensures in (
      c.count_in.auto.counts ∙ l.invariant.0,
      subst (λ (r : Recording Series). Sound bs r.cells) (sym is) (sound-next bs (held) (one) l.invariant.1 (unbarred)),
      l.invariant.2 ∙ turn (step bs) (held) a.values.now l.i nan c.loop-i-test.true x is refl,
    )

pub shape_of-counts : goal.shape_of-counts
shape_of-counts c = c.loop-i.invariant.0

pub returns : goal.returns
returns c =
    let l = c.loop-i in
    let a = c.args in
    sym (l.invariant.2 ∙ through (step a.bounds.now) (record { head = l.h; counts = l.counts }) a.values.now l.i (omega (arith, c.loop-i-test.false, l.auto.i-end)))
