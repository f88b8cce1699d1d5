-- `exports::record_all` meets its contract: what is recorded so far, and the values left, make the whole run. Assumes nothing.
use Prim.Native.Nat.{◌<◌}
use mathlib.Core.Path.{sym, ap, ◌∙◌}
use lib.ListN.{take}
use lib.Seq.{get_or-take, length-take-le}
use lib.Ieee.{nan}
use native.Mathlib.Omega.{arith}
use Rattle.refusals.specs.Refusals.{said}
use Rattle.exponential.specs.declared.Head.{Head}
use Rattle.exponential.specs.Series.{outcome, recording}
use Rattle.exponential.specs.Inner.{Series, run_all}
use Rattle.exports.specs.Exports.{recorded}
use Rattle.exports.proofs.Following.{turn, ended}
use Rattle.exports.proofs.record_all.Goals as goal

pub loop-v-init : goal.loop-v-init
unfolding recorded
loop-v-init c =
    let a = c.args in
    let vs = take 1000000 a.values.now in
    let from : Head → Series = λ h. run_all a.size a.top (record { head = h; pos = a.pos.now; neg = a.neg.now }) vs in
    ap from (sym c.fresh-head.ensures)

pub loop-v-preserved : goal.loop-v-preserved
loop-v-preserved c =
    let a = c.args in
    let l = c.loop-v in
    let vs = a.values.now in
    let long = length-take-le c.most-n.result vs (omega (arith, c.most-n.ensures)) in
    let inside : l.v-index < c.most-n.result = omega (arith, c.loop-v-test.true, long) in
    let s : Series = record { head = l.head; pos = l.pos; neg = l.neg } in
    l.invariant
    ∙ turn a.size a.top s vs l.v-index (outcome (said c.record-answer.result) c.record-answer.new.pos c.record-answer.new.neg) c.head_after-head.result
    (omega (arith, inside, c.most-n.ensures)) (omega (arith, inside, c.most-n.ensures))
    (c.record-answer.ensures ∙ ap (recording a.size a.top s.head s.pos s.neg) (get_or-take c.most-n.result vs l.v-index nan inside)) c.head_after-head.ensures

pub returns : goal.returns
returns c =
    let l = c.loop-v in
    let a = c.args in
    let long = length-take-le c.most-n.result a.values.now (omega (arith, c.most-n.ensures)) in
    let s : Series = record { head = l.head; pos = l.pos; neg = l.neg } in
    let e = l.invariant ∙ ended a.size a.top s a.values.now l.v-index (omega (arith, c.loop-v-test.false, c.most-n.ensures, long)) in
    record {
      value = c.count_of.ensures ∙ sym (ap (λ (x : Series). x.head.counts.count) e);
      pos_after = sym (ap (λ (x : Series). x.pos) e);
      neg_after = sym (ap (λ (x : Series). x.neg) e);
    }
