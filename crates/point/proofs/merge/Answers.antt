use Rattle.std.specs.Prelude.{Ok, Err}
use mathlib.Core.Path.{◌≡◌, refl, sym, ap, ◌∙◌}
use Rattle.laws.specs.Said.{refusal, success}
use Rattle.refusals.specs.Refusals.{number}
use Rattle.refusals.proofs.Numbers.{number-nonzero, passed-on}
use Rattle.point.specs.Handing.{Stored, stored, refusal_before, outcome}
use Rattle.point.proofs.Calls as calls
use Rattle.point.proofs.merge.Goals as goal

pub returns-in_err-refusal : goal.returns-in_err-refusal
returns-in_err-refusal c =
    let first : Stored = stored c.args.a c.args.abounds.now c.args.apos.now c.args.aneg.now in
    let second : Stored = stored c.args.b c.args.bbounds.now c.args.bpos.now c.args.bneg.now in
    let a = c.args in
    let e = c.in_err-refusal.field-0.0 in
    ap (λ r. outcome r a.abounds.now a.pos.now a.neg.now) (passed-on c.from_residual.result e c.from_residual.ensures.1)
    ∙ calls.refused_law a.size (first) (second) a.pos.now a.neg.now (number e) c.in_err-refusal.ensures (number-nonzero e)

pub merge_exponential-requires : goal.merge_exponential-requires
merge_exponential-requires c =
    let first : Stored = stored c.args.a c.args.abounds.now c.args.apos.now c.args.aneg.now in
    let second : Stored = stored c.args.b c.args.bbounds.now c.args.bpos.now c.args.bneg.now in
    let free : refusal_before c.args.size (first) (second) ≡ 0 = sym c.in_ok-refusal.ensures in
    calls.agreeing c.args.size (first) (second) (free) c.in-Exponential.c c.in-Exponential-g.d c.in-Exponential.is c.in-Exponential-g.is

pub returns-in_err-made-in-Exponential-g : goal.returns-in_err-made-in-Exponential-g
returns-in_err-made-in-Exponential-g c =
    let first : Stored = stored c.args.a c.args.abounds.now c.args.apos.now c.args.aneg.now in
    let second : Stored = stored c.args.b c.args.bbounds.now c.args.bpos.now c.args.bneg.now in
    let free : refusal_before c.args.size (first) (second) ≡ 0 = sym c.in_ok-refusal.ensures in
    let a = c.args in
    let e = c.in_err-made-in-Exponential-g.field-0.0 in
    ap (λ r. outcome r a.abounds.now c.merge_exponential.new.pos c.merge_exponential.new.neg)
    (passed-on c.from_residual-in_err-made-in-Exponential-g.result e c.from_residual-in_err-made-in-Exponential-g.ensures.1)
    ∙ calls.exponential_law a.size (first) (second) a.pos.now a.neg.now c.in-Exponential.c c.in-Exponential-g.d (Err e) (refusal (number e)) c.merge_exponential.new.pos c.merge_exponential.new.neg
    (free) c.in-Exponential.is c.in-Exponential-g.is c.in_err-made-in-Exponential-g.ensures refl

pub merge_explicit-requires : goal.merge_explicit-requires
merge_explicit-requires c =
    let first : Stored = stored c.args.a c.args.abounds.now c.args.apos.now c.args.aneg.now in
    let second : Stored = stored c.args.b c.args.bbounds.now c.args.bpos.now c.args.bneg.now in
    let free : refusal_before c.args.size (first) (second) ≡ 0 = sym c.in_ok-refusal.ensures in
    calls.can-add c.args.size (first) (second) (free) c.in-Explicit.n c.in-Explicit-g-2.m c.in-Explicit.is c.in-Explicit-g-2.is

pub returns-in_err-made-in-Explicit-g-2 : goal.returns-in_err-made-in-Explicit-g-2
returns-in_err-made-in-Explicit-g-2 c =
    let first : Stored = stored c.args.a c.args.abounds.now c.args.apos.now c.args.aneg.now in
    let second : Stored = stored c.args.b c.args.bbounds.now c.args.bpos.now c.args.bneg.now in
    let free : refusal_before c.args.size (first) (second) ≡ 0 = sym c.in_ok-refusal.ensures in
    let a = c.args in
    let e = c.in_err-made-in-Explicit-g-2.field-0.0 in
    ap (λ r. outcome r a.abounds.now c.merge_explicit.new.pos a.neg.now)
    (passed-on c.from_residual-in_err-made-in-Explicit-g-2.result e c.from_residual-in_err-made-in-Explicit-g-2.ensures.1)
    ∙ calls.explicit_law a.size (first) (second) a.pos.now a.neg.now c.in-Explicit.n c.in-Explicit-g-2.m (Err e) (refusal (number e)) c.merge_explicit.new.pos
    (free) c.in-Explicit.is c.in-Explicit-g-2.is c.in_err-made-in-Explicit-g-2.ensures refl

pub returns-in_ok-made-in-Exponential-g : goal.returns-in_ok-made-in-Exponential-g
returns-in_ok-made-in-Exponential-g c =
    let first : Stored = stored c.args.a c.args.abounds.now c.args.apos.now c.args.aneg.now in
    let second : Stored = stored c.args.b c.args.bbounds.now c.args.bpos.now c.args.bneg.now in
    let free : refusal_before c.args.size (first) (second) ≡ 0 = sym c.in_ok-refusal.ensures in
    let a = c.args in
    calls.exponential_law a.size (first) (second) a.pos.now a.neg.now c.in-Exponential.c c.in-Exponential-g.d (Ok c.in_ok-made-in-Exponential-g.made) (success c.finish.result) c.merge_exponential.new.pos c.merge_exponential.new.neg
    (free) c.in-Exponential.is c.in-Exponential-g.is c.in_ok-made-in-Exponential-g.ensures (ap success c.finish.ensures)

pub returns-in-Explicit-g : goal.returns-in-Explicit-g
returns-in-Explicit-g c =
    let first : Stored = stored c.args.a c.args.abounds.now c.args.apos.now c.args.aneg.now in
    let second : Stored = stored c.args.b c.args.bbounds.now c.args.bpos.now c.args.bneg.now in
    let free : refusal_before c.args.size (first) (second) ≡ 0 = sym c.in_ok-refusal.ensures in
    absurd (calls.not_mixed c.args.size (first) (second) (free) c.in-Exponential.c c.in-Explicit-g.m c.in-Exponential.is c.in-Explicit-g.is)

pub returns-in-Exponential-g-2 : goal.returns-in-Exponential-g-2
returns-in-Exponential-g-2 c =
    let first : Stored = stored c.args.a c.args.abounds.now c.args.apos.now c.args.aneg.now in
    let second : Stored = stored c.args.b c.args.bbounds.now c.args.bpos.now c.args.bneg.now in
    let free : refusal_before c.args.size (first) (second) ≡ 0 = sym c.in_ok-refusal.ensures in
    absurd (calls.not_mixed_2 c.args.size (first) (second) (free) c.in-Explicit.n c.in-Exponential-g-2.d c.in-Explicit.is c.in-Exponential-g-2.is)

pub returns-in_ok-made-in-Explicit-g-2 : goal.returns-in_ok-made-in-Explicit-g-2
returns-in_ok-made-in-Explicit-g-2 c =
    let first : Stored = stored c.args.a c.args.abounds.now c.args.apos.now c.args.aneg.now in
    let second : Stored = stored c.args.b c.args.bbounds.now c.args.bpos.now c.args.bneg.now in
    let free : refusal_before c.args.size (first) (second) ≡ 0 = sym c.in_ok-refusal.ensures in
    let a = c.args in
    calls.explicit_law a.size (first) (second) a.pos.now a.neg.now c.in-Explicit.n c.in-Explicit-g-2.m (Ok c.in_ok-made-in-Explicit-g-2.made) (success c.finish-in-Explicit-g-2.result) c.merge_explicit.new.pos
    (free) c.in-Explicit.is c.in-Explicit-g-2.is c.in_ok-made-in-Explicit-g-2.ensures (ap success c.finish-in-Explicit-g-2.ensures)
