-- `merge` meets its contract. Assumes nothing.
use mathlib.Core.Path.{◌≡◌, refl, sym, ap, ◌∙◌}
use borrow.Author.Rules.{rules}
use mir.Syntax.{w64}
use mir.Val.{SFits}
use Rattle.laws.specs.Said.{refusal, success}
use Rattle.refusals.specs.Refusals.{number}
use Rattle.refusals.proofs.Numbers.{code-most, passed-on}
use Rattle.integers.specs.Answers.{sum_of, last_number}
use Rattle.integers.proofs.Range.{held}
use Rattle.point.specs.Handing as P
use Rattle.whole_point.specs.Handing.{Stored, stored, outcome, merged_of}
use Rattle.points.proofs.WholeSums.{last-within}
use Rattle.whole_point.proofs.Call.{outside_law, inside_law}
use Rattle.whole_point.proofs.merge.Goals as goal

pub numbered-requires : goal.numbered-requires
numbered-requires c =
    last-within _ _ (code-most c.refusal-before.result) (c.last_number-n.ensures ∙ ap last_number c.code-no.ensures)

pub returns-in_default : goal.returns-in_default
returns-in_default c =
    let first : Stored = stored c.args.a c.args.abounds.now c.args.apos.now c.args.aneg.now in
    let second : Stored = stored c.args.b c.args.bbounds.now c.args.bpos.now c.args.bneg.now in
    let first-sum : SFits w64 c.args.a.sum = search rules in
    let second-sum : SFits w64 c.args.b.sum = search rules in
    let told : c.sum.result ≡ sum_of c.args.a.sum c.args.b.sum = c.sum.ensures ∙ (λ j. sum_of (held c.args.a.sum (first-sum) j) (held c.args.b.sum (second-sum) j)) in
    let a = c.args in
    outside_law a.size (first) (second) a.pos.now a.neg.now
    (sym (told) ∙ c.in_default.is)
    c.code-no.result (number c.numbered.result)
    (c.code-no.ensures ∙ c.refusal-before.ensures
    ∙ (λ j. P.refusal_before a.size (P.stored (c.shadow_of-x.ensures j) a.abounds.now a.apos.now a.aneg.now) (P.stored (c.shadow_of-y.ensures j) a.bbounds.now a.bpos.now a.bneg.now)))
    (c.numbered.ensures ∙ c.last_number-n.ensures)

pub returns-in_err-counted : goal.returns-in_err-counted
returns-in_err-counted c =
    let first : Stored = stored c.args.a c.args.abounds.now c.args.apos.now c.args.aneg.now in
    let second : Stored = stored c.args.b c.args.bbounds.now c.args.bpos.now c.args.bneg.now in
    let first-sum : SFits w64 c.args.a.sum = search rules in
    let second-sum : SFits w64 c.args.b.sum = search rules in
    let told : c.sum.result ≡ sum_of c.args.a.sum c.args.b.sum = c.sum.ensures ∙ (λ j. sum_of (held c.args.a.sum (first-sum) j) (held c.args.b.sum (second-sum) j)) in
    let a = c.args in
    let e = c.in_err-counted.field-0.0 in
    ap (λ r. outcome r a.abounds.now c.merge.new.pos c.merge.new.neg) (passed-on c.from_residual.result e c.from_residual.ensures.1)
    ∙ inside_law a.size (first) (second) a.pos.now a.neg.now c.in-Some.s (sym (told) ∙ c.in-Some.is)
    (refusal (number e)) (refusal (number e)) c.merge.new.pos c.merge.new.neg
    (c.in_err-counted.ensures
    ∙ (λ j. P.merging a.size (P.stored (c.shadow_of-x.ensures j) a.abounds.now a.apos.now a.aneg.now) (P.stored (c.shadow_of-y.ensures j) a.bbounds.now a.bpos.now a.bneg.now) a.pos.now a.neg.now))
    refl

pub returns : goal.returns
returns c =
    let first : Stored = stored c.args.a c.args.abounds.now c.args.apos.now c.args.aneg.now in
    let second : Stored = stored c.args.b c.args.bbounds.now c.args.bpos.now c.args.bneg.now in
    let first-sum : SFits w64 c.args.a.sum = search rules in
    let second-sum : SFits w64 c.args.b.sum = search rules in
    let told : c.sum.result ≡ sum_of c.args.a.sum c.args.b.sum = c.sum.ensures ∙ (λ j. sum_of (held c.args.a.sum (first-sum) j) (held c.args.b.sum (second-sum) j)) in
    let whole_sum : SFits w64 c.in-Some.s = search rules in
    let a = c.args in
    inside_law a.size (first) (second) a.pos.now a.neg.now c.in-Some.s (sym (told) ∙ c.in-Some.is)
    (success c.in_ok-counted.counted) (success c.finish.result) c.merge.new.pos c.merge.new.neg
    (c.in_ok-counted.ensures
    ∙ (λ j. P.merging a.size (P.stored (c.shadow_of-x.ensures j) a.abounds.now a.apos.now a.aneg.now) (P.stored (c.shadow_of-y.ensures j) a.bbounds.now a.bpos.now a.bneg.now) a.pos.now a.neg.now))
    (ap success (c.finish.ensures ∙ ap (λ y. merged_of a.a a.b y c.in_ok-counted.counted) (held c.in-Some.s (whole_sum))))
