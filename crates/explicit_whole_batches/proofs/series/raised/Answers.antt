-- `series::raised` meets its contract. Assumes nothing.
use mathlib.Core.Path.{◌≡◌, sym, ap, ◌∙◌}
use Rattle.std.specs.Prelude.{Err}
use borrow.Author.Rules.{rules}
use mir.Syntax.{w64}
use mir.Val.{SFits}
use Rattle.integers.specs.Answers.{lesser_of, greater_of, kept_sum}
use Rattle.refusals.specs.Refusals.{code, said}
use Rattle.refusals.specs.declared.Refusal.TheVariants.{SumOutside}
use Rattle.rows.specs.Recording.{after}
use Rattle.explicit_batches.specs.Values.{head_after}
use Rattle.integers.proofs.Range.{held}
use Rattle.explicit_whole_batches.proofs.Values.{raise_9, raise-outside, raise-inside}
use Rattle.explicit_whole_batches.proofs.series.raised.Goals as goal

pub returns-then-head-ge18446744073709551615 : goal.returns-then-head-ge18446744073709551615
returns-then-head-ge18446744073709551615 c = let a = c.args in raise_9 a.sums a.head a.v c.if-head-ge18446744073709551615.true

pub returns-in_err-s : goal.returns-in_err-s
returns-in_err-s c =
    let held-sum : SFits w64 c.args.head.sum = search rules in
    let told : (let a = c.args in c.kept_sum.result ≡ kept_sum a.sums a.head.sum a.v) = c.kept_sum.ensures ∙ (λ j. kept_sum c.args.sums (held c.args.head.sum (held-sum) j) (held c.args.v c.ranges.v j)) in
    let k : c.from_residual.result ≡ Err SumOutside = search rules in
    let a = c.args in
    ap (λ r. after (code r) (head_after (said r) a.head)) k ∙ raise-outside a.sums a.head a.v c.if-head-ge18446744073709551615.false (sym (told) ∙ c.in_err-s.ensures.ok_part)

pub returns : goal.returns
returns c =
    let held-min : SFits w64 c.args.head.min = search rules in
    let held-max : SFits w64 c.args.head.max = search rules in
    let held-sum : SFits w64 c.args.head.sum = search rules in
    let told : (let a = c.args in c.kept_sum.result ≡ kept_sum a.sums a.head.sum a.v) = c.kept_sum.ensures ∙ (λ j. kept_sum c.args.sums (held c.args.head.sum (held-sum) j) (held c.args.v c.ranges.v j)) in
    let a = c.args in
    let least : SFits w64 c.lesser-least.result = search rules in
    let most : SFits w64 c.greater-greatest.result = search rules in
    let whole : SFits w64 c.in_ok-s.s = search rules in
    raise-inside a.sums a.head a.v c.if-head-ge18446744073709551615.false _ _ _ _
    (held c.lesser-least.result least ∙ c.lesser-least.ensures ∙ (λ j. lesser_of (held a.head.min (held-min) j) (held a.v c.ranges.v j)))
    (held c.greater-greatest.result most ∙ c.greater-greatest.ensures ∙ (λ j. greater_of (held a.head.max (held-max) j) (held a.v c.ranges.v j)))
    (held c.in_ok-s.s whole)
    (sym (told) ∙ c.in_ok-s.ensures.ok_part)
