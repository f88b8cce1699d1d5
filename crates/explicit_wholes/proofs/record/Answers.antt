-- `record` meets its contract. Assumes nothing.
use mathlib.Core.Path.{◌≡◌, refl, sym, ap, ◌∙◌}
use borrow.Author.Rules.{rules}
use mir.Syntax.{w64}
use mir.Val.{SFits}
use Rattle.std.specs.Prelude.{Err}
use Rattle.laws.specs.Said.{refusal, success}
use Rattle.refusals.specs.Refusals.{number, said}
use Rattle.refusals.proofs.Numbers.{code-most}
use Rattle.integers.specs.Answers.{nearest_of, kept_sum, lesser_of, greater_of, last_number}
use Rattle.integers.proofs.Range.{held}
use Rattle.explicit.specs.Series as E
use Rattle.explicit_wholes.specs.Series.{outcome}
use Rattle.points.proofs.WholeSums.{last-within}
use Rattle.explicit_wholes.proofs.Call.{outside_law, inside_law}
use Rattle.explicit_wholes.proofs.record.Goals as goal

pub numbered-requires : goal.numbered-requires
numbered-requires c =
    last-within _ _ (code-most c.refusal-before.result) (c.last_number-n.ensures ∙ ap last_number c.code-no.ensures)

pub returns-in_default : goal.returns-in_default
returns-in_default c =
    let a = c.args in
    let near : c.nearest-x.result ≡ nearest_of a.v = c.nearest-x.ensures ∙ ap nearest_of (held a.v c.ranges.v) in
    let f : SFits w64 a.head.sum = search rules in
    let told : c.kept_sum.result ≡ kept_sum a.sums a.head.sum a.v =
    c.kept_sum.ensures ∙ (λ j. kept_sum a.sums (held a.head.sum f j) (held a.v c.ranges.v j)) in
    outside_law a.bounds.now a.sums a.head a.counts.now a.v (sym told ∙ c.in_default.is) c.code-no.result (number c.numbered.result)
    (c.code-no.ensures ∙ c.refusal-before.ensures
    ∙ (λ j. E.refusal_of a.bounds.now (c.under_count-h.ensures j) a.counts.now (near j)))
    (c.numbered.ensures ∙ c.last_number-n.ensures)

pub returns-in_err-g : goal.returns-in_err-g
returns-in_err-g c =
    let a = c.args in
    let near : c.nearest-x.result ≡ nearest_of a.v = c.nearest-x.ensures ∙ ap nearest_of (held a.v c.ranges.v) in
    let f : SFits w64 a.head.sum = search rules in
    let told : c.kept_sum.result ≡ kept_sum a.sums a.head.sum a.v =
    c.kept_sum.ensures ∙ (λ j. kept_sum a.sums (held a.head.sum f j) (held a.v c.ranges.v j)) in
    let e = c.in_err-g.field-0.0 in
    let k : c.from_residual.result ≡ Err e = search rules in
    ap (λ r. outcome (said r) c.record.new.counts) k
    ∙ inside_law a.bounds.now a.sums a.head a.counts.now a.v c.in-Some.sum (refusal (number e)) (refusal (number e)) c.record.new.counts
    (sym told ∙ c.in-Some.is)
    (c.in_err-g.ensures ∙ (λ j. E.recording a.bounds.now (c.under_count-h.ensures j) a.counts.now (near j))) refl

pub returns : goal.returns
returns c =
    let a = c.args in
    let near : c.nearest-x.result ≡ nearest_of a.v = c.nearest-x.ensures ∙ ap nearest_of (held a.v c.ranges.v) in
    let f : SFits w64 a.head.sum = search rules in
    let told : c.kept_sum.result ≡ kept_sum a.sums a.head.sum a.v =
    c.kept_sum.ensures ∙ (λ j. kept_sum a.sums (held a.head.sum f j) (held a.v c.ranges.v j)) in
    let l : SFits w64 c.lesser.result = search rules in
    let g : SFits w64 c.greater.result = search rules in
    let m : SFits w64 a.head.min = search rules in
    let n : SFits w64 a.head.max = search rules in
    let s : SFits w64 c.in-Some.sum = search rules in
    inside_law a.bounds.now a.sums a.head a.counts.now a.v c.in-Some.sum (success c.in_ok-g.g) _ c.record.new.counts
    (sym told ∙ c.in-Some.is)
    (c.in_ok-g.ensures ∙ (λ j. E.recording a.bounds.now (c.under_count-h.ensures j) a.counts.now (near j)))
    (λ j. success (record {
      count = c.in_ok-g.g.count;
      min = (held c.lesser.result l ∙ c.lesser.ensures ∙ (λ i. lesser_of (held a.head.min m i) (held a.v c.ranges.v i))) j;
      max = (held c.greater.result g ∙ c.greater.ensures ∙ (λ i. greater_of (held a.head.max n i) (held a.v c.ranges.v i))) j;
      sum = held c.in-Some.sum s j;
    }))
