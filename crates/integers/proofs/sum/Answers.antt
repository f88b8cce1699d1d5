-- `sum` meets its contract. Assumes nothing.
use Rattle.std.proofs.Common.{◌^◌, ◌<◌, ℤ, ◌∙◌, subst}
use lib.Signed.{mag}
use Rattle.integers.specs.Answers.{sum_of}
use Rattle.integers.proofs.Range.{held, middle-fine, middle-inside}
use Rattle.integers.proofs.sum.Goals as goal

pub overflow_add-result : goal.overflow_add-result
overflow_add-result c =
    let both : (let a = c.args in (mag a.a < 2 ^ 62) × (mag a.v < 2 ^ 62)) =
    let m = c.are_middling.ensures c.if-are_middling.true in
    (subst (λ (z : ℤ). mag z < 2 ^ 62) (held c.args.a c.ranges.a) m.0, subst (λ (z : ℤ). mag z < 2 ^ 62) (held c.args.v c.ranges.v) m.1) in
    middle-fine c.args.a c.args.v c.ranges.a c.ranges.v (both).0 (both).1

pub returns-then-are_middling : goal.returns-then-are_middling
returns-then-are_middling c =
    let both : (let a = c.args in (mag a.a < 2 ^ 62) × (mag a.v < 2 ^ 62)) =
    let m = c.are_middling.ensures c.if-are_middling.true in
    (subst (λ (z : ℤ). mag z < 2 ^ 62) (held c.args.a c.ranges.a) m.0, subst (λ (z : ℤ). mag z < 2 ^ 62) (held c.args.v c.ranges.v) m.1) in
    middle-inside c.args.a c.args.v c.ranges.a c.ranges.v (both).0 (both).1

pub returns : goal.returns
returns c =
    c.end_sum.ensures ∙ (λ j. sum_of (held c.args.a c.ranges.a j) (held c.args.v c.ranges.v j))
