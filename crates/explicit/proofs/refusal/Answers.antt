use mathlib.Core.Path.{sym, ◌∙◌}
use native.Mathlib.Omega.{arith}
use Rattle.explicit.proofs.Cases.{short_row, not_finite, disagrees, bad-min, bad-max, full, none}
use Rattle.explicit.proofs.refusal.Goals as goal

pub returns-then-counts-bucket_count : goal.returns-then-counts-bucket_count
returns-then-counts-bucket_count c =
    let a = c.args in
    short_row a.bounds.now a.head a.counts.now a.v (omega (arith, c.if-counts-bucket_count.true, c.bucket_count.ensures))

pub returns-then-not-is_finite : goal.returns-then-not-is_finite
returns-then-not-is_finite c =
    let a = c.args in
    not_finite a.bounds.now a.head a.counts.now a.v (omega (arith, c.if-counts-bucket_count.false, c.bucket_count.ensures)) (sym c.is_finite.ensures ∙ c.if-not-is_finite.true)

pub returns-then-not-buckets_agree : goal.returns-then-not-buckets_agree
returns-then-not-buckets_agree c =
    let a = c.args in
    disagrees a.bounds.now a.head a.counts.now a.v (omega (arith, c.if-counts-bucket_count.false, c.bucket_count.ensures)) (sym c.is_finite.ensures ∙ c.if-not-is_finite.false) (sym c.buckets_agree.ensures ∙ c.if-not-buckets_agree.true)

pub returns-then-not-is_finite-2 : goal.returns-then-not-is_finite-2
returns-then-not-is_finite-2 c =
    let a = c.args in
    bad-min a.bounds.now a.head a.counts.now a.v (omega (arith, c.if-counts-bucket_count.false, c.bucket_count.ensures)) (sym c.is_finite.ensures ∙ c.if-not-is_finite.false) (sym c.buckets_agree.ensures ∙ c.if-not-buckets_agree.false)
    (sym c.is_finite-2.ensures ∙ c.if-not-is_finite-2.true)

pub returns-then-not-is_finite-3 : goal.returns-then-not-is_finite-3
returns-then-not-is_finite-3 c =
    let a = c.args in
    bad-max a.bounds.now a.head a.counts.now a.v (omega (arith, c.if-counts-bucket_count.false, c.bucket_count.ensures)) (sym c.is_finite.ensures ∙ c.if-not-is_finite.false) (sym c.buckets_agree.ensures ∙ c.if-not-buckets_agree.false)
    (sym c.is_finite-2.ensures ∙ c.if-not-is_finite-2.false) (sym c.is_finite-3.ensures ∙ c.if-not-is_finite-3.true)

pub returns-then-head-ge18446744073709551615 : goal.returns-then-head-ge18446744073709551615
returns-then-head-ge18446744073709551615 c =
    let a = c.args in
    full a.bounds.now a.head a.counts.now a.v (omega (arith, c.if-counts-bucket_count.false, c.bucket_count.ensures)) (sym c.is_finite.ensures ∙ c.if-not-is_finite.false) (sym c.buckets_agree.ensures ∙ c.if-not-buckets_agree.false)
    (sym c.is_finite-2.ensures ∙ c.if-not-is_finite-2.false) (sym c.is_finite-3.ensures ∙ c.if-not-is_finite-3.false) c.if-head-ge18446744073709551615.true

pub returns : goal.returns
returns c =
    let a = c.args in
    none a.bounds.now a.head a.counts.now a.v (omega (arith, c.if-counts-bucket_count.false, c.bucket_count.ensures)) (sym c.is_finite.ensures ∙ c.if-not-is_finite.false) (sym c.buckets_agree.ensures ∙ c.if-not-buckets_agree.false)
    (sym c.is_finite-2.ensures ∙ c.if-not-is_finite-2.false) (sym c.is_finite-3.ensures ∙ c.if-not-is_finite-3.false) c.if-head-ge18446744073709551615.false
