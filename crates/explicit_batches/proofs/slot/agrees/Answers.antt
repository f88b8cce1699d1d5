-- `slot::agrees` meets its contract. Assumes nothing.
use mathlib.Core.Path.{sym, ◌∙◌}
use Rattle.explicit_batches.proofs.Entered.{bad-counts, bad-min, by-max}
use Rattle.explicit_batches.proofs.slot.agrees.Goals as goal

pub returns-then-not-buckets_agree : goal.returns-then-not-buckets_agree
returns-then-not-buckets_agree c =
    let a = c.args in
    bad-counts a.bounds.now a.head a.counts.now (sym c.buckets_agree.ensures ∙ c.if-not-buckets_agree.true)

pub returns-then-not-is_finite : goal.returns-then-not-is_finite
returns-then-not-is_finite c =
    let a = c.args in
    bad-min a.bounds.now a.head a.counts.now (sym c.buckets_agree.ensures ∙ c.if-not-buckets_agree.false)
    (sym c.is_finite.ensures ∙ c.if-not-is_finite.true)

pub returns : goal.returns
returns c =
    let a = c.args in
    c.is_finite-2.ensures
    ∙ by-max a.bounds.now a.head a.counts.now (sym c.buckets_agree.ensures ∙ c.if-not-buckets_agree.false)
    (sym c.is_finite.ensures ∙ c.if-not-is_finite.false)
