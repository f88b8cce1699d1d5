-- `explicit_collection::slot::agrees_at` meets its contract. Assumes nothing.
use Prim.Native.Nat.{ℕ, ◌+◌, ◌*◌, ◌≤◌}
use mathlib.Core.Path.{sym, subst, ◌∙◌}
use native.Mathlib.Omega.{arith}
use lib.ListN.{length}
use Rattle.explicit_slots.specs.Cells.{Cells, cells}
use Rattle.explicit_collection.proofs.Slots.{uncounted, low_lost, by_high}
use Rattle.explicit_collection.proofs.slot.agrees_at.Goals as goal

pub overflow_mul-a : goal.overflow_mul-a
overflow_mul-a c =
    let end : c.args.x * c.bucket_count-n.result + c.bucket_count-n.result ≤ length c.args.counts.now = let a = c.args in subst (λ (k : ℕ). a.x * k + k ≤ length a.counts.now) (sym c.bucket_count-n.ensures) c.requires.counts in
    omega (arith, end)

pub overflow_add-e : goal.overflow_add-e
overflow_add-e c =
    let end : c.args.x * c.bucket_count-n.result + c.bucket_count-n.result ≤ length c.args.counts.now = let a = c.args in subst (λ (k : ℕ). a.x * k + k ≤ length a.counts.now) (sym c.bucket_count-n.ensures) c.requires.counts in
    omega (arith, end)

pub slice_bounds-buckets_agree-end : goal.slice_bounds-buckets_agree-end
slice_bounds-buckets_agree-end c =
    let end : c.args.x * c.bucket_count-n.result + c.bucket_count-n.result ≤ length c.args.counts.now = let a = c.args in subst (λ (k : ℕ). a.x * k + k ≤ length a.counts.now) (sym c.bucket_count-n.ensures) c.requires.counts in
    end

pub returns-then-not-buckets_agree : goal.returns-then-not-buckets_agree
returns-then-not-buckets_agree c =
    let lent : Cells = let a = c.args in cells a.totals.now a.extremes.now a.counts.now in
    let a = c.args in
    uncounted a.bounds.now (lent) a.x c.bucket_count-n.result c.bucket_count-n.ensures c.head_at-head.result c.head_at-head.ensures
    c.buckets_agree.result c.buckets_agree.ensures c.if-not-buckets_agree.true

pub returns-then-not-is_finite : goal.returns-then-not-is_finite
returns-then-not-is_finite c =
    let lent : Cells = let a = c.args in cells a.totals.now a.extremes.now a.counts.now in
    let a = c.args in
    low_lost a.bounds.now (lent) a.x c.bucket_count-n.result c.bucket_count-n.ensures c.head_at-head.result c.head_at-head.ensures
    c.buckets_agree.result c.buckets_agree.ensures c.if-not-buckets_agree.false
    (sym c.is_finite.ensures ∙ c.if-not-is_finite.true)

pub returns : goal.returns
returns c =
    let lent : Cells = let a = c.args in cells a.totals.now a.extremes.now a.counts.now in
    let a = c.args in
    c.is_finite-2.ensures
    ∙ by_high a.bounds.now (lent) a.x c.bucket_count-n.result c.bucket_count-n.ensures c.head_at-head.result c.head_at-head.ensures
    c.buckets_agree.result c.buckets_agree.ensures c.if-not-buckets_agree.false
    (sym c.is_finite.ensures ∙ c.if-not-is_finite.false)
