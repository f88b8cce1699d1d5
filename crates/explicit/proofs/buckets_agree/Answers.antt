use Prim.Native.Nat.{ℕ}
use mathlib.Core.Path.{◌≡◌, sym, ap, ◌∙◌}
use mathlib.Core.Bool.{true}
use native.Mathlib.Omega.{arith}
use lib.ListN.{take}
use lib.Dec.{eqb}
use Rattle.laws.specs.Counting.{total}
use Rattle.laws.proofs.Bools.{not-both}
use Rattle.points.specs.Explicit.{bounds_pass}
use Rattle.explicit.proofs.Cases.{refuse, too_short, no-buckets, by_total, count-few}
use Rattle.explicit.proofs.buckets_agree.Goals as goal

pub returns-then-not-bounds_pass : goal.returns-then-not-bounds_pass
returns-then-not-bounds_pass c =
    let a = c.args in
    refuse a.bounds.now a.count a.counts.now (λ k. not-both _ (c.bounds_pass.ensures ∙ k.passes) (c.if-not-bounds_pass.true))

pub returns-then-counts-n : goal.returns-then-counts-n
returns-then-counts-n c =
    let a = c.args in
    too_short a.bounds.now a.count a.counts.now (omega (arith, c.if-counts-n.true, c.bucket_count-n.ensures))

pub returns-then-n-eq0 : goal.returns-then-n-eq0
returns-then-n-eq0 c =
    let passed : bounds_pass c.args.bounds.now ≡ true = sym c.bounds_pass.ensures ∙ c.if-not-bounds_pass.false in
    let a = c.args in
    no-buckets a.bounds.now a.count a.counts.now (passed) (omega (arith, c.if-counts-n.false, c.bucket_count-n.ensures)) (sym c.bucket_count-n.ensures ∙ c.if-n-eq0.true)

pub adds_up-requires : goal.adds_up-requires
adds_up-requires c =
    let passed : bounds_pass c.args.bounds.now ≡ true = sym c.bounds_pass.ensures ∙ c.if-not-bounds_pass.false in
    let a = c.args in
    (omega (arith, c.if-counts-n.false), omega (arith, c.bucket_count-n.ensures, count-few a.bounds.now (passed)))

pub returns : goal.returns
returns c =
    let passed : bounds_pass c.args.bounds.now ≡ true = sym c.bounds_pass.ensures ∙ c.if-not-bounds_pass.false in
    let a = c.args in
    c.adds_up.ensures
    ∙ ap (λ (m : ℕ). eqb (total (take m a.counts.now)) a.count) c.bucket_count-n.ensures
    ∙ by_total a.bounds.now a.count a.counts.now (passed) (omega (arith, c.if-counts-n.false, c.bucket_count-n.ensures)) (omega (arith, c.if-n-eq0.false, c.bucket_count-n.ensures))
