use Prim.Native.Nat.{ℕ}
use mathlib.Core.Path.{sym, ap, ◌∙◌, subst}
use native.Mathlib.Omega.{arith}
use lib.ListN.{take}
use Rattle.points.specs.Explicit.{bucket_count, added}
use Rattle.rows.specs.Rows.{over}
use Rattle.explicit.specs.Inner.{Addable}
use Rattle.point.proofs.Laid.{no_one, laid_one_lem}
use Rattle.point.proofs.merge_explicit.Goals as goal

pub returns-then-pos-k : goal.returns-then-pos-k
returns-then-pos-k c =
    let a = c.args in
    no_one (bucket_count a.bounds.now) a.n a.apos.now a.m a.bpos.now a.pos.now (omega (arith, c.if-pos-k.true, c.bucket_count-k.ensures))

pub add_counts-requires : goal.add_counts-requires
add_counts-requires c = (
  subst (λ (n : ℕ). Addable n c.args.apos.now c.args.bpos.now) (sym c.bucket_count-k.ensures) c.requires.0,
  omega (arith, c.if-pos-k.false),
)

pub overflow_add-result : goal.overflow_add-result
overflow_add-result c = omega (arith, c.requires.1)

pub returns : goal.returns
returns c =
    let a = c.args in
    laid_one_lem (bucket_count a.bounds.now) a.n a.apos.now a.m a.bpos.now a.pos.now (omega (arith, c.if-pos-k.false, c.bucket_count-k.ensures)) c.add_counts.new.out
    (c.add_counts.ensures ∙ ap (λ (c : ℕ). over (added (take c a.apos.now) (take c a.bpos.now)) a.pos.now) c.bucket_count-k.ensures)
