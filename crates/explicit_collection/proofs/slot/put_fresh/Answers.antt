-- `explicit_collection::slot::put_fresh` meets its contract. Assumes nothing.
use Prim.Native.Nat.{ℕ, ◌≤◌}
use mathlib.Core.Path.{ap, ◌∙◌}
use native.Mathlib.Omega.{arith}
use lib.ListN.{length, replicate, length-replicate}
use Rattle.points.specs.Explicit.{bucket_count}
use Rattle.explicit.proofs.Cases.{count-few}
use Rattle.refusals.specs.Refusals.{said}
use Rattle.listing.specs.Listed.{Output, output}
use Rattle.explicit_collection.proofs.Slots.{fresh-never, fresh-long, fresh-put}
use Rattle.explicit_collection.proofs.slot.put_fresh.Goals as goal

pub put_point-requires : goal.put_point-requires
put_point-requires c =
    let enough : bucket_count c.args.bounds.now ≤ length (replicate {A = ℕ} 160 0) = omega (arith, count-few c.args.bounds.now c.requires.bounds_value, length-replicate {A = ℕ} 160 0) in
    record { bounds_value = (c.requires.bounds_value, fresh-long c.args.bounds.now _ (enough) (said c.fresh-empty.result) _ c.fresh-empty.ensures); place = c.requires.place }

pub returns-in-Err : goal.returns-in-Err
returns-in-Err c =
    let enough : bucket_count c.args.bounds.now ≤ length (replicate {A = ℕ} 160 0) = omega (arith, count-few c.args.bounds.now c.requires.bounds_value, length-replicate {A = ℕ} 160 0) in
    absurd (fresh-never c.args.bounds.now _ (enough) (said c.fresh-empty.result) _ c.fresh-empty.ensures _ (ap said c.in-Err.is))

pub returns-in-Ok : goal.returns-in-Ok
returns-in-Ok c =
    let enough : bucket_count c.args.bounds.now ≤ length (replicate {A = ℕ} 160 0) = omega (arith, count-few c.args.bounds.now c.requires.bounds_value, length-replicate {A = ℕ} 160 0) in
    let lent : Output = let a = c.args in output a.out_sets.now a.out_words.now a.out_pos.now a.out_neg.now in
    let a = c.args in
    c.put_point.ensures
    ∙ fresh-put a.bounds.now _ (enough) (said c.fresh-empty.result) _ c.fresh-empty.ensures _ (ap said c.in-Ok.is) a.show a.sums a.at a.row (lent)
