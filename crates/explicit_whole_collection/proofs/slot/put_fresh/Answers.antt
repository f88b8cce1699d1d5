-- `explicit_whole_collection::slot::put_fresh` meets its contract. Assumes nothing.
use Prim.Native.Nat.{ℕ, ◌≤◌}
use mathlib.Core.Path.{ap, ◌∙◌}
use mathlib.Core.List.{List, []}
use native.Mathlib.Omega.{arith}
use lib.ListN.{length-replicate}
use Rattle.points.specs.Explicit.{bucket_count}
use Rattle.explicit.proofs.Cases.{count-few}
use Rattle.explicit_wholes.specs.Series.{fresh_head}
use Rattle.whole_point.specs.Handing.{explicit_point}
use Rattle.whole_listing.specs.Words.{words_of}
use Rattle.listing.specs.Inner.{left}
use Rattle.listing.specs.Listed.{Output, output}
use Rattle.collecting.specs.Read.{span_of}
use Rattle.collecting.specs.Slots.{laid_at, behind_at}
use Rattle.explicit_whole_collection.proofs.Slots.{zeros-front}
use Rattle.explicit_whole_collection.proofs.slot.put_fresh.Goals as goal

pub put_point-requires : goal.put_point-requires
put_point-requires c =
    let few : bucket_count c.args.bounds.now ≤ 160 = count-few c.args.bounds.now c.requires.bounds_value in
    record { bounds_value = (c.requires.bounds_value, omega (arith, few, length-replicate {A = ℕ} 160 0)); place = c.requires.place }

pub returns : goal.returns
returns c =
    let lent : Output = let a = c.args in output a.out_sets.now a.out_words.now a.out_pos.now a.out_neg.now in
    let few : bucket_count c.args.bounds.now ≤ 160 = count-few c.args.bounds.now c.requires.bounds_value in
    let a = c.args in
    let n = bucket_count a.bounds.now in
    c.put_point.ensures
    ∙ ap (λ (l : List ℕ). left (behind_at a.at n 0) (laid_at a.at a.row (words_of (explicit_point fresh_head a.show a.sums) (span_of a.bounds.now)) l [] (lent)))
    (zeros-front n 160 (few))
