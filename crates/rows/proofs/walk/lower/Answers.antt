use mathlib.Core.Path.{refl}
use Prim.Native.Nat.{◌-◌, ◌/◌, ◌^◌}
use native.Mathlib.Omega.{arith}
use lib.ListN.{length-set}
use Rattle.rows.proofs.Groups.{part-below}
use Rattle.rows.proofs.Cuts.{same-level, no-counts, only-group, gatherable, Cut, cut-is}
use Rattle.rows.proofs.walk.lower.Goals as goal

pub returns-then-delta-eq0 : goal.returns-then-delta-eq0
returns-then-delta-eq0 c = let all = same-level c.args.counts.now c.args.delta c.args.start c.args.n c.if-delta-eq0.true c.requires.n_in_bounds.0 in record { value = all.0; counts_after = all.1 }

pub returns-then-n-eq0 : goal.returns-then-n-eq0
returns-then-n-eq0 c = let all = no-counts c.args.counts.now c.args.delta c.args.start c.args.n c.if-n-eq0.true in record { value = all.0; counts_after = all.1 }

pub part_total-x-requires : goal.part_total-x-requires
part_total-x-requires c =
    (omega arith, c.requires.n_in_bounds.0, omega (arith, part-below c.args.counts.now 0 c.args.n c.args.n (omega arith) (omega arith), c.requires.counts_bound))

pub returns-then-n-first : goal.returns-then-n-first
returns-then-n-first c = record { value = ((only-group c.args.counts.now c.args.delta c.args.start c.args.n (omega arith) c.requires.n_in_bounds.0 (omega (arith, c.first_end-first.ensures)))).0; counts_after = rw c.part_total-x.ensures ((only-group c.args.counts.now c.args.delta c.args.start c.args.n (omega arith) c.requires.n_in_bounds.0 (omega (arith, c.first_end-first.ensures)))).1 }

pub part_total-x-requires-2 : goal.part_total-x-requires-2
part_total-x-requires-2 c =
    (omega arith, omega (arith, c.requires.n_in_bounds.0), omega (arith, part-below c.args.counts.now 0 c.first_end-first.result c.args.n (omega arith) (omega arith), c.requires.counts_bound))

pub whole_groups-requires : goal.whole_groups-requires
whole_groups-requires c = record {
  delta_nonzero = (omega arith, c.width_of-width.ensures);
  gatherable = gatherable c.args.counts.now c.args.delta c.args.start c.args.n c.first_end-first.result c.width_of-width.result c.part_total-x-2.result ((c.args.n - c.first_end-first.result) / 2 ^ c.args.delta)
      (omega arith) c.requires.n_in_bounds.0 c.requires.counts_bound c.first_end-first.ensures c.width_of-width.ensures c.part_total-x-2.ensures refl;
}

pub overflow_mul-i : goal.overflow_mul-i
overflow_mul-i c =
    let at_rest : Cut c.args.counts.now c.whole_groups.new.counts c.args.delta c.args.start c.args.n c.first_end-first.result c.width_of-width.result ((c.args.n - c.first_end-first.result) / 2 ^ c.args.delta) =
    cut-is c.args.counts.now c.args.delta c.args.start c.args.n c.first_end-first.result c.width_of-width.result c.part_total-x-2.result ((c.args.n - c.first_end-first.result) / 2 ^ c.args.delta)
    (omega arith) c.requires.n_in_bounds.0 c.requires.counts_bound c.first_end-first.ensures c.width_of-width.ensures c.part_total-x-2.ensures refl c.whole_groups.new.counts c.whole_groups.ensures in
    omega (arith, (at_rest).inside)

pub overflow_add-i : goal.overflow_add-i
overflow_add-i c =
    let at_rest : Cut c.args.counts.now c.whole_groups.new.counts c.args.delta c.args.start c.args.n c.first_end-first.result c.width_of-width.result ((c.args.n - c.first_end-first.result) / 2 ^ c.args.delta) =
    cut-is c.args.counts.now c.args.delta c.args.start c.args.n c.first_end-first.result c.width_of-width.result c.part_total-x-2.result ((c.args.n - c.first_end-first.result) / 2 ^ c.args.delta)
    (omega arith) c.requires.n_in_bounds.0 c.requires.counts_bound c.first_end-first.ensures c.width_of-width.ensures c.part_total-x-2.ensures refl c.whole_groups.new.counts c.whole_groups.ensures in
    omega (arith, (at_rest).inside)

pub overflow_add-result : goal.overflow_add-result
overflow_add-result c =
    let at_rest : Cut c.args.counts.now c.whole_groups.new.counts c.args.delta c.args.start c.args.n c.first_end-first.result c.width_of-width.result ((c.args.n - c.first_end-first.result) / 2 ^ c.args.delta) =
    cut-is c.args.counts.now c.args.delta c.args.start c.args.n c.first_end-first.result c.width_of-width.result c.part_total-x-2.result ((c.args.n - c.first_end-first.result) / 2 ^ c.args.delta)
    (omega arith) c.requires.n_in_bounds.0 c.requires.counts_bound c.first_end-first.ensures c.width_of-width.ensures c.part_total-x-2.ensures refl c.whole_groups.new.counts c.whole_groups.ensures in
    omega (arith, (at_rest).few)

pub shape_of-counts-then-i-n : goal.shape_of-counts-then-i-n
shape_of-counts-then-i-n c =
    let at_rest : Cut c.args.counts.now c.whole_groups.new.counts c.args.delta c.args.start c.args.n c.first_end-first.result c.width_of-width.result ((c.args.n - c.first_end-first.result) / 2 ^ c.args.delta) =
    cut-is c.args.counts.now c.args.delta c.args.start c.args.n c.first_end-first.result c.width_of-width.result c.part_total-x-2.result ((c.args.n - c.first_end-first.result) / 2 ^ c.args.delta)
    (omega arith) c.requires.n_in_bounds.0 c.requires.counts_bound c.first_end-first.ensures c.width_of-width.ensures c.part_total-x-2.ensures refl c.whole_groups.new.counts c.whole_groups.ensures in
    (at_rest).kept

pub returns-then-i-n : goal.returns-then-i-n
returns-then-i-n c =
    let at_rest : Cut c.args.counts.now c.whole_groups.new.counts c.args.delta c.args.start c.args.n c.first_end-first.result c.width_of-width.result ((c.args.n - c.first_end-first.result) / 2 ^ c.args.delta) =
    cut-is c.args.counts.now c.args.delta c.args.start c.args.n c.first_end-first.result c.width_of-width.result c.part_total-x-2.result ((c.args.n - c.first_end-first.result) / 2 ^ c.args.delta)
    (omega arith) c.requires.n_in_bounds.0 c.requires.counts_bound c.first_end-first.ensures c.width_of-width.ensures c.part_total-x-2.ensures refl c.whole_groups.new.counts c.whole_groups.ensures in
    let all = (at_rest).no-rest c.if-i-n.true in record { value = all.0; counts_after = all.1 }

pub part_total-y-requires : goal.part_total-y-requires
part_total-y-requires c =
    let at_rest : Cut c.args.counts.now c.whole_groups.new.counts c.args.delta c.args.start c.args.n c.first_end-first.result c.width_of-width.result ((c.args.n - c.first_end-first.result) / 2 ^ c.args.delta) =
    cut-is c.args.counts.now c.args.delta c.args.start c.args.n c.first_end-first.result c.width_of-width.result c.part_total-x-2.result ((c.args.n - c.first_end-first.result) / 2 ^ c.args.delta)
    (omega arith) c.requires.n_in_bounds.0 c.requires.counts_bound c.first_end-first.ensures c.width_of-width.ensures c.part_total-x-2.ensures refl c.whole_groups.new.counts c.whole_groups.ensures in
    let r = at_rest in
    (r.inside, omega (arith, r.kept), r.fits)

pub bounds-counts-m : goal.bounds-counts-m
bounds-counts-m c =
    let at_rest : Cut c.args.counts.now c.whole_groups.new.counts c.args.delta c.args.start c.args.n c.first_end-first.result c.width_of-width.result ((c.args.n - c.first_end-first.result) / 2 ^ c.args.delta) =
    cut-is c.args.counts.now c.args.delta c.args.start c.args.n c.first_end-first.result c.width_of-width.result c.part_total-x-2.result ((c.args.n - c.first_end-first.result) / 2 ^ c.args.delta)
    (omega arith) c.requires.n_in_bounds.0 c.requires.counts_bound c.first_end-first.ensures c.width_of-width.ensures c.part_total-x-2.ensures refl c.whole_groups.new.counts c.whole_groups.ensures in
    omega (arith, (at_rest).few, (at_rest).inside, (at_rest).kept)

pub offset_bounds-counts-m : goal.offset_bounds-counts-m
offset_bounds-counts-m c =
    let at_rest : Cut c.args.counts.now c.whole_groups.new.counts c.args.delta c.args.start c.args.n c.first_end-first.result c.width_of-width.result ((c.args.n - c.first_end-first.result) / 2 ^ c.args.delta) =
    cut-is c.args.counts.now c.args.delta c.args.start c.args.n c.first_end-first.result c.width_of-width.result c.part_total-x-2.result ((c.args.n - c.first_end-first.result) / 2 ^ c.args.delta)
    (omega arith) c.requires.n_in_bounds.0 c.requires.counts_bound c.first_end-first.ensures c.width_of-width.ensures c.part_total-x-2.ensures refl c.whole_groups.new.counts c.whole_groups.ensures in
    omega (arith, bounds-counts-m c, (at_rest).kept)

pub overflow_add-counts : goal.overflow_add-counts
overflow_add-counts c = omega (arith, offset_bounds-counts-m c)

pub overflow_add-result-2 : goal.overflow_add-result-2
overflow_add-result-2 c = omega (arith, offset_bounds-counts-m c)

pub shape_of-counts : goal.shape_of-counts
shape_of-counts c =
    let at_rest : Cut c.args.counts.now c.whole_groups.new.counts c.args.delta c.args.start c.args.n c.first_end-first.result c.width_of-width.result ((c.args.n - c.first_end-first.result) / 2 ^ c.args.delta) =
    cut-is c.args.counts.now c.args.delta c.args.start c.args.n c.first_end-first.result c.width_of-width.result c.part_total-x-2.result ((c.args.n - c.first_end-first.result) / 2 ^ c.args.delta)
    (omega arith) c.requires.n_in_bounds.0 c.requires.counts_bound c.first_end-first.ensures c.width_of-width.ensures c.part_total-x-2.ensures refl c.whole_groups.new.counts c.whole_groups.ensures in
    rw length-set (at_rest).kept

pub returns : goal.returns
returns c =
    let at_rest : Cut c.args.counts.now c.whole_groups.new.counts c.args.delta c.args.start c.args.n c.first_end-first.result c.width_of-width.result ((c.args.n - c.first_end-first.result) / 2 ^ c.args.delta) =
    cut-is c.args.counts.now c.args.delta c.args.start c.args.n c.first_end-first.result c.width_of-width.result c.part_total-x-2.result ((c.args.n - c.first_end-first.result) / 2 ^ c.args.delta)
    (omega arith) c.requires.n_in_bounds.0 c.requires.counts_bound c.first_end-first.ensures c.width_of-width.ensures c.part_total-x-2.ensures refl c.whole_groups.new.counts c.whole_groups.ensures in
    record { value = (((at_rest).a-rest (omega (arith, (at_rest).inside)))).0; counts_after = rw c.part_total-y.ensures (((at_rest).a-rest (omega (arith, (at_rest).inside)))).1 }
