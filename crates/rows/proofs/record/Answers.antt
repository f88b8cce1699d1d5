use mathlib.Core.Path.{◌≡◌, ap, ◌∙◌}
use Prim.Native.Nat.{◌+◌, ◌-◌, ◌≤◌, ◌<◌}
use native.Mathlib.Omega.{arith}
use lib.ListN.{length, take, get_or, length-set}
use lib.Seq.{get_or-take}
use Rattle.rows.specs.Rows.{zeroed, shifted}
use Rattle.rows.proofs.Laws.{get_or-le-total}
use Rattle.rows.proofs.Adds as adds
use Rattle.rows.proofs.record.Goals as goal

pub bounds-counts-0 : goal.bounds-counts-0
bounds-counts-0 c =
    omega (arith, adds.empty-length c.args.counts.now c.args.row.start c.args.row.len c.args.index c.if-n-eq0.true)

pub returns-then-n-eq0 : goal.returns-then-n-eq0
returns-then-n-eq0 c = let all = adds.empty c.args.counts.now c.args.row.start c.args.row.len c.args.index c.if-n-eq0.true (omega (arith, adds.empty-length c.args.counts.now c.args.row.start c.args.row.len c.args.index c.if-n-eq0.true)) in record { start_value = all.0; len_value = all.1.0; counts_after = all.1.1 }

pub shift-requires : goal.shift-requires
shift-requires c =
    let room-before : c.args.row.len + (c.args.row.start - c.args.index) ≤ length c.args.counts.now = omega (arith, adds.before-length c.args.counts.now c.args.row.start c.args.row.len c.args.index (omega arith) (omega arith) c.if-index-start.true) in
    room-before

pub zero-requires : goal.zero-requires
zero-requires c =
    let room-before : c.args.row.len + (c.args.row.start - c.args.index) ≤ length c.args.counts.now = omega (arith, adds.before-length c.args.counts.now c.args.row.start c.args.row.len c.args.index (omega arith) (omega arith) c.if-index-start.true) in
    omega (arith, room-before, c.shift.auto.counts)

pub shape_of-counts-then-index-start : goal.shape_of-counts-then-index-start
shape_of-counts-then-index-start c = simp length-set (c.zero.auto.counts ∙ c.shift.auto.counts)

pub returns-then-index-start : goal.returns-then-index-start
returns-then-index-start c =
    let room-before : c.args.row.len + (c.args.row.start - c.args.index) ≤ length c.args.counts.now = omega (arith, adds.before-length c.args.counts.now c.args.row.start c.args.row.len c.args.index (omega arith) (omega arith) c.if-index-start.true) in
    let q : c.zero.new.counts ≡ zeroed 0 (c.args.row.start - c.args.index) (shifted c.args.row.len (c.args.row.start - c.args.index) c.args.counts.now) =
    c.zero.ensures ∙ ap (zeroed 0 (c.args.row.start - c.args.index)) c.shift.ensures in record { start_value = ((adds.before c.args.counts.now c.args.row.start c.args.row.len c.args.index (omega (arith, c)) (omega (arith, c)) c.if-index-start.true (room-before))).0; len_value = ((adds.before c.args.counts.now c.args.row.start c.args.row.len c.args.index (omega (arith, c)) (omega (arith, c)) c.if-index-start.true (room-before))).1.0; counts_after = rw q ((adds.before c.args.counts.now c.args.row.start c.args.row.len c.args.index (omega (arith, c)) (omega (arith, c)) c.if-index-start.true (room-before))).1.1 }

pub overflow_add-counts : goal.overflow_add-counts
overflow_add-counts c =
    let k = c.args.index - c.args.row.start in
    let e : get_or (take c.args.row.len c.args.counts.now) k 0 ≡ get_or c.args.counts.now k 0 = get_or-take c.args.row.len c.args.counts.now k 0 c.if-k-n.true in
    omega (arith, e, get_or-le-total (take c.args.row.len c.args.counts.now) k)

pub returns-then-k-n : goal.returns-then-k-n
returns-then-k-n c = let all = adds.inside c.args.counts.now c.args.row.start c.args.row.len c.args.index (omega arith) (omega arith) c.if-index-start.false c.if-k-n.true in record { start_value = all.0; len_value = all.1.0; counts_after = all.1.1 }

pub zero-requires-2 : goal.zero-requires-2
zero-requires-2 c =
    let room_after : c.args.index - c.args.row.start < length c.args.counts.now = omega (arith, adds.after-length c.args.counts.now c.args.row.start c.args.row.len c.args.index (omega arith) (omega arith) c.if-index-start.false c.if-k-n.false) in
    omega (arith, room_after)

pub bounds-counts-k-2 : goal.bounds-counts-k-2
bounds-counts-k-2 c =
    let room_after : c.args.index - c.args.row.start < length c.args.counts.now = omega (arith, adds.after-length c.args.counts.now c.args.row.start c.args.row.len c.args.index (omega arith) (omega arith) c.if-index-start.false c.if-k-n.false) in
    omega (arith, room_after, c.zero-2.auto.counts)

pub returns : goal.returns
returns c =
    let room_after : c.args.index - c.args.row.start < length c.args.counts.now = omega (arith, adds.after-length c.args.counts.now c.args.row.start c.args.row.len c.args.index (omega arith) (omega arith) c.if-index-start.false c.if-k-n.false) in
    record { start_value = ((adds.after c.args.counts.now c.args.row.start c.args.row.len c.args.index (omega (arith, c)) (omega (arith, c)) c.if-index-start.false c.if-k-n.false (room_after))).0; len_value = ((adds.after c.args.counts.now c.args.row.start c.args.row.len c.args.index (omega (arith, c)) (omega (arith, c)) c.if-index-start.false c.if-k-n.false (room_after))).1.0; counts_after = rw c.zero-2.ensures ((adds.after c.args.counts.now c.args.row.start c.args.row.len c.args.index (omega (arith, c)) (omega (arith, c)) c.if-index-start.false c.if-k-n.false (room_after))).1.1 }
