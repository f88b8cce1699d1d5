use Rattle.std.proofs.Common.{ℕ, ◌+◌, ◌-◌, ◌^◌, ◌<◌, ◌≤◌, length, get_or, refl, arith}
use Rattle.rows.proofs.Adds.{holds-below, holds-above}
use Rattle.exponential.proofs.Raises.{within_both, sums-fit, tried-yes, tried-no}
use Rattle.exponential.proofs.adding.raise.Goals as goal

pub returns-then-bin-start : goal.returns-then-bin-start
returns-then-bin-start c =
    let a = c.args in
    tried-no a.p a.n c.signed_row-row.result a.bin 0 0 a.pos.now a.neg.now c.requires a.negative c.signed_row-row.ensures (holds-below c.signed_row-row.result.start c.signed_row-row.result.len a.bin c.if-bin-start.true)

pub returns-then-row-k : goal.returns-then-row-k
returns-then-row-k c =
    let a = c.args in
    tried-no a.p a.n c.signed_row-row.result a.bin 0 0 a.pos.now a.neg.now c.requires a.negative c.signed_row-row.ensures
    (holds-above c.signed_row-row.result.start c.signed_row-row.result.len a.bin (omega (arith, c.if-bin-start.false)) c.if-row-k.true)

pub overflow_sub-pos : goal.overflow_sub-pos
overflow_sub-pos c =
    let place : ℕ = c.args.bin - c.signed_row-row.result.start in
    let inside : place < c.signed_row-row.result.len = omega (arith, c.if-row-k.false) in
    let sums : (c.from-m.result ≤ 1) × ((get_or c.args.pos.now (place) 0 + (1 - c.from-m.result) < 2 ^ 64)
    × (get_or c.args.neg.now (place) 0 + c.from-m.result < 2 ^ 64)) =
    let a = c.args in
    let k = place in
    sums-fit a.p a.n c.signed_row-row.result a.bin k c.from-m.result a.pos.now a.neg.now c.requires a.negative c.signed_row-row.ensures (inside) c.from-m.ensures
    (omega (arith, c.slice_known-1.given k)) (omega (arith, c.slice_known-2-1.given k)) in
    omega (arith, sums)

pub bounds-pos-k : goal.bounds-pos-k
bounds-pos-k c =
    let place : ℕ = c.args.bin - c.signed_row-row.result.start in
    let inside : place < c.signed_row-row.result.len = omega (arith, c.if-row-k.false) in
    let both : (place < length c.args.pos.now) × (place < length c.args.neg.now) =
    let a = c.args in
    within_both a.p a.n c.signed_row-row.result a.bin (place) 0 a.pos.now a.neg.now c.requires a.negative c.signed_row-row.ensures (inside) in
    omega (arith, both)

pub overflow_add-pos : goal.overflow_add-pos
overflow_add-pos c =
    let place : ℕ = c.args.bin - c.signed_row-row.result.start in
    let inside : place < c.signed_row-row.result.len = omega (arith, c.if-row-k.false) in
    let sums : (c.from-m.result ≤ 1) × ((get_or c.args.pos.now (place) 0 + (1 - c.from-m.result) < 2 ^ 64)
    × (get_or c.args.neg.now (place) 0 + c.from-m.result < 2 ^ 64)) =
    let a = c.args in
    let k = place in
    sums-fit a.p a.n c.signed_row-row.result a.bin k c.from-m.result a.pos.now a.neg.now c.requires a.negative c.signed_row-row.ensures (inside) c.from-m.ensures
    (omega (arith, c.slice_known-1.given k)) (omega (arith, c.slice_known-2-1.given k)) in
    omega (arith, sums)

pub bounds-pos-k-2 : goal.bounds-pos-k-2
bounds-pos-k-2 c =
    let place : ℕ = c.args.bin - c.signed_row-row.result.start in
    let inside : place < c.signed_row-row.result.len = omega (arith, c.if-row-k.false) in
    let both : (place < length c.args.pos.now) × (place < length c.args.neg.now) =
    let a = c.args in
    within_both a.p a.n c.signed_row-row.result a.bin (place) 0 a.pos.now a.neg.now c.requires a.negative c.signed_row-row.ensures (inside) in
    omega (arith, both)

pub bounds-neg-k : goal.bounds-neg-k
bounds-neg-k c =
    let place : ℕ = c.args.bin - c.signed_row-row.result.start in
    let inside : place < c.signed_row-row.result.len = omega (arith, c.if-row-k.false) in
    let both : (place < length c.args.pos.now) × (place < length c.args.neg.now) =
    let a = c.args in
    within_both a.p a.n c.signed_row-row.result a.bin (place) 0 a.pos.now a.neg.now c.requires a.negative c.signed_row-row.ensures (inside) in
    omega (arith, both)

pub overflow_add-neg : goal.overflow_add-neg
overflow_add-neg c =
    let place : ℕ = c.args.bin - c.signed_row-row.result.start in
    let inside : place < c.signed_row-row.result.len = omega (arith, c.if-row-k.false) in
    let sums : (c.from-m.result ≤ 1) × ((get_or c.args.pos.now (place) 0 + (1 - c.from-m.result) < 2 ^ 64)
    × (get_or c.args.neg.now (place) 0 + c.from-m.result < 2 ^ 64)) =
    let a = c.args in
    let k = place in
    sums-fit a.p a.n c.signed_row-row.result a.bin k c.from-m.result a.pos.now a.neg.now c.requires a.negative c.signed_row-row.ensures (inside) c.from-m.ensures
    (omega (arith, c.slice_known-1.given k)) (omega (arith, c.slice_known-2-1.given k)) in
    omega (arith, sums)

pub bounds-neg-k-2 : goal.bounds-neg-k-2
bounds-neg-k-2 c =
    let place : ℕ = c.args.bin - c.signed_row-row.result.start in
    let inside : place < c.signed_row-row.result.len = omega (arith, c.if-row-k.false) in
    let both : (place < length c.args.pos.now) × (place < length c.args.neg.now) =
    let a = c.args in
    within_both a.p a.n c.signed_row-row.result a.bin (place) 0 a.pos.now a.neg.now c.requires a.negative c.signed_row-row.ensures (inside) in
    omega (arith, both)

pub returns : goal.returns
returns c =
    let place : ℕ = c.args.bin - c.signed_row-row.result.start in
    let inside : place < c.signed_row-row.result.len = omega (arith, c.if-row-k.false) in
    let sums : (c.from-m.result ≤ 1) × ((get_or c.args.pos.now (place) 0 + (1 - c.from-m.result) < 2 ^ 64)
    × (get_or c.args.neg.now (place) 0 + c.from-m.result < 2 ^ 64)) =
    let a = c.args in
    let k = place in
    sums-fit a.p a.n c.signed_row-row.result a.bin k c.from-m.result a.pos.now a.neg.now c.requires a.negative c.signed_row-row.ensures (inside) c.from-m.ensures
    (omega (arith, c.slice_known-1.given k)) (omega (arith, c.slice_known-2-1.given k)) in
    let a = c.args in
    tried-yes a.p a.n c.signed_row-row.result a.bin (place) c.from-m.result a.pos.now a.neg.now c.requires a.negative c.signed_row-row.ensures
    (omega (arith, c.if-bin-start.false)) refl (inside) c.from-m.ensures _ (omega (arith, (sums).0))
