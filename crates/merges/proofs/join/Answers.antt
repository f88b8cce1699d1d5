use Prim.Native.Nat.{ℕ, ◌+◌, ◌-◌, ◌/◌, ◌^◌, ◌≤◌, ◌<◌}
use mathlib.Core.Path.{◌≡◌, refl, sym, subst}
use mathlib.Core.List.{List}
use native.Mathlib.Omega.{arith}
use lib.ListN.{length, take}
use lib.Seq.{length-take-le}
use Rattle.points.specs.Points as P
use Rattle.rows.specs.Rows.{downscaled}
use Rattle.rows.proofs.Adds.{over-self}
use Rattle.exponential.specs.Series.{row_in}
use Rattle.exponential.specs.Inner.{Laid}
use Rattle.merges.specs.Merges.{joined}
use Rattle.merges.proofs.Wide as wide
use Rattle.merges.proofs.join.Goals as goal

none_other : (a : P.Row) (k s m : ℕ) (ys : List ℕ) → m ≡ 0 → joined a (record { start = s / 2 ^ k; counts = downscaled k s (take m ys) }) ≡ a
unfolding downscaled
none_other a k s m ys e = rw e (wide.join-none a (record { start = s / 2 ^ k; counts = downscaled k s (take 0 ys) }) refl)

pub returns-then-m-eq0 : goal.returns-then-m-eq0
returns-then-m-eq0 c =
    let a = c.args in
    let n = a.row.len in
    subst (λ (q : P.Row). Laid q a.a.now a.row a.a.now) (sym (none_other (row_in a.row a.a.now) a.k a.other.start a.other.len a.b.now c.if-m-eq0.true))
    (record { start = refl; len = sym (length-take-le n a.a.now c.requires.short); now = sym (over-self n a.a.now c.requires.short) })

pub add_low-len-requires : goal.add_low-len-requires
add_low-len-requires c =
    let some : 0 < c.args.other.len = omega (arith, c.if-m-eq0.false) in
    let a = c.args in let all = wide.first_requires a.a.now a.b.now a.row.len a.row.start a.other.start a.other.len a.k c.requires.short c.requires.other c.requires.few c.requires.sums c.requires.room (some) c.if-n-eq0.true in record { n_in_bounds = all.0; k_bound = all.1.0; s_in_bounds = all.1.1.0; other_bound = all.1.1.1 }

pub returns-then-n-eq0 : goal.returns-then-n-eq0
returns-then-n-eq0 c =
    let some : 0 < c.args.other.len = omega (arith, c.if-m-eq0.false) in
    let a = c.args in
    wide.first-laid a.a.now a.b.now a.row.len a.row.start a.other.start a.other.len a.k c.requires.short c.requires.other c.requires.few c.requires.sums c.requires.room (some) c.if-n-eq0.true
    c.add_low-len.result c.add_low-len.new.counts c.add_low-len.ensures.value c.add_low-len.ensures.counts_after

pub widen-requires : goal.widen-requires
widen-requires c =
    let some : 0 < c.args.other.len = omega (arith, c.if-m-eq0.false) in
    let held : 0 < c.args.row.len = omega (arith, c.if-n-eq0.false) in
    let room : c.args.row.len + (c.args.row.start - c.args.other.start / 2 ^ c.args.k) ≤ length c.args.a.now =
    let a = c.args in
    wide.room-before a.a.now a.b.now a.row.len a.row.start a.other.start a.other.len a.k c.requires.short c.requires.other c.requires.few c.requires.sums c.requires.room (some) (held) c.if-first-s.true in
    room

pub overflow_add-n : goal.overflow_add-n
overflow_add-n c =
    let some : 0 < c.args.other.len = omega (arith, c.if-m-eq0.false) in
    let held : 0 < c.args.row.len = omega (arith, c.if-n-eq0.false) in
    let room : c.args.row.len + (c.args.row.start - c.args.other.start / 2 ^ c.args.k) ≤ length c.args.a.now =
    let a = c.args in
    wide.room-before a.a.now a.b.now a.row.len a.row.start a.other.start a.other.len a.k c.requires.short c.requires.other c.requires.few c.requires.sums c.requires.room (some) (held) c.if-first-s.true in
    omega (arith, room, c.well_formed.0.1)

pub add_low-len-requires-then-first-s : goal.add_low-len-requires-then-first-s
add_low-len-requires-then-first-s c =
    let some : 0 < c.args.other.len = omega (arith, c.if-m-eq0.false) in
    let held : 0 < c.args.row.len = omega (arith, c.if-n-eq0.false) in
    let a = c.args in let all = wide.before_requires a.a.now a.b.now a.row.len a.row.start a.other.start a.other.len a.k c.requires.short c.requires.other c.requires.few c.requires.sums c.requires.room (some) (held) c.if-first-s.true
    c.widen.new.counts c.widen.ensures in record { n_in_bounds = all.0; k_bound = all.1.0; s_in_bounds = all.1.1.0; other_bound = all.1.1.1 }

pub returns-then-first-s : goal.returns-then-first-s
returns-then-first-s c =
    let some : 0 < c.args.other.len = omega (arith, c.if-m-eq0.false) in
    let held : 0 < c.args.row.len = omega (arith, c.if-n-eq0.false) in
    let a = c.args in
    wide.before-laid a.a.now a.b.now a.row.len a.row.start a.other.start a.other.len a.k c.requires.short c.requires.other c.requires.few c.requires.sums c.requires.room (some) (held) c.if-first-s.true
    c.widen.new.counts c.widen.ensures c.add_low-len-then-first-s.result c.add_low-len-then-first-s.new.counts c.add_low-len-then-first-s.ensures.value c.add_low-len-then-first-s.ensures.counts_after

pub add_low-len-requires-2 : goal.add_low-len-requires-2
add_low-len-requires-2 c =
    let some : 0 < c.args.other.len = omega (arith, c.if-m-eq0.false) in
    let held : 0 < c.args.row.len = omega (arith, c.if-n-eq0.false) in
    let a = c.args in let all = wide.after_requires a.a.now a.b.now a.row.len a.row.start a.other.start a.other.len a.k c.requires.short c.requires.other c.requires.few c.requires.sums c.requires.room (some) (held) (omega (arith, c.if-first-s.false)) in record { n_in_bounds = all.0; k_bound = all.1.0; s_in_bounds = all.1.1.0; other_bound = all.1.1.1 }

pub returns : goal.returns
returns c =
    let some : 0 < c.args.other.len = omega (arith, c.if-m-eq0.false) in
    let held : 0 < c.args.row.len = omega (arith, c.if-n-eq0.false) in
    let a = c.args in
    wide.after-laid a.a.now a.b.now a.row.len a.row.start a.other.start a.other.len a.k c.requires.short c.requires.other c.requires.few c.requires.sums c.requires.room (some) (held) (omega (arith, c.if-first-s.false))
    c.add_low-len-2.result c.add_low-len-2.new.counts c.add_low-len-2.ensures.value c.add_low-len-2.ensures.counts_after
