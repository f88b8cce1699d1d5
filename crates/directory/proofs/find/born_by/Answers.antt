-- `directory::find::born_by` meets its contract: the last slot that was born by a number, found by halving. Assumes nothing.
use Rattle.std.proofs.Common.{ℕ, ◌+◌, ◌-◌, ◌/◌, ◌<◌, ◌≤◌, arith}
use Rattle.directory.proofs.Births.{behind}
use Rattle.directory.proofs.Checks.{birth-named}
use Rattle.directory.proofs.find.born_by.Goals as goal

half : (l h : ℕ) → l + 1 < h → (l < l + (h - l) / 2) × (l + (h - l) / 2 < h)
half l h u = (omega arith, omega arith)

pub loop-low-init : goal.loop-low-init
loop-low-init c = (omega arith, omega arith, omega arith, λ y a b. absurd (omega (arith, a, b)))

pub overflow_sub-mid : goal.overflow_sub-mid
overflow_sub-mid c = omega (arith, c.loop-low.invariant.0)

pub loop-low-smaller-then-entries-mid : goal.loop-low-smaller-then-entries-mid
loop-low-smaller-then-entries-mid c =
    let mid : ℕ = c.loop-low.low + (c.loop-low.high - c.loop-low.low) / 2 in
    let between : (c.loop-low.low < mid) × (mid < c.loop-low.high) = half c.loop-low.low c.loop-low.high c.loop-low-test.true in
    omega (arith, (between).0, (between).1)

pub loop-low-preserved-then-entries-mid : goal.loop-low-preserved-then-entries-mid
loop-low-preserved-then-entries-mid c =
    let mid : ℕ = c.loop-low.low + (c.loop-low.high - c.loop-low.low) / 2 in
    let between : (c.loop-low.low < mid) × (mid < c.loop-low.high) = half c.loop-low.low c.loop-low.high c.loop-low-test.true in
    let named : 1 ≤ mid = omega (arith, (between).0) in
    let e = birth-named c.args.entries.now (mid) (named) in
    ((between).1, c.loop-low.invariant.1, omega (arith, e, c.if-entries-mid.true), c.loop-low.invariant.3)

pub loop-low-smaller : goal.loop-low-smaller
loop-low-smaller c =
    let mid : ℕ = c.loop-low.low + (c.loop-low.high - c.loop-low.low) / 2 in
    let between : (c.loop-low.low < mid) × (mid < c.loop-low.high) = half c.loop-low.low c.loop-low.high c.loop-low-test.true in
    omega (arith, (between).0, (between).1)

pub loop-low-preserved : goal.loop-low-preserved
loop-low-preserved c =
    let mid : ℕ = c.loop-low.low + (c.loop-low.high - c.loop-low.low) / 2 in
    let between : (c.loop-low.low < mid) × (mid < c.loop-low.high) = half c.loop-low.low c.loop-low.high c.loop-low-test.true in
    let named : 1 ≤ mid = omega (arith, (between).0) in
    ((between).0, omega (arith, (between).1, c.loop-low.invariant.1), c.loop-low.invariant.2, behind c.args.used c.args.entries.now c.requires.1 c.args.h (mid) (named) c.if-entries-mid.false)

pub returns : goal.returns
returns c =
    let e : c.loop-low.high ≤ c.loop-low.low + 1 = omega (arith, c.loop-low-test.false) in
    record { there = omega (arith, c.loop-low.invariant.0, c.loop-low.invariant.1); born = c.loop-low.invariant.2; later = λ y a b. c.loop-low.invariant.3 y (omega (arith, a, e)) b }
