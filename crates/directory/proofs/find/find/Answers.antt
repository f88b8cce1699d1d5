-- `directory::find::find` meets its contract: the scan's answer, found by halving. Assumes nothing.
use Rattle.std.proofs.Common.{ℕ, ◌+◌, ◌-◌, ◌/◌, ◌<◌, ◌≤◌, [], get_or, sym, ◌∙◌, arith}
use Prim.Native.Nat.{Ordering}
use Rattle.tally.specs.Sets.{cmp}
use Rattle.sets.specs.Rows.{set_of}
use Rattle.sets.proofs.Keyed.{empty-row, named-row}
use Rattle.sets.proofs.Ways.{way-lt, way-eq, way_gt}
use Rattle.directory.proofs.Checks.{sought-empty, sought-named}
use Rattle.directory.proofs.Halves.{beneath, beyond, held-at, seek-room-at}
use Rattle.directory.proofs.find.find.Goals as goal

half : (l h : ℕ) → l < h → (l ≤ l + (h - l) / 2) × (l + (h - l) / 2 < h)
half l h u = (omega arith, omega arith)

pub returns-then-wanted-eq0 : goal.returns-then-wanted-eq0
returns-then-wanted-eq0 c = sym (sought-empty _ _ _ _ (empty-row c.args.wanted.now c.if-wanted-eq0.true))

pub loop-low-init : goal.loop-low-init
loop-low-init c =
    (omega arith, omega arith, (λ k h. absurd (omega arith)), (λ k h l. absurd (omega arith)), sought-named _ _ _ _ (named-row c.args.wanted.now c.if-wanted-eq0.false))

pub compare-w-requires : goal.compare-w-requires
compare-w-requires c =
    let mid : ℕ = c.loop-low.low + (c.loop-low.high - c.loop-low.low) / 2 in
    let below-high : mid < c.loop-low.high = (half c.loop-low.low c.loop-low.high c.loop-low-test.true).1 in
    let inside : mid < c.args.used = omega (arith, below-high, c.loop-low.invariant.1) in
    let slot_of : (1 ≤ get_or c.args.order.now (mid) 0) × (get_or c.args.order.now (mid) 0 ≤ c.args.used) = c.requires.3 (mid) (inside) in
    (c.requires.2, c.requires.4 _ (slot_of).0 (slot_of).1)

pub loop-low-smaller-in-Less : goal.loop-low-smaller-in-Less
loop-low-smaller-in-Less c =
    let mid : ℕ = c.loop-low.low + (c.loop-low.high - c.loop-low.low) / 2 in
    let below-high : mid < c.loop-low.high = (half c.loop-low.low c.loop-low.high c.loop-low-test.true).1 in
    omega (arith, below-high, (half c.loop-low.low c.loop-low.high c.loop-low-test.true).0)

pub loop-low-preserved-in-Less : goal.loop-low-preserved-in-Less
loop-low-preserved-in-Less c =
    let mid : ℕ = c.loop-low.low + (c.loop-low.high - c.loop-low.low) / 2 in
    let below-high : mid < c.loop-low.high = (half c.loop-low.low c.loop-low.high c.loop-low-test.true).1 in
    let inside : mid < c.args.used = omega (arith, below-high, c.loop-low.invariant.1) in
    let lie : Ordering = cmp (set_of c.args.wanted.now) (set_of (get_or c.args.sets.now (get_or c.args.order.now (mid) 0) [])) in (
      (half c.loop-low.low c.loop-low.high c.loop-low-test.true).0,
      omega (arith, inside),
      c.loop-low.invariant.2,
      beyond (set_of c.args.wanted.now) c.args.used c.args.sets.now c.args.order.now c.requires.5 (mid) (way-lt (lie) (sym c.compare-w.ensures ∙ c.in-Less.is)),
      c.loop-low.invariant.4,
    )

pub returns-in-Equal : goal.returns-in-Equal
returns-in-Equal c =
    let mid : ℕ = c.loop-low.low + (c.loop-low.high - c.loop-low.low) / 2 in
    let below-high : mid < c.loop-low.high = (half c.loop-low.low c.loop-low.high c.loop-low-test.true).1 in
    let inside : mid < c.args.used = omega (arith, below-high, c.loop-low.invariant.1) in
    let lie : Ordering = cmp (set_of c.args.wanted.now) (set_of (get_or c.args.sets.now (get_or c.args.order.now (mid) 0) [])) in
    sym (c.loop-low.invariant.4 ∙ held-at (set_of c.args.wanted.now) c.args.used c.args.sets.now c.args.order.now c.requires.5 c.requires.3 (mid) (inside) (way-eq (lie) (sym c.compare-w.ensures ∙ c.in-Equal.is)))

pub loop-low-smaller : goal.loop-low-smaller
loop-low-smaller c =
    let mid : ℕ = c.loop-low.low + (c.loop-low.high - c.loop-low.low) / 2 in
    let below-high : mid < c.loop-low.high = (half c.loop-low.low c.loop-low.high c.loop-low-test.true).1 in
    omega (arith, below-high, (half c.loop-low.low c.loop-low.high c.loop-low-test.true).0)

pub loop-low-preserved : goal.loop-low-preserved
loop-low-preserved c =
    let mid : ℕ = c.loop-low.low + (c.loop-low.high - c.loop-low.low) / 2 in
    let below-high : mid < c.loop-low.high = (half c.loop-low.low c.loop-low.high c.loop-low-test.true).1 in
    let inside : mid < c.args.used = omega (arith, below-high, c.loop-low.invariant.1) in
    let lie : Ordering = cmp (set_of c.args.wanted.now) (set_of (get_or c.args.sets.now (get_or c.args.order.now (mid) 0) [])) in (
      omega (arith, below-high),
      c.loop-low.invariant.1,
      beneath (set_of c.args.wanted.now) c.args.used c.args.sets.now c.args.order.now c.requires.5 (mid) (inside) (way_gt (lie) (sym c.compare-w.ensures ∙ c.in-Greater.is)),
      c.loop-low.invariant.3,
      c.loop-low.invariant.4,
    )

pub returns : goal.returns
returns c =
    let e : c.loop-low.high ≤ c.loop-low.low = omega (arith, c.loop-low-test.false) in
    sym (c.loop-low.invariant.4 ∙ seek-room-at (set_of c.args.wanted.now) c.args.used c.args.sets.now c.args.order.now c.requires.3 c.loop-low.low (omega (arith, c.loop-low.invariant.0, c.loop-low.invariant.1)) c.loop-low.invariant.2 (λ k h u. c.loop-low.invariant.3 k (omega (arith, h, e)) u))
