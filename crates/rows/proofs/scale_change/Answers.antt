use mathlib.Core.Path.{◌≡◌, ap, ◌∙◌}
use Prim.Native.Nat.{ℕ, ◌+◌, ◌-◌, ◌/◌, ◌^◌, ◌≤◌}
use native.Mathlib.Nat.{div-one}
use native.Mathlib.Omega.{arith}
use borrow.Author.Count.{below_none, below_more}
use lib.Bits.{bit_xor}
use lib.Count.{count_leading_zeros}
use lib.Pow.{shr_mono, shr_le}
use Rattle.rows.specs.Rows.{lowering}
use Rattle.rows.proofs.Change.{change-is, Guess, guess, differing}
use Rattle.rows.proofs.scale_change.Goals as goal

pub returns-then-far-most : goal.returns-then-far-most
returns-then-far-most c =
    let a = c.args in
    change-is a.size a.lo a.hi 0 (omega arith) (omega (arith, div-one a.hi, div-one a.lo)) (below_none (λ (d : ℕ). a.size ≤ a.hi / 2 ^ d - a.lo / 2 ^ d))

pub overflow_sub-result : goal.overflow_sub-result
overflow_sub-result c =
    let digits : (count_leading_zeros 32 (bit_xor c.args.lo c.args.hi) ≤ 32)
    × (32 - count_leading_zeros 32 (bit_xor c.args.lo c.args.hi) ≡ lowering 1 c.args.lo c.args.hi) = differing c.args.lo c.args.hi (omega arith) c.ranges.hi.fits in
    (digits).0

pub returns-then-most-eq0 : goal.returns-then-most-eq0
returns-then-most-eq0 c =
    let digits : (count_leading_zeros 32 (bit_xor c.args.lo c.args.hi) ≤ 32)
    × (32 - count_leading_zeros 32 (bit_xor c.args.lo c.args.hi) ≡ lowering 1 c.args.lo c.args.hi) = differing c.args.lo c.args.hi (omega arith) c.ranges.hi.fits in
    let a = c.args in
    let e : 1 ≡ c.args.size = omega arith in
    (digits).1 ∙ ap (λ (n : ℕ). lowering n a.lo a.hi) e

pub overflow_sub-k : goal.overflow_sub-k
overflow_sub-k c =
    let K : ℕ = count_leading_zeros 64 (c.args.size - 1) - count_leading_zeros 64 (c.args.hi - c.args.lo) in
    let guessed : (count_leading_zeros 64 (c.args.hi - c.args.lo) ≤ count_leading_zeros 64 (c.args.size - 1))
    × Guess c.args.lo c.args.hi c.args.size (K) = guess c.args.lo c.args.hi c.args.size c.requires.0 c.ranges.hi.fits c.ranges.size.fits (omega arith) (omega arith) in
    (guessed).0

pub overflow_shr-apart : goal.overflow_shr-apart
overflow_shr-apart c =
    let K : ℕ = count_leading_zeros 64 (c.args.size - 1) - count_leading_zeros 64 (c.args.hi - c.args.lo) in
    let guessed : (count_leading_zeros 64 (c.args.hi - c.args.lo) ≤ count_leading_zeros 64 (c.args.size - 1))
    × Guess c.args.lo c.args.hi c.args.size (K) = guess c.args.lo c.args.hi c.args.size c.requires.0 c.ranges.hi.fits c.ranges.size.fits (omega arith) (omega arith) in
    (guessed).1.few

pub overflow_shr-apart-2 : goal.overflow_shr-apart-2
overflow_shr-apart-2 c =
    let K : ℕ = count_leading_zeros 64 (c.args.size - 1) - count_leading_zeros 64 (c.args.hi - c.args.lo) in
    let guessed : (count_leading_zeros 64 (c.args.hi - c.args.lo) ≤ count_leading_zeros 64 (c.args.size - 1))
    × Guess c.args.lo c.args.hi c.args.size (K) = guess c.args.lo c.args.hi c.args.size c.requires.0 c.ranges.hi.fits c.ranges.size.fits (omega arith) (omega arith) in
    (guessed).1.few

pub overflow_sub-apart : goal.overflow_sub-apart
overflow_sub-apart c =
    let K : ℕ = count_leading_zeros 64 (c.args.size - 1) - count_leading_zeros 64 (c.args.hi - c.args.lo) in
    shr_mono (K) c.requires.0

pub overflow_cast-apart : goal.overflow_cast-apart
overflow_cast-apart c =
    let K : ℕ = count_leading_zeros 64 (c.args.size - 1) - count_leading_zeros 64 (c.args.hi - c.args.lo) in
    omega (arith, shr_le c.args.hi (K))

pub returns-then-apart-most : goal.returns-then-apart-most
returns-then-apart-most c =
    let K : ℕ = count_leading_zeros 64 (c.args.size - 1) - count_leading_zeros 64 (c.args.hi - c.args.lo) in
    let guessed : (count_leading_zeros 64 (c.args.hi - c.args.lo) ≤ count_leading_zeros 64 (c.args.size - 1))
    × Guess c.args.lo c.args.hi c.args.size (K) = guess c.args.lo c.args.hi c.args.size c.requires.0 c.ranges.hi.fits c.ranges.size.fits (omega arith) (omega arith) in
    let a = c.args in
    let g = (guessed).1 in
    change-is a.size a.lo a.hi (K) (omega (arith, g.few)) (omega arith) g.under

pub overflow_add-result : goal.overflow_add-result
overflow_add-result c =
    let K : ℕ = count_leading_zeros 64 (c.args.size - 1) - count_leading_zeros 64 (c.args.hi - c.args.lo) in
    let guessed : (count_leading_zeros 64 (c.args.hi - c.args.lo) ≤ count_leading_zeros 64 (c.args.size - 1))
    × Guess c.args.lo c.args.hi c.args.size (K) = guess c.args.lo c.args.hi c.args.size c.requires.0 c.ranges.hi.fits c.ranges.size.fits (omega arith) (omega arith) in
    omega (arith, (guessed).1.few)

pub returns : goal.returns
returns c =
    let K : ℕ = count_leading_zeros 64 (c.args.size - 1) - count_leading_zeros 64 (c.args.hi - c.args.lo) in
    let guessed : (count_leading_zeros 64 (c.args.hi - c.args.lo) ≤ count_leading_zeros 64 (c.args.size - 1))
    × Guess c.args.lo c.args.hi c.args.size (K) = guess c.args.lo c.args.hi c.args.size c.requires.0 c.ranges.hi.fits c.ranges.size.fits (omega arith) (omega arith) in
    let a = c.args in
    let g = (guessed).1 in
    change-is a.size a.lo a.hi (K + 1) (omega (arith, g.few)) g.next
    (below_more (λ (d : ℕ). a.size ≤ a.hi / 2 ^ d - a.lo / 2 ^ d) (K) g.under (omega arith))
