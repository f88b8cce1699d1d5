-- `index::signed::index_of` meets its contract. Assumes nothing.
use mathlib.Core.Path.{sym, ap, ◌∙◌, subst}
use Prim.Native.Nat.{ℕ, ◌+◌, ◌*◌, ◌%◌, ◌^◌, ◌≤◌, ◌<◌}
use native.Mathlib.Nat.{le_trans, lt_of_lt_of_le, mul-le-mul_left}
use native.Mathlib.Omega.{arith}
use lib.Dec.{lit≤}
use lib.IntN.{pos, ◌-ℤ◌}
use lib.Pow.{pow_mono}
use Rattle.index.specs.Bins.{finest, end_bin}
use Rattle.std.specs.Prelude.{Some}
use Rattle.index.proofs.Casts.{shifted, doubled, bias-small, difference-fits, difference-is}
use Rattle.index.proofs.SignedCases.{index-none, index-high, index_is}
use Rattle.index.proofs.signed.index_of.Goals as goal

bias-lt : (level : ℕ) → level ≤ finest → 2 * 2 ^ level % 4294967296 < 2147483648
bias-lt level h = subst (λ (n : ℕ). n < 2147483648) (sym (doubled level h)) (under (2 ^ (level + 1)) (bias-small level h))
  where
    under : (n : ℕ) → n ≤ 2097152 → n < 2147483648
    under n h = omega (arith, h)

pub returns-then-level-gt-FINEST : goal.returns-then-level-gt-FINEST
returns-then-level-gt-FINEST c = sym (index-none c.args.level c.args.bin (omega arith))

pub returns-then-level-bin : goal.returns-then-level-bin
returns-then-level-bin c =
    let held : c.args.level ≤ finest = omega arith in
    sym (index-high c.args.level c.args.bin (held) (subst (λ (n : ℕ). n ≤ c.args.bin) (shifted 3 c.args.level (lit≤ tt) (held)) c.if-level-bin.true))

pub overflow_cast-result : goal.overflow_cast-result
overflow_cast-result c =
    let held : c.args.level ≤ finest = omega arith in
    let below : c.args.bin < end_bin c.args.level = subst (λ (n : ℕ). c.args.bin < n) (shifted 3 c.args.level (lit≤ tt) (held)) (omega (arith, c.if-level-bin.false)) in
    let bin_small : c.args.bin < 2147483648 = lt_of_lt_of_le (below) (le_trans (mul-le-mul_left 3 (pow_mono (held))) (lit≤ tt)) in
    record { sfits = bin_small }

pub overflow_cast-result-2 : goal.overflow_cast-result-2
overflow_cast-result-2 c =
    let held : c.args.level ≤ finest = omega arith in
    record { sfits = bias-lt c.args.level (held) }

pub overflow_sub-result : goal.overflow_sub-result
overflow_sub-result c =
    let held : c.args.level ≤ finest = omega arith in
    let below : c.args.bin < end_bin c.args.level = subst (λ (n : ℕ). c.args.bin < n) (shifted 3 c.args.level (lit≤ tt) (held)) (omega (arith, c.if-level-bin.false)) in
    let bin_small : c.args.bin < 2147483648 = lt_of_lt_of_le (below) (le_trans (mul-le-mul_left 3 (pow_mono (held))) (lit≤ tt)) in
    difference-fits c.args.bin _ (bin_small) (bias-lt c.args.level (held))

pub returns : goal.returns
returns c =
    let held : c.args.level ≤ finest = omega arith in
    let below : c.args.bin < end_bin c.args.level = subst (λ (n : ℕ). c.args.bin < n) (shifted 3 c.args.level (lit≤ tt) (held)) (omega (arith, c.if-level-bin.false)) in
    let bin_small : c.args.bin < 2147483648 = lt_of_lt_of_le (below) (le_trans (mul-le-mul_left 3 (pow_mono (held))) (lit≤ tt)) in
    ap Some
    (difference-is c.args.bin (2 * 2 ^ c.args.level % 4294967296) (bin_small) (bias-lt c.args.level (held))
    ∙ ap (λ (n : ℕ). pos c.args.bin -ℤ pos n) (doubled c.args.level (held)))
    ∙ sym (index_is c.args.level c.args.bin (held) (below))
