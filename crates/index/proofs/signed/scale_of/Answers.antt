-- `index::signed::scale_of` meets its contract. Assumes nothing.
use mathlib.Core.Path.{sym, ap, ◌∙◌}
use Prim.Native.Nat.{◌<◌}
use native.Mathlib.Omega.{arith}
use lib.Dec.{lit<}
use Rattle.std.specs.Prelude.{Some}
use Rattle.index.proofs.Casts.{difference-fits, difference-is}
use Rattle.index.proofs.SignedCases.{scale-none, scale-is}
use Rattle.index.proofs.signed.scale_of.Goals as goal

pub returns-then-level-gt-FINEST : goal.returns-then-level-gt-FINEST
returns-then-level-gt-FINEST c = sym (scale-none c.args.level (omega arith))

pub overflow_sub-result : goal.overflow_sub-result
overflow_sub-result c =
    let small : c.args.level < 2147483648 = omega arith in
    difference-fits c.args.level 10 (small) (lit< tt)

pub returns : goal.returns
returns c =
    let small : c.args.level < 2147483648 = omega arith in
    ap Some (difference-is c.args.level 10 (small) (lit< tt)) ∙ sym (scale-is c.args.level (omega arith))
