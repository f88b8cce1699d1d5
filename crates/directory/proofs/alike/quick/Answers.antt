-- `directory::alike::quick` meets its contract. Assumes nothing.
use Rattle.std.proofs.Common.{◌≤◌, get_or, sym, arith}
use Rattle.laws.proofs.Cases.{true-not-false}
use Rattle.directory.proofs.Likes.{in-range, placed_alike}
use Rattle.directory.proofs.alike.quick.Goals as goal

pub returns-then-used-lt6 : goal.returns-then-used-lt6
returns-then-used-lt6 c = λ e. true-not-false (sym e)

pub returns-then-not-named : goal.returns-then-not-named
returns-then-not-named c = λ e. true-not-false (sym e)

pub returns-then-not-named-2 : goal.returns-then-not-named-2
returns-then-not-named-2 c = λ e. true-not-false (sym e)

pub returns-then-not-same_keys : goal.returns-then-not-same_keys
returns-then-not-same_keys c = λ e. true-not-false (sym e)

pub parting-from-requires : goal.parting-from-requires
parting-from-requires c = omega arith

pub returns-then-not-pays : goal.returns-then-not-pays
returns-then-not-pays c = λ e. true-not-false (sym e)

pub pass-requires : goal.pass-requires
pass-requires c =
    let first : (1 ≤ get_or c.args.order.now 0 0) × (get_or c.args.order.now 0 0 ≤ c.args.used) = in-range c.args.used _ c.named.result c.named.ensures c.if-not-named.false in
    (omega (arith, c.if-used-lt6.false), c.requires.0, c.requires.1, c.parting-from.ensures.most, (first).0, (first).1)

pub returns : goal.returns
returns c =
    let p = c.pays.ensures c.if-not-pays.false in
    λ z. placed_alike c.args.used c.args.sets.now c.args.order.now _ (c.pass.ensures z) p.0 p.1
