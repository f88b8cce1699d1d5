-- `batches::pair_lent` meets its contract. Assumes nothing.
use borrow.Author.Rules.{rules}
use native.Mathlib.Omega.{arith}
use mir.Val.{Fits}
use mir.Syntax.{w32}
use lib.ListN.{get_or}
use Rattle.batches.proofs.pair_lent.Goals as goal

pub returns : goal.returns
returns c =
    let key : Fits w32 (get_or c.args.a 0 0) = search rules in
    let value : Fits w32 (get_or c.args.a 1 0) = search rules in
    (omega (arith, key), omega (arith, value))
