-- `batches::all_lent` meets its contract. Assumes nothing.
use Rattle.std.proofs.Common.{below_more, arith}
use Rattle.batches.proofs.Ends.{each-lent}
use Rattle.batches.proofs.all_lent.Goals as goal

pub loop-a-preserved : goal.loop-a-preserved
loop-a-preserved c = below_more _ _ c.loop-a.invariant c.pair_lent.ensures

pub returns : goal.returns
returns c = each-lent c.args.attrs.now (λ k h. c.loop-a.invariant k (omega (arith, h, c.loop-a-test.false)))
