-- `index::rank::rank` meets its contract: the bound at the guess decides between the guess and one more. Assumes nothing.
use native.Mathlib.Omega.{arith}
use Rattle.index.proofs.Ranks.{ranked-up, ranked-down}
use Rattle.index.proofs.rank.rank.Goals as goal

pub bound-requires : goal.bound-requires
bound-requires c = c.guess-near.ensures.small

pub overflow_add-result : goal.overflow_add-result
overflow_add-result c = omega (arith, c.guess-near.ensures.small)

pub returns-then-bound-m : goal.returns-then-bound-m
returns-then-bound-m c =
    record {
      small = omega (arith, c.guess-near.ensures.small);
      above = ranked-up _ _ _ c.bound.ensures (omega (arith, c.if-bound-m.true));
      within = c.guess-near.ensures.within;
    }

pub returns : goal.returns
returns c =
    record {
      small = omega (arith, c.guess-near.ensures.small);
      above = c.guess-near.ensures.above;
      within = ranked-down _ _ _ c.bound.ensures (omega (arith, c.if-bound-m.false));
    }
