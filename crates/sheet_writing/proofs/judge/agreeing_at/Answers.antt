-- `sheet_writing::judge::agreeing_at` meets its contract. Assumes nothing.
use mathlib.Core.Path.{◌≡◌, sym, ◌∙◌}
use Rattle.point.specs.Handing.{stored_in, agrees_alone}
use Rattle.listing.specs.Listed.{stored_at}
use Rattle.pooling.specs.Lists.{Source}
use Rattle.sheet_writing.specs.Inner.{lent_beside}
use Rattle.sheet_writing.proofs.Steps.{agreeing_in, agreeing-out}
use Rattle.sheet_writing.proofs.judge.agreeing_at.Goals as goal

pub returns-then-agrees_alone : goal.returns-then-agrees_alone
returns-then-agrees_alone c =
    let beside : Source = let a = c.args in lent_beside a.pos.now a.neg.now a.bounds.now in
    let asked : c.agrees_alone.result
    ≡ agrees_alone (stored_at c.args.at c.in-Some.e (beside).bounds (beside).list) =
    c.agrees_alone.ensures
    ∙ (λ j. agrees_alone (stored_in c.in-Some.e.point (c.bounds_at-own.ensures j) (c.row_at-xs.ensures j) (c.row_at-ys.ensures j))) in
    let a = c.args in
    agreeing_in a.at (beside) a.found c.in-Some.e c.in-Some.is (sym (asked) ∙ c.if-agrees_alone.true)

pub returns-else-agrees_alone : goal.returns-else-agrees_alone
returns-else-agrees_alone c =
    let beside : Source = let a = c.args in lent_beside a.pos.now a.neg.now a.bounds.now in
    let asked : c.agrees_alone.result
    ≡ agrees_alone (stored_at c.args.at c.in-Some.e (beside).bounds (beside).list) =
    c.agrees_alone.ensures
    ∙ (λ j. agrees_alone (stored_in c.in-Some.e.point (c.bounds_at-own.ensures j) (c.row_at-xs.ensures j) (c.row_at-ys.ensures j))) in
    let a = c.args in
    agreeing-out a.at (beside) a.found c.in-Some.e c.in-Some.is (sym (asked) ∙ c.if-agrees_alone.false)
