-- `keep` meets its contract. Assumes nothing.
use borrow.Author.Rules.{rules}
use mathlib.Core.Path.{sym, ap, ◌∙◌}
use mathlib.Core.List.{[], ◌∷◌}
use lib.ListN.{set}
use mir.Syntax.{w64}
use mir.Val.{SFits}
use Rattle.integers.proofs.Range.{held}
use Rattle.refusals.specs.Refusals.{said}
use Rattle.exponential_whole_slots.specs.Cells.{extremes_after}
use Rattle.exponential_whole_slots.proofs.keep.Goals as goal

pub returns-clause-extremes_after : goal.returns-clause-extremes_after
returns-clause-extremes_after c =
    let least : SFits w64 c.in_ok-h.h.min = search rules in
    let greatest : SFits w64 c.in_ok-h.h.max = search rules in
    let sum : SFits w64 c.in_ok-h.h.sum = search rules in
    let a = c.args in
    (λ j. set a.extremes.now a.x (held c.in_ok-h.h.min (least) j ∷ held c.in_ok-h.h.max (greatest) j ∷ held c.in_ok-h.h.sum (sum) j ∷ []))
    ∙ sym (ap (extremes_after a.x a.extremes.now) (ap said c.in_ok-h.was))
