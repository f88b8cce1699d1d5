-- `shown` meets its contract. Assumes nothing.
use mathlib.Core.Path.{sym, ◌∙◌}
use Rattle.laws.proofs.Bools.{pick_true, pick-false}
use Rattle.numbers.proofs.shown.Goals as goal

pub returns-then-shows_extremes : goal.returns-then-shows_extremes
returns-then-shows_extremes g c = sym (pick_true _ _ _ (sym c.shows_extremes.ensures ∙ c.if-shows_extremes.true))

pub returns : goal.returns
returns g c = sym (pick-false _ _ _ (sym c.shows_extremes.ensures ∙ c.if-shows_extremes.false))
