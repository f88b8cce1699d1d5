-- `series::barred` meets its contract. Assumes nothing.
use mathlib.Core.Path.{sym, ◌∙◌}
use Rattle.explicit_batches.proofs.Values.{bar_6, bar_9, bar-none}
use Rattle.explicit_batches.proofs.series.barred.Goals as goal

pub returns-then-not-is_finite : goal.returns-then-not-is_finite
returns-then-not-is_finite c = bar_6 _ _ (sym c.is_finite.ensures ∙ c.if-not-is_finite.true)

pub returns-then-count-ge18446744073709551615 : goal.returns-then-count-ge18446744073709551615
returns-then-count-ge18446744073709551615 c = bar_9 _ _ (sym c.is_finite.ensures ∙ c.if-not-is_finite.false) c.if-count-ge18446744073709551615.true

pub returns : goal.returns
returns c = bar-none _ _ (sym c.is_finite.ensures ∙ c.if-not-is_finite.false) c.if-count-ge18446744073709551615.false
