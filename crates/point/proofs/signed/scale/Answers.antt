-- `point::signed::scale` meets its contract. Assumes nothing.
use mathlib.Core.Path.{sym, ap, ◌∙◌}
use Rattle.point.specs.Signed.{scale_shown}
use Rattle.point.proofs.signed.scale.Goals as goal

pub returns-in-Exponential : goal.returns-in-Exponential
returns-in-Exponential c = c.scale_of.ensures ∙ sym (ap scale_shown c.in-Exponential.is)
