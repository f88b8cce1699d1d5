use mathlib.Core.Path.{◌≡◌, refl, sym, ◌∙◌}
use mathlib.Core.Bool.{Bool, true, false, not}
use Rattle.std.specs.Prelude.{None}
use Rattle.points.specs.Handed.{extremes_agree}
use Rattle.point.proofs.extremes_agree.Goals as goal

neither : (due : Bool) → not due ≡ extremes_agree due None None
neither true = refl
neither false = refl

pub returns-in-None-max : goal.returns-in-None-max
returns-in-None-max c =
    neither c.args.due ∙ sym (λ j. extremes_agree c.args.due (c.in-None.is j) (c.in-None-max.is j))

pub returns-in-Some-max-2 : goal.returns-in-Some-max-2
returns-in-Some-max-2 c = c.values_agree.ensures ∙ sym (λ j. extremes_agree c.args.due (c.in-Some.is j) (c.in-Some-max-2.is j))
