use mathlib.Core.Path.{sym, ap, ◌∙◌}
use mathlib.Core.Bool.{Bool, ◌&&◌}
use Rattle.floats.specs.Answers.{shows}
use Rattle.points.specs.Handed.{extremes_agree}
use Rattle.point.specs.Inner.{extremes_ok, point_agrees}
use Rattle.point.proofs.point_agrees.Goals as goal

pub returns-then-not-figures_agree : goal.returns-then-not-figures_agree
unfolding point_agrees
returns-then-not-figures_agree c =
    let a = c.args in
    sym (ap (λ (t : Bool). t && extremes_ok a.p) (sym c.figures_agree.ensures ∙ c.if-not-figures_agree.true))

pub returns : goal.returns
unfolding point_agrees
returns c =
    c.extremes_agree.ensures
    ∙ ap (λ d. extremes_agree d c.args.p.min c.args.p.max) (c.shows_extremes-due.ensures ∙ ap (shows c.args.p.extremes) c.count_in.ensures)
    ∙ sym (ap (λ (t : Bool). t && extremes_ok c.args.p) (sym c.figures_agree.ensures ∙ c.if-not-figures_agree.false))
