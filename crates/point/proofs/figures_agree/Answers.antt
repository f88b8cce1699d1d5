use mathlib.Core.Path.{sym, ap, ◌∙◌}
use Rattle.point.specs.declared.Figures.{Figures}
use Rattle.point.specs.Inner.{figures_agree}
use Rattle.point.proofs.figures_agree.Goals as goal

pub returns-in-Exponential : goal.returns-in-Exponential
returns-in-Exponential c =
    let a = c.args in
    c.counts_agree.ensures ∙ sym (ap (λ (g : Figures). figures_agree a.size g a.bounds.now a.pos.now a.neg.now) c.in-Exponential.is)

pub returns-in-Explicit : goal.returns-in-Explicit
returns-in-Explicit c =
    let a = c.args in
    c.buckets_agree.ensures ∙ sym (ap (λ (g : Figures). figures_agree a.size g a.bounds.now a.pos.now a.neg.now) c.in-Explicit.is)
