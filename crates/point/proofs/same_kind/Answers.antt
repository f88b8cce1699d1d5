use mathlib.Core.Path.{sym, ◌∙◌}
use Rattle.point.specs.Inner.{same_figures}
use Rattle.point.proofs.same_kind.Goals as goal

pub returns-in-Exponential-g : goal.returns-in-Exponential-g
returns-in-Exponential-g c =
    sym (λ j. same_figures (c.in-Exponential.is j) c.args.bounds.now (c.in-Exponential-g.is j) c.args.others.now)

pub returns-in-Explicit-g : goal.returns-in-Explicit-g
returns-in-Explicit-g c =
    sym (λ j. same_figures (c.in-Exponential.is j) c.args.bounds.now (c.in-Explicit-g.is j) c.args.others.now)

pub returns-in-Exponential-g-2 : goal.returns-in-Exponential-g-2
returns-in-Exponential-g-2 c =
    sym (λ j. same_figures (c.in-Explicit.is j) c.args.bounds.now (c.in-Exponential-g-2.is j) c.args.others.now)

pub returns-in-Explicit-g-2 : goal.returns-in-Explicit-g-2
returns-in-Explicit-g-2 c =
    c.same_bounds.ensures ∙ sym (λ j. same_figures (c.in-Explicit.is j) c.args.bounds.now (c.in-Explicit-g-2.is j) c.args.others.now)
