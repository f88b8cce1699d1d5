use mathlib.Core.Path.{refl, sym, ◌∙◌}
use Rattle.laws.specs.Pick.{pick}
use Rattle.point.proofs.size_fits.Goals as goal

pub returns-then-is_explicit-2 : goal.returns-then-is_explicit-2
unfolding pick
returns-then-is_explicit-2 c =
    sym (rw (sym c.is_explicit.ensures ∙ c.if-is_explicit.true, sym c.is_explicit-then-is_explicit.ensures ∙ c.if-is_explicit-2.true) refl)

pub returns-then-is_explicit : goal.returns-then-is_explicit
unfolding pick
returns-then-is_explicit c =
    c.size_passes.ensures ∙ sym (rw (sym c.is_explicit.ensures ∙ c.if-is_explicit.true, sym c.is_explicit-then-is_explicit.ensures ∙ c.if-is_explicit-2.false) refl)

pub returns : goal.returns
unfolding pick
returns c =
    c.size_passes-2.ensures ∙ sym (rw (sym c.is_explicit.ensures ∙ c.if-is_explicit.false) refl)
