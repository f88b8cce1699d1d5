use mathlib.Core.Path.{sym, ap, ◌∙◌}
use mathlib.Core.Bool.{Bool, ◌&&◌, and-false, and-true}
use lib.Ieee.Scale.{finite}
use Rattle.std.specs.Prelude.{Some}
use Rattle.points.specs.Handed.{extremes_agree}
use Rattle.point.proofs.values_agree.Goals as goal

pub returns-then-not-due : goal.returns-then-not-due
returns-then-not-due c =
    let a = c.args in
    sym (ap (λ (d : Bool). extremes_agree d (Some a.x) (Some a.y)) c.if-not-due.true ∙ and-false (finite a.x && finite a.y))

pub returns-then-not-is_finite : goal.returns-then-not-is_finite
returns-then-not-is_finite c =
    let a = c.args in
    sym (ap (λ (d : Bool). extremes_agree d (Some a.x) (Some a.y)) c.if-not-due.false ∙ and-true (finite a.x && finite a.y)
    ∙ ap (λ (t : Bool). t && finite a.y) (sym c.is_finite.ensures ∙ c.if-not-is_finite.true))

pub returns : goal.returns
returns c =
    let a = c.args in
    c.is_finite-2.ensures
    ∙ sym (ap (λ (d : Bool). extremes_agree d (Some a.x) (Some a.y)) c.if-not-due.false ∙ and-true (finite a.x && finite a.y)
    ∙ ap (λ (t : Bool). t && finite a.y) (sym c.is_finite.ensures ∙ c.if-not-is_finite.false))
