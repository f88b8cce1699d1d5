-- `lines::input::next` meets its contract, and ends: the turns are counted. Assumes nothing.
use mathlib.Core.Path.{refl, ap, ◌∙◌}
use mathlib.Core.Logic.{inl, inr, ⊎_elim}
use Rattle.laws.proofs.Bools.{not-both}
use Rattle.lines.specs.declared.input.Ports.{Ports}
use Rattle.lines.proofs.Newlines.{next-line}
use Rattle.lines.proofs.input.next.Goals as goal

pub take-now-requires : goal.take-now-requires
take-now-requires c = tt

pub loop-init : goal.loop-init
loop-init c = (c.take-now.ensures.0, inl refl, λ e. (refl, refl, refl))

pub go_on-now-requires : goal.go_on-now-requires
go_on-now-requires c = c.loop.invariant.0.2

pub loop-preserved : goal.loop-preserved
loop-preserved c =
    let l = c.loop in (
      c.go_on-now.ensures.0,
      inr c.go_on-now.ensures.1,
      λ e. absurd (not-both _ (ap (λ (p : Ports). p.ended) (l.invariant.2 e).0 ∙ e) c.if-now.false),
    )

pub returns-then-now : goal.returns-then-now
returns-then-now c =
    let a = c.args in (
      c.loop.invariant.0,
      ⊎_elim (λ e. inl (e ∙ c.take-now.ensures.1)) (λ e. inr e) c.loop.invariant.1,
      next-line a.p _ _ _ _ _ c.take-now.ensures.2 c.take-now.ensures.3 c.loop.invariant.2,
    )

pub returns-after-loop : goal.returns-after-loop
returns-after-loop c =
    let a = c.args in (
      c.loop.invariant.0,
      ⊎_elim (λ e. inl (e ∙ c.take-now.ensures.1)) (λ e. inr e) c.loop.invariant.1,
      next-line a.p _ _ _ _ _ c.take-now.ensures.2 c.take-now.ensures.3 c.loop.invariant.2,
    )
