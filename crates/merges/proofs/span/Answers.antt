use mathlib.Core.Path.{◌∙◌}
use native.Mathlib.Omega.{arith}
use Rattle.exponential.specs.Steps.{lowering}
use Rattle.merges.proofs.Spans.{ends-le}
use Rattle.merges.proofs.span.Goals as goal

pub scale_change-requires : goal.scale_change-requires
scale_change-requires c =
    let a = c.args in
    (omega (arith, c.ends_of-e.ensures, ends-le a.a a.b a.j a.k), c.requires.size_nonzero)

pub returns : goal.returns
returns c =
    let a = c.args in
    c.scale_change.ensures ∙ (λ i. lowering a.size (c.ends_of-e.ensures.0 i) (c.ends_of-e.ensures.1 i))
