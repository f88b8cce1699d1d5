-- `fresh` meets its contract. Assumes nothing.
use mathlib.Core.Path.{◌≡◌, refl, ap, ◌∙◌}
use borrow.Author.Rules.{rules}
use Rattle.std.specs.Prelude.{Err}
use Rattle.laws.specs.Said.{refusal, success}
use Rattle.refusals.specs.Refusals.{number, said}
use Rattle.explicit_wholes.specs.Series.{outcome}
use Rattle.explicit_wholes.proofs.Call.{fresh_law}
use Rattle.explicit_wholes.proofs.fresh.Goals as goal

pub returns-in_err-g : goal.returns-in_err-g
returns-in_err-g c =
    let e = c.in_err-g.field-0.0 in
    let k : c.from_residual.result ≡ Err e = search rules in
    ap (λ r. outcome (said r) c.fresh.new.counts) k
    ∙ fresh_law c.args.bounds.now c.args.counts.now (refusal (number e)) (refusal (number e)) c.fresh.new.counts c.in_err-g.ensures refl

pub returns : goal.returns
returns c =
    fresh_law c.args.bounds.now c.args.counts.now (success c.in_ok-g.g) _ c.fresh.new.counts c.in_ok-g.ensures refl
