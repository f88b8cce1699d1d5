use mathlib.Core.Path.{sym, ◌∙◌}
use native.Mathlib.Omega.{arith}
use Rattle.floats.proofs.Finite.{nan-test}
use Rattle.explicit.proofs.Cases.{too_many, no-bounds, nan-first, by-rising}
use Rattle.explicit.proofs.bounds_pass.Goals as goal

pub returns-then-n-gt159 : goal.returns-then-n-gt159
returns-then-n-gt159 c = too_many c.args.bounds.now c.if-n-gt159.true

pub returns-then-n-eq0 : goal.returns-then-n-eq0
returns-then-n-eq0 c = no-bounds c.args.bounds.now c.if-n-eq0.true

pub returns-then-first : goal.returns-then-first
returns-then-first c =
    nan-first c.args.bounds.now (omega (arith, c.if-n-gt159.false)) c.if-n-eq0.false (sym (nan-test _) ∙ c.if-first.true)

pub returns : goal.returns
returns c =
    c.rises.ensures
    ∙ by-rising c.args.bounds.now (omega (arith, c.if-n-gt159.false)) c.if-n-eq0.false (sym (nan-test _) ∙ c.if-first.false)
