-- `nearest` meets its contract. Assumes nothing.
use Rattle.std.proofs.Common.{T, ℤ, pos, negsuc, sym, ap, ◌∙◌, subst, lit<}
use lib.Ieee.{binary64, in_float}
use Rattle.integers.specs.Answers.{between, nearest_of}
use Rattle.integers.proofs.Range.{held, middling, exact}
use Rattle.integers.proofs.nearest.Goals as goal

pub int_to_float-result : goal.int_to_float-result
int_to_float-result c =
    let e = held c.args.n c.ranges.n in
    let b = sym (c.is_between.ensures ∙ ap (λ z. between (negsuc 9007199254740991) z (pos 9007199254740992)) e) ∙ c.if-is_between.true in
    subst (λ (z : ℤ). T (in_float binary64 z)) (sym e) (exact c.args.n (middling 9007199254740992 c.args.n (lit< tt) b))

pub returns-then-is_between : goal.returns-then-is_between
returns-then-is_between c = ap nearest_of (held c.args.n c.ranges.n)

pub returns : goal.returns
returns c = c.nearest_i64_to_f64.ensures ∙ ap nearest_of (held c.args.n c.ranges.n)
