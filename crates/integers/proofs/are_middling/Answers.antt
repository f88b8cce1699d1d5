-- `are_middling` meets its contract. Assumes nothing.
use Rattle.std.proofs.Common.{Bool, not, T, ℤ, pos, negsuc, sym, ap, ◌∙◌, subst, lit<}
use Rattle.integers.specs.Answers.{between}
use Rattle.integers.proofs.Range.{held, middling}
use Rattle.integers.proofs.are_middling.Goals as goal

abbrev test : ℤ → Bool
test z = between (negsuc 4611686018427387903) z (pos 4611686018427387904)

pub returns-then-is_between : goal.returns-then-is_between
returns-then-is_between c h = (
  middling 4611686018427387904 c.args.a (lit< tt) (sym (c.is_between.ensures ∙ ap test (held c.args.a c.ranges.a)) ∙ c.if-is_between.true),
  middling 4611686018427387904 c.args.v (lit< tt) (sym (c.is_between-then-is_between.ensures ∙ ap test (held c.args.v c.ranges.v)) ∙ h),
)

pub returns : goal.returns
returns c h = absurd (subst (λ (b : Bool). T (not b)) h tt)
