use Prim.Native.Nat.{suc, ◌-◌}
use mathlib.Core.Path.{◌∙◌}
use native.Mathlib.Omega.{arith}
use native.Mathlib.Numerals.{add-one}
use Rattle.merges.proofs.Spans.{ends-le, len-none, len-some}
use Rattle.merges.proofs.joined_len.Goals as goal

pub returns-then-n-m-eq0 : goal.returns-then-n-m-eq0
returns-then-n-m-eq0 c = let a = c.args in len-none a.a a.b a.j a.k c.if-n-m-eq0.true

pub overflow_sub-result : goal.overflow_sub-result
overflow_sub-result c =
    let a = c.args in
    omega (arith, c.ends_of-e.ensures, ends-le a.a a.b a.j a.k)

pub returns : goal.returns
returns c =
    let a = c.args in
    add-one (c.ends_of-e.result.hi - c.ends_of-e.result.lo) ∙ (λ i. suc (c.ends_of-e.ensures.1 i - c.ends_of-e.ensures.0 i)) ∙ len-some a.a a.b a.j a.k c.if-n-m-eq0.false
