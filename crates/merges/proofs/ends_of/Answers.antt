use Prim.Native.Nat.{ℕ, ◌/◌, ◌^◌, max}
use mathlib.Core.Path.{sym, ap, ◌∙◌}
use native.Mathlib.Omega.{arith}
use Rattle.merges.proofs.Spans.{ends-first, ends-second, ends-both}
use Rattle.merges.proofs.ends_of.Goals as goal

pub returns-then-m-eq0 : goal.returns-then-m-eq0
returns-then-m-eq0 c =
    let a = c.args in
    let f = ends-first a.a a.b a.j a.k c.if-m-eq0.true in
    (sym f.0, ap (λ (n : ℕ). n / 2 ^ a.j) c.last_bin.ensures ∙ sym f.1)

pub returns-then-n-eq0 : goal.returns-then-n-eq0
returns-then-n-eq0 c =
    let a = c.args in
    let f = ends-second a.a a.b a.j a.k (omega (arith, c.if-m-eq0.false)) c.if-n-eq0.true in
    (sym f.0, ap (λ (n : ℕ). n / 2 ^ a.k) c.last_bin-2.ensures ∙ sym f.1)

pub returns : goal.returns
returns c =
    let a = c.args in
    let f = ends-both a.a a.b a.j a.k (omega (arith, c.if-m-eq0.false)) (omega (arith, c.if-n-eq0.false)) in
    (c.min-low.ensures ∙ sym f.0, c.max-high.ensures ∙ (λ i. max (c.last_bin.ensures i / 2 ^ a.j) (c.last_bin-2.ensures i / 2 ^ a.k)) ∙ sym f.1)
