-- `mean::mean_of` meets its contract. Assumes nothing.
use Prim.Native.Nat.{ℕ}
use mathlib.Core.Path.{◌≡◌, sym, ap, ◌∙◌}
use native.Mathlib.Omega.{arith}
use mir.Syntax.{w64}
use mir.Val.{SFits}
use mir.ValLaws.{to_z-of_z}
use Rattle.laws.specs.Said.{success}
use Rattle.refusals.specs.Refusals.{said}
use Rattle.refusals.proofs.Numbers.{passed-on}
use Rattle.floats.specs.Grid.{signed}
use Rattle.mean.specs.Inner.{Steps, sum_of}
use Rattle.mean.proofs.Sums.{steps-le}
use Rattle.mean.proofs.Cases.{mean_by, mean_from, mean-from, mean-none, mean-some}
use borrow.Author.Rules.{rules}
use Rattle.mean.proofs.mean_of.Goals as goal

pub returns-then-count-eq0 : goal.returns-then-count-eq0
returns-then-count-eq0 c =
    let a = c.args in
    sym (mean-none a.count a.sum c.if-count-eq0.true)

pub returns-in_err-total : goal.returns-in_err-total
returns-in_err-total c =
    let a = c.args in
    ap said (passed-on c.from_residual.result c.in_err-total.field-0.0 c.from_residual.ensures.1)
    ∙ ap (mean_from a.count) c.in_err-total.ensures.value
    ∙ mean-from a.count c.sum_of.result
    ∙ sym (mean-some a.count a.sum c.if-count-eq0.false ∙ ap (mean_by a.count) (sym c.sum_of.ensures))

pub nearest-requires : goal.nearest-requires
nearest-requires c =
    let t = c.in_ok-total.total in
    let told : sum_of c.args.sum ≡ Steps t.negative t.steps = sym c.sum_of.ensures ∙ c.in_ok-total.ensures.ok_part in
    (steps-le _ _ _ (told), omega (arith, c.if-count-eq0.false))

pub returns : goal.returns
returns c =
    let a = c.args in
    let t = c.in_ok-total.total in
    let held : SFits w64 c.signed.result = search rules in
    ap success (to_z-of_z w64 c.signed.result held ∙ c.signed.ensures ∙ ap (λ (n : ℕ). signed t.negative n) c.nearest.ensures.0)
    ∙ ap (mean_from a.count) c.in_ok-total.ensures.value
    ∙ mean-from a.count c.sum_of.result
    ∙ sym (mean-some a.count a.sum c.if-count-eq0.false ∙ ap (mean_by a.count) (sym c.sum_of.ensures))
