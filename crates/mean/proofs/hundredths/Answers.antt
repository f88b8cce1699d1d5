-- `mean::hundredths` meets its contract. Assumes nothing.
use Prim.Native.Nat.{ℕ}
use mathlib.Core.Path.{sym, ap, ◌∙◌}
use Rattle.point.specs.Handing.{stored}
use Rattle.point.proofs.Means.{count-is}
use Rattle.mean.specs.Mean.{mean_of}
use Rattle.mean.proofs.Cases.{mean-disagrees, mean-agrees}
use Rattle.mean.proofs.hundredths.Goals as goal

pub returns-then-not-agrees_alone : goal.returns-then-not-agrees_alone
returns-then-not-agrees_alone c =
    let a = c.args in
    sym (mean-disagrees (stored a.p a.bounds.now a.pos.now a.neg.now) (sym c.agrees_alone.ensures ∙ c.if-not-agrees_alone.true))

pub returns : goal.returns
returns c =
    let a = c.args in
    c.mean_of.ensures
    ∙ ap (λ (n : ℕ). mean_of n a.p.sum) (c.count_in.ensures ∙ count-is a.p.figures a.bounds.now a.pos.now a.neg.now)
    ∙ sym (mean-agrees (stored a.p a.bounds.now a.pos.now a.neg.now) (sym c.agrees_alone.ensures ∙ c.if-not-agrees_alone.false))
