use Rattle.std.proofs.Common.{sym, ◌∙◌, arith}
use Rattle.exponential.proofs.Call.{short-pos, short-neg, not_finite, disagrees, bad-min, bad-max, full, none}
use Rattle.exponential.proofs.refusal.Goals as goal

pub returns-then-pos-n : goal.returns-then-pos-n
returns-then-pos-n c =
    let a = c.args in
    sym (short-pos a.size a.top a.head a.pos.now a.neg.now a.v c.if-pos-n.true)

pub returns-then-neg-n : goal.returns-then-neg-n
returns-then-neg-n c =
    let a = c.args in
    sym (short-neg a.size a.top a.head a.pos.now a.neg.now a.v (omega (arith, c.if-pos-n.false)) c.if-neg-n.true)

pub returns-then-not-is_finite : goal.returns-then-not-is_finite
returns-then-not-is_finite c =
    let a = c.args in
    sym (not_finite a.size a.top a.head a.pos.now a.neg.now a.v (omega (arith, c.if-pos-n.false)) (omega (arith, c.if-neg-n.false)) (sym c.is_finite.ensures ∙ c.if-not-is_finite.true))

pub returns-then-not-counts_agree : goal.returns-then-not-counts_agree
returns-then-not-counts_agree c =
    let a = c.args in
    sym (disagrees a.size a.top a.head a.pos.now a.neg.now a.v (omega (arith, c.if-pos-n.false)) (omega (arith, c.if-neg-n.false)) (sym c.is_finite.ensures ∙ c.if-not-is_finite.false) (sym c.counts_agree.ensures ∙ c.if-not-counts_agree.true))

pub returns-then-not-is_finite-2 : goal.returns-then-not-is_finite-2
returns-then-not-is_finite-2 c =
    let a = c.args in
    sym (bad-min a.size a.top a.head a.pos.now a.neg.now a.v (omega (arith, c.if-pos-n.false)) (omega (arith, c.if-neg-n.false)) (sym c.is_finite.ensures ∙ c.if-not-is_finite.false) (sym c.counts_agree.ensures ∙ c.if-not-counts_agree.false) (sym c.is_finite-2.ensures ∙ c.if-not-is_finite-2.true))

pub returns-then-not-is_finite-3 : goal.returns-then-not-is_finite-3
returns-then-not-is_finite-3 c =
    let a = c.args in
    sym (bad-max a.size a.top a.head a.pos.now a.neg.now a.v (omega (arith, c.if-pos-n.false)) (omega (arith, c.if-neg-n.false)) (sym c.is_finite.ensures ∙ c.if-not-is_finite.false) (sym c.counts_agree.ensures ∙ c.if-not-counts_agree.false) (sym c.is_finite-2.ensures ∙ c.if-not-is_finite-2.false) (sym c.is_finite-3.ensures ∙ c.if-not-is_finite-3.true))

pub returns-then-c : goal.returns-then-c
returns-then-c c =
    let a = c.args in
    sym (full a.size a.top a.head a.pos.now a.neg.now a.v (omega (arith, c.if-pos-n.false)) (omega (arith, c.if-neg-n.false)) (sym c.is_finite.ensures ∙ c.if-not-is_finite.false) (sym c.counts_agree.ensures ∙ c.if-not-counts_agree.false) (sym c.is_finite-2.ensures ∙ c.if-not-is_finite-2.false) (sym c.is_finite-3.ensures ∙ c.if-not-is_finite-3.false) c.if-c.true)

pub returns : goal.returns
returns c =
    let a = c.args in
    sym (none a.size a.top a.head a.pos.now a.neg.now a.v (omega (arith, c.if-pos-n.false)) (omega (arith, c.if-neg-n.false)) (sym c.is_finite.ensures ∙ c.if-not-is_finite.false) (sym c.counts_agree.ensures ∙ c.if-not-counts_agree.false) (sym c.is_finite-2.ensures ∙ c.if-not-is_finite-2.false) (sym c.is_finite-3.ensures ∙ c.if-not-is_finite-3.false) c.if-c.false)
