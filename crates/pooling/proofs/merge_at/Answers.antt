-- `pooling::merge_at` meets its contract. Assumes nothing.
use mathlib.Core.Path.{sym, ap, ◌∙◌}
use native.Mathlib.Omega.{arith}
use Rattle.laws.specs.Said.{refusal}
use Rattle.listing.specs.Listed.{Output}
use Rattle.pooling.specs.Lists.{Source, source, nameless, ends}
use Rattle.pooling.proofs.Calls.{no-set, by-reals, by-wholes, by_mixed, by_mixed_2}
use Rattle.pooling.proofs.merge_at.Goals as goal

pub returns-then-asets-k : goal.returns-then-asets-k
returns-then-asets-k c =
    let first : Source = source c.args.asets.now c.args.awords.now c.args.apos.now c.args.aneg.now c.args.abounds.now in
    let second : Source = nameless c.args.bwords.now c.args.bpos.now c.args.bneg.now c.args.bbounds.now in
    let lent : Output = record { sets = c.args.sets.now; words = c.args.words.now; pos = c.args.pos.now; neg = c.args.neg.now } in
    no-set c.args.size c.args.a (first) c.args.b (second) c.args.at (lent) c.if-asets-k.true

pub returns-then-is_whole-2 : goal.returns-then-is_whole-2
returns-then-is_whole-2 c =
    let first : Source = source c.args.asets.now c.args.awords.now c.args.apos.now c.args.aneg.now c.args.abounds.now in
    let second : Source = nameless c.args.bwords.now c.args.bpos.now c.args.bneg.now c.args.bbounds.now in
    let lent : Output = record { sets = c.args.sets.now; words = c.args.words.now; pos = c.args.pos.now; neg = c.args.neg.now } in
    c.merge.ensures
    ∙ by-wholes c.args.size c.args.a (first) c.args.b (second) c.args.at (lent) (omega (arith, c.if-asets-k.false))
    (sym c.is_whole.ensures ∙ c.if-is_whole.true) (sym c.is_whole-then-is_whole.ensures ∙ c.if-is_whole-2.true)

pub returns-then-is_whole : goal.returns-then-is_whole
returns-then-is_whole c =
    let lent : Output = record { sets = c.args.sets.now; words = c.args.words.now; pos = c.args.pos.now; neg = c.args.neg.now } in
    let first : Source = source c.args.asets.now c.args.awords.now c.args.apos.now c.args.aneg.now c.args.abounds.now in
    let second : Source = nameless c.args.bwords.now c.args.bpos.now c.args.bneg.now c.args.bbounds.now in
    ap (λ n. ends (refusal n) (lent)) c.mixed-no.ensures
    ∙ by_mixed c.args.size c.args.a (first) c.args.b (second) c.args.at (lent) (omega (arith, c.if-asets-k.false))
    (sym c.is_whole.ensures ∙ c.if-is_whole.true) (sym c.is_whole-then-is_whole.ensures ∙ c.if-is_whole-2.false)

pub returns-then-is_whole-3 : goal.returns-then-is_whole-3
returns-then-is_whole-3 c =
    let lent : Output = record { sets = c.args.sets.now; words = c.args.words.now; pos = c.args.pos.now; neg = c.args.neg.now } in
    let first : Source = source c.args.asets.now c.args.awords.now c.args.apos.now c.args.aneg.now c.args.abounds.now in
    let second : Source = nameless c.args.bwords.now c.args.bpos.now c.args.bneg.now c.args.bbounds.now in
    ap (λ n. ends (refusal n) (lent)) c.mixed-no-then-is_whole-3.ensures
    ∙ by_mixed_2 c.args.size c.args.a (first) c.args.b (second) c.args.at (lent) (omega (arith, c.if-asets-k.false))
    (sym c.is_whole.ensures ∙ c.if-is_whole.false) (sym c.is_whole-2.ensures ∙ c.if-is_whole-3.true)

pub returns : goal.returns
returns c =
    let first : Source = source c.args.asets.now c.args.awords.now c.args.apos.now c.args.aneg.now c.args.abounds.now in
    let second : Source = nameless c.args.bwords.now c.args.bpos.now c.args.bneg.now c.args.bbounds.now in
    let lent : Output = record { sets = c.args.sets.now; words = c.args.words.now; pos = c.args.pos.now; neg = c.args.neg.now } in
    c.merge_reals.ensures
    ∙ by-reals c.args.size c.args.a (first) c.args.b (second) c.args.at (lent) (omega (arith, c.if-asets-k.false))
    (sym c.is_whole.ensures ∙ c.if-is_whole.false) (sym c.is_whole-2.ensures ∙ c.if-is_whole-3.false)
