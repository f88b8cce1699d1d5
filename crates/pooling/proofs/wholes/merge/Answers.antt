-- `pooling::wholes::merge` meets its contract. Assumes nothing.
use mathlib.Core.Path.{refl, sym, ◌∙◌}
use Rattle.listing.specs.Listed.{Output}
use Rattle.pooling.specs.Lists.{Source, nameless}
use Rattle.pooling.proofs.Integers.{integer-lies}
use Rattle.pooling.proofs.Calls.{integers_law}
use Rattle.pooling.proofs.wholes.merge.Goals as goal

pub pool-requires : goal.pool-requires
pool-requires c =
    let first : Source = nameless c.args.awords.now c.args.apos.now c.args.aneg.now c.args.abounds.now in
    let second : Source = nameless c.args.bwords.now c.args.bpos.now c.args.bneg.now c.args.bbounds.now in (
      integer-lies c.args.a (first) c.in-Some.e (sym c.in-Some.ensures),
      integer-lies c.args.b (second) c.in-Some-integer_at.f (sym c.in-Some-integer_at.ensures),
    )

pub returns-in_default : goal.returns-in_default
returns-in_default c =
    let first : Source = nameless c.args.awords.now c.args.apos.now c.args.aneg.now c.args.abounds.now in
    let second : Source = nameless c.args.bwords.now c.args.bpos.now c.args.bneg.now c.args.bbounds.now in
    let lent : Output = record { sets = c.args.sets.now; words = c.args.words.now; pos = c.args.pos.now; neg = c.args.neg.now } in
    integers_law c.args.size c.args.row c.args.a (first) c.args.b (second) c.args.at (lent) _ _
    c.in_default.ensures refl

pub returns-in_default-integer_at : goal.returns-in_default-integer_at
returns-in_default-integer_at c =
    let first : Source = nameless c.args.awords.now c.args.apos.now c.args.aneg.now c.args.abounds.now in
    let second : Source = nameless c.args.bwords.now c.args.bpos.now c.args.bneg.now c.args.bbounds.now in
    let lent : Output = record { sets = c.args.sets.now; words = c.args.words.now; pos = c.args.pos.now; neg = c.args.neg.now } in
    integers_law c.args.size c.args.row c.args.a (first) c.args.b (second) c.args.at (lent) _ _
    c.in-Some.ensures c.in_default-integer_at.ensures

pub returns : goal.returns
returns c =
    let first : Source = nameless c.args.awords.now c.args.apos.now c.args.aneg.now c.args.abounds.now in
    let second : Source = nameless c.args.bwords.now c.args.bpos.now c.args.bneg.now c.args.bbounds.now in
    let lent : Output = record { sets = c.args.sets.now; words = c.args.words.now; pos = c.args.pos.now; neg = c.args.neg.now } in
    c.pool.ensures
    ∙ integers_law c.args.size c.args.row c.args.a (first) c.args.b (second) c.args.at (lent) _ _
    c.in-Some.ensures c.in-Some-integer_at.ensures
