-- `pooling::merge_reals` meets its contract. Assumes nothing.
use mathlib.Core.Path.{refl, sym, ◌∙◌}
use Rattle.listing.specs.Listed.{Output}
use Rattle.pooling.specs.Lists.{Source, nameless}
use Rattle.pooling.proofs.Whole.{whole-lies}
use Rattle.pooling.proofs.Calls.{reals_law}
use Rattle.pooling.proofs.merge_reals.Goals as goal

pub pool-requires : goal.pool-requires
pool-requires c =
    let first : Source = nameless c.args.awords.now c.args.apos.now c.args.aneg.now c.args.abounds.now in
    let second : Source = nameless c.args.bwords.now c.args.bpos.now c.args.bneg.now c.args.bbounds.now in (
      whole-lies c.args.a (first) c.in-Some.e (sym c.in-Some.ensures),
      whole-lies c.args.b (second) c.in-Some-whole_at.f (sym c.in-Some-whole_at.ensures),
    )

pub returns-in_default : goal.returns-in_default
returns-in_default c =
    let first : Source = nameless c.args.awords.now c.args.apos.now c.args.aneg.now c.args.abounds.now in
    let second : Source = nameless c.args.bwords.now c.args.bpos.now c.args.bneg.now c.args.bbounds.now in
    let lent : Output = record { sets = c.args.sets.now; words = c.args.words.now; pos = c.args.pos.now; neg = c.args.neg.now } in
    reals_law c.args.size c.args.row c.args.a (first) c.args.b (second) c.args.at (lent) _ _
    c.in_default.ensures refl

pub returns-in_default-whole_at : goal.returns-in_default-whole_at
returns-in_default-whole_at c =
    let first : Source = nameless c.args.awords.now c.args.apos.now c.args.aneg.now c.args.abounds.now in
    let second : Source = nameless c.args.bwords.now c.args.bpos.now c.args.bneg.now c.args.bbounds.now in
    let lent : Output = record { sets = c.args.sets.now; words = c.args.words.now; pos = c.args.pos.now; neg = c.args.neg.now } in
    reals_law c.args.size c.args.row c.args.a (first) c.args.b (second) c.args.at (lent) _ _
    c.in-Some.ensures c.in_default-whole_at.ensures

pub returns : goal.returns
returns c =
    let first : Source = nameless c.args.awords.now c.args.apos.now c.args.aneg.now c.args.abounds.now in
    let second : Source = nameless c.args.bwords.now c.args.bpos.now c.args.bneg.now c.args.bbounds.now in
    let lent : Output = record { sets = c.args.sets.now; words = c.args.words.now; pos = c.args.pos.now; neg = c.args.neg.now } in
    c.pool.ensures
    ∙ reals_law c.args.size c.args.row c.args.a (first) c.args.b (second) c.args.at (lent) _ _
    c.in-Some.ensures c.in-Some-whole_at.ensures
