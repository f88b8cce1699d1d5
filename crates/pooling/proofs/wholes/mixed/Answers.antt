-- `pooling::wholes::mixed` meets its contract. Assumes nothing.
use mathlib.Core.Path.{refl, sym, subst, ◌∙◌}
use Rattle.refusals.specs.Refusals.{code}
use Rattle.listing.specs.declared.Entry.{Entry}
use Rattle.whole_point.proofs.Call.{mixed_law}
use Rattle.point.specs.Handing.{refusal_before}
use Rattle.whole_listing.specs.Listed as WL
use Rattle.pooling.specs.Lists.{Source, nameless}
use Rattle.pooling.specs.Entries.{whole_in, stored_of}
use Rattle.pooling.proofs.Whole.{whole-lies}
use Rattle.pooling.proofs.Integers.{integer-lies}
use Rattle.pooling.proofs.Calls.{mixed-found}
use Rattle.pooling.proofs.wholes.mixed.Goals as goal

pub refusal_entries-no-requires : goal.refusal_entries-no-requires
refusal_entries-no-requires c =
    let first : Source = nameless c.args.awords.now c.args.apos.now c.args.aneg.now c.args.abounds.now in
    let second : Source = nameless c.args.bwords.now c.args.bpos.now c.args.bneg.now c.args.bbounds.now in (
      subst (λ (d : Entry). whole_in c.args.a d c.args.abounds.now c.args.apos.now c.args.aneg.now) (sym c.shadow_entry-x.ensures)
          (integer-lies c.args.a (first) c.in-Some.e (sym c.in-Some.ensures)),
      whole-lies c.args.b (second) c.in-Some-whole_at.f (sym c.in-Some-whole_at.ensures),
    )

pub returns-in_default : goal.returns-in_default
returns-in_default c =
    let first : Source = nameless c.args.awords.now c.args.apos.now c.args.aneg.now c.args.abounds.now in
    let second : Source = nameless c.args.bwords.now c.args.bpos.now c.args.bneg.now c.args.bbounds.now in
    mixed-found c.args.size c.args.a (first) c.args.b (second) _ _ c.in_default.ensures refl

pub returns-in_default-whole_at : goal.returns-in_default-whole_at
returns-in_default-whole_at c =
    let first : Source = nameless c.args.awords.now c.args.apos.now c.args.aneg.now c.args.abounds.now in
    let second : Source = nameless c.args.bwords.now c.args.bpos.now c.args.bneg.now c.args.bbounds.now in
    mixed-found c.args.size c.args.a (first) c.args.b (second) _ _
    c.in-Some.ensures c.in_default-whole_at.ensures

pub returns : goal.returns
returns c =
    let first : Source = nameless c.args.awords.now c.args.apos.now c.args.aneg.now c.args.abounds.now in
    let second : Source = nameless c.args.bwords.now c.args.bpos.now c.args.bneg.now c.args.bbounds.now in
    let a = c.args in
    let y = stored_of a.b c.in-Some-whole_at.f a.bbounds.now a.bpos.now a.bneg.now in
    c.beside.ensures
    ∙ mixed_law a.size (WL.stored_at a.a c.in-Some.e (first).bounds (first).list) y (code c.refusal_entries-no.result)
    (c.refusal_entries-no.ensures
    ∙ (λ i. refusal_before a.size (stored_of a.a (c.shadow_entry-x.ensures i) a.abounds.now a.apos.now a.aneg.now) y))
    ∙ mixed-found a.size a.a (first) a.b (second) _ _
    c.in-Some.ensures c.in-Some-whole_at.ensures
