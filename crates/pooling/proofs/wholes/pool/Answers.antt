-- `pooling::wholes::pool` meets its contract. Assumes nothing.
use mathlib.Core.Path.{◌≡◌, sym, ap, subst, ◌∙◌}
use borrow.Author.Rules.{rules}
use lib.ListN.{length}
use mir.Syntax.{w64}
use mir.Val.{SFits}
use Rattle.std.specs.Prelude.{Result}
use Rattle.refusals.specs.Refusals.{number, said}
use Rattle.refusals.specs.declared.Refusal.{Refusal}
use Rattle.refusals.proofs.Numbers.{code-most}
use Rattle.integers.specs.Answers.{sum_of, last_number}
use Rattle.integers.proofs.Range.{held}
use Rattle.point.specs.Handing.{refusal_before}
use Rattle.whole_point.specs.Handing.{Stored, shadow_stored}
use Rattle.listing.specs.Listed.{Output}
use Rattle.listing.specs.declared.Cursor.{Cursor}
use Rattle.listing.specs.declared.Entry.{Entry}
use Rattle.pooling.specs.Lists.{ends, pooled}
use Rattle.pooling.specs.Entries.{whole_in, stored_of, whole_of, shadow_entry, renumbered}
use Rattle.points.proofs.WholeSums.{last-within}
use Rattle.pooling.proofs.Whole.{bounds-long}
use Rattle.pooling.proofs.Shadows.{outside-pooled, numberable, inside-pooled}
use Rattle.pooling.proofs.wholes.pool.Goals as goal

pub refusal_entries-before-requires : goal.refusal_entries-before-requires
refusal_entries-before-requires c =
    let Wholes : Entry → Entry → Type 0 = λ d g. whole_in c.args.a d c.args.abounds.now c.args.apos.now c.args.aneg.now × whole_in c.args.b g c.args.bbounds.now c.args.bpos.now c.args.bneg.now in
    let both-whole : Wholes c.shadow_entry-x.result c.shadow_entry-y.result =
    subst (λ (d : Entry). Wholes d c.shadow_entry-y.result) (sym c.shadow_entry-x.ensures)
    (subst (Wholes (shadow_entry c.args.e)) (sym c.shadow_entry-y.ensures) c.requires) in
    both-whole

pub pool-r-requires : goal.pool-r-requires
pool-r-requires c =
    let Wholes : Entry → Entry → Type 0 = λ d g. whole_in c.args.a d c.args.abounds.now c.args.apos.now c.args.aneg.now × whole_in c.args.b g c.args.bbounds.now c.args.bpos.now c.args.bneg.now in
    let both-whole : Wholes c.shadow_entry-x.result c.shadow_entry-y.result =
    subst (λ (d : Entry). Wholes d c.shadow_entry-y.result) (sym c.shadow_entry-x.ensures)
    (subst (Wholes (shadow_entry c.args.e)) (sym c.shadow_entry-y.ensures) c.requires) in
    both-whole

pub renumber-requires : goal.renumber-requires
renumber-requires c =
    let first : Stored = whole_of c.args.a c.args.e c.args.abounds.now c.args.apos.now c.args.aneg.now in
    let second : Stored = whole_of c.args.b c.args.f c.args.bbounds.now c.args.bpos.now c.args.bneg.now in
    let lent : Output = record { sets = c.args.sets.now; words = c.args.words.now; pos = c.args.pos.now; neg = c.args.neg.now } in
    let long : length (first).bounds ≡ c.args.e.bounds.len = bounds-long c.args.e.bounds c.args.abounds.now c.requires.0.bounds in
    let left : Output = record { sets = c.pool-r.new.sets; words = c.pool-r.new.words; pos = c.pool-r.new.pos; neg = c.pool-r.new.neg } in
    let pooled-shadows : (let a = c.args in
    ends (said c.pool-r.result) (left) ≡ pooled a.size a.row a.e.bounds (shadow_stored (first)) (shadow_stored (second)) a.at (lent)) =
    let a = c.args in
    c.pool-r.ensures
    ∙ (λ i. pooled a.size a.row (c.shadow_entry-x.ensures i).bounds (stored_of a.a (c.shadow_entry-x.ensures i) a.abounds.now a.apos.now a.aneg.now)
    (stored_of a.b (c.shadow_entry-y.ensures i) a.bbounds.now a.bpos.now a.bneg.now) a.at (lent)) in
    let a = c.args in
    numberable a.size a.row a.e.bounds (first) (second) a.at (lent) (long) (said c.pool-r.result) (left) (pooled-shadows)

pub numbered-requires : goal.numbered-requires
numbered-requires c =
    last-within _ _ (code-most c.refusal_entries-before.result) (c.last_number-n.ensures ∙ ap last_number c.code-no.ensures)

pub returns-in_default : goal.returns-in_default
returns-in_default c =
    let first : Stored = whole_of c.args.a c.args.e c.args.abounds.now c.args.apos.now c.args.aneg.now in
    let second : Stored = whole_of c.args.b c.args.f c.args.bbounds.now c.args.bpos.now c.args.bneg.now in
    let lent : Output = record { sets = c.args.sets.now; words = c.args.words.now; pos = c.args.pos.now; neg = c.args.neg.now } in
    let first-sum : SFits w64 c.args.e.point.sum = search rules in
    let second-sum : SFits w64 c.args.f.point.sum = search rules in
    let told : c.sum.result ≡ sum_of (first).point.sum (second).point.sum = c.sum.ensures ∙ (λ j. sum_of (held c.args.e.point.sum (first-sum) j) (held c.args.f.point.sum (second-sum) j)) in
    let a = c.args in
    outside-pooled a.size a.row a.e.bounds (first) (second) a.at (lent) (sym (told) ∙ c.in_default.is)
    c.code-no.result (number c.numbered.result)
    (c.code-no.ensures ∙ c.refusal_entries-before.ensures
    ∙ (λ i. refusal_before a.size (stored_of a.a (c.shadow_entry-x.ensures i) a.abounds.now a.apos.now a.aneg.now)
    (stored_of a.b (c.shadow_entry-y.ensures i) a.bbounds.now a.bpos.now a.bneg.now)))
    (c.numbered.ensures ∙ c.last_number-n.ensures)

pub returns : goal.returns
returns c =
    let left : Output = record { sets = c.pool-r.new.sets; words = c.pool-r.new.words; pos = c.pool-r.new.pos; neg = c.pool-r.new.neg } in
    let first : Stored = whole_of c.args.a c.args.e c.args.abounds.now c.args.apos.now c.args.aneg.now in
    let second : Stored = whole_of c.args.b c.args.f c.args.bbounds.now c.args.bpos.now c.args.bneg.now in
    let lent : Output = record { sets = c.args.sets.now; words = c.args.words.now; pos = c.args.pos.now; neg = c.args.neg.now } in
    let long : length (first).bounds ≡ c.args.e.bounds.len = bounds-long c.args.e.bounds c.args.abounds.now c.requires.0.bounds in
    let first-sum : SFits w64 c.args.e.point.sum = search rules in
    let second-sum : SFits w64 c.args.f.point.sum = search rules in
    let told : c.sum.result ≡ sum_of (first).point.sum (second).point.sum = c.sum.ensures ∙ (λ j. sum_of (held c.args.e.point.sum (first-sum) j) (held c.args.f.point.sum (second-sum) j)) in
    let pooled-shadows : (let a = c.args in
    ends (said c.pool-r.result) (left) ≡ pooled a.size a.row a.e.bounds (shadow_stored (first)) (shadow_stored (second)) a.at (lent)) =
    let a = c.args in
    c.pool-r.ensures
    ∙ (λ i. pooled a.size a.row (c.shadow_entry-x.ensures i).bounds (stored_of a.a (c.shadow_entry-x.ensures i) a.abounds.now a.apos.now a.aneg.now)
    (stored_of a.b (c.shadow_entry-y.ensures i) a.bbounds.now a.bpos.now a.bneg.now) a.at (lent)) in
    let whole_sum : SFits w64 c.in-Some.s = search rules in
    let a = c.args in
    let o = left in
    ap (λ (q : Result Cursor Refusal). ends (said q) (record { sets = o.sets; words = c.renumber.new.words; pos = o.pos; neg = o.neg })) c.renumber.ensures.0
    ∙ inside-pooled a.size a.row a.e.bounds (first) (second) a.at (lent) (long) c.in-Some.s (sym (told) ∙ c.in-Some.is)
    (said c.pool-r.result) o c.renumber.new.words (pooled-shadows)
    (c.renumber.ensures.1
    ∙ (λ i. renumbered a.at.place (c.smaller-min.ensures i) (c.larger-max.ensures i) (held c.in-Some.s (whole_sum) i) (said c.pool-r.result) o.words))
