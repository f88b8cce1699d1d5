-- `listing::read::counts_lie` meets its contract. Assumes nothing.
use Prim.Native.Nat.{◌+◌}
use mathlib.Core.Path.{sym, ap, ◌∙◌}
use lib.Dec.{leb}
use Rattle.point.specs.declared.Figures.{Figures}
use Rattle.listing.specs.Listed.{pos_len, neg_len}
use Rattle.listing.proofs.Cases.{within-no, within-then}
use Rattle.listing.proofs.read.counts_lie.Goals as goal

pub returns-then-not-lie : goal.returns-then-not-lie
returns-then-not-lie c =
    within-no c.args.at c.args.f c.args.b c.args.pos c.args.neg (ap (λ (g : Figures). leb (c.args.at.pos + pos_len g c.args.b) c.args.pos) c.in-Exponential.is ∙ sym c.lie.ensures ∙ c.if-not-lie.true)

pub returns-then-not-buckets_lie : goal.returns-then-not-buckets_lie
returns-then-not-buckets_lie c =
    within-no c.args.at c.args.f c.args.b c.args.pos c.args.neg (ap (λ (g : Figures). leb (c.args.at.pos + pos_len g c.args.b) c.args.pos) c.in-Explicit.is ∙ sym c.buckets_lie.ensures ∙ c.if-not-buckets_lie.true)

pub returns-else-not-lie : goal.returns-else-not-lie
returns-else-not-lie c =
    c.lie-in-Exponential.ensures
    ∙ sym (ap (λ (g : Figures). leb (c.args.at.neg + neg_len g) c.args.neg) c.in-Exponential.is)
    ∙ within-then c.args.at c.args.f c.args.b c.args.pos c.args.neg (ap (λ (g : Figures). leb (c.args.at.pos + pos_len g c.args.b) c.args.pos) c.in-Exponential.is ∙ sym c.lie.ensures ∙ c.if-not-lie.false)

pub returns-else-not-buckets_lie : goal.returns-else-not-buckets_lie
returns-else-not-buckets_lie c =
    c.lie-in-Explicit.ensures
    ∙ sym (ap (λ (g : Figures). leb (c.args.at.neg + neg_len g) c.args.neg) c.in-Explicit.is)
    ∙ within-then c.args.at c.args.f c.args.b c.args.pos c.args.neg (ap (λ (g : Figures). leb (c.args.at.pos + pos_len g c.args.b) c.args.pos) c.in-Explicit.is ∙ sym c.buckets_lie.ensures ∙ c.if-not-buckets_lie.false)
