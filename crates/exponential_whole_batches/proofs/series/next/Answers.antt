-- `series::next` meets its contract. Assumes nothing.
use borrow.Author.Rules.{rules}
use Rattle.std.specs.Prelude.{Err}
use Rattle.refusals.specs.Refusals.{code, said}
use Rattle.refusals.specs.declared.Refusal.TheVariants.{SumOutside}
use Rattle.rows.specs.Recording.{after}
use mathlib.Core.Path.{◌≡◌, sym, ap, subst, ◌∙◌}
use mir.Syntax.{w64}
use mir.Val.{SFits, to_z, of_z}
use Rattle.floats.specs.Starts.{zero_float}
use Rattle.integers.specs.Answers.{nearest_of, kept_sum, lesser_of, greater_of}
use Rattle.std.specs.Prelude.{Some}
use Rattle.integers.proofs.Range.{held}
use Rattle.points.specs.Points.{Point, record1}
use Rattle.points.specs.Classes.{class_of}
use Rattle.exponential.specs.Series as E
use Rattle.exponential.specs.Inner.{Written}
use Rattle.exponential_whole_batches.specs.Series.{Series, series, head_after}
use Rattle.exponential_whole_batches.proofs.Turn.{full, free, outside, inside}
use Rattle.exponential_whole_batches.proofs.series.next.Goals as goal

pub returns-then-c : goal.returns-then-c
returns-then-c c =
    let lent : Series = let a = c.args in series a.head a.pos.now a.neg.now in
    let a = c.args in
    full a.size a.top a.sums (lent) a.v c.ranges.v c.requires c.if-c.true

pub count_in-more-requires : goal.count_in-more-requires
count_in-more-requires c =
    let near : c.nearest-x.result ≡ nearest_of c.args.v = c.nearest-x.ensures ∙ ap nearest_of (held c.args.v c.ranges.v) in
    let lent : Series = let a = c.args in series a.head a.pos.now a.neg.now in
    let a = c.args in
    (λ j. E.refusal_of a.size a.top (c.under_counts-h.ensures j) a.pos.now a.neg.now (near j))
    ∙ free a.size a.top a.sums (lent) a.v c.ranges.v c.requires c.if-c.false

pub returns-in_err-s : goal.returns-in_err-s
returns-in_err-s c =
    let lent : Series = let a = c.args in series a.head a.pos.now a.neg.now in
    let summed : (let a = c.args in c.kept_sum.result ≡ kept_sum a.sums a.head.sum a.v) =
    let f : SFits w64 c.args.head.sum = search rules in
    c.kept_sum.ensures ∙ (λ j. kept_sum c.args.sums (held c.args.head.sum f j) (held c.args.v c.ranges.v j)) in
    let k : c.from_residual.result ≡ Err SumOutside = search rules in
    let a = c.args in
    ap (λ r. after (code r) (series (head_after (said r) a.head) a.pos.now a.neg.now)) k
    ∙ outside a.size a.top a.sums (lent) a.v c.ranges.v c.requires c.if-c.false (sym (summed) ∙ c.in_err-s.ensures.ok_part)

pub returns : goal.returns
returns c =
    let lent : Series = let a = c.args in series a.head a.pos.now a.neg.now in
    let summed : (let a = c.args in c.kept_sum.result ≡ kept_sum a.sums a.head.sum a.v) =
    let f : SFits w64 c.args.head.sum = search rules in
    c.kept_sum.ensures ∙ (λ j. kept_sum c.args.sums (held c.args.head.sum f j) (held c.args.v c.ranges.v j)) in
    let whole_sum : SFits w64 c.in_ok-s.s = search rules in
    let near : c.nearest-x.result ≡ nearest_of c.args.v = c.nearest-x.ensures ∙ ap nearest_of (held c.args.v c.ranges.v) in
    let least : (let a = c.args in to_z w64 (of_z w64 c.lesser-least.result) ≡ lesser_of a.head.min a.v) =
    let r : SFits w64 c.lesser-least.result = search rules in
    let m : SFits w64 c.args.head.min = search rules in
    held c.lesser-least.result r ∙ c.lesser-least.ensures ∙ (λ i. lesser_of (held c.args.head.min m i) (held c.args.v c.ranges.v i)) in
    let greatest : (let a = c.args in to_z w64 (of_z w64 c.greater-greatest.result) ≡ greater_of a.head.max a.v) =
    let r : SFits w64 c.greater-greatest.result = search rules in
    let m : SFits w64 c.args.head.max = search rules in
    held c.greater-greatest.result r ∙ c.greater-greatest.ensures ∙ (λ i. greater_of (held c.args.head.max m i) (held c.args.v c.ranges.v i)) in
    let a = c.args in
    let xs = a.pos.now in
    let ys = a.neg.now in
    inside a.size a.top a.sums (lent) a.v c.ranges.v c.requires c.if-c.false _ _ _ c.count_in-more.result c.count_in-more.new.pos c.count_in-more.new.neg
    (sym (summed) ∙ c.in_ok-s.ensures.ok_part ∙ ap Some (sym (held c.in_ok-s.s (whole_sum))))
    (subst (λ (p : Point). Written p xs ys c.count_in-more.result c.count_in-more.new.pos c.count_in-more.new.neg)
    (λ j. record1 a.size (E.read (c.under_counts-h.ensures j).counts xs ys) (class_of zero_float (near j))) c.count_in-more.ensures)
    (least) (greatest)
