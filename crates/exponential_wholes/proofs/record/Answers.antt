-- `record` meets its contract. Assumes nothing.
use mathlib.Core.Path.{◌≡◌, sym, ap, subst, ◌∙◌}
use borrow.Author.Rules.{rules}
use mir.Syntax.{w64}
use mir.Val.{SFits, to_z, of_z}
use Rattle.floats.specs.Starts.{zero_float}
use Rattle.integers.specs.Answers.{nearest_of, kept_sum, lesser_of, greater_of}
use Rattle.integers.proofs.Range.{held}
use Rattle.points.specs.Points.{Point, record1}
use Rattle.points.specs.Classes.{class_of}
use Rattle.exponential.specs.Series as E
use Rattle.exponential.specs.Inner.{Written}
use Rattle.std.specs.Prelude.{Err, Some}
use Rattle.refusals.specs.declared.Refusal.TheVariants.{SumOutside}
use Rattle.refusals.specs.Refusals.{number, said}
use Rattle.refusals.proofs.Numbers.{number-nonzero}
use Rattle.exponential_wholes.specs.Series.{outcome}
use Rattle.exponential_wholes.proofs.Call.{before, refused_law, outside_law, inside_law}
use Rattle.exponential_wholes.proofs.record.Goals as goal

pub returns-in-Err : goal.returns-in-Err
returns-in-Err c =
    let a = c.args in
    let near : c.nearest-x.result ≡ nearest_of a.v = c.nearest-x.ensures ∙ ap nearest_of (held a.v c.ranges.v) in
    let told : number c.in-Err.no ≡ before a.size a.top a.sums a.head a.pos.now a.neg.now a.v =
    c.in-Err.ensures
    ∙ (λ j. E.refusal_of a.size a.top (c.under_counts-h.ensures j) a.pos.now a.neg.now (near j)) in
    refused_law a.size a.top a.sums a.head a.pos.now a.neg.now a.v (number c.in-Err.no) told (number-nonzero c.in-Err.no)

pub returns-in_err-sum : goal.returns-in_err-sum
returns-in_err-sum c =
    let a = c.args in
    let near : c.nearest-x.result ≡ nearest_of a.v = c.nearest-x.ensures ∙ ap nearest_of (held a.v c.ranges.v) in
    let none : before a.size a.top a.sums a.head a.pos.now a.neg.now a.v ≡ 0 =
    sym (c.in_default.ensures ∙ (λ j. E.refusal_of a.size a.top (c.under_counts-h.ensures j) a.pos.now a.neg.now (near j))) in
    let f : SFits w64 a.head.sum = search rules in
    let summed : c.kept_sum.result ≡ kept_sum a.sums a.head.sum a.v =
    c.kept_sum.ensures ∙ (λ j. kept_sum a.sums (held a.head.sum f j) (held a.v c.ranges.v j)) in
    let k : c.from_residual.result ≡ Err SumOutside = search rules in
    ap (λ r. outcome (said r) a.pos.now a.neg.now) k
    ∙ outside_law a.size a.top a.sums a.head a.pos.now a.neg.now a.v none (sym summed ∙ c.in_err-sum.ensures.ok_part)

pub count_in-counts-requires : goal.count_in-counts-requires
count_in-counts-requires c = sym c.in_default.ensures

pub returns : goal.returns
returns c =
    let a = c.args in
    let near : c.nearest-x.result ≡ nearest_of a.v = c.nearest-x.ensures ∙ ap nearest_of (held a.v c.ranges.v) in
    let none : before a.size a.top a.sums a.head a.pos.now a.neg.now a.v ≡ 0 =
    sym (c.in_default.ensures ∙ (λ j. E.refusal_of a.size a.top (c.under_counts-h.ensures j) a.pos.now a.neg.now (near j))) in
    let f : SFits w64 a.head.sum = search rules in
    let summed : c.kept_sum.result ≡ kept_sum a.sums a.head.sum a.v =
    c.kept_sum.ensures ∙ (λ j. kept_sum a.sums (held a.head.sum f j) (held a.v c.ranges.v j)) in
    let whole_sum : SFits w64 c.in_ok-sum.sum = search rules in
    let least : to_z w64 (of_z w64 c.lesser.result) ≡ lesser_of a.head.min a.v =
    let r : SFits w64 c.lesser.result = search rules in
    let m : SFits w64 a.head.min = search rules in
    held c.lesser.result r ∙ c.lesser.ensures ∙ (λ i. lesser_of (held a.head.min m i) (held a.v c.ranges.v i)) in
    let greatest : to_z w64 (of_z w64 c.greater.result) ≡ greater_of a.head.max a.v =
    let r : SFits w64 c.greater.result = search rules in
    let m : SFits w64 a.head.max = search rules in
    held c.greater.result r ∙ c.greater.ensures ∙ (λ i. greater_of (held a.head.max m i) (held a.v c.ranges.v i)) in
    let xs = a.pos.now in
    let ys = a.neg.now in
    inside_law a.size a.top a.sums a.head xs ys a.v _ _ _ c.count_in-counts.result c.count_in-counts.new.pos c.count_in-counts.new.neg
    none (sym summed ∙ c.in_ok-sum.ensures.ok_part ∙ ap Some (sym (held c.in_ok-sum.sum whole_sum)))
    (subst (λ (p : Point). Written p xs ys c.count_in-counts.result c.count_in-counts.new.pos c.count_in-counts.new.neg)
    (λ j. record1 a.size (E.read (c.under_counts-h.ensures j).counts xs ys) (class_of zero_float (near j))) c.count_in-counts.ensures)
    least greatest
