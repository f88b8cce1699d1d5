use Rattle.std.proofs.Common.{◌≡◌, true, sym, ap, ◌∙◌, subst, arith}
use lib.Ieee.{binary64, fits}
use Rattle.index.specs.Answers.{bin_of}
use Rattle.points.specs.Points.{Point}
use Rattle.exponential.specs.Steps.{placed}
use Rattle.exponential.specs.Series.{read}
use Rattle.exponential.specs.Inner.{Ready, Written, class_at, value_of}
use Rattle.exponential.proofs.Call.{ready, finite-of, written_is}
use Rattle.exponential.proofs.count_in.Goals as goal

pub add-more-requires : goal.add-more-requires
add-more-requires c =
    let fits-v : fits binary64 c.args.v ≡ true = search in
    let good : Ready c.args.size c.args.top c.args.head.counts c.args.pos.now c.args.neg.now (class_at (bin_of c.args.v c.args.head.counts.level)) = let a = c.args in ready a.size a.top a.head a.pos.now a.neg.now a.v c.requires (omega (arith, c)) (fits-v) in
    let a = c.args in
    subst (Ready a.size a.top a.head.counts a.pos.now a.neg.now) (sym c.class_of-class.ensures) (good)

pub returns : goal.returns
returns c =
    let fits-v : fits binary64 c.args.v ≡ true = search in
    let good : Ready c.args.size c.args.top c.args.head.counts c.args.pos.now c.args.neg.now (class_at (bin_of c.args.v c.args.head.counts.level)) = let a = c.args in ready a.size a.top a.head a.pos.now a.neg.now a.v c.requires (omega (arith, c)) (fits-v) in
    let a = c.args in
    let h = a.head.counts in
    let xs = a.pos.now in
    let ys = a.neg.now in
    subst (λ (p : Point). Written p xs ys c.add-more.result c.add-more.new.pos c.add-more.new.neg)
    (ap (λ c. placed a.size (read h xs ys) (value_of c)) c.class_of-class.ensures
    ∙ written_is a.size a.top h xs ys a.v (good).agree (fits-v) (finite-of a.size a.top a.head xs ys a.v c.requires))
    c.add-more.ensures
