use Rattle.std.proofs.Common.{◌≡◌, true, sym, ◌∙◌, arith}
use Rattle.index.specs.Bins.{lowest_bin, end_bin}
use Rattle.exponential.specs.Series.{size_passes}
use Rattle.exponential.specs.Inner.{row_agrees}
use Rattle.exponential.proofs.Facts.{size_in, size-passes_in, refuse, pos-facts, neg-facts, by-sum}
use Rattle.exponential.proofs.Rowed.{row-facts, facts-row, short}
use Rattle.laws.proofs.Bools.{not-both}
use Rattle.exponential.proofs.counts_agree.Goals as goal

pub returns-then-not-size_passes : goal.returns-then-not-size_passes
returns-then-not-size_passes c =
    let a = c.args in
    refuse a.size a.top a.c a.pos.now a.neg.now (λ k. not-both _ (c.size_passes.ensures ∙ size-passes_in a.size k.least k.most) (c.if-not-size_passes.true))

pub returns-then-top-gt-FINEST : goal.returns-then-top-gt-FINEST
returns-then-top-gt-FINEST c =
    let a = c.args in
    refuse a.size a.top a.c a.pos.now a.neg.now (λ k. omega (arith, c.if-top-gt-FINEST.true, k.greatest))

pub returns-then-top-level : goal.returns-then-top-level
returns-then-top-level c =
    let a = c.args in
    refuse a.size a.top a.c a.pos.now a.neg.now (λ k. omega (arith, c.if-top-level.true, k.level))

pub returns-then-not-row_agrees : goal.returns-then-not-row_agrees
returns-then-not-row_agrees c =
    let pos-said : c.row_agrees.result ≡ row_agrees c.args.size (lowest_bin c.args.c.level) (end_bin c.args.c.level) c.args.c.pos c.args.pos.now =
    let a = c.args in
    c.row_agrees.ensures ∙ (λ j. row_agrees a.size (c.lowest_bin-low.ensures j) (c.end_bin-end.ensures j) a.c.pos a.pos.now) in
    let a = c.args in
    let l = a.c.level in
    refuse a.size a.top a.c a.pos.now a.neg.now (λ k. not-both _ (pos-said ∙ facts-row a.size (lowest_bin l) (end_bin l) a.c.pos a.pos.now (pos-facts a.size a.top a.c a.pos.now a.neg.now k)) (c.if-not-row_agrees.true))

pub returns-then-not-row_agrees-2 : goal.returns-then-not-row_agrees-2
returns-then-not-row_agrees-2 c =
    let neg_said : c.row_agrees-2.result ≡ row_agrees c.args.size (lowest_bin c.args.c.level) (end_bin c.args.c.level) c.args.c.neg c.args.neg.now =
    let a = c.args in
    c.row_agrees-2.ensures ∙ (λ j. row_agrees a.size (c.lowest_bin-low.ensures j) (c.end_bin-end.ensures j) a.c.neg a.neg.now) in
    let a = c.args in
    let l = a.c.level in
    refuse a.size a.top a.c a.pos.now a.neg.now (λ k. not-both _ (neg_said ∙ facts-row a.size (lowest_bin l) (end_bin l) a.c.neg a.neg.now (neg-facts a.size a.top a.c a.pos.now a.neg.now k)) (c.if-not-row_agrees-2.true))

pub adds_up-requires : goal.adds_up-requires
adds_up-requires c =
    let sized : size_passes c.args.size ≡ true = sym c.size_passes.ensures ∙ c.if-not-size_passes.false in
    let pos-said : c.row_agrees.result ≡ row_agrees c.args.size (lowest_bin c.args.c.level) (end_bin c.args.c.level) c.args.c.pos c.args.pos.now =
    let a = c.args in
    c.row_agrees.ensures ∙ (λ j. row_agrees a.size (c.lowest_bin-low.ensures j) (c.end_bin-end.ensures j) a.c.pos a.pos.now) in
    let neg_said : c.row_agrees-2.result ≡ row_agrees c.args.size (lowest_bin c.args.c.level) (end_bin c.args.c.level) c.args.c.neg c.args.neg.now =
    let a = c.args in
    c.row_agrees-2.ensures ∙ (λ j. row_agrees a.size (c.lowest_bin-low.ensures j) (c.end_bin-end.ensures j) a.c.neg a.neg.now) in
    let a = c.args in
    let l = a.c.level in
    let m = (size_in a.size (sized)).1 in
    let p = row-facts a.size (lowest_bin l) (end_bin l) a.c.pos a.pos.now (sym (pos-said) ∙ c.if-not-row_agrees.false) in
    let n = row-facts a.size (lowest_bin l) (end_bin l) a.c.neg a.neg.now (sym (neg_said) ∙ c.if-not-row_agrees-2.false) in record { len_in_bounds = (p.there, omega (arith, short a.size (lowest_bin l) (end_bin l) a.c.pos a.pos.now p, m)); len_in_bounds_2 = (n.there, omega (arith, short a.size (lowest_bin l) (end_bin l) a.c.neg a.neg.now n, m)) }

pub returns : goal.returns
returns c =
    let sized : size_passes c.args.size ≡ true = sym c.size_passes.ensures ∙ c.if-not-size_passes.false in
    let pos-said : c.row_agrees.result ≡ row_agrees c.args.size (lowest_bin c.args.c.level) (end_bin c.args.c.level) c.args.c.pos c.args.pos.now =
    let a = c.args in
    c.row_agrees.ensures ∙ (λ j. row_agrees a.size (c.lowest_bin-low.ensures j) (c.end_bin-end.ensures j) a.c.pos a.pos.now) in
    let neg_said : c.row_agrees-2.result ≡ row_agrees c.args.size (lowest_bin c.args.c.level) (end_bin c.args.c.level) c.args.c.neg c.args.neg.now =
    let a = c.args in
    c.row_agrees-2.ensures ∙ (λ j. row_agrees a.size (c.lowest_bin-low.ensures j) (c.end_bin-end.ensures j) a.c.neg a.neg.now) in
    let a = c.args in
    c.adds_up.ensures ∙ (by-sum a.size a.top a.c a.pos.now a.neg.now (sized) (omega (arith, c.if-top-gt-FINEST.false)) (omega (arith, c.if-top-level.false)) (sym (pos-said) ∙ c.if-not-row_agrees.false) (sym (neg_said) ∙ c.if-not-row_agrees-2.false))
