use Prim.Native.Nat.{◌<◌}
use mathlib.Core.Path.{◌≡◌, sym, ap, ◌∙◌, subst}
use native.Mathlib.Omega.{arith}
use lib.ListN.{length}
use Rattle.merges.specs.declared.Plan.{Plan}
use Rattle.merges.specs.Merges.{merged_point, joined_len}
use Rattle.merges.proofs.Merging as merging
use Rattle.point.proofs.Laid.{no-pos, no-neg, laid}
use Rattle.point.proofs.merge_exponential.Goals as goal

pub plan_of-to-requires : goal.plan_of-to-requires
plan_of-to-requires c = let a = c.args in let all = merging.plannable a.size a.c a.apos.now a.aneg.now a.d a.bpos.now a.bneg.now c.requires in record { size_nonzero = all.0; len_bound = all.1.0; len_bound_2 = all.1.1.0; b_bound = all.1.1.1 }

pub joined_len-requires : goal.joined_len-requires
joined_len-requires c =
    let few : (c.plan_of-to.result.first < 32) × (c.plan_of-to.result.second < 32) =
    let a = c.args in
    subst (λ (o : Plan). (o.first < 32) × (o.second < 32)) (sym c.plan_of-to.ensures) (merging.first-few a.size a.c a.apos.now a.aneg.now a.d a.bpos.now a.bneg.now c.requires, merging.second-few a.size a.c a.apos.now a.aneg.now a.d a.bpos.now a.bneg.now c.requires) in
    let a = c.args in record { len_bound = (merging.plannable a.size a.c a.apos.now a.aneg.now a.d a.bpos.now a.bneg.now c.requires).1.0; j_bound = few }

pub returns-then-pos-joined_len : goal.returns-then-pos-joined_len
returns-then-pos-joined_len c =
    let pos-long : c.joined_len.result ≡ length (merged_point c.args.size c.args.c c.args.apos.now c.args.aneg.now c.args.d c.args.bpos.now c.args.bneg.now).pos.counts =
    let a = c.args in
    c.joined_len.ensures ∙ ap (λ (o : Plan). joined_len a.c.pos o.first a.d.pos o.second) c.plan_of-to.ensures ∙ merging.pos-length a.size a.c a.apos.now a.aneg.now a.d a.bpos.now a.bneg.now c.requires in
    let a = c.args in
    no-pos (merged_point a.size a.c a.apos.now a.aneg.now a.d a.bpos.now a.bneg.now) a.pos.now a.neg.now (omega (arith, c.if-pos-joined_len.true, pos-long))

pub joined_len-requires-2 : goal.joined_len-requires-2
joined_len-requires-2 c =
    let few : (c.plan_of-to.result.first < 32) × (c.plan_of-to.result.second < 32) =
    let a = c.args in
    subst (λ (o : Plan). (o.first < 32) × (o.second < 32)) (sym c.plan_of-to.ensures) (merging.first-few a.size a.c a.apos.now a.aneg.now a.d a.bpos.now a.bneg.now c.requires, merging.second-few a.size a.c a.apos.now a.aneg.now a.d a.bpos.now a.bneg.now c.requires) in
    let a = c.args in record { len_bound = (merging.plannable a.size a.c a.apos.now a.aneg.now a.d a.bpos.now a.bneg.now c.requires).1.1.0; j_bound = few }

pub returns-then-neg-joined_len : goal.returns-then-neg-joined_len
returns-then-neg-joined_len c =
    let pos-long : c.joined_len.result ≡ length (merged_point c.args.size c.args.c c.args.apos.now c.args.aneg.now c.args.d c.args.bpos.now c.args.bneg.now).pos.counts =
    let a = c.args in
    c.joined_len.ensures ∙ ap (λ (o : Plan). joined_len a.c.pos o.first a.d.pos o.second) c.plan_of-to.ensures ∙ merging.pos-length a.size a.c a.apos.now a.aneg.now a.d a.bpos.now a.bneg.now c.requires in
    let neg-long : c.joined_len-2.result ≡ length (merged_point c.args.size c.args.c c.args.apos.now c.args.aneg.now c.args.d c.args.bpos.now c.args.bneg.now).neg.counts =
    let a = c.args in
    c.joined_len-2.ensures ∙ ap (λ (o : Plan). joined_len a.c.neg o.first a.d.neg o.second) c.plan_of-to.ensures ∙ merging.neg-length a.size a.c a.apos.now a.aneg.now a.d a.bpos.now a.bneg.now c.requires in
    let a = c.args in
    no-neg (merged_point a.size a.c a.apos.now a.aneg.now a.d a.bpos.now a.bneg.now) a.pos.now a.neg.now (omega (arith, c.if-pos-joined_len.false, pos-long)) (omega (arith, c.if-neg-joined_len.true, neg-long))

pub merge_to-r-requires : goal.merge_to-r-requires
merge_to-r-requires c =
    let pos-long : c.joined_len.result ≡ length (merged_point c.args.size c.args.c c.args.apos.now c.args.aneg.now c.args.d c.args.bpos.now c.args.bneg.now).pos.counts =
    let a = c.args in
    c.joined_len.ensures ∙ ap (λ (o : Plan). joined_len a.c.pos o.first a.d.pos o.second) c.plan_of-to.ensures ∙ merging.pos-length a.size a.c a.apos.now a.aneg.now a.d a.bpos.now a.bneg.now c.requires in
    let neg-long : c.joined_len-2.result ≡ length (merged_point c.args.size c.args.c c.args.apos.now c.args.aneg.now c.args.d c.args.bpos.now c.args.bneg.now).neg.counts =
    let a = c.args in
    c.joined_len-2.ensures ∙ ap (λ (o : Plan). joined_len a.c.neg o.first a.d.neg o.second) c.plan_of-to.ensures ∙ merging.neg-length a.size a.c a.apos.now a.aneg.now a.d a.bpos.now a.bneg.now c.requires in
    record { agreeing = c.requires; to_value = c.plan_of-to.ensures; roomy = record { pos = omega (arith, c.if-pos-joined_len.false, pos-long); neg = omega (arith, c.if-neg-joined_len.false, neg-long) } }

pub returns : goal.returns
returns c =
    let pos-long : c.joined_len.result ≡ length (merged_point c.args.size c.args.c c.args.apos.now c.args.aneg.now c.args.d c.args.bpos.now c.args.bneg.now).pos.counts =
    let a = c.args in
    c.joined_len.ensures ∙ ap (λ (o : Plan). joined_len a.c.pos o.first a.d.pos o.second) c.plan_of-to.ensures ∙ merging.pos-length a.size a.c a.apos.now a.aneg.now a.d a.bpos.now a.bneg.now c.requires in
    let neg-long : c.joined_len-2.result ≡ length (merged_point c.args.size c.args.c c.args.apos.now c.args.aneg.now c.args.d c.args.bpos.now c.args.bneg.now).neg.counts =
    let a = c.args in
    c.joined_len-2.ensures ∙ ap (λ (o : Plan). joined_len a.c.neg o.first a.d.neg o.second) c.plan_of-to.ensures ∙ merging.neg-length a.size a.c a.apos.now a.aneg.now a.d a.bpos.now a.bneg.now c.requires in
    let a = c.args in
    laid (merged_point a.size a.c a.apos.now a.aneg.now a.d a.bpos.now a.bneg.now) a.pos.now a.neg.now (omega (arith, c.if-pos-joined_len.false, pos-long)) (omega (arith, c.if-neg-joined_len.false, neg-long))
    c.merge_to-r.result c.merge_to-r.new.pos c.merge_to-r.new.neg c.merge_to-r.ensures
