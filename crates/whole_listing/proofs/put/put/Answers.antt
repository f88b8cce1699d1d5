-- `whole_listing::put::put` meets its contract. Assumes nothing.
use mathlib.Core.Path.{sym, subst}
use Rattle.point.specs.declared.Point as P
use Rattle.listing.specs.Listed.{Output}
use Rattle.listing.specs.Inner.{Room}
use Rattle.whole_listing.proofs.Cases.{put-over}
use Rattle.whole_listing.proofs.put.put.Goals as goal

pub put-next-requires : goal.put-next-requires
put-next-requires c =
    let lent : Output = record { sets = c.args.sets.now; words = c.args.words.now; pos = c.args.pos.now; neg = c.args.neg.now } in
    let a = c.args in
    subst (λ (q : P.Point). Room a.at q.figures a.b a.cpos.now a.cneg.now (lent)) (sym c.shadow_of-shadow.ensures) c.requires

pub returns : goal.returns
returns c =
    let lent : Output = record { sets = c.args.sets.now; words = c.args.words.now; pos = c.args.pos.now; neg = c.args.neg.now } in
    let a = c.args in
    put-over a.at a.row a.p c.shadow_of-shadow.result a.b a.cpos.now a.cneg.now (lent) c.put-next.result
    (record { sets = c.put-next.new.sets; words = c.put-next.new.words; pos = c.put-next.new.pos; neg = c.put-next.new.neg }) c.words_of-w.result
    c.shadow_of-shadow.ensures c.put-next.ensures c.words_of-w.ensures
