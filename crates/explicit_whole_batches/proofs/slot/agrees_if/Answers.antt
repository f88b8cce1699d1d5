-- `slot::agrees_if` meets its contract. Assumes nothing.
use mathlib.Core.Path.{sym, ◌∙◌}
use Rattle.explicit_whole_batches.proofs.Entered.{if-held, if_none}
use Rattle.explicit_whole_batches.proofs.slot.agrees_if.Goals as goal

pub returns-then-known : goal.returns-then-known
returns-then-known c = sym (c.requires c.if-known.true)

pub returns-then-updated : goal.returns-then-updated
returns-then-updated c =
    let a = c.args in
    c.buckets_agree.ensures ∙ if-held a.bounds.now a.count a.counts.now a.updated c.if-updated.true

pub returns : goal.returns
returns c =
    let a = c.args in
    if_none a.bounds.now a.count a.counts.now a.updated c.if-updated.false
