-- `slot::begin` meets its contract. Assumes nothing.
use mathlib.Core.Path.{ap, ◌∙◌}
use Rattle.refusals.specs.Refusals.{said}
use Rattle.explicit_wholes.specs.Series.{Outcome, fresh_head}
use Rattle.explicit_batches.proofs.Entered.{unwrapped}
use Rattle.explicit_whole_batches.proofs.Entered.{begun-held, begun-empty, fresh-is}
use Rattle.explicit_whole_batches.proofs.slot.begin.Goals as goal

pub returns-then-updated : goal.returns-then-updated
returns-then-updated c = let a = c.args in begun-held a.bounds.now a.head a.counts.now a.updated c.if-updated.true

pub returns : goal.returns
returns c =
    let a = c.args in
    let e = fresh-is a.bounds.now a.head a.counts.now c.requires (said c.fresh.result) c.fresh.new.counts c.fresh.ensures in
    (λ j. record {
      head = (c.unwrap_or.ensures ∙ unwrapped c.fresh.result a.head fresh_head (ap (λ (o : Outcome). o.answer) e)) j;
      counts = ap (λ (o : Outcome). o.counts) e j;
    })
    ∙ begun-empty a.bounds.now a.head a.counts.now a.updated c.if-updated.false
