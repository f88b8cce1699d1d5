-- `collecting::slot_at` meets its contract. Assumes nothing.
use Rattle.collecting.proofs.Nexts.{slot-behind}
use Rattle.collecting.proofs.slot_at.Goals as goal

pub returns : goal.returns
returns c = slot-behind c.args.order.now c.args.i c.if-i-eq0.false
