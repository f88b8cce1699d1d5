-- `pooling::entries::shadow_entry` meets its contract. Assumes nothing.
use Rattle.pooling.proofs.entries.shadow_entry.Goals as goal

pub returns : goal.returns
returns c =
    λ i. record { point = c.shadow_of-shadow.ensures i; bounds = c.args.e.bounds; next = c.args.e.next }
