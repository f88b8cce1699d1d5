-- `lines::output::byte` meets its contract. Assumes nothing.
use Prim.Native.Nat.{ℕ, ◌+◌}
use mathlib.Core.Path.{ap}
use lib.ListN.{set}
use Rattle.lines.specs.Gathered.{Text, ◌behind◌}
use Rattle.lines.proofs.output.byte.Goals as goal

pub returns : goal.returns
unfolding ◌behind◌
returns c =
    let a = c.args in
    ap {B = Text} (λ (k : ℕ). record { count = k + 1; block = set a.text.now k a.b }) c.room-at.ensures.1
