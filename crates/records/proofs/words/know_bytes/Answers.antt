-- `records::words::know_bytes` meets its contract. Assumes nothing.
use mathlib.Core.Path.{subst}
use Prim.Native.Nat.{ℕ, ◌<◌}
use native.Mathlib.Omega.{arith}
use Rattle.records.proofs.Bytes.{known_more, known-all}
use Rattle.records.proofs.words.know_bytes.Goals as goal

pub loop-x-init : goal.loop-x-init
loop-x-init c = λ j h. absurd (omega arith)

pub loop-x-preserved : goal.loop-x-preserved
loop-x-preserved c =
    known_more c.args.s.now c.loop-x.x-index c.loop-x.invariant (subst (λ (k : ℕ). k < 256) c.wide.ensures.0 c.wide.ensures.1)

pub returns : goal.returns
returns c =
    known-all c.args.s.now c.loop-x.x-index (omega arith) c.loop-x.invariant
