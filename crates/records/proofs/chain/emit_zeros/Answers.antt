-- `records::chain::emit_zeros` meets its contract. Assumes nothing.
use mathlib.Core.Path.{◌≡◌, refl, ap, ◌∙◌}
use Prim.Native.Nat.{ℕ, ◌+◌}
use native.Mathlib.Omega.{arith}
use lib.ListN.{replicate}
use Rattle.records.specs.Inner.{laid}
use Rattle.records.proofs.Laid.{place-room, turn-zeros}
use Rattle.records.proofs.chain.emit_zeros.Goals as goal

pub loop-i-init : goal.loop-i-init
unfolding laid
loop-i-init c = refl

pub emit-requires : goal.emit-requires
emit-requires c =
    (c.requires.room.small, omega arith, place-room (c.args.k + c.loop-i.i) c.args.n _ (omega arith) (omega (arith, c.requires.room.long)))

pub loop-i-preserved : goal.loop-i-preserved
loop-i-preserved c =
    turn-zeros c.args.info c.args.n c.args.k c.args.s.now c.loop-i.s _ c.loop-i.i c.loop-i.invariant c.emit.ensures

pub returns : goal.returns
returns c =
    let e : c.loop-i.i ≡ c.args.m = omega arith in
    c.loop-i.invariant ∙ ap (λ (j : ℕ). laid c.args.info c.args.n c.args.k (replicate j 0) c.args.s.now) e
