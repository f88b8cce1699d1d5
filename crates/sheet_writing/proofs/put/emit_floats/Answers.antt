-- `sheet_writing::put::emit_floats` meets its contract. Assumes nothing.
use mathlib.Core.Path.{◌≡◌, refl, ap, ◌∙◌}
use mathlib.Core.List.{map}
use Prim.Native.Nat.{ℕ, ◌+◌}
use native.Mathlib.Omega.{arith}
use lib.ListN.{length, take, length-map}
use lib.Seq.{take-length}
use Rattle.floats.specs.Answers.{bits_of}
use Rattle.records.specs.Inner.{laid, emitted}
use Rattle.records.proofs.Laid.{place-room}
use Rattle.sheet_writing.proofs.Putting.{turn_floats}
use Rattle.sheet_writing.proofs.put.emit_floats.Goals as goal

pub loop-i-init : goal.loop-i-init
unfolding laid
loop-i-init c = refl

pub emit-requires : goal.emit-requires
emit-requires c =
    (c.requires.room.small, omega arith, place-room (c.args.k + c.loop-i.i) c.args.n _ (omega arith) (omega (arith, c.requires.room.long)))

pub loop-i-preserved : goal.loop-i-preserved
loop-i-preserved c =
    turn_floats c.args.info c.args.n c.args.k c.args.xs.now _ c.args.s.now c.loop-i.s _ c.loop-i.i (omega arith) c.loop-i.invariant
    (c.emit.ensures ∙ ap (λ (x : ℕ). emitted c.args.info c.args.n (c.args.k + c.loop-i.i) x c.loop-i.s) c.bits_of.ensures)

pub returns : goal.returns
returns c =
    let bits = map bits_of c.args.xs.now in
    let e : c.loop-i.i ≡ length bits = omega (arith, length-map c.args.xs.now bits_of) in
    c.loop-i.invariant ∙ ap (λ u. laid c.args.info c.args.n c.args.k u c.args.s.now) (ap (λ (j : ℕ). take j bits) e ∙ take-length bits)
