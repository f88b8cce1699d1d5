-- `sweep::moves::move_sets` meets its contract. Assumes nothing.
use native.Mathlib.Omega.{arith}
use mathlib.Core.Path.{◌≡◌, refl, ap, sym, ◌∙◌}
use Prim.Native.Nat.{ℕ, suc, ◌+◌}
use mathlib.Core.List.{[]}
use lib.ListN.{length, get_or}
use lib.Seq.{set-get_or}
use Rattle.sweep.specs.Passes.{mark_in, settled}
use Rattle.sweep.proofs.Marks.{moved_length}
use Rattle.sweep.proofs.Turns.{settles}
use Rattle.sweep.proofs.moves.move_sets.Goals as goal

pub loop-x-init : goal.loop-x-init
loop-x-init c = (omega arith, refl, sym (set-get_or c.args.sets.now 0 []))

pub move_set-requires : goal.move_set-requires
move_set-requires c =
    (omega (arith, c.loop-x-test.true, c.loop-x.invariant.1, c.requires.0), omega (arith, c.high-m.ensures.0, c.requires.2 (suc c.loop-x.x) (omega arith) (omega (arith, c.loop-x-test.true))))

pub loop-x-preserved : goal.loop-x-preserved
loop-x-preserved c =
    let n = settles (λ row. row) (mark_in c.args.order.now) c.args.sets.now c.loop-x.sets c.loop-x.x c.loop-x.invariant.2 (λ y a b. c.requires.2 y a (omega (arith, c.loop-x-test.true))) c.high-m.result c.high-m.ensures.0 in
    (omega (arith, c.loop-x-test.true), ap length c.move_set.ensures ∙ moved_length c.high-m.result ((get_or c.loop-x.sets (c.loop-x.x + 1) [])) c.loop-x.sets ∙ c.loop-x.invariant.1, c.move_set.ensures ∙ n)

pub shape_of-sets : goal.shape_of-sets
shape_of-sets c = c.loop-x.invariant.1

pub returns : goal.returns
returns c =
    let e : c.loop-x.x ≡ c.args.used = omega (arith, c.loop-x-test.false) in
    c.loop-x.invariant.2 ∙ ap (λ (n : ℕ). settled (λ row. row) (mark_in c.args.order.now) n c.args.sets.now) e
