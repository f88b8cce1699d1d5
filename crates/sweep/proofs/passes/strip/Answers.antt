-- `sweep::passes::strip` meets its contract. Assumes nothing.
use native.Mathlib.Omega.{arith}
use mathlib.Core.Path.{◌≡◌, refl, ap, ◌∙◌}
use mathlib.Core.List.{List, ◌++◌}
use Prim.Native.Nat.{ℕ, ◌%◌}
use lib.ListN.{get_or, take, drop}
use lib.Seq.{length-take-le}
use Rattle.sweep.specs.Passes.{lows}
use Rattle.sweep.proofs.Packs.{edits, edited-front}
use Rattle.sweep.proofs.passes.strip.Goals as goal

pub loop-w-init : goal.loop-w-init
loop-w-init c = refl

pub loop-w-preserved : goal.loop-w-preserved
loop-w-preserved c =
    edits (λ i w. w % 65536) (take c.args.used c.args.order.now) c.loop-w.w-items c.loop-w.w-index (get_or c.loop-w.w-items c.loop-w.w-index 0 % 65536) c.loop-w.invariant refl

pub returns : goal.returns
returns c =
    let e : c.loop-w.w-index ≡ c.args.used = omega (arith, length-take-le c.args.used c.args.order.now c.requires, c.loop-w-test.false, c.loop-w.auto.w-index-end) in
    ap (λ (t : List ℕ). t ++ drop c.args.used c.args.order.now) (c.loop-w.invariant ∙ ap (λ (n : ℕ). lows n (take c.args.used c.args.order.now)) e)
    ∙ edited-front (λ i w. w % 65536) c.args.order.now c.args.used c.args.used c.requires (omega arith)
