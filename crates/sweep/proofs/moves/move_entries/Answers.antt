-- `sweep::moves::move_entries` meets its contract. Assumes nothing.
use native.Mathlib.Omega.{arith}
use mathlib.Core.Path.{◌≡◌, refl, ap, sym, ◌∙◌}
use Prim.Native.Nat.{ℕ, suc, ◌+◌}
use mathlib.Core.List.{[]}
use lib.ListN.{length, get_or, set, length-set}
use Rattle.sweep.specs.Swept.{clear}
use Rattle.sweep.specs.Passes.{mark_in, settled}
use Rattle.sweep.proofs.Marks.{moved_length, settled_root}
use Rattle.sweep.proofs.Turns.{settles}
use Rattle.sweep.proofs.moves.move_entries.Goals as goal

pub loop-x-init : goal.loop-x-init
loop-x-init c =
    (omega arith, refl, sym (settled_root clear (mark_in c.args.order.now) c.args.entries.now (omega (arith, c.requires.0)) (λ r. refl) 0))

pub move_entry-requires : goal.move_entry-requires
move_entry-requires c =
    (omega (arith, c.loop-x-test.true, c.loop-x.invariant.1, c.requires.0, length-set c.args.entries.now 0 (clear (get_or c.args.entries.now 0 []))), omega (arith, c.high-m.ensures.0, c.requires.2 (suc c.loop-x.x) (omega arith) (omega (arith, c.loop-x-test.true))))

pub loop-x-preserved : goal.loop-x-preserved
loop-x-preserved c =
    let n = settles clear (mark_in c.args.order.now) (set c.args.entries.now 0 (clear (get_or c.args.entries.now 0 []))) c.loop-x.entries c.loop-x.x c.loop-x.invariant.2 (λ y a b. c.requires.2 y a (omega (arith, c.loop-x-test.true))) c.high-m.result c.high-m.ensures.0 in
    (omega (arith, c.loop-x-test.true), ap length c.move_entry.ensures ∙ moved_length c.high-m.result (clear (get_or c.loop-x.entries (c.loop-x.x + 1) [])) c.loop-x.entries ∙ c.loop-x.invariant.1, c.move_entry.ensures ∙ n)

pub shape_of-entries : goal.shape_of-entries
shape_of-entries c =
    c.loop-x.invariant.1 ∙ length-set c.args.entries.now 0 (clear (get_or c.args.entries.now 0 []))

pub returns : goal.returns
returns c =
    let e : c.loop-x.x ≡ c.args.used = omega (arith, c.loop-x-test.false) in
    c.loop-x.invariant.2 ∙ ap (λ (n : ℕ). settled clear (mark_in c.args.order.now) n (set c.args.entries.now 0 (clear (get_or c.args.entries.now 0 [])))) e ∙ settled_root clear (mark_in c.args.order.now) c.args.entries.now (omega (arith, c.requires.0)) (λ r. refl) c.args.used
