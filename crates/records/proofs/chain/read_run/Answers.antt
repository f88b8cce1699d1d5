-- `records::chain::read_run` meets its contract. Assumes nothing.
use mathlib.Core.Path.{◌≡◌, sym, ap, ◌∙◌}
use Prim.Native.Nat.{ℕ}
use native.Mathlib.Omega.{arith}
use lib.ListN.{length, take}
use lib.Seq.{take-length}
use Rattle.records.specs.Inner.{run, cell_at}
use Rattle.records.proofs.Laid.{cell_room, turn-read}
use Rattle.records.proofs.chain.read_run.Goals as goal

pub cell-requires : goal.cell-requires
cell-requires c =
    (omega arith, cell_room c.args.k (length c.args.out.now) (length c.args.s.now) c.loop-i.i (omega arith) c.requires.1)

pub loop-i-preserved : goal.loop-i-preserved
loop-i-preserved c =
    turn-read (cell_at c.args.s.now) c.args.k c.loop-i.i c.loop-i.out c.cell.result (omega arith) c.loop-i.invariant c.cell.ensures

pub returns : goal.returns
returns c =
    let e : c.loop-i.i ≡ length c.loop-i.out = omega arith in
    let f : c.loop-i.i ≡ length c.args.out.now = omega arith in
    sym (take-length c.loop-i.out) ∙ ap (λ (j : ℕ). take j c.loop-i.out) (sym e) ∙ c.loop-i.invariant ∙ ap (run c.args.s.now c.args.k) f
