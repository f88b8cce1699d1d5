-- `sheet_reading::words::read_floats` meets its contract. Assumes nothing.
use Prim.Native.Nat.{ℕ}
use mathlib.Core.Path.{◌≡◌, sym, ap, ◌∙◌}
use native.Mathlib.Omega.{arith}
use lib.ListN.{length, take}
use lib.Seq.{take-length}
use Rattle.records.specs.Inner.{cell_at}
use Rattle.records.proofs.Laid.{cell_room}
use Rattle.sheet_reading.specs.Inner.{floats_at}
use Rattle.sheet_reading.proofs.FloatLaws.{turn_floats}
use Rattle.sheet_reading.proofs.words.read_floats.Goals as goal

pub cell-requires : goal.cell-requires
cell-requires c =
    (omega arith, cell_room c.args.k (length c.args.out.now) (length c.args.s.now) c.loop-i.i (omega arith) c.requires.1)

pub loop-i-preserved : goal.loop-i-preserved
loop-i-preserved c =
    turn_floats (cell_at c.args.s.now) c.args.k c.loop-i.i c.loop-i.out c.cell.result c.of_bits.result (omega arith)
    c.loop-i.invariant c.cell.ensures c.of_bits.ensures

pub returns : goal.returns
returns c =
    let e : c.loop-i.i ≡ length c.loop-i.out = omega arith in
    let f : c.loop-i.i ≡ length c.args.out.now = omega arith in
    sym (take-length c.loop-i.out) ∙ ap (λ (j : ℕ). take j c.loop-i.out) (sym e) ∙ c.loop-i.invariant ∙ ap (floats_at c.args.s.now c.args.k) f
