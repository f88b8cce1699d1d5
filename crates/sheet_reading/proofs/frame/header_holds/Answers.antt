-- `sheet_reading::frame::header_holds` meets its contract. Assumes nothing.
use Prim.Native.Nat.{ℕ, ◌/◌, ◌%◌, ◌≤◌}
use mathlib.Core.Path.{◌≡◌, ap, ◌∙◌}
use native.Mathlib.Omega.{arith}
use lib.Dec.{eqb}
use lib.ListN.{length}
use Rattle.records.proofs.Laid.{place-room}
use Rattle.sheets.specs.Sheet.{info_in}
use Rattle.sheet_reading.proofs.FrameLaws.{header_form, header_delta, header-many, header-rest}
use Rattle.sheet_reading.proofs.frame.header_holds.Goals as goal

pub returns-then-info-ne0 : goal.returns-then-info-ne0
returns-then-info-ne0 c = header_form c.args.s.now (λ e. omega (arith, c.requires.info_value))

pub returns-then-info-gt1 : goal.returns-then-info-gt1
returns-then-info-gt1 c =
    let a : info_in c.args.s.now % 256 ≡ 0 = omega (arith, c.requires.info_value, c.if-info-ne0.false) in
    header_delta c.args.s.now a (omega (arith, c.requires.info_value, c.if-info-gt1.true))

pub returns-then-info-gt64 : goal.returns-then-info-gt64
returns-then-info-gt64 c =
    let a : info_in c.args.s.now % 256 ≡ 0 = omega (arith, c.requires.info_value, c.if-info-ne0.false) in
    let b : info_in c.args.s.now / 256 % 256 ≤ 1 = omega (arith, c.requires.info_value, c.if-info-gt1.false) in
    header-many c.args.s.now a b (omega (arith, c.requires.info_value, c.if-info-gt64.true))

pub cell-requires : goal.cell-requires
cell-requires c =
    (omega arith, place-room 2 1 (length c.args.s.now) (omega arith) c.requires.in_bounds)

pub returns : goal.returns
returns c =
    let a : info_in c.args.s.now % 256 ≡ 0 = omega (arith, c.requires.info_value, c.if-info-ne0.false) in
    let b : info_in c.args.s.now / 256 % 256 ≤ 1 = omega (arith, c.requires.info_value, c.if-info-gt1.false) in
    let d : info_in c.args.s.now / 65536 ≤ 64 = omega (arith, c.requires.info_value, c.if-info-gt64.false) in
    ap (λ (x : ℕ). eqb x 0) c.cell.ensures ∙ header-rest c.args.s.now a b d
