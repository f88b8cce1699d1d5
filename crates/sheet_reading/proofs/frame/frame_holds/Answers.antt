-- `sheet_reading::frame::frame_holds` meets its contract. Assumes nothing.
use Prim.Native.Nat.{ℕ}
use mathlib.Core.Path.{◌≡◌, sym, ap, ◌∙◌}
use mathlib.Core.Bool.{true}
use native.Mathlib.Omega.{arith}
use Rattle.sets.specs.All.{allb}
use Rattle.records.specs.Inner.{link_holds}
use Rattle.sheets.specs.Inner.{records_in, good_shape}
use Rattle.sheet_reading.proofs.FrameLaws.{shape-long, frame-shape, frame-header, frame-rest, info-room}
use Rattle.sheet_reading.proofs.frame.frame_holds.Goals as goal

pub returns-then-not-shape_holds : goal.returns-then-not-shape_holds
returns-then-not-shape_holds c =
    frame-shape c.args.s.now (sym c.shape_holds.ensures ∙ c.if-not-shape_holds.true)

pub info_in-info-requires : goal.info_in-info-requires
info_in-info-requires c =
    omega (arith, shape-long c.args.s.now (sym c.shape_holds.ensures ∙ c.if-not-shape_holds.false))

pub header_holds-requires : goal.header_holds-requires
header_holds-requires c = record { in_bounds = shape-long c.args.s.now (sym c.shape_holds.ensures ∙ c.if-not-shape_holds.false); info_value = c.info_in-info.ensures.0 }

pub returns-then-not-header_holds : goal.returns-then-not-header_holds
returns-then-not-header_holds c =
    let g : good_shape c.args.s.now ≡ true = sym c.shape_holds.ensures ∙ c.if-not-shape_holds.false in
    frame-header c.args.s.now g (sym c.header_holds.ensures ∙ c.if-not-header_holds.true)

pub links_hold-requires : goal.links_hold-requires
links_hold-requires c =
    let g : good_shape c.args.s.now ≡ true = sym c.shape_holds.ensures ∙ c.if-not-shape_holds.false in
    info-room c.args.s.now c.info_in-info.result g c.info_in-info.ensures.1

pub returns : goal.returns
returns c =
    let g : good_shape c.args.s.now ≡ true = sym c.shape_holds.ensures ∙ c.if-not-shape_holds.false in
    c.links_hold.ensures
    ∙ ap (λ (x : ℕ). allb (records_in c.args.s.now) (link_holds x (records_in c.args.s.now) c.args.s.now)) c.info_in-info.ensures.0
    ∙ frame-rest c.args.s.now g (sym c.header_holds.ensures ∙ c.if-not-header_holds.false)
