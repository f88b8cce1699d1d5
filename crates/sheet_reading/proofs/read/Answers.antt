-- `sheet_reading::read` meets its contract. Assumes nothing.
use Prim.Native.Nat.{ℕ}
use mathlib.Core.Path.{sym, ap, ◌∙◌}
use Rattle.pooling.specs.Lists.{Source, source}
use Rattle.sheets.specs.Lists.{fits_in}
use Rattle.sheet_reading.proofs.Answered.{bad-frame, bad-points, no_room, was_read}
use Rattle.sheet_reading.proofs.read.Goals as goal

pub returns-then-not-frame_holds : goal.returns-then-not-frame_holds
returns-then-not-frame_holds c =
    let lent : Source = source c.args.sets.now c.args.words.now c.args.pos.now c.args.neg.now c.args.bounds.now in
    bad-frame c.args.s.now c.know_bytes.ensures (lent) (sym c.frame_holds.ensures ∙ c.if-not-frame_holds.true)

pub points_in-n-requires : goal.points_in-n-requires
points_in-n-requires c = sym c.frame_holds.ensures ∙ c.if-not-frame_holds.false

pub judge-requires : goal.judge-requires
judge-requires c =
    (sym c.frame_holds.ensures ∙ c.if-not-frame_holds.false, c.points_in-n.ensures)

pub returns-then-not-fits : goal.returns-then-not-fits
returns-then-not-fits c =
    let lent : Source = source c.args.sets.now c.args.words.now c.args.pos.now c.args.neg.now c.args.bounds.now in
    no_room c.args.s.now c.know_bytes.ensures (lent) (sym c.frame_holds.ensures ∙ c.if-not-frame_holds.false) c.in-Some.z
    (sym c.in-Some.ensures)
    (ap (λ (n : ℕ). fits_in n c.in-Some.z.pos c.in-Some.z.neg c.in-Some.z.bounds (lent)) (sym c.points_in-n.ensures) ∙ sym c.fits.ensures ∙ c.if-not-fits.true)

pub header_in-header-requires : goal.header_in-header-requires
header_in-header-requires c =
    sym c.frame_holds.ensures ∙ c.if-not-frame_holds.false

pub copy_points-requires : goal.copy_points-requires
copy_points-requires c =
    record {
      sizes = c.in-Some.z;
      framed = sym c.frame_holds.ensures ∙ c.if-not-frame_holds.false;
      many = c.points_in-n.ensures;
      fine = sym c.in-Some.ensures;
      room = sym c.fits.ensures ∙ c.if-not-fits.false;
    }

pub returns-in_default : goal.returns-in_default
returns-in_default c =
    let lent : Source = source c.args.sets.now c.args.words.now c.args.pos.now c.args.neg.now c.args.bounds.now in
    bad-points c.args.s.now c.know_bytes.ensures (lent) (sym c.frame_holds.ensures ∙ c.if-not-frame_holds.false)
    (sym c.in_default.ensures)

pub returns : goal.returns
returns c =
    let lent : Source = source c.args.sets.now c.args.words.now c.args.pos.now c.args.neg.now c.args.bounds.now in
    was_read c.args.s.now c.know_bytes.ensures (lent) (sym c.frame_holds.ensures ∙ c.if-not-frame_holds.false) c.in-Some.z
    (sym c.in-Some.ensures)
    (ap (λ (n : ℕ). fits_in n c.in-Some.z.pos c.in-Some.z.neg c.in-Some.z.bounds (lent)) (sym c.points_in-n.ensures) ∙ sym c.fits.ensures ∙ c.if-not-fits.false)
    _ _ _ c.header_in-header.ensures c.points_in-n.ensures c.copy_points.ensures
