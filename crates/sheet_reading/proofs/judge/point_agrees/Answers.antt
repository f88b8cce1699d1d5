-- `sheet_reading::judge::point_agrees` meets its contract. Assumes nothing.
use Prim.Native.Nat.{◌+◌}
use mathlib.Core.Path.{◌∙◌}
use lib.ListN.{replicate}
use lib.Ieee.{binary64, of_bits}
use Rattle.point.specs.Handing.{stored_in, agrees_alone}
use Rattle.records.specs.Inner.{run}
use Rattle.sheet_reading.specs.Inner.{floats_at}
use Rattle.sheet_reading.proofs.JudgeLaws.{front-end, front-is}
use Rattle.sheet_reading.proofs.judge.point_agrees.Goals as goal

pub slice_bounds-agrees_alone-end : goal.slice_bounds-agrees_alone-end
slice_bounds-agrees_alone-end c =
    front-end c.args.z.bounds (replicate 159 (of_bits binary64 0)) c.read_floats.new.out c.requires.0.bounds c.own-2-1.given

pub slice_bounds-agrees_alone-end-2 : goal.slice_bounds-agrees_alone-end-2
slice_bounds-agrees_alone-end-2 c =
    front-end c.args.z.pos (replicate 160 0) c.read_run.new.out c.requires.0.pos c.pos-2-1.given

pub slice_bounds-agrees_alone-end-3 : goal.slice_bounds-agrees_alone-end-3
slice_bounds-agrees_alone-end-3 c =
    front-end c.args.z.neg (replicate 160 0) c.read_run-2.new.out c.requires.0.neg c.neg-2-1.given

pub returns : goal.returns
returns c =
    let own = front-is c.args.z.bounds (replicate 159 (of_bits binary64 0)) c.read_floats.new.out c.requires.0.bounds c.own-2-1.given
    (floats_at c.args.s.now c.args.b) c.read_floats.ensures in
    let pos = front-is c.args.z.pos (replicate 160 0) c.read_run.new.out c.requires.0.pos c.pos-2-1.given
    (run c.args.s.now c.args.c) c.read_run.ensures in
    let neg = front-is c.args.z.neg (replicate 160 0) c.read_run-2.new.out c.requires.0.neg c.neg-2-1.given
    (run c.args.s.now (c.args.c + c.args.z.pos)) c.read_run-2.ensures in
    c.agrees_alone.ensures ∙ (λ i. agrees_alone (stored_in (c.point_of.ensures i) (own i) (pos i) (neg i)))
