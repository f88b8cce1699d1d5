-- `sheet_reading::judge::rest_holds` meets its contract. Assumes nothing.
use Prim.Native.Nat.{◌+◌, ◌-◌}
use mathlib.Core.Path.{sym, ◌∙◌}
use native.Mathlib.Omega.{arith}
use Rattle.sheet_reading.specs.Inner.{words_in}
use Rattle.sheet_reading.proofs.JudgeLaws.{there-some, rest-bounds, rest-counts, rest-point}
use Rattle.sheet_reading.proofs.SizeLaws.{width-least}
use Rattle.sheet_reading.proofs.judge.rest_holds.Goals as goal

pub overflow_sub-width_of : goal.overflow_sub-width_of
overflow_sub-width_of c =
    omega (arith, c.width_of-2.ensures, width-least c.args.z.bounds)

pub are_zeros-requires : goal.are_zeros-requires
are_zeros-requires c =
    there-some c.args.s.now c.args.k (words_in c.args.z) (c.args.k + 21 + c.args.z.bounds) (c.width_of-2.result - c.args.z.bounds)
    (omega (arith, c.width_of-2.ensures, width-least c.args.z.bounds))
    c.requires.1

pub returns-then-not-are_zeros : goal.returns-then-not-are_zeros
returns-then-not-are_zeros c =
    rest-bounds c.args.s.now c.args.w c.args.z c.args.k c.requires.2 c.width_of-2.result c.width_of-2.ensures
    (sym c.are_zeros.ensures ∙ c.if-not-are_zeros.true)

pub overflow_sub-width_of-2 : goal.overflow_sub-width_of-2
overflow_sub-width_of-2 c =
    omega (arith, c.width_of-3.ensures, width-least (c.args.z.pos + c.args.z.neg))

pub are_zeros-requires-2 : goal.are_zeros-requires-2
are_zeros-requires-2 c =
    let m = c.args.z.pos + c.args.z.neg in
    there-some c.args.s.now c.args.k (words_in c.args.z) (c.args.k + 21 + c.width_of.result + m) (c.width_of-3.result - m)
    (omega (arith, c.width_of.ensures, c.width_of-3.ensures, width-least m))
    c.requires.1

pub returns-then-not-are_zeros-2 : goal.returns-then-not-are_zeros-2
returns-then-not-are_zeros-2 c =
    rest-counts c.args.s.now c.args.w c.args.z c.args.k c.requires.2 c.width_of-2.result c.width_of-2.ensures
    c.width_of.result c.width_of-3.result c.width_of.ensures c.width_of-3.ensures
    (sym c.are_zeros.ensures ∙ c.if-not-are_zeros.false) (sym c.are_zeros-2.ensures ∙ c.if-not-are_zeros-2.true)

pub point_agrees-requires : goal.point_agrees-requires
point_agrees-requires c =
    let m = c.args.z.pos + c.args.z.neg in (
      c.requires.0,
      there-some c.args.s.now c.args.k (words_in c.args.z) (c.args.k + 21) c.args.z.bounds (omega (arith, width-least c.args.z.bounds)) c.requires.1,
      there-some c.args.s.now c.args.k (words_in c.args.z) (c.args.k + 21 + c.width_of.result) m
          (omega (arith, c.width_of.ensures, width-least m)) c.requires.1,
    )

pub returns : goal.returns
returns c =
    c.point_agrees.ensures
    ∙ rest-point c.args.s.now c.args.w c.args.z c.args.k c.requires.2 c.width_of-2.result c.width_of-2.ensures
    c.width_of.result c.width_of-3.result c.width_of.ensures c.width_of-3.ensures
    (sym c.are_zeros.ensures ∙ c.if-not-are_zeros.false) (sym c.are_zeros-2.ensures ∙ c.if-not-are_zeros-2.false)
