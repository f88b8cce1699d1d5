-- `exponential_slots::are_narrow` meets its contract. Assumes nothing.
use borrow.Author.Rules.{rules}
use mathlib.Core.Path.{sym}
use native.Mathlib.Omega.{arith}
use mir.Val.{Fits}
use mir.Syntax.{w64}
use lib.ListN.{get_or}
use Rattle.exponential_slots.proofs.Cases.{wide-level, wide-pos, by-neg}
use Rattle.exponential_slots.proofs.are_narrow.Goals as goal

pub returns-then-f-gt-MOST : goal.returns-then-f-gt-MOST
returns-then-f-gt-MOST c =
    let fit : Fits w64 (get_or c.args.f 0 0) = search rules in
    sym (wide-level c.args.f (omega (arith, fit)) c.if-f-gt-MOST.true)

pub returns-then-f-gt-MOST-2 : goal.returns-then-f-gt-MOST-2
returns-then-f-gt-MOST-2 c =
    let fit : Fits w64 (get_or c.args.f 0 0) = search rules in
    sym (wide-pos c.args.f (omega (arith, fit)) c.if-f-gt-MOST.false c.if-f-gt-MOST-2.true)

pub returns : goal.returns
returns c =
    let fit : Fits w64 (get_or c.args.f 0 0) = search rules in
    sym (by-neg c.args.f (omega (arith, fit)) c.if-f-gt-MOST.false c.if-f-gt-MOST-2.false)
