-- `sheet_writing::put::info_of` meets its contract. Assumes nothing.
use mathlib.Core.Path.{◌≡◌, ap}
use native.Mathlib.Omega.{arith}
use Rattle.laws.specs.Counting.{bit}
use Rattle.sheet_writing.proofs.put.info_of.Goals as goal

pub returns-then-h : goal.returns-then-h
returns-then-h c = let f : bit c.args.h.delta ≡ 1 = ap bit c.if-h.true in (omega arith, omega arith)

pub returns : goal.returns
returns c = let f : bit c.args.h.delta ≡ 0 = ap bit c.if-h.false in (omega arith, omega arith)
