-- `directory::alike::pays` meets its contract. Assumes nothing.
use Rattle.std.proofs.Common.{◌+◌, sym, arith, ltb-true}
use Rattle.laws.proofs.Cases.{true-not-false}
use Rattle.directory.proofs.alike.pays.Goals as goal

pub returns-then-size-lt2 : goal.returns-then-size-lt2
returns-then-size-lt2 c = λ e. true-not-false (sym e)

pub returns-then-size-lt4 : goal.returns-then-size-lt4
returns-then-size-lt4 c = λ e. true-not-false (sym e)

pub returns : goal.returns
returns c =
    λ e. let u = ltb-true (c.args.from + 1) c.args.size e in (omega (arith, u), omega (arith, u))
