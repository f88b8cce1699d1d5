-- `mean::sum_of` meets its contract. Assumes nothing.
use mathlib.Core.Path.{sym, ◌∙◌}
use lib.Dec.{T}
use lib.Ieee.{binary64, fits}
use Rattle.index.specs.Frexp.{Split}
use Rattle.mean.proofs.Sums.{not_finite, is_zero, split-is}
use borrow.Author.Rules.{rules}
use Rattle.mean.proofs.sum_of.Goals as goal

pub sum_of_parts-requires : goal.sum_of_parts-requires
sum_of_parts-requires c =
    let parts : Split c.args.x c.in-Number.negative c.in-Number.mantissa c.in-Number.exponent = c.in-Number.ensures in
    let p = parts in (p.least, p.most)

pub returns-in-NotFinite : goal.returns-in-NotFinite
returns-in-NotFinite c =
    sym (not_finite c.args.x c.in-NotFinite.ensures)

pub returns-in-Zero : goal.returns-in-Zero
returns-in-Zero c =
    let held : T (fits binary64 c.args.x) = search rules in
    let z = c.in-Zero.ensures in
    sym (is_zero c.args.x (held) z.0 z.1)

pub returns-in-Number : goal.returns-in-Number
returns-in-Number c =
    let held : T (fits binary64 c.args.x) = search rules in
    let parts : Split c.args.x c.in-Number.negative c.in-Number.mantissa c.in-Number.exponent = c.in-Number.ensures in
    c.sum_of_parts.ensures ∙ sym (split-is c.args.x (held) c.in-Number.negative c.in-Number.mantissa c.in-Number.exponent (parts))
