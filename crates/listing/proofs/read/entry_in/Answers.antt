-- `listing::read::entry_in` meets its contract. Assumes nothing.
use mathlib.Core.Path.{sym, ◌∙◌}
use native.Mathlib.Omega.{arith}
use Rattle.listing.proofs.Calls.{within-says, entry-no, entry-out, entry-is}
use Rattle.listing.proofs.read.entry_in.Goals as goal

pub returns-then-not-is_point : goal.returns-then-not-is_point
returns-then-not-is_point c =
    entry-no c.args.at c.args.w c.args.pos c.args.neg (sym c.is_point.ensures ∙ c.if-not-is_point.true)

pub returns-then-not-counts_lie : goal.returns-then-not-counts_lie
returns-then-not-counts_lie c =
    entry-out c.args.at c.args.w c.args.pos c.args.neg c.point_of-p.result c.bounds_of-b.result c.point_of-p.ensures c.bounds_of-b.ensures (sym c.is_point.ensures ∙ c.if-not-is_point.false)
    (sym c.counts_lie.ensures ∙ c.if-not-counts_lie.true)

pub cursor_behind-next-requires : goal.cursor_behind-next-requires
cursor_behind-next-requires c =
    let w = within-says c.args.at c.point_of-p.result.figures c.bounds_of-b.result c.args.pos c.args.neg (sym c.counts_lie.ensures ∙ c.if-not-counts_lie.false) in
    (c.requires, omega (arith, w.0), omega (arith, w.1))

pub returns : goal.returns
returns c =
    entry-is c.args.at c.args.w c.args.pos c.args.neg c.point_of-p.result c.bounds_of-b.result c.point_of-p.ensures c.bounds_of-b.ensures (sym c.is_point.ensures ∙ c.if-not-is_point.false)
    (sym c.counts_lie.ensures ∙ c.if-not-counts_lie.false) c.cursor_behind-next.result c.cursor_behind-next.ensures
