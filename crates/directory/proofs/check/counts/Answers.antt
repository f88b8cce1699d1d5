-- `directory::check::counts` meets its contract. Assumes nothing.
use Rattle.std.proofs.Common.{sym}
use Rattle.directory.proofs.Agreed.{count-over, count-plain, count_none, count-more, count_wrong}
use Rattle.directory.proofs.check.counts.Goals as goal

pub returns-then-count-limit : goal.returns-then-count-limit
returns-then-count-limit c = sym (count-over c.args.limit c.args.count c.args.used c.args.plain c.if-count-limit.true)

pub returns-then-count-n : goal.returns-then-count-n
returns-then-count-n c = sym (count-plain c.args.limit c.args.count c.args.used c.args.plain c.if-count-limit.false c.if-count-n.true)

pub returns-then-plain-used : goal.returns-then-plain-used
returns-then-plain-used c = sym (count_none c.args.limit c.args.count c.args.used c.args.plain c.if-count-limit.false c.if-count-n.false c.if-plain-used.true)

pub returns-then-count-n-2 : goal.returns-then-count-n-2
returns-then-count-n-2 c = sym (count-more c.args.limit c.args.count c.args.used c.args.plain c.if-count-limit.false c.if-count-n.false c.if-plain-used.false c.if-count-n-2.true)

pub returns : goal.returns
returns c = sym (count_wrong c.args.limit c.args.count c.args.used c.args.plain c.if-count-limit.false c.if-count-n.false c.if-count-n-2.false)
