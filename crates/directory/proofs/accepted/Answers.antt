-- `directory::accepted` meets its contract. Assumes nothing.
use Rattle.directory.proofs.Refusals.{over-limit, no-filter, many-keys, few-keys}
use Rattle.directory.proofs.accepted.Goals as goal

pub returns-then-limit-gt-MOST_SETS : goal.returns-then-limit-gt-MOST_SETS
returns-then-limit-gt-MOST_SETS c = over-limit c.args.limit c.args.present c.args.filter.now c.if-limit-gt-MOST_SETS.true

pub returns-then-not-present : goal.returns-then-not-present
returns-then-not-present c =
    no-filter c.args.limit c.args.present c.args.filter.now c.if-limit-gt-MOST_SETS.false c.if-not-present.true

pub returns-then-filter-gt-MOST_KEYS : goal.returns-then-filter-gt-MOST_KEYS
returns-then-filter-gt-MOST_KEYS c =
    many-keys c.args.limit c.args.present c.args.filter.now c.if-limit-gt-MOST_SETS.false c.if-not-present.false c.if-filter-gt-MOST_KEYS.true

pub returns : goal.returns
returns c =
    few-keys c.args.limit c.args.present c.args.filter.now c.if-limit-gt-MOST_SETS.false c.if-not-present.false c.if-filter-gt-MOST_KEYS.false
