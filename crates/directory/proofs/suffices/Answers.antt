-- `directory::suffices` meets its contract. Assumes nothing.
use Rattle.directory.proofs.Refusals.{under-two, too_few, as_many}
use Rattle.directory.proofs.suffices.Goals as goal

pub returns-then-n-lt2 : goal.returns-then-n-lt2
returns-then-n-lt2 c = under-two c.args.limit c.args.n c.if-n-lt2.true

pub returns-then-limit-n : goal.returns-then-limit-n
returns-then-limit-n c = too_few c.args.limit c.args.n c.if-n-lt2.false c.if-limit-n.true

pub returns : goal.returns
returns c = as_many c.args.limit c.args.n c.if-n-lt2.false c.if-limit-n.false
