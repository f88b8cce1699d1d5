use Rattle.explicit.proofs.Turns.{count_none, count-some}
use Rattle.explicit.proofs.bucket_count.Goals as goal

pub returns-then-n-eq0 : goal.returns-then-n-eq0
returns-then-n-eq0 c = count_none c.args.bounds.now c.if-n-eq0.true

pub returns : goal.returns
returns c = count-some c.args.bounds.now c.if-n-eq0.false
