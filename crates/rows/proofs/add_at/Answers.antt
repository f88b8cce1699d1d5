use native.Mathlib.Omega.{arith}
use lib.Seq.{get_or-take}
use Rattle.rows.proofs.Puts.{put_in, put-out}
use Rattle.rows.proofs.add_at.Goals as goal

pub overflow_add-counts : goal.overflow_add-counts
overflow_add-counts c =
    let a = c.args in
    omega (arith, get_or-take a.n a.counts.now a.k 0 c.if-k-n.true)

pub returns-then-k-n : goal.returns-then-k-n
returns-then-k-n c =
    let a = c.args in let all = put_in a.counts.now a.n a.k a.v c.requires.n_in_bounds.0 c.requires.n_in_bounds.1 c.if-k-n.true in record { value = all.0; counts_after = all.1 }

pub returns : goal.returns
returns c =
    let a = c.args in record { value = ((put-out a.counts.now a.n a.k a.v c.requires.n_in_bounds.0 c.requires.n_in_bounds.1 c.if-k-n.false)).0; counts_after = rw c.zero.ensures ((put-out a.counts.now a.n a.k a.v c.requires.n_in_bounds.0 c.requires.n_in_bounds.1 c.if-k-n.false)).1 }
