-- `listing::put::put` meets its contract. Assumes nothing.
use native.Mathlib.Omega.{arith}
use Rattle.listing.proofs.Calls.{put-made}
use Rattle.listing.proofs.put.put.Goals as goal

pub overflow_add-result : goal.overflow_add-result
overflow_add-result c =
    omega (arith, c.requires.sets)

pub returns : goal.returns
returns c =
    let a = c.args in
    put-made a.at a.row a.p a.b a.cpos.now a.cneg.now
    (record { sets = a.sets.now; words = a.words.now; pos = a.pos.now; neg = a.neg.now }) c.requires
    c.pos_len-n.result c.neg_len-m.result c.pos_len-n.ensures c.neg_len-m.ensures
    c.words_of.result c.copy.new.out c.copy-2.new.out
    c.words_of.ensures c.copy.ensures c.copy-2.ensures
