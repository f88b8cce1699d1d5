-- `pooling::write::has_place` meets its contract. Assumes nothing.
use native.Mathlib.Omega.{arith}
use Rattle.pooling.proofs.Placed.{no-sets, no_words, no-pos, by-neg}
use Rattle.pooling.proofs.write.has_place.Goals as goal

pub returns-then-sets-at : goal.returns-then-sets-at
returns-then-sets-at c =
    let a = c.args in
    no-sets a.at a.sets a.words a.pos a.neg c.if-sets-at.true

pub returns-then-words-at : goal.returns-then-words-at
returns-then-words-at c =
    let a = c.args in
    no_words a.at a.sets a.words a.pos a.neg (omega (arith, c.if-sets-at.false)) c.if-words-at.true

pub returns-then-pos-at : goal.returns-then-pos-at
returns-then-pos-at c =
    let a = c.args in
    no-pos a.at a.sets a.words a.pos a.neg (omega (arith, c.if-sets-at.false)) (omega (arith, c.if-words-at.false)) c.if-pos-at.true

pub returns : goal.returns
returns c =
    let a = c.args in
    by-neg a.at a.sets a.words a.pos a.neg (omega (arith, c.if-sets-at.false)) (omega (arith, c.if-words-at.false)) c.if-pos-at.false
