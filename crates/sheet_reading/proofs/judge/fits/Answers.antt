-- `sheet_reading::judge::fits` meets its contract. Assumes nothing.
use Rattle.sheet_reading.proofs.JudgeLaws.{room-sets, room-words, room-pos, room-neg, room-rest}
use Rattle.sheet_reading.proofs.judge.fits.Goals as goal

pub returns-then-sets-n : goal.returns-then-sets-n
returns-then-sets-n c =
    let a = c.args in
    room-sets a.n a.z.pos a.z.neg a.z.bounds a.sets a.words a.pos a.neg a.bounds c.if-sets-n.true

pub returns-then-words-n : goal.returns-then-words-n
returns-then-words-n c =
    let a = c.args in
    room-words a.n a.z.pos a.z.neg a.z.bounds a.sets a.words a.pos a.neg a.bounds c.if-sets-n.false c.if-words-n.true

pub returns-then-pos-z : goal.returns-then-pos-z
returns-then-pos-z c =
    let a = c.args in
    room-pos a.n a.z.pos a.z.neg a.z.bounds a.sets a.words a.pos a.neg a.bounds c.if-sets-n.false c.if-words-n.false
    c.if-pos-z.true

pub returns-then-neg-z : goal.returns-then-neg-z
returns-then-neg-z c =
    let a = c.args in
    room-neg a.n a.z.pos a.z.neg a.z.bounds a.sets a.words a.pos a.neg a.bounds c.if-sets-n.false c.if-words-n.false
    c.if-pos-z.false c.if-neg-z.true

pub returns : goal.returns
returns c =
    let a = c.args in
    room-rest a.n a.z.pos a.z.neg a.z.bounds a.sets a.words a.pos a.neg a.bounds c.if-sets-n.false c.if-words-n.false
    c.if-pos-z.false c.if-neg-z.false
