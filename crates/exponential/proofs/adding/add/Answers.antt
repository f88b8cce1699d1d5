-- ---- zero
-- ---- a value above or below it
use Rattle.std.proofs.Common.{◌+◌, sym, subst, arith}
use Rattle.exponential.specs.declared.Class.{Class}
use Rattle.exponential.specs.declared.Class.TheVariants.{At}
use Rattle.exponential.specs.declared.Counts.{Counts}
use Rattle.exponential.specs.Steps.{placed}
use Rattle.exponential.specs.Series.{read}
use Rattle.exponential.specs.Inner.{Ready, Written, value_of, signed}
use Rattle.exponential.proofs.Facts.{Agreed, agreed, level_in}
use Rattle.exponential.proofs.Write.{written-zero}
use Rattle.exponential.proofs.Warm.{beside-of, tried_in, still-ready, still-written}
use Rattle.exponential.proofs.adding.add.Goals as goal

pub overflow_add-result-in-Naught : goal.overflow_add-result-in-Naught
overflow_add-result-in-Naught c =
    let facts : Agreed c.args.size c.args.top c.args.c c.args.pos.now c.args.neg.now = agreed c.args.size c.args.top c.args.c c.args.pos.now c.args.neg.now c.requires.agree in
    omega (arith, (facts).point.adds, c.requires.count)

pub raise-requires : goal.raise-requires
raise-requires c =
    let a = c.args in
    beside-of a.size a.top a.c a.pos.now a.neg.now a.class c.requires

pub returns-then-raise : goal.returns-then-raise
returns-then-raise c =
    let ready : Ready c.args.size c.args.top c.args.c c.args.pos.now c.args.neg.now (At c.in-At.negative c.in-At.bin) =
    let a = c.args in
    subst (Ready a.size a.top a.c a.pos.now a.neg.now) c.in-At.is c.requires in
    let a = c.args in
    let xs = a.pos.now in
    let ys = a.neg.now in
    subst (λ (k : Class). Written (placed a.size (read a.c xs ys) (value_of k)) xs ys c.one_more.result c.raise.new.pos c.raise.new.neg) (sym c.in-At.is)
    (subst (λ (q : Counts). Written (placed a.size (read a.c xs ys) (signed c.in-At.negative c.in-At.bin)) xs ys q c.raise.new.pos c.raise.new.neg) (sym c.one_more.ensures)
    (tried_in a.size a.top a.c xs ys c.in-At.bin c.raise.result c.raise.new.pos c.raise.new.neg c.in-At.negative (ready) c.raise.ensures c.if-raise.true))

pub place_at-requires : goal.place_at-requires
place_at-requires c =
    let ready : Ready c.args.size c.args.top c.args.c c.args.pos.now c.args.neg.now (At c.in-At.negative c.in-At.bin) =
    let a = c.args in
    subst (Ready a.size a.top a.c a.pos.now a.neg.now) c.in-At.is c.requires in
    let a = c.args in
    still-ready a.size a.top a.c a.pos.now a.neg.now c.in-At.bin c.raise.result c.raise.new.pos c.raise.new.neg
    c.in-At.negative c.raise.ensures c.if-raise.false (ready)

pub returns-in-Naught : goal.returns-in-Naught
returns-in-Naught c =
    let facts : Agreed c.args.size c.args.top c.args.c c.args.pos.now c.args.neg.now = agreed c.args.size c.args.top c.args.c c.args.pos.now c.args.neg.now c.requires.agree in
    let a = c.args in
    let f = facts in
    let xs = a.pos.now in
    let ys = a.neg.now in
    subst (λ (k : Class). Written (placed a.size (read a.c xs ys) (value_of k)) xs ys (record { count = a.c.count + 1; zeros = a.c.zeros + 1; level = a.c.level; pos = a.c.pos; neg = a.c.neg }) xs ys)
    (sym c.in-Naught.is)
    (written-zero a.size a.c xs ys (level_in a.size a.top a.c xs ys f) f.pos_there f.neg_there)

pub returns-else-raise : goal.returns-else-raise
returns-else-raise c =
    let a = c.args in
    let xs = a.pos.now in
    let ys = a.neg.now in
    subst (λ (k : Class). Written (placed a.size (read a.c xs ys) (value_of k)) xs ys c.place_at.result c.place_at.new.pos c.place_at.new.neg) (sym c.in-At.is)
    (still-written a.size a.top a.c xs ys c.in-At.bin c.raise.result c.raise.new.pos c.raise.new.neg
    c.in-At.negative c.raise.ensures c.if-raise.false c.place_at.result c.place_at.new.pos c.place_at.new.neg c.place_at.ensures)
