-- `sets::set_row::follows` meets its contract. Assumes nothing.
use Rattle.sets.specs.Rows.{soundb}
use Rattle.sets.proofs.Ways.{follow-first, follow-next}
use Rattle.sets.proofs.set_row.follows.Goals as goal

pub returns-then-i-eq0 : goal.returns-then-i-eq0
returns-then-i-eq0 c =
    follow-first c.args.i (soundb c.args.b.now) _ c.if-i-eq0.true _ c.sound.ensures

pub after-requires : goal.after-requires
after-requires c = c.requires c.if-i-eq0.false

pub returns : goal.returns
returns c =
    follow-next c.args.i (soundb c.args.b.now) _ c.if-i-eq0.false _ c.after.ensures
