-- `sheet_writing::judge::shadow_at` meets its contract. Assumes nothing.
use mathlib.Core.Path.{sym, ap, ◌∙◌}
use lib.ListN.{length}
use Rattle.pooling.specs.Lists.{Source, nameless, bounded}
use Rattle.sheet_writing.specs.Inner.{shadow_found}
use Rattle.sheet_writing.proofs.Wholes.{whole-real, whole-shadow}
use Rattle.sheet_writing.proofs.judge.shadow_at.Goals as goal

pub returns-then-not-is_whole : goal.returns-then-not-is_whole
returns-then-not-is_whole c =
    let list : Source = let a = c.args in nameless a.words.now a.pos.now a.neg.now a.bounds.now in
    c.whole_at.ensures ∙ whole-real c.args.at (list) (sym c.is_whole.ensures ∙ c.if-not-is_whole.true)

pub returns : goal.returns
returns c =
    let list : Source = let a = c.args in nameless a.words.now a.pos.now a.neg.now a.bounds.now in
    c.shadow_found.ensures
    ∙ ap (λ f. bounded (length (list).bounds) (shadow_found f)) c.point_at-found.ensures
    ∙ whole-shadow c.args.at (list) (sym c.is_whole.ensures ∙ c.if-not-is_whole.false)
