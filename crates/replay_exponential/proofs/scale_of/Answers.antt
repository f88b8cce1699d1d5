-- `replay_exponential::scale_of` meets its contract. Assumes nothing.
use mathlib.Core.Path.{sym, ◌∙◌}
use mir.Syntax.{w32}
use mir.Val.{SFits}
use mir.ValLaws.{to_z-of_z}
use borrow.Author.Rules.{rules}
use Rattle.replay_exponential.proofs.Scales.{scale-found}
use Rattle.replay_exponential.proofs.scale_of.Goals as goal

pub returns-in-None : goal.returns-in-None
returns-in-None c =
    scale-found c.args.n _ _ c.cut-bin.ensures (sym c.in-None.is ∙ c.index_of-found.ensures)

pub returns-in-Some : goal.returns-in-Some
returns-in-Some c =
    let h : SFits w32 c.in-Some.x = search rules in
    to_z-of_z w32 c.in-Some.x h
    ∙ scale-found c.args.n _ _ c.cut-bin.ensures (sym c.in-Some.is ∙ c.index_of-found.ensures)
