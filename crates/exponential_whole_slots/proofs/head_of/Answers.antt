-- `head_of` meets its contract. Assumes nothing.
use mathlib.Core.Path.{sym, ap, ◌∙◌}
use mathlib.Core.List.{List, [], ◌∷◌}
use lib.Ieee.{Float}
use Rattle.floats.specs.Starts.{zero_float}
use Rattle.exponential_slots.specs.Cells.{head_in as words_head}
use Rattle.exponential_slots.proofs.Cases as P
use Rattle.exponential.specs.declared.Head as F
use Rattle.exponential_whole_slots.specs.Cells.{head_in}
use Rattle.exponential_whole_slots.proofs.Cases.{head-held, head-fresh}
use Rattle.exponential_whole_slots.proofs.head_of.Goals as goal

abbrev zeros : List Float
zeros = zero_float ∷ zero_float ∷ zero_float ∷ []

pub returns-then-updated : goal.returns-then-updated
unfolding words_head
returns-then-updated c =
    let a = c.args in
    c.head_with.ensures
    ∙ ap (λ (g : F.Head). head_in g.counts a.m) (c.head_of-h.ensures ∙ P.head-held a.top a.updated a.f zeros c.if-updated.true)
    ∙ sym (head-held a.top a.updated a.f a.m c.if-updated.true)

pub returns : goal.returns
returns c = c.fresh.ensures ∙ sym (head-fresh c.args.top c.args.updated c.args.f c.args.m c.if-updated.false)
