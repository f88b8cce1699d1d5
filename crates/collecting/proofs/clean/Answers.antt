-- `collecting::clean` meets its contract. Assumes nothing.
use mathlib.Core.Path.{◌∙◌}
use mathlib.Core.List.{[], ◌∷◌}
use lib.ListN.{get_or}
use Rattle.collecting.proofs.Handed.{row_words}
use Rattle.collecting.proofs.clean.Goals as goal

pub returns : goal.returns
returns c =
    (λ j.
    c.word_of.ensures j
    ∷ c.word_of-2.ensures j
    ∷ c.word_of-3.ensures j
    ∷ c.word_of-4.ensures j
    ∷ c.word_of-5.ensures j
    ∷ c.word_of-6.ensures j
    ∷ c.word_of-7.ensures j
    ∷ c.word_of-8.ensures j
    ∷ get_or c.args.row 8 0
    ∷ [])
    ∙ row_words c.args.row c.requires
