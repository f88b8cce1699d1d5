use mathlib.Core.Path.{ap, ◌∙◌}
use Prim.Native.Nat.{ℕ}
use Rattle.floats.specs.Answers.{shown_of}
use Rattle.point.proofs.handed_out.Goals as goal

pub returns : goal.returns
returns c =
    let a = c.args in
    let low = c.shown-low.ensures ∙ ap (λ (n : ℕ). shown_of a.extremes n a.min) c.count_in-count.ensures in
    let high = c.shown-high.ensures ∙ ap (λ (n : ℕ). shown_of a.extremes n a.max) c.count_in-count.ensures in
    λ j. record { figures = a.figures; extremes = a.extremes; min = low j; max = high j; sum = c.shown_sum-total.ensures j }
