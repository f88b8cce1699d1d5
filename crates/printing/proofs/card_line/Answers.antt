-- `printing::card_line` meets its contract. Assumes nothing.
use Prim.Native.Nat.{ℕ}
use mathlib.Core.Path.{ap, ◌∙◌}
use mathlib.Core.Bool.{true, false}
use mathlib.Core.List.{List}
use lib.IntN.{ℤ}
use lib.Ieee.{Float}
use Rattle.laws.specs.Said.{Said}
use Rattle.point.specs.Handing.{stored_in}
use Rattle.mean.specs.Mean.{mean_in}
use Rattle.listing.specs.Listed.{row_at, bounds_at}
use Rattle.lines.specs.Gathered.{waiting}
use Rattle.lines.proofs.Gathering.{spelt}
use Rattle.printing.specs.Fields.{each, set_field}
use Rattle.printing.specs.Printed.{mean_fields, card_line}
use Rattle.printing.proofs.Putting.{a-line}
use Rattle.printing.proofs.Sets.{eight}
use Rattle.printing.proofs.card_line.Goals as goal

pub returns : goal.returns
unfolding card_line
returns c =
    let a = c.args in
    let p = a.e.point in
    let bs = bounds_at a.e.bounds a.bounds.now in
    let xs = row_at a.at a.e.next false a.pos.now a.neg.now in
    let ys = row_at a.at a.e.next true a.pos.now a.neg.now in
    let is =
    c.hundredths-x.ensures
    ∙ ap (λ (l : List Float). mean_in (stored_in p l c.row_at-above.result.now c.row_at-below.result.now)) c.bounds_at-own.ensures
    ∙ ap (λ (l : List ℕ). mean_in (stored_in p bs l c.row_at-below.result.now)) c.row_at-above.ensures
    ∙ ap (λ (l : List ℕ). mean_in (stored_in p bs xs l)) c.row_at-below.ensures in
    a-line (set_field (eight a.row)) (mean_fields (mean_in (stored_in p bs xs ys))) (waiting a.n a.text.now) c.bare_set-a.ensures
    (spelt (ap (λ (x : Said ℤ). each 32 (mean_fields x)) is) _ c.mean_fields-b.ensures) c.byte.ensures
