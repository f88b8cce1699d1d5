-- `value_map::exponential_map::unset_of` meets its contract. Assumes nothing.
use mathlib.Core.Path.{◌≡◌, sym}
use mathlib.Core.Bool.{true}
use Rattle.points.specs.Figures.{size_passes}
use Rattle.exponential.proofs.Facts.{size-passes_in}
use Rattle.value_map.proofs.ExponentialOwes.{unset-low, unset-high, unset_2, unset_0}
use Rattle.value_map.proofs.exponential_map.unset_of.Goals as goal

pub returns-then-n-lt-LEAST_SIZE : goal.returns-then-n-lt-LEAST_SIZE
returns-then-n-lt-LEAST_SIZE c = let a = c.args in unset-low a.size a.top c.if-n-lt-LEAST_SIZE.true

pub returns-then-n-gt-MOST_SIZE : goal.returns-then-n-gt-MOST_SIZE
returns-then-n-gt-MOST_SIZE c = let a = c.args in unset-high a.size a.top c.if-n-lt-LEAST_SIZE.false c.if-n-gt-MOST_SIZE.true

pub returns-then-top-gt-FINEST : goal.returns-then-top-gt-FINEST
returns-then-top-gt-FINEST c =
    let sized : size_passes c.args.size ≡ true = size-passes_in c.args.size c.if-n-lt-LEAST_SIZE.false c.if-n-gt-MOST_SIZE.false in
    let a = c.args in unset_2 a.size a.top (sized) c.if-top-gt-FINEST.true

pub returns : goal.returns
returns c =
    let sized : size_passes c.args.size ≡ true = size-passes_in c.args.size c.if-n-lt-LEAST_SIZE.false c.if-n-gt-MOST_SIZE.false in
    let a = c.args in sym (unset_0 a.size a.top (sized) c.if-top-gt-FINEST.false)
