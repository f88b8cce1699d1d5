-- `value_map::first::takes` meets its contract. Assumes nothing.
use mathlib.Core.Path.{◌≡◌, refl, sym, ◌∙◌}
use mathlib.Core.Bool.{Bool, true, false, ◌&&◌}
use lib.Ieee.{binary64, fits}
use lib.Ieee.Scale.{finite}
use Rattle.value_map.proofs.first.takes.Goals as goal

with-true : (a b : Bool) → b ≡ true → a ≡ (a && b)
with-true true b e = sym e
with-true false b e = refl

pub returns : goal.returns
returns c =
    let fits-v : fits binary64 c.args.v ≡ true = search in
    c.is_finite.ensures ∙ with-true (finite c.args.v) (fits binary64 c.args.v) (fits-v)
