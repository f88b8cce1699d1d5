-- `sheets::set_rows::ascends` meets its contract. Assumes nothing.
use Prim.Native.Nat.{Ordering}
use mathlib.Core.Path.{◌≡◌, refl, ap, ◌∙◌}
use Rattle.std.specs.Ordering.{is_lt}
use Rattle.tally.specs.Sets.{cmp}
use Rattle.sets.specs.Inner.{way}
use Rattle.sets.specs.Rows.{set_of, below}
use Rattle.sheets.proofs.set_rows.ascends.Goals as goal

is-below : (o : Ordering) → is_lt (way o) ≡ below o
is-below Ordering.lt = refl
is-below Ordering.eq = refl
is-below Ordering.gt = refl

pub returns : goal.returns
returns c =
    c.is_lt.ensures ∙ ap is_lt c.compare.ensures ∙ is-below (cmp (set_of c.args.a.now) (set_of c.args.b.now))
