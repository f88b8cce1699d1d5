-- `sets::set_row::after` meets its contract. Assumes nothing.
use Prim.Native.Nat.{Ordering}
use Prim.Native.Nat.{ℕ, ◌≤◌, ◌<◌}
use mathlib.Core.Path.{◌≡◌}
use mathlib.Core.Logic.{⊎_elim}
use mathlib.Core.Bool.{false, ◌&&◌}
use mathlib.Core.List.{List}
use native.Mathlib.Omega.{arith}
use native.Mathlib.Nat.{eq-or-lt_of_le}
use Rattle.tally.specs.Sets.{cmp}
use Rattle.sets.specs.Rows.{size, set_of, below, soundb}
use Rattle.sets.proofs.Keyed.{sound-some, sound-few}
use Rattle.sets.proofs.Partings.{part-shorter, part-longer, part_same, part_low, part-high, keys-low, keys-longer, after-many, after-high, after_same, after-low}
use Rattle.sets.proofs.set_row.after.Goals as goal

-- b ends no later than a
no : (a b : List ℕ) → size b ≤ size a → (size b < size a → cmp (set_of a) (set_of b) ≡ Ordering.gt) → (size a ≤ size b → cmp (set_of a) (set_of b) ≡ Ordering.eq)
    → false ≡ (soundb b && below (cmp (set_of a) (set_of b)))
no a b h f g = ⊎_elim (λ e. after_same a b (g (omega (arith, e)))) (λ l. after-high a b (f l)) (eq-or-lt_of_le h)

pub returns-then-m-gt8 : goal.returns-then-m-gt8
returns-then-m-gt8 c =
    after-many c.args.a.now c.args.b.now c.if-m-gt8.true

pub parting-j-requires : goal.parting-j-requires
parting-j-requires c = omega arith

pub returns-then-j-m : goal.returns-then-j-m
returns-then-j-m c =
    after-high c.args.a.now c.args.b.now (part-shorter c.args.a.now c.args.b.now c.parting-j.result c.parting-j.ensures c.if-j-m.true (omega (arith, c.if-j-n.true, c.if-j-m.true)))

pub returns-then-a-j : goal.returns-then-a-j
returns-then-a-j c =
    after-high c.args.a.now c.args.b.now (part-high c.args.a.now c.args.b.now c.parting-j.result c.parting-j.ensures c.if-j-n.true c.if-j-m.false (sound-few c.args.a.now c.requires) c.if-a-j.true)

pub rises-requires : goal.rises-requires
rises-requires c =
    (c.if-j-m.false, c.if-m-gt8.false, keys-low c.args.a.now c.args.b.now c.parting-j.result c.parting-j.ensures c.requires c.if-j-n.true c.if-a-j.false)

pub returns-then-j-n : goal.returns-then-j-n
returns-then-j-n c =
    after-low c.args.a.now c.args.b.now (part_low c.args.a.now c.args.b.now c.parting-j.result c.parting-j.ensures c.if-j-n.true c.if-j-m.false c.if-a-j.false) (omega (arith, c.if-j-m.false)) c.if-m-gt8.false _ c.rises.ensures

pub returns-then-n-m : goal.returns-then-n-m
returns-then-n-m c =
    no c.args.a.now c.args.b.now c.if-n-m.true (λ l. part-shorter c.args.a.now c.args.b.now c.parting-j.result c.parting-j.ensures (omega (arith, c.if-n-m.true, c.if-j-n.false)) l) (λ l. part_same c.args.a.now c.args.b.now c.parting-j.result c.parting-j.ensures c.if-j-n.false c.if-n-m.true l)

pub overflow_sub-n : goal.overflow_sub-n
overflow_sub-n c = omega (arith, sound-some c.args.a.now c.requires)

pub rises-requires-2 : goal.rises-requires-2
rises-requires-2 c =
    (omega (arith, c.if-n-m.false, sound-some c.args.a.now c.requires), c.if-m-gt8.false, keys-longer c.args.a.now c.args.b.now c.parting-j.result c.parting-j.ensures c.requires c.if-j-n.false)

pub returns : goal.returns
returns c =
    after-low c.args.a.now c.args.b.now (part-longer c.args.a.now c.args.b.now c.parting-j.result c.parting-j.ensures c.if-j-n.false c.if-n-m.false) (omega (arith, c.if-n-m.false)) c.if-m-gt8.false _ c.rises-2.ensures
