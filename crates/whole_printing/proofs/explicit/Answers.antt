-- `whole_printing::explicit` meets its contract. Assumes nothing.
use Prim.Native.Nat.{ℕ}
use mathlib.Core.Path.{ap}
use mathlib.Core.List.{List, [], ◌∷◌, map}
use Rattle.lines.specs.Gathered.{waiting}
use Rattle.lines.specs.Written.{decimal}
use Rattle.lines.proofs.Gathering.{then, spelt}
use Rattle.printing.specs.Fields.{joined, listed, float_field}
use Rattle.whole_printing.specs.Printed.{held_fields}
use Rattle.printing.proofs.Putting.{a-field, fields, no_field, listed-is}
use Rattle.whole_printing.proofs.explicit.Goals as goal

pub returns : goal.returns
returns c =
    let a = c.args in
    let xs = a.buckets.now in
    let ys = a.bounds.now in
    fields 32 (waiting a.n a.text.now) (held_fields a.p []) (listed (map decimal xs) ∷ listed (map float_field ys) ∷ []) c.held-a.ensures
    (a-field 32 _ (listed (map decimal xs)) (listed (map float_field ys) ∷ [])
    (spelt (ap (λ (r : List ℕ). 32 ∷ r) (listed-is decimal xs)) _ (then _ (joined 44 (map decimal xs)) _ c.dash-b.ensures c.counts-c.ensures))
    (a-field 32 _ (listed (map float_field ys)) []
    (spelt (ap (λ (r : List ℕ). 32 ∷ r) (listed-is float_field ys)) _ (then _ (joined 44 (map float_field ys)) _ c.dash-d.ensures c.all_bits.ensures))
    (no_field 32 _)))
