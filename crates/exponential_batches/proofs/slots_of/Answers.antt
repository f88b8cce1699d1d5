-- `exponential_batches::slots_of` meets its contract. Assumes nothing.
use Prim.Native.Nat.{◌+◌, ◌≤◌}
use mathlib.Core.Path.{◌≡◌, sym, ◌∙◌}
use mathlib.Core.Bool.{true}
use mathlib.Core.List.{[], ◌∷◌}
use native.Mathlib.Omega.{arith}
use Rattle.value_map.proofs.Products.{entry_in}
use Rattle.batches.proofs.Rooms.{room_for}
use Rattle.exponential_batches.proofs.slots_of.Goals as goal

pub returns : goal.returns
returns c =
    let enough : c.cells_suffice-suffice.result ≡ true → c.args.limit + 2 ≤ 18446744073709551615 =
    λ t. let a = c.args in
    let i = entry_in a.size a.limit (a.limit + 1) (a.pos ∷ a.neg ∷ []) (a.figures ∷ a.extremes ∷ []) (sym c.cells_suffice-suffice.ensures ∙ t) (omega arith) 0 (omega arith) in
    omega (arith, c, i) in
    room_for c.args.limit c.cells_suffice-suffice.result c.slots_if.result c.slots_if.ensures (enough) ∙ c.cells_suffice-suffice.ensures
