-- Stores with room for the points of any sheet, and bytes for any sheet. Assumes nothing.
use Prim.Native.Nat.{ℕ, ◌*◌, ◌≤◌}
use mathlib.Core.Path.{◌≡◌}
use mathlib.Core.Bool.{true}
use mathlib.Core.List.{List, [], ◌∷◌}
use native.Mathlib.Omega.{arith}
use borrow.Author.Tests.{le-leb}
use lib.ListN.{length}
use Rattle.laws.specs.Counting.{sum}
use Rattle.laws.specs.Tests.{all}
use Rattle.laws.proofs.Bools.{and_left, and_right, and_intro}
use Rattle.pooling.specs.Lists.{Source}
use Rattle.sheets.specs.Entries.{Entry, entry_fine}
use Rattle.sheets.specs.Sheet.{Sheet, writable}
use Rattle.sheets.specs.Lists.{roomy, Ample}
use Rattle.sheets.proofs.Lengths.{fine-exact, fine-agrees, exact-bounds, exact-pos, exact-neg, points-few, points-fine}
use Rattle.sheets.proofs.PointLaws.{agreed-few}

sum-few : (w : Entry → ℕ) (m : ℕ) → ((e : Entry) → entry_fine e ≡ true → w e ≤ m) → (es : List Entry) → all entry_fine es ≡ true → sum w es ≤ m * length es
sum-few w m h [] f = omega arith
sum-few w m h (e ∷ es) f =
    omega (arith, h e (and_left (entry_fine e) (all entry_fine es) f), sum-few w m h es (and_right (entry_fine e) (all entry_fine es) f))

module _ (e : Entry) (h : entry_fine e ≡ true) where
  pos-few : length e.1.pos ≤ 160
  pos-few = omega (arith, (agreed-few e.1 (fine-agrees e h) (exact-bounds e.1 (fine-exact e h))).pos, exact-pos e.1 (fine-exact e h))

  neg-few : length e.1.neg ≤ 160
  neg-few = omega (arith, (agreed-few e.1 (fine-agrees e h) (exact-bounds e.1 (fine-exact e h))).neg, exact-neg e.1 (fine-exact e h))

  bounds-few : length e.1.bounds ≤ 159
  bounds-few = (agreed-few e.1 (fine-agrees e h) (exact-bounds e.1 (fine-exact e h))).bounds

pub ample-roomy : (t : Sheet) → writable t ≡ true → (o : Source) → Ample o → roomy t.points o ≡ true
ample-roomy t h o a =
    let es = t.points in
    let f = points-fine t h in
    let n : length es ≤ 64 = points-few t h in
    let p = sum-few (λ e. length e.1.pos) 160 pos-few es f in
    let q = sum-few (λ e. length e.1.neg) 160 neg-few es f in
    let b = sum-few (λ e. length e.1.bounds) 159 bounds-few es f in
    and_intro _ _ (le-leb (length es) (length o.list.sets) (omega (arith, a.sets)))
    (and_intro _ _ (le-leb (length es) (length o.list.words) (omega (arith, a.words)))
    (and_intro _ _ (le-leb (sum (λ e. length e.1.pos) es) (length o.list.pos) (omega (arith, a.pos)))
    (and_intro _ _ (le-leb (sum (λ e. length e.1.neg) es) (length o.list.neg) (omega (arith, a.neg)))
    (le-leb (sum (λ e. length e.1.bounds) es) (length o.bounds) (omega (arith, a.bounds))))))
