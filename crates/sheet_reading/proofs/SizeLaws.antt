-- What the tests of a point's words say of its sizes. Assumes nothing.
use Prim.Native.Nat.{ℕ, ◌+◌, ◌≤◌, ◌<◌, ◌^◌}
use mathlib.Core.Path.{◌≡◌, ap, ap₂, ◌∙◌}
use mathlib.Core.Bool.{true}
use mathlib.Core.List.{List}
use native.Mathlib.Omega.{arith}
use borrow.Author.Tests.{leb-true}
use lib.Dec.{leb, eqb}
use Rattle.laws.proofs.Bools.{and_left, and_right}
use Rattle.listing.specs.Words.{point_in, bounds_in, is_point}
use Rattle.point.specs.declared.Point.{Point}
use Rattle.listing.specs.declared.Span.{Span}
use Rattle.listing.specs.Listed.{pos_len, neg_len}
use Rattle.records.specs.Records.{width}
use Rattle.sheets.specs.Entries.{pos_in}
use Rattle.sheets.specs.Inner.{head_fine}
use Rattle.sheet_reading.specs.Inner.{sizes_of, Few}
use Rattle.sheet_reading.specs.declared.judge.Sizes.{Sizes}

pub head_few : (w : List ℕ) → head_fine w ≡ true → Few (sizes_of w)
unfolding head_fine
head_few w h =
    let a = and_right (is_point w) _ h in
    let b = and_right (eqb (bounds_in w).start 0) _ a in
    let c = and_right (leb (bounds_in w).len 159) _ b in
    record {
      bounds = leb-true _ _ (and_left _ _ b);
      pos = leb-true _ _ (and_left _ _ c);
      neg = leb-true _ _ (and_right (leb (pos_in w) 160) _ c);
    }

-- by the point and the bounds that the words were found to be
module _ (w : List ℕ) (p : Point) (b : Span) (e : p ≡ point_in w) (f : b ≡ bounds_in w) where
  same-pos : pos_len p.figures b ≡ pos_in w
  same-pos = ap₂ (λ (q : Point) (u : Span). pos_len q.figures u) e f

  pub found-small : head_fine w ≡ true → pos_len p.figures b < 2 ^ 64
  found-small h = omega (arith, same-pos, (head_few w h).pos)

  pub found-sizes : (m n : ℕ) → m ≡ pos_len p.figures b → n ≡ neg_len p.figures
      → ◌≡◌ {A = Sizes} (record { bounds = b.len; pos = m; neg = n }) (sizes_of w)
  found-sizes m n g h =
      let x = g ∙ same-pos in
      let y = h ∙ ap (λ (q : Point). neg_len q.figures) e in
      λ i. record { bounds = (f i).len; pos = x i; neg = y i }

-- how many words so many fill up to
pub width-most : (m : ℕ) → width m ≤ m + 2
unfolding width
width-most m = omega arith

pub width-least : (m : ℕ) → m ≤ width m
unfolding width
width-least m = omega arith
