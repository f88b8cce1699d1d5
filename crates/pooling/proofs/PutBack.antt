-- A point put at any cursor of an output is read there as it was put. Assumes nothing.
use Prim.Native.Nat.{ℕ, ◌+◌, ◌≤◌, ◌<◌}
use mathlib.Core.Path.{◌≡◌, sym, ap, ◌∙◌}
use mathlib.Core.List.{List, [], ◌++◌}
use native.Mathlib.Omega.{arith}
use lib.ListN.{length, get_or, set, take, drop, length-append, length-drop, length-set}
use lib.Seq.{length-take-le, drop-append_seam, get_or-set_same}
use lib.Ieee.{Float}
use Rattle.laws.specs.Over.{over}
use Rattle.laws.proofs.Over.{length_over, take-over}
use Rattle.point.specs.Handing.{stored_in}
use Rattle.point.specs.declared.Point.{Point}
use Rattle.listing.specs.Words.{words_of}
use Rattle.listing.specs.Listed.{Output, pos_len, neg_len, behind, over_at, put_at, point_at, bounds_at, stored_at}
use Rattle.listing.specs.declared.Cursor.{Cursor}
use Rattle.listing.specs.declared.Entry.{Entry}
use Rattle.std.specs.Prelude.{Some}
use Rattle.listing.specs.declared.Span.{Span}
use Rattle.whole_point.specs.Handing as WH
use Rattle.whole_point.specs.declared.Point as W
use Rattle.whole_listing.specs.Words as WW
use Rattle.whole_listing.specs.Listed as WL
use Rattle.whole_listing.specs.declared.Entry as WE
use Rattle.whole_listing.proofs.Back as Wb
use Rattle.whole_listing.proofs.There as WT
use Rattle.listing.proofs.Back.{Held}
use Rattle.listing.proofs.There as There
use Rattle.listing.proofs.There.{Lies}

module _ (a : ℕ) (ys xs : List ℕ) (h : a + length ys ≤ length xs) where
  front : length (take a xs) ≡ a
  front = length-take-le a xs (omega (arith, h))

  over-long : length (over_at a ys xs) ≡ length xs
  unfolding over_at
  over-long =
      let d = length-drop a xs in
      let l = length_over ys (drop a xs) (omega (arith, h, d)) in
      omega (arith, length-append (take a xs) (over ys (drop a xs)), front, d, l, h)

  over-there : take (length ys) (drop a (over_at a ys xs)) ≡ ys
  unfolding over_at
  over-there =
      let r = over ys (drop a xs) in
      ap (λ (k : ℕ). take (length ys) (drop k (take a xs ++ r))) (sym front)
      ∙ ap (take (length ys)) (drop-append_seam (take a xs) r)
      ∙ take-over ys (drop a xs)

-- ---- words and counts put at a cursor lie there

module _ (at : Cursor) (row ws : List ℕ) (j k : ℕ) (xs ys : List ℕ) (o : Output) (x : j ≤ length xs) (y : k ≤ length ys) (w : at.place < length o.words)
    (m : at.pos + j ≤ length o.pos) (n : at.neg + k ≤ length o.neg) where
  abbrev laid : Output
  laid =
      record {
        sets = set o.sets at.place row;
        words = set o.words at.place ws;
        pos = over_at at.pos (take j xs) o.pos;
        neg = over_at at.neg (take k ys) o.neg;
      }

  lies : Lies at ws (take j xs) (take k ys) laid
  lies =
      let c : at.pos + length (take j xs) ≤ length o.pos = omega (arith, m, length-take-le j xs x) in
      let d : at.neg + length (take k ys) ≤ length o.neg = omega (arith, n, length-take-le k ys y) in
      record {
        place = omega (arith, w, length-set o.words at.place ws);
        words = get_or-set_same o.words at.place ws [] w;
        pos_end = omega (arith, c, over-long at.pos (take j xs) o.pos c);
        neg_end = omega (arith, d, over-long at.neg (take k ys) o.neg d);
        pos = over-there at.pos (take j xs) o.pos c;
        neg = over-there at.neg (take k ys) o.neg d;
      }

-- ---- a point of f64 values

module _ (at : Cursor) (row : List ℕ) (p : Point) (b : Span) (xs ys : List ℕ) (o : Output) (h : Held p b)
    (x : pos_len p.figures b ≤ length xs) (y : neg_len p.figures ≤ length ys) (s : at.place < length o.sets) (w : at.place < length o.words)
    (m : at.pos + pos_len p.figures b ≤ length o.pos) (n : at.neg + neg_len p.figures ≤ length o.neg) where
  abbrev ps : List ℕ
  ps = take (pos_len p.figures b) xs

  abbrev ns : List ℕ
  ns = take (neg_len p.figures) ys

  abbrev put : Output
  put = put_at at row p b xs ys o

  abbrev entry : Entry
  entry = record { point = p; bounds = b; next = behind at p.figures b }

  pub set_back : get_or (put_at at row p b xs ys o).sets at.place [] ≡ row
  unfolding put_at
  set_back = get_or-set_same o.sets at.place row [] s

  lies-there : Lies at (words_of p b) ps ns put
  unfolding put_at
  lies-there = lies at row (words_of p b) _ _ xs ys o x y w m n

  pub point-there : point_at at (put_at at row p b xs ys o).words (length (put_at at row p b xs ys o).pos) (length (put_at at row p b xs ys o).neg) ≡ Some entry
  point-there = There.point-there at p b ps ns put h (length-take-le _ xs x) (length-take-le _ ys y) lies-there

  pub stored_there : (bounds : List Float) → stored_at at entry bounds put ≡ stored_in p (bounds_at b bounds) ps ns
  stored_there bounds = There.stored_there at p b ps ns put h (length-take-le _ xs x) (length-take-le _ ys y) lies-there bounds

-- ---- and one of i64 values

module _ (at : Cursor) (row : List ℕ) (p : W.Point) (b : Span) (xs ys : List ℕ) (o : Output) (h : Wb.Held p b)
    (x : pos_len p.figures b ≤ length xs) (y : neg_len p.figures ≤ length ys) (s : at.place < length o.sets) (w : at.place < length o.words)
    (m : at.pos + pos_len p.figures b ≤ length o.pos) (n : at.neg + neg_len p.figures ≤ length o.neg) where
  abbrev whole-ps : List ℕ
  whole-ps = take (pos_len p.figures b) xs

  abbrev whole-ns : List ℕ
  whole-ns = take (neg_len p.figures) ys

  abbrev whole-put : Output
  whole-put = WL.put_at at row p b xs ys o

  abbrev whole-entry : WE.Entry
  whole-entry = record { point = p; bounds = b; next = behind at p.figures b }

  pub whole-set-back : get_or (WL.put_at at row p b xs ys o).sets at.place [] ≡ row
  unfolding WL.put_at
  whole-set-back = get_or-set_same o.sets at.place row [] s

  whole-lies : Lies at (WW.words_of p b) whole-ps whole-ns whole-put
  unfolding WL.put_at
  whole-lies = lies at row (WW.words_of p b) _ _ xs ys o x y w m n

  pub whole-there : WL.point_at at (WL.put_at at row p b xs ys o).words (length (WL.put_at at row p b xs ys o).pos) (length (WL.put_at at row p b xs ys o).neg) ≡ Some whole-entry
  whole-there = WT.point-there at p b whole-ps whole-ns whole-put h (length-take-le _ xs x) (length-take-le _ ys y) whole-lies

  pub whole-stored : (bounds : List Float) → WL.stored_at at whole-entry bounds whole-put ≡ WH.stored_in p (bounds_at b bounds) whole-ps whole-ns
  whole-stored bounds = WT.stored_there at p b whole-ps whole-ns whole-put h (length-take-le _ xs x) (length-take-le _ ys y) whole-lies bounds
