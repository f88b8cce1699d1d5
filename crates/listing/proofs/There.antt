-- A point that lies at a cursor of a list is found there, as it was written. Assumes nothing.
use Prim.Native.Nat.{ℕ, ◌+◌, ◌-◌, ◌≤◌, ◌<◌}
use mathlib.Core.Path.{◌≡◌, ap, ap₂, ◌∙◌}
use mathlib.Core.Bool.{true, ◌&&◌}
use mathlib.Core.List.{List, []}
use native.Mathlib.Omega.{arith}
use borrow.Author.Tests.{le-leb, lt-leb}
use lib.Dec.{leb}
use lib.ListN.{length, get_or, take, drop}
use lib.Ieee.{Float}
use Rattle.laws.specs.Pick.{pick}
use Rattle.laws.proofs.Bools.{pick_true, pick-false, and_intro}
use Rattle.point.specs.Handing.{stored_in}
use Rattle.point.specs.declared.Point.{Point}
use Rattle.listing.specs.Words.{words_of, point_in, bounds_in, is_point}
use Rattle.listing.specs.Listed.{Output, pos_len, neg_len, behind, within, entry_in, point_at, bounds_at, stored_at}
use Rattle.listing.specs.declared.Cursor.{Cursor}
use Rattle.listing.specs.declared.Entry.{Entry}
use Rattle.std.specs.Prelude.{Some}
use Rattle.listing.specs.declared.Span.{Span}
use Rattle.listing.proofs.Back.{Held, point-back, span-back, point-is}

-- the counts between two places
abbrev pub between : ℕ → ℕ → List ℕ → List ℕ
between a e xs = take (e - a) (drop a xs)

-- words and counts lie at a cursor of an output
pub record Lies (at : Cursor) (ws ps ns : List ℕ) (o : Output) : Type 0 where
  pub place : at.place < length o.words
  pub words : get_or o.words at.place [] ≡ ws
  pub pos_end : at.pos + length ps ≤ length o.pos
  pub neg_end : at.neg + length ns ≤ length o.neg
  pub pos : take (length ps) (drop at.pos o.pos) ≡ ps
  pub neg : take (length ns) (drop at.neg o.neg) ≡ ns

module _ (at : Cursor) (p : Point) (b : Span) (ps ns : List ℕ) (o : Output) (h : Held p b) (x : length ps ≡ pos_len p.figures b) (y : length ns ≡ neg_len p.figures)
    (l : Lies at (words_of p b) ps ns o) where
  abbrev entry : Entry
  entry = record { point = p; bounds = b; next = behind at p.figures b }

  within-here : within at p.figures b (length o.pos) (length o.neg) ≡ true
  within-here =
      let i = at.pos + pos_len p.figures b in
      let j = at.neg + neg_len p.figures in
      and_intro (leb i (length o.pos)) (leb j (length o.neg)) (le-leb i (length o.pos) (omega (arith, x, l.pos_end)))
      (le-leb j (length o.neg) (omega (arith, y, l.neg_end)))

  entry-there : entry_in at (words_of p b) (length o.pos) (length o.neg) ≡ Some entry
  unfolding entry_in
  entry-there =
      let v = words_of p b in
      let q = point-back p b h in
      let s = span-back p b h in
      let m = length o.pos in
      let n = length o.neg in
      let t : within at (point_in v).figures (bounds_in v) m n ≡ true = ap₂ (λ u s. within at u.figures s m n) q s ∙ within-here in
      pick_true (is_point v && within at (point_in v).figures (bounds_in v) m n) _ _ (and_intro (is_point v) _ (point-is p b h) t)
      ∙ ap₂ (λ u s. Some (record { point = u; bounds = s; next = behind at u.figures s })) q s

  pub point-there : point_at at o.words (length o.pos) (length o.neg) ≡ Some entry
  unfolding point_at
  point-there =
      pick-false (leb (length o.words) at.place) _ _ (lt-leb (length o.words) at.place l.place)
      ∙ ap (λ (v : List ℕ). entry_in at v (length o.pos) (length o.neg)) l.words
      ∙ entry-there

  between-there : (a n : ℕ) (cs xs : List ℕ) → length cs ≡ n → take (length cs) (drop a xs) ≡ cs → between a (a + n) xs ≡ cs
  between-there a n cs xs e f = let w : a + n - a ≡ length cs = omega (arith, e) in ap (λ (k : ℕ). take k (drop a xs)) w ∙ f

  pub stored_there : (bounds : List Float) → stored_at at entry bounds o ≡ stored_in p (bounds_at b bounds) ps ns
  unfolding pick
  stored_there bounds =
      ap₂ (λ (i j : List ℕ). stored_in p (bounds_at b bounds) i j) (between-there at.pos (pos_len p.figures b) ps o.pos x l.pos)
      (between-there at.neg (neg_len p.figures) ns o.neg y l.neg)
