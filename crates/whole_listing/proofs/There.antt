-- A point of i64 values that lies at a cursor of a list is found there, as it was written; its counts are its shadow's. Assumes nothing.
use Prim.Native.Nat.{ℕ, ◌+◌, ◌<◌}
use mathlib.Core.Path.{◌≡◌, sym, ap, ap₂, subst, ◌∙◌}
use mathlib.Core.Bool.{true, ◌&&◌}
use mathlib.Core.List.{List, map}
use native.Mathlib.Omega.{arith}
use borrow.Author.Tests.{le-leb, lt-leb}
use lib.Dec.{leb}
use lib.ListN.{length, length-map}
use lib.Ieee.{Float}
use Rattle.laws.proofs.Bools.{pick_true, pick-false, and_intro}
use Rattle.point.specs.Handing as Q
use Rattle.whole_point.specs.Handing.{stored_in, shadow_point}
use Rattle.whole_point.specs.declared.Point.{Point}
use Rattle.listing.specs.Words as F
use Rattle.listing.specs.Listed.{Output, pos_len, neg_len, behind, within, bounds_at}
use Rattle.listing.specs.declared.Cursor.{Cursor}
use Rattle.listing.specs.declared.Span.{Span}
use Rattle.listing.proofs.There as L
use Rattle.listing.proofs.There.{Lies}
use Rattle.whole_listing.specs.Words.{words_of, shadow_words, point_in, bounds_in, is_point}
use Rattle.whole_listing.specs.Listed.{entry_in, point_at, stored_at}
use Rattle.whole_listing.specs.declared.Entry.{Entry}
use Rattle.std.specs.Prelude.{Some}
use Rattle.whole_listing.proofs.Shadow.{shadow-words, get_or-shadow}
use Rattle.whole_listing.proofs.Back.{Held, shadow-held, point-back, span-back, point-is}

-- the list of the shadows: the words of each point's shadow, and the same sets and counts
abbrev pub shadow_output : Output → Output
shadow_output o = record { sets = o.sets; words = map shadow_words o.words; pos = o.pos; neg = o.neg }

module _ (at : Cursor) (p : Point) (b : Span) (ps ns : List ℕ) (o : Output) (h : Held p b) (x : length ps ≡ pos_len p.figures b) (y : length ns ≡ neg_len p.figures)
    (l : Lies at (words_of p b) ps ns o) where
  abbrev entry : Entry
  entry = record { point = p; bounds = b; next = behind at p.figures b }

  -- the shadow lies in the list of the shadows
  shadow-lies : Lies at (F.words_of (shadow_point p) b) ps ns (shadow_output o)
  shadow-lies =
      record {
        place = subst (λ (n : ℕ). at.place < n) (sym (length-map o.words shadow_words)) l.place;
        words = get_or-shadow o.words at.place l.place ∙ ap shadow_words l.words ∙ shadow-words p b;
        pos_end = l.pos_end;
        neg_end = l.neg_end;
        pos = l.pos;
        neg = l.neg;
      }

  within-here : within at p.figures b (length o.pos) (length o.neg) ≡ true
  within-here =
      let i = at.pos + pos_len p.figures b in
      let j = at.neg + neg_len p.figures in
      and_intro (leb i (length o.pos)) (leb j (length o.neg)) (le-leb i (length o.pos) (omega (arith, x, l.pos_end)))
      (le-leb j (length o.neg) (omega (arith, y, l.neg_end)))

  entry-there : entry_in at (words_of p b) (length o.pos) (length o.neg) ≡ Some entry
  unfolding entry_in
  entry-there =
      let v = words_of p b in
      let q = point-back p b h in
      let s = span-back p b h in
      let m = length o.pos in
      let n = length o.neg in
      let t : within at (point_in v).figures (bounds_in v) m n ≡ true = ap₂ (λ u s. within at u.figures s m n) q s ∙ within-here in
      pick_true (is_point v && within at (point_in v).figures (bounds_in v) m n) _ _ (and_intro (is_point v) _ (point-is p b h) t)
      ∙ ap₂ (λ u s. Some (record { point = u; bounds = s; next = behind at u.figures s })) q s

  pub point-there : point_at at o.words (length o.pos) (length o.neg) ≡ Some entry
  unfolding point_at
  point-there =
      pick-false (leb (length o.words) at.place) _ _ (lt-leb (length o.words) at.place l.place)
      ∙ ap (λ (v : List ℕ). entry_in at v (length o.pos) (length o.neg)) l.words
      ∙ entry-there

  pub stored_there : (bounds : List Float) → stored_at at entry bounds o ≡ stored_in p (bounds_at b bounds) ps ns
  stored_there bounds =
      ap (λ (z : Q.Stored). stored_in p (bounds_at b bounds) z.pos z.neg)
      (L.stored_there at (shadow_point p) b ps ns (shadow_output o) (shadow-held p b h) x y shadow-lies bounds)
