-- What readers above know of a point of i64 values that is found: the f64 reader finds its shadow in the list of the shadows, and no f64 point lies
-- where it lies. Assumes nothing.
use Prim.Native.Nat.{ℕ, ◌<◌}
use mathlib.Core.Path.{◌≡◌, refl, sym, ap, subst, ◌∙◌}
use mathlib.Core.Bool.{Bool, true, false, ◌&&◌}
use mathlib.Core.List.{List, [], map, ◌++◌}
use native.Mathlib.Omega.{arith}
use borrow.Author.Tests.{leb-false, lt-leb, eqb-true}
use lib.Dec.{leb, eqb}
use lib.ListN.{length, get_or, length-map}
use lib.Ieee.{Float}
use Rattle.laws.specs.Pick.{pick}
use Rattle.laws.proofs.Bools.{and_left, and_right, and_intro, pick_true, pick-false}
use Rattle.laws.proofs.Cases.{true-not-false}
use Rattle.sets.proofs.Alls.{allb-at}
use Rattle.point.specs.declared.Point as P
use Rattle.point.specs.declared.Figures.{Figures}
use Rattle.point.specs.declared.Figures.TheVariants.{Exponential, Explicit}
use Rattle.whole_point.specs.Handing.{shadow_point, shadow_stored}
use Rattle.listing.specs.Words as F
use Rattle.listing.specs.Words.{figures_words}
use Rattle.listing.specs.Listed as L
use Rattle.listing.specs.Listed.{Output, behind, within}
use Rattle.listing.specs.declared.Cursor.{Cursor}
use Rattle.listing.specs.declared.Entry as Le
use Rattle.std.specs.Prelude.{Option, Some, None}
use Rattle.listing.specs.declared.Span.{Span}
use Rattle.whole_listing.specs.Words.{shadow_words, point_in, bounds_in, is_point}
use Rattle.whole_listing.specs.Listed.{entry_in, point_at, is_whole, stored_at}
use Rattle.whole_listing.specs.Inner.{own_words}
use Rattle.whole_listing.specs.declared.Entry.{Entry}
use Rattle.whole_listing.proofs.Shadow.{get_or-shadow}
use Rattle.whole_listing.proofs.There.{shadow_output}
use Rattle.whole_listing.proofs.Reading.{shadow_in, shadow-is, own_is}

-- ---- what is found

abbrev present : Option Entry → Bool
present None = false
present (Some e) = true

abbrev entry_or : Entry → Option Entry → Entry
entry_or d None = d
entry_or d (Some e) = e

chosen : (t : Bool) (x e : Entry) → pick t (Some x) None ≡ Some e → (t ≡ true) × (x ≡ e)
unfolding pick
chosen true x e h = (refl, ap (entry_or x) h)
chosen false x e h = true-not-false (sym (ap present h))

other : (t : Bool) (f : Option Entry) (e : Entry) → pick t None f ≡ Some e → (t ≡ false) × (f ≡ Some e)
unfolding pick
other true f e h = true-not-false (sym (ap present h))
other false f e h = (refl, h)

abbrev pub entry_of : Cursor → List ℕ → Entry
entry_of at w = record { point = point_in w; bounds = bounds_in w; next = behind at (point_in w).figures (bounds_in w) }

-- twelve words are a point's, and its counts are there
pub record Told (at : Cursor) (words : List (List ℕ)) (pos neg : ℕ) (e : Entry) : Type 0 where
  pub there : at.place < length words
  pub is : is_point (get_or words at.place []) ≡ true
  pub counts : within at (point_in (get_or words at.place [])).figures (bounds_in (get_or words at.place [])) pos neg ≡ true
  pub entry : entry_of at (get_or words at.place []) ≡ e

module _ (at : Cursor) (words : List (List ℕ)) (pos neg : ℕ) where
  pub point-told : (e : Entry) → point_at at words pos neg ≡ Some e → Told at words pos neg e
  unfolding point_at entry_in
  point-told e h =
      let w = get_or words at.place [] in
      let o = other (leb (length words) at.place) (entry_in at w pos neg) e h in
      let c = chosen (is_point w && within at (point_in w).figures (bounds_in w) pos neg) (entry_of at w) e o.1 in
      record {
        there = leb-false (length words) at.place o.0;
        is = and_left (is_point w) _ c.0;
        counts = and_right (is_point w) _ c.0;
        entry = c.1;
      }

-- ---- its shadow

abbrev pub shadow_entry : Entry → Le.Entry
shadow_entry e = record { point = shadow_point e.point; bounds = e.bounds; next = e.next }

module _ (at : Cursor) (w : List ℕ) (pos neg : ℕ) where
  shadow-entry : is_point w ≡ true → within at (point_in w).figures (bounds_in w) pos neg ≡ true
      → L.entry_in at (shadow_words w) pos neg ≡ Some (shadow_entry (entry_of at w))
  unfolding L.entry_in F.point_in point_in bounds_in
  shadow-entry h k =
      let v = shadow_words w in
      let b = F.bounds_in v in
      pick_true (F.is_point v && within at (F.point_in v).figures b pos neg) _ _ (and_intro (F.is_point v) _ (shadow-is w h) k)
      ∙ ap (λ (q : P.Point). Some (record { point = q; bounds = b; next = behind at q.figures b })) (shadow_in w)

module _ (at : Cursor) (words : List (List ℕ)) (pos neg : ℕ) where
  pub shadow-found : (e : Entry) → point_at at words pos neg ≡ Some e → L.point_at at (map shadow_words words) pos neg ≡ Some (shadow_entry e)
  unfolding L.point_at
  shadow-found e h =
      let t = point-told at words pos neg e h in
      let w = get_or words at.place [] in
      let n : at.place < length (map shadow_words words) = subst (λ (k : ℕ). at.place < k) (sym (length-map words shadow_words)) t.there in
      pick-false (leb (length (map shadow_words words)) at.place) _ _ (lt-leb (length (map shadow_words words)) at.place n)
      ∙ ap (λ (v : List ℕ). L.entry_in at v pos neg) (get_or-shadow words at.place t.there)
      ∙ shadow-entry at w pos neg t.is t.counts
      ∙ ap (λ (x : Entry). Some (shadow_entry x)) t.entry

pub shadow-stored : (at : Cursor) (e : Entry) (bounds : List Float) (o : Output)
    → shadow_stored (stored_at at e bounds o) ≡ L.stored_at at (shadow_entry e) bounds (shadow_output o)
shadow-stored at e bounds o = refl

-- ---- of either number

kind-least : (f : Figures) (b : Span) (l : List ℕ) → get_or (figures_words f b ++ l) 0 0 < 2
kind-least (Exponential c) b l = omega arith
kind-least (Explicit n) b l = omega arith

-- the kind of an i64 point is 2 or more, that of an f64 point less
pub kind-whole : (w : List ℕ) → is_point w ≡ true → leb 2 (get_or w 0 0) ≡ true
unfolding own_words
kind-whole w h = and_left (leb 2 (get_or w 0 0)) _ (own_is w h)

pub kind-real : (w : List ℕ) → F.is_point w ≡ true → leb 2 (get_or w 0 0) ≡ false
unfolding F.is_point
kind-real w h =
    let v = F.words_of (F.point_in w) (F.bounds_in w) in
    let e = eqb-true (get_or v 0 0) (get_or w 0 0) (allb-at (λ j. eqb (get_or v j 0) (get_or w j 0)) 12 h 0 (omega arith)) in
    lt-leb 2 (get_or w 0 0) (subst (λ (k : ℕ). k < 2) e (kind-least (F.point_in w).figures (F.bounds_in w) _))

-- so an f64 reader finds nothing where an i64 point lies
pub no-real : (w : List ℕ) → is_point w ≡ true → F.is_point w ≡ false
no-real w h = go (F.is_point w) refl
  where
    go : (t : Bool) → F.is_point w ≡ t → t ≡ false
    go true e = true-not-false (sym (kind-whole w h) ∙ kind-real w e)
    go false e = refl

-- and a reader of either number sees which one lies there
pub whole-told : (at : Cursor) (words : List (List ℕ)) (pos neg : ℕ) (e : Entry) → point_at at words pos neg ≡ Some e → is_whole at words ≡ true
unfolding is_whole
whole-told at words pos neg e h = kind-whole (get_or words at.place []) (point-told at words pos neg e h).is
