-- What a whole point at a cursor is: it lies within what is lent, and its words are its own. Assumes nothing.
use Prim.Native.Nat.{ℕ, ◌+◌, ◌-◌, ◌≤◌, ◌<◌}
use mathlib.Core.Path.{◌≡◌, refl, sym, ap, subst, ◌∙◌}
use mathlib.Core.Bool.{Bool, true, false, ◌&&◌}
use mathlib.Core.List.{List, []}
use native.Mathlib.Omega.{arith}
use borrow.Author.Tests.{leb-true, leb-false}
use lib.Dec.{leb}
use lib.ListN.{length, get_or, take, drop, length-drop}
use lib.Seq.{length-take-le}
use lib.Ieee.{Float}
use Rattle.laws.specs.Pick.{pick}
use Rattle.laws.proofs.Bools.{and_left, and_right, pick_true, pick-false}
use Rattle.laws.proofs.Cases.{true-not-false}
use Rattle.listing.specs.Words.{point_in, bounds_in, is_point}
use Rattle.laws.specs.Said.{Said}
use Rattle.point.specs.declared.Point.{Point}
use Rattle.point.specs.Handing.{Stored, stored_in, ended, refusal_before, merging}
use Rattle.listing.specs.Listed.{Output, behind, within, entry_in, point_at, bounds_at, stored_at}
use Rattle.listing.proofs.There.{between}
use Rattle.listing.specs.declared.Cursor.{Cursor}
use Rattle.listing.specs.declared.Entry.{Entry}
use Rattle.std.specs.Prelude.{Option, Some, None}
use Rattle.listing.specs.declared.Span.{Span}
use Rattle.listing.proofs.Calls.{within-says}
use Rattle.pooling.specs.Lists.{Source, bounded, whole_at}
use Rattle.pooling.specs.Entries.{Whole}

-- ---- what is found

abbrev present : Option Entry → Bool
present None = false
present (Some e) = true

abbrev entry_or : Entry → Option Entry → Entry
entry_or d None = d
entry_or d (Some e) = e

-- of two choices, the one that is there
chosen : (t : Bool) (x e : Entry) → pick t (Some x) None ≡ Some e → (t ≡ true) × (x ≡ e)
unfolding pick
chosen true x e h = (refl, ap (entry_or x) h)
chosen false x e h = true-not-false (sym (ap present h))

other : (t : Bool) (f : Option Entry) (e : Entry) → pick t None f ≡ Some e → (t ≡ false) × (f ≡ Some e)
unfolding pick
other true f e h = true-not-false (sym (ap present h))
other false f e h = (refl, h)

bounded-says : (n : ℕ) (f : Option Entry) (e : Entry) → bounded n f ≡ Some e → (f ≡ Some e) × (e.bounds.start + e.bounds.len ≤ n)
bounded-says n None e h = true-not-false (sym (ap present h))
bounded-says n (Some x) e h =
    let c = chosen (leb (x.bounds.start + x.bounds.len) n) x e h in
    (ap Some c.1, subst (λ (y : Entry). y.bounds.start + y.bounds.len ≤ n) c.1 (leb-true _ _ c.0))

-- as the code finds it
pub bounded_in : (n : ℕ) (f : Option Entry) (e : Entry) → f ≡ Some e → leb (e.bounds.start + e.bounds.len) n ≡ true → Some e ≡ bounded n f
bounded_in n f e p t = sym (ap (bounded n) p ∙ pick_true (leb (e.bounds.start + e.bounds.len) n) (Some e) None t)

pub bounded-out : (n : ℕ) (f : Option Entry) (e : Entry) → f ≡ Some e → leb (e.bounds.start + e.bounds.len) n ≡ false → None ≡ bounded n f
bounded-out n f e p t = sym (ap (bounded n) p ∙ pick-false (leb (e.bounds.start + e.bounds.len) n) (Some e) None t)

abbrev read : Cursor → List ℕ → Entry
read at w = record { point = point_in w; bounds = bounds_in w; next = behind at (point_in w).figures (bounds_in w) }

-- twelve words are a point's, and its counts are there
pub record Told (at : Cursor) (words : List (List ℕ)) (pos neg : ℕ) (e : Entry) : Type 0 where
  pub there : at.place < length words
  pub is : is_point (get_or words at.place []) ≡ true
  pub counts : within at (point_in (get_or words at.place [])).figures (bounds_in (get_or words at.place [])) pos neg ≡ true
  pub entry : record { point = point_in (get_or words at.place []); bounds = bounds_in (get_or words at.place []); next = behind at (point_in (get_or words at.place [])).figures (bounds_in (get_or words at.place [])) } ≡ e

pub point-told : (at : Cursor) (words : List (List ℕ)) (pos neg : ℕ) (e : Entry) → point_at at words pos neg ≡ Some e → Told at words pos neg e
unfolding point_at entry_in
point-told at words pos neg e h =
    let w = get_or words at.place [] in
    let o = other (leb (length words) at.place) (entry_in at w pos neg) e h in
    let c = chosen (is_point w && within at (point_in w).figures (bounds_in w) pos neg) (read at w) e o.1 in
    record {
      there = leb-false (length words) at.place o.0;
      is = and_left (is_point w) _ c.0;
      counts = and_right (is_point w) _ c.0;
      entry = c.1;
    }

module _ (at : Cursor) (x : Source) (e : Entry) (h : whole_at at x ≡ Some e) where
  found : (point_at at x.list.words (length x.list.pos) (length x.list.neg) ≡ Some e) × (e.bounds.start + e.bounds.len ≤ length x.bounds)
  found = bounded-says (length x.bounds) (point_at at x.list.words (length x.list.pos) (length x.list.neg)) e h

  pub whole-told : Told at x.list.words (length x.list.pos) (length x.list.neg) e
  whole-told = point-told at x.list.words (length x.list.pos) (length x.list.neg) e found.0

  pub whole-lies : Whole at e (length x.list.pos) (length x.list.neg) (length x.bounds)
  whole-lies =
      let t = whole-told in
      let w = get_or x.list.words at.place [] in
      let l = within-says at (point_in w).figures (bounds_in w) (length x.list.pos) (length x.list.neg) t.counts in
      let p = ap (λ (y : Entry). y.next.pos) t.entry in
      let n = ap (λ (y : Entry). y.next.neg) t.entry in
      record {
        pos = omega (arith, p);
        pos_end = omega (arith, p, l.0);
        neg = omega (arith, n);
        neg_end = omega (arith, n, l.1);
        bounds = found.1;
      }

-- as many bounds as the span says
pub bounds-long : (s : Span) (bounds : List Float) → s.start + s.len ≤ length bounds → length (bounds_at s bounds) ≡ s.len
bounds-long s bounds h = length-take-le s.len _ (omega (arith, h, length-drop s.start bounds))

-- ---- the parts that the code lends are the stored points' bounds and rows

part-is : (k n : ℕ) → k + n - k ≡ n
part-is k n = omega arith

module _ (size : ℕ) (a : Cursor) (e : Entry) (abounds : List Float) (x : Output) (b : Cursor) (f : Entry) (bbounds : List Float) (y : Output) where
  abbrev parts_of : Cursor → Entry → List Float → Output → ℕ → Stored
  parts_of at d bounds z k =
      stored_in d.point (take k (drop d.bounds.start bounds)) (between at.pos d.next.pos z.pos) (between at.neg d.next.neg z.neg)

  pub lent_law : (r : Said Point) (us vs us' vs' : List ℕ)
      → ended r (take (e.bounds.start + e.bounds.len - e.bounds.start) (drop e.bounds.start abounds)) us' vs'
      ≡ merging size
      (stored_in e.point (take (e.bounds.start + e.bounds.len - e.bounds.start) (drop e.bounds.start abounds))
      (between a.pos e.next.pos x.pos) (between a.neg e.next.neg x.neg))
      (stored_in f.point (take (f.bounds.start + f.bounds.len - f.bounds.start) (drop f.bounds.start bbounds))
      (between b.pos f.next.pos y.pos) (between b.neg f.next.neg y.neg))
      us vs
      → ended r (bounds_at e.bounds abounds) us' vs' ≡ merging size (stored_at a e abounds x) (stored_at b f bbounds y) us vs
  unfolding pick
  lent_law r us vs us' vs' h =
      let v = part-is e.bounds.start e.bounds.len in
      let w = part-is f.bounds.start f.bounds.len in
      (λ i. ended r (take (sym v i) (drop e.bounds.start abounds)) us' vs')
      ∙ h
      ∙ (λ i. merging size (parts_of a e abounds x (v i)) (parts_of b f bbounds y (w i)) us vs)

  pub asked_law : (n : ℕ)
      → n ≡ refusal_before size (parts_of a e abounds x (e.bounds.start + e.bounds.len - e.bounds.start))
      (parts_of b f bbounds y (f.bounds.start + f.bounds.len - f.bounds.start))
      → n ≡ refusal_before size (stored_at a e abounds x) (stored_at b f bbounds y)
  unfolding pick
  asked_law n h =
      let v = part-is e.bounds.start e.bounds.len in
      let w = part-is f.bounds.start f.bounds.len in
      h ∙ (λ i. refusal_before size (parts_of a e abounds x (v i)) (parts_of b f bbounds y (w i)))
