-- THE LAWS over i64: listed points of i64 values merge as the stored points that they are, and the output then holds the merged point with the first's
-- set. Rows, room and figures are those of the shadows (Merges). Assumes nothing.
use Prim.Native.Nat.{ℕ, suc, ◌-◌, ◌^◌, ◌<◌}
use mathlib.Core.Path.{◌≡◌, refl, sym, ap, subst, ◌∙◌}
use mathlib.Core.Logic.{⊎_elim}
use mathlib.Core.Bool.{Bool, true, false}
use mathlib.Core.List.{List, []}
use native.Mathlib.Omega.{arith}
use borrow.Author.Tests.{lt-ltb, ltb-false}
use lib.Dec.{ltb, leb}
use lib.IntN.{ℤ, pos, negsuc, ◌+ℤ◌}
use lib.ListN.{length, get_or, drop}
use Rattle.laws.specs.Pick.{pick}
use Rattle.laws.specs.Said.{Said, refusal, success}
use Rattle.laws.specs.Over.{over}
use Rattle.laws.proofs.Cases.{true-not-false}
use Rattle.floats.specs.Starts.{zero_float}
use Rattle.integers.specs.Answers.{in_range, of_bits, sum_of, smaller_of, larger_of}
use Rattle.std.specs.Prelude.{Option, Some, None}
use Rattle.points.specs.Handed.{merge_counts, pos_of, neg_of}
use Rattle.point.specs.Handing as Q
use Rattle.whole_point.specs.Handing.{Stored, stored_in, handed_in, shadow_stored, Outcome, merging}
use Rattle.whole_point.proofs.Call.{outside_law}
use Rattle.listing.specs.Listed.{Output}
use Rattle.listing.specs.declared.Cursor.{Cursor}
use Rattle.whole_listing.specs.Words.{extreme_in, point_in}
use Rattle.whole_listing.specs.Listed.{put_at, stored_at}
use Rattle.whole_listing.specs.declared.Entry.{Entry}
use Rattle.whole_listing.proofs.Back.{Ranged, Held}
use Rattle.pooling.specs.Lists as Lists
use Rattle.pooling.specs.Lists.{Source, integer_at, has_place, put_merged_whole, pooled_at, HoldsWhole}
use Rattle.pooling.specs.Entries.{shadow_entry}
use Rattle.pooling.proofs.Whole.{bounds-long}
use Rattle.pooling.proofs.Integers.{shadowed, shadow-whole, integer-told, integer-lies}
use Rattle.pooling.proofs.Verdicts.{point, Turned, Taken, verdict}
use Rattle.pooling.proofs.Placed.{is_success, place-says}
use Rattle.pooling.proofs.Shadows.{shown-smaller, shown-larger, placed, whole, turned-whole, taken-whole}
use Rattle.pooling.proofs.Calls.{both-wholes}
use Rattle.pooling.proofs.PutBack.{whole-set-back, whole-there, whole-stored}
use Rattle.pooling.proofs.Merges as Reals
use Rattle.pooling.proofs.Merges.{own-counts}

-- ---- the numbers of points that were read, and of merged points, are i64s

by-half : (t : Bool) (n : ℕ) → ltb n (2 ^ 63) ≡ t → in_range (pick t (pos n) (negsuc (2 ^ 64 - suc n))) ≡ true
unfolding pick
by-half true n e = e
by-half false n e = lt-ltb (2 ^ 64 - suc n) (2 ^ 63) (omega (arith, ltb-false n (2 ^ 63) e))

bits_range : (n : ℕ) → in_range (of_bits n) ≡ true
unfolding of_bits
bits_range n = by-half (ltb n (2 ^ 63)) n refl

ranged_in : (s : Bool) (n : ℕ) → Ranged (extreme_in s n)
unfolding extreme_in pick
ranged_in true n = bits_range n
ranged_in false n = tt

either_ranged : (t : Bool) (x y : ℤ) → in_range x ≡ true → in_range y ≡ true → in_range (pick t x y) ≡ true
unfolding pick
either_ranged true x y p q = p
either_ranged false x y p q = q

ranged-smaller : (u v : Option ℤ) → Ranged u → Ranged v → Ranged (smaller_of u v)
ranged-smaller None v p q = q
ranged-smaller (Some x) None p q = p
ranged-smaller (Some x) (Some y) p q = either_ranged _ y x q p

ranged-larger : (u v : Option ℤ) → Ranged u → Ranged v → Ranged (larger_of u v)
ranged-larger None v p q = q
ranged-larger (Some x) None p q = p
ranged-larger (Some x) (Some y) p q = either_ranged _ y x q p

abbrev total_or : ℤ → Option ℤ → ℤ
total_or d None = d
total_or d (Some s) = s

abbrev is_in : Option ℤ → Bool
is_in None = false
is_in (Some s) = true

by-range : (t : Bool) (z s : ℤ) → in_range z ≡ t → pick t (Some z) None ≡ Some s → in_range s ≡ true
unfolding pick
by-range true z s e h = subst (λ (k : ℤ). in_range k ≡ true) (ap (total_or z) h) e
by-range false z s e h = true-not-false (sym (ap is_in h))

sum-range : (x y s : ℤ) → sum_of x y ≡ Some s → in_range s ≡ true
unfolding sum_of
sum-range x y s h = by-range (in_range (x +ℤ y)) (x +ℤ y) s refl h

-- ---- what a successful merge has made

abbrev stored_or : Stored → Said Stored → Stored
stored_or d (refusal n) = d
stored_or d (success z) = z

-- the sum is an i64, and the shadows were merged
record Took (size : ℕ) (x y : Stored) (us vs : List ℕ) : Type 0 where
  sum : ℤ
  total : sum_of x.point.sum y.point.sum ≡ Some sum
  shadows : Taken size (shadow_stored x) (shadow_stored y) us vs

module _ (size : ℕ) (x y : Stored) (us vs : List ℕ) (z : Stored) (g : (merging size x y us vs).answer ≡ success z) where
  not-refused : {A : Type 0} (n : ℕ) → (merging size x y us vs).answer ≡ refusal n → A
  not-refused n e = true-not-false (sym (ap is_success (sym e ∙ g)))

  took : Took size x y us vs
  took = go (sum_of x.point.sum y.point.sum) refl
    where
      go : (k : Option ℤ) → sum_of x.point.sum y.point.sum ≡ k → Took size x y us vs
      go None t = not-refused _ (sym (ap (λ (m : Outcome). m.answer) (outside_law size x y us vs t _ _ refl refl)))
      go (Some s) t =
          ⊎_elim (λ (k : (n : ℕ) × Turned size (shadow_stored x) (shadow_stored y) us vs n). not-refused k.0 (turned-whole size x y us vs s t k.0 k.1))
          (λ (k : Taken size (shadow_stored x) (shadow_stored y) us vs). record { sum = s; total = t; shadows = k })
          (verdict size (shadow_stored x) (shadow_stored y) us vs)

-- a point that was read has i64s for extremes
ranged-min : (w : List ℕ) → Ranged (point_in w).min
unfolding point_in
ranged-min w = ranged_in (leb 2 (get_or w 8 0)) (get_or w 9 0)

ranged-max : (w : List ℕ) → Ranged (point_in w).max
unfolding point_in
ranged-max w = ranged_in (leb 2 (get_or w 8 0)) (get_or w 10 0)

module _ (at : Cursor) (x : Source) (e : Entry) (p : integer_at at x ≡ Some e) where
  min_in : Ranged e.point.min
  min_in = subst (λ (d : Entry). Ranged d.point.min) (integer-told at x e p).entry (ranged-min (get_or x.list.words at.place []))

  max_in : Ranged e.point.max
  max_in = subst (λ (d : Entry). Ranged d.point.max) (integer-told at x e p).entry (ranged-max (get_or x.list.words at.place []))

-- ---- the laws

module _ (size : ℕ) (a : Cursor) (x : Source) (b : Cursor) (y : Source) (at : Cursor) (o : Output) (e f : Entry)
    (s : a.place < length x.list.sets) (p : integer_at a x ≡ Some e) (q : integer_at b y ≡ Some f) (h : has_place at o ≡ true) where
  abbrev first : Stored
  first = stored_at a e x.bounds x.list

  abbrev second : Stored
  second = stored_at b f y.bounds y.list

  abbrev us : List ℕ
  us = drop at.pos o.pos

  abbrev vs : List ℕ
  vs = drop at.neg o.neg

  abbrev row : List ℕ
  row = get_or x.list.sets a.place []

  -- (2) LISTED POINTS MERGE AS STORED ONES
  pub wholes_as-stored : pooled_at size a x b y at o
      ≡ put_merged_whole at (get_or x.list.sets a.place []) e.bounds o
      (merging size (stored_at a e x.bounds x.list) (stored_at b f y.bounds y.list) (drop at.pos o.pos) (drop at.neg o.neg)).answer
  wholes_as-stored = sym (both-wholes size a x b y at o s e f p q) ∙ placed size row e.bounds first second at o h

  module _ (z : Stored)
      (g : (merging size (stored_at a e x.bounds x.list) (stored_at b f y.bounds y.list) (drop at.pos o.pos) (drop at.neg o.neg)).answer ≡ success z) where
    t : Took size first second us vs
    t = took size first second us vs z g

    -- the merged shadow, and the merged point
    abbrev shade : Q.Stored
    shade =
        Q.stored_in (point size (shadow_stored first) (shadow_stored second)) first.bounds
        (over (pos_of (merge_counts size (Q.counts_in (shadow_stored first)) (Q.counts_in (shadow_stored second)))) us)
        (over (neg_of (merge_counts size (Q.counts_in (shadow_stored first)) (Q.counts_in (shadow_stored second)))) vs)

    shaded : (Q.merging size (shadow_stored first) (shadow_stored second) us vs).answer ≡ success shade
    shaded = ap (λ (m : Q.Outcome). m.answer) t.shadows.is

    abbrev made : Stored
    made = stored_in (whole size first second us vs t.sum t.total) first.bounds shade.pos shade.neg

    is_made : (merging size first second us vs).answer ≡ success made
    is_made = taken-whole size first second us vs t.sum t.total t.shadows

    held : Held made.point e.bounds
    held =
        let r = Reals.held size a (shadowed x) b (shadowed y) at o (shadow_entry e) (shadow_entry f) s (shadow-whole a x e p) (shadow-whole b y f q) h shade shaded in
        let u = e.point in
        let v = f.point in
        record {
          figures = r.figures;
          both = sym (shown-larger u.max v.max) ∙ r.both ∙ shown-smaller u.min v.min;
          min = ranged-smaller u.min v.min (min_in a x e p) (min_in b y f q);
          max = ranged-larger u.max v.max (max_in a x e p) (max_in b y f q);
          sum = sum-range u.sum v.sum t.sum t.total;
        }

    abbrev put : Output
    put = put_at at row made.point e.bounds made.pos made.neg o

    put_holds : HoldsWhole at row e.bounds x.bounds made put
    put_holds =
        let w = place-says at (length o.sets) (length o.words) (length o.pos) (length o.neg) h in
        let k = made.point in
        let c = shadow-whole a x e p in
        let d = shadow-whole b y f q in
        let i = Reals.pos-there size a (shadowed x) b (shadowed y) at o (shadow_entry e) (shadow_entry f) s c d h shade shaded in
        let j = Reals.neg-there size a (shadowed x) b (shadowed y) at o (shadow_entry e) (shadow_entry f) s c d h shade shaded in
        let m = Reals.fits-pos size a (shadowed x) b (shadowed y) at o (shadow_entry e) (shadow_entry f) s c d h shade shaded in
        let n = Reals.fits_neg size a (shadowed x) b (shadowed y) at o (shadow_entry e) (shadow_entry f) s c d h shade shaded in
        let r = whole-stored at row k e.bounds made.pos made.neg o held i j w.0 w.1 m n x.bounds in
        let long = bounds-long e.bounds x.bounds (integer-lies a x e p).bounds in
        let l = own-counts made.bounds e.bounds long made.pos made.neg k.figures in
        record {
          set = whole-set-back at row k e.bounds made.pos made.neg o held i j w.0 w.1 m n;
          point = whole-there at row k e.bounds made.pos made.neg o held i j w.0 w.1 m n;
          stored = r;
          reads = ap handed_in r ∙ (λ i. record { counts = l i; extremes = k.extremes; threshold = zero_float; min = k.min; max = k.max; sum = k.sum });
        }

    is-put : (pooled_at size a x b y at o).output ≡ put
    is-put = ap (λ (k : Lists.Outcome). k.output) (wholes_as-stored ∙ ap (put_merged_whole at row e.bounds o) is_made)

    -- (1) THE OUTPUT HOLDS THE MERGED POINT, with the first's set and bounds
    pub wholes-hold : HoldsWhole at (get_or x.list.sets a.place []) e.bounds x.bounds z (pooled_at size a x b y at o).output
    wholes-hold =
        subst (λ (k : Stored). HoldsWhole at row e.bounds x.bounds k (pooled_at size a x b y at o).output) (ap (stored_or z) (sym is_made ∙ g))
        (subst (HoldsWhole at row e.bounds x.bounds made) (sym is-put) put_holds)
