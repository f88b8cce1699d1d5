-- THE LAWS: listed points merge as the stored points that they are, and the output then holds the merged point with the first's set. Assumes nothing.
use Prim.Native.Nat.{ℕ, ◌+◌, ◌-◌, ◌≤◌, ◌<◌}
use mathlib.Core.Path.{◌≡◌, sym, ap, subst, ◌∙◌}
use mathlib.Core.Logic.{⊎_elim}
use mathlib.Core.Bool.{true}
use mathlib.Core.List.{List, []}
use native.Mathlib.Omega.{arith}
use lib.ListN.{length, get_or, take, drop, length-drop}
use lib.Seq.{take-take}
use lib.Ieee.{Float}
use Rattle.laws.specs.Said.{Said, refusal, success}
use Rattle.laws.proofs.Cases.{true-not-false}
use Rattle.laws.proofs.Over.{length_over}
use Rattle.index.specs.Bins.{finest}
use Rattle.floats.specs.Starts.{zero_float}
use Rattle.points.specs.Explicit.{bucket_count}
use Rattle.points.specs.Figures.{exponential_counts, explicit_counts}
use Rattle.points.specs.Handed.{merge_counts, pos_of, neg_of}
use Rattle.point.specs.declared.Figures.{Figures}
use Rattle.point.specs.declared.Figures.TheVariants.{Exponential, Explicit}
use Rattle.point.specs.Handing.{Stored, stored_in, counts_as, counts_in, handed_in, Outcome, merging}
use Rattle.listing.specs.Listed.{Output, pos_len, neg_len, put_at, bounds_at, stored_at}
use Rattle.listing.specs.declared.Cursor.{Cursor}
use Rattle.listing.specs.declared.Entry.{Entry}
use Rattle.std.specs.Prelude.{Some}
use Rattle.listing.specs.declared.Span.{Span}
use Rattle.listing.proofs.Back.{Held}
use Rattle.pooling.specs.Lists as Lists
use Rattle.pooling.specs.Lists.{Source, whole_at, has_place, put_merged, pooled_at, Holds}
use Rattle.pooling.proofs.Whole.{whole-told, whole-lies, bounds-long}
use Rattle.pooling.proofs.Verdicts.{buckets-are, Turned, Taken, verdict, enough}
use Rattle.pooling.proofs.Placed.{Took, is_success, place-says, with-place}
use Rattle.pooling.proofs.Calls.{both}
use Rattle.pooling.proofs.PutBack.{set_back, point-there, stored_there}
use Rattle.pooling.proofs.Held.{Read, words-read, merged-held}

-- ---- a merged point's own counts are all that is read of it

module _ (bs : List Float) (b : Span) (l : length bs ≡ b.len) (xs ys : List ℕ) where
  pub own-counts : (f : Figures) → counts_as f bs (take (pos_len f b) xs) (take (neg_len f) ys) ≡ counts_as f bs xs ys
  own-counts (Exponential c) =
      let p = take-take c.pos.len c.pos.len xs (omega arith) in
      let n = take-take c.neg.len c.neg.len ys (omega arith) in
      λ i.
      exponential_counts (record {
        d = finest - c.level;
        pos = record { start = c.pos.start; counts = p i };
        neg = record { start = c.neg.start; counts = n i };
        zeros = c.zeros;
        total = c.count;
      })
  own-counts (Explicit n) =
      let e = buckets-are bs b.len l in
      let t = ap (λ (k : ℕ). take (bucket_count bs) (take k xs)) e ∙ take-take (bucket_count bs) (bucket_count bs) xs (omega arith) in
      λ i. explicit_counts bs (record { counts = t i; total = n })

-- ---- what a successful merge has made

abbrev stored_or : Stored → Said Stored → Stored
stored_or d (refusal n) = d
stored_or d (success z) = z

module _ (size : ℕ) (x y : Stored) (us vs : List ℕ) (b : Span) (l : length x.bounds ≡ b.len) (z : Stored) (h : (merging size x y us vs).answer ≡ success z) where
  pub made : Took size x y us vs b z.point z.pos z.neg × (z.bounds ≡ x.bounds)
  made =
      ⊎_elim
      (λ (t : (k : ℕ) × Turned size x y us vs k). true-not-false (sym (ap is_success (sym (ap (λ (o : Outcome). o.answer) t.1.is) ∙ h))))
      (λ (t : Taken size x y us vs).
      let q = ap (stored_or z) (sym h ∙ ap (λ (o : Outcome). o.answer) t.is) in
      let e = ap (λ (s : Stored). s.point) q in
      let m = enough size x y t.free b l in (
        record {
          free = t.free;
          is = e;
          pos = ap (λ (s : Stored). s.pos) q;
          neg = ap (λ (s : Stored). s.neg) q;
          many = m.pos ∙ ap (λ (p : _). pos_len p.figures b) (sym e);
          many_neg = m.neg ∙ ap (λ (p : _). neg_len p.figures) (sym e);
          room = t.pos;
          room_neg = t.neg;
        },
        ap (λ (s : Stored). s.bounds) q,
      ))
      (verdict size x y us vs)

-- ---- the laws

module _ (size : ℕ) (a : Cursor) (x : Source) (b : Cursor) (y : Source) (at : Cursor) (o : Output) (e f : Entry)
    (s : a.place < length x.list.sets) (p : whole_at a x ≡ Some e) (q : whole_at b y ≡ Some f) (h : has_place at o ≡ true) where
  abbrev first : Stored
  first = stored_at a e x.bounds x.list

  abbrev second : Stored
  second = stored_at b f y.bounds y.list

  abbrev us : List ℕ
  us = drop at.pos o.pos

  abbrev vs : List ℕ
  vs = drop at.neg o.neg

  abbrev row : List ℕ
  row = get_or x.list.sets a.place []

  long : length (bounds_at e.bounds x.bounds) ≡ e.bounds.len
  long = bounds-long e.bounds x.bounds (whole-lies a x e p).bounds

  -- (2) LISTED POINTS MERGE AS STORED ONES: `mergedStored` of crate `merging` is this answer of `merging`, put at the cursor
  pub as-stored : pooled_at size a x b y at o
      ≡ put_merged at (get_or x.list.sets a.place []) e.bounds o
      (merging size (stored_at a e x.bounds x.list) (stored_at b f y.bounds y.list) (drop at.pos o.pos) (drop at.neg o.neg)).answer
  as-stored = sym (with-place size first second at row e.bounds long o h ∙ both size a x b y at o s e f p q)

  module _ (z : Stored)
      (g : (merging size (stored_at a e x.bounds x.list) (stored_at b f y.bounds y.list) (drop at.pos o.pos) (drop at.neg o.neg)).answer ≡ success z) where
    abbrev put : Output
    put = put_at at row z.point e.bounds z.pos z.neg o

    is-put : (pooled_at size a x b y at o).output ≡ put
    is-put = ap (λ (k : Lists.Outcome). k.output) (as-stored ∙ ap (put_merged at row e.bounds o) g)

    took : Took size first second us vs e.bounds z.point z.pos z.neg
    took = (made size first second us vs e.bounds long z g).0

    same-bounds : z.bounds ≡ bounds_at e.bounds x.bounds
    same-bounds = (made size first second us vs e.bounds long z g).1

    pub held : Held z.point e.bounds
    held =
        let t = whole-told a x e p in
        let u = whole-told b y f q in
        subst (λ k. Held k e.bounds) (sym took.is)
        (merged-held size first second e.bounds took.free
        (subst (λ (d : Entry). Read d.point d.bounds) t.entry (words-read (get_or x.list.words a.place [])))
        f.bounds
        (subst (λ (d : Entry). Read d.point d.bounds) u.entry (words-read (get_or y.list.words b.place []))))

    pub pos-there : pos_len z.point.figures e.bounds ≤ length z.pos
    pos-there =
        let t = took in
        let c = pos_of (merge_counts size (counts_in first) (counts_in second)) in
        omega (arith, t.many, ap length t.pos, length_over c us t.room, t.room)

    pub neg-there : neg_len z.point.figures ≤ length z.neg
    neg-there =
        let t = took in
        let c = neg_of (merge_counts size (counts_in first) (counts_in second)) in
        omega (arith, t.many_neg, ap length t.neg, length_over c vs t.room_neg, t.room_neg)

    pub fits-pos : at.pos + pos_len z.point.figures e.bounds ≤ length o.pos
    fits-pos =
        let w = place-says at (length o.sets) (length o.words) (length o.pos) (length o.neg) h in
        omega (arith, took.many, took.room, length-drop at.pos o.pos, w.2)

    pub fits_neg : at.neg + neg_len z.point.figures ≤ length o.neg
    fits_neg =
        let w = place-says at (length o.sets) (length o.words) (length o.pos) (length o.neg) h in
        omega (arith, took.many_neg, took.room_neg, length-drop at.neg o.neg, w.3)

    put_holds : Holds at row e.bounds x.bounds z put
    put_holds =
        let w = place-says at (length o.sets) (length o.words) (length o.pos) (length o.neg) h in
        let p = z.point in
        let t = stored_there at row p e.bounds z.pos z.neg o held pos-there neg-there w.0 w.1 fits-pos fits_neg x.bounds
        ∙ ap (λ (bs : List Float). stored_in p bs (take (pos_len p.figures e.bounds) z.pos) (take (neg_len p.figures) z.neg)) (sym same-bounds) in
        let c = own-counts z.bounds e.bounds (ap length same-bounds ∙ long) z.pos z.neg p.figures in
        record {
          set = set_back at row p e.bounds z.pos z.neg o held pos-there neg-there w.0 w.1 fits-pos fits_neg;
          point = point-there at row p e.bounds z.pos z.neg o held pos-there neg-there w.0 w.1 fits-pos fits_neg;
          stored = t;
          reads = ap handed_in t ∙ (λ i. record { counts = c i; extremes = p.extremes; threshold = zero_float; min = p.min; max = p.max; sum = p.sum });
        }

    -- (1) THE OUTPUT HOLDS THE MERGED POINT, with the first's set and bounds
    pub holds : Holds at (get_or x.list.sets a.place []) e.bounds x.bounds z (pooled_at size a x b y at o).output
    holds = subst (Holds at row e.bounds x.bounds z) (sym is-put) put_holds
