-- What is taken from a list of points: what listing finds there, so many of them, and held in u32, u64 and f64. Assumes nothing.
use Prim.Native.Nat.{ℕ, zero, suc, ◌+◌, ◌<◌}
use mathlib.Core.Path.{◌≡◌, refl, sym, ap, subst, ◌∙◌}
use mathlib.Core.Bool.{Bool, true, false, ◌&&◌}
use mathlib.Core.List.{List, [], ◌∷◌}
use mathlib.Core.Option.{Option, none, some, map}
use native.Mathlib.Omega.{arith}
use borrow.Author.Tests.{ltb-true}
use lib.Dec.{leb, ltb}
use lib.ListN.{length, get_or, take, drop, take-append-drop}
use lib.Ieee.{Float, binary64, fits, of_bits}
use lib.Ieee.Bits.{is_true, of_bits-fits}
use Rattle.laws.specs.Pick.{pick}
use Rattle.laws.specs.Lists.{All}
use Rattle.laws.proofs.Bools.{and_left}
use Rattle.laws.proofs.Cases.{some_inj, none-not-some}
use Rattle.laws.proofs.Lists.{all_left, all_right}
use Rattle.tally.specs.Sets.{Set}
use Rattle.sets.specs.Rows.{size, set_of, row_of}
use Rattle.point.specs.Handing.{Stored}
use Rattle.listing.specs.Words.{point_in, bounds_in}
use Rattle.listing.specs.Listed.{Output, behind, point_at, stored_at, found_at, read_from}
use Rattle.listing.specs.declared.Cursor.{Cursor}
use Rattle.listing.specs.declared.Entry as F
use Rattle.std.specs.Prelude.{Some, None}
use Rattle.std.specs.Prelude as Std
use Rattle.pooling.specs.Lists.{Source, bounded, whole_at}
use Rattle.pooling.proofs.Whole.{whole-told}
use Rattle.pooling.proofs.Held.{words-read}
use Rattle.sheets.specs.Entries.{Entry}
use Rattle.sheets.specs.Sheet.{same_list}
use Rattle.sheets.specs.Lists.{Lent, whole_found, listed}
use Rattle.sheets.proofs.Back.{HeldEntry}
use Rattle.sheets.proofs.Holds.{all_words, lendable}

-- ---- a reading of one point more, cut into its first and the others

module _ {A : Type 0} (found : Cursor → Output → Option (A × Cursor)) (n : ℕ) (at : Cursor) (o : Output) (es : List (Set × A)) where
  record Cut : Type 0 where
    first : A × Cursor
    rest : List (Set × A)
    is : found at o ≡ some first
    more : read_from found n first.1 o ≡ some rest
    all : (set_of (get_or o.sets at.place []), first.0) ∷ rest ≡ es

  by-rest : (z : A × Cursor) (r : Option (List (Set × A))) → found at o ≡ some z → read_from found n z.1 o ≡ r
      → map (λ l. (set_of (get_or o.sets at.place []), z.0) ∷ l) r ≡ some es → Cut
  by-rest z none e f h = none-not-some h
  by-rest z (some l) e f h = record { first = z; rest = l; is = e; more = f; all = some_inj h }

  by_first : (r : Option (A × Cursor)) → found at o ≡ r
      → elim r [ none ↦ none | some x ↦ map (λ l. (set_of (get_or o.sets at.place []), x.0) ∷ l) (read_from found n x.1 o) ] ≡ some es → Cut
  by_first none e h = none-not-some h
  by_first (some z) e h = by-rest z (read_from found n z.1 o) e refl h

  cut : read_from found (suc n) at o ≡ some es → Cut
  cut h = by_first (found at o) refl h

-- ---- a point that is found whole

-- its set's row is there, and its words, counts and bounds
record Took (bounds : List Float) (at : Cursor) (o : Output) (z : Stored × Cursor) : Type 0 where
  place : at.place < length o.sets
  entry : F.Entry
  whole : whole_at at (record { list = o; bounds = bounds }) ≡ Some entry
  is : (stored_at at entry bounds o, entry.next) ≡ z

module _ (bounds : List Float) (at : Cursor) (o : Output) (z : Stored × Cursor) where
  abbrev x : Source
  x = record { list = o; bounds = bounds }

  by_whole : (t : Bool) (f : Std.Option F.Entry) → (t ≡ true → at.place < length o.sets) → whole_at at (record { list = o; bounds = bounds }) ≡ f
      → pick t (elim f [ None ↦ none | Some e ↦ some (stored_at at e bounds o, e.next) ]) none ≡ some z → Took bounds at o z
  unfolding pick
  by_whole true None p e h = none-not-some h
  by_whole true (Some y) p e h = record { place = p refl; entry = y; whole = e; is = some_inj h }
  by_whole false f p e h = none-not-some h

  took : whole_found bounds at o ≡ some z → Took bounds at o z
  took h =
      let row = get_or o.sets at.place [] in
      by_whole (ltb at.place (length o.sets) && same_list (row_of (set_of row)) row) (whole_at at x)
      (λ t. ltb-true at.place (length o.sets) (and_left (ltb at.place (length o.sets)) (same_list (row_of (set_of row)) row) t)) refl h

-- ---- listing finds it too

by-room : {B : Type 0} (t : Bool) (y : F.Entry) (g : F.Entry → B) (b : B)
    → elim (pick {A = (Std.Option F.Entry)} t (Some y) None) [ None ↦ none | Some e ↦ some (g e) ] ≡ some b → some (g y) ≡ some b
unfolding pick
by-room true y g b h = h
by-room false y g b h = none-not-some h

bounded-found : {B : Type 0} (n : ℕ) (f : Std.Option F.Entry) (g : F.Entry → B) (b : B) → elim (bounded n f) [ None ↦ none | Some e ↦ some (g e) ] ≡ some b
    → elim f [ None ↦ none | Some e ↦ some (g e) ] ≡ some b
bounded-found n None g b h = h
bounded-found n (Some y) g b h = by-room (leb (y.bounds.start + y.bounds.len) n) y g b h

whole-found : (bounds : List Float) (at : Cursor) (o : Output) (z : Stored × Cursor) → whole_found bounds at o ≡ some z → found_at bounds at o ≡ some z
whole-found bounds at o z h =
    let t = took bounds at o z h in
    bounded-found (length bounds) (point_at at o.words (length o.pos) (length o.neg)) (λ e. (stored_at at e bounds o, e.next)) z
    (ap (λ (f : Std.Option F.Entry). elim f [ None ↦ none | Some e ↦ some (stored_at at e bounds o, e.next) ]) t.whole ∙ ap some t.is)

found_from : (bounds : List Float) (o : Output) (n : ℕ) (at : Cursor) (es : List Entry)
    → read_from (whole_found bounds) n at o ≡ some es → read_from (found_at bounds) n at o ≡ some es
found_from bounds o zero at es h = h
found_from bounds o (suc n) at es h =
    let c = cut (whole_found bounds) n at o es h in
    let s = set_of (get_or o.sets at.place []) in
    ap (λ (r : Option (Stored × Cursor)). elim r [ none ↦ none | some x ↦ map (λ l. (s, x.0) ∷ l) (read_from (found_at bounds) n x.1 o) ])
    (whole-found bounds at o c.first c.is)
    ∙ ap (map (λ l. (s, c.first.0) ∷ l)) (found_from bounds o n c.first.1 c.rest c.more)
    ∙ ap some c.all

-- what is taken from a list, listing reads there
pub listed_found : (n : ℕ) (x : Source) (es : List Entry) → listed n x ≡ some es
    → read_from (found_at x.bounds) n (record { place = 0; pos = 0; neg = 0 }) x.list ≡ some es
listed_found n x es h = found_from x.bounds x.list n (record { place = 0; pos = 0; neg = 0 }) es h

-- ---- so many

length_from : {A : Type 0} (found : Cursor → Output → Option (A × Cursor)) (o : Output) (n : ℕ) (at : Cursor) (es : List (Set × A))
    → read_from found n at o ≡ some es → length es ≡ n
length_from found o zero at es h = ap length (sym (some_inj h))
length_from found o (suc n) at es h =
    let c = cut found n at o es h in
    ap length (sym c.all) ∙ ap suc (length_from found o n c.first.1 c.rest c.more)

pub listed-length : (n : ℕ) (x : Source) (es : List Entry) → listed n x ≡ some es → length es ≡ n
listed-length n x es h = length_from (whole_found x.bounds) x.list n (record { place = 0; pos = 0; neg = 0 }) es h

-- ---- each of them

-- what holds of a point that is found holds of all that are taken
each_from : (Q : Entry → Type 0) (bounds : List Float) (o : Output)
    → ((at : Cursor) (z : Stored × Cursor) → Took bounds at o z → Q (set_of (get_or o.sets at.place []), z.0))
    → (n : ℕ) (at : Cursor) (es : List Entry) → read_from (whole_found bounds) n at o ≡ some es → All Q es
unfolding All
each_from Q bounds o q zero at es h = subst (All Q) (some_inj h) tt
each_from Q bounds o q (suc n) at es h =
    let c = cut (whole_found bounds) n at o es h in
    subst (All Q) c.all (q at c.first (took bounds at o c.first c.is), each_from Q bounds o q n c.first.1 c.rest c.more)

-- the entry that twelve words are
abbrev entry_in : Cursor → List ℕ → F.Entry
entry_in at w = record { point = point_in w; bounds = bounds_in w; next = behind at (point_in w).figures (bounds_in w) }

module _ (bounds : List Float) (o : Output) (at : Cursor) (z : Stored × Cursor) (t : Took bounds at o z) where
  abbrev src : Source
  src = record { list = o; bounds = bounds }

  abbrev w : List ℕ
  w = get_or o.words at.place []

  -- what holds of the point that the words are holds of that which is taken
  by-words : (P : Stored → Type 0) → P (stored_at at (entry_in at (get_or o.words at.place [])) bounds o) → P z.0
  by-words P p =
      subst (λ (y : Stored × Cursor). P y.0) t.is (subst (λ (e : F.Entry). P (stored_at at e bounds o)) (whole-told at src t.entry t.whole).entry p)

-- ---- what can be lent: rows of u64s, f64s

all-at : {A : Type 0} (P : A → Type 0) (l : List A) (d : A) → All P l → (i : ℕ) → i < length l → P (get_or l i d)
unfolding All
all-at P [] d a i h = absurd (omega arith)
all-at P (x ∷ l) d a zero h = a.0
all-at P (x ∷ l) d a (suc i) h = all-at P l d a.1 i (omega arith)

all-part : {A : Type 0} (P : A → Type 0) (l : List A) (a n : ℕ) → All P l → All P (take n (drop a l))
all-part P l a n h =
    let r = drop a l in
    all_left P (take n r) (drop n r)
    (subst (All P) (sym (take-append-drop n r)) (all_right P (take a l) r (subst (All P) (sym (take-append-drop a l)) h)))

took-held : (x : Source) → Lent x → (at : Cursor) (z : Stored × Cursor) → Took x.bounds at x.list z
    → HeldEntry (set_of (get_or x.list.sets at.place []), z.0)
unfolding set_of point_in
took-held x l at z t =
    let row = get_or x.list.sets at.place [] in
    let w = get_or x.list.words at.place [] in
    by-words x.bounds x.list at z t (λ (s : Stored). HeldEntry (set_of row, s))
    (record {
      set = lendable row (all_words row (all-at (All (λ (k : ℕ). k < 18446744073709551616)) x.list.sets [] l.sets at.place t.place)) 0 (size row);
      min = (words-read w).min;
      max = (words-read w).max;
      sum = is_true (fits binary64 (of_bits binary64 (get_or w 11 0))) (of_bits-fits binary64 (get_or w 11 0));
      bounds = all-part (λ (b : Float). fits binary64 b ≡ true) x.bounds (bounds_in w).start (bounds_in w).len l.bounds;
    })

pub listed-held : (n : ℕ) (x : Source) (es : List Entry) → Lent x → listed n x ≡ some es → All HeldEntry es
listed-held n x es l h = each_from HeldEntry x.bounds x.list (took-held x l) n (record { place = 0; pos = 0; neg = 0 }) es h
