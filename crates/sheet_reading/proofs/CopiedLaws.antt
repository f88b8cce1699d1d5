-- Copying the entries of a sheet that was judged fine lays its points out in the stores. Assumes nothing.
use Prim.Native.Nat.{ℕ, zero, suc, ◌+◌, ◌≤◌, ◌<◌}
use mathlib.Core.Path.{◌≡◌, refl, sym, ap, ap₂, ◌∙◌}
use mathlib.Core.Bool.{true}
use mathlib.Core.List.{List, [], ◌∷◌, ◌++◌, map, append_assoc, append-nil}
use native.Mathlib.Omega.{arith}
use lib.Ieee.{Float, binary64, of_bits}
use lib.ListN.{length, set, take, drop, length-append}
use lib.Seq.{drop-drop}
use Rattle.laws.specs.Over.{over}
use Rattle.laws.proofs.Over.{over-snoc}
use Rattle.sets.specs.Rows.{row_of}
use Rattle.listing.specs.Words.{words_of, point_in}
use Rattle.listing.specs.Listed.{over_at}
use Rattle.listing.proofs.Lists.{over-behind-front}
use Rattle.pooling.specs.Lists.{Source}
use Rattle.records.specs.Records.{width, cells}
use Rattle.records.specs.Inner.{run}
use Rattle.records.proofs.Found.{run_is}
use Rattle.sheets.specs.Entries.{Entry, head_in, stored_from, entry_of, entry_len, entries_of}
use Rattle.sheets.specs.Inner.{entry_at}
use Rattle.sheets.specs.Lists.{joined, words_from, laid_out}
use Rattle.sheet_reading.specs.Inner.{floats_at, sizes_of, words_in, more, judged_from, nothing, judged, copied_entry, copied, Copyable}
use Rattle.std.specs.Prelude.{Some}
use Rattle.sheet_reading.specs.declared.judge.Sizes.{Sizes}
use Rattle.sheet_reading.proofs.CopyLaws.{length_run, length_floats}
use Rattle.sheet_reading.proofs.EntryLaws.{entry_row, entry-within}
use Rattle.sheet_reading.proofs.SizeLaws.{width-least}
use Rattle.sheet_reading.proofs.WalkLaws.{judged-entry, judged-rest, fits-says}

-- ---- one entry

-- an entry put at place i, behind what those before it take
abbrev put : ℕ → Sizes → Entry → Source → Source
put i y e o =
    record {
      list = record {
        sets = set o.list.sets i (row_of e.0);
        words = set o.list.words i (words_of e.1.point (record { start = y.bounds; len = length e.1.bounds }));
        pos = over_at y.pos e.1.pos o.list.pos;
        neg = over_at y.neg e.1.neg o.list.neg;
      };
      bounds = over_at y.bounds e.1.bounds o.bounds;
    }

module _ (s : List ℕ) (k : ℕ) (h : entry_at s k ≡ true) where
  abbrev l : List ℕ
  l = drop k (cells s)

  abbrev w : List ℕ
  w = head_in l

  abbrev z : Sizes
  z = sizes_of w

  abbrev c : ℕ
  c = k + (21 + width z.bounds)

  -- the words behind the head, and those of the counts
  behind : drop 21 l ≡ drop (k + 21) (cells s)
  behind = drop-drop 21 k (cells s)

  counts : drop (width z.bounds) (drop 21 l) ≡ drop c (cells s)
  counts = drop-drop (width z.bounds) 21 l ∙ drop-drop (21 + width z.bounds) k (cells s)

  -- bounds and counts of the entry are runs of words
  bounds-are : floats_at s (k + 21) z.bounds ≡ (entry_of l).1.bounds
  unfolding entry_of stored_from
  bounds-are =
      ap (map (of_bits binary64))
      (run_is s (k + 21) z.bounds (omega (arith, entry-within s k h, width-least z.bounds)) ∙ ap (take z.bounds) (sym behind))

  pos-are : run s c z.pos ≡ (entry_of l).1.pos
  unfolding entry_of stored_from
  pos-are = run_is s c z.pos (omega (arith, entry-within s k h, width-least (z.pos + z.neg))) ∙ ap (take z.pos) (sym counts)

  neg-are : run s (c + z.pos) z.neg ≡ (entry_of l).1.neg
  unfolding entry_of stored_from
  neg-are =
      run_is s (c + z.pos) z.neg (omega (arith, entry-within s k h, width-least (z.pos + z.neg)))
      ∙ ap (take z.neg) (sym (ap (drop z.pos) counts ∙ drop-drop z.pos c (cells s)))

  long-bounds : z.bounds ≡ length (entry_of l).1.bounds
  long-bounds = sym (length_floats s (k + 21) z.bounds) ∙ ap length bounds-are

  long-pos : z.pos ≡ length (entry_of l).1.pos
  long-pos = sym (length_run s c z.pos) ∙ ap length pos-are

  long-neg : z.neg ≡ length (entry_of l).1.neg
  long-neg = sym (length_run s (c + z.pos) z.neg) ∙ ap length neg-are

  row_is : take 9 l ≡ row_of (entry_of l).0
  unfolding entry_of
  row_is = entry_row s k h

  point-is : point_in w ≡ (entry_of l).1.point
  unfolding entry_of stored_from
  point-is = refl

  copied-one : (i : ℕ) (y : Sizes) (o : Source) → copied_entry s k i y o ≡ put i y (entry_of l) o
  unfolding copied_entry
  copied-one i y o j =
      record {
        list = record {
          sets = set o.list.sets i (row_is j);
          words = set o.list.words i (words_of (point-is j) (record { start = y.bounds; len = long-bounds j }));
          pos = over_at y.pos (pos-are j) o.list.pos;
          neg = over_at y.neg (neg-are j) o.list.neg;
        };
        bounds = over_at y.bounds (bounds-are j) o.bounds;
      }

-- ---- entries behind a front

record Front : Type 0 where
  rows : List (List ℕ)
  words : List (List ℕ)
  pos : List ℕ
  neg : List ℕ
  bounds : List Float

-- over the stores
abbrev laid : Front → Source → Source
laid f o =
    record {
      list = record {
        sets = over f.rows o.list.sets;
        words = over f.words o.list.words;
        pos = over f.pos o.list.pos;
        neg = over f.neg o.list.neg;
      };
      bounds = over f.bounds o.bounds;
    }

-- with entries behind it
abbrev longer : Front → List Entry → Front
longer f es =
    record {
      rows = f.rows ++ map (λ e. row_of e.0) es;
      words = f.words ++ words_from (length f.bounds) es;
      pos = f.pos ++ joined (λ x. x.pos) es;
      neg = f.neg ++ joined (λ x. x.neg) es;
      bounds = f.bounds ++ joined (λ x. x.bounds) es;
    }

-- with one
abbrev snoc : Front → Entry → Front
snoc f e =
    record {
      rows = f.rows ++ (row_of e.0 ∷ []);
      words = f.words ++ (words_of e.1.point (record { start = length f.bounds; len = length e.1.bounds }) ∷ []);
      pos = f.pos ++ e.1.pos;
      neg = f.neg ++ e.1.neg;
      bounds = f.bounds ++ e.1.bounds;
    }

longer-none : (f : Front) → f ≡ longer f []
longer-none f =
    let a = append-nil f.rows in
    let b = append-nil f.words in
    let c = append-nil f.pos in
    let d = append-nil f.neg in
    let e = append-nil f.bounds in
    sym (λ j. record { rows = a j; words = b j; pos = c j; neg = d j; bounds = e j })

longer-snoc : (f : Front) (e : Entry) (es : List Entry) → longer (snoc f e) es ≡ longer f (e ∷ es)
longer-snoc f e es =
    let w = words_of e.1.point (record { start = length f.bounds; len = length e.1.bounds }) in
    let a = append_assoc f.rows (row_of e.0 ∷ []) (map (λ e. row_of e.0) es) in
    let b =
    append_assoc f.words (w ∷ []) (words_from (length (f.bounds ++ e.1.bounds)) es)
    ∙ ap (λ (n : ℕ). f.words ++ (w ∷ words_from n es)) (length-append f.bounds e.1.bounds)
    in
    let c = append_assoc f.pos e.1.pos (joined (λ x. x.pos) es) in
    let d = append_assoc f.neg e.1.neg (joined (λ x. x.neg) es) in
    let g = append_assoc f.bounds e.1.bounds (joined (λ x. x.bounds) es) in
    λ j. record { rows = a j; words = b j; pos = c j; neg = d j; bounds = g j }

-- a front of i entries that take y
record Takes (f : Front) (i : ℕ) (y : Sizes) : Type 0 where
  rows : length f.rows ≡ i
  words : length f.words ≡ i
  pos : length f.pos ≡ y.pos
  neg : length f.neg ≡ y.neg
  bounds : length f.bounds ≡ y.bounds

set-behind : {A : Type 0} (a old : List A) (i : ℕ) (x : A) → length a ≡ i → i < length old → set (over a old) i x ≡ over (a ++ (x ∷ [])) old
set-behind a old i x e h = ap (λ (j : ℕ). set (over a old) j x) (sym e) ∙ over-snoc a old x (omega arith)

over-behind : {A : Type 0} (a b old : List A) (i : ℕ) → length a ≡ i → over_at i b (over a old) ≡ over (a ++ b) old
over-behind a b old i e = ap (λ (j : ℕ). over_at j b (over a old)) (sym e) ∙ over-behind-front a b old

put-behind : (f : Front) (i : ℕ) (y : Sizes) (e : Entry) (o : Source) → Takes f i y → i < length o.list.sets → i < length o.list.words
    → put i y e (laid f o) ≡ laid (snoc f e) o
put-behind f i y e o t h g =
    let w : ℕ → List ℕ = λ n. words_of e.1.point (record { start = n; len = length e.1.bounds }) in
    let a = set-behind f.rows o.list.sets i (row_of e.0) t.rows h in
    let b =
    ap (λ (n : ℕ). set (over f.words o.list.words) i (w n)) (sym t.bounds)
    ∙ set-behind f.words o.list.words i (w (length f.bounds)) t.words g
    in
    let c = over-behind f.pos e.1.pos o.list.pos y.pos t.pos in
    let d = over-behind f.neg e.1.neg o.list.neg y.neg t.neg in
    let k = over-behind f.bounds e.1.bounds o.bounds y.bounds t.bounds in
    λ j. record { list = record { sets = a j; words = b j; pos = c j; neg = d j }; bounds = k j }

-- ---- all entries

copied_behind : (n : ℕ) (s : List ℕ) (k i : ℕ) (row : List ℕ) (y all : Sizes) (f : Front) (o : Source) → Takes f i y
    → judged_from n s k i row y ≡ Some all → i + n ≤ length o.list.sets → i + n ≤ length o.list.words
    → copied n s k i y (laid f o) ≡ laid (longer f (entries_of n (drop k (cells s)))) o
unfolding entry_len
copied_behind zero s k i row y all f o t h a b = ap (λ (g : Front). laid g o) (longer-none f)
copied_behind (suc n) s k i row y all f o t h a b =
    let l = drop k (cells s) in
    let e = entry_of l in
    let z = sizes_of (head_in l) in
    let p = judged-entry n s k i row y all h in
    let u : Takes (snoc f e) (suc i) (more y z) =
    record {
      rows = length-append f.rows (row_of e.0 ∷ []) ∙ omega (arith, t.rows);
      words = length-append f.words (_ ∷ []) ∙ omega (arith, t.words);
      pos = length-append f.pos e.1.pos ∙ ap₂ ◌+◌ t.pos (sym (long-pos s k p));
      neg = length-append f.neg e.1.neg ∙ ap₂ ◌+◌ t.neg (sym (long-neg s k p));
      bounds = length-append f.bounds e.1.bounds ∙ ap₂ ◌+◌ t.bounds (sym (long-bounds s k p));
    }
    in
    ap (copied n s (k + words_in z) (suc i) (more y z)) (copied-one s k p i y (laid f o) ∙ put-behind f i y e o t (omega arith) (omega arith))
    ∙ copied_behind n s (k + words_in z) (suc i) (take 9 l) (more y z) all (snoc f e) o u (judged-rest n s k i row y all h) (omega arith) (omega arith)
    ∙ ap (λ (m : List ℕ). laid (longer (snoc f e) (entries_of n m)) o) (sym (drop-drop (words_in z) k (cells s)))
    ∙ ap (λ (g : Front). laid g o) (longer-snoc f e (entries_of n (drop (words_in z) l)))

pub copied_is : (s : List ℕ) (n : ℕ) (o : Source) → Copyable s n o → copied n s 3 0 nothing o ≡ laid_out (entries_of n (drop 3 (cells s))) o
unfolding judged over
copied_is s n o c =
    let r = fits-says n c.sizes o c.room in
    copied_behind n s 3 0 [] nothing c.sizes (record { rows = []; words = []; pos = []; neg = []; bounds = [] }) o
    (record { rows = refl; words = refl; pos = refl; neg = refl; bounds = refl })
    (ap (λ (j : ℕ). judged_from j s 3 0 [] nothing) c.many ∙ c.fine)
    (omega (arith, r.sets)) (omega (arith, r.words))
