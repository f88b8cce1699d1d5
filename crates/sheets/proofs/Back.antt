-- A sheet is read from its bytes as it was, bit for bit, and nothing else is read from them. Assumes nothing.
use Prim.Native.Nat.{ℕ, ◌+◌, ◌-◌, ◌/◌, ◌%◌, ◌≤◌, ◌<◌}
use mathlib.Core.Path.{◌≡◌, refl, sym, ap, ap₂, ◌∙◌}
use mathlib.Core.Bool.{Bool, true, false, beq, ◌&&◌}
use mathlib.Core.List.{List, [], ◌∷◌, ◌++◌, map}
use mathlib.Core.Option.{none, some}
use mathlib.Core.Logic.{◌⊎◌, inl, inr}
use native.Mathlib.Nat.{lt_of_le_of_lt, mul-le-mul}
use native.Mathlib.Omega.{arith}
use borrow.Author.Tests.{leb-true, eqb-true}
use lib.Dec.{leb, eqb, lit<, lit≤}
use lib.ListN.{length, get_or, take, drop, length-append, length-map}
use lib.Pow.{pow_mono}
use lib.Seq.{take-append_seam, drop-append_seam, drop_at, take-take, take-add}
use lib.Ieee.{Float, binary64, of_bits, fits}
use Rattle.laws.specs.Counting.{bit}
use Rattle.laws.specs.Lists.{All}
use Rattle.laws.specs.Tests.{all}
use Rattle.laws.proofs.Bools.{flag, and_left, and_right, and_intro, beq-says, pick_true, pick-false}
use Rattle.laws.proofs.Cases.{some_inj, none-not-some}
use Rattle.index.specs.Bins.{finest, lowest_bin, end_bin}
use Rattle.floats.specs.Answers.{is_shown, bits_of}
use Rattle.std.specs.Prelude.{Option}
use Rattle.points.specs.Figures.{most_size}
use Rattle.points.specs.Handed.{counts_agree, finite_or_none, shown_as_due, extremes_agree}
use Rattle.points.proofs.Agreement.{agrees-says}
use Rattle.exponential.specs.Series.{read}
use Rattle.point.specs.Handing.{Stored, stored_in, counts_as, figures_shaped}
use Rattle.point.specs.declared.Point.{Point}
use Rattle.point.specs.declared.Figures.{Figures}
use Rattle.point.specs.declared.Figures.TheVariants.{Exponential, Explicit}
use Rattle.tally.specs.Sets.{Lendable}
use Rattle.sets.specs.Rows.{set_of}
use Rattle.sets.proofs.Exact.{set_own}
use Rattle.listing.specs.Words.{point_in, bounds_in}
use Rattle.listing.specs.Listed.{pos_len, neg_len}
use Rattle.listing.proofs.Back as B
use Rattle.listing.proofs.Back.{Narrow, Fitting, bits_back, point-back, span-back}
use Rattle.records.specs.Records.{padded, width, cells}
use Rattle.records.proofs.Records.{length-padded, take-padded}
use Rattle.sheets.specs.Entries.{Entry, own_span, head_of, entry_words, entries_words, bounds_fine, entry_fine}
use Rattle.sheets.specs.Entries.{head_in, pos_in, neg_in, stored_from, entry_of, entry_len, entries_of}
use Rattle.sheets.specs.Sheet.{Sheet, written, writable, info_in, points_in, decoded, same_list, read_sheet}
use Rattle.sheets.proofs.SameLists.{same_refl, same-says}
use Rattle.sheets.proofs.Lengths as L
use Rattle.sheets.proofs.Cuts.{cut-row, cut-head, cut-tail, len-by}
use Rattle.sheets.proofs.Passes.{cells-written, points-written, delta-written}

-- ---- what u32, u64 and f64 hold: true of every list of points that is lent

pub record HeldEntry (e : Entry) : Type 0 where
  pub set : Lendable e.0
  pub min : Fitting e.1.point.min
  pub max : Fitting e.1.point.max
  pub sum : fits binary64 e.1.point.sum ≡ true
  pub bounds : All (λ (x : Float). fits binary64 x ≡ true) e.1.bounds

abbrev pub Held : Sheet → Type 0
Held t = All HeldEntry t.points

-- ---- a point that agrees has levels and starts of 32 bits, and both extremes or neither

end-small : (level : ℕ) → level ≤ finest → end_bin level < 4294967296
end-small level h = lt_of_le_of_lt (mul-le-mul same (pow_mono h)) (lit< tt)
  where
    same : 3 ≤ 3
    same = lit≤ tt

level_in : (d : ℕ) → finest - d ≤ finest
level_in d = omega arith

start_small : (start n end : ℕ) → start + n ≤ end → end < 4294967296 → start < 4294967296
start_small start n end h k = omega arith

narrow : (f : Figures) (bs : List Float) (xs ys : List ℕ) → bounds_fine f (length bs) ≡ true → figures_shaped f xs ys ≡ true
    → counts_agree most_size finest (lowest_bin finest) (counts_as f bs xs ys) ≡ true → Narrow f (record { start = 0; len = length bs })
narrow (Exponential c) bs xs ys b s h =
    let a = agrees-says most_size finest (lowest_bin finest) (read c xs ys) h in
    let l : c.level ≤ finest = leb-true c.level finest (and_left (leb c.level finest) _ s) in (
      omega arith,
      start_small _ _ _ a.pos.below (end-small _ (level_in _)),
      start_small _ _ _ a.neg.below (end-small _ (level_in _)),
      ap (λ (k : ℕ). record { start = 0; len = k }) (eqb-true (length bs) 0 b),
    )
narrow (Explicit m) bs xs ys b s h = tt

both-shown : (due : Bool) (x y : Option Float) → extremes_agree due x y ≡ true → is_shown y ≡ is_shown x
both-shown due x y h =
    let k : shown_as_due due x y ≡ true = and_right (finite_or_none x y) (shown_as_due due x y) h in
    let p = beq-says (is_shown x) due (and_left (beq (is_shown x) due) (beq (is_shown y) due) k) in
    let q = beq-says (is_shown y) due (and_right (beq (is_shown x) due) (beq (is_shown y) due) k) in
    q ∙ sym p

pub point-held : (e : Entry) → entry_fine e ≡ true → HeldEntry e → B.Held e.1.point (own_span e.1)
point-held e f h =
    let x = e.1 in
    let a = L.fine-agrees e f in
    record {
      figures = narrow x.point.figures x.bounds x.pos x.neg (L.exact-bounds x (L.fine-exact e f)) (L.alone-shape x a) (L.alone-counts x a);
      both = both-shown _ x.point.min x.point.max (L.alone-shown x a);
      min = h.min;
      max = h.max;
      sum = h.sum;
    }

-- ---- bounds and counts out of their words

all-bits-back : (xs : List Float) → All (λ (x : Float). fits binary64 x ≡ true) xs → map (of_bits binary64) (map bits_of xs) ≡ xs
unfolding All
all-bits-back [] h = refl
all-bits-back (x ∷ xs) h = ap₂ ◌∷◌ (bits_back x h.0) (all-bits-back xs h.1)

module _ (xs ys u : List ℕ) where
  abbrev l : List ℕ
  l = padded (xs ++ ys) ++ u

  both : take (length xs + length ys) (padded (xs ++ ys) ++ u) ≡ xs ++ ys
  both = ap (λ (k : ℕ). take k l) (sym (length-append xs ys)) ∙ take-padded (xs ++ ys) u

  first_back : take (length xs) (padded (xs ++ ys) ++ u) ≡ xs
  first_back = sym (take-take (length xs) (length xs + length ys) l (omega arith)) ∙ ap (take (length xs)) both ∙ take-append_seam xs ys

  second_back : take (length ys) (drop (length xs) (padded (xs ++ ys) ++ u)) ≡ ys
  second_back =
      let y = take (length ys) (drop (length xs) l) in
      let e : xs ++ y ≡ xs ++ ys = ap (λ (r : List ℕ). r ++ y) (sym first_back) ∙ sym (take-add (length xs) (length ys) l) ∙ both in
      sym (drop-append_seam xs y) ∙ ap (drop (length xs)) e ∙ drop-append_seam xs ys

-- ---- an entry out of its words, whatever follows them

module _ (e : Entry) (u : List ℕ) (f : entry_fine e ≡ true) (h : HeldEntry e) where
  abbrev x : Stored
  x = e.1

  abbrev bw : List ℕ
  bw = map bits_of x.bounds

  abbrev r : List ℕ
  r = padded (map bits_of e.1.bounds) ++ (padded (e.1.pos ++ e.1.neg) ++ u)

  point-own : point_in (head_of e.1) ≡ e.1.point
  point-own = point-back x.point (own_span x) (point-held e f h)

  span-own : bounds_in (head_of e.1) ≡ own_span e.1
  span-own = span-back x.point (own_span x) (point-held e f h)

  bounds-many : length (map bits_of e.1.bounds) ≡ length e.1.bounds
  bounds-many = length-map x.bounds bits_of

  bounds-own : map (of_bits binary64) (take (length e.1.bounds) (padded (map bits_of e.1.bounds) ++ (padded (e.1.pos ++ e.1.neg) ++ u)))
      ≡ e.1.bounds
  bounds-own =
      ap (λ (k : ℕ). map (of_bits binary64) (take k r)) (sym bounds-many)
      ∙ ap (map (of_bits binary64)) (take-padded bw (padded (x.pos ++ x.neg) ++ u))
      ∙ all-bits-back x.bounds h.bounds

  behind-bounds : drop (width (length e.1.bounds)) (padded (map bits_of e.1.bounds) ++ (padded (e.1.pos ++ e.1.neg) ++ u))
      ≡ padded (e.1.pos ++ e.1.neg) ++ u
  behind-bounds = drop_at (padded bw) (padded (x.pos ++ x.neg) ++ u) (width (length x.bounds)) (length-padded bw ∙ ap width bounds-many)

  pos-many : pos_in (head_of e.1) ≡ length e.1.pos
  pos-many = (λ i. pos_len (point-own i).figures (span-own i)) ∙ sym (L.exact-pos x (L.fine-exact e f))

  neg-many : neg_in (head_of e.1) ≡ length e.1.neg
  neg-many = (λ i. neg_len (point-own i).figures) ∙ sym (L.exact-neg x (L.fine-exact e f))

  -- n bounds, i and j counts
  abbrev put : Point → ℕ → ℕ → ℕ → List ℕ → Stored
  put p n i j l =
      stored_in p (map (of_bits binary64) (take n l)) (take i (drop (width n) l)) (take j (drop i (drop (width n) l)))

  stored-own : stored_from (head_of e.1) (padded (map bits_of e.1.bounds) ++ (padded (e.1.pos ++ e.1.neg) ++ u)) ≡ e.1
  unfolding stored_from
  stored-own =
      let a : take (length x.pos) (drop (width (length x.bounds)) r) ≡ x.pos =
      ap (take (length x.pos)) behind-bounds ∙ first_back x.pos x.neg u in
      let b : take (length x.neg) (drop (length x.pos) (drop (width (length x.bounds)) r)) ≡ x.neg =
      ap (λ (l : List ℕ). take (length x.neg) (drop (length x.pos) l)) behind-bounds ∙ second_back x.pos x.neg u in
      (λ i. put (point-own i) (span-own i).len (pos-many i) (neg-many i) r)
      ∙ (λ i. record { point = x.point; bounds = bounds-own i; pos = a i; neg = b i })

  entry-back : entry_of (entry_words e ++ u) ≡ e
  unfolding entry_of
  entry-back =
      let few = L.fine-few e f in
      let a : set_of (take 9 (entry_words e ++ u)) ≡ e.0 = ap set_of (cut-row e u few) ∙ set_own e.0 few h.set in
      let b : stored_from (head_in (entry_words e ++ u)) (drop 21 (entry_words e ++ u)) ≡ e.1 =
      ap₂ stored_from (cut-head e u few) (cut-tail e u few) ∙ stored-own in
      λ i. (a i, b i)

  entry-len : entry_len (head_in (entry_words e ++ u)) ≡ length (entry_words e)
  entry-len =
      ap entry_len (cut-head e u (L.fine-few e f))
      ∙ len-by (head_of x) x (ap (λ (p : Point). p.figures) point-own) span-own (L.fine-exact e f)
      ∙ sym (L.entry-words-length e f)

entries-back : (es : List Entry) → all entry_fine es ≡ true → All HeldEntry es → entries_of (length es) (entries_words es) ≡ es
unfolding All
entries-back [] f h = refl
entries-back (e ∷ es) f h =
    let u = entries_words es in
    let a = and_left (entry_fine e) (all entry_fine es) f in
    ap₂ ◌∷◌ (entry-back e u a h.0)
    (ap (λ (n : ℕ). entries_of (length es) (drop n (entry_words e ++ u))) (entry-len e u a h.0)
    ∙ ap (entries_of (length es)) (drop-append_seam (entry_words e) u)
    ∙ entries-back es (and_right (entry_fine e) (all entry_fine es) f) h.1)

-- ---- a sheet

delta-back : (b : Bool) → eqb (bit b) 1 ≡ b
delta-back true = refl
delta-back false = refl

decoded-own : (t : Sheet) → Held t → writable t ≡ true → decoded (written t) ≡ t
unfolding decoded
decoded-own t h w =
    let c = cells-written t w in
    let a : get_or (cells (written t)) 0 0 ≡ t.header.start = ap (λ (l : List ℕ). get_or l 0 0) c in
    let b : get_or (cells (written t)) 1 0 ≡ t.header.time = ap (λ (l : List ℕ). get_or l 1 0) c in
    let d : eqb (info_in (written t) / 256 % 256) 1 ≡ t.header.delta = ap (λ (n : ℕ). eqb n 1) (delta-written t w) ∙ delta-back t.header.delta in
    let e : entries_of (points_in (written t)) (drop 3 (cells (written t))) ≡ t.points =
    ap₂ (λ (n : ℕ) (l : List ℕ). entries_of n (drop 3 l)) (points-written t w) c ∙ entries-back t.points (L.points-fine t w) h in
    λ i. record { header = record { start = a i; time = b i; delta = d i }; points = e i }

-- what is written is read
pub reads-written : (t : Sheet) → Held t → writable t ≡ true → read_sheet (written t) ≡ some t
unfolding read_sheet
reads-written t h w =
    let e = decoded-own t h w in
    let s = written t in
    let test : writable (decoded s) && same_list (written (decoded s)) s ≡ true =
    ap (λ (v : Sheet). writable v && same_list (written v) s) e ∙ and_intro (writable t) (same_list s s) w (same_refl s) in
    pick_true _ (some (decoded s)) none test ∙ ap some e

-- one sheet of bytes for each header and list of points
pub unique : (t v : Sheet) → Held t → writable t ≡ true → Held v → writable v ≡ true → written t ≡ written v → t ≡ v
unique t v a b c d e = sym (decoded-own t a b) ∙ ap decoded e ∙ decoded-own v c d

-- and nothing else is read
abbrev tests : List ℕ → Bool
tests s = writable (decoded s) && same_list (written (decoded s)) s

by_tests : (s : List ℕ) (t : Sheet) → (tests s ≡ true) ⊎ (tests s ≡ false) → read_sheet s ≡ some t → (tests s ≡ true) × (decoded s ≡ t)
unfolding read_sheet
by_tests s t (inl p) h = (p, some_inj (sym (pick_true (tests s) (some (decoded s)) none p) ∙ h))
by_tests s t (inr p) h = none-not-some (sym (pick-false (tests s) (some (decoded s)) none p) ∙ h)

pub read-decoded : (s : List ℕ) (t : Sheet) → read_sheet s ≡ some t → decoded s ≡ t
read-decoded s t h = (by_tests s t (flag (tests s)) h).1

pub read_only : (s : List ℕ) (t : Sheet) → read_sheet s ≡ some t → (writable t ≡ true) × (written t ≡ s)
read_only s t h =
    let k = by_tests s t (flag (tests s)) h in
    let w : writable (decoded s) ≡ true = and_left (writable (decoded s)) (same_list (written (decoded s)) s) k.0 in
    let b : written (decoded s) ≡ s = same-says (written (decoded s)) s (and_right (writable (decoded s)) (same_list (written (decoded s)) s) k.0) in
    (ap writable (sym k.1) ∙ w, ap written (sym k.1) ∙ b)
