-- How long what is written is: an entry's words, and a sheet of at most 7,297 records. Assumes nothing.
use Prim.Native.Nat.{ℕ, suc, ◌+◌, ◌-◌, ◌*◌, ◌/◌, ◌≤◌}
use mathlib.Core.Path.{◌≡◌, refl, ap, ap₂, ◌∙◌}
use mathlib.Core.Bool.{true, ◌&&◌}
use mathlib.Core.List.{List, [], ◌∷◌, ◌++◌, map}
use native.Mathlib.Omega.{arith}
use borrow.Author.Tests.{leb-true, eqb-true}
use lib.Dec.{leb, eqb}
use lib.ListN.{length, take, replicate, length-append, length-map, length-replicate}
use lib.Seq.{length-take-le}
use lib.Ieee.{Float}
use Rattle.laws.specs.Tests.{all}
use Rattle.laws.proofs.Bools.{and_left, and_right}
use Rattle.index.specs.Bins.{finest, lowest_bin}
use Rattle.floats.specs.Answers.{bits_of}
use Rattle.points.specs.Explicit.{buckets_agree, bounds_pass, no_nan, rising}
use Rattle.points.specs.Figures.{most_size}
use Rattle.points.specs.Handed.{counts_agree, handed_agrees, shown_agrees}
use Rattle.points.proofs.Agreement.{agrees-says}
use Rattle.exponential.specs.Series.{read}
use Rattle.point.specs.Handing.{Stored, counts_as, counts_in, handed_in, in_shape, agrees_alone}
use Rattle.point.specs.declared.Figures.{Figures}
use Rattle.point.specs.declared.Figures.TheVariants.{Exponential, Explicit}
use Rattle.tally.specs.Sets.{Set}
use Rattle.sets.specs.Rows.{row_of, word_of}
use Rattle.listing.specs.Words.{figures_words}
use Rattle.listing.specs.Listed.{buckets_of, pos_len, neg_len}
use Rattle.listing.specs.declared.Span.{Span}
use Rattle.records.specs.Records.{padded, width, chained}
use Rattle.records.proofs.Bytes.{length-bytes}
use Rattle.records.proofs.Records as C
use Rattle.records.proofs.Records.{Whole, whole_append, whole-padded, whole-nine, length-padded}
use Rattle.sheets.proofs.SetLaws.{set-few}
use Rattle.sheets.specs.Entries.{Entry, own_span, head_of, entry_words, entries_words, set_fine, bounds_fine, exact, entry_fine, ascending}
use Rattle.sheets.specs.Sheet.{Sheet, most_points, info_for, payload, written, writable}

-- ---- what `entry_fine` says

module _ (e : Entry) (h : entry_fine e ≡ true) where
  fine-set : set_fine e.0 ≡ true
  unfolding entry_fine
  fine-set = and_left (set_fine e.0) (exact e.1 && agrees_alone e.1) h

  pub fine-exact : exact e.1 ≡ true
  unfolding entry_fine
  fine-exact = and_left (exact e.1) (agrees_alone e.1) (and_right (set_fine e.0) (exact e.1 && agrees_alone e.1) h)

  pub fine-agrees : agrees_alone e.1 ≡ true
  unfolding entry_fine
  fine-agrees = and_right (exact e.1) (agrees_alone e.1) (and_right (set_fine e.0) (exact e.1 && agrees_alone e.1) h)

  pub fine-few : length e.0 ≤ 8
  fine-few = set-few e.0 fine-set

module _ (x : Stored) (h : exact x ≡ true) where
  abbrev f : Figures
  f = x.point.figures

  pub exact-bounds : bounds_fine x.point.figures (length x.bounds) ≡ true
  unfolding exact
  exact-bounds = and_left (bounds_fine f (length x.bounds)) (eqb (length x.pos) (pos_len f (own_span x)) && eqb (length x.neg) (neg_len f)) h

  counts-there : eqb (length x.pos) (pos_len x.point.figures (own_span x)) && eqb (length x.neg) (neg_len x.point.figures) ≡ true
  unfolding exact
  counts-there = and_right (bounds_fine f (length x.bounds)) (eqb (length x.pos) (pos_len f (own_span x)) && eqb (length x.neg) (neg_len f)) h

  pub exact-pos : length x.pos ≡ pos_len x.point.figures (own_span x)
  exact-pos = eqb-true _ _ (and_left (eqb (length x.pos) (pos_len f (own_span x))) (eqb (length x.neg) (neg_len f)) counts-there)

  pub exact-neg : length x.neg ≡ neg_len x.point.figures
  exact-neg = eqb-true _ _ (and_right (eqb (length x.pos) (pos_len f (own_span x))) (eqb (length x.neg) (neg_len f)) counts-there)

module _ (x : Stored) (h : agrees_alone x ≡ true) where
  abbrev size : ℕ
  size = most_size

  pub alone-shape : in_shape x ≡ true
  unfolding agrees_alone
  alone-shape = and_left (in_shape x) (handed_agrees size finest (lowest_bin finest) (handed_in x)) h

  alone-handed : handed_agrees most_size finest (lowest_bin finest) (handed_in x) ≡ true
  unfolding agrees_alone
  alone-handed = and_right (in_shape x) (handed_agrees size finest (lowest_bin finest) (handed_in x)) h

  pub alone-counts : counts_agree most_size finest (lowest_bin finest) (counts_in x) ≡ true
  unfolding handed_agrees
  alone-counts = and_left (counts_agree size finest (lowest_bin finest) (counts_in x)) (shown_agrees (handed_in x)) alone-handed

  pub alone-shown : shown_agrees (handed_in x) ≡ true
  unfolding handed_agrees
  alone-shown = and_right (counts_agree size finest (lowest_bin finest) (counts_in x)) (shown_agrees (handed_in x)) alone-handed

-- ---- the words of an entry

pub length-row : (s : Set) → length s ≤ 8 → length (row_of s) ≡ 9
unfolding row_of
length-row s h =
    let o : ℕ = 0 in
    let r : List ℕ = replicate (8 - length s) o in
    omega (arith, length-append (map word_of s) (r ++ (length s ∷ [])), length-append r (length s ∷ []), length-map s word_of, length-replicate (8 - length s) o)

twelve : (f : Figures) (b : Span) (x y z u : ℕ) → length (figures_words f b ++ (x ∷ y ∷ z ∷ u ∷ [])) ≡ 12
twelve (Exponential c) b x y z u = refl
twelve (Explicit n) b x y z u = refl

pub length-head : (x : Stored) → length (head_of x) ≡ 12
length-head x = twelve x.point.figures (own_span x) _ _ _ _

pub length-entry : (e : Entry) → length e.0 ≤ 8
    → length (entry_words e) ≡ 21 + (width (length e.1.bounds) + width (length e.1.pos + length e.1.neg))
unfolding entry_words
length-entry e h =
    let b = map bits_of e.1.bounds in
    let c = e.1.pos ++ e.1.neg in
    let x : length (padded b) ≡ width (length e.1.bounds) = length-padded b ∙ ap width (length-map e.1.bounds bits_of) in
    let y : length (padded c) ≡ width (length e.1.pos + length e.1.neg) = length-padded c ∙ ap width (length-append e.1.pos e.1.neg) in
    length-append (row_of e.0) (head_of e.1 ++ (padded b ++ padded c))
    ∙ ap₂ ◌+◌ (length-row e.0 h)
    (length-append (head_of e.1) (padded b ++ padded c) ∙ ap₂ ◌+◌ (length-head e.1) (length-append (padded b) (padded c) ∙ ap₂ ◌+◌ x y))
    ∙ plus (width (length e.1.bounds) + width (length e.1.pos + length e.1.neg))
  where
    plus : (n : ℕ) → 9 + (12 + n) ≡ 21 + n
    plus n = omega arith

pub entry-words-length : (e : Entry) → entry_fine e ≡ true
    → length (entry_words e) ≡ 21 + (width (length e.1.bounds) + width (length e.1.pos + length e.1.neg))
entry-words-length e h = length-entry e (fine-few e h)

-- ---- it is short

few-buckets : (b : List Float) → length b ≤ 159 → buckets_of (length b) ≤ 160
few-buckets [] h = omega arith
few-buckets (x ∷ b) h = omega arith

sizes : (n p q : ℕ) → p ≤ 160 → q ≤ 160 → n ≡ 0 → width n + width (p + q) ≤ 321
unfolding width
sizes n p q h g e = omega arith

sizes-explicit : (n p q : ℕ) → n ≤ 159 → p ≤ 160 → q ≡ 0 → width n + width (p + q) ≤ 321
unfolding width
sizes-explicit n p q h g e = omega arith

counts-short : (f : Figures) (bs : List Float) (xs ys : List ℕ) → bounds_fine f (length bs) ≡ true
    → length xs ≡ pos_len f (record { start = 0; len = length bs }) → length ys ≡ neg_len f
    → counts_agree most_size finest (lowest_bin finest) (counts_as f bs xs ys) ≡ true
    → width (length bs) + width (length xs + length ys) ≤ 321
unfolding buckets_agree bounds_pass
counts-short (Exponential c) bs xs ys b p q h =
    let a = agrees-says most_size finest (lowest_bin finest) (read c xs ys) h in
    let x : length (take c.pos.len xs) ≡ c.pos.len = length-take-le c.pos.len xs (omega (arith, p)) in
    let y : length (take c.neg.len ys) ≡ c.neg.len = length-take-le c.neg.len ys (omega (arith, q)) in
    sizes (length bs) (length xs) (length ys) (omega (arith, a.pos.short, x, p)) (omega (arith, a.neg.short, y, q)) (eqb-true _ _ b)
counts-short (Explicit m) bs xs ys b p q h =
    let l : length bs ≤ 159 = leb-true (length bs) 159 (and_left (leb (length bs) 159) (no_nan bs && rising bs) (and_left (bounds_pass bs) _ h)) in
    sizes-explicit (length bs) (length xs) (length ys) l (omega (arith, few-buckets bs l, p)) q

entry-short : (e : Entry) → entry_fine e ≡ true → length (entry_words e) ≤ 342
entry-short e h =
    let x = e.1 in
    let k = fine-exact e h in
    let s =
    counts-short x.point.figures x.bounds x.pos x.neg (exact-bounds x k) (exact-pos x k) (exact-neg x k) (alone-counts x (fine-agrees e h)) in
    omega (arith, entry-words-length e h, s)

-- ---- whole records

whole-twelve : (f : Figures) (b : Span) (x y z u : ℕ) → Whole (figures_words f b ++ (x ∷ y ∷ z ∷ u ∷ []))
whole-twelve (Exponential c) b x y z u = C.more (C.more (C.more (C.more C.none)))
whole-twelve (Explicit n) b x y z u = C.more (C.more (C.more (C.more C.none)))

entry_whole : (e : Entry) → entry_fine e ≡ true → Whole (entry_words e)
unfolding entry_words
entry_whole e h =
    whole_append (whole-nine (row_of e.0) (length-row e.0 (fine-few e h)))
    (whole_append (whole-twelve e.1.point.figures (own_span e.1) _ _ _ _)
    (whole_append (whole-padded (map bits_of e.1.bounds)) (whole-padded (e.1.pos ++ e.1.neg))))

pub whole_length : {ws : List ℕ} → Whole ws → length ws ≡ length ws / 3 * 3
whole_length C.none = refl
whole_length (C.more w) = omega (arith, whole_length w)

entries-whole : (es : List Entry) → all entry_fine es ≡ true → Whole (entries_words es)
entries-whole [] h = C.none
entries-whole (e ∷ es) h =
    whole_append (entry_whole e (and_left (entry_fine e) (all entry_fine es) h)) (entries-whole es (and_right (entry_fine e) (all entry_fine es) h))

entries-short : (es : List Entry) → all entry_fine es ≡ true → length (entries_words es) ≤ 342 * length es
entries-short [] h = omega arith
entries-short (e ∷ es) h =
    let x = entry-short e (and_left (entry_fine e) (all entry_fine es) h) in
    let y = entries-short es (and_right (entry_fine e) (all entry_fine es) h) in
    omega (arith, x, y, length-append (entry_words e) (entries_words es))

-- ---- the sheet

module _ (t : Sheet) (h : writable t ≡ true) where
  abbrev es : List Entry
  es = t.points

  pub points-few : length t.points ≤ 64
  unfolding writable
  points-few = leb-true _ _ (and_left (leb (length es) most_points) (ascending es && all entry_fine es) h)

  pub points-rise : ascending t.points ≡ true
  unfolding writable
  points-rise = and_left (ascending es) (all entry_fine es) (and_right (leb (length es) most_points) (ascending es && all entry_fine es) h)

  pub points-fine : all entry_fine t.points ≡ true
  unfolding writable
  points-fine = and_right (ascending es) (all entry_fine es) (and_right (leb (length es) most_points) (ascending es && all entry_fine es) h)

  pub payload-whole : Whole (payload t)
  payload-whole = C.more (entries-whole t.points points-fine)

  pub payload-short : length (payload t) ≤ 21891
  payload-short = omega (arith, entries-short t.points points-fine, points-few)

length-chained : (info k : ℕ) {ws : List ℕ} → Whole ws → length (chained info k ws) * 3 ≡ length ws * 4
unfolding chained
length-chained info k C.none = refl
length-chained info k (C.more p) = omega (arith, length-chained 0 (suc k) p)

-- three words make a record of 32 bytes
length-written : (t : Sheet) → writable t ≡ true → length (written t) * 3 ≡ length (payload t) * 32
unfolding written
length-written t h =
    let i = info_for t.header (length t.points) in
    omega (arith, length-bytes (chained i 0 (payload t)), length-chained i 0 (payload-whole t h))

pub sheet-short : (t : Sheet) → writable t ≡ true → length (written t) ≤ 7297 * 32
sheet-short t h = omega (arith, length-written t h, payload-short t h)

-- at least the header, and a number of whole records
pub written-records : (t : Sheet) → writable t ≡ true → length (written t) ≡ length (payload t) / 3 * 32
written-records t h = omega (arith, length-written t h, whole_length (payload-whole t h))
