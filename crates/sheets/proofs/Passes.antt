-- What is written passes the tests of a sheet, and so do bytes that are what is written for what they read as. Assumes nothing.
use Prim.Native.Nat.{ℕ, zero, suc, ◌+◌, ◌*◌, ◌/◌, ◌%◌, ◌<◌, ◌≤◌}
use mathlib.Core.Path.{◌≡◌, refl, sym, ap, ap₂, ◌∙◌}
use mathlib.Core.Bool.{Bool, true, false, ◌&&◌}
use mathlib.Core.List.{List, [], ◌∷◌, ◌++◌}
use native.Mathlib.Omega.{arith}
use borrow.Author.Tests.{eq-eqb, le-leb}
use lib.Dec.{leb, eqb, eqb-suc-zero}
use lib.ListN.{length, get_or, take, drop, length-append}
use lib.Seq.{take-append_seam, drop-append_seam}
use Rattle.laws.specs.Pick.{pick}
use Rattle.laws.specs.Counting.{bit}
use Rattle.laws.specs.Tests.{all}
use Rattle.laws.proofs.Bools.{and_left, and_right, and_intro}
use Rattle.sets.specs.All.{allb}
use Rattle.sets.proofs.Alls.{allb-yes}
use Rattle.listing.specs.Words.{point_in, bounds_in}
use Rattle.records.specs.Words.{bytes_of, word_at, words_of}
use Rattle.records.specs.Records.{next, chained, unchained, cells}
use Rattle.records.specs.Inner.{link_holds, link_of, cell_at}
use Rattle.records.proofs.Bytes.{word-own, words-own}
use Rattle.records.proofs.Records as C
use Rattle.records.proofs.Records.{Whole, unchained-own}
use Rattle.records.proofs.Laid.{link-is}
use Rattle.records.proofs.Found.{get_or-four, word-at, cells_at}
use Rattle.sheets.specs.Entries.{Entry, head_of, entry_words, entries_words, head_in, stored_from, entry_of, entry_len, entries_of, entry_fine, ascending}
use Rattle.sheets.specs.Sheet.{Sheet, most_points, info_for, payload, written, writable, info_in, points_in, decoded, same_list}
use Rattle.sheets.specs.Inner.{records_in, good_shape, good_header, framed}
use Rattle.sheets.proofs.Good.{entry_good, entries_good}
use Rattle.sheets.proofs.SameLists.{same_refl}
use Rattle.sheets.proofs.Lengths.{fine-few, fine-exact, entry-words-length}
use Rattle.sheets.proofs.Lengths.{points-few, points-rise, points-fine, payload-whole, whole_length, written-records, sheet-short}
use Rattle.sheets.proofs.Cuts.{cut-head, head-span, len-by}

-- ---- the links of chained words

chained-links : (info n k i : ℕ) {ws : List ℕ} → Whole ws → k * 3 + length ws ≡ n * 3 → i * 4294967296 ≡ pick (eqb k 0) (info * 4294967296) 0
    → (r : ℕ) → k + r < n → get_or (chained i k ws) (r * 4) 0 ≡ link_of info n (k + r)
unfolding chained link_of pick
chained-links info n k i C.none h g r p = absurd (omega arith)
chained-links info n k i (C.more {a = a} {b = b} {c = c} {ws = ws} w) h g zero p =
    let z : k ≡ k + 0 = omega arith in
    ap₂ ◌+◌ g (sym (link-is k n w (omega arith))) ∙ ap (link_of info n) z
chained-links info n k i (C.more {a = a} {b = b} {c = c} {ws = ws} w) h g (suc r) p =
    let e : suc r * 4 ≡ 4 + r * 4 = omega arith in
    let d : suc k + r ≡ k + suc r = omega arith in
    ap (λ (j : ℕ). get_or (chained i k (a ∷ b ∷ c ∷ ws)) j 0) e
    ∙ get_or-four (i * 4294967296 + next k ws) a b c (chained 0 (suc k) ws) (r * 4)
    ∙ chained-links info n (suc k) 0 w (omega arith) (ap (λ (x : Bool). pick x (info * 4294967296) 0) (sym (eqb-suc-zero k))) r (omega arith)
    ∙ ap (link_of info n) d

-- ---- the upper half of the first word

bit-small : (b : Bool) → bit b ≤ 1
bit-small true = omega arith
bit-small false = omega arith

times_256 : (m : ℕ) → (256 * m % 256 ≡ 0) × (256 * m / 256 ≡ m)
times_256 m = (omega arith, omega arith)

joined : (f n : ℕ) → 256 * f + 65536 * n ≡ 256 * (f + 256 * n)
joined f n = omega arith

form-is : (f n : ℕ) → (256 * f + 65536 * n) % 256 ≡ 0
form-is f n = ap (λ (x : ℕ). x % 256) (joined f n) ∙ (times_256 (f + 256 * n)).0

delta-is : (f n : ℕ) → f ≤ 1 → (256 * f + 65536 * n) / 256 % 256 ≡ f
delta-is f n h =
    let e : (f + 256 * n) % 256 ≡ f = omega arith in
    ap (λ (x : ℕ). x % 256) (ap (λ (x : ℕ). x / 256) (joined f n) ∙ (times_256 (f + 256 * n)).1) ∙ e

number_is : (f n : ℕ) → f ≤ 1 → (256 * f + 65536 * n) / 65536 ≡ n
number_is f n h = omega arith

next_small : (ws : List ℕ) → next 0 ws < 4294967296
unfolding next
next_small [] = omega arith
next_small (w ∷ ws) = omega arith

upper : (i k : ℕ) → k < 4294967296 → (i * 4294967296 + k) / 4294967296 ≡ i
upper i k h = omega arith

-- ---- the frame

module _ (t : Sheet) (takes : writable t ≡ true) where
  abbrev s : List ℕ
  s = written t

  abbrev n : ℕ
  n = length (payload t) / 3

  abbrev info : ℕ
  info = info_for t.header (length t.points)

  words : words_of (written t) ≡ chained (info_for t.header (length t.points)) 0 (payload t)
  unfolding written
  words = words-own (chained info 0 (payload t))

  -- the words come back out of the bytes
  pub cells-written : cells (written t) ≡ payload t
  cells-written = ap unchained words ∙ unchained-own info 0 (payload-whole t takes)

  whole : length (payload t) ≡ length (payload t) / 3 * 3
  whole = whole_length (payload-whole t takes)

  some_words : 3 ≤ length (payload t)
  some_words = omega arith

  records : records_in (written t) ≡ length (payload t) / 3
  records = omega (arith, written-records t takes)

  info-written : info_in (written t) ≡ info_for t.header (length t.points)
  unfolding written chained bytes_of
  info-written =
      let k = next 0 (entries_words t.points) in
      ap (λ (x : ℕ). x / 4294967296) (word-own (info * 4294967296 + k) _) ∙ upper info k (next_small (entries_words t.points))

  pub points-written : points_in (written t) ≡ length t.points
  points-written = ap (λ (x : ℕ). x / 65536) info-written ∙ number_is (bit t.header.delta) (length t.points) (bit-small t.header.delta)

  pub delta-written : info_in (written t) / 256 % 256 ≡ bit t.header.delta
  delta-written = ap (λ (x : ℕ). x / 256 % 256) info-written ∙ delta-is (bit t.header.delta) (length t.points) (bit-small t.header.delta)

  shape-passes : good_shape (written t) ≡ true
  unfolding good_shape
  shape-passes =
      let a : length s % 32 ≡ 0 = omega (arith, written-records t takes) in
      let b : 1 ≤ records_in s = omega (arith, records, whole, some_words) in
      let c : records_in s ≤ 65536 = omega (arith, sheet-short t takes) in
      and_intro (eqb (length s % 32) 0) (leb 1 (records_in s) && leb (records_in s) 65536) (eq-eqb _ _ a)
      (and_intro (leb 1 (records_in s)) (leb (records_in s) 65536) (le-leb _ _ b) (le-leb _ _ c))

  header-passes : good_header (written t) ≡ true
  unfolding good_header
  header-passes =
      let a : info_in s % 256 ≡ 0 = ap (λ (x : ℕ). x % 256) info-written ∙ form-is (bit t.header.delta) (length t.points) in
      let b : info_in s / 256 % 256 ≤ 1 = omega (arith, delta-written, bit-small t.header.delta) in
      let c : points_in s ≤ 64 = omega (arith, points-written, points-few t takes) in
      let d : cell_at s 2 ≡ 0 = sym (cells_at s 2 (omega (arith, records, whole, some_words))) ∙ ap (λ (l : List ℕ). get_or l 2 0) cells-written in
      and_intro (eqb (info_in s % 256) 0) (leb (info_in s / 256 % 256) 1 && (leb (points_in s) most_points && eqb (cell_at s 2) 0)) (eq-eqb _ _ a)
      (and_intro (leb (info_in s / 256 % 256) 1) (leb (points_in s) most_points && eqb (cell_at s 2) 0) (le-leb _ _ b)
      (and_intro (leb (points_in s) most_points) (eqb (cell_at s 2) 0) (le-leb _ _ c) (eq-eqb _ _ d)))

  pub link_at : (r : ℕ) → r < length (payload t) / 3 → word_at (written t) (r * 32) ≡ link_of (info_for t.header (length t.points)) (length (payload t) / 3) r
  unfolding pick
  link_at r p =
      let e : r * 32 ≡ 8 * (r * 4) = omega arith in
      let z : 0 + r ≡ r = omega arith in
      ap (word_at s) e
      ∙ sym (word-at s (r * 4) (omega (arith, written-records t takes)))
      ∙ ap (λ (l : List ℕ). get_or l (r * 4) 0) words
      ∙ chained-links info n 0 info (payload-whole t takes) (omega (arith, whole)) refl r (omega arith)
      ∙ ap (link_of info n) z

  links-pass : allb (records_in (written t)) (link_holds (info_in (written t)) (records_in (written t)) (written t)) ≡ true
  links-pass =
      allb-yes _ (records_in s)
      (λ r p. eq-eqb _ _ (link_at r (omega (arith, records)) ∙ ap₂ (λ (x y : ℕ). link_of x y r) (sym info-written) (sym records)))

  framed-written : framed (written t) ≡ true
  unfolding framed
  framed-written =
      let l = allb (records_in s) (link_holds (info_in s) (records_in s) s) in
      and_intro (good_shape s) (good_header s && l) shape-passes (and_intro (good_header s) l header-passes links-pass)

-- ---- entries: words that are those of the entries that they read as

module _ (l u : List ℕ) (fine : entry_fine (entry_of l) ≡ true) (own : entry_words (entry_of l) ++ u ≡ l) where
  abbrev e : Entry
  e = entry_of l

  head-own : head_in l ≡ head_of (entry_of l).1
  head-own = ap head_in (sym own) ∙ cut-head e u (fine-few e fine)

  same-figures : (point_in (head_in l)).figures ≡ (entry_of l).1.point.figures
  unfolding entry_of stored_from
  same-figures = refl

  len-own : entry_len (head_in l) ≡ length (entry_words (entry_of l))
  len-own =
      len-by (head_in l) e.1 same-figures (ap bounds_in head-own ∙ head-span e.1 (fine-exact e fine)) (fine-exact e fine)
      ∙ sym (entry-words-length e fine)

  front : take (entry_len (head_in l)) l ≡ entry_words (entry_of l)
  front = ap₂ (λ (k : ℕ) (r : List ℕ). take k r) len-own (sym own) ∙ take-append_seam (entry_words e) u

  pub back : drop (entry_len (head_in l)) l ≡ u
  back = ap₂ (λ (k : ℕ) (r : List ℕ). drop k r) len-own (sym own) ∙ drop-append_seam (entry_words e) u

  entry-passes : entry_good l ≡ true
  unfolding entry_good
  entry-passes =
      let k = entry_len (head_in l) in
      let a : k ≤ length l = omega (arith, len-own, ap length own, length-append (entry_words e) u) in
      let b : same_list (entry_words e) (take k l) ≡ true = ap (same_list (entry_words e)) front ∙ same_refl (entry_words e) in
      and_intro (leb k (length l)) (entry_fine e && same_list (entry_words e) (take k l)) (le-leb _ _ a)
      (and_intro (entry_fine e) (same_list (entry_words e) (take k l)) fine b)

entries-pass : (n : ℕ) (l : List ℕ) → all entry_fine (entries_of n l) ≡ true → entries_words (entries_of n l) ≡ l → entries_good n l ≡ true
unfolding entries_good
entries-pass zero l h own = eq-eqb (length l) 0 (sym (ap length own))
entries-pass (suc n) l h own =
    let r = drop (entry_len (head_in l)) l in
    let u = entries_words (entries_of n r) in
    let f = and_left (entry_fine (entry_of l)) (all entry_fine (entries_of n r)) h in
    and_intro (entry_good l) (entries_good n r) (entry-passes l u f own)
    (entries-pass n r (and_right (entry_fine (entry_of l)) (all entry_fine (entries_of n r)) h) (sym (back l u f own)))

-- ---- the sheet

module _ (s : List ℕ) (takes : writable (decoded s) ≡ true) (own : written (decoded s) ≡ s) where
  pub framed-own : framed s ≡ true
  framed-own = ap framed (sym own) ∙ framed-written (decoded s) takes

  words-read : entries_words (entries_of (points_in s) (drop 3 (cells s))) ≡ drop 3 (cells s)
  unfolding decoded
  words-read = sym (ap (λ (r : List ℕ). drop 3 (cells r)) (sym own) ∙ ap (drop 3) (cells-written (decoded s) takes))

  pub entries-own : entries_good (points_in s) (drop 3 (cells s)) ≡ true
  unfolding decoded
  entries-own = entries-pass (points_in s) (drop 3 (cells s)) (points-fine (decoded s) takes) words-read

  pub rises-own : ascending (entries_of (points_in s) (drop 3 (cells s))) ≡ true
  unfolding decoded
  rises-own = points-rise (decoded s) takes
