-- Bytes that pass the tests of a sheet are those that are written for what they read as, and that is written. Assumes nothing.
use Prim.Native.Nat.{ℕ, zero, suc, ◌+◌, ◌*◌, ◌/◌, ◌%◌, ◌≤◌}
use mathlib.Core.Path.{◌≡◌, refl, sym, ap, ap₂, ◌∙◌}
use mathlib.Core.Bool.{Bool, true, ◌&&◌}
use mathlib.Core.List.{List, [], ◌∷◌, ◌++◌}
use native.Mathlib.Omega.{arith}
use borrow.Author.Tests.{leb-true, eqb-true}
use lib.Dec.{leb, eqb}
use lib.ListN.{length, get_or, take, drop, take-append-drop}
use Rattle.laws.specs.Counting.{bit}
use Rattle.laws.specs.Tests.{all}
use Rattle.laws.proofs.Bools.{and_left, and_right, and_intro}
use Rattle.sets.specs.All.{allb}
use Rattle.sets.proofs.Alls.{allb-at}
use Rattle.records.specs.Words.{bytes_of}
use Rattle.records.specs.Records.{chained, cells}
use Rattle.records.specs.Inner.{AllBytes, link_holds, cell_at}
use Rattle.records.proofs.Found.{cells-own, cells-length, cells_at}
use Rattle.sheets.specs.Entries.{Entry, head_in, entry_words, entries_words, entry_of, entry_len, entries_of, entry_fine, ascending}
use Rattle.sheets.specs.Sheet.{most_points, info_for, payload, written, writable, info_in, points_in, decoded, same_list}
use Rattle.sheets.specs.Inner.{records_in, good_shape, good_header, framed}
use Rattle.sheets.proofs.Good.{entry_good, entries_good}
use Rattle.sheets.proofs.SameLists.{same-says}

-- ---- entries

module _ (l : List ℕ) (h : entry_good l ≡ true) where
  abbrev n : ℕ
  n = entry_len (head_in l)

  abbrev e : Entry
  e = entry_of l

  behind : entry_fine (entry_of l) && same_list (entry_words (entry_of l)) (take (entry_len (head_in l)) l) ≡ true
  unfolding entry_good
  behind = and_right (leb n (length l)) (entry_fine e && same_list (entry_words e) (take n l)) h

  good-fine : entry_fine (entry_of l) ≡ true
  good-fine = and_left (entry_fine e) (same_list (entry_words e) (take n l)) behind

  good-words : entry_words (entry_of l) ≡ take (entry_len (head_in l)) l
  good-words = same-says (entry_words e) (take n l) (and_right (entry_fine e) (same_list (entry_words e) (take n l)) behind)

empty : (l : List ℕ) → length l ≡ 0 → [] ≡ l
empty [] h = refl
empty (x ∷ l) h = absurd (omega arith)

entries-words : (n : ℕ) (l : List ℕ) → entries_good n l ≡ true → entries_words (entries_of n l) ≡ l
unfolding entries_good
entries-words zero l h = empty l (eqb-true (length l) 0 h)
entries-words (suc n) l h =
    let r = drop (entry_len (head_in l)) l in
    ap₂ ◌++◌ (good-words l (and_left (entry_good l) (entries_good n r) h)) (entries-words n r (and_right (entry_good l) (entries_good n r) h))
    ∙ take-append-drop (entry_len (head_in l)) l

entries-fine : (n : ℕ) (l : List ℕ) → entries_good n l ≡ true → all entry_fine (entries_of n l) ≡ true
unfolding entries_good
entries-fine zero l h = refl
entries-fine (suc n) l h =
    let r = drop (entry_len (head_in l)) l in
    and_intro (entry_fine (entry_of l)) (all entry_fine (entries_of n r)) (good-fine l (and_left (entry_good l) (entries_good n r) h))
    (entries-fine n r (and_right (entry_good l) (entries_good n r) h))

pub length-entries : (n : ℕ) (l : List ℕ) → length (entries_of n l) ≡ n
length-entries zero l = refl
length-entries (suc n) l = ap suc (length-entries n (drop (entry_len (head_in l)) l))

-- ---- the header

by_three : (l : List ℕ) → 3 ≤ length l → get_or l 0 0 ∷ get_or l 1 0 ∷ get_or l 2 0 ∷ drop 3 l ≡ l
by_three [] h = absurd (omega arith)
by_three (a ∷ []) h = absurd (omega arith)
by_three (a ∷ b ∷ []) h = absurd (omega arith)
by_three (a ∷ b ∷ c ∷ l) h = refl

bit-own : (d : ℕ) → d ≤ 1 → bit (eqb d 1) ≡ d
bit-own zero h = refl
bit-own (suc zero) h = refl
bit-own (suc (suc d)) h = absurd (omega arith)

info-parts : (i : ℕ) → i % 256 ≡ 0 → i / 256 % 256 ≤ 1 → 256 * bit (eqb (i / 256 % 256) 1) + 65536 * (i / 65536) ≡ i
info-parts i a b = omega (arith, bit-own (i / 256 % 256) b)

-- ---- the frame: what its tests say

module _ (s : List ℕ) (frame : framed s ≡ true) where
  abbrev linked : Bool
  linked = allb (records_in s) (link_holds (info_in s) (records_in s) s)

  abbrev shaped : Bool
  shaped = leb 1 (records_in s) && leb (records_in s) 65536

  abbrev timed : Bool
  timed = leb (info_in s / 256 % 256) 1 && (leb (points_in s) most_points && eqb (cell_at s 2) 0)

  shape : good_shape s ≡ true
  unfolding framed
  shape = and_left (good_shape s) (good_header s && linked) frame

  header-links : good_header s && allb (records_in s) (link_holds (info_in s) (records_in s) s) ≡ true
  unfolding framed
  header-links = and_right (good_shape s) (good_header s && linked) frame

  header : good_header s ≡ true
  header = and_left (good_header s) linked header-links

  links : allb (records_in s) (link_holds (info_in s) (records_in s) s) ≡ true
  links = and_right (good_header s) linked header-links

  framed-length : length s ≡ records_in s * 32
  unfolding good_shape
  framed-length = omega (arith, eqb-true (length s % 32) 0 (and_left (eqb (length s % 32) 0) shaped shape))

  framed-some : 1 ≤ records_in s
  unfolding good_shape
  framed-some = leb-true 1 (records_in s) (and_left (leb 1 (records_in s)) (leb (records_in s) 65536) (and_right (eqb (length s % 32) 0) shaped shape))

  after_form : leb (info_in s / 256 % 256) 1 && (leb (points_in s) most_points && eqb (cell_at s 2) 0) ≡ true
  unfolding good_header
  after_form = and_right (eqb (info_in s % 256) 0) timed header

  after_delta_lem : leb (points_in s) most_points && eqb (cell_at s 2) 0 ≡ true
  after_delta_lem = and_right (leb (info_in s / 256 % 256) 1) (leb (points_in s) most_points && eqb (cell_at s 2) 0) after_form

  framed_form : info_in s % 256 ≡ 0
  unfolding good_header
  framed_form = eqb-true (info_in s % 256) 0 (and_left (eqb (info_in s % 256) 0) timed header)

  framed_delta : info_in s / 256 % 256 ≤ 1
  framed_delta = leb-true (info_in s / 256 % 256) 1 (and_left (leb (info_in s / 256 % 256) 1) (leb (points_in s) most_points && eqb (cell_at s 2) 0) after_form)

  pub framed-few : leb (points_in s) most_points ≡ true
  framed-few = and_left (leb (points_in s) most_points) (eqb (cell_at s 2) 0) after_delta_lem

  framed-zero : get_or (cells s) 2 0 ≡ 0
  framed-zero = cells_at s 2 (omega (arith, framed-some)) ∙ eqb-true (cell_at s 2) 0 (and_right (leb (points_in s) most_points) (eqb (cell_at s 2) 0) after_delta_lem)

  -- the bytes are those of their words
  framed-bytes : AllBytes s → bytes_of (chained (info_in s) 0 (cells s)) ≡ s
  framed-bytes bytes =
      cells-own (info_in s) (records_in s) s framed-length bytes
      (λ r p. eqb-true _ _ (allb-at (link_holds (info_in s) (records_in s) s) (records_in s) links r p))

-- ---- the sheet

module _ (s : List ℕ) (bytes : AllBytes s) (frame : framed s ≡ true) (good : entries_good (points_in s) (drop 3 (cells s)) ≡ true) where
  good-payload : payload (decoded s) ≡ cells s
  unfolding decoded
  good-payload =
      ap₂ (λ (x : ℕ) (l : List ℕ). get_or (cells s) 0 0 ∷ get_or (cells s) 1 0 ∷ x ∷ l) (sym (framed-zero s frame))
      (entries-words (points_in s) (drop 3 (cells s)) good)
      ∙ by_three (cells s) (omega (arith, cells-length s, framed-some s frame))

  good-info : info_for (decoded s).header (length (decoded s).points) ≡ info_in s
  unfolding decoded
  good-info =
      ap (λ (n : ℕ). 256 * bit (eqb (info_in s / 256 % 256) 1) + 65536 * n) (length-entries (points_in s) (drop 3 (cells s)))
      ∙ info-parts (info_in s) (framed_form s frame) (framed_delta s frame)

  pub good-bytes : written (decoded s) ≡ s
  unfolding written
  good-bytes = ap₂ (λ (i : ℕ) (l : List ℕ). bytes_of (chained i 0 l)) good-info good-payload ∙ framed-bytes s frame bytes

  pub good-writable : ascending (entries_of (points_in s) (drop 3 (cells s))) ≡ true → writable (decoded s) ≡ true
  unfolding writable decoded
  good-writable rises =
      let es = entries_of (points_in s) (drop 3 (cells s)) in
      and_intro (leb (length es) most_points) (ascending es && all entry_fine es)
      (ap (λ (k : ℕ). leb k most_points) (length-entries (points_in s) (drop 3 (cells s))) ∙ framed-few s frame)
      (and_intro (ascending es) (all entry_fine es) rises (entries-fine (points_in s) (drop 3 (cells s)) good))
