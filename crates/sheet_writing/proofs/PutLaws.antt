-- What is put for a list's points is the sheet of those points, over the front of the lent bytes. Assumes nothing.
use Prim.Native.Nat.{ℕ, zero, suc, ◌+◌, ◌*◌, ◌/◌, ◌≤◌}
use mathlib.Core.Path.{◌≡◌, refl, sym, ap, ap₂, ◌∙◌}
use mathlib.Core.Logic.{⊎_elim}
use mathlib.Core.Bool.{Bool, true, ◌&&◌}
use mathlib.Core.List.{List, [], ◌∷◌, ◌++◌, map}
use mathlib.Core.Option
use mathlib.Core.Option.{Option, none, some}
use native.Mathlib.Omega.{arith}
use lib.Dec.{ltb}
use lib.ListN.{length, get_or, drop}
use Rattle.laws.specs.Over.{over}
use Rattle.laws.specs.Tests.{all}
use Rattle.laws.proofs.Bools.{flag, and_left, and_right, pick_true, pick-false}
use Rattle.laws.proofs.Cases.{none-not-some, some_inj}
use Rattle.floats.specs.Answers.{bits_of}
use Rattle.sets.specs.Rows.{set_of, row_of}
use Rattle.point.specs.Handing.{Stored}
use Rattle.listing.specs.Listed.{stored_at, read_from}
use Rattle.listing.specs.declared.Cursor.{Cursor}
use Rattle.listing.specs.declared.Entry as Listing
use Rattle.std.specs.Prelude.{Some, None}
use Rattle.std.specs.Prelude as Std
use Rattle.pooling.specs.Lists.{Source, whole_at}
use Rattle.records.specs.Words.{bytes_of}
use Rattle.records.specs.Records.{width, padded, chained}
use Rattle.records.specs.Inner.{laid}
use Rattle.records.proofs.Laid.{laid_append, laid-is}
use Rattle.sheets.specs.Entries.{Entry, head_of, entry_words, entries_words, entry_fine}
use Rattle.sheets.specs.Sheet.{Sheet, info_for, payload, written, writable, same_list}
use Rattle.sheets.specs.declared.Header.{Header}
use Rattle.sheets.proofs.SameLists.{same-says}
use Rattle.sheets.proofs.Lengths.{length-entry, fine-few, points-fine, payload-whole, written-records, whole_length}
use Rattle.sheet_writing.specs.Inner.{origin, width_at, point_words, put_from, put_sheet}
use Rattle.sheets.specs.Lists.{whole_found, listed}
use Rattle.sheet_writing.proofs.Steps.{long-bounds, long-pos, long-neg}
use Rattle.sheet_writing.proofs.Walk.{put-more}

-- ---- the first point of those read

abbrev from : ℕ → Cursor → Source → Option (List Entry)
from n at x = read_from (whole_found x.bounds) n at x.list

abbrev row_here : Cursor → Source → List ℕ
row_here at x = get_or x.list.sets at.place []

abbrev entry_here : Cursor → Source → Listing.Entry → Entry
entry_here at x e = (set_of (row_here at x), stored_at at e x.bounds x.list)

-- it is there, with its set's own row; then the others are read
pub record Cut (n : ℕ) (at : Cursor) (x : Source) (es : List Entry) : Type 0 where
  pub e : Listing.Entry
  pub rest : List Entry
  pub whole : whole_at at x ≡ Some e
  own : row_of (set_of (row_here at x)) ≡ row_here at x
  pub read : from n e.next x ≡ some rest
  are : entry_here at x e ∷ rest ≡ es

mapped : (e : Entry) (y : Option (List Entry)) (es : List Entry) → Option.map (λ l. e ∷ l) y ≡ some es → (l : List Entry) × (y ≡ some l) × (e ∷ l ≡ es)
mapped e none es h = none-not-some h
mapped e (some l) es h = (l, refl, some_inj h)

module _ (n : ℕ) (at : Cursor) (x : Source) (es : List Entry) where
  abbrev test : Bool
  test = ltb at.place (length x.list.sets) && same_list (row_of (set_of (row_here at x))) (row_here at x)

  abbrev found : Std.Option Listing.Entry → Option (Stored × Cursor)
  found f = elim f [ None ↦ none | Some e ↦ some (stored_at at e x.bounds x.list, e.next) ]

  abbrev reading : Option (Stored × Cursor) → Option (List Entry)
  reading y = elim y [ none ↦ none | some z ↦ Option.map (λ l. (set_of (row_here at x), z.0) ∷ l) (from n z.1 x) ]

  by-found : test ≡ true → (f : Std.Option Listing.Entry) → whole_at at x ≡ f → reading (found f) ≡ some es → Cut n at x es
  by-found t None w h = none-not-some h
  by-found t (Some e) w h =
      let m = mapped (entry_here at x e) (from n e.next x) es h in
      record {
        e = e;
        rest = m.0;
        whole = w;
        own = same-says (row_of (set_of (row_here at x))) (row_here at x) (and_right (ltb at.place (length x.list.sets)) _ t);
        read = m.1;
        are = m.2;
      }

  pub cut : from (suc n) at x ≡ some es → Cut n at x es
  cut h =
      ⊎_elim (λ t. by-found t (whole_at at x) refl (sym (ap reading (pick_true test (found (whole_at at x)) none t)) ∙ h))
      (λ t. none-not-some (sym (ap reading (pick-false test (found (whole_at at x)) none t)) ∙ h))
      (flag test)

-- as many as were asked for
read-many : (n : ℕ) (at : Cursor) (x : Source) (es : List Entry) → from n at x ≡ some es → length es ≡ n
read-many zero at x es h = ap length (sym (some_inj h))
read-many (suc n) at x es h =
    let c = cut n at x es h in
    ap length (sym c.are) ∙ ap suc (read-many n c.e.next x c.rest c.read)

-- ---- its words

module _ (at : Cursor) (x : Source) (e : Listing.Entry) (w : whole_at at x ≡ Some e) where
  words_are : row_of (set_of (row_here at x)) ≡ row_here at x → point_words at (row_here at x) x e ≡ entry_words (entry_here at x e)
  unfolding entry_words
  words_are o =
      let p = stored_at at e x.bounds x.list in
      ap (λ (r : List ℕ). r ++ (head_of p ++ (padded (map bits_of p.bounds) ++ padded (p.pos ++ p.neg)))) (sym o)

  words-many : entry_fine (entry_here at x e) ≡ true → length (entry_words (entry_here at x e)) ≡ width_at at e
  words-many f =
      length-entry (entry_here at x e) (fine-few (entry_here at x e) f)
      ∙ (λ i. 21 + (width (long-bounds at x e w i) + width (long-pos at x e w i + long-neg at x e w i)))

-- ---- all of them put

put-from : (n : ℕ) (at : Cursor) (x : Source) (es : List Entry) → from n at x ≡ some es → all entry_fine es ≡ true → (info records k : ℕ) (s : List ℕ)
    → put_from n at info records k x s ≡ laid info records k (entries_words es) s
unfolding laid
put-from zero at x es h f info records k s = ap (λ (l : List Entry). laid info records k (entries_words l) s) (some_inj h)
put-from (suc n) at x es h f info records k s =
    let c = cut n at x es h in
    let d = entry_here at x c.e in
    let g : all entry_fine (d ∷ c.rest) ≡ true = ap (all entry_fine) c.are ∙ f in
    let a = words_are at x c.e c.whole c.own in
    let b = words-many at x c.e c.whole (and_left (entry_fine d) (all entry_fine c.rest) g) in
    put-more n at info records k x s c.e c.whole
    ∙ put-from n c.e.next x c.rest c.read (and_right (entry_fine d) (all entry_fine c.rest) g) info records _ _
    ∙ ap₂ (λ (m : ℕ) (u : List ℕ). laid info records (k + m) (entries_words c.rest) (laid info records k u s)) (sym b) a
    ∙ sym (laid_append info records k (entry_words d) (entries_words c.rest) s)
    ∙ ap (λ (l : List Entry). laid info records k (entries_words l) s) c.are

module _ (h : Header) (n records cells : ℕ) (x : Source) (es : List Entry) (read : listed n x ≡ some es)
    (fine : writable (record { header = h; points = es }) ≡ true) (many : length (entries_words es) ≡ cells) (counted : records ≡ cells / 3 + 1) where
  abbrev t : Sheet
  t = record { header = h; points = es }

  abbrev info : ℕ
  info = info_for h n

  abbrev first : List ℕ
  first = h.start ∷ h.time ∷ 0 ∷ []

  thirds : length (payload t) ≡ records * 3
  thirds = omega (arith, whole_length (payload-whole t fine))

  pub written-long : length (written (record { header = h; points = es })) ≡ records * 32
  written-long = omega (arith, written-records t fine, thirds)

  bytes-are : bytes_of (chained info 0 (payload t)) ≡ written t
  unfolding written
  bytes-are = ap (λ (m : ℕ). bytes_of (chained (info_for h m) 0 (payload t))) (sym (read-many n origin x es read))

  pub put_is : (s : List ℕ) → records * 32 ≤ length s → put_sheet h n records x s ≡ over (written (record { header = h; points = es })) s
  unfolding put_sheet over
  put_is s room =
      put-from n origin x es read (points-fine t fine) info records 3 (laid info records 0 first s)
      ∙ sym (laid_append info records 0 first (entries_words es) s)
      ∙ laid-is info records (payload-whole t fine) thirds s room
      ∙ ap₂ (λ (u : List ℕ) (m : ℕ). u ++ drop m s) bytes-are (sym written-long)
