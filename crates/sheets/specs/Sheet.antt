-- The shift sheet (docs/SHEET.md): its bytes for a header and a list of points, and what bytes read as. Assumes nothing.
use Rattle.std.specs.Prelude.{ℕ, ◌+◌, ◌*◌, ◌/◌, ◌%◌, Bool, true, false, ◌&&◌, List, [], ◌∷◌, leb, eqb, length, get_or, drop}
use Rattle.std.proofs.Math.Option.{Option, none, some}
use Rattle.laws.specs.Pick.{pick}
use Rattle.laws.specs.Counting.{bit}
use Rattle.laws.specs.Tests.{all}
use Rattle.records.specs.Words.{bytes_of, word_at}
use Rattle.records.specs.Records.{chained, cells}
use Rattle.sheets.specs.Entries.{Entry, entries_words, entries_of, entry_fine, ascending}
use Rattle.sheets.specs.declared.Header.{Header}

-- a header and a list of points
pub record Sheet : Type 0 where
  pub header : Header
  pub points : List Entry

-- "A sheet holds at most 64 points"
abbrev pub most_points : ℕ
most_points = 64

-- ---- written

-- the upper half of the header's first word: form 0, temporality (1: delta), how many points
abbrev pub info_for : Header → ℕ → ℕ
info_for h n = 256 * bit h.delta + 65536 * n

-- "record 0 is the header with start, time and temporality": then a zero, where request L7 has its threshold; then the points
abbrev pub payload : Sheet → List ℕ
payload t = t.header.start ∷ t.header.time ∷ 0 ∷ entries_words t.points

unfoldable pub written : Sheet → List ℕ
written t = bytes_of (chained (info_for t.header (length t.points)) 0 (payload t))

-- number 8 otherwise: "sets not strictly ascending or ill-formed (the empty set is allowed), or over 64 points", or a point that disagrees
unfoldable pub writable : Sheet → Bool
writable t = leb (length t.points) most_points && (ascending t.points && all entry_fine t.points)

-- ---- read

-- the upper half of the first word, and how many points it says
abbrev pub info_in : List ℕ → ℕ
info_in s = word_at s 0 / 4294967296

abbrev pub points_in : List ℕ → ℕ
points_in s = info_in s / 65536

-- whatever the bytes are
unfoldable pub decoded : List ℕ → Sheet
decoded s =
    record {
      header = record { start = get_or (cells s) 0 0; time = get_or (cells s) 1 0; delta = eqb (info_in s / 256 % 256) 1 };
      points = entries_of (points_in s) (drop 3 (cells s));
    }

unfoldable pub same_list : List ℕ → List ℕ → Bool
same_list [] [] = true
same_list [] (y ∷ ys) = false
same_list (x ∷ xs) [] = false
same_list (x ∷ xs) (y ∷ ys) = eqb x y && same_list xs ys

-- "the reader accepts that sheet only": number 15 where what the bytes read as is nothing that is written, or is written in other bytes
unfoldable pub read_sheet : List ℕ → Option Sheet
read_sheet s = pick (writable (decoded s) && same_list (written (decoded s)) s) (some (decoded s)) none
