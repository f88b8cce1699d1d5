-- BETWEEN OUR OWN CRATES: serves inner contracts and proofs; nobody needs it to believe the public calls or the theorems.
-- The tests of a sheet in the order of the code; that they make up `read_sheet` is the law `read_is`. Assumes nothing.
use Rattle.std.specs.Prelude.{ℕ, zero, suc, ◌+◌, ◌-◌, ◌/◌, ◌%◌, Bool, ◌&&◌, List, leb, eqb, length, take, drop}
use Rattle.sets.specs.All.{allb}
use Rattle.sets.specs.Rows.{set_of, row_of}
use Rattle.point.specs.Handing.{agrees_alone}
use Rattle.listing.specs.Words.{bounds_in, is_point}
use Rattle.records.specs.Records.{width, cells}
use Rattle.records.specs.Inner.{cell_at, link_holds, zero_at}
use Rattle.sheets.specs.Entries.{head_in, pos_in, neg_in, stored_from, entry_len, entries_of, set_fine, ascending}
use Rattle.sheets.specs.Sheet.{most_points, info_in, points_in, same_list}

-- ---- the row of a set

-- nine words are those that a set is written as, and the set may be
unfoldable pub row_fine : List ℕ → Bool
row_fine row = same_list (row_of (set_of row)) row && set_fine (set_of row)

-- ---- all but the points

abbrev pub records_in : List ℕ → ℕ
records_in s = length s / 32

-- whole records, as many as u16 numbers
unfoldable pub good_shape : List ℕ → Bool
good_shape s = eqb (length s % 32) 0 && (leb 1 (records_in s) && leb (records_in s) 65536)

-- form 0, a temporality, at most 64 points, threshold 0
unfoldable pub good_header : List ℕ → Bool
good_header s =
    eqb (info_in s % 256) 0 && (leb (info_in s / 256 % 256) 1 && (leb (points_in s) most_points && eqb (cell_at s 2) 0))

unfoldable pub framed : List ℕ → Bool
framed s = good_shape s && (good_header s && allb (records_in s) (link_holds (info_in s) (records_in s) s))

-- ---- the points

-- twelve words are a point's whose bounds start at 0, of counts that agreement allows
unfoldable pub head_fine : List ℕ → Bool
head_fine w = is_point w && (eqb (bounds_in w).start 0 && (leb (bounds_in w).len 159 && (leb (pos_in w) 160 && leb (neg_in w) 160)))

-- zeros behind m words that fill no whole record, from word k on
abbrev pub filled : List ℕ → ℕ → ℕ → Bool
filled s k m = allb (width m - m) (zero_at s (k + m))

-- words that begin with those of an entry that is written: by the words of a sheet s from word k on
unfoldable pub entry_at : List ℕ → ℕ → Bool
entry_at s k =
    let l = drop k (cells s) in
    let w = head_in l in
    leb 21 (length l)
    && (row_fine (take 9 l)
    && (head_fine w
    && (leb (entry_len w) (length l)
    && (filled s (k + 21) (bounds_in w).len
    && (filled s (k + (21 + width (bounds_in w).len)) (pos_in w + neg_in w)
    && agrees_alone (stored_from w (drop 21 l)))))))

-- of n entries from word k on, and of nothing else
unfoldable pub entries_at : ℕ → List ℕ → ℕ → Bool
entries_at zero s k = eqb (length (drop k (cells s))) 0
entries_at (suc n) s k = entry_at s k && entries_at n s (k + entry_len (head_in (drop k (cells s))))

unfoldable pub good_sheet : List ℕ → Bool
good_sheet s =
    framed s && (entries_at (points_in s) s 3 && ascending (entries_of (points_in s) (drop 3 (cells s))))
