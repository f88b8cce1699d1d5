-- What is read from bytes is held in u32, u64 and f64. Assumes nothing.
use Prim.Native.Nat.{ℕ, zero, suc, ◌+◌, ◌<◌}
use mathlib.Core.Path.{◌≡◌, sym, subst}
use mathlib.Core.Logic.{inl, inr}
use mathlib.Core.Bool.{Bool, true, false}
use mathlib.Core.List.{List, [], ◌∷◌, map}
use mathlib.Core.Option.{some}
use Rattle.laws.proofs.Differences.{le_or-lt}
use native.Mathlib.Omega.{arith}
use lib.Dec.{leb}
use lib.ListN.{length, get_or, take, drop, length-take, get_or-eq_default}
use lib.Seq.{get_or-take, get_or-drop}
use lib.Ieee.{Float, binary64, of_bits, fits}
use lib.Ieee.Bits.{is_true, of_bits-fits}
use Rattle.laws.specs.Pick.{pick}
use Rattle.laws.specs.Lists.{All}
use Rattle.tally.specs.Sets.{Lendable}
use Rattle.sets.specs.Rows.{span, pair, size, set_of}
use Rattle.listing.specs.Words.{extreme_in, point_in, bounds_in}
use Rattle.listing.proofs.Back.{Fitting}
use Rattle.records.specs.Records.{cells}
use Rattle.records.specs.Inner.{AllBytes}
use Rattle.records.proofs.Found.{cells-small}
use Rattle.sheets.specs.Entries.{head_in, stored_from, entry_of, entry_len, entries_of}
use Rattle.sheets.specs.Sheet.{Sheet, points_in, decoded, read_sheet}
use Rattle.sheets.proofs.Back.{HeldEntry, Held, read-decoded}

-- ---- words at every place, zeros behind the last

abbrev pub Word : ℕ → Type 0
Word w = w < 18446744073709551616

pub Words : List ℕ → Type 0
Words l = (i : ℕ) → get_or l i 0 < 18446744073709551616

pub all_words : (l : List ℕ) → All Word l → Words l
unfolding All Words
all_words [] h i = omega arith
all_words (x ∷ l) h zero = h.0
all_words (x ∷ l) h (suc i) = all_words l h.1 i

cell-words : (s : List ℕ) → AllBytes s → Words (cells s)
unfolding Words
cell-words s b i =
    elim (le_or-lt (length (cells s)) i) [
      | inl p ↦ subst Word (sym (get_or-eq_default (cells s) 0 p)) (omega arith)
      | inr p ↦ cells-small s b i p
    ]

drop-words : (k : ℕ) (l : List ℕ) → Words l → Words (drop k l)
unfolding Words
drop-words k l h i = subst Word (sym (get_or-drop k l i 0)) (h (k + i))

take_words : (k : ℕ) (l : List ℕ) → Words l → Words (take k l)
unfolding Words
take_words k l h i =
    elim (le_or-lt k i) [
      | inl p ↦ subst Word (sym (get_or-eq_default (take k l) 0 (omega (arith, length-take k l)))) (omega arith)
      | inr p ↦ subst Word (sym (get_or-take k l i 0 p)) (h i)
    ]

-- ---- an entry out of words

pub lendable : (row : List ℕ) → Words row → (i k : ℕ) → Lendable (map pair (span row i k))
unfolding Words
lendable row h i zero = tt
lendable row h i (suc k) = ((omega (arith, h i), omega arith), lendable row h (suc i) k)

of-bits : (w : ℕ) → fits binary64 (of_bits binary64 w) ≡ true
of-bits w = is_true (fits binary64 (of_bits binary64 w)) (of_bits-fits binary64 w)

all-of-bits : (ws : List ℕ) → All (λ (x : Float). fits binary64 x ≡ true) (map (of_bits binary64) ws)
unfolding All
all-of-bits [] = tt
all-of-bits (w ∷ ws) = (of-bits w, all-of-bits ws)

extreme-fits : (b : Bool) (w : ℕ) → Fitting (extreme_in b w)
unfolding extreme_in pick
extreme-fits true w = of-bits w
extreme-fits false w = tt

entry-held : (l : List ℕ) → Words l → HeldEntry (entry_of l)
unfolding entry_of stored_from set_of point_in
entry-held l h =
    let w = head_in l in
    record {
      set = lendable (take 9 l) (take_words 9 l h) 0 (size (take 9 l));
      min = extreme-fits (leb 2 (get_or w 8 0)) (get_or w 9 0);
      max = extreme-fits (leb 2 (get_or w 8 0)) (get_or w 10 0);
      sum = of-bits (get_or w 11 0);
      bounds = all-of-bits (take (bounds_in w).len (drop 21 l));
    }

entries-held : (n : ℕ) (l : List ℕ) → Words l → All HeldEntry (entries_of n l)
unfolding All
entries-held zero l h = tt
entries-held (suc n) l h = (entry-held l h, entries-held n (drop (entry_len (head_in l)) l) (drop-words (entry_len (head_in l)) l h))

-- ---- a sheet out of bytes

pub read_held : (s : List ℕ) (t : Sheet) → AllBytes s → read_sheet s ≡ some t → Held t
unfolding decoded
read_held s t b h =
    subst Held (read-decoded s t h) (entries-held (points_in s) (drop 3 (cells s)) (drop-words 3 (cells s) (cell-words s b)))
