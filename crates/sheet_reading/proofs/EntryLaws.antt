-- What the tests of an entry's words say, and its parts as runs of words. Assumes nothing.
use Prim.Native.Nat.{ℕ, ◌+◌, ◌≤◌}
use mathlib.Core.Path.{◌≡◌, sym, ap, ◌∙◌}
use mathlib.Core.Bool.{true}
use mathlib.Core.List.{List}
use native.Mathlib.Omega.{arith}
use borrow.Author.Tests.{leb-true}
use lib.Dec.{leb}
use lib.ListN.{length, take, drop, length-drop}
use lib.Seq.{drop-drop}
use Rattle.laws.proofs.Bools.{and_left, and_right}
use Rattle.sets.specs.Rows.{set_of, row_of}
use Rattle.records.specs.Records.{cells}
use Rattle.records.specs.Inner.{run}
use Rattle.records.proofs.Found.{cells-length, run_is}
use Rattle.sheets.specs.Entries.{head_in, entry_len, set_fine}
use Rattle.sheets.specs.Inner.{row_fine, head_fine, entry_at}
use Rattle.sheets.proofs.SameLists.{same-says}
use Rattle.sheet_reading.specs.Inner.{There, sizes_of, words_in}

-- ---- words that are there

pub there-within : (s : List ℕ) (k m : ℕ) → There s k m → k + m ≤ length (cells s)
there-within s k m h = omega (arith, h.1, cells-length s)

pub within-there : (s : List ℕ) (k m : ℕ) → length (cells s) ≤ 196608 → k + m ≤ length (cells s) → There s k m
within-there s k m f h = (omega arith, omega (arith, cells-length s))

-- some of them
pub there-part : (s : List ℕ) (k m j n : ℕ) → There s k m → j + n ≤ m → There s (k + j) n
there-part s k m j n h l = (omega (arith, h.0), omega (arith, h.1))

pub there-behind : (s : List ℕ) (k m j i n : ℕ) → There s k m → j + i + n ≤ m → There s (k + j + i) n
there-behind s k m j i n h l = (omega (arith, h.0), omega (arith, h.1))

-- the words of the point, read nine words behind those of the set
pub head-run : (s : List ℕ) (k : ℕ) → k + 21 ≤ length (cells s) → run s (k + 9) 12 ≡ head_in (drop k (cells s))
head-run s k h = run_is s (k + 9) 12 (omega arith) ∙ ap (take 12) (sym (drop-drop 9 k (cells s)))

-- ---- an entry that could have been written

row-says : (row : List ℕ) → row_fine row ≡ true → row ≡ row_of (set_of row)
unfolding row_fine
row-says row h = sym (same-says (row_of (set_of row)) row (and_left _ (set_fine (set_of row)) h))

module _ (s : List ℕ) (k : ℕ) (h : entry_at s k ≡ true) where
  abbrev l : List ℕ
  l = drop k (cells s)

  abbrev w : List ℕ
  w = head_in l

  pub entry_row : take 9 l ≡ row_of (set_of (take 9 l))
  unfolding entry_at
  entry_row = row-says (take 9 l) (and_left (row_fine (take 9 l)) _ (and_right (leb 21 (length l)) _ h))

  pub entry-head : head_fine w ≡ true
  unfolding entry_at
  entry-head = and_left (head_fine w) _ (and_right (row_fine (take 9 l)) _ (and_right (leb 21 (length l)) _ h))

  entry-long : words_in (sizes_of w) ≤ length l
  unfolding entry_at entry_len
  entry-long =
      leb-true _ _ (and_left (leb (entry_len w) (length l)) _ (and_right (head_fine w) _ (and_right (row_fine (take 9 l)) _ (and_right (leb 21 (length l)) _ h))))

  pub entry-within : k + words_in (sizes_of w) ≤ length (cells s)
  entry-within = omega (arith, entry-long, length-drop k (cells s))
