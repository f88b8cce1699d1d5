-- The tests of entries' words as a reader without an order of its own would make them. Assumes nothing.
use Prim.Native.Nat.{ℕ, zero, suc}
use mathlib.Core.Bool.{Bool, ◌&&◌}
use mathlib.Core.List.{List}
use lib.Dec.{leb, eqb}
use lib.ListN.{length, take, drop}
use Rattle.sheets.specs.Entries.{head_in, entry_words, entry_of, entry_len, entry_fine}
use Rattle.sheets.specs.Sheet.{same_list}

-- words begin with those of an entry that is written
unfoldable pub entry_good : List ℕ → Bool
entry_good l =
    leb (entry_len (head_in l)) (length l)
    && (entry_fine (entry_of l) && same_list (entry_words (entry_of l)) (take (entry_len (head_in l)) l))

-- n entries, and nothing else
unfoldable pub entries_good : ℕ → List ℕ → Bool
entries_good zero l = eqb (length l) 0
entries_good (suc n) l = entry_good l && entries_good n (drop (entry_len (head_in l)) l)
