-- Entries laid into an empty list are a list that can be lent. Assumes nothing.
use Prim.Native.Nat.{ℕ, zero, suc, ◌+◌, ◌-◌, ◌*◌, ◌≤◌, ◌<◌}
use mathlib.Core.Path.{◌≡◌}
use mathlib.Core.Bool.{true}
use mathlib.Core.List.{List, [], ◌∷◌, ◌++◌, map}
use native.Mathlib.Omega.{arith}
use lib.ListN.{length, drop, replicate}
use lib.Ieee.{binary64, fits}
use Rattle.laws.specs.Lists.{All}
use Rattle.laws.specs.Over.{over}
use Rattle.laws.specs.Tests.{all}
use Rattle.laws.proofs.Bools.{and_left, and_right}
use Rattle.laws.proofs.Lists.{all_append}
use Rattle.tally.specs.Sets.{Set, Lendable}
use Rattle.sets.specs.Rows.{word_of, row_of}
use Rattle.pooling.specs.Lists.{Source}
use Rattle.sheets.specs.Entries.{Entry, entry_fine}
use Rattle.sheets.specs.Lists.{Lent, joined, laid_out}
use Rattle.sheets.proofs.Back.{HeldEntry}
use Rattle.sheets.proofs.Holds.{Word}
use Rattle.sheets.proofs.Lengths.{fine-few}

abbrev pub empty : Source
empty = record { list = record { sets = []; words = []; pos = []; neg = [] }; bounds = [] }

-- ---- what holds of new and old holds of both

module _ {A : Type 0} (P : A → Type 0) where
  all_same : (n : ℕ) (a : A) → P a → All P (replicate n a)
  unfolding All
  all_same zero a p = tt
  all_same (suc n) a p = (p, all_same n a p)

  all_drop : (n : ℕ) (l : List A) → All P l → All P (drop n l)
  unfolding All
  all_drop zero l h = h
  all_drop (suc n) [] h = tt
  all_drop (suc n) (x ∷ l) h = all_drop n l h.1

  all-over : (new old : List A) → All P new → All P old → All P (over new old)
  unfolding over
  all-over new old p q = all_append P new (drop (length new) old) p (all_drop (length new) old q)

-- ---- rows of u64s, and f64s

set_words : (s : Set) → Lendable s → All Word (map word_of s)
unfolding All
set_words [] h = tt
set_words (a ∷ s) h = (joined_small a.0 a.1 h.0.0 h.0.1, set_words s h.1)
  where
    joined_small : (k v : ℕ) → k < 4294967296 → v < 4294967296 → k * 4294967296 + v < 18446744073709551616
    joined_small k v p q = omega arith

row_words : (s : Set) → length s ≤ 8 → Lendable s → All Word (row_of s)
unfolding row_of All
row_words s n h =
    all_append Word (map word_of s) (replicate (8 - length s) 0 ++ (length s ∷ [])) (set_words s h)
    (all_append Word (replicate (8 - length s) 0) (length s ∷ []) (all_same Word (8 - length s) 0 (omega arith)) (omega arith, tt))

rows_words : (es : List Entry) → all entry_fine es ≡ true → All HeldEntry es → All (All Word) (map (λ e. row_of e.0) es)
unfolding All
rows_words [] f h = tt
rows_words (e ∷ es) f h =
    (row_words e.0 (fine-few e (and_left (entry_fine e) (all entry_fine es) f)) h.0.set, rows_words es (and_right (entry_fine e) (all entry_fine es) f) h.1)

bounds-fit : (es : List Entry) → All HeldEntry es → All (λ b. fits binary64 b ≡ true) (joined (λ x. x.bounds) es)
unfolding All
bounds-fit [] h = tt
bounds-fit (e ∷ es) h = all_append (λ b. fits binary64 b ≡ true) e.1.bounds (joined (λ x. x.bounds) es) h.0.bounds (bounds-fit es h.1)

pub laid-lent : (es : List Entry) → all entry_fine es ≡ true → All HeldEntry es → Lent (laid_out es empty)
unfolding All
laid-lent es f h =
    record {
      sets = all-over (All Word) (map (λ e. row_of e.0) es) [] (rows_words es f h) tt;
      bounds = all-over (λ b. fits binary64 b ≡ true) (joined (λ x. x.bounds) es) [] (bounds-fit es h) tt;
    }
