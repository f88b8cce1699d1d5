-- BETWEEN OUR OWN CRATES: serves inner contracts and proofs; nobody needs it to believe the public calls or the theorems.
-- Words laid into a sheet one after another, and found again. Assumes nothing.
use Rattle.std.specs.Prelude.{ℕ, suc, ◌+◌, ◌*◌, ◌/◌, ◌%◌, ◌<◌, ◌≤◌, Bool, List, [], ◌∷◌, eqb, length, get_or}
use Rattle.std.proofs.lemmas.List.Edits.{sets}
use Rattle.laws.specs.Counting.{table}
use Rattle.laws.specs.Pick.{pick}
use Rattle.records.specs.Words.{bytes8, word_at}

-- bytes: every one is below 2 ^ 8
unfoldable pub AllBytes : List ℕ → Type 0
AllBytes s = (i : ℕ) → get_or s i 0 < 256

-- a word written from place i on
unfoldable pub put_word : ℕ → ℕ → List ℕ → List ℕ
put_word i x s = sets s i (bytes8 x)

-- the first word of record r of n
unfoldable pub link_of : ℕ → ℕ → ℕ → ℕ
link_of info n r = pick (eqb r 0) (info * 4294967296) 0 + pick (eqb (r + 1) n) 0 (r + 1)

-- where the word k lies: three to a record, behind the link
unfoldable pub place_of : ℕ → ℕ
place_of k = k / 3 * 32 + 8 + k % 3 * 8

-- the word k of a sheet of n records, with the link before it where it is a record's first
unfoldable pub emitted : ℕ → ℕ → ℕ → ℕ → List ℕ → List ℕ
emitted info n k x s =
    put_word (place_of k) x (pick (eqb (k % 3) 0) (put_word (k / 3 * 32) (link_of info n (k / 3)) s) s)

-- words from k on
unfoldable pub laid : ℕ → ℕ → ℕ → List ℕ → List ℕ → List ℕ
laid info n k [] s = s
laid info n k (x ∷ xs) s = laid info n (suc k) xs (emitted info n k x s)

-- the word k of a sheet
unfoldable pub cell_at : List ℕ → ℕ → ℕ
cell_at s k = word_at s (place_of k)

-- room for the words of n records
pub record Room (info n : ℕ) (s : List ℕ) : Type 0 where
  pub small : info < 4294967296
  pub few : n < 1073741824
  pub long : n * 32 ≤ length s

-- the words from k on
abbrev pub run : List ℕ → ℕ → ℕ → List ℕ
run s k m = table (cell_at s) k m

-- link r of n is right
abbrev pub link_holds : ℕ → ℕ → List ℕ → ℕ → Bool
link_holds info n s r = eqb (word_at s (r * 32)) (link_of info n r)

-- the word k + i is zero
abbrev pub zero_at : List ℕ → ℕ → ℕ → Bool
zero_at s k i = eqb (cell_at s (k + i)) 0
