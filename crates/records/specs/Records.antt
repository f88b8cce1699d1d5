-- Words in linked records of four: a link, and three words. Assumes nothing.
use Rattle.std.specs.Prelude.{ℕ, suc, ◌+◌, ◌*◌, ◌/◌, List, [], ◌∷◌}
use Rattle.records.specs.Words.{words_of}

-- the index of the record behind record k: "zero ends the chain"
unfoldable pub next : ℕ → List ℕ → ℕ
next k [] = 0
next k (w ∷ ws) = suc k

-- the words cut into records from record k on, "the chain visits records 1, 2, 3 and so on". The first word of a record is its link;
-- that of the first record has `info` in its upper half. A sheet's words fill whole records (the law `payload-whole`).
unfoldable pub chained : ℕ → ℕ → List ℕ → List ℕ
chained info k [] = []
chained info k (a ∷ []) = []
chained info k (a ∷ b ∷ []) = []
chained info k (a ∷ b ∷ c ∷ ws) = (info * 4294967296 + next k ws) ∷ a ∷ b ∷ c ∷ chained 0 (suc k) ws

-- the words out of their records
unfoldable pub unchained : List ℕ → List ℕ
unchained [] = []
unchained (l ∷ []) = []
unchained (l ∷ a ∷ []) = []
unchained (l ∷ a ∷ b ∷ []) = []
unchained (l ∷ a ∷ b ∷ c ∷ ws) = a ∷ b ∷ c ∷ unchained ws

-- words filled up with zeros to whole records
unfoldable pub padded : List ℕ → List ℕ
padded [] = []
padded (a ∷ []) = a ∷ 0 ∷ 0 ∷ []
padded (a ∷ b ∷ []) = a ∷ b ∷ 0 ∷ []
padded (a ∷ b ∷ c ∷ ws) = a ∷ b ∷ c ∷ padded ws

-- how many words that makes
unfoldable pub width : ℕ → ℕ
width n = (n + 2) / 3 * 3

-- the words that the records of a sheet's bytes hold
abbrev pub cells : List ℕ → List ℕ
cells s = unchained (words_of s)
