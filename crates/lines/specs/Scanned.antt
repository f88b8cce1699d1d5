-- BETWEEN OUR OWN CRATES: serves inner contracts and proofs; nobody needs it to believe the public calls or the theorems.
-- A set's text read in one pass: its digits, the number up to a mark, the attribute up to a comma. Assumes nothing.
use Rattle.std.specs.Prelude.{ℕ, ◌+◌, ◌≤◌, ◌≡◌, ◌⊎◌, Option, Some, None, List, length, get_or, drop}
use Rattle.text.specs.Fields.{until}
use Rattle.text.specs.Numbers.{digit_of, spelled_from}
use Rattle.lines.specs.declared.attributes.Word.{Word}
use Rattle.lines.specs.declared.attributes.Part.{Part}
use Rattle.lines.specs.Spelled.{word_of, attribute_of}

-- the bytes from one place up to another say x, whatever mark comes behind them
unfoldable pub Says : List ℕ → ℕ → ℕ → ℕ → Type 0
Says bs from x to =
    (m : ℕ)
    → 10 ≤ digit_of m
    → (from + length (until m (drop from bs)) ≡ to + length (until m (drop to bs)))
    × (spelled_from 10 0 (until m (drop from bs)) ≡ spelled_from 10 x (until m (drop to bs)))

-- they are read up to a byte that is no digit, or to an end
pub record Read (bs : List ℕ) (from end x to : ℕ) : Type 0 where
  pub low : from ≤ to
  pub high : to ≤ end
  pub says : Says bs from x to
  pub stop : (10 ≤ digit_of (get_or bs to 0)) ⊎ (end ≤ to)

-- the number that a text spells, and where the text ends that starts at a place; 0 where there is no number
abbrev pub behind : Option ℕ → ℕ → ℕ
behind None e = 0
behind (Some x) e = e

-- what a call answers: its number, and where the mark behind it stands, 0 where there is no number
abbrev pub word : Option Word → Option ℕ
word None = None
word (Some w) = Some w.x

abbrev pub word_end : Option Word → ℕ
word_end None = 0
word_end (Some w) = w.to

abbrev pub Scanned : List ℕ → ℕ → Option ℕ → ℕ → Type 0
Scanned u from w to = (w ≡ word_of u) × (to ≡ behind w (from + length u))

-- the same of an attribute
abbrev pub after : Option (List ℕ) → ℕ → ℕ
after None e = 0
after (Some a) e = e

abbrev pub attribute : Option Part → Option (List ℕ)
attribute None = None
attribute (Some p) = Some p.attribute

abbrev pub part_end : Option Part → ℕ
part_end None = 0
part_end (Some p) = p.to

abbrev pub Parted : List ℕ → ℕ → Option (List ℕ) → ℕ → Type 0
Parted u from a to = (a ≡ attribute_of u) × (to ≡ after a (from + length u))
