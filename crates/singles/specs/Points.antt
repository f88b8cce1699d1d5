-- Points of sums and last values in lent output: a set's row and the bits of the value for each. Assumes nothing.
use Rattle.std.specs.Prelude.{ℕ, ◌+◌, List, [], ◌∷◌, map, get_or}
use Rattle.std.proofs.Math.Option.{none, some}
use Rattle.floats.specs.Answers.{bits_of}
use Rattle.listing.specs.Listed.{Output}
use Rattle.collecting.specs.Lister.{Lister}
use Rattle.singles.specs.declared.Aggregation.{Aggregation}
use Rattle.singles.specs.Stores.{held_at, single_store}

-- each value is the one word of its point
abbrev pub as_words : List ℕ → List (List ℕ)
as_words values = map (λ b. b ∷ []) values

-- lent output as a contract writes it; there is no place for counts
abbrev pub output : List (List ℕ) → List ℕ → Output
output sets values = record { sets = sets; words = as_words values; pos = []; neg = [] }

-- a slot's point; the reader finds the word at a place, and the next point at the place behind it. Nothing is asked of the f64s that are lent
abbrev pub single_lister : (a : Aggregation) → Lister (single_store a)
single_lister a =
    record {
      Lent = λ c. Unit;
      words = λ w c x u. bits_of (held_at c x u) ∷ [];
      pos = λ c x u. [];
      neg = λ c x u. [];
      found = λ at o.
          elim (get_or o.words at.place []) [ [] ↦ none | b ∷ l ↦ some (b, record { place = at.place + 1; pos = at.pos; neg = at.neg }) ];
    }
