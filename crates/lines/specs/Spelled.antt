-- What a set's text spells. Document 01: '`-` is the empty set. Other sets are KEY:VALUE joined by commas', 'decimals have no plus sign,
-- leading zero or -0'. Keys and values are u32. Bytes are ASCII: `-` is 45, `,` 44, `:` 58. Assumes nothing.
use Rattle.std.specs.Prelude.{ℕ, ◌+◌, ◌^◌, Bool, ◌&&◌, Option, Some, None, List, [], ◌∷◌, ltb, eqb, length, get_or, drop, set}
use Rattle.laws.specs.Pick.{pick}
use Rattle.text.specs.Fields.{until}
use Rattle.text.specs.Numbers.{decimal_of}

-- a decimal below 2^32
abbrev pub word_in : Option ℕ → Option ℕ
word_in None = None
word_in (Some x) = pick (ltb x (2 ^ 32)) (Some x) None

unfoldable pub word_of : List ℕ → Option ℕ
word_of bs = word_in (decimal_of bs)

-- KEY:VALUE, parted by the first colon; where there is none the value is empty, which is no decimal
abbrev pub both_of : Option ℕ → Option ℕ → Option (List ℕ)
both_of None v = None
both_of (Some k) None = None
both_of (Some k) (Some v) = Some (k ∷ v ∷ [])

unfoldable pub attribute_of : List ℕ → Option (List ℕ)
attribute_of bs = both_of (word_of (until 58 bs)) (word_of (drop (length (until 58 bs) + 1) bs))

-- parts of a text with one byte more before the first
abbrev pub first_more : ℕ → List (List ℕ) → List (List ℕ)
first_more b [] = []
first_more b (p ∷ ps) = (b ∷ p) ∷ ps

-- the parts of a text between its commas
unfoldable pub parts : List ℕ → List (List ℕ)
parts [] = [] ∷ []
parts (b ∷ bs) = pick (eqb b 44) ([] ∷ parts bs) (first_more b (parts bs))

-- the attributes that the parts spell
unfoldable pub attributes_of : List (List ℕ) → List (Option (List ℕ))
attributes_of [] = []
attributes_of (p ∷ ps) = attribute_of p ∷ attributes_of ps

unfoldable pub is_dash : List ℕ → Bool
is_dash bs = eqb (length bs) 1 && eqb (get_or bs 0 0) 45

unfoldable pub spelled : List ℕ → List (Option (List ℕ))
spelled bs = pick (is_dash bs) [] (attributes_of (parts bs))

-- one more than n, at most nine
unfoldable pub next : ℕ → ℕ
next n = pick (ltb n 9) (n + 1) n

-- an attribute at place n of a store of nine
unfoldable pub put : ℕ → List ℕ → List (List ℕ) → List (List ℕ)
put n a store = pick (ltb n 9) (set store n a) store

-- how many attributes there are behind n others, 9 where there are more; it can't be read where a part is none
unfoldable pub told : ℕ → List (Option (List ℕ)) → Option ℕ
told n [] = Some n
told n (None ∷ rest) = None
told n (Some a ∷ rest) = told (next n) rest

-- the store with the attributes from place n on, up to the first part that is none; those behind the ninth are left out
unfoldable pub kept : ℕ → List (Option (List ℕ)) → List (List ℕ) → List (List ℕ)
kept n [] store = store
kept n (None ∷ rest) store = store
kept n (Some a ∷ rest) store = kept (next n) rest (put n a store)
