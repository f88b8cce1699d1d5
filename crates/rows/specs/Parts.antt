-- One slot's part of a store that has equally many counts for each slot. Assumes nothing.
use Rattle.std.specs.Prelude.{ℕ, ◌+◌, ◌-◌, ◌*◌, List, ◌++◌, take, drop}

-- the elements from a up to e, and the list with ys in their place
abbrev pub part : List ℕ → ℕ → ℕ → List ℕ
part xs a e = take (e - a) (drop a xs)

abbrev pub splice : List ℕ → ℕ → ℕ → List ℕ → List ℕ
splice xs a e ys = take a xs ++ (ys ++ drop (e - a) (drop a xs))

-- slot x's part of a store with n counts for each slot, and the store with ys there
abbrev pub part_at : ℕ → List ℕ → ℕ → List ℕ
part_at n xs x = part xs (x * n) (x * n + n)

abbrev pub put_at : ℕ → List ℕ → ℕ → List ℕ → List ℕ
put_at n xs x ys = splice xs (x * n) (x * n + n) ys
