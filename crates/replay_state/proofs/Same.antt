-- What is lent of a script's stores is the same where each store is. Assumes nothing.
use Prim.Native.Nat.{ℕ}
use mathlib.Core.Path.{◌≡◌}
use mathlib.Core.List.{List}
use Rattle.directory.specs.View.{Stores}

abbrev three : List (List ℕ) → List (List ℕ) → List ℕ → Stores
three sets entries order = record { sets = sets; entries = entries; order = order }

pub stores-are : {sets sets' entries entries' : List (List ℕ)} {order order' : List ℕ}
    → sets ≡ sets' → entries ≡ entries' → order ≡ order' → three sets entries order ≡ three sets' entries' order'
stores-are p q o = λ i. three (p i) (q i) (o i)
