-- BETWEEN OUR OWN CRATES: serves inner contracts and proofs; nobody needs it to believe the public calls or the theorems.
-- The definitions of the crate's own functions. Assumes nothing.
use Rattle.std.specs.Prelude.{◌≡◌, ℕ, ◌+◌, ◌-◌, ◌<◌, ◌≤◌, Bool, true, ◌&&◌, List, [], ◌∷◌, get_or, bit_or, bit_xor, nat_le, slice_index, slice_index_or, Option, Some, None}
use Prim.Native.Nat.{Ordering}
use Rattle.laws.specs.Pick.{pick}
use Rattle.tally.specs.Sets.{cmp}
use Rattle.sets.specs.All.{allb}
use Rattle.sets.specs.Rows.{set_of, soundb, size}
use Rattle.directory.specs.declared.Directory.{Directory}
use Rattle.directory.specs.View.{birth_at, born_at, place_at, plainly, agreesb}

-- How agreement is tested: birth numbers along the slots, and the rest along the places, which name every slot (proofs/Covers)
unfoldable pub bornb : ℕ → ℕ → List (List ℕ) → Bool
bornb used last entries = allb used (born_at entries) && nat_le (birth_at entries used) last

abbrev pub step_at : List (List ℕ) → List ℕ → ℕ → ℕ → Bool
step_at sets order used k = place_at sets order used k && soundb (slice_index_or sets (slice_index order k) [])

unfoldable pub placed : ℕ → List (List ℕ) → List ℕ → Option ℕ
placed used sets order = pick (allb used (step_at sets order used)) (Some (plainly sets order used)) None

-- the bits of d, and those in which the words of two rows differ
abbrev pub join_at : List ℕ → List ℕ → List ℕ → ℕ → ℕ
join_at d a b j = bit_or (slice_index d j) (bit_xor (slice_index a j) (slice_index b j))

abbrev pub joined : List ℕ → List ℕ → List ℕ → List ℕ
joined d a b =
    join_at d a b 0 ∷ join_at d a b 1 ∷ join_at d a b 2 ∷ join_at d a b 3 ∷ join_at d a b 4 ∷ join_at d a b 5 ∷ join_at d a b 6 ∷ join_at d a b 7 ∷ join_at d a b 8 ∷ []

-- rows that differ in the bits d at most have the same size and the same keys
pub record SameKeys (d : List ℕ) : Type 0 where
  pub long : get_or d 8 0 ≡ 0
  pub keys : (j : ℕ) → j < 8 → slice_index d j < 4294967296

-- the set at a place
abbrev pub row_at : List (List ℕ) → List ℕ → ℕ → List ℕ
row_at sets order k = slice_index_or sets (slice_index order k) []

-- a's set comes before b's, if both have word `from` and are alike below it
abbrev pub Told : List ℕ → List ℕ → ℕ → Type 0
Told a b from =
    from < size a → size a ≤ 8 → from < size b → ((j : ℕ) → j < from → slice_index a j ≡ slice_index b j) → cmp (set_of a) (set_of b) ≡ Ordering.lt

-- what one pass over the places tells: they name slots whose sets are sound and as long as the first slot's, and alike below a word from which
-- they rise
pub record Alike (used : ℕ) (sets : List (List ℕ)) (order : List ℕ) (from : ℕ) : Type 0 where
  pub named : (k : ℕ) → k < used → (1 ≤ slice_index order k) × (slice_index order k ≤ used)
  pub sound : (k : ℕ) → k < used → soundb (row_at sets order k) ≡ true
  pub long : (k : ℕ) → k < used → size (row_at sets order k) ≡ size (slice_index_or sets 1 [])
  pub word : (k : ℕ) → k < used → (j : ℕ) → j < from → slice_index (row_at sets order k) j ≡ slice_index (slice_index_or sets 1 []) j
  pub told : (k : ℕ) → k < used → 1 ≤ k → Told (row_at sets order (k - 1)) (row_at sets order k) from

-- these are the entries and the places of a directory that agrees
pub record Agreeing (d : Directory) (entries : List (List ℕ)) (order : List ℕ) : Type 0 where
  pub limit : ℕ
  pub sets : List (List ℕ)
  pub right : agreesb limit d (record { sets = sets; entries = entries; order = order }) ≡ true

-- birth numbers rise along the slots
abbrev pub BirthsRise : ℕ → List (List ℕ) → Type 0
BirthsRise used entries = (x : ℕ) → x < used → birth_at entries x < birth_at entries (x + 1)

-- slot x is the last of those used that was born by the number h
pub record LastBorn (h used : ℕ) (entries : List (List ℕ)) (x : ℕ) : Type 0 where
  pub there : x ≤ used
  pub born : birth_at entries x ≤ h
  pub later : (y : ℕ) → x < y → y ≤ used → h < birth_at entries y
