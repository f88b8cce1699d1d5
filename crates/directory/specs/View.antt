-- The directory in its stores: when it agrees with itself, and what map it is. Assumes nothing.
use Rattle.std.specs.Prelude.{◌≡◌, ℕ, zero, suc, ◌+◌, ◌-◌, ◌<◌, ◌≤◌, Bool, true, not, ◌&&◌, ◌||◌, List, [], ◌∷◌, map, ◌==◌, nat_le, nat_lt, slice_index, slice_index_or, Ok, Err, Result}
use Rattle.std.proofs.Math.Option.{none, some}
use Rattle.laws.specs.Pick.{pick}
use Rattle.tally.specs.Sets.{Set, three, cmp, same}
use Rattle.tally.specs.Kind.{Kind}
use Rattle.tally.specs.Map.{Config, Entry, Map, plains, Agrees}
use Rattle.sets.specs.All.{allb}
use Rattle.sets.specs.Rows.{span, set_of, soundb, below}
use Rattle.directory.specs.declared.Directory.{Directory}

pub record Stores : Type 0 where
  pub sets : List (List ℕ)
  pub entries : List (List ℕ)
  pub order : List ℕ

-- as a contract writes them: the three lent slices, at entry or at exit
abbrev pub stores : List (List ℕ) → List (List ℕ) → List ℕ → Stores
stores sets entries order = record { sets = sets; entries = entries; order = order }

-- THE LAYOUT, our meaning of a set's "own place in the stores". Slot 0 is the empty set's, with the birth number 0; its set cell is
-- never read, nor its birth cell but to write it back. The named slots, from 1 on, stand in the order of birth; `order` has their numbers ascending by set.
abbrev pub set_at : List (List ℕ) → ℕ → Set
set_at sets zero = []
set_at sets (suc x) = set_of (slice_index_or sets (suc x) [])

abbrev pub birth_at : List (List ℕ) → ℕ → ℕ
birth_at entries zero = 0
birth_at entries (suc x) = slice_index (slice_index_or entries (suc x) []) 0

-- What the layout asks beside the map's own agreement: a named slot's row has "1 to 8 attributes with rising keys"; birth numbers rise
-- along the slots and end among those spent, so that each slot has its own; and each place of the order names a named slot. Where
-- the sets ascend along the places, no two of them name one slot, and so every slot is named.
pub record Laid (d : Directory) (s : Stores) : Type 0 where
  pub sound : (x : ℕ) → x < d.used → soundb (slice_index_or s.sets (x + 1) []) ≡ true
  pub birth : (x : ℕ) → x < d.used → birth_at s.entries x < birth_at s.entries (x + 1)
  pub last : birth_at s.entries d.used ≤ d.last
  pub slots : (k : ℕ) → k < d.used → (1 ≤ slice_index s.order k) × (slice_index s.order k ≤ d.used)

-- the slot after x has a later birth number
abbrev pub born_at : List (List ℕ) → ℕ → Bool
born_at entries x = nat_lt (birth_at entries x) (birth_at entries (x + 1))

-- "each has 1 to 8 attributes with rising keys .. and its own birth number": so has the slot after x, and its number is later than that of x
abbrev pub slot_at : List (List ℕ) → List (List ℕ) → ℕ → Bool
slot_at sets entries x = soundb (slice_index_or sets (x + 1) []) && born_at entries x

-- "its sets are strictly ascending": place k names a slot of those used, whose set comes after that of the place before
abbrev pub place_at : List (List ℕ) → List ℕ → ℕ → ℕ → Bool
place_at sets order used k =
    (nat_le 1 (slice_index order k) && nat_le (slice_index order k) used) && (k == 0 || below (cmp (set_at sets (slice_index order (k - 1))) (set_at sets (slice_index order k))))

-- the sets that are neither empty nor overflow
abbrev pub plainly : List (List ℕ) → List ℕ → ℕ → ℕ
plainly sets order used = plains (map (set_at sets) (span order 0 used))

unfoldable pub slotsb : ℕ → ℕ → List (List ℕ) → List (List ℕ) → Bool
slotsb used last sets entries = allb used (slot_at sets entries) && nat_le (birth_at entries used) last

-- "its stored count is that of the sets other than overflow, or one more if overflow is held, and is at most the limit": with the sets as
-- many as the slots used, overflow is held where the plain ones are fewer
abbrev pub countsb : ℕ → ℕ → ℕ → ℕ → Bool
countsb limit count used plain = nat_le count limit && (count == plain || (count == plain + 1 && nat_lt plain used))

-- "The directory agrees", else number 8. `used` comes first: it makes every other test safe.
unfoldable pub agreesb : ℕ → Directory → Stores → Bool
agreesb limit d s =
    nat_le d.used (limit + 1)
    && (slotsb d.used d.last s.sets s.entries
    && (allb d.used (place_at s.sets s.order d.used)
    && countsb limit d.count d.used (plainly s.sets s.order d.used)))

-- a scan of slots that ascend by set, from place i
abbrev pub seek : Set → List (List ℕ) → List ℕ → ℕ → Result ℕ ℕ
seek s sets [] i = Err i
seek s sets (x ∷ l) i = three (cmp s (set_at sets x)) (Err i) (Ok x) (seek s sets l (suc i))

-- the slot that holds the set, or the place where it would stand among those named
unfoldable pub sought : Set → ℕ → List (List ℕ) → List ℕ → Result ℕ ℕ
sought s used sets order = pick (same s []) (Ok 0) (seek s sets (span order 0 used) 0)

-- a slot holds a series: its third word is not 0
abbrev pub updated_in : List (List ℕ) → ℕ → Bool
updated_in entries x = not (slice_index (slice_index_or entries x []) 2 == 0)

-- the map that the stores hold: an entry that is not updated has no series; f gives the others', by slot
module _ (K : Kind) (f : ℕ → K.Series) where
  abbrev pub entry_at : Stores → ℕ → Entry K
  entry_at s x =
      record {
        set = set_at s.sets x;
        birth = birth_at s.entries x;
        bindings = slice_index (slice_index_or s.entries x []) 1;
        series = pick (updated_in s.entries x) (some (f x)) none;
      }

  abbrev pub view : K.Settings → Directory → Stores → Map K
  view z d s =
      record { settings = z; count = d.count; last = d.last; entries = map (entry_at s) (0 ∷ span s.order 0 d.used) }

  -- "The directory agrees when ..": the test is passed exactly where the stores are laid out so and the map that they hold agrees
  pub record Agreement (z : K.Settings) (c : Config K) (d : Directory) (s : Stores) : Type 0 where
    pub laid : agreesb c.limit d s ≡ true → Laid d s
    pub agrees : agreesb c.limit d s ≡ true → Agrees K c (view z d s)
    pub passes : Laid d s → Agrees K c (view z d s) → agreesb c.limit d s ≡ true
