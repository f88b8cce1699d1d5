-- What the calls make of the directory: exactly, in its stores. Assumes nothing.
use Rattle.std.specs.Prelude.{ℕ, ◌+◌, Bool, true, ◌&&◌, List, [], ◌∷◌, length, ◌==◌, nat_le, nat_lt, slice_index, slice_index_or, slice_set, Ok, Err, Result}
use Rattle.std.proofs.Math.Option.{Option, none, some}
use Rattle.laws.specs.Pick.{pick}
use Rattle.sets.specs.Inserted.{inserted}
use Rattle.sets.specs.Rows.{set_of}
use Rattle.directory.specs.View.{Stores, birth_at, agreesb, sought}
use Rattle.directory.specs.declared.Directory.{Directory}
use Rattle.directory.specs.declared.Target.{Target}
use Rattle.directory.specs.declared.Target.TheVariants.{Disagrees, Old, New, Over}

-- the row of the overflow set, 4294967295:1
abbrev pub over_row : List ℕ
over_row = 18446744069414584321 ∷ 0 ∷ 0 ∷ 0 ∷ 0 ∷ 0 ∷ 0 ∷ 0 ∷ 1 ∷ []

abbrev pub or_over : Result ℕ ℕ → Target
or_over (Ok x) = Old x
or_over (Err r) = Over r

-- what is found of the set, whether there is room under the limit, what is found of overflow
abbrev pub target_of : Result ℕ ℕ → Bool → Result ℕ ℕ → Target
target_of (Ok x) roomy over = Old x
target_of (Err r) roomy over = pick roomy (New r) (or_over over)

-- "A new set is made while the map's count is below the limit; otherwise the value goes to the overflow series": the slot that holds it; a
-- new one at a place, under the limit; else that of overflow, held or new
unfoldable pub located : ℕ → Directory → Stores → List ℕ → Target
located limit d s row =
    pick (agreesb limit d s)
    (target_of (sought (set_of row) d.used s.sets s.order) (nat_lt d.count limit) (sought (set_of over_row) d.used s.sets s.order))
    Disagrees

-- the directory's state and stores after a call
pub record Kept : Type 0 where
  pub dir : Directory
  pub stores : Stores

abbrev pub kept : Directory → Stores → Kept
kept d s = record { dir = d; stores = s }

-- a new entry in the next slot, with so many bindings, and its place in the order
unfoldable pub admitted : Directory → Stores → List ℕ → ℕ → ℕ → ℕ → Kept
admitted d s row rank more bound =
    record {
      dir = record { used = d.used + 1; count = d.count + more; last = d.last + 1 };
      stores = record {
        sets = slice_set s.sets (d.used + 1) row;
        entries = slice_set s.entries (d.used + 1) ((d.last + 1) ∷ bound ∷ 0 ∷ []);
        order = inserted s.order d.used rank (d.used + 1);
      };
    }

-- the slot's bindings are n
unfoldable pub bound_to : List (List ℕ) → ℕ → ℕ → List (List ℕ)
bound_to entries x n = slice_set entries x (slice_index (slice_index_or entries x []) 0 ∷ n ∷ slice_index (slice_index_or entries x []) 2 ∷ [])

-- "7: handle names no entry, or one without bindings": the slot that the handle names, if it has bindings
abbrev pub scan : ℕ → List (List ℕ) → List ℕ → Result ℕ ℕ
scan h entries [] = Err 0
scan h entries (x ∷ l) = pick (birth_at entries x == h && nat_lt 0 (slice_index (slice_index_or entries x []) 1)) (Ok x) (scan h entries l)

-- "4: cardinality limit over 62, or filter over 16 keys" (L12: 2000)
abbrev pub most_sets : ℕ
most_sets = 62

abbrev pub most_keys : ℕ
most_keys = 16

-- configuring accepts the limit and the filter
abbrev pub few_keys : Option (List ℕ) → Bool
few_keys none = true
few_keys (some keys) = nat_le (length keys) most_keys

abbrev pub accepts : ℕ → Option (List ℕ) → Bool
accepts limit filter = nat_le limit most_sets && few_keys filter

-- "12: any other lent store under limit + 2 entries"
abbrev pub stores_suffice : ℕ → Stores → Bool
stores_suffice limit s =
    nat_le (limit + 2) (length s.sets) && (nat_le (limit + 2) (length s.entries) && nat_le (limit + 2) (length s.order))
