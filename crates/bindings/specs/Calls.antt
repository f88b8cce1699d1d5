-- What binding and releasing make of the directory: exactly, in its stores. Assumes nothing.
use Rattle.std.specs.Prelude.{ℕ, ◌+◌, ◌-◌, List, [], ◌∷◌, leb, length, get_or, set, Ok, Err, Result}
use Rattle.std.specs.Prelude as Std
use Rattle.std.proofs.Math.Option.{Option, none, some}
use Rattle.laws.specs.Pick.{pick}
use Rattle.laws.specs.Said.{Said, refusal, success}
use Rattle.tally.specs.Sets.{Set, canonical}
use Rattle.tally.specs.Kind as Map
use Rattle.sets.specs.Rows.{span, row_of}
use Rattle.sets.specs.Sorted.{most_attributes}
use Rattle.directory.specs.Calls.{Kept, kept, over_row, located, admitted, bound_to, scan, most_sets, accepts, stores_suffice}
use Rattle.directory.specs.View.{Stores, birth_at, agreesb}
use Rattle.directory.specs.declared.Directory.{Directory}
use Rattle.directory.specs.declared.Target.{Target}
use Rattle.directory.specs.declared.Target.TheVariants.{Disagrees, Old, New, Over}
use Rattle.refusals.specs.Refusals.{number}
use Rattle.refusals.specs.declared.Refusal.{Refusal}
use Rattle.bindings.specs.declared.Reply.{Reply}
use Rattle.laws.specs.Counting.{most_count}

-- "a definition gives this paper's number and values for each case of that enum": success has no value, or a binding's birth number, which a
-- handle holds
abbrev pub said_by : {E : Type 0} → (E → ℕ) → Result (Std.Option ℕ) E → Said (Option ℕ)
said_by number_of (Err e) = refusal (number_of e)
said_by number_of (Ok Std.None) = success none
said_by number_of (Ok (Std.Some b)) = success (some b)

abbrev pub said : Result (Std.Option ℕ) Refusal → Said (Option ℕ)
said = said_by number

-- what a call says, with the directory's state and stores after it
pub record Outcome : Type 0 where
  pub answer : Said (Option ℕ)
  pub kept : Kept

-- as a contract writes it: what a call replied, with the stores that it left
abbrev pub gave_by : {E : Type 0} → (E → ℕ) → Reply E → Stores → Outcome
gave_by number_of r s = record { answer = said_by number_of r.answer; kept = kept r.dir s }

abbrev pub gave : Reply Refusal → Stores → Outcome
gave = gave_by number

-- what is said, as the abstract map's answer
abbrev pub map_answer : (K : Map.Kind) → Said (Option ℕ) → Map.Answer K
map_answer K (refusal n) = Map.refuse n
map_answer K (success none) = Map.done
map_answer K (success (some b)) = Map.handle b

abbrev pub refused : ℕ → Directory → Stores → Outcome
refused n d s = record { answer = refusal n; kept = record { dir = d; stores = s } }

abbrev pub released_at : Directory → Stores → Result ℕ ℕ → Outcome
released_at d s (Err r) = refused 7 d s
released_at d s (Ok x) =
    record {
      answer = success none;
      kept = record {
        dir = d;
        stores = record { sets = s.sets; entries = bound_to s.entries x (get_or (get_or s.entries x []) 1 0 - 1); order = s.order };
      };
    }

-- releasing in stores that suffice: 8, 7, or one binding less
unfoldable pub released_in : ℕ → Directory → Stores → ℕ → Outcome
released_in limit d s h =
    pick (agreesb limit d s) (released_at d s (scan h s.entries (0 ∷ span s.order 0 d.used))) (refused 8 d s)

-- a new entry with one binding, unless the birth numbers are spent
abbrev pub born_bound : Directory → Stores → List ℕ → ℕ → ℕ → Outcome
born_bound d s row rank more =
    pick (leb most_count d.last) (refused 9 d s)
    (record { answer = success (some (d.last + 1)); kept = admitted d s row rank more 1 })

-- one binding more on a slot that is held, unless its bindings are 2 ^ 64 - 1
abbrev pub held_bound : Directory → Stores → ℕ → Outcome
held_bound d s x =
    pick (leb most_count (get_or (get_or s.entries x []) 1 0)) (refused 9 d s)
    (record {
      answer = success (some (birth_at s.entries x));
      kept = record {
        dir = d;
        stores = record { sets = s.sets; entries = bound_to s.entries x (get_or (get_or s.entries x []) 1 0 + 1); order = s.order };
      };
    })

abbrev pub bound_at : Directory → Stores → List ℕ → Target → Outcome
bound_at d s row Disagrees = refused 8 d s
bound_at d s row (Old x) = held_bound d s x
bound_at d s row (New r) = born_bound d s row r 1
bound_at d s row (Over r) = born_bound d s over_row r 0

-- binding the set of a row in stores that suffice: 8, 9, or one binding more, with the birth number for a handle
unfoldable pub bound_in : ℕ → Directory → Stores → List ℕ → Outcome
bound_in limit d s row = bound_at d s row (located limit d s row)

-- a directory without named sets; the empty set has no bindings and was not updated
abbrev pub fresh : Directory
fresh = record { used = 0; count = 0; last = 0 }

-- Configuring, of "1, 2, 3, 4, 12" those that are the same for every kind: 4, 12
unfoldable pub started : ℕ → Option (List ℕ) → Stores → Outcome
started limit filter s =
    pick (accepts limit filter)
    (pick (stores_suffice limit s)
    (record {
      answer = success none;
      kept = record {
        dir = fresh;
        stores = record { sets = s.sets; entries = set s.entries 0 (0 ∷ 0 ∷ 0 ∷ []); order = s.order };
      };
    })
    (refused 12 fresh s))
    (refused 4 fresh s)

-- "Binding: 12, 5, 8, 9". 8 also where configuring could not have accepted the limit and the filter.
unfoldable pub bound : ℕ → Option (List ℕ) → Directory → Stores → Set → Outcome
bound limit filter d s attrs =
    pick (stores_suffice limit s)
    (pick (leb (length attrs) most_attributes)
    (pick (accepts limit filter) (bound_in limit d s (row_of (canonical filter attrs))) (refused 8 d s))
    (refused 5 d s))
    (refused 12 d s)

-- "Releasing: 12, 8, 7"
unfoldable pub released : ℕ → Directory → Stores → ℕ → Outcome
released limit d s h =
    pick (stores_suffice limit s) (pick (leb limit most_sets) (released_in limit d s h) (refused 8 d s)) (refused 12 d s)
