-- What a delta collection leaves of the directory: exactly, in its stores. Assumes nothing.
use Rattle.std.specs.Prelude.{ℕ, zero, suc, ◌-◌, Bool, not, ◌&&◌, List, [], ◌∷◌, ◌++◌, map, eqb, length, get_or}
use Rattle.laws.specs.Lists.{only}
use Rattle.laws.specs.Over.{over}
use Rattle.laws.specs.Pick.{pick}
use Rattle.tally.specs.Map.{plain}
use Rattle.sets.specs.Rows.{span, set_of}
use Rattle.directory.specs.Calls.{Kept}

-- "others, without bindings and not overflow, are removed": whether the slot of a set's row and an entry's goes
abbrev pub goes : List ℕ → List ℕ → Bool
goes row entry = eqb (get_or entry 2 0) 0 && (eqb (get_or entry 1 0) 0 && plain (set_of row))

abbrev pub staying : List (List ℕ) → List (List ℕ) → ℕ → Bool
staying sets entries x = not (goes (get_or sets x []) (get_or entries x []))

-- the slots of 1 to n that stay, in the order of birth
abbrev pub stayers : (ℕ → Bool) → ℕ → List ℕ
stayers p zero = []
stayers p (suc n) = stayers p n ++ pick (p (suc n)) (suc n ∷ []) []

-- the new slot of one that stays: how many of those up to it stay
abbrev pub rank : (ℕ → Bool) → ℕ → ℕ
rank p x = length (stayers p x)

-- the rows of slot 0 and of the slots that stay, one behind the other, each as c leaves it; behind them what was there
abbrev pub down : (List ℕ → List ℕ) → (ℕ → Bool) → ℕ → List (List ℕ) → List (List ℕ)
down c p used rows = over (map (λ x. c (get_or rows x [])) (0 ∷ stayers p used)) rows

-- "updated entries are listed and reset": birth number and bindings as they were, not updated
abbrev pub clear : List ℕ → List ℕ
clear entry = get_or entry 0 0 ∷ get_or entry 1 0 ∷ 0 ∷ []

-- The slots that stay keep their order and move down, reset; `order` keeps its sequence without the others, under the new numbers; "the
-- count falls by them". What lies behind the new slots and places stays exactly as it was.
unfoldable pub swept_kept : Kept → Kept
swept_kept k =
    let used = k.dir.used in
    let p = staying k.stores.sets k.stores.entries in
    record {
      dir = record { used = rank p used; count = k.dir.count - (used - rank p used); last = k.dir.last };
      stores = record {
        sets = down (λ row. row) p used k.stores.sets;
        entries = down clear p used k.stores.entries;
        order = over (map (rank p) (only p (span k.stores.order 0 used))) k.stores.order;
      };
    }
