-- A list of points in lent stores (docs/LIST.md) and the entries of a sheet: taken from a list, and laid into one. Assumes nothing.
use Rattle.std.specs.Prelude.{ℕ, ◌+◌, ◌≤◌, ◌<◌, ◌≡◌, Bool, true, ◌&&◌, List, [], ◌∷◌, ◌++◌, map, leb, ltb, length, get_or, Float, Some, None}
use Rattle.std.proofs.Math.Option.{Option, none, some}
use Rattle.std.specs.Float.{binary64}
use Rattle.std.specs.Float.Ieee.{fits}
use Rattle.laws.specs.Counting.{sum}
use Rattle.laws.specs.Lists.{All}
use Rattle.laws.specs.Over.{over}
use Rattle.laws.specs.Pick.{pick}
use Rattle.sets.specs.Rows.{set_of, row_of}
use Rattle.point.specs.Handing.{Stored}
use Rattle.listing.specs.Words.{words_of}
use Rattle.listing.specs.Listed.{Output, stored_at, read_from}
use Rattle.listing.specs.declared.Cursor.{Cursor}
use Rattle.pooling.specs.Lists.{Source, whole_at}
use Rattle.sheets.specs.Entries.{Entry}
use Rattle.sheets.specs.Sheet.{same_list}

-- ---- taken from a list

-- the point that lies at a cursor with all of its counts and bounds, if its set's row there is one that a set is written as; the next cursor
abbrev pub whole_found : List Float → Cursor → Output → Option (Stored × Cursor)
whole_found bounds at o =
    let row = get_or o.sets at.place [] in
    pick (ltb at.place (length o.sets) && same_list (row_of (set_of row)) row)
    (elim (whole_at at (record { list = o; bounds = bounds })) [ None ↦ none | Some e ↦ some (stored_at at e bounds o, e.next) ])
    none

-- n points of a list, from its first place on; none unless all of them are there
abbrev pub listed : ℕ → Source → Option (List Entry)
listed n x = read_from (whole_found x.bounds) n (record { place = 0; pos = 0; neg = 0 }) x.list

-- of what can be lent, as much as the theorems need: rows of sets have words of u64, bounds are f64s
pub record Lent (x : Source) : Type 0 where
  pub sets : All (All (λ w. w < 18446744073709551616)) x.list.sets
  pub bounds : All (λ b. fits binary64 b ≡ true) x.bounds

-- ---- laid into a list

-- the bounds, or the counts of a row, of all points, one point's behind the other's
abbrev pub joined : {A : Type 0} → (Stored → List A) → List Entry → List A
joined f [] = []
joined f (e ∷ es) = f e.1 ++ joined f es

-- the points' words; the bounds of the first lie from place b on
abbrev pub words_from : ℕ → List Entry → List (List ℕ)
words_from b [] = []
words_from b (e ∷ es) =
    let n = length e.1.bounds in
    words_of e.1.point (record { start = b; len = n }) ∷ words_from (b + n) es

-- from the front of each store on. "Lent output past the result keeps what it held"
abbrev pub laid_out : List Entry → Source → Source
laid_out es o =
    record {
      list = record {
        sets = over (map (λ e. row_of e.0) es) o.list.sets;
        words = over (words_from 0 es) o.list.words;
        pos = over (joined (λ x. x.pos) es) o.list.pos;
        neg = over (joined (λ x. x.neg) es) o.list.neg;
      };
      bounds = over (joined (λ x. x.bounds) es) o.bounds;
    }

-- so many rows, words, counts and bounds have room for n points that take so much
abbrev pub room_for : ℕ → ℕ → ℕ → ℕ → ℕ → ℕ → ℕ → ℕ → ℕ → Bool
room_for n pos neg bounds sets words many_pos many_neg many_bounds =
    leb n sets && (leb n words && (leb pos many_pos && (leb neg many_neg && leb bounds many_bounds)))

abbrev pub fits_in : ℕ → ℕ → ℕ → ℕ → Source → Bool
fits_in n pos neg bounds o =
    room_for n pos neg bounds (length o.list.sets) (length o.list.words) (length o.list.pos) (length o.list.neg) (length o.bounds)

abbrev pub roomy : List Entry → Source → Bool
roomy es o =
    fits_in (length es) (sum (λ e. length e.1.pos) es) (sum (λ e. length e.1.neg) es) (sum (λ e. length e.1.bounds) es) o

-- room for the points of any sheet: 64, each with at most 160 counts of either sign and 159 bounds
pub record Ample (o : Source) : Type 0 where
  pub sets : 64 ≤ length o.list.sets
  pub words : 64 ≤ length o.list.words
  pub pos : 10240 ≤ length o.list.pos
  pub neg : 10240 ≤ length o.list.neg
  pub bounds : 10176 ≤ length o.bounds
