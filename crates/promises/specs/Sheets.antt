-- SHEETS (request L5), written and read by code: each theorem as a type. `writing` and `reading` are what the contracts of
-- `sheet_writing::write` and `sheet_reading::read` cite; `listed` takes points from a list, each with its set, bounds and counts. Assumes nothing.
use Rattle.std.specs.Prelude.{ℕ, ◌≤◌, ◌<◌, ◌≡◌, true, ◌⊎◌, List, [], ◌∷◌, ◌++◌, length, take, Float}
use Rattle.std.proofs.Math.Option.{Option, some, get_or}
use Rattle.laws.specs.Lists.{All}
use Rattle.laws.specs.Said.{refusal, success, number}
use Rattle.point.specs.Handing.{Stored}
use Rattle.tally.specs.Sets.{Set}
use Rattle.kinds.specs.Histograms.{histograms}
use Rattle.value_map.specs.Store.{Store}
use Rattle.value_map.specs.Calls.{Held}
use Rattle.value_map.specs.Maps.{config_of}
use Rattle.listing.specs.Listed.{found_at, read_from}
use Rattle.pooling.specs.Lists.{Source}
use Rattle.collecting.specs.Lister.{Lister}
use Rattle.collecting.specs.Collected.{Collected}
use Rattle.sheets.specs.Entries.{Entry}
use Rattle.sheets.specs.Sheet.{written, writable}
use Rattle.sheets.specs.Lists.{Lent, listed, Ample}
use Rattle.sheets.specs.declared.Header.{Header}
use Rattle.sheet_writing.specs.Writing.{writing}
use Rattle.sheet_reading.specs.Reading.{reading}
use Rattle.sheet_reading.specs.declared.Listed.{Listed}
use Rattle.promises.specs.Numbers.{reals}
use Rattle.promises.specs.Runs.{EveryRun}
use Rattle.promises.specs.Pooled.{stored_by, Whole, Holds}

-- ---- WRITTEN AND READ

-- the first n points of a list, under a header, are written as the bytes s: over some lent bytes
pub record Writes (h : Header) (n : ℕ) (x : Source) (s : List ℕ) : Type 0 where
  pub lent : Lent x
  pub out : List ℕ
  pub accepted : (writing h n x out).answer ≡ success (length s)
  pub bytes : take (length s) (writing h n x out).bytes ≡ s

-- "The writer has one sheet for each header and list of points that agree (under size 160 and scale 10)": each that is taken, at most 64 points with
-- ascending well-formed sets that agree, is written where 233,504 bytes are lent. (That there are no others is `writable`, in the contract.)
abbrev pub EverySheet : Type 0
EverySheet =
    (h : Header) (n : ℕ) (x : Source) (es : List Entry) → listed n x ≡ some es → writable (record { header = h; points = es }) ≡ true
    → Lent x → (out : List ℕ) → 233504 ≤ length out → Writes h n x (take (length (written (record { header = h; points = es }))) (writing h n x out).bytes)

-- "returns both bit for bit": what was written is never 15; where the stores have room for any sheet it is read; and where it is read, then as the header
-- and the points, each with its set, its bounds and its counts
abbrev pub SheetBack : Type 0
SheetBack =
    (h : Header) (n : ℕ) (x : Source) (s : List ℕ) → Writes h n x s → (o : Source)
    → (number (reading s o).answer ≡ 15 → ⊥)
    × (Ample o → (reading s o).answer ≡ success (record { header = h; points = n }))
    × ((l : Listed) → (reading s o).answer ≡ success l → (l ≡ record { header = h; points = n }) × (listed n (reading s o).lent ≡ listed n x))

-- "15 for any sheet the writer could not have written": bytes that are not 15 are those that some header and list are written as
abbrev pub SheetOnly : Type 0
SheetOnly =
    (s : List ℕ) → All (λ b. b < 256) s → (o : Source) → (number (reading s o).answer ≡ 15 → ⊥)
    → (h : Header) × (n : ℕ) × (x : Source) × Writes h n x s

-- "The writer has one sheet for each header and list": alike ones have one sheet, and unlike ones unlike sheets
abbrev pub OneSheet : Type 0
OneSheet =
    (h g : Header) (n m : ℕ) (x y : Source) (s z : List ℕ) → Writes h n x s → Writes g m y z
    → (h ≡ g → listed n x ≡ listed m y → s ≡ z) × (s ≡ z → (h ≡ g) × (n ≡ m) × (listed n x ≡ listed m y))

-- the whole slice is read: a sheet with bytes behind it is 15
abbrev pub WholeSlice : Type 0
WholeSlice =
    (h : Header) (n : ℕ) (x : Source) (s : List ℕ) → Writes h n x s → (b : ℕ) (e : List ℕ) (o : Source) → (reading (s ++ (b ∷ e)) o).answer ≡ refusal 15

-- ---- DEMAND 3 OVER POINTS THAT WENT THROUGH A SHEET

-- the first n points of list x were written to a sheet, and read from it into list y
pub record Carried (n : ℕ) (x y : Source) : Type 0 where
  pub header : Header
  pub bytes : List ℕ
  pub writes : Writes header n x bytes
  pub into : Source
  pub read : (reading bytes into).answer ≡ success (record { header = header; points = n })
  pub is : (reading bytes into).lent ≡ y

-- the points that a list hands to merges, each with its set
abbrev pub points_at : ℕ → Source → Option (List (Set × Stored))
points_at n y = read_from (found_at y.bounds) n (record { place = 0; pos = 0; neg = 0 }) y.list

-- of any list, a collection's or one that merges made, they are the same after it was carried: so is whatever is merged of them
abbrev pub SheetCarries : Type 0
SheetCarries = (n : ℕ) (x y : Source) → Carried n x y → points_at n y ≡ points_at n x

-- the points of a collection, in the list that theirs was carried to
abbrev pub carried_out : {Cells : Type 0} → List Float → (ℕ → Source → Source) → Collected Cells → List (Set × Stored)
carried_out bounds carry c =
    elim c.answer [
      | refusal k ↦ []
      | success n ↦ get_or (points_at n (carry n (record { list = c.out; bounds = bounds }))) []
    ]

-- and so demand 3: whichever of a run's lists go through a sheet and whichever stay (alike lists alike), it holds as it does of the points as they
-- were collected
abbrev pub SheetMerges : Type 1
SheetMerges =
    (S : Store histograms) (L : Lister S) (bounds : List Float) (w : S.Switches) (limit : ℕ) (filter : Option (List ℕ)) (h : Held S.Cells)
    → Holds reals L bounds w limit filter h
    → (carry : ℕ → Source → Source) → ((n : ℕ) (x : Source) → (carry n x ≡ x) ⊎ Carried n x (carry n x))
    → EveryRun L w limit filter h
    (λ xs qs ans. Whole reals (config_of S w limit filter) qs ans (λ r. stored_by L w limit filter (carried_out bounds carry) r h xs))
