-- BETWEEN OUR OWN CRATES: serves inner contracts and proofs; nobody needs it to believe the public calls or the theorems.
-- A list walked point by point, as the code walks it: judged, and put into bytes. Assumes nothing.
use Rattle.std.specs.Prelude.{ℕ, zero, suc, ◌+◌, ◌-◌, ◌*◌, ◌/◌, ◌≤◌, ◌≡◌, Bool, not, ◌&&◌, ◌||◌, List, [], ◌∷◌, ◌++◌, map, leb, ltb, eqb, length, get_or, Float, Option, Some, None}
use Rattle.laws.specs.Pick.{pick}
use Rattle.sets.specs.All.{allb}
use Rattle.sets.specs.Rows.{size, set_of, below}
use Rattle.tally.specs.Sets.{cmp}
use Rattle.floats.specs.Answers.{bits_of}
use Rattle.point.specs.Handing.{agrees_alone}
use Rattle.whole_point.specs.Handing.{shadow_point}
use Rattle.listing.specs.Listed.{stored_at}
use Rattle.listing.specs.declared.Cursor.{Cursor}
use Rattle.listing.specs.declared.Entry as Listing
use Rattle.listing.specs.declared.Entry.{Entry}
use Rattle.whole_listing.specs.declared.Entry as WE
use Rattle.pooling.specs.Lists.{Source, whole_at}
use Rattle.pooling.specs.Entries.{Whole}
use Rattle.records.specs.Records.{padded}
use Rattle.records.specs.Inner.{laid}
use Rattle.sheets.specs.Entries.{head_of, words_for}
use Rattle.sheets.specs.Sheet.{most_points, info_for}
use Rattle.sheets.specs.Inner.{row_fine}
use Rattle.sheets.specs.declared.Header.{Header}

abbrev pub origin : Cursor
origin = record { place = 0; pos = 0; neg = 0 }

-- ---- judged

-- the set of row b may stand at place i, behind that of row a
abbrev pub follows : ℕ → List ℕ → List ℕ → Bool
follows i a b = eqb i 0 || (leb (size a) 8 && (leb (size b) 8 && below (cmp (set_of a) (set_of b))))

-- a place has the row of a set that may be written there
abbrev pub row_taken : ℕ → List (List ℕ) → Bool
row_taken i sets = ltb i (length sets) && (row_fine (get_or sets i []) && follows i (get_or sets (i - 1) []) (get_or sets i []))

-- the shadow of a point of i64 values that was found
abbrev pub shadow_found : Option WE.Entry → Option Entry
shadow_found None = None
shadow_found (Some e) = Some (record { point = shadow_point e.point; bounds = e.bounds; next = e.next })

abbrev pub agreeing : Cursor → Source → Option Entry → Option Entry
agreeing at x None = None
agreeing at x (Some e) = pick (agrees_alone (stored_at at e x.bounds x.list)) (Some e) None

-- what the agreement of a point found is asked of: counts and bounds
abbrev pub lent_beside : List ℕ → List ℕ → List Float → Source
lent_beside pos neg bounds = record { list = record { sets = []; words = []; pos = pos; neg = neg }; bounds = bounds }

-- the point at a cursor, if it can be written behind the one before it
unfoldable pub step_at : Cursor → Source → Option Entry
step_at at x = pick (row_taken at.place x.list.sets) (agreeing at x (whole_at at x)) None

-- a point's counts lie behind its cursor, and are few
pub record Spanned (at : Cursor) (e : Listing.Entry) : Type 0 where
  pub pos : at.pos ≤ e.next.pos
  pub neg : at.neg ≤ e.next.neg
  pub few_pos : e.next.pos ≤ at.pos + 160
  pub few_neg : e.next.neg ≤ at.neg + 160
  pub few_bounds : e.bounds.len ≤ 159

-- how many words it takes
abbrev pub width_at : Cursor → Listing.Entry → ℕ
width_at at e = words_for e.bounds.len (e.next.pos - at.pos + (e.next.neg - at.neg))

-- n points from a cursor on, k words behind others; how many words there are then
abbrev pub judged_from : ℕ → Cursor → ℕ → Source → Option ℕ
judged_from zero at k x = Some k
judged_from (suc n) at k x = elim (step_at at x) [ None ↦ None | Some e ↦ judged_from n e.next (k + width_at at e) x ]

unfoldable pub judged : ℕ → Source → Option ℕ
judged n x = pick (leb n most_points) (judged_from n origin 0 x) None

-- no words of the first n have the kind of a point of i64 values, 2 or more
unfoldable pub no_kind : ℕ → List (List ℕ) → Bool
no_kind n words = allb n (λ i. not (leb 2 (get_or (get_or words i []) 0 0)))

-- ---- put

-- the point found lies within what is lent
abbrev pub whole_there : Cursor → Listing.Entry → List ℕ → List ℕ → List Float → Type 0
whole_there at e pos neg bounds = Whole at e (length pos) (length neg) (length bounds)

-- the words of the point at a cursor: its row, its head, its bounds and its counts
abbrev pub point_words : Cursor → List ℕ → Source → Listing.Entry → List ℕ
point_words at row x e =
    let p = stored_at at e x.bounds x.list in
    row ++ (head_of p ++ (padded (map bits_of p.bounds) ++ padded (p.pos ++ p.neg)))

-- n points from a cursor on, laid into a sheet of so many records from word k on
abbrev pub put_from : ℕ → Cursor → ℕ → ℕ → ℕ → Source → List ℕ → List ℕ
put_from zero at info records k x s = s
put_from (suc n) at info records k x s =
    elim (whole_at at x) [ None ↦ s | Some e ↦ put_from n e.next info records (k + width_at at e) x (laid info records k (point_words at (get_or x.list.sets at.place []) x e) s) ]

unfoldable pub put_sheet : Header → ℕ → ℕ → Source → List ℕ → List ℕ
put_sheet h n records x s =
    put_from n origin (info_for h n) records 3 x (laid (info_for h n) records 0 (h.start ∷ h.time ∷ 0 ∷ []) s)

-- the points were judged fine, and there is room for their records
pub record Judgement (n records : ℕ) (x : Source) (s : List ℕ) : Type 0 where
  pub cells : ℕ
  pub fine : judged n x ≡ Some cells
  pub counted : records ≡ cells / 3 + 1
  pub room : records * 32 ≤ length s
