-- BETWEEN OUR OWN CRATES: serves inner contracts and proofs; nobody needs it to believe the public calls or the theorems.
-- What the crate's own functions are given: found points that lie within what is lent. Assumes nothing.
use Rattle.std.specs.Prelude.{ℕ, ◌+◌, ◌≤◌, ◌<◌, List, [], ℤ, length, get_or, set, Float, Option, Some, None}
use Rattle.laws.specs.Said.{Said, refusal, success}
use Rattle.point.specs.Handing.{Stored}
use Rattle.whole_point.specs.Handing as W
use Rattle.whole_point.specs.Handing.{mixed_number, shadow_point}
use Rattle.listing.specs.Listed.{Output, stored_at}
use Rattle.listing.specs.declared.Cursor.{Cursor}
use Rattle.listing.specs.declared.Entry.{Entry}
use Rattle.whole_listing.specs.Listed as WL
use Rattle.whole_listing.specs.Inner.{with_numbers}
use Rattle.whole_listing.specs.declared.Entry as WE
use Rattle.pooling.specs.Lists.{Source, whole_at, integer_at, Outcome, seen, pooled_seen}

-- a found point lies within stores of so many
pub record Whole (at : Cursor) (e : Entry) (many many_neg many_bounds : ℕ) : Type 0 where
  pub pos : at.pos ≤ e.next.pos
  pub pos_end : e.next.pos ≤ many
  pub neg : at.neg ≤ e.next.neg
  pub neg_end : e.next.neg ≤ many_neg
  pub bounds : e.bounds.start + e.bounds.len ≤ many_bounds

abbrev pub whole_in : Cursor → Entry → List Float → List ℕ → List ℕ → Type 0
whole_in at e bounds pos neg = Whole at e (length pos) (length neg) (length bounds)

-- as it is stored
abbrev pub stored_of : Cursor → Entry → List Float → List ℕ → List ℕ → Stored
stored_of at e bounds pos neg = stored_at at e bounds (record { sets = []; words = []; pos = pos; neg = neg })

-- ---- points of i64 values

abbrev pub whole_of : Cursor → WE.Entry → List Float → List ℕ → List ℕ → W.Stored
whole_of at e bounds pos neg = WL.stored_at at e bounds (record { sets = []; words = []; pos = pos; neg = neg })

-- the shadow: the entry of an f64 point with the same counts and bounds
abbrev pub shadow_entry : WE.Entry → Entry
shadow_entry e = record { point = shadow_point e.point; bounds = e.bounds; next = e.next }

-- the words of lists after the shadows were merged: the merged numbers over those of the merged shadow
abbrev pub renumbered : ℕ → Option ℤ → Option ℤ → ℤ → Said Cursor → List (List ℕ) → List (List ℕ)
renumbered k min max sum (refusal n) words = words
renumbered k min max sum (success next) words = set words k (with_numbers (get_or words k []) min max sum)

-- the shadow's words are there
abbrev pub Numberable : ℕ → Said Cursor → List (List ℕ) → Type 0
Numberable k (refusal n) words = Unit
Numberable k (success next) words = (k < length words) × (get_or (get_or words k []) 0 0 ≤ 1)

-- ---- of either number, as the words' kinds tell

-- two points of f64 values, two of i64 values; 8 where one is not there
abbrev pub pooled_reals : ℕ → List ℕ → Cursor → Source → Cursor → Source → Cursor → Output → Outcome
pooled_reals size row a x b y at o = pooled_seen size row a x b y at o (seen (whole_at a x) None) (seen (whole_at b y) None)

abbrev pub pooled_integers : ℕ → List ℕ → Cursor → Source → Cursor → Source → Cursor → Output → Outcome
pooled_integers size row a x b y at o = pooled_seen size row a x b y at o (seen None (integer_at a x)) (seen None (integer_at b y))

-- the number of a point of i64 values at a beside one of f64 values at b
abbrev pub mixed_found : ℕ → Cursor → Source → Cursor → Source → Option WE.Entry → Option Entry → ℕ
mixed_found size a x b y None f = 8
mixed_found size a x b y (Some e) None = 8
mixed_found size a x b y (Some e) (Some f) = mixed_number size (WL.stored_at a e x.bounds x.list) (stored_at b f y.bounds y.list)

abbrev pub mixed_at : ℕ → Cursor → Source → Cursor → Source → ℕ
mixed_at size a x b y = mixed_found size a x b y (integer_at a x) (whole_at b y)
