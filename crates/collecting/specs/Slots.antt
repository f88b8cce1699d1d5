-- BETWEEN OUR OWN CRATES: serves inner contracts and proofs; nobody needs it to believe the public calls or the theorems.
-- How a collection goes through the slots, one by one: the definitions of the contracts between our crates. Assumes nothing.
use Rattle.std.specs.Prelude.{ℕ, ◌+◌, ◌*◌, ◌≤◌, ◌<◌, min, ◌≡◌, Bool, true, false, not, ◌&&◌, ◌||◌, List, [], leb, eqb, length, get_or, set}
use Rattle.std.specs.Prelude as Std
use Rattle.laws.specs.Lists.{only}
use Rattle.laws.specs.Pick.{pick}
use Rattle.tally.specs.Kind.{Kind}
use Rattle.sets.specs.Rows.{size}
use Rattle.directory.specs.View.{Stores, agreesb, updated_in}
use Rattle.directory.specs.Calls.{most_sets, stores_suffice}
use Rattle.directory.specs.declared.Directory.{Directory}
use Rattle.value_map.specs.Store.{Store}
use Rattle.value_map.specs.Calls.{Held}
use Rattle.batches.specs.Inner.{Known}
use Rattle.listing.specs.declared.Cursor.{Cursor}
use Rattle.listing.specs.Listed.{Output, over_at}
use Rattle.listing.specs.Inner.{Put, left}
use Rattle.collecting.specs.Lister.{Lister}
use Rattle.collecting.specs.Collected.{room_of, slots_of, due, due_of, counts_of, agreeing, laid_out, roomy}
use Rattle.collecting.specs.declared.Sums.{Sums}
use Rattle.collecting.specs.declared.Survey.{Survey}

-- ---- deciding by reading

-- "12, 8", before any series is read: of the kind's cells, which suffice or not, and of the number with which configuring refuses its settings
unfoldable pub unsurveyed : Bool → ℕ → ℕ → Directory → Stores → ℕ
unsurveyed cells unset limit d s =
    pick (stores_suffice limit s && cells) (pick (eqb unset 0 && (leb limit most_sets && agreesb limit d s)) 0 8) 12

-- what a survey of the slots finds where a series disagrees
abbrev pub unsound : Survey
unsound = record { sound = false; points = 0; pos = 0; neg = 0 }

-- as code hands it on: the sums of slots that agree; and none where a series disagrees
abbrev pub sound_of : Sums → Survey
sound_of s = record { sound = true; points = s.points; pos = s.pos; neg = s.neg }

abbrev pub survey_of : Std.Option Sums → Survey
survey_of Std.None = unsound
survey_of (Std.Some s) = sound_of s

-- "8, 10", after it: of the places that the lent output has
unfoldable pub surveyed_by : Survey → ℕ → ℕ → ℕ → ℕ → ℕ
surveyed_by s sets words pos neg =
    pick s.sound (pick (leb s.points (min sets words) && (leb s.pos pos && leb s.neg neg)) 0 10) 8

-- a point more, with its counts
abbrev pub one_more : Survey → ℕ → ℕ → Survey
one_more s p n = record { sound = true; points = s.points + 1; pos = s.pos + p; neg = s.neg + n }

-- the map as far as a walk over its slots reads it
abbrev pub walked : {Cells : Type 0} → ℕ → List (List ℕ) → List (List ℕ) → List ℕ → Cells → Held Cells
walked used sets entries order c =
    record {
      kept = record {
        dir = record { used = used; count = 0; last = 0 };
        stores = record { sets = sets; entries = entries; order = order };
      };
      cells = c;
    }

-- the slots of a walk over the map lie in the stores
pub record Walk {K : Kind} (S : Store K) (h : Held S.Cells) : Type 0 where
  pub set : S.unset ≡ 0
  pub most : h.kept.dir.used < 65536
  pub order : h.kept.dir.used ≤ length h.kept.stores.order
  pub entries : (x : ℕ) → x ≤ h.kept.dir.used → x < length h.kept.stores.entries
  pub slots : (k : ℕ) → k < h.kept.dir.used → (1 ≤ get_or h.kept.stores.order k 0) × (get_or h.kept.stores.order k 0 ≤ h.kept.dir.used)
  pub room : (x : ℕ) → x ≤ h.kept.dir.used → S.Room h.cells x

-- what a walk over the map may know: nothing, or that each series that is held agrees
abbrev pub AllKnown : {K : Kind} (S : Store K) → S.Switches → Bool → Held S.Cells → Type 0
AllKnown S w known h = (x : ℕ) → x ≤ h.kept.dir.used → Known S w known x (updated_in h.kept.stores.entries x) h.cells

-- a survey of slots that lie in the stores; and one with a slot more: a point has at most 160 counts in either store
abbrev pub Few : Survey → Type 0
Few s = (s.points < 65536) × (s.pos ≤ 65536 * 160) × (s.neg ≤ 65536 * 160)

abbrev pub More : Survey → Survey → Type 0
More s t = (t.points ≤ s.points + 1) × (t.pos ≤ s.pos + 160) × (t.neg ≤ s.neg + 160)

-- ---- writing

-- there is room at a cursor for a point with so many counts in either store
pub record Place (at : Cursor) (o : Output) (p n : ℕ) : Type 0 where
  pub sets : at.place < length o.sets
  pub words : at.place < length o.words
  pub pos : at.pos + p ≤ length o.pos
  pub neg : at.neg + n ≤ length o.neg

-- a row, words and counts put at a cursor, and the cursor behind them
unfoldable pub laid_at : Cursor → List ℕ → List ℕ → List ℕ → List ℕ → Output → Output
laid_at at row ws ps ns o =
    record {
      sets = set o.sets at.place row;
      words = set o.words at.place ws;
      pos = over_at at.pos ps o.pos;
      neg = over_at at.neg ns o.neg;
    }

abbrev pub behind_at : Cursor → ℕ → ℕ → Cursor
behind_at at p n = record { place = at.place + 1; pos = at.pos + p; neg = at.neg + n }

module _ {K : Kind} {S : Store K} (L : Lister S) (w : S.Switches) where
  -- a survey with slot x more, which was updated or not and is due or not
  unfoldable pub surveyed_at : Bool → Bool → S.Cells → Survey → ℕ → Survey
  surveyed_at updated due c s x =
      pick (not updated || K.agrees (S.settings w) (S.at c x))
      (pick due (one_more s (length (L.pos c x updated)) (length (L.neg c x updated))) s)
      unsound

  -- what slots that agree take in the output
  abbrev pub counted : Bool → Held S.Cells → List ℕ → Survey
  counted cumulative h l =
      let d = only (due cumulative h.kept) l in
      record { sound = true; points = length d; pos = length (counts_of L.pos h d); neg = length (counts_of L.neg h d) }

  unfoldable pub surveyed : Bool → Held S.Cells → Survey
  surveyed cumulative h = pick (agreeing L w h) (counted cumulative h (slots_of h.kept)) unsound

  -- what is known of a slot whose point is put: configuring accepts the settings, the slot lies in the cells, its series agrees if it holds one
  pub record Sound (updated : Bool) (c : S.Cells) (x : ℕ) : Type 0 where
    pub set : S.unset ≡ 0
    pub room : S.Room c x
    pub agrees : (not updated || K.agrees (S.settings w) (S.at c x)) ≡ true

  -- and there is room for its point at a cursor
  abbrev pub Free : Bool → S.Cells → ℕ → Cursor → Output → Type 0
  Free updated c x at o = Place at o (length (L.pos c x updated)) (length (L.neg c x updated))

  -- and of all slots whose points are put: the points that are due have room
  pub record Listable (cumulative : Bool) (h : Held S.Cells) (o : Output) : Type 0 where
    pub walk : Walk S h
    pub sets : (x : ℕ) → x ≤ h.kept.dir.used → (x < length h.kept.stores.sets) × (0 < x → size (get_or h.kept.stores.sets x []) ≤ 8)
    pub agrees : agreeing L w h ≡ true
    pub room : roomy L w h (due_of cumulative h.kept) (room_of o) ≡ true

  -- the point of slot x put at a cursor, if it is due
  unfoldable pub put_slot : Bool → Bool → S.Cells → ℕ → List ℕ → Cursor → Output → Put
  put_slot updated due c x row at o =
      pick due
      (left (behind_at at (length (L.pos c x updated)) (length (L.neg c x updated)))
      (laid_at at row (L.words w c x updated) (L.pos c x updated) (L.neg c x updated) o))
      (left at o)

  -- the points of slots, in the output
  abbrev pub put_slots : Held S.Cells → List ℕ → Output → Put
  put_slots h l o =
      left (record { place = length l; pos = length (counts_of L.pos h l); neg = length (counts_of L.neg h l) }) (laid_out L w h l o)

  -- the points that are due, in the output
  abbrev pub listed_to : Bool → Held S.Cells → Output → Put
  listed_to cumulative h o = put_slots h (due_of cumulative h.kept) o
