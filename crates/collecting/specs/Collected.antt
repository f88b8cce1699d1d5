-- What the collecting calls make of the map and of lent output: answer, state and every lent store, for any kind's store. Assumes nothing.
use Rattle.std.specs.Prelude.{ℕ, min, Bool, true, false, not, ◌&&◌, ◌||◌, List, [], ◌∷◌, ◌++◌, map, leb, eqb, length, Result}
use Rattle.std.proofs.Math.Option.{Option, none, some}
use Rattle.laws.specs.Lists.{only}
use Rattle.laws.specs.Over.{over}
use Rattle.laws.specs.Pick.{pick}
use Rattle.laws.specs.Said.{Said, refusal, success}
use Rattle.laws.specs.Tests.{all}
use Rattle.refusals.specs.Refusals.{said}
use Rattle.refusals.specs.declared.Refusal.{Refusal}
use Rattle.tally.specs.Sets.{Set}
use Rattle.tally.specs.Kind.{Kind, Room}
use Rattle.tally.specs.Map.{Points, Answer, refuse, listed}
use Rattle.sets.specs.Rows.{span, row_of}
use Rattle.directory.specs.View.{set_at, agreesb, updated_in}
use Rattle.directory.specs.Calls.{Kept, most_sets}
use Rattle.sweep.specs.Swept.{swept_kept}
use Rattle.value_map.specs.Store.{Store}
use Rattle.value_map.specs.Calls.{Held, passes, lent}
use Rattle.listing.specs.Listed.{Output, read_from}
use Rattle.listing.specs.declared.Cursor.{Cursor}
use Rattle.collecting.specs.Lister.{Lister}

-- success is the number of points, which lie in the output
pub record Collected (Cells : Type 0) : Type 0 where
  pub answer : Said ℕ
  pub held : Held Cells
  pub out : Output

-- as a contract writes it: what a call said, with the map and the output that it left
abbrev pub gave : {Cells : Type 0} → Result ℕ Refusal → Held Cells → Output → Collected Cells
gave a h o = record { answer = said a; held = h; out = o }

-- "10: lent output too short for all points or counts": places for points are asked of both stores that take one row a point
abbrev pub room_of : Output → Room
room_of o = record { points = min (length o.sets) (length o.words); pos = length o.pos; neg = length o.neg }

-- the slots ascending by set, the empty set's first
abbrev pub slots_of : Kept → List ℕ
slots_of k = 0 ∷ span k.stores.order 0 k.dir.used

-- the slots whose entries were updated; and, for a cumulative collection, the named ones too: "every named entry is listed, even one bound
-- and never recorded .. The empty series is listed only if updated."
abbrev pub due : Bool → Kept → ℕ → Bool
due cumulative k x = updated_in k.stores.entries x || (cumulative && not (eqb x 0))

abbrev pub due_of : Bool → Kept → List ℕ
due_of cumulative k = only (due cumulative k) (slots_of k)

-- the counts of slots in one of two stores, one slot's behind the other's
abbrev pub counts_of : {Cells : Type 0} → (Cells → ℕ → Bool → List ℕ) → Held Cells → List ℕ → List ℕ
counts_of counts h [] = []
counts_of counts h (x ∷ l) = counts h.cells x (updated_in h.kept.stores.entries x) ++ counts_of counts h l

module _ {K : Kind} {S : Store K} (L : Lister S) (w : S.Switches) where
  -- the sets, points and counts of a list of slots. "Lent output past the result keeps what it held."
  abbrev pub laid_out : Held S.Cells → List ℕ → Output → Output
  laid_out h l o =
      record {
        sets = over (map (λ x. row_of (set_at h.kept.stores.sets x)) l) o.sets;
        words = over (map (λ x. L.words w h.cells x (updated_in h.kept.stores.entries x)) l) o.words;
        pos = over (counts_of L.pos h l) o.pos;
        neg = over (counts_of L.neg h l) o.neg;
      }

  -- "8: .. touched series disagrees with itself": a series is touched where its entry was updated
  abbrev pub agreeing : Held S.Cells → Bool
  agreeing h = all (λ x. not (updated_in h.kept.stores.entries x) || K.agrees (S.settings w) (S.at h.cells x)) (slots_of h.kept)

  unfoldable pub roomy : Held S.Cells → List ℕ → Room → Bool
  roomy h l r = leb (length l) r.points && (leb (length (counts_of L.pos h l)) r.pos && leb (length (counts_of L.neg h l)) r.neg)

  -- "Collecting: 12, 8, 10"; 0 if none. 8 also where configuring could not have accepted the settings and the limit.
  unfoldable pub uncollected : Bool → ℕ → Held S.Cells → Output → ℕ
  uncollected cumulative limit h o =
      pick (lent S limit h)
      (pick (passes S && (leb limit most_sets && (agreesb limit h.kept.dir h.kept.stores && agreeing h)))
      (pick (roomy h (due_of cumulative h.kept) (room_of o)) 0 10)
      8)
      12

  -- refused with the number n, "Every refusal changes nothing.", or the points of the slots that are due in the output; the map is k then
  abbrev pub collected_to : Bool → Kept → ℕ → Held S.Cells → Output → Collected S.Cells
  collected_to cumulative k n h o =
      let l = due_of cumulative h.kept in
      pick (eqb n 0) (record { answer = success (length l); held = record { kept = k; cells = h.cells }; out = laid_out h l o })
      (record { answer = refusal n; held = h; out = o })

  -- DELTA: "updated entries are listed and reset; others, without bindings and not overflow, are removed, the count falls by them, and their
  -- places serve new sets". An entry that is reset has no series: no cell is written.
  unfoldable pub delta_collected : ℕ → Held S.Cells → Output → Collected S.Cells
  delta_collected limit h o = collected_to false (swept_kept h.kept) (uncollected false limit h o) h o

  -- CUMULATIVE (`LowMemory` too): the map stays
  unfoldable pub cumulative_collected : ℕ → Held S.Cells → Output → Collected S.Cells
  cumulative_collected limit h o = collected_to true h.kept (uncollected true limit h o) h o

-- the points that a collection handed out: as many as it said, from the first place on
abbrev pub points_out : {A Cells : Type 0} → (Cursor → Output → Option (A × Cursor)) → Collected Cells → Option (List (Set × A))
points_out found c = elim c.answer [ refusal n ↦ some [] | success n ↦ read_from found n (record { place = 0; pos = 0; neg = 0 }) c.out ]

-- an answer as the map's; a success without as many points as it says counts as 8, which no tally answers
abbrev pub listed_or8 : {K : Kind} → Option (Points K) → Answer K
listed_or8 ps = elim ps [ none ↦ refuse 8 | some l ↦ listed l ]

abbrev pub answered : {K : Kind} {S : Store K} → Lister S → Collected S.Cells → Answer K
answered L c = elim c.answer [ refusal n ↦ refuse n | success n ↦ listed_or8 (points_out L.found c) ]
