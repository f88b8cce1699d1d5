-- DEMAND 3, WHOLE, about the code of a histogram kind over f64 or i64: the points of a set as they lie in the lent outputs of a run, merged by code
-- (`point::merge`, `whole_point::merge`). Assumes nothing.
use Rattle.std.specs.Prelude.{ℕ, ◌<◌, ◌≡◌, true, length, Float}
use mathlib.Core.List.{List, [], ◌∷◌, ◌++◌, map, Permᴰ}
use Rattle.std.proofs.Math.Option.{Option, get_or}
use Rattle.laws.specs.Lists.{All}
use Rattle.laws.specs.Said.{refusal, success}
use Rattle.laws.specs.Trees.{Tree, leaves}
use Rattle.points.specs.Counts.{Settings, resized}
use Rattle.points.specs.Number.{Number}
use Rattle.points.specs.Any.{Stands}
use Rattle.points.specs.Coded.{PointOf}
use Rattle.point.specs.Lists.{Long}
use Rattle.merging.specs.Merged.{Groups}
use Rattle.tally.specs.Kind.{Kind}
use Rattle.tally.specs.Sets.{Set, of_set}
use Rattle.tally.specs.Map.{Config, Call, Answer}
use Rattle.tally.specs.Demand.{Answered, any, gained, points_of}
use Rattle.value_map.specs.Store.{Store}
use Rattle.value_map.specs.Calls.{Held}
use Rattle.value_map.specs.Maps.{config_of}
use Rattle.collecting.specs.Lister.{Lister}
use Rattle.collecting.specs.Collected.{Collected, delta_collected, points_out}
use Rattle.promises.specs.Numbers.{InRuns, kind_of}
use Rattle.promises.specs.Seen.{Shows}
use Rattle.promises.specs.Runs.{Asked, recording, recording_by, binding, releasing, collecting, ended, EveryRun}

-- ---- POINTS AS THEY LIE IN LENT OUTPUT

module _ {K : Kind} {S : Store K} (L : Lister S) (w : S.Switches) (limit : ℕ) (filter : Option (List ℕ)) {A : Type 0} where
  -- a set's points in what the collections of a run left, by a reader of it
  abbrev pub stored_by : (Collected S.Cells → List (Set × A)) → Set → Held S.Cells → List (Asked K) → List A
  stored_by points r h [] = []
  stored_by points r h (x ∷ xs) =
      elim x [
        | recording v attrs small ↦ []
        | recording_by b v ↦ []
        | binding attrs small ↦ []
        | releasing b ↦ []
        | collecting o ↦ of_set r (points (delta_collected L w limit h o))
      ]
      ++ stored_by points r (ended L w limit filter h x).1 xs

module _ {N : Number} (P : InRuns N) where
  abbrev Stored : Type 0
  Stored = P.coded.Stored

  -- each as its collection left it, and as it is handed to a merge
  abbrev pub stored_of : {S : Store (kind_of P)} → Lister S → List Float → S.Switches → ℕ → Option (List ℕ) → Set → Held S.Cells → List (Asked (kind_of P))
      → List Stored
  stored_of L bounds w limit filter = stored_by L w limit filter (λ c. get_or (points_out (P.found bounds) c) [])

  -- document 01's point of some values, which shows their scale and offsets
  abbrev pub Pointed : Settings → Stored → Type 0
  Pointed z x = (vs : List N.Value) × PointOf P.coded z vs x × Shows z.kind z.threshold (N.nears vs) (P.figures x)

  -- ---- MERGED BY CODE

  -- the stored points ps, which stand for the values together, merged under a max_size
  pub record Pools (z : Settings) (ps : List Stored) (values : List N.Value) (size : ℕ) : Type 0 where
    -- "each set with a collected value has a merged point"
    pub there : 0 < length ps
    -- "its points merged one by one in any order", and in any grouping, either argument first, into whatever rows were lent to each merge: the result
    -- has "exactly the scale, offsets, all counts, minimum and maximum (a zero's sign aside) that document 01 defines from its collected values. The
    -- sum too, if ..": `Stands` says each of them, `Shows` scale and offsets as they leave, signed
    pub stands : (t : Tree Stored) → Permᴰ ps (leaves t) → (x : Stored) → Groups P.coded size t x
        → Stands N z (P.coded.handed_in x) values × Shows z.kind z.threshold (N.nears values) (P.figures x)
    -- the card of what is merged: over f64 that of all the values (request L2)
    pub card : (t : Tree Stored) → Permᴰ ps (leaves t) → (x : Stored) → Groups P.coded size t x → P.Card z values x
    -- "A merge is refused only with 10": of what any groupings of some of the points left
    pub only_ten : (s t : Tree Stored) (rest : List Stored) → Permᴰ ps ((leaves s ++ leaves t) ++ rest) → (x y : Stored)
        → Groups P.coded size s x → Groups P.coded size t y → (us vs : List ℕ) (n : ℕ) → P.coded.merging size x y us vs ≡ refusal n → n ≡ 10
    -- "and repeated with longer output": in rows with room for any point of the configuration it is accepted
    pub accepted : (s t : Tree Stored) (rest : List Stored) → Permᴰ ps ((leaves s ++ leaves t) ++ rest) → (x y : Stored)
        → Groups P.coded size s x → Groups P.coded size t y → (us vs : List ℕ) → Long z.kind us vs
        → (a : Stored) × (P.coded.merging size x y us vs ≡ success a)
    -- so every grouping comes to an end, in such rows
    pub every : (t : Tree Stored) → Permᴰ ps (leaves t) → (us vs : List ℕ) → Long z.kind us vs → (x : Stored) × Groups P.coded size t x

  -- ---- THE CLAIM, of calls, their answers, and a set's points as the collections among them left them

  pub record Whole (c : Config (kind_of P)) (qs : List (Call (kind_of P))) (ans : List (Answer (kind_of P))) (ps : Set → List Stored) : Type 0 where
    -- ".. each call's number and each list of points collected is that of document 01's tally", "whatever the order of recording and wherever
    -- collections cut". Over i64 "the tally answers 16 too, after its other refusals, for the sum of the set's waiting values" (request L6)
    pub answered : Answered (kind_of P) c qs ans
    -- the points that are stored are those that were answered
    pub stored : (r : Set) → map P.coded.handed_in (ps r) ≡ points_of (kind_of P) r ans
    -- each of them is document 01's point of some values (of which, `answered` says), and shows their scale and offsets
    pub each : (r : Set) → All (Pointed c.settings) (ps r)
    -- "each set with a collected value has a merged point ..". `resized size k ≡ k`: "under the configured max_size"; no merge of explicit points asks
    -- for one. `Within` is nothing over f64; over i64 "the independence from order and cutting, sum included, holds whenever the magnitudes of each
    -- set's collected values total at most 2^63 - 1"
    pub pools : (r : Set) (size : ℕ) → resized size c.settings.kind ≡ c.settings.kind → any (kind_of P) (gained (kind_of P) c qs ans r) ≡ true
        → N.Within (gained (kind_of P) c qs ans r) → Pools c.settings (ps r) (gained (kind_of P) c qs ans r) size

  -- it holds of every list of calls from a state
  abbrev pub Holds : {S : Store (kind_of P)} → Lister S → List Float → S.Switches → ℕ → Option (List ℕ) → Held S.Cells → Type 0
  Holds {S} L bounds w limit filter h =
      EveryRun L w limit filter h (λ xs qs ans. Whole (config_of S w limit filter) qs ans (λ r. stored_of L bounds w limit filter r h xs))
