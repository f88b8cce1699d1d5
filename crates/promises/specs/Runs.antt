-- ANY RUN of the map's calls, collections among them, from a fresh start, over any kind's store with its points in lent output: what a call is
-- given, what it asks of the tally, what it answers and leaves, and a cumulative collection after it. Assumes nothing.
use Rattle.std.specs.Prelude.{ℕ, ◌≡◌, true, List}
use Rattle.std.proofs.Math.Option.{Option}
use Rattle.tally.specs.Sets.{Set, Lendable}
use Rattle.tally.specs.Kind.{Kind}
use Rattle.tally.specs.Map.{Call, measure, measure_by, bind, release, collect, Answer, cumulate}
use Rattle.tally.specs.Demand.{Premise, Code, asked, left, ran}
use Rattle.tally.specs.Runs.{quiet}
use Rattle.bindings.specs.Calls as Bindings
use Rattle.bindings.specs.Calls.{map_answer}
use Rattle.value_map.specs.Store.{Store}
use Rattle.value_map.specs.Calls.{Held, Outcome, beside, measured, measured_by}
use Rattle.value_map.specs.Maps.{map_of, config_of}
use Rattle.listing.specs.Listed.{Output}
use Rattle.collecting.specs.Lister.{Lister}
use Rattle.collecting.specs.Collected.{room_of, delta_collected, cumulative_collected, answered}

module _ (K : Kind) where
  -- what a call is given: "recording by set or handle, binding, releasing, delta collection", with attributes that can be lent, and lent output
  pub data Asked : Type 0 where
    recording : K.Value → (attrs : Set) → Lendable attrs → Asked
    recording_by : ℕ → K.Value → Asked
    binding : (attrs : Set) → Lendable attrs → Asked
    releasing : ℕ → Asked
    collecting : Output → Asked

  -- "The tally is fed .. the calls' arguments without state and stores"; of lent output, how much there is
  abbrev pub asks : Asked → Call K
  asks (recording v attrs small) = measure v attrs
  asks (recording_by h v) = measure_by h v
  asks (binding attrs small) = bind attrs
  asks (releasing h) = release h
  asks (collecting o) = collect (room_of o)

module _ {K : Kind} {S : Store K} (L : Lister S) (w : S.Switches) (limit : ℕ) (filter : Option (List ℕ)) where
  -- an answer as the tally's, with the map that was left
  abbrev pub said : Outcome S.Cells → Answer K × Held S.Cells
  said o = (map_answer K o.answer, o.held)

  -- what a call answers and leaves: by the definitions that the contracts of `measure`, `measure_by`, `bind`, `release` and `delta` cite; a
  -- collection's answer is its number, or the points that lie in the output that it left. A binding or a release leaves the series' stores alone.
  abbrev pub ended : Held S.Cells → Asked K → Answer K × Held S.Cells
  ended h (recording v attrs small) = said (measured S limit filter h v attrs)
  ended h (recording_by b v) = said (measured_by S limit h v b)
  ended h (binding attrs small) = said (beside (Bindings.bound limit filter h.kept.dir h.kept.stores attrs) h.cells)
  ended h (releasing b) = said (beside (Bindings.released limit h.kept.dir h.kept.stores b) h.cells)
  ended h (collecting o) = let c = delta_collected L w limit h o in (answered L c, c.held)

  -- the calls as code, from a state
  abbrev pub run : Held S.Cells → Code K
  run h = record { State = Held S.Cells; Input = Asked K; asks = asks K; call = ended; first = h }

-- "Recordings and bindings, refused ones counted, are fewer than 2^64, the accepted ones on no more unlike named sets than the limit. Then ..": a claim about
-- what is given, asked and answered holds of every run from a state, if the run meets this premise. With the accepted ones count those refused with 16,
-- which over f64 there are none of (the law `never_16`, kinds/proofs/Recorded.antt)
abbrev pub EveryRun : {K : Kind} {S : Store K} → Lister S → S.Switches → ℕ → Option (List ℕ) → Held S.Cells
    → (List (Asked K) → List (Call K) → List (Answer K) → Type 0) → Type 0
EveryRun {K} {S} L w limit filter h Claim =
    (xs : List (Asked K))
    → let qs = asked K (run L w limit filter h) xs in
    let ans = ran K (run L w limit filter h) xs in
    Premise K (config_of S w limit filter) qs ans → Claim xs qs ans

-- Cumulative collection is no call of demand 3's list; after any run of such calls, in any lent output, it answers as the map's collection that
-- leaves the map, leaves state and stores as they were, and is never answered 8 or 12. So what `Tells` says of its points it lists.
abbrev pub Cumulates : {K : Kind} {S : Store K} → Lister S → S.Switches → ℕ → Option (List ℕ) → Held S.Cells → Type 0
Cumulates {K} {S} L w limit filter h =
    (xs : List (Asked K)) (o : Output)
    → let e = left K (run L w limit filter h) h xs in
    let c = cumulative_collected L w limit e o in
    (record { answer = answered L c; map = map_of S w c.held } ≡ cumulate K (map_of S w e) (room_of o))
    × (c.held ≡ e)
    × (quiet K (answered L c) ≡ true)
