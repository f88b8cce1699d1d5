-- THE PROMISES: each theorem about the code as a type, beside the sentence that it answers. Their terms are in proofs/Promises.antt, under the
-- same names in small letters; docs/PROMISES.md lists them. Assumes nothing.
use Rattle.std.specs.Prelude.{ℕ, ◌-◌, ◌/◌, ◌^◌, ◌<◌, ◌≡◌, Bool, true, List, [], ℤ, Float, Some}
use Rattle.std.proofs.Math.Option.{Option}
use Rattle.std.specs.Int.Signed.{shr_z}
use Rattle.laws.specs.Said.{success}
use Rattle.index.specs.Magnitude.{magnitude, is_negative}
use Rattle.index.specs.DataModel.{IsIndex}
use Rattle.index.specs.Bins.{index_of}
use Rattle.index.specs.Signed.{level_answer, value_index}
use Rattle.index.specs.declared.signed.Index.TheVariants.{At}
use Rattle.floats.specs.Starts.{FiniteF64}
use Rattle.integers.specs.Answers.{in_range, nearest_of}
use Rattle.integers.specs.Nearest.{Nearest}
use Rattle.rows.specs.Rows.{downscaled}
use Rattle.halving.specs.Plain.{plain_start, plain_counts}
use Rattle.points.specs.Number.{Number}
use Rattle.tally.specs.Kind.{Kind}
use Rattle.tally.specs.Map.{Config, Call}
use Rattle.tally.specs.Demand.{Answered, InRange}
use Rattle.tally.specs.Runs.{Tells}
use Rattle.directory.specs.View.{Stores, Agreement}
use Rattle.directory.specs.declared.Directory.{Directory}
use Rattle.exponential_slots.specs.Cells as ExponentialCells
use Rattle.explicit_slots.specs.Cells as ExplicitCells
use Rattle.exponential_whole_slots.specs.Cells as ExponentialWholeCells
use Rattle.explicit_whole_slots.specs.Cells as ExplicitWholeCells
use Rattle.value_map.specs.Store.{Store}
use Rattle.value_map.specs.Calls.{Held, held}
use Rattle.value_map.specs.Maps.{map_of, config_of}
use Rattle.collecting.specs.Lister.{Lister}
use Rattle.collecting.specs.Read.{AllFit}
use Rattle.exponential_collection.specs.Points.{exponential_lister}
use Rattle.exponential_collection.specs.Configured as Exponential
use Rattle.exponential_collection.specs.Configured.{top_of}
use Rattle.exponential_collection.specs.declared.Setup as ExponentialSetup
use Rattle.explicit_collection.specs.Points.{explicit_lister}
use Rattle.explicit_collection.specs.Configured as Explicit
use Rattle.explicit_collection.specs.declared.Setup as ExplicitSetup
use Rattle.whole_listing.specs.Read.{AllHeld}
use Rattle.exponential_whole_collection.specs.Points.{exponential_whole_lister}
use Rattle.exponential_whole_collection.specs.Configured as ExponentialWholes
use Rattle.explicit_whole_collection.specs.Points.{explicit_whole_lister}
use Rattle.explicit_whole_collection.specs.Configured as ExplicitWholes
use Rattle.singles.specs.Points.{single_lister}
use Rattle.singles.specs.Configured as Singles
use Rattle.singles.specs.declared.Aggregation.{Aggregation}
use Rattle.singles.specs.declared.Setup as SinglesSetup
use Rattle.promises.specs.Numbers.{InRuns, kind_of, reals, wholes}
use Rattle.promises.specs.Runs.{Asked, asks, run, EveryRun, Cumulates}
use Rattle.promises.specs.Owned.{Owns}
use Rattle.promises.specs.Pooled.{Holds}

-- ---- ANY RUN of the code, from configuring that was accepted

-- what is promised of the map that configuring left, of any kind, with its own claim about the list of calls
module _ {K : Kind} {S : Store K} (L : Lister S) (w : S.Switches) (limit : ℕ) (filter : Option (List ℕ)) (h : Held S.Cells) where
  pub record Promised (Claim : Type 0) : Type 0 where
    -- DEMAND 3: one claim about the list of calls
    pub demand : Claim
    -- what else is told of every run: with no premise none is answered 8 or 12, and a handle names its set while it has a binding; under it each value is
    -- in its own set's series
    pub told : Tells K (config_of S w limit filter) (run L w limit filter h) (map_of S w)
    -- and of a cumulative collection after every run: "every named entry is listed, even one bound and never recorded .. cumulative leaves it"
    pub cumulative : Cumulates L w limit filter h
    -- "a map that only these calls touch never needs a check": it is owned after every run, and gives each call `.._agreed`, whose answer is by the same
    -- definition as that of the call without, what that requires
    pub owned : Owns L w limit filter h

-- of a histogram kind over a number, demand 3 whole
abbrev pub PromisedWhole : {N : Number} (P : InRuns N) {S : Store (kind_of P)} → Lister S → List Float → S.Switches → ℕ → Option (List ℕ)
    → Held S.Cells → Type 0
PromisedWhole P L bounds w limit filter h = Promised L w limit filter h (Holds P L bounds w limit filter h)

-- "Take any list of these calls, refused ones included: recording by set or handle, binding, releasing, delta collection. It runs from a fresh start under
-- one configuration, and each call is given the state and lent stores as the last one left them." The start is configuring, answered 0, and nothing
-- else: under any max_size, max_scale, switches, limit and filter, in any stores of f64s. It hands out the settings that were asked, and the state; of
-- that state and the stores that it left all that is promised holds.
abbrev pub ExponentialDemand : Type 0
ExponentialDemand =
    (size : ℕ) (scale : ℤ) (extremes sums : Bool) (limit : ℕ) (filter : Option (List ℕ)) (s : Stores) (x : ExponentialCells.Cells) (u : ExponentialSetup.Setup)
    → AllFit x.extremes → (Exponential.configured size scale extremes sums limit filter s x).answer ≡ success u
    → (u.settings ≡ record { size = size; top = top_of scale; extremes = extremes; sums = sums; limit = limit })
    × PromisedWhole reals (exponential_lister size (top_of scale)) [] (extremes, sums) limit filter
    (held u.dir (Exponential.configured size scale extremes sums limit filter s x).stores x)

-- The explicit kind: under any bounds
abbrev pub ExplicitDemand : Type 0
ExplicitDemand =
    (bounds : List Float) (extremes sums : Bool) (limit : ℕ) (filter : Option (List ℕ)) (s : Stores) (x : ExplicitCells.Cells) (u : ExplicitSetup.Setup)
    → AllFit x.extremes → (Explicit.configured bounds extremes sums limit filter s x).answer ≡ success u
    → (u.settings ≡ record { extremes = extremes; sums = sums; limit = limit })
    × PromisedWhole reals (explicit_lister bounds) bounds (extremes, sums) limit filter
    (held u.dir (Explicit.configured bounds extremes sums limit filter s x).stores x)

-- Request L6, "the two histogram kinds over i64": the same of maps of i64s, in any stores of i64s. (Why a call refused with 16 counts in the premise:
-- `corner` and `told` of kinds/proofs/WholeExample.antt, where overflow's sum refuses what the tally takes)
abbrev pub ExponentialWholesDemand : Type 0
ExponentialWholesDemand =
    (size : ℕ) (scale : ℤ) (extremes sums : Bool) (limit : ℕ) (filter : Option (List ℕ)) (s : Stores) (x : ExponentialWholeCells.Cells)
    → (u : ExponentialSetup.Setup) → AllHeld x.extremes → (ExponentialWholes.configured size scale extremes sums limit filter s x).answer ≡ success u
    → (u.settings ≡ record { size = size; top = top_of scale; extremes = extremes; sums = sums; limit = limit })
    × PromisedWhole wholes (exponential_whole_lister size (top_of scale) sums) [] extremes limit filter
    (held u.dir (ExponentialWholes.configured size scale extremes sums limit filter s x).stores x)

abbrev pub ExplicitWholesDemand : Type 0
ExplicitWholesDemand =
    (bounds : List Float) (extremes sums : Bool) (limit : ℕ) (filter : Option (List ℕ)) (s : Stores) (x : ExplicitWholeCells.Cells) (u : ExplicitSetup.Setup)
    → AllHeld x.extremes → (ExplicitWholes.configured bounds extremes sums limit filter s x).answer ≡ success u
    → (u.settings ≡ record { extremes = extremes; sums = sums; limit = limit })
    × PromisedWhole wholes (explicit_whole_lister bounds sums) bounds extremes limit filter
    (held u.dir (ExplicitWholes.configured bounds extremes sums limit filter s x).stores x)

-- Request L1: sums and last values, which no merge takes. Of them demand 3's first part: ".. each call's number and each list of points collected is that of
-- document 01's tally"
abbrev pub PromisedAnswers : {K : Kind} {S : Store K} → Lister S → S.Switches → ℕ → Option (List ℕ) → Held S.Cells → Type 0
PromisedAnswers {K} {S} L w limit filter h =
    Promised L w limit filter h (EveryRun L w limit filter h (λ xs qs ans. Answered K (config_of S w limit filter) qs ans))

abbrev pub SinglesDemand : Type 0
SinglesDemand =
    (a : Aggregation) (limit : ℕ) (filter : Option (List ℕ)) (s : Stores) (x : List Float) (u : SinglesSetup.Setup)
    → (Singles.configured a limit filter s x).answer ≡ success u
    → (u.settings ≡ record { aggregation = a; limit = limit })
    × PromisedAnswers (single_lister a) tt limit filter (held u.dir (Singles.configured a limit filter s x).stores x)

-- "recording by set or handle, binding, releasing, delta collection": every call of demand 3 in range is asked by some input of a run
abbrev pub Reaches : Type 1
Reaches = (K : Kind) (x : Call K) → InRange K x → (i : Asked K) × (asks K i ≡ x)

-- ---- THE BUCKET

-- "at scale s a magnitude v > 0 has the index i with 2^(i/2^s) < v ≤ 2^((i+1)/2^s)": of every finite f64 but zero, at every scale from -10 to 10, which
-- are those that have a level, `index::signed::get_index` answers that index, and there is no other
abbrev pub OneIndex : Type 0
OneIndex =
    (x : Float) (scale : ℤ) (level : ℕ) → FiniteF64 x → (magnitude x ≡ 0 → ⊥) → level_answer scale ≡ Some level
    → (i : ℤ) × (value_index x scale ≡ At (is_negative x) i) × IsIndex scale (magnitude x) i × ((j : ℤ) → IsIndex scale (magnitude x) j → j ≡ i)

-- Request L6: "The bucket comes from the f64 nearest to the whole number, ties to the even mantissa": what `integers::nearest` answers of any i64 is
-- that, and no other f64 is
abbrev pub OneNearest : Type 0
OneNearest = (z : ℤ) → in_range z ≡ true → Nearest z (nearest_of z) × ((x : Float) → Nearest z x → x ≡ nearest_of z)

-- ---- RESCALING (request L3)

-- "Offset and counts are proved equal to the plain form's, kept as the definition, for every agreeing row and lower scale": where a row starts and its
-- counts, d levels lower, as the contract of `rows::downscale` says them, are those of the row halved d times. Of every row there is
abbrev pub PlainForm : Type 0
PlainForm = (d start : ℕ) (counts : List ℕ) → (start / 2 ^ d ≡ plain_start d start) × (downscaled d start counts ≡ plain_counts d start counts)

-- and a bin that is halved has its index halved, rounding down, at every level above the lowest
abbrev pub HalvedOffset : Type 0
HalvedOffset = (level bin : ℕ) → 0 < level → index_of (level - 1) (bin / 2) ≡ shr_z (index_of level bin) 2

-- ---- NUMBER 8 OF A DIRECTORY

-- "The directory agrees when its sets are strictly ascending, each has 1 to 8 attributes with rising keys, its own place in the stores and its
-- own birth number among those spent, and its stored count is that of the sets other than overflow, or one more if overflow is held, and is
-- at most the limit": what the calls test is true exactly where the stores are laid out so and the map that they hold agrees
abbrev pub DirectoryAgrees : Type 1
DirectoryAgrees = (K : Kind) (f : ℕ → K.Series) (z : K.Settings) (c : Config K) (d : Directory) (s : Stores) → Agreement K f z c d s
