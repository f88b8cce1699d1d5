-- A run of the explicit kind with the bounds 0 and 5, computed: two collections, and their points merged. Assumes nothing.
use Prim.Native.Nat.{ℕ}
use mathlib.Core.Path.{◌≡◌, refl}
use mathlib.Core.Bool.{true, false}
use mathlib.Core.List.{List, [], ◌∷◌}
use mathlib.Core.Logic.{inl, inr}
use mathlib.Core.Option.{none}
use lib.Ieee.{Float, binary64, of_bits, lt, add, eq, is_nan, fits, round}
use Rattle.laws.specs.Pick.{pick}
use Rattle.floats.specs.Starts.{zero_float}
use Rattle.std.specs.Prelude.{Some, None}
use Rattle.points.specs.Explicit.{bucket_of, buckets_of, record_bucket, buckets_agree, bounds_pass, no_nan, rising, merge_buckets, added, same_bounds}
use Rattle.points.specs.Figures.{explicit, explicit_counts}
use Rattle.points.specs.Handed.{Handed, mergeable, merge_handed, handed_agrees, unmergeable}
use Rattle.tally.specs.Sets.{Set}
use Rattle.tally.specs.Kind.{Room}
use Rattle.tally.specs.Map.{Config, measure, collect, refuse, done, listed}
use Rattle.tally.proofs.MapSteps.{upfront, act, place, measure_at}
use Rattle.tally.specs.Demand.{ran}
use Rattle.tally.proofs.Example.{model}
use Rattle.kinds.specs.Histograms.{histograms}
use Rattle.kinds.proofs.Merges.{merged}

abbrev f : ℕ → Float
f bits = of_bits binary64 bits

-- 5.0, 7.0, -1.0
abbrev five : Float
five = f 0x4014_0000_0000_0000

abbrev seven : Float
seven = f 0x401c_0000_0000_0000

abbrev less : Float
less = f 0xbff0_0000_0000_0000

abbrev bounds : List Float
bounds = zero_float ∷ five ∷ []

abbrev config : Config histograms
config =
    record { settings = record { kind = explicit bounds; extremes = true; sums = true; threshold = zero_float }; limit = 1; filter = none }

abbrev A : Set
A = (1, 5) ∷ []

abbrev room : ℕ → Room
room n = record { points = 1; pos = n; neg = 0 }

-- a point with these counts, minimum, maximum and sum
abbrev point : List ℕ → ℕ → Float → Float → Float → Handed
point cs n low high sum =
    record { counts = explicit_counts bounds (record { counts = cs; total = n }); extremes = true; threshold = zero_float; min = Some low; max = Some high; sum = sum }

abbrev first : Handed
first = point (0 ∷ 1 ∷ 1 ∷ []) 2 five seven (f 0x4028_0000_0000_0000)

abbrev second : Handed
second = point (1 ∷ 0 ∷ 0 ∷ []) 1 less less less

valid : histograms.valid config.settings ≡ true
unfolding bounds_pass no_nan rising is_nan lt of_bits
valid = refl

-- the third value is a NaN
example : ran histograms (model histograms config)
    (measure five A ∷ measure seven A ∷ measure (f 0x7ff8_0000_0000_0000) A ∷ collect (room 2) ∷ collect (room 3) ∷ measure less A ∷ collect (room 3) ∷ [])
    ≡ done ∷ done ∷ refuse 6 ∷ refuse 10 ∷ listed ((A, first) ∷ []) ∷ done ∷ listed ((A, second) ∷ []) ∷ []
unfolding upfront act place measure_at record_bucket bucket_of buckets_of buckets_agree bounds_pass no_nan rising is_nan lt add round fits of_bits pick
example = refl

together : merged 0 first second (room 3) ≡ inr (point (1 ∷ 1 ∷ 1 ∷ []) 3 less seven (f 0x4026_0000_0000_0000))
unfolding merged unmergeable mergeable merge_handed merge_buckets added handed_agrees buckets_agree bounds_pass same_bounds no_nan rising is_nan lt eq add round of_bits pick
together = refl

-- one place too few; a point whose counts do not total its count; one without extremes
no_room : merged 0 first second (room 2) ≡ inl 10
unfolding merged unmergeable mergeable merge_handed merge_buckets added handed_agrees buckets_agree bounds_pass same_bounds no_nan rising is_nan lt eq of_bits pick
no_room = refl

damaged : merged 0 first (point (1 ∷ 0 ∷ 0 ∷ []) 2 less less less) (room 3) ≡ inl 8
unfolding merged unmergeable handed_agrees buckets_agree bounds_pass no_nan rising is_nan lt of_bits pick
damaged = refl

switched : merged 0 first (record { counts = second.counts; extremes = false; threshold = zero_float; min = None; max = None; sum = less }) (room 3) ≡ inl 11
unfolding merged unmergeable mergeable handed_agrees buckets_agree bounds_pass same_bounds no_nan rising is_nan lt eq of_bits pick
switched = refl
