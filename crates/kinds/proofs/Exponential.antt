-- The exponential kind, computed: a run of zeros, and two points merged into lent rows of each sign. Assumes nothing.
use Prim.Native.Nat.{ℕ}
use mathlib.Core.Path.{◌≡◌, refl}
use mathlib.Core.Bool.{true}
use mathlib.Core.List.{[], ◌∷◌}
use mathlib.Core.Logic.{inl, inr}
use mathlib.Core.Option.{none}
use lib.Ieee.{Float, binary64, of_bits, lt, add, fits, round}
use Rattle.laws.specs.Pick.{pick}
use Rattle.index.specs.Magnitude.{magnitude}
use Rattle.floats.specs.Starts.{zero_float}
use Rattle.std.specs.Prelude.{Some}
use Rattle.points.specs.Points as P
use Rattle.points.specs.Points.{Point, Row, row, row_of, indices, fits_both, scale, build, point_of, bag, merge, record1}
use Rattle.points.specs.Values.{class_of}
use Rattle.points.specs.Agreement.{row_agrees, agrees}
use Rattle.points.specs.Figures.{exponential, exponential_counts}
use Rattle.points.specs.Handed.{Handed, mergeable, merge_handed, handed_agrees, unmergeable}
use Rattle.tally.specs.Sets.{Set}
use Rattle.tally.specs.Kind.{Room}
use Rattle.tally.specs.Map.{Config, measure, collect, refuse, done, listed}
use Rattle.tally.proofs.MapSteps.{upfront, act, place, measure_at}
use Rattle.tally.specs.Demand.{ran}
use Rattle.tally.proofs.Example.{model}
use Rattle.kinds.specs.Histograms.{histograms}
use Rattle.kinds.proofs.Merges.{merged}

abbrev f : ℕ → Float
f bits = of_bits binary64 bits

abbrev A : Set
A = (1, 5) ∷ []

abbrev room : ℕ → ℕ → Room
room pos neg = record { points = 1; pos = pos; neg = neg }

abbrev no_row : Row
no_row = record { start = 0; counts = [] }

abbrev point : Point → Float → Float → Float → Handed
point p low high sum =
    record { counts = exponential_counts p; extremes = true; threshold = zero_float; min = Some low; max = Some high; sum = sum }

-- max_size 4 and max_scale 10
abbrev config : Config histograms
config =
    record { settings = record { kind = exponential 4 20; extremes = true; sums = true; threshold = zero_float }; limit = 1; filter = none }

-- zeros of both signs raise the zero count and take no row; the one held first stays
zeros : ran histograms (model histograms config)
    (measure (f 0x8000_0000_0000_0000) A ∷ measure zero_float A ∷ measure (f 0x7ff0_0000_0000_0000) A ∷ collect (room 0 0) ∷ [])
    ≡ done ∷ done ∷ refuse 6
    ∷ listed ((A, point (record { d = 0; pos = no_row; neg = no_row; zeros = 2; total = 2 }) (f 0x8000_0000_0000_0000) (f 0x8000_0000_0000_0000) zero_float) ∷ []) ∷ []
unfolding upfront act place measure_at record1 bag indices point_of build scale fits_both P.fits row row_of pick agrees row_agrees class_of magnitude lt add round fits of_bits
zeros = refl

-- document 01's run: 1.0, 2.0, 3.0, 0.0 and -1.0 at scale 0; and 1.0 alone at scale 10
abbrev first : Handed
first =
    point
    (record { d = 10; pos = record { start = 2047; counts = 1 ∷ 1 ∷ 1 ∷ [] }; neg = record { start = 2047; counts = 1 ∷ [] }; zeros = 1; total = 5 })
    (f 0xbff0_0000_0000_0000) (f 0x4008_0000_0000_0000) (f 0x4014_0000_0000_0000)

abbrev second : Handed
second =
    point (record { d = 0; pos = record { start = 2097151; counts = 1 ∷ [] }; neg = no_row; zeros = 0; total = 1 })
    (f 0x3ff0_0000_0000_0000) (f 0x3ff0_0000_0000_0000) (f 0x3ff0_0000_0000_0000)

together : merged 4 first second (room 3 1)
    ≡ inr (point
    (record { d = 10; pos = record { start = 2047; counts = 2 ∷ 1 ∷ 1 ∷ [] }; neg = record { start = 2047; counts = 1 ∷ [] }; zeros = 1; total = 6 })
    (f 0xbff0_0000_0000_0000) (f 0x4008_0000_0000_0000) (f 0x4018_0000_0000_0000))
unfolding merged unmergeable mergeable merge_handed handed_agrees agrees row_agrees merge bag indices build scale fits_both P.fits row row_of pick lt add round of_bits
together = refl

-- each row is asked against its own lent store; and under max_size 2
positive : merged 4 first second (room 2 9) ≡ inl 10
unfolding merged unmergeable mergeable merge_handed handed_agrees agrees row_agrees merge bag indices build scale fits_both P.fits row row_of pick lt of_bits
positive = refl

negative : merged 4 first second (room 9 0) ≡ inl 10
unfolding merged unmergeable mergeable merge_handed handed_agrees agrees row_agrees merge bag indices build scale fits_both P.fits row row_of pick lt of_bits
negative = refl

narrow : merged 2 first second (room 9 9) ≡ inl 1
unfolding merged unmergeable pick
narrow = refl
