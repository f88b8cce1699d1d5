-- Runs over i64, computed: 16 and the points of an explicit kind; and why a call refused with 16 counts in demand 3's premise. Assumes nothing.
use mathlib.Core.Path.{◌≡◌, refl}
use mathlib.Core.Bool.{true}
use mathlib.Core.List.{List, [], ◌∷◌}
use mathlib.Core.Option.{none}
use lib.IntN.{ℤ, pos, negsuc}
use lib.Ieee.{Float, binary64, of_bits, of_int, lt, is_nan, round}
use Rattle.laws.specs.Pick.{pick}
use Rattle.floats.specs.Starts.{zero_float}
use Rattle.std.specs.Prelude.{Some}
use Rattle.points.specs.Explicit.{bucket_of, buckets_of, record_bucket, buckets_agree, bounds_pass, no_nan, rising}
use Rattle.points.specs.Counts.{explicit, explicit_counts}
use Rattle.tally.specs.Sets.{Set, overflow}
use Rattle.tally.specs.Kind.{Room}
use Rattle.tally.specs.Map.{Config, measure, collect, refuse, done, listed}
use Rattle.tally.specs.Tally.{empty, tell, after}
use Rattle.tally.specs.Demand.{ran}
use Rattle.tally.proofs.MapSteps.{upfront, act, place, measure_at}
use Rattle.tally.proofs.Example.{model}
use Rattle.kinds.specs.Wholes.{Handed, wholes}

-- the bounds 0.0 and 5.0
abbrev bounds : List Float
bounds = zero_float ∷ of_bits binary64 0x4014_0000_0000_0000 ∷ []

abbrev config : Config wholes
config =
    record { settings = record { kind = explicit bounds; extremes = true; sums = true; threshold = zero_float }; limit = 1; filter = none }

abbrev A : Set
A = (1, 5) ∷ []

abbrev room : Room
room = record { points = 1; pos = 3; neg = 0 }

-- the greatest i64
abbrev most : ℤ
most = pos 9223372036854775807

abbrev first : Handed
first =
    record {
      counts = explicit_counts bounds (record { counts = 1 ∷ 1 ∷ 1 ∷ []; total = 3 });
      extremes = true;
      threshold = zero_float;
      min = Some (negsuc 2);
      max = Some (pos 7);
      sum = pos 9;
    }

-- 5, 7 and -3; with the greatest the sum would leave i64: 16, and nothing changes
example : ran wholes (model wholes config)
    (measure (pos 5) A ∷ measure (pos 7) A ∷ measure most A ∷ measure (negsuc 2) A ∷ collect room ∷ [])
    ≡ done ∷ done ∷ refuse 16 ∷ done ∷ listed ((A, first) ∷ []) ∷ []
unfolding upfront act place measure_at record_bucket bucket_of buckets_of buckets_agree bounds_pass no_nan rising is_nan lt of_int round of_bits pick
example = refl

-- Overflow recorded as a set of its own takes the only place, and the next set's value comes to its series: 16. Only one set was accepted, no
-- more than the limit; but the tally, which knows no overflow, takes the value.
corner : ran wholes (model wholes config) (measure most overflow ∷ measure (pos 1) A ∷ []) ≡ done ∷ refuse 16 ∷ []
unfolding upfront act place measure_at record_bucket bucket_of buckets_of buckets_agree bounds_pass no_nan rising is_nan lt of_int round of_bits pick
corner = refl

told : (tell wholes config (after wholes config (empty wholes config) (measure most overflow ∷ []) (done ∷ [])) (measure (pos 1) A) 0).answer ≡ done
unfolding tell pick
told = refl
