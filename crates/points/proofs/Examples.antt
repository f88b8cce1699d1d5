-- Points that compute: of a list, of two points merged, of explicit bounds. Assumes nothing.
use mathlib.Core.Path.{◌≡◌, refl}
use mathlib.Core.List.{[], ◌∷◌}
use mathlib.Core.Bool.{true, false}
use lib.Ieee.{inf, binary64, of_bits, is_nan, lt}
use Rattle.laws.specs.Pick.{pick}
use Rattle.points.specs.Points.{row, row_of, indices, fits, fits_both, scale, build, point_of, bag, merge, naught, plus, minus}
use Rattle.points.specs.Explicit.{no_nan, rising, bounds_pass, bucket_of, buckets_of}

-- at size 3 the bins 40 to 47 lie too far apart, and 20 to 23 as well; 10 and 11 fit
of-a-list : point_of 3 0 (plus 40 ∷ minus 7 ∷ naught ∷ plus 47 ∷ plus 41 ∷ [])
    ≡ record { d = 2; pos = record { start = 10; counts = 2 ∷ 1 ∷ [] }; neg = record { start = 1; counts = 1 ∷ [] }; zeros = 1; total = 5 }
unfolding point_of build scale fits_both fits row row_of pick
of-a-list = refl

-- the second falls by one level to the first's, its row of one negative bin too
of-two-points : merge 3
    (record { d = 2; pos = record { start = 10; counts = 2 ∷ 1 ∷ [] }; neg = record { start = 0; counts = [] }; zeros = 0; total = 3 })
    (record { d = 1; pos = record { start = 23; counts = 4 ∷ 0 ∷ 3 ∷ [] }; neg = record { start = 1500001; counts = 1 ∷ [] }; zeros = 2; total = 10 })
    ≡ record { d = 2; pos = record { start = 10; counts = 2 ∷ 5 ∷ 3 ∷ [] }; neg = record { start = 750000; counts = 1 ∷ [] }; zeros = 2; total = 13 }
unfolding merge bag indices build scale fits_both fits row row_of pick
of-two-points = refl

-- bounds: infinite ones are allowed, and -0.0 then 0.0 does not rise
infinite-bounds : bounds_pass (inf true ∷ inf false ∷ []) ≡ true
unfolding bounds_pass no_nan rising is_nan lt
infinite-bounds = refl

zeros_do-not-rise : bounds_pass (of_bits binary64 0x8000_0000_0000_0000 ∷ of_bits binary64 0 ∷ []) ≡ false
unfolding bounds_pass no_nan rising is_nan lt of_bits
zeros_do-not-rise = refl

-- with the bounds 0.0 and 5.0 the value 5.0 is in bucket 1, and 5.1 in bucket 2
in-buckets : buckets_of (of_bits binary64 0 ∷ of_bits binary64 0x4014_0000_0000_0000 ∷ [])
    (of_bits binary64 0x4014_0000_0000_0000 ∷ of_bits binary64 0x4014_6666_6666_6666 ∷ [])
    ≡ record { counts = 0 ∷ 1 ∷ 1 ∷ []; total = 2 }
unfolding buckets_of bucket_of lt of_bits
in-buckets = refl
