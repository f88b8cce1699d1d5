-- The worked examples of document 01, "Gauge marks", that are proved: one table, and what it is for an entry to hold. Assumes nothing.
use Rattle.std.specs.Prelude.{◌≡◌, true, false, List, [], ◌∷◌, map, ℕ, ℤ, pos, negsuc, Float, Some}
use Rattle.std.specs.Float.{binary64}
use Rattle.std.specs.Float.Ieee.{of_bits}
use Rattle.index.specs.Magnitude.{magnitude}
use Rattle.index.specs.DataModel.{IsIndex}
use Rattle.index.specs.Signed.{level_answer, value_index}
use Rattle.index.specs.declared.signed.Index.TheVariants.{At}
use Rattle.floats.specs.Answers.{bits_of}
use Rattle.floats.specs.Starts.{zero_float}
use Rattle.points.specs.Points.{Point}
use Rattle.points.specs.Signed.{scale_in, offset_in}
use Rattle.points.specs.Explicit.{bucket_of}
use Rattle.points.specs.Figures.{exponential, settings_of, exponential_counts}
use Rattle.points.specs.Handed.{handed}

-- the f64 with these bits
abbrev pub f64 : ℕ → Float
f64 bits = of_bits binary64 bits

-- ---- a point's line

-- "count, zero count, scale, min, max, sum, then positive and negative row as offset:counts"; min, max and sum as bits
abbrev pub Line : Type 0
Line = ℕ × ℕ × ℤ × ℕ × ℕ × ℕ × (ℤ × List ℕ) × (ℤ × List ℕ)

abbrev pub line_of : Point → Float → Float → Float → Line
line_of p low high total =
    (p.total, p.zeros, scale_in p, bits_of low, bits_of high, bits_of total, (offset_in p p.pos, p.pos.counts), (offset_in p p.neg, p.neg.counts))

-- ---- the marks

pub data Mark : Type 0 where
  -- the positive f64 with these bits has at the scale the index
  index : ℕ → ℤ → ℤ → Mark
  -- with these bounds the f64 with these bits is in the bucket
  bucket : List ℕ → ℕ → ℕ → Mark
  -- under a max_size and max_scale these values have the point with the line
  point : ℕ → ℤ → List ℕ → Line → Mark

-- by the Data Model's index, which is what the contract of `index::signed::get_index` says that the code answers, and by document 01's bucket and
-- point, which contracts cite
abbrev pub Holds : Mark → Type 0
Holds (index bits scale i) = IsIndex scale (magnitude (f64 bits)) i × (value_index (f64 bits) scale ≡ At false i)
Holds (bucket bounds bits k) = bucket_of (map f64 bounds) (f64 bits) ≡ k
Holds (point size scale values line) =
    (top : ℕ) × (p : Point) × (low : Float) × (high : Float) × (total : Float) × (level_answer scale ≡ Some top)
    × (handed (settings_of (exponential size top) true true) (map f64 values)
    ≡ record { counts = exponential_counts p; extremes = true; threshold = zero_float; min = Some low; max = Some high; sum = total })
    × (line_of p low high total ≡ line)

abbrev pub marks : List Mark
marks =
    -- 1.0
    index 0x3ff0_0000_0000_0000 (pos 10) (negsuc 0) ∷ index 0x3ff0_0000_0000_0000 (pos 0) (negsuc 0) ∷ index 0x3ff0_0000_0000_0000 (negsuc 9) (negsuc 0) ∷
    -- 2.0, and the next f64 above
    index 0x4000_0000_0000_0000 (pos 10) (pos 1023) ∷ index 0x4000_0000_0000_0001 (pos 10) (pos 1024) ∷
    -- 3.0
    index 0x4008_0000_0000_0000 (pos 1) (pos 3) ∷ index 0x4008_0000_0000_0000 (pos 0) (pos 1) ∷
    -- 1.5
    index 0x3ff8_0000_0000_0000 (pos 2) (pos 2) ∷
    -- 2 ^ -1074
    index 1 (pos 10) (negsuc 1099776) ∷ index 1 (pos 0) (negsuc 1074) ∷ index 1 (negsuc 9) (negsuc 1) ∷
    -- the greatest f64
    index 0x7fef_ffff_ffff_ffff (pos 10) (pos 1048575) ∷ index 0x7fef_ffff_ffff_ffff (negsuc 9) (pos 0) ∷
    -- 2 ^ -1024, and the next f64 above
    index 0x4_0000_0000_0000 (negsuc 9) (negsuc 1) ∷ index 0x4_0000_0000_0001 (negsuc 9) (negsuc 0) ∷
    -- the run's point: 1.0, 2.0, 3.0, 0.0 and -1.0 under `e 4 10`
    point 4 (pos 10) (0x3ff0_0000_0000_0000 ∷ 0x4000_0000_0000_0000 ∷ 0x4008_0000_0000_0000 ∷ 0 ∷ 0xbff0_0000_0000_0000 ∷ [])
    (5, 1, pos 0, 0xbff0_0000_0000_0000, 0x4008_0000_0000_0000, 0x4014_0000_0000_0000, (negsuc 0, 1 ∷ 1 ∷ 1 ∷ []), (negsuc 0, 1 ∷ [])) ∷
    -- "with bounds 0 and 5, value 5 in bucket 1"
    bucket (0 ∷ 0x4014_0000_0000_0000 ∷ []) 0x4014_0000_0000_0000 1 ∷
    []
