-- Points of an explicit-bucket histogram: bounds, buckets, the point of a list, recording, merging, agreement. Assumes nothing.
-- Document 01: "Explicit kind: the bucket is the number of bounds below the value. No bounds, no buckets. Infinite bounds are
-- allowed."
use Rattle.std.specs.Prelude.{ℕ, suc, ◌+◌, Bool, true, false, not, ◌&&◌, List, [], ◌∷◌, map, leb, eqb, length, get_or, set, Float}
use Rattle.std.specs.Float.Ieee.{lt, eq, is_nan}
use Rattle.laws.specs.Pick.{pick}
use Rattle.laws.specs.Counting.{bit, count, table, total}

-- ---- bounds

unfoldable pub no_nan : List Float → Bool
no_nan [] = true
no_nan (b ∷ bs) = not (is_nan b) && no_nan bs

-- as numbers: -0.0 then 0.0 does not rise
unfoldable pub rising : List Float → Bool
rising [] = true
rising (b ∷ []) = true
rising (b ∷ c ∷ bs) = lt b c && rising (c ∷ bs)

-- number 3: "over 159 bounds, a NaN, or not strictly rising"
unfoldable pub bounds_pass : List Float → Bool
bounds_pass bs = leb (length bs) 159 && (no_nan bs && rising bs)

-- the same bounds as numbers
unfoldable pub same_bounds : List Float → List Float → Bool
same_bounds [] [] = true
same_bounds [] (c ∷ cs) = false
same_bounds (b ∷ bs) [] = false
same_bounds (b ∷ bs) (c ∷ cs) = eq b c && same_bounds bs cs

-- ---- buckets

-- how many of the bounds lie below v
unfoldable pub bucket_of : List Float → Float → ℕ
bucket_of [] v = 0
bucket_of (b ∷ bs) v = bit (lt b v) + bucket_of bs v

-- how many buckets
abbrev pub bucket_count : List Float → ℕ
bucket_count [] = 0
bucket_count (b ∷ bs) = suc (length (b ∷ bs))

pub record Buckets : Type 0 where
  pub counts : List ℕ
  pub total : ℕ

-- the point of a list
unfoldable pub buckets_of : List Float → List Float → Buckets
buckets_of bounds vs =
    record { counts = table (λ j. count j (map (bucket_of bounds) vs)) 0 (bucket_count bounds); total = length vs }

-- one value recorded: one more in its bucket, if there are buckets
unfoldable pub record_bucket : List Float → Buckets → Float → Buckets
record_bucket bounds p v =
    record {
      counts = set p.counts (bucket_of bounds v) (get_or p.counts (bucket_of bounds v) 0 + 1);
      total = p.total + 1;
    }

-- two points merged: counts added place by place. Total on lists of unlike length, so that the laws need no premise; points of unlike bounds
-- are refused with 11 before
unfoldable pub added : List ℕ → List ℕ → List ℕ
added [] ys = ys
added (x ∷ xs) [] = x ∷ xs
added (x ∷ xs) (y ∷ ys) = (x + y) ∷ added xs ys

unfoldable pub merge_buckets : Buckets → Buckets → Buckets
merge_buckets p q = record { counts = added p.counts q.counts; total = p.total + q.total }

-- "Explicit bounds pass number 3, and with bounds the counts total count"
unfoldable pub buckets_agree : List Float → Buckets → Bool
buckets_agree bounds p =
    bounds_pass bounds
    && (eqb (length p.counts) (bucket_count bounds)
    && pick (eqb (bucket_count bounds) 0) true (eqb (total p.counts) p.total))
