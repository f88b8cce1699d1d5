-- BETWEEN OUR OWN CRATES: serves inner contracts and proofs; nobody needs it to believe the public calls or the theorems.
-- A series as the code holds it, read from a slot and put there; and values that enter it. Assumes nothing.
use Rattle.std.specs.Prelude.{ℕ, Bool, true, ◌&&◌, List, [], ◌∷◌, set, replicate, Float}
use Rattle.std.specs.Float.Ieee.Scale.{finite}
use Rattle.laws.specs.Pick.{pick}
use Rattle.laws.specs.Over.{over}
use Rattle.rows.specs.Parts.{put_at}
use Rattle.many.specs.Many.{Many, stopped, each}
use Rattle.points.specs.Explicit.{bucket_count, buckets_agree}
use Rattle.explicit.specs.declared.Head.{Head}
use Rattle.explicit.specs.Series.{buckets_in, fresh_head}
use Rattle.explicit_slots.specs.Cells.{Cells, head_at, counts_at}
use Rattle.explicit_batches.specs.Values.{Series, step}

-- ---- at a slot

abbrev pub load : List Float → Cells → ℕ → Bool → Series
load bounds c x u = record { head = head_at c x u; counts = counts_at bounds c x u }

abbrev pub extremes_of : Head → List Float
extremes_of h = h.min ∷ h.max ∷ h.sum ∷ []

abbrev pub put : List Float → Cells → ℕ → Series → Cells
put bounds c x s =
    record {
      totals = set c.totals x s.head.count;
      extremes = set c.extremes x (extremes_of s.head);
      counts = put_at (bucket_count bounds) c.counts x s.counts;
    }

-- ---- in a row

-- whether a head and its counts agree
unfoldable pub agreeing : List Float → Head → List ℕ → Bool
agreeing bounds h xs = buckets_agree bounds (buckets_in bounds h.count xs) && (finite h.min && finite h.max)

-- and where no series is held, nothing disagrees
unfoldable pub agrees_if : List Float → Bool → Head → List ℕ → Bool
agrees_if bounds u h xs = pick u (agreeing bounds h xs) true

-- the series that values go into: the one that is held, or a fresh one, zeros in its row
unfoldable pub begun : List Float → Bool → Head → List ℕ → Series
begun bounds u h xs =
    pick u (record { head = h; counts = xs }) (record { head = fresh_head; counts = over (replicate (bucket_count bounds) 0) xs })

-- 8, or one value after another
unfoldable pub entering : List Float → Bool → Head → List ℕ → List Float → Many Series
entering bounds u h xs vs =
    pick (agrees_if bounds u h xs) (each (step bounds) (begun bounds u h xs) vs) (stopped 8 (record { head = h; counts = xs }))
