-- The explicit kind's stores over i64: a series in one slot of them, and what recording a value into it leaves. As over f64 (explicit_slots),
-- but for the store of the numbers. Assumes nothing.
use Rattle.std.specs.Prelude.{ℕ, ◌+◌, ◌*◌, ◌≤◌, ◌<◌, Bool, List, [], ◌∷◌, ℤ, length, get_or, set, replicate, Float}
use Rattle.laws.specs.Pick.{pick}
use Rattle.laws.specs.Over.{over}
use Rattle.laws.specs.Said.{Said, refusal, success}
use Rattle.rows.specs.Parts.{part_at, put_at}
use Rattle.rows.specs.Recording.{Recording, after}
use Rattle.points.specs.Explicit.{bucket_count, bounds_pass}
use Rattle.points.specs.Counts.{explicit_counts}
use Rattle.points.specs.Any.{Figures}
use Rattle.points.specs.Whole.{whole}
use Rattle.explicit.specs.Series.{buckets_in}
use Rattle.explicit_wholes.specs.declared.Head.{Head}
use Rattle.explicit_wholes.specs.Series.{Outcome, outcome, summary, fresh_head, recording}

-- each slot's count; its minimum, maximum and sum; its bucket counts, "× buckets, one store"
pub record Cells : Type 0 where
  pub totals : List ℕ
  pub extremes : List (List ℤ)
  pub counts : List ℕ

abbrev pub cells : List ℕ → List (List ℤ) → List ℕ → Cells
cells totals extremes counts = record { totals = totals; extremes = extremes; counts = counts }

-- with n buckets, slot x has the counts from x * n up to x * n + n
abbrev pub row_at : List Float → List ℕ → ℕ → List ℕ
row_at bounds counts x = part_at (bucket_count bounds) counts x

-- slot x lies in the stores
pub record Room (bounds : List Float) (c : Cells) (x : ℕ) : Type 0 where
  pub totals : x < length c.totals
  pub extremes : x < length c.extremes
  pub counts : x * bucket_count bounds + bucket_count bounds ≤ length c.counts

-- a head as it lies in a slot
abbrev pub head_with : ℕ → List ℤ → Head
head_with count m = record { count = count; min = get_or m 0 whole.zero; max = get_or m 1 whole.zero; sum = get_or m 2 whole.zero }

abbrev pub head_in : Cells → ℕ → Head
head_in c x = head_with (get_or c.totals x 0) (get_or c.extremes x [])

-- what the cells of a slot mean
abbrev pub series_at : List Float → Cells → ℕ → Figures whole
series_at bounds c x =
    record { counts = explicit_counts bounds (buckets_in bounds (get_or c.totals x 0) (row_at bounds c.counts x)); summary = summary (head_in c x) }

-- head and counts of slot x: an entry that was not updated has no series, and counts as fresh, whatever lies in its slot
abbrev pub head_at : Cells → ℕ → Bool → Head
head_at c x updated = pick updated (head_in c x) fresh_head

abbrev pub counts_at : List Float → Cells → ℕ → Bool → List ℕ
counts_at bounds c x updated = pick updated (row_at bounds c.counts x) (replicate (bucket_count bounds) 0)

-- "Every refusal changes nothing"; else the slot's cells, and no others
abbrev pub totals_after : ℕ → List ℕ → Said Head → List ℕ
totals_after x totals (refusal n) = totals
totals_after x totals (success h) = set totals x h.count

abbrev pub extremes_after : ℕ → List (List ℤ) → Said Head → List (List ℤ)
extremes_after x extremes (refusal n) = extremes
extremes_after x extremes (success h) = set extremes x (h.min ∷ h.max ∷ h.sum ∷ [])

abbrev pub written : List Float → ℕ → Cells → Said Head → List ℕ → Recording Cells
written bounds x c (refusal n) xs = after n c
written bounds x c (success h) xs =
    after 0 (record {
      totals = set c.totals x h.count;
      extremes = set c.extremes x (h.min ∷ h.max ∷ h.sum ∷ []);
      counts = put_at (bucket_count bounds) c.counts x xs;
    })

-- a value recorded into slot x: what `explicit_wholes` says of its head and counts, with all the rest as it was
unfoldable pub recorded_at : List Float → Bool → ℕ → Bool → Cells → ℤ → Recording Cells
recorded_at bounds sums x updated c v =
    let o = recording bounds sums (head_at c x updated) (counts_at bounds c x updated) v in written bounds x c o.answer o.counts

-- ---- between functions, in the row's own place
-- a first value: what lay in the row before plays no part
unfoldable pub begun : List Float → Bool → List ℕ → ℤ → Outcome
begun bounds sums xs v = recording bounds sums fresh_head (over (replicate (bucket_count bounds) 0) xs) v

-- an entry that was not updated counts as fresh; 8 where configuring could not have accepted the bounds
unfoldable pub entering : List Float → Bool → Bool → Head → List ℕ → ℤ → Outcome
entering bounds sums updated h xs v =
    pick updated (recording bounds sums h xs v) (pick (bounds_pass bounds) (begun bounds sums xs v) (outcome (refusal 8) xs))
