-- The explicit kind's stores: a series in one slot of them, and what recording a value into it leaves. Assumes nothing.
use Rattle.std.specs.Prelude.{ℕ, ◌+◌, ◌*◌, ◌≤◌, ◌<◌, Bool, List, [], ◌∷◌, length, get_or, set, replicate, Float}
use Rattle.std.specs.Float.{nan}
use Rattle.laws.specs.Pick.{pick}
use Rattle.laws.specs.Said.{Said, refusal, success}
use Rattle.rows.specs.Parts.{part_at, put_at}
use Rattle.rows.specs.Recording.{Recording, after}
use Rattle.points.specs.Explicit.{bucket_count}
use Rattle.points.specs.Figures.{Figures, explicit_counts}
use Rattle.explicit.specs.declared.Head.{Head}
use Rattle.explicit.specs.Series.{buckets_in, summary, fresh_head, recording}

-- The kind's stores: each slot's count; its minimum, maximum and sum; its bucket counts, "× buckets, one store".
pub record Cells : Type 0 where
  pub totals : List ℕ
  pub extremes : List (List Float)
  pub counts : List ℕ

-- as a contract writes them: the three lent slices, at entry or at exit
abbrev pub cells : List ℕ → List (List Float) → List ℕ → Cells
cells totals extremes counts = record { totals = totals; extremes = extremes; counts = counts }

-- THE LAYOUT: with n buckets, slot x has the counts from x * n up to x * n + n
abbrev pub row_at : List Float → List ℕ → ℕ → List ℕ
row_at bounds counts x = part_at (bucket_count bounds) counts x

-- slot x lies in the stores
pub record Room (bounds : List Float) (c : Cells) (x : ℕ) : Type 0 where
  pub totals : x < length c.totals
  pub extremes : x < length c.extremes
  pub counts : x * bucket_count bounds + bucket_count bounds ≤ length c.counts

-- a head as it lies in a slot
abbrev pub head_in : Cells → ℕ → Head
head_in c x =
    record {
      count = get_or c.totals x 0;
      min = get_or (get_or c.extremes x []) 0 nan;
      max = get_or (get_or c.extremes x []) 1 nan;
      sum = get_or (get_or c.extremes x []) 2 nan;
    }

-- what the cells of a slot mean
abbrev pub series_at : List Float → Cells → ℕ → Figures
series_at bounds c x =
    record { counts = explicit_counts bounds (buckets_in bounds (get_or c.totals x 0) (row_at bounds c.counts x)); summary = summary (head_in c x) }

-- head and counts of slot x: an entry that was not updated has no series, and counts as fresh, whatever lies in its slot
abbrev pub head_at : Cells → ℕ → Bool → Head
head_at c x updated = pick updated (head_in c x) fresh_head

abbrev pub counts_at : List Float → Cells → ℕ → Bool → List ℕ
counts_at bounds c x updated = pick updated (row_at bounds c.counts x) (replicate (bucket_count bounds) 0)

-- "Every refusal changes nothing"; else the slot's cells, and no others
abbrev pub written : List Float → ℕ → Cells → Said Head → List ℕ → Recording Cells
written bounds x c (refusal n) xs = after n c
written bounds x c (success h) xs =
    after 0 (record {
      totals = set c.totals x h.count;
      extremes = set c.extremes x (h.min ∷ h.max ∷ h.sum ∷ []);
      counts = put_at (bucket_count bounds) c.counts x xs;
    })

-- a value recorded into slot x: what `explicit` says of its head and counts, with all the rest as it was
unfoldable pub recorded_at : List Float → ℕ → Bool → Cells → Float → Recording Cells
recorded_at bounds x updated c v =
    let o = recording bounds (head_at c x updated) (counts_at bounds c x updated) v in written bounds x c o.answer o.counts
