-- The exponential kind's stores: a series in one slot of them, and what recording a value into it leaves. Assumes nothing.
use Rattle.std.specs.Prelude.{ℕ, ◌+◌, ◌*◌, ◌≤◌, ◌<◌, Bool, true, ◌&&◌, List, [], ◌∷◌, leb, length, get_or, set, Float}
use Rattle.std.specs.Float.{nan}
use Rattle.laws.specs.Pick.{pick}
use Rattle.laws.specs.Said.{Said, refusal, success}
use Rattle.rows.specs.Parts.{part_at, put_at}
use Rattle.rows.specs.Recording.{Recording, after}
use Rattle.exponential.specs.declared.Counts.{Counts}
use Rattle.exponential.specs.declared.Head.{Head}
use Rattle.exponential.specs.Series.{recording}
use Rattle.exponential.specs.Runs.{fresh_head}
use Rattle.laws.specs.Counting.{most_count}

-- The kind's stores. A slot has eight words in `figures` (count, zero count, level, start and length of the positive and of the negative
-- row, and a spare word, written 0), three f64 in `extremes` (minimum, maximum, sum), and max_size counts in `pos` and in `neg`.
pub record Cells : Type 0 where
  pub figures : List (List ℕ)
  pub extremes : List (List Float)
  pub pos : List ℕ
  pub neg : List ℕ

-- as a contract writes them: the four lent slices, at entry or at exit
abbrev pub cells : List (List ℕ) → List (List Float) → List ℕ → List ℕ → Cells
cells figures extremes pos neg = record { figures = figures; extremes = extremes; pos = pos; neg = neg }

-- slot x lies in the stores
pub record Room (size : ℕ) (c : Cells) (x : ℕ) : Type 0 where
  pub figures : x < length c.figures
  pub extremes : x < length c.extremes
  pub pos : x * size + size ≤ length c.pos
  pub neg : x * size + size ≤ length c.neg

-- ---- a head as it lies in a slot

abbrev pub counts_in : List ℕ → Counts
counts_in f =
    record {
      count = get_or f 0 0;
      zeros = get_or f 1 0;
      level = get_or f 2 0;
      pos = record { start = get_or f 3 0; len = get_or f 4 0 };
      neg = record { start = get_or f 5 0; len = get_or f 6 0 };
    }

unfoldable pub head_in : List ℕ → List Float → Head
head_in f m = record { counts = counts_in f; min = get_or m 0 nan; max = get_or m 1 nan; sum = get_or m 2 nan }

abbrev pub words_of : Counts → List ℕ
words_of c = c.count ∷ c.zeros ∷ c.level ∷ c.pos.start ∷ c.pos.len ∷ c.neg.start ∷ c.neg.len ∷ 0 ∷ []

-- Words are u64, but a head's level and starts are u32: words that are none (a level of 2 ^ 32 + 5) are no head.
abbrev pub most_bin : ℕ
most_bin = 4294967295

unfoldable pub narrow : List ℕ → Bool
narrow f = leb (get_or f 0 0) most_count && (leb (get_or f 2 0) most_bin && (leb (get_or f 3 0) most_bin && leb (get_or f 5 0) most_bin))

-- an entry that is not updated has no series: whatever lies in its slot, it counts as fresh (docs/DECISIONS.md, "Readings of document 01")
unfoldable pub readable : Bool → List ℕ → Bool
readable updated f = pick updated (narrow f) true

unfoldable pub head_of : ℕ → Bool → List ℕ → List Float → Head
head_of top updated f m = pick updated (head_in f m) (fresh_head top)

-- the head of slot x
abbrev pub head_at : ℕ → Cells → ℕ → Bool → Head
head_at top c x updated = head_of top updated (get_or c.figures x []) (get_or c.extremes x [])

-- ---- a value recorded into slot x

-- "Every refusal changes nothing"; else the slot's cells, and no others
abbrev pub written : ℕ → ℕ → Cells → Said Head → List ℕ → List ℕ → Recording Cells
written size x c (refusal n) xs ys = after n c
written size x c (success h) xs ys =
    after 0 (record {
      figures = set c.figures x (words_of h.counts);
      extremes = set c.extremes x (h.min ∷ h.max ∷ h.sum ∷ []);
      pos = put_at size c.pos x xs;
      neg = put_at size c.neg x ys;
    })

-- 8 for words that are no head; else what `exponential` says of the head and of the slot's parts, with all the rest as it was
unfoldable pub recorded_at : ℕ → ℕ → ℕ → Bool → Cells → Float → Recording Cells
recorded_at size top x updated c v =
    let o = recording size top (head_at top c x updated) (part_at size c.pos x) (part_at size c.neg x) v in
    pick (readable updated (get_or c.figures x [])) (written size x c o.answer o.pos o.neg) (after 8 c)
