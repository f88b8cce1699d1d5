-- The exponential kind's stores over i64: a series in one slot of them, what it means, and what recording a value into it leaves. As over f64
-- (exponential_slots), but for the store of the numbers. Assumes nothing.
use Rattle.std.specs.Prelude.{ℕ, ◌+◌, ◌*◌, ◌≤◌, ◌<◌, Bool, List, [], ◌∷◌, ℤ, length, get_or, set}
use Rattle.laws.specs.Pick.{pick}
use Rattle.laws.specs.Said.{Said, refusal, success}
use Rattle.rows.specs.Parts.{part_at, put_at}
use Rattle.rows.specs.Recording.{Recording, after}
use Rattle.points.specs.Counts.{exponential, Settings, settings_of}
use Rattle.points.specs.Any.{Summary, Figures}
use Rattle.points.specs.Whole.{whole}
use Rattle.exponential.specs.declared.Counts.{Counts}
use Rattle.exponential_wholes.specs.declared.Head.{Head}
use Rattle.exponential_wholes.specs.Series.{fresh_head, recording}
use Rattle.exponential_slots.specs.Cells.{counts_in, words_of, readable}
use Rattle.exponential_slots.specs.Meaning.{counts_at}

-- a slot has eight words in `figures`, three i64 in `extremes` (minimum, maximum, sum), and max_size counts in `pos` and in `neg`
pub record Cells : Type 0 where
  pub figures : List (List ℕ)
  pub extremes : List (List ℤ)
  pub pos : List ℕ
  pub neg : List ℕ

-- as a contract writes them: the four lent slices, at entry or at exit
abbrev pub cells : List (List ℕ) → List (List ℤ) → List ℕ → List ℕ → Cells
cells figures extremes pos neg = record { figures = figures; extremes = extremes; pos = pos; neg = neg }

-- slot x lies in the stores
pub record Room (size : ℕ) (c : Cells) (x : ℕ) : Type 0 where
  pub figures : x < length c.figures
  pub extremes : x < length c.extremes
  pub pos : x * size + size ≤ length c.pos
  pub neg : x * size + size ≤ length c.neg

-- ---- a head as it lies in a slot
abbrev pub summary_in : List ℤ → Summary whole
summary_in m = record { min = get_or m 0 whole.zero; max = get_or m 1 whole.zero; sum = get_or m 2 whole.zero }

abbrev pub head_in : Counts → List ℤ → Head
head_in c m = record { counts = c; min = get_or m 0 whole.zero; max = get_or m 1 whole.zero; sum = get_or m 2 whole.zero }

unfoldable pub head_of : ℕ → Bool → List ℕ → List ℤ → Head
head_of top updated f m = pick updated (head_in (counts_in f) m) (fresh_head top)

abbrev pub head_at : ℕ → Cells → ℕ → Bool → Head
head_at top c x updated = head_of top updated (get_or c.figures x []) (get_or c.extremes x [])

-- ---- what a slot's cells mean
-- the settings of the kind; the sum's switch is one that recording reads
abbrev pub settings : ℕ → ℕ → Bool → Bool → Settings
settings size top sums extremes = settings_of (exponential size top) extremes sums

abbrev pub series_at : ℕ → Cells → ℕ → Figures whole
series_at size c x =
    record {
      counts = counts_at size (get_or c.figures x []) (part_at size c.pos x) (part_at size c.neg x);
      summary = summary_in (get_or c.extremes x []);
    }

-- ---- a value recorded into slot x
-- "Every refusal changes nothing"; else the slot's cells, and no others
abbrev pub figures_after : ℕ → List (List ℕ) → Said Head → List (List ℕ)
figures_after x figures (refusal n) = figures
figures_after x figures (success h) = set figures x (words_of h.counts)

abbrev pub extremes_after : ℕ → List (List ℤ) → Said Head → List (List ℤ)
extremes_after x extremes (refusal n) = extremes
extremes_after x extremes (success h) = set extremes x (h.min ∷ h.max ∷ h.sum ∷ [])

abbrev pub written : ℕ → ℕ → Cells → Said Head → List ℕ → List ℕ → Recording Cells
written size x c (refusal n) xs ys = after n c
written size x c (success h) xs ys =
    after 0 (record {
      figures = set c.figures x (words_of h.counts);
      extremes = set c.extremes x (h.min ∷ h.max ∷ h.sum ∷ []);
      pos = put_at size c.pos x xs;
      neg = put_at size c.neg x ys;
    })

-- 8 for words that are no head; else what `exponential_wholes` says of the head and of the slot's parts, with all the rest as it was
unfoldable pub recorded_at : ℕ → ℕ → Bool → ℕ → Bool → Cells → ℤ → Recording Cells
recorded_at size top sums x updated c v =
    let o = recording size top sums (head_at top c x updated) (part_at size c.pos x) (part_at size c.neg x) v in
    pick (readable updated (get_or c.figures x [])) (written size x c o.answer o.pos o.neg) (after 8 c)
