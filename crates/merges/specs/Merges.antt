-- BETWEEN OUR OWN CRATES: serves inner contracts and proofs; nobody needs it to believe the public calls or the theorems.
-- Two points merged, step by step, as code does it in lent rows. Assumes nothing.
use Rattle.std.specs.Prelude.{ℕ, suc, ◌+◌, ◌-◌, ◌/◌, ◌^◌, ◌≤◌, ◌<◌, min, max, pred, ◌≡◌, true, List, [], ◌∷◌, ◌++◌, eqb, length, replicate, take}
use Rattle.points.specs.Points.{Row, Point, merge}
use Rattle.rows.specs.Rows.{add_at, add_all}
use Rattle.exponential.specs.Steps.{lowered, lowering}
use Rattle.laws.specs.Counting.{total}
use Rattle.rows.specs.declared.Row as C
use Rattle.laws.specs.Pick.{pick}
use Rattle.index.specs.Bins.{finest}
use Rattle.exponential.specs.declared.Counts.{Counts}
use Rattle.exponential.specs.Series.{row_in, agrees, read}
use Rattle.merges.specs.declared.Plan.{Plan}

-- two rows of one level joined: counts added by bin
unfoldable pub joined : Row → Row → Row
joined a b =
    pick (eqb (length b.counts) 0) a
    (pick (eqb (length a.counts) 0) b
    (record { start = min a.start b.start; counts = add_all (b.start - a.start) b.counts (replicate (a.start - b.start) 0 ++ a.counts) }))

-- the ends of two rows joined, of n counts from bin s on, j levels lower, and of m counts from bin t on, k levels lower
unfoldable pub low_end : C.Row → ℕ → C.Row → ℕ → ℕ
low_end a j b k = pick (eqb b.len 0) (a.start / 2 ^ j) (pick (eqb a.len 0) (b.start / 2 ^ k) (min (a.start / 2 ^ j) (b.start / 2 ^ k)))

unfoldable pub high_end : C.Row → ℕ → C.Row → ℕ → ℕ
high_end a j b k =
    pick (eqb b.len 0) ((a.start + pred a.len) / 2 ^ j)
    (pick (eqb a.len 0) ((b.start + pred b.len) / 2 ^ k)
    (max ((a.start + pred a.len) / 2 ^ j) ((b.start + pred b.len) / 2 ^ k)))

-- how long that row is
unfoldable pub joined_len : C.Row → ℕ → C.Row → ℕ → ℕ
joined_len a j b k = pick (eqb (a.len + b.len) 0) 0 (suc (high_end a j b k - low_end a j b k))

-- ---- the same by numbers: how much lower than the coarser's level two series' rows need it
abbrev pub common : Counts → Counts → ℕ
common a b = min a.level b.level

abbrev pub span_of : ℕ → C.Row → ℕ → C.Row → ℕ → ℕ
span_of size a j b k = lowering size (low_end a j b k) (high_end a j b k)

unfoldable pub rows_low : ℕ → Counts → Counts → ℕ
rows_low size a b =
    max (span_of size a.pos (a.level - common a b) b.pos (b.level - common a b))
    (span_of size a.neg (a.level - common a b) b.neg (b.level - common a b))

-- the level of the merged series, and how many levels lower that is than either's
unfoldable pub plan_of : ℕ → Counts → Counts → Plan
plan_of size a b =
    record {
      level = common a b - rows_low size a b;
      first = a.level - (common a b - rows_low size a b);
      second = b.level - (common a b - rows_low size a b);
    }

-- ---- in lent rows

-- the counts ys from bin t on, each added k levels lower to the row xs from bin s on
unfoldable pub add_low : ℕ → ℕ → ℕ → List ℕ → List ℕ → List ℕ
add_low k s t [] xs = xs
add_low k s t (y ∷ ys) xs = add_low k s (suc t) ys (add_at (t / 2 ^ k - s) y xs)

-- the row b of ys can be joined, k levels lower, to the row a of xs
pub record Joinable (a : C.Row) (xs : List ℕ) (b : C.Row) (k : ℕ) (ys : List ℕ) : Type 0 where
  pub short : a.len ≤ length xs
  pub other : b.len ≤ length ys
  pub few : k < 32
  pub sums : total (take a.len xs) + total (take b.len ys) < 2 ^ 64
  pub room : length (joined (row_in a xs) (lowered k (row_in b ys))).counts ≤ length xs

-- the row a of xs, j levels lower, has room in zs
pub record Layable (a : C.Row) (j : ℕ) (xs zs : List ℕ) : Type 0 where
  pub short : a.len ≤ length xs
  pub few : j < 32
  pub sums : total (take a.len xs) < 2 ^ 64
  pub empty : a.len ≡ 0 → a.start ≡ 0
  pub room : length (lowered j (row_in a xs)).counts ≤ length zs

-- the rows a of xs, j levels lower, and b of ys, k levels lower, joined have room in zs
pub record Lendable (a : C.Row) (j : ℕ) (xs : List ℕ) (b : C.Row) (k : ℕ) (ys zs : List ℕ) : Type 0 where
  pub short : a.len ≤ length xs
  pub other : b.len ≤ length ys
  pub few : j < 32
  pub few_other : k < 32
  pub sums : total (take a.len xs) + total (take b.len ys) < 2 ^ 64
  pub empty : a.len ≡ 0 → a.start ≡ 0
  pub room : length (joined (lowered j (row_in a xs)) (lowered k (row_in b ys))).counts ≤ length zs

-- both series agree under the size, whatever their greatest level was, and their counts together are no more than a count can be
pub record Agreeing (size : ℕ) (a : Counts) (xs ys : List ℕ) (b : Counts) (zs ws : List ℕ) : Type 0 where
  pub first : agrees size finest a xs ys ≡ true
  pub second : agrees size finest b zs ws ≡ true
  pub count : a.count + b.count < 2 ^ 64

abbrev pub merged_point : ℕ → Counts → List ℕ → List ℕ → Counts → List ℕ → List ℕ → Point
merged_point size a xs ys b zs ws = merge size (read a xs ys) (read b zs ws)

-- the rows of the merged point have room in these
pub record Roomy (p : Point) (xs ys : List ℕ) : Type 0 where
  pub pos : length p.pos.counts ≤ length xs
  pub neg : length p.neg.counts ≤ length ys
