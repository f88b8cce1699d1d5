-- BETWEEN OUR OWN CRATES: serves inner contracts and proofs; nobody needs it to believe the public calls or the theorems.
-- One value recorded into a series, step by step, and the sums of its counts: the definitions of the crate's own functions. Assumes nothing.
use Rattle.std.specs.Prelude.{◌≡◌, ℕ, ◌+◌, ◌-◌, ◌/◌, ◌%◌, ◌^◌, ◌<◌, ◌≤◌, Bool, true, false, ◌&&◌, List, [], ◌∷◌, length, take, ◌==◌, nat_le, Float}
use Rattle.laws.specs.Pick.{pick}
use Rattle.laws.specs.Said.{Said, refusal, success}
use Rattle.laws.specs.Counting.{sum, total, most_count}
use Rattle.index.specs.Bins.{end_bin}
use Rattle.index.specs.declared.Bin.{Bin}
use Rattle.index.specs.declared.Bin.TheVariants.{NoLevel, NotFinite, Zero, At as BinAt}
use Rattle.points.specs.Points as P
use Rattle.points.specs.Points.{Point, Value, naught, plus, minus}
use Rattle.points.specs.Agreement as A
use Rattle.rows.specs.Rows.{over, recorded, holds}
use Rattle.rows.specs.declared.Row.{Row}
use Rattle.exponential.specs.declared.Counts.{Counts}
use Rattle.exponential.specs.declared.Head.{Head}
use Rattle.exponential.specs.declared.Halves.{Halves}
use Rattle.exponential.specs.declared.Class.{Class}
use Rattle.exponential.specs.declared.Class.TheVariants.{Naught, At}
use Rattle.exponential.specs.Steps.{lowered, with1, needed}
use Rattle.exponential.specs.Series.{agrees, counts_for, row_in, Outcome, recording}

-- r and ys: the row q laid over the front of xs
pub record Laid (q : P.Row) (xs : List ℕ) (r : Row) (ys : List ℕ) : Type 0 where
  pub start : r.start ≡ q.start
  pub len : r.len ≡ length q.counts
  pub now : ys ≡ over q.counts xs

-- a row's counts are there, and the row agrees
abbrev pub row_agrees : ℕ → ℕ → ℕ → Row → List ℕ → Bool
row_agrees size low end r xs = nat_le r.len (length xs) && A.row_agrees size low end (row_in r xs)

-- the count is that of zeros and rows
abbrev pub adds_up : Counts → List ℕ → List ℕ → Bool
adds_up c xs ys = c.count == c.zeros + (total (take c.pos.len xs) + total (take c.neg.len ys))

-- counts added to two sums, their low and their high 32 bits apart
unfoldable pub halved : Halves → List ℕ → Halves
halved f xs = record { low = f.low + sum (λ x. x % 4294967296) xs; high = f.high + sum (λ x. x / 4294967296) xs }

-- what is counted of a value, by what the index answers (a value that is not finite, or a level that is none, is never asked for)
abbrev pub class_at : Bin → Class
class_at NoLevel = Naught
class_at NotFinite = Naught
class_at Zero = Naught
class_at (BinAt negative bin) = At negative bin

-- the bin of a value with a sign
abbrev pub signed : Bool → ℕ → Value
signed true bin = minus bin
signed false bin = plus bin

abbrev pub value_of : Class → Value
value_of Naught = naught
value_of (At negative bin) = signed negative bin

-- c, xs' and ys': the point p laid over the rows
pub record Written (p : Point) (xs ys : List ℕ) (c : Counts) (xs' ys' : List ℕ) : Type 0 where
  pub counts : c ≡ counts_for p
  pub pos : xs' ≡ over p.pos.counts xs
  pub neg : ys' ≡ over p.neg.counts ys

-- one more in the row a at the front of xs, the row b at the front of ys lowered along: the lowering that it needs, and both rows then
abbrev pub lower_by : ℕ → Row → List ℕ → ℕ → ℕ
lower_by size a xs bin = needed size (row_in a xs) bin

abbrev pub row_to : ℕ → Row → List ℕ → ℕ → P.Row
row_to size a xs bin = with1 (lowered (lower_by size a xs bin) (row_in a xs)) (bin / 2 ^ lower_by size a xs bin)

abbrev pub row_other : ℕ → Row → List ℕ → Row → List ℕ → ℕ → P.Row
row_other size a xs b ys bin = lowered (lower_by size a xs bin) (row_in b ys)

-- there is room for one more in the row a
pub record Room (size : ℕ) (a : Row) (xs : List ℕ) (b : Row) (ys : List ℕ) (bin : ℕ) : Type 0 where
  pub some : 0 < size
  pub bins : a.start + a.len < 2 ^ 32
  pub short : a.len ≤ length xs
  pub other : b.len ≤ length ys
  pub few : lower_by size a xs bin < 32
  pub fits : length (row_to size a xs bin).counts ≤ length xs
  pub counts : total (take a.len xs) + 1 < 2 ^ 64
  pub others : total (take b.len ys) < 2 ^ 64

-- the head with one more that is not zero, k levels lower, over these rows
abbrev pub one_more : Counts → ℕ → Row → Row → Counts
one_more c k p n = record { count = c.count + 1; zeros = c.zeros; level = c.level - k; pos = p; neg = n }

-- a series that agrees and can take one more
abbrev pub Within : ℕ → Class → Type 0
Within level Naught = Unit {0}
Within level (At negative bin) = bin < end_bin level

pub record Ready (size top : ℕ) (c : Counts) (xs ys : List ℕ) (k : Class) : Type 0 where
  pub agree : agrees size top c xs ys ≡ true
  pub pos : size ≤ length xs
  pub neg : size ≤ length ys
  pub count : c.count < most_count
  pub known : Within c.level k

-- either row is no longer than either list, and none is full
pub record Beside (a : Row) (xs : List ℕ) (b : Row) (ys : List ℕ) : Type 0 where
  pub pos : (a.len ≤ length xs) × (a.len ≤ length ys)
  pub neg : (b.len ≤ length ys) × (b.len ≤ length xs)
  pub pos_counts : total (take a.len xs) + 1 < 2 ^ 64
  pub neg_counts : total (take b.len ys) + 1 < 2 ^ 64

-- whether the row has it, r; one more there if it has, and the other list as it was
pub record Raised (a : Row) (bin : ℕ) (r : Bool) (xs ys xs' ys' : List ℕ) : Type 0 where
  pub has : r ≡ holds a.start a.len bin
  pub here : xs' ≡ pick r (over (recorded a.start (take a.len xs) bin) xs) xs
  pub beside : ys' ≡ ys

abbrev pub Tried : Bool → Row → Row → ℕ → Bool → List ℕ → List ℕ → List ℕ → List ℕ → Type 0
Tried true a b bin r xs ys xs' ys' = Raised b bin r ys xs ys' xs'
Tried false a b bin r xs ys xs' ys' = Raised a bin r xs ys xs' ys'

-- ---- values recorded one after another, a refused one passed over

-- a series: its head and both lent rows
pub record Series : Type 0 where
  pub head : Head
  pub pos : List ℕ
  pub neg : List ℕ

-- what a call leaves of the series s
abbrev pub head_after : Said Head → Head → Head
head_after (success h) old = h
head_after (refusal n) old = old

abbrev pub after : Outcome → Series → Series
after o s = record { head = head_after o.answer s.head; pos = o.pos; neg = o.neg }

unfoldable pub run_all : ℕ → ℕ → Series → List Float → Series
run_all size top s [] = s
run_all size top s (v ∷ vs) = run_all size top (after (recording size top s.head s.pos s.neg v) s) vs
