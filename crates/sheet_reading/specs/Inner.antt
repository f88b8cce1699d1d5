-- BETWEEN OUR OWN CRATES: serves inner contracts and proofs; nobody needs it to believe the public calls or the theorems.
-- A sheet walked entry by entry, as the code walks it: judged, and its points copied into a list. Assumes nothing.
use Rattle.std.specs.Prelude.{ℕ, zero, suc, ◌+◌, ◌*◌, ◌/◌, ◌≤◌, ◌<◌, ◌≡◌, Bool, true, ◌&&◌, ◌||◌, List, [], map, eqb, length, set, take, drop, Float}
use Rattle.std.specs.Float.{binary64}
use Rattle.std.specs.Float.Ieee.{of_bits}
use Rattle.laws.specs.Pick.{pick}
use Rattle.sets.specs.Rows.{set_of, below}
use Rattle.tally.specs.Sets.{cmp}
use Rattle.listing.specs.Words.{words_of, point_in, bounds_in}
use Rattle.listing.specs.Listed.{over_at}
use Rattle.pooling.specs.Lists.{Source}
use Rattle.records.specs.Records.{width, cells}
use Rattle.records.specs.Inner.{run}
use Rattle.sheets.specs.Entries.{head_in, pos_in, neg_in, words_for}
use Rattle.sheets.specs.Sheet.{points_in}
use Rattle.sheets.specs.Inner.{framed, filled, entry_at}
use Rattle.point.specs.Handing.{stored_in, agrees_alone}
use Rattle.sheets.specs.Lists.{fits_in}
use Rattle.std.specs.Prelude.{Option, None, Some}
use Rattle.sheet_reading.specs.declared.judge.Sizes.{Sizes}

-- ---- words of the sheet

-- the f64s of m words from k on
abbrev pub floats_at : List ℕ → ℕ → ℕ → List Float
floats_at s k m = map (of_bits binary64) (run s k m)

-- m words from k on are there
abbrev pub There : List ℕ → ℕ → ℕ → Type 0
There s k m = (k + m < 4294967296) × ((k + m + 2) / 3 * 32 ≤ length s)

-- ---- judged

-- behind the head of an entry: its filling, and whether its point agrees with itself
unfoldable pub rest_holds : List ℕ → List ℕ → ℕ → Bool
rest_holds s w k =
    let c = k + (21 + width (bounds_in w).len) in
    filled s (k + 21) (bounds_in w).len
    && (filled s c (pos_in w + neg_in w)
    && agrees_alone (stored_in (point_in w) (floats_at s (k + 21) (bounds_in w).len) (run s c (pos_in w)) (run s (c + pos_in w) (neg_in w))))

-- how many bounds, and counts of either row
abbrev pub sizes_of : List ℕ → Sizes
sizes_of w = record { bounds = (bounds_in w).len; pos = pos_in w; neg = neg_in w }

abbrev pub words_in : Sizes → ℕ
words_in z = words_for z.bounds (z.pos + z.neg)

abbrev pub more : Sizes → Sizes → Sizes
more y z = record { bounds = y.bounds + z.bounds; pos = y.pos + z.pos; neg = y.neg + z.neg }

-- no more than agreement allows
pub record Few (z : Sizes) : Type 0 where
  pub bounds : z.bounds ≤ 159
  pub pos : z.pos ≤ 160
  pub neg : z.neg ≤ 160

-- n entries from word k on, the first at place i behind the set of a row, with what those before them take
abbrev pub judged_from : ℕ → List ℕ → ℕ → ℕ → List ℕ → Sizes → Option Sizes
judged_from zero s k i row y = pick (eqb (length (drop k (cells s))) 0) (Some y) None
judged_from (suc n) s k i row y =
    let l = drop k (cells s) in
    pick (entry_at s k && (eqb i 0 || below (cmp (set_of row) (set_of (take 9 l)))))
    (judged_from n s (k + words_in (sizes_of (head_in l))) (suc i) (take 9 l) (more y (sizes_of (head_in l))))
    None

-- two that can be added
pub record Addable (y z : Sizes) : Type 0 where
  pub bounds : y.bounds + z.bounds < 4294967296
  pub pos : y.pos + z.pos < 4294967296
  pub neg : y.neg + z.neg < 4294967296

abbrev pub nothing : Sizes
nothing = record { bounds = 0; pos = 0; neg = 0 }

unfoldable pub judged : List ℕ → Option Sizes
judged s = judged_from (points_in s) s 3 0 [] nothing

-- ---- copied

-- the entry at word k put at place i, behind what those before it take
unfoldable pub copied_entry : List ℕ → ℕ → ℕ → Sizes → Source → Source
copied_entry s k i y o =
    let l = drop k (cells s) in
    let z = sizes_of (head_in l) in
    let c = k + (21 + width z.bounds) in
    record {
      list = record {
        sets = set o.list.sets i (take 9 l);
        words = set o.list.words i (words_of (point_in (head_in l)) (record { start = y.bounds; len = z.bounds }));
        pos = over_at y.pos (run s c z.pos) o.list.pos;
        neg = over_at y.neg (run s (c + z.pos) z.neg) o.list.neg;
      };
      bounds = over_at y.bounds (floats_at s (k + 21) z.bounds) o.bounds;
    }

-- n entries from word k on, the first to place i
abbrev pub copied : ℕ → List ℕ → ℕ → ℕ → Sizes → Source → Source
copied zero s k i y o = o
copied (suc n) s k i y o =
    let z = sizes_of (head_in (drop k (cells s))) in
    copied n s (k + words_in z) (suc i) (more y z) (copied_entry s k i y o)

-- the entry at word k lies in the sheet, and there is room for it
pub record EntryRoom (s : List ℕ) (k i : ℕ) (y z : Sizes) (w : List ℕ) (o : Source) : Type 0 where
  pub there : There s k (words_in z)
  pub head : w ≡ head_in (drop k (cells s))
  pub sizes : z ≡ sizes_of w
  pub few : Few z
  pub sets : i < length o.list.sets
  pub words : i < length o.list.words
  pub pos : y.pos + z.pos ≤ length o.list.pos
  pub neg : y.neg + z.neg ≤ length o.list.neg
  pub bounds : y.bounds + z.bounds ≤ length o.bounds

-- a sheet that was judged fine, with room for all of its points
pub record Copyable (s : List ℕ) (n : ℕ) (o : Source) : Type 0 where
  pub sizes : Sizes
  pub framed : framed s ≡ true
  pub many : n ≡ points_in s
  pub fine : judged s ≡ Some sizes
  pub room : fits_in n sizes.pos sizes.neg sizes.bounds o ≡ true
