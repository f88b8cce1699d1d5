-- What copying one entry leaves in the stores. Assumes nothing.
use Prim.Native.Nat.{ℕ, ◌+◌, ◌-◌, ◌≤◌}
use mathlib.Core.Path.{◌≡◌, sym, ap, ap₂, ◌∙◌}
use mathlib.Core.List.{List, ◌++◌}
use native.Mathlib.Omega.{arith}
use lib.Ieee.{Float, binary64, of_bits}
use lib.ListN.{length, set, take, drop, length-drop, length-map}
use lib.Seq.{length-take-le}
use Rattle.laws.specs.Over.{over}
use Rattle.point.specs.declared.Point.{Point}
use Rattle.listing.specs.Words.{words_of, point_in}
use Rattle.listing.specs.Listed.{over_at}
use Rattle.pooling.specs.Lists.{Source}
use Rattle.records.specs.Records.{width}
use Rattle.records.specs.Inner.{cell_at, run}
use Rattle.records.proofs.Found.{length-table, run_is}
use Rattle.sheet_reading.specs.Inner.{There, floats_at, sizes_of, words_in, copied_entry, EntryRoom}
use Rattle.sheet_reading.specs.declared.judge.Sizes.{Sizes}
use Rattle.sheet_reading.proofs.EntryLaws.{there-within, there-part, there-behind}
use Rattle.sheet_reading.proofs.SizeLaws.{width-least}

-- ---- a part that is read over

part_length : {A : Type 0} (a n : ℕ) (xs : List A) → a + n ≤ length xs → length (take (a + n - a) (drop a xs)) ≡ n
part_length a n xs h =
    let w : a + n - a ≡ n = omega arith in
    ap (λ (j : ℕ). length (take j (drop a xs))) w ∙ length-take-le n (drop a xs) (omega (arith, length-drop a xs))

-- f n are the n that are read over a part of n
part-read : {A : Type 0} (f : ℕ → List A) → ((n : ℕ) → length (f n) ≡ n) → (a n : ℕ) (us xs : List A) → a + n ≤ length xs
    → us ≡ f (length (take (a + n - a) (drop a xs)))
    → take a xs ++ (us ++ drop (a + n - a) (drop a xs)) ≡ over_at a (f n) xs
unfolding over_at over
part-read {A} f g a n us xs h e =
    let w : a + n - a ≡ n = omega arith in
    ap₂ (λ (u : List A) (j : ℕ). take a xs ++ (u ++ drop j (drop a xs))) (e ∙ ap f (part_length a n xs h)) (w ∙ sym (g n))

pub length_run : (s : List ℕ) (k m : ℕ) → length (run s k m) ≡ m
length_run s k m = length-table (cell_at s) k m

pub length_floats : (s : List ℕ) (k m : ℕ) → length (floats_at s k m) ≡ m
length_floats s k m = length-map (run s k m) (of_bits binary64) ∙ length_run s k m

-- ---- the five stores

-- by the sizes, the row and the point that were found
abbrev entry_by : List ℕ → ℕ → ℕ → Sizes → Source → Sizes → List ℕ → Point → Source
entry_by s k i y o z row p =
    let c = k + (21 + width z.bounds) in
    record {
      list = record {
        sets = set o.list.sets i row;
        words = set o.list.words i (words_of p (record { start = y.bounds; len = z.bounds }));
        pos = over_at y.pos (run s c z.pos) o.list.pos;
        neg = over_at y.neg (run s (c + z.pos) z.neg) o.list.neg;
      };
      bounds = over_at y.bounds (floats_at s (k + 21) z.bounds) o.bounds;
    }

module _ {s : List ℕ} {k i : ℕ} {y z : Sizes} {w : List ℕ} {o : Source} (r : EntryRoom s k i y z w o) where
  found-is : (row : List ℕ) (p : Point) → row ≡ run s k 9 → p ≡ point_in w → entry_by s k i y o z row p ≡ copied_entry s k i y o
  unfolding copied_entry
  found-is row p e f =
      let t = there-within s k (words_in z) r.there in
      let u = e ∙ run_is s k 9 (omega arith) in
      let v = f ∙ ap point_in r.head in
      let x = r.sizes ∙ ap sizes_of r.head in
      λ j. entry_by s k i y o (x j) (u j) (v j)

  -- the words that are read are there
  pub floats-there : There s (k + 21) (length (take (y.bounds + z.bounds - y.bounds) (drop y.bounds o.bounds)))
  floats-there =
      there-part s k (words_in z) 21 _ r.there (omega (arith, part_length y.bounds z.bounds o.bounds r.bounds, width-least z.bounds))

  module _ (m : ℕ) (e : m ≡ width z.bounds) where
    pub pos-there : There s (k + (21 + m)) (length (take (y.pos + z.pos - y.pos) (drop y.pos o.list.pos)))
    pos-there =
        there-part s k (words_in z) (21 + m) _ r.there
        (omega (arith, e, part_length y.pos z.pos o.list.pos r.pos, width-least (z.pos + z.neg)))

    pub neg-there : There s (k + (21 + m) + z.pos) (length (take (y.neg + z.neg - y.neg) (drop y.neg o.list.neg)))
    neg-there =
        there-behind s k (words_in z) (21 + m) z.pos _ r.there
        (omega (arith, e, part_length y.neg z.neg o.list.neg r.neg, width-least (z.pos + z.neg)))

  pub copy-made : (row : List ℕ) (p : Point) (ws : List ℕ) (fs : List Float) (m : ℕ) (us vs : List ℕ)
      → row ≡ run s k 9 → p ≡ point_in w → ws ≡ words_of p (record { start = y.bounds; len = z.bounds })
      → fs ≡ floats_at s (k + 21) (length (take (y.bounds + z.bounds - y.bounds) (drop y.bounds o.bounds)))
      → m ≡ width z.bounds
      → us ≡ run s (k + (21 + m)) (length (take (y.pos + z.pos - y.pos) (drop y.pos o.list.pos)))
      → vs ≡ run s (k + (21 + m) + z.pos) (length (take (y.neg + z.neg - y.neg) (drop y.neg o.list.neg)))
      → record {
        list = record {
          sets = set o.list.sets i row;
          words = set o.list.words i ws;
          pos = take y.pos o.list.pos ++ (us ++ drop (y.pos + z.pos - y.pos) (drop y.pos o.list.pos));
          neg = take y.neg o.list.neg ++ (vs ++ drop (y.neg + z.neg - y.neg) (drop y.neg o.list.neg));
        };
        bounds = take y.bounds o.bounds ++ (fs ++ drop (y.bounds + z.bounds - y.bounds) (drop y.bounds o.bounds));
      }
      ≡ copied_entry s k i y o
  copy-made row p ws fs m us vs er ep ew ef em eu ev =
      let c = k + (21 + width z.bounds) in
      let n = length (take (y.pos + z.pos - y.pos) (drop y.pos o.list.pos)) in
      let h = length (take (y.neg + z.neg - y.neg) (drop y.neg o.list.neg)) in
      let ec : k + (21 + m) ≡ c = ap (λ (j : ℕ). k + (21 + j)) em in
      let a = ap (set o.list.words i) ew in
      let b = part-read (run s c) (length_run s c) y.pos z.pos us o.list.pos r.pos (eu ∙ ap (λ (j : ℕ). run s j n) ec) in
      let d =
      part-read (run s (c + z.pos)) (length_run s (c + z.pos)) y.neg z.neg vs o.list.neg r.neg
      (ev ∙ ap (λ (j : ℕ). run s (j + z.pos) h) ec)
      in
      let g = part-read (floats_at s (k + 21)) (length_floats s (k + 21)) y.bounds z.bounds fs o.bounds r.bounds ef in
      (λ j. record { list = record { sets = set o.list.sets i row; words = a j; pos = b j; neg = d j }; bounds = g j }) ∙ found-is row p er ep
