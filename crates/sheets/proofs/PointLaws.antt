-- What agreement says of a point with its bounds and counts, and what a head's words say of the point that they are. Assumes nothing.
use Prim.Native.Nat.{ℕ, zero, suc, ◌≤◌, ◌<◌}
use mathlib.Core.Path.{◌≡◌, refl, sym, ap, ap₂, ◌∙◌}
use mathlib.Core.Bool.{Bool, true, false, not, ◌&&◌}
use mathlib.Core.List.{List, [], ◌∷◌, ◌++◌, map}
use native.Mathlib.Omega.{arith}
use borrow.Author.Tests.{leb-true, eqb-true, eq-eqb, not-true}
use lib.Dec.{T, leb, eqb}
use lib.ListN.{length, get_or}
use lib.Seq.{length-take-le, ext_get_or}
use lib.Ieee.{Float, binary64, of_bits, is_nan}
use lib.Ieee.Bits.{to_bits-of_bits}
use Rattle.laws.specs.Pick.{pick}
use Rattle.laws.proofs.Bools.{and_left, and_right, pick-false}
use Rattle.laws.proofs.Cases.{and-true, true-not-false}
use Rattle.index.specs.Bins.{finest, lowest_bin}
use Rattle.floats.specs.Answers.{bits_of}
use Rattle.points.specs.Explicit.{no_nan, rising, bounds_pass}
use Rattle.points.specs.Figures.{most_size}
use Rattle.points.specs.Handed.{counts_agree, shown_agrees, handed_agrees}
use Rattle.points.proofs.Agreement.{agrees-says}
use Rattle.points.proofs.Explicit.{buckets-say}
use Rattle.exponential.specs.Series.{read}
use Rattle.exponential.specs.declared.Counts.{Counts}
use Rattle.explicit.specs.Series.{buckets_in}
use Rattle.point.specs.Handing.{Stored, counts_as, counts_in, handed_in, figures_shaped, in_shape, agrees_alone}
use Rattle.point.specs.declared.Figures.{Figures}
use Rattle.point.specs.declared.Figures.TheVariants.{Exponential, Explicit}
use Rattle.sets.proofs.Alls.{allb-at, allb-yes}
use Rattle.listing.specs.Words.{figures_words, words_of, figures_in, point_in, bounds_in, is_point}
use Rattle.listing.specs.Listed.{buckets_of, pos_len, neg_len}
use Rattle.listing.specs.declared.Span.{Span}
use Rattle.sheets.specs.Entries.{bounds_fine}
use Rattle.sheets.proofs.EntryParts.{head-twelve}

-- ---- agreement

-- so many bounds and counts, and no bound is a NaN
pub record Few (f : Figures) (bs : List Float) : Type 0 where
  pub bounds : length bs ≤ 159
  pub pos : pos_len f (record { start = 0; len = length bs }) ≤ 160
  pub neg : neg_len f ≤ 160
  pub numbers : no_nan bs ≡ true

none-nan : (bs : List Float) → length bs ≡ 0 → no_nan bs ≡ true
unfolding no_nan
none-nan [] h = refl
none-nan (b ∷ bs) h = absurd (omega arith)

buckets-few : (n : ℕ) → n ≤ 159 → buckets_of n ≤ 160
buckets-few zero h = omega arith
buckets-few (suc n) h = omega arith

figures-few : (f : Figures) (bs : List Float) (xs ys : List ℕ) → figures_shaped f xs ys ≡ true
    → counts_agree most_size finest (lowest_bin finest) (counts_as f bs xs ys) ≡ true → bounds_fine f (length bs) ≡ true → Few f bs
unfolding bounds_pass
figures-few (Exponential c) bs xs ys s h b =
    let a = agrees-says most_size finest (lowest_bin finest) (read c xs ys) h in
    let t = and-true (leb c.pos.len (length xs)) (leb c.neg.len (length ys)) (and_right (leb c.level finest) _ s) in
    let p = length-take-le c.pos.len xs (leb-true c.pos.len (length xs) t.0) in
    let q = length-take-le c.neg.len ys (leb-true c.neg.len (length ys) t.1) in
    let z = eqb-true (length bs) 0 b in
    record {
      bounds = omega arith;
      pos = omega (arith, a.pos.short, p);
      neg = omega (arith, a.neg.short, q);
      numbers = none-nan bs z;
    }
figures-few (Explicit m) bs xs ys s h b =
    let t = and-true (leb (length bs) 159) (no_nan bs && rising bs) (buckets-say bs (buckets_in bs m xs) h).passes in
    let l = leb-true (length bs) 159 t.0 in
    record { bounds = l; pos = buckets-few (length bs) l; neg = omega arith; numbers = and_left (no_nan bs) (rising bs) t.1 }

pub agreed-few : (x : Stored) → agrees_alone x ≡ true → bounds_fine x.point.figures (length x.bounds) ≡ true
    → Few x.point.figures x.bounds
unfolding agrees_alone handed_agrees
agreed-few x h b =
    let t = and-true (in_shape x) _ h in
    figures-few x.point.figures x.bounds x.pos x.neg t.0
    (and_left (counts_agree most_size finest (lowest_bin finest) (counts_in x)) (shown_agrees (handed_in x)) t.1) b

-- ---- the bits of bounds

to-t : (b : Bool) → b ≡ true → T b
to-t true h = tt
to-t false h = true-not-false (sym h)

bits-again : (k : ℕ) → k < 18446744073709551616 → not (is_nan (of_bits binary64 k)) ≡ true → bits_of (of_bits binary64 k) ≡ k
bits-again k h n =
    pick-false (is_nan (of_bits binary64 k)) _ _ (not-true (is_nan (of_bits binary64 k)) n)
    ∙ to_bits-of_bits binary64 k h (to-t (not (is_nan (of_bits binary64 k))) n)

-- each a word of 64 bits
abbrev pub AllWords : List ℕ → Type 0
AllWords l = (i : ℕ) → i < length l → get_or l i 0 < 18446744073709551616

-- words that are no NaN's come back
pub words-again : (ws : List ℕ) → AllWords ws → no_nan (map (of_bits binary64) ws) ≡ true → map bits_of (map (of_bits binary64) ws) ≡ ws
unfolding no_nan
words-again [] h n = refl
words-again (k ∷ ws) h n =
    let t = and-true (not (is_nan (of_bits binary64 k))) (no_nan (map (of_bits binary64) ws)) n in
    ap₂ ◌∷◌ (bits-again k (h 0 (omega arith)) t.0) (words-again ws (λ i p. h (suc i) (omega arith)) t.1)

-- ---- a head

-- by the kind that the first word says
fit-by : (b : Bool) (c : Counts) (m : ℕ) (s : Span) → bounds_fine (pick b (Exponential c) (Explicit m)) (pick b (record { start = 0; len = 0 }) s).len ≡ true
unfolding pick
fit-by true c m s = refl
fit-by false c m s = refl

start-by : (b : Bool) (c : Counts) (m n v k : ℕ) (l : List ℕ)
    → get_or (figures_words (pick b (Exponential c) (Explicit m)) (record { start = 0; len = n }) ++ l) 4 0 ≡ v
    → (pick {A = Span} b (record { start = 0; len = 0 }) (record { start = v; len = k })).start ≡ 0
unfolding pick
start-by true c m n v k l h = refl
start-by false c m n v k l h = sym h

module _ (w : List ℕ) where
  -- an exponential point has no bounds
  pub bounds-fit : bounds_fine (point_in w).figures (bounds_in w).len ≡ true
  unfolding point_in figures_in bounds_in pick
  bounds-fit = fit-by (eqb (get_or w 0 0) 0) _ (get_or w 1 0) _

  -- written with bounds that start at 0, they start there
  pub start-zero : (n : ℕ) → words_of (point_in w) (record { start = 0; len = n }) ≡ w → (bounds_in w).start ≡ 0
  unfolding point_in figures_in bounds_in pick
  start-zero n h = start-by (eqb (get_or w 0 0) 0) _ (get_or w 1 0) n (get_or w 4 0) (get_or w 5 0) _ (ap (λ (u : List ℕ). get_or u 4 0) h)

  pub point-says : length w ≡ 12 → is_point w ≡ true → words_of (point_in w) (bounds_in w) ≡ w
  unfolding is_point
  point-says l h =
      let W = words_of (point_in w) (bounds_in w) in
      let t = head-twelve (point_in w) (bounds_in w) in
      ext_get_or 0 W w (t ∙ sym l) (λ i p. eqb-true (get_or W i 0) (get_or w i 0) (allb-at (λ i. eqb (get_or W i 0) (get_or w i 0)) 12 h i (omega arith)))

  pub point-is : words_of (point_in w) (bounds_in w) ≡ w → is_point w ≡ true
  unfolding is_point
  point-is h =
      let W = words_of (point_in w) (bounds_in w) in
      allb-yes (λ i. eqb (get_or W i 0) (get_or w i 0)) 12 (λ i p. eq-eqb (get_or W i 0) (get_or w i 0) (ap (λ (u : List ℕ). get_or u i 0) h))
