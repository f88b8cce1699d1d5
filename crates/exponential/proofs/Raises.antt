-- What `raise` writes: one more in the row of the sign, and none in the other. Assumes nothing.
use Rattle.std.proofs.Common.{◌≡◌, ℕ, ◌+◌, ◌-◌, ◌^◌, ◌<◌, ◌≤◌, Bool, true, false, List, length, get_or, take, set, sym, refl, ap, ◌∙◌, add-zero, arith, get_or-take}
use lib.Seq.{set-get_or}
use Rattle.laws.specs.Pick.{pick}
use Rattle.laws.specs.Counting.{bit, total}
use Rattle.laws.proofs.Bools.{pick_true, pick-false}
use Rattle.rows.specs.Rows.{holds}
use Rattle.rows.specs.declared.Row.{Row}
use Rattle.rows.proofs.Laws.{get_or-le-total}
use Rattle.rows.proofs.Adds.{inside, holds-inside}
use Rattle.exponential.specs.Inner.{Beside, Raised, Tried}

set_own : (l : List ℕ) (k : ℕ) → set l k (get_or l k 0 + 0) ≡ l
set_own l k = rw (add-zero (get_or l k 0)) (set-get_or l k 0)

module _ (a : Row) (bin k : ℕ) (xs ys : List ℕ) (h : a.len ≤ length xs) (l : a.start ≤ bin) (e : k ≡ bin - a.start) (m : k < a.len) where
  one : Raised a bin true xs ys (set xs k (get_or xs k 0 + 1)) (set ys k (get_or ys k 0 + 0))
  one =
      let g : bin - a.start < a.len = omega arith in
      record {
        has = sym (holds-inside a.start a.len bin l g);
        here = ap (λ (j : ℕ). set xs j (get_or xs j 0 + 1)) e ∙ (inside xs a.start a.len bin (omega arith) h l g).1.1 ∙ sym (pick_true true _ _ refl);
        beside = set_own ys k;
      }

under : (a : Row) (k : ℕ) (xs : List ℕ) → k < a.len → total (take a.len xs) + 1 < 2 ^ 64 → get_or xs k 0 + 1 < 2 ^ 64
under a k xs m t = omega (arith, get_or-take a.len xs k 0 m, get_or-le-total (take a.len xs) k)

none : (a : Row) (bin : ℕ) (xs ys : List ℕ) → holds a.start a.len bin ≡ false → Raised a bin false xs ys xs ys
none a bin xs ys h = record { has = sym h; here = sym (pick-false false _ _ refl); beside = refl }

-- for either sign: row is that of the sign, m is one below zero
module _ (a b row : Row) (bin k m : ℕ) (xs ys : List ℕ) (h : Beside a xs b ys) where
  pub within_both : (negative : Bool) → row ≡ pick negative b a → k < row.len → (k < length xs) × (k < length ys)
  unfolding pick
  within_both true e l = let z : row.len ≡ b.len = ap (λ (r : Row). r.len) e in (omega (arith, h.neg), omega (arith, h.neg))
  within_both false e l = let z : row.len ≡ a.len = ap (λ (r : Row). r.len) e in (omega (arith, h.pos), omega (arith, h.pos))

  pub sums-fit : (negative : Bool) → row ≡ pick negative b a → k < row.len → m ≡ bit negative → get_or xs k 0 < 2 ^ 64 → get_or ys k 0 < 2 ^ 64
      → (m ≤ 1) × ((get_or xs k 0 + (1 - m) < 2 ^ 64) × (get_or ys k 0 + m < 2 ^ 64))
  unfolding pick
  sums-fit true e l q f g =
      let z : row.len ≡ b.len = ap (λ (r : Row). r.len) e in
      let t = under b k ys (omega arith) h.neg_counts in
      (omega arith, (omega arith, omega arith))
  sums-fit false e l q f g =
      let z : row.len ≡ a.len = ap (λ (r : Row). r.len) e in
      let t = under a k xs (omega arith) h.pos_counts in
      (omega arith, (omega arith, omega arith))

  pub tried-yes : (negative : Bool) → row ≡ pick negative b a → row.start ≤ bin → k ≡ bin - row.start → k < row.len → m ≡ bit negative
      → (u : ℕ) → u + m ≡ 1 → Tried negative a b bin true xs ys (set xs k (get_or xs k 0 + u)) (set ys k (get_or ys k 0 + m))
  unfolding pick
  tried-yes true e l d g q u t =
      let s : row.start ≡ b.start = ap (λ (r : Row). r.start) e in
      let z : row.len ≡ b.len = ap (λ (r : Row). r.len) e in
      let o : u ≡ 0 = omega arith in
      rw (q, o) (one b bin k ys xs h.neg.0 (omega arith) (omega arith) (omega arith))
  tried-yes false e l d g q u t =
      let s : row.start ≡ a.start = ap (λ (r : Row). r.start) e in
      let z : row.len ≡ a.len = ap (λ (r : Row). r.len) e in
      let o : u ≡ 1 = omega arith in
      rw (q, o) (one a bin k xs ys h.pos.0 (omega arith) (omega arith) (omega arith))

  pub tried-no : (negative : Bool) → row ≡ pick negative b a → holds row.start row.len bin ≡ false → Tried negative a b bin false xs ys xs ys
  unfolding pick
  tried-no true e f = none b bin ys xs (rw e at f)
  tried-no false e f = none a bin xs ys (rw e at f)
