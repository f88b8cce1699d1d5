-- What adding a value needs and leaves. Assumes nothing.
use Rattle.std.proofs.Common.{◌≡◌, ℕ, ◌+◌, ◌-◌, ◌*◌, ◌/◌, ◌^◌, ◌<◌, ◌≤◌, List, length, take, sym, ap, ◌∙◌, subst, ⊎_elim, mul_assoc, eq-or-lt_of_le, mul-lt-mul_of_pos_right, arith, length-take-le, pow_pos, pow-add}
use Rattle.index.specs.Bins.{finest, end_bin}
use lib.Pow.{pow-lt, shl-shr}
use Rattle.points.specs.Points.{naught, plus, minus}
use Rattle.laws.specs.Counting.{total}
use Rattle.rows.specs.declared.Row.{Row}
use Rattle.rows.proofs.Adds.{over-self}
use Rattle.exponential.specs.declared.Counts.{Counts}
use Rattle.exponential.specs.Steps.{low_bin, high_bin, lowering, placed}
use Rattle.exponential.specs.Series.{row_in, read}
use Rattle.exponential.specs.Inner.{Laid, Written, lower_by, row_to, row_other, Room}
use Rattle.exponential.proofs.Joint.{few, room-one}
use Rattle.points.proofs.Agreement.{RowOk}
use Rattle.index.specs.Bins.{lowest_bin}
use Rattle.exponential.proofs.Rowed.{RowFacts, range}

pub needed_in : (size : ℕ) (r : Row) (xs : List ℕ) (bin : ℕ) → r.len ≤ length xs
    → lowering size (low_bin r.start r.len bin) (high_bin r.start r.len bin) ≡ lower_by size r xs bin
needed_in size r xs bin h =
    ap (λ n. lowering size (low_bin r.start n bin) (high_bin r.start n bin)) (sym (length-take-le r.len xs h))

pub level_pow : (level : ℕ) → level ≤ finest → 2 ^ level ≤ 2 ^ finest
level_pow level h =
    ⊎_elim
    (λ (e : level ≡ finest). rw e (omega arith))
    (λ (l : level < finest). omega (arith, pow-lt l))
    (eq-or-lt_of_le h)

-- a bin of the level as one of the finest
top_of : (level bin : ℕ) → level ≤ finest → bin < end_bin level → bin * 2 ^ (finest - level) < end_bin finest
top_of level bin h t =
    let q : level + (finest - level) ≡ finest = omega arith in
    let e : end_bin level * 2 ^ (finest - level) ≡ end_bin finest = mul_assoc 3 (2 ^ level) (2 ^ (finest - level)) ∙ ap (λ n. 3 * n) (sym (pow-add 2 level (finest - level)) ∙ ap (λ n. 2 ^ n) q) in
    subst (λ (n : ℕ). bin * 2 ^ (finest - level) < n) e (mul-lt-mul_of_pos_right t (pow_pos (finest - level)))

module _ (size level bin : ℕ) (a : Row) (xs : List ℕ) (s : 3 ≤ size) (h : level ≤ finest) (f : RowFacts size (lowest_bin level) (end_bin level) a xs) (t : bin < end_bin level) where
  -- the row as one of the steps below the finest level
  own : RowOk size (lowest_bin level) (end_bin (finest - (finest - level))) (row_in a xs)
  own = let e : level ≡ finest - (finest - level) = omega arith in subst (λ (n : ℕ). RowOk size (lowest_bin level) (end_bin n) (row_in a xs)) e f.ok

  same : bin * 2 ^ (finest - level) / 2 ^ (finest - level) ≡ bin
  same = shl-shr bin (finest - level)

  -- at most as many levels lower as there are
  pub few_levels : lower_by size a xs bin ≤ level
  few_levels =
      let g : lower_by size a xs bin ≤ finest - (finest - level) = rw same at (few size (finest - level) (bin * 2 ^ (finest - level)) (row_in a xs) own.canonical s (omega arith) (top_of level bin h t) own) in
      omega arith

  pub room : (b : Row) (ys : List ℕ) → RowFacts size (lowest_bin level) (end_bin level) b ys → size ≤ length xs
      → total (take a.len xs) + total (take b.len ys) < 18446744073709551615 → Room size a xs b ys bin
  room b ys g m n =
      let o = rw same at (room-one size (finest - level) (bin * 2 ^ (finest - level)) (row_in a xs) s (omega arith) (top_of level bin h t) own) in
      record {
        some = omega arith;
        bins = omega (arith, range size (lowest_bin level) (end_bin level) a xs f, level_pow level h);
        short = f.there;
        other = g.there;
        few = omega (arith, few_levels);
        fits = omega (arith, o);
        counts = omega arith;
        others = omega arith;
      }

level-is : (level k m : ℕ) → k ≡ m → k ≤ level → level ≤ finest → level - k ≡ finest - (finest - level + m)
level-is level k m e h g = omega arith

module _ (size : ℕ) (c : Counts) (xs ys : List ℕ) (g : c.level ≤ finest) where
  pub written-zero : c.pos.len ≤ length xs → c.neg.len ≤ length ys
      → Written (placed size (read c xs ys) naught) xs ys
      (record { count = c.count + 1; zeros = c.zeros + 1; level = c.level; pos = c.pos; neg = c.neg }) xs ys
  unfolding placed
  written-zero p n =
      let e : c.level ≡ finest - (finest - c.level) = omega arith in
      record {
        counts = λ j. record {
          count = c.count + 1;
          zeros = c.zeros + 1;
          level = e j;
          pos = record { start = c.pos.start; len = sym (length-take-le c.pos.len xs p) j };
          neg = record { start = c.neg.start; len = sym (length-take-le c.neg.len ys n) j };
        };
        pos = sym (over-self c.pos.len xs p);
        neg = sym (over-self c.neg.len ys n);
      }

  pub written-plus : (bin k : ℕ) (to other : Row) (xs' ys' : List ℕ) → k ≤ c.level
      → k ≡ lower_by size c.pos xs bin
      → Laid (row_to size c.pos xs bin) xs to xs'
      → Laid (row_other size c.pos xs c.neg ys bin) ys other ys'
      → Written (placed size (read c xs ys) (plus bin)) xs ys (record { count = c.count + 1; zeros = c.zeros; level = c.level - k; pos = to; neg = other }) xs' ys'
  unfolding placed
  written-plus bin k to other xs' ys' h e p n =
      let q = level-is c.level k (lower_by size c.pos xs bin) e h g in
      record {
        counts = λ j. record {
          count = c.count + 1;
          zeros = c.zeros;
          level = q j;
          pos = record { start = p.start j; len = p.len j };
          neg = record { start = n.start j; len = n.len j };
        };
        pos = p.now;
        neg = n.now;
      }

-- the same below zero: the rows change places
abbrev pub swapped : Counts → Counts
swapped c = record { count = c.count; zeros = c.zeros; level = c.level; pos = c.neg; neg = c.pos }

pub written-swap : (size bin : ℕ) (c r : Counts) (xs ys xs' ys' : List ℕ)
    → Written (placed size (read (swapped c) ys xs) (plus bin)) ys xs r ys' xs' → Written (placed size (read c xs ys) (minus bin)) xs ys (swapped r) xs' ys'
unfolding placed
written-swap size bin c r xs ys xs' ys' w = record { counts = ap swapped w.counts; pos = w.neg; neg = w.pos }
