-- What the functions on one row need. Assumes nothing.
use Rattle.std.proofs.Common.{◌≡◌, ℕ, suc, pred, ◌+◌, ◌-◌, ◌*◌, ◌/◌, ◌%◌, ◌^◌, ◌<◌, ◌≤◌, min, max, Bool, true, false, not, eqb, leb, List, [], ◌∷◌, length, get_or, take, sym, refl, ap, ◌∙◌, subst, ⊎_elim, eq-zero-or-pos, div-one, arith, length-take-le, get_or-take, eq-eqb, ne_eqb, le-leb, leb-true}
use Rattle.laws.proofs.Bools.{flag, and_left, and_right, and_intro}
use Rattle.points.specs.Agreement as A
use Rattle.points.proofs.Agreement.{RowOk, row-says, row-agrees}
use Rattle.rows.specs.Rows.{over, downscaled, onto}
use Rattle.rows.specs.declared.Row.{Row}
use Rattle.rows.proofs.Adds.{over-self}
use Rattle.exponential.specs.Steps.{lowered, low_bin, high_bin}
use Rattle.exponential.specs.Series.{row_in}
use Rattle.exponential.specs.Inner.{Laid, row_agrees, halved}
use Rattle.exponential.specs.declared.Halves.{Halves}
use Rattle.laws.specs.Pick.{pick}
use Rattle.laws.specs.Counting.{sum, total}

-- ---- the bins of a row and of one more

pub bins-empty : (s n b : ℕ) → n ≡ 0 → (low_bin s n b ≡ b) × (high_bin s n b ≡ b)
unfolding low_bin high_bin pick
bins-empty s n b e = rw (eq-eqb n 0 e) (refl, refl)

pub bins-some : (s n b : ℕ) → 0 < n → (low_bin s n b ≡ min s b) × (high_bin s n b ≡ max (s + (n - 1)) b)
unfolding low_bin high_bin pick
bins-some s n b h = let e : pred n ≡ n - 1 = omega arith in rw (ne_eqb n 0 (omega arith), e) (refl, refl)

-- ---- not lowered at all

over_zero : (s : ℕ) → s / 2 ^ 0 ≡ s
over_zero s = div-one s

pub downscaled-zero : (s : ℕ) (xs : List ℕ) → downscaled 0 s xs ≡ xs
unfolding downscaled onto
downscaled-zero s [] = refl
downscaled-zero s (x ∷ xs) =
    rw (over_zero s, over_zero (suc s), ne_eqb s (suc s) (omega arith)) (ap (λ (r : List ℕ). x ∷ r) (downscaled-zero (suc s) xs))

pub laid_same : (r : Row) (xs : List ℕ) (k : ℕ) → k ≡ 0 → r.len ≤ length xs → Laid (lowered k (row_in r xs)) xs r xs
laid_same r xs k e h =
    rw e
    (record {
      start = sym (over_zero r.start);
      len = sym (ap length (downscaled-zero r.start (take r.len xs)) ∙ length-take-le r.len xs h);
      now = sym (ap (λ l. over l xs) (downscaled-zero r.start (take r.len xs)) ∙ over-self r.len xs h);
    })

-- ---- agreement of a row

-- what it says
pub record RowFacts (size lo hi : ℕ) (r : Row) (xs : List ℕ) : Type 0 where
  pub there : r.len ≤ length xs
  pub ok : RowOk size lo hi (row_in r xs)

module _ (size lo hi : ℕ) (r : Row) (xs : List ℕ) where
  abbrev there? : Bool
  there? = leb r.len (length xs)

  abbrev fine? : Bool
  fine? = A.row_agrees size lo hi (row_in r xs)

  pub row-facts : row_agrees size lo hi r xs ≡ true → RowFacts size lo hi r xs
  row-facts h =
      record {
        there = leb-true r.len (length xs) (and_left there? fine? h);
        ok = row-says size lo hi (row_in r xs) (and_right there? fine? h);
      }

  pub facts-row : RowFacts size lo hi r xs → row_agrees size lo hi r xs ≡ true
  facts-row f =
      and_intro there? fine? (le-leb r.len (length xs) f.there) (row-agrees size lo hi (row_in r xs) f.ok)

  pub refuse : (RowFacts size lo hi r xs → ⊥) → false ≡ row_agrees size lo hi r xs
  refuse n = ⊎_elim (λ (t : row_agrees size lo hi r xs ≡ true). absurd (n (row-facts t))) (λ (t : row_agrees size lo hi r xs ≡ false). sym t) (flag (row_agrees size lo hi r xs))

  -- in numbers
  module _ (f : RowFacts size lo hi r xs) where
    long : length (take r.len xs) ≡ r.len
    long = length-take-le r.len xs f.there

    pub short : r.len ≤ size
    short = omega (arith, long, f.ok.short)

    pub low : 0 < r.len → lo ≤ r.start
    low p = f.ok.above (omega (arith, long))

    pub range : r.start + r.len ≤ hi
    range = omega (arith, long, f.ok.below)

    pub first : 0 < r.len → 0 < get_or xs 0 0
    first p = subst (λ (m : ℕ). 0 < m) (get_or-take r.len xs 0 0 (omega arith)) (f.ok.canonical.first (omega (arith, long)))

    pub last : 0 < r.len → 0 < get_or xs (r.len - 1) 0
    last p =
        let q : pred (length (take r.len xs)) ≡ r.len - 1 = omega (arith, long) in
        subst (λ (m : ℕ). 0 < m) (get_or-take r.len xs (r.len - 1) 0 (omega arith))
        (subst (λ (m : ℕ). 0 < get_or (take r.len xs) m 0) q (f.ok.canonical.last (omega (arith, long))))

  -- an empty row
  pub empty-row : r.len ≡ 0 → eqb r.start 0 ≡ row_agrees size lo hi r xs
  unfolding A.row_agrees pick
  empty-row e = rw (e, le-leb 0 (length xs) (omega arith)) refl

  -- the last test
  pub by_last : 0 < r.len → r.len ≤ size → r.len ≤ length xs → lo ≤ r.start → r.start + r.len ≤ hi → 0 < get_or xs 0 0
      → not (eqb (get_or xs (r.len - 1) 0) 0) ≡ row_agrees size lo hi r xs
  by_last p a l d e z =
      let n : length (take r.len xs) ≡ r.len = length-take-le r.len xs l in
      ⊎_elim
      (λ (t : get_or xs (r.len - 1) 0 ≡ 0). ap not (eq-eqb (get_or xs (r.len - 1) 0) 0 t) ∙ refuse (λ f. omega (arith, t, last f p)))
      (λ (t : 0 < get_or xs (r.len - 1) 0).
      ap not (ne_eqb (get_or xs (r.len - 1) 0) 0 (omega arith))
      ∙ sym (facts-row (record {
        there = l;
        ok = record {
          canonical = record {
            empty = λ y. absurd (omega (arith, n));
            first = λ _. subst (λ (m : ℕ). 0 < m) (sym (get_or-take r.len xs 0 0 p)) z;
            last = λ _.
                let q : pred (length (take r.len xs)) ≡ r.len - 1 = omega (arith, n) in
                subst (λ (m : ℕ). 0 < get_or (take r.len xs) m 0) (sym q) (subst (λ (m : ℕ). 0 < m) (sym (get_or-take r.len xs (r.len - 1) 0 (omega arith))) t);
          };
          short = omega (arith, n);
          above = λ _. d;
          below = omega (arith, n);
        };
      })))
      (eq-zero-or-pos (get_or xs (r.len - 1) 0))

-- ---- the sum of the counts in halves

pub times8 : (i n : ℕ) → i < n → n ≤ 160 → i * 8 < 2 ^ 64
times8 i n h g = omega arith

pub one-fits : (i n : ℕ) → i < n → n ≤ 160 → i + 1 < 2 ^ 64
one-fits i n h g = omega arith

pub half-fits : (l l₀ i n y : ℕ) → i < n → n ≤ 160 → l₀ ≤ 200 * 4294967295 → l ≤ l₀ + i * 4294967295 → y ≤ 4294967295 → l + y < 2 ^ 64
half-fits l l₀ i n y h g a b d = omega arith

pub half-next : (l l₀ i y : ℕ) → l ≤ l₀ + i * 4294967295 → y ≤ 4294967295 → l + y ≤ l₀ + (i + 1) * 4294967295
half-next l l₀ i y b d = omega arith

pub low_small : (x : ℕ) → x % 4294967296 ≤ 4294967295
low_small x = omega arith

pub high_small : (x : ℕ) → x < 2 ^ 64 → x / 4294967296 ≤ 4294967295
high_small x h = omega arith

-- one count more in one of the sums
pub half-more : (l l₀ s s' y : ℕ) → l ≡ l₀ + s → s' ≡ s + y → l + y ≡ l₀ + s'
half-more l l₀ s s' y e f = omega arith

halves-more : (l h a b t x : ℕ) → l + a + (h + b) * 4294967296 ≡ l + h * 4294967296 + t
    → l + (x % 4294967296 + a) + (h + (x / 4294967296 + b)) * 4294967296 ≡ l + h * 4294967296 + (x + t)
halves-more l h a b t x e = omega arith

both : (f : Halves) (xs : List ℕ)
    → f.low + sum (λ x. x % 4294967296) xs + (f.high + sum (λ x. x / 4294967296) xs) * 4294967296 ≡ f.low + f.high * 4294967296 + total xs
both f [] = omega arith
both f (x ∷ xs) = halves-more f.low f.high (sum (λ x. x % 4294967296) xs) (sum (λ x. x / 4294967296) xs) (total xs) x (both f xs)

-- both sums together are what was there and the counts
pub halved-total : (f r : Halves) (xs : List ℕ) → r ≡ halved f xs → r.low + r.high * 4294967296 ≡ f.low + f.high * 4294967296 + total xs
unfolding halved
halved-total f r xs e = ap (λ (h : Halves). h.low + h.high * 4294967296) e ∙ both f xs
