-- What an agreeing series is known to be. Assumes nothing.
use Rattle.std.proofs.Common.{◌≡◌, ℕ, ◌+◌, ◌-◌, ◌*◌, ◌/◌, ◌%◌, ◌^◌, ◌<◌, ◌≤◌, Bool, true, false, not, ◌&&◌, eqb, leb, List, length, take, sym, refl, ◌∙◌, subst, ⊎_elim, arith, eq-eqb, ne_eqb, eqb-true, le-leb, leb-true}
use borrow.Author.Tests.{eqb-false}
use Rattle.laws.specs.Counting.{total}
use Rattle.laws.proofs.Bools.{flag, not-both, and_left, and_right, and_intro}
use Rattle.index.specs.Bins.{finest, lowest_bin, end_bin}
use Rattle.points.specs.Agreement as A
use Rattle.points.proofs.Agreement as PA
use Rattle.points.proofs.Agreement.{RowOk}
use Rattle.exponential.specs.declared.Counts.{Counts}
use Rattle.exponential.specs.Series.{most_size, size_passes, lowest_of_all, row_in, agrees, read}
use Rattle.exponential.specs.Inner.{row_agrees, adds_up}
use Rattle.exponential.proofs.Rowed.{RowFacts, row-facts}

pub not-true : (b : Bool) → not b ≡ true → b ≡ false
not-true true h = sym h
not-true false h = refl

pub not-false : (b : Bool) → not b ≡ false → b ≡ true
not-false true h = refl
not-false false h = sym h

-- ---- a max_size that passes

pub size_in : (size : ℕ) → size_passes size ≡ true → (3 ≤ size) × (size ≤ most_size)
size_in size h = (leb-true 3 size (and_left (leb 3 size) (leb size most_size) h), leb-true size most_size (and_right (leb 3 size) (leb size most_size) h))

pub size-passes_in : (size : ℕ) → 3 ≤ size → size ≤ most_size → size_passes size ≡ true
size-passes_in size a b = and_intro (leb 3 size) (leb size most_size) (le-leb 3 size a) (le-leb size most_size b)

-- ---- the series

pub record Agreed (size top : ℕ) (c : Counts) (xs ys : List ℕ) : Type 0 where
  pub least : 3 ≤ size
  pub most : size ≤ most_size
  pub greatest : top ≤ finest
  pub level : c.level ≤ top
  pub pos_there : c.pos.len ≤ length xs
  pub neg_there : c.neg.len ≤ length ys
  pub point : PA.Agreed size top lowest_of_all (read c xs ys)

module _ (size top : ℕ) (c : Counts) (xs ys : List ℕ) where
  abbrev t₁ : Bool
  t₁ = size_passes size

  abbrev t₂ : Bool
  t₂ = leb top finest

  abbrev t₃ : Bool
  t₃ = leb c.level top

  abbrev t₄ : Bool
  t₄ = leb c.pos.len (length xs)

  abbrev t₅ : Bool
  t₅ = leb c.neg.len (length ys)

  abbrev t₆ : Bool
  t₆ = A.agrees size top lowest_of_all (read c xs ys)

  pub agreed : agrees size top c xs ys ≡ true → Agreed size top c xs ys
  unfolding agrees
  agreed h =
      let h₁ = and_left t₁ (t₂ && (t₃ && (t₄ && (t₅ && t₆)))) h in
      let h₂ = and_right t₁ (t₂ && (t₃ && (t₄ && (t₅ && t₆)))) h in
      let h₃ = and_right t₂ (t₃ && (t₄ && (t₅ && t₆))) h₂ in
      let h₄ = and_right t₃ (t₄ && (t₅ && t₆)) h₃ in
      let h₅ = and_right t₄ (t₅ && t₆) h₄ in
      record {
        least = (size_in size h₁).0;
        most = (size_in size h₁).1;
        greatest = leb-true top finest (and_left t₂ (t₃ && (t₄ && (t₅ && t₆))) h₂);
        level = leb-true c.level top (and_left t₃ (t₄ && (t₅ && t₆)) h₃);
        pos_there = leb-true c.pos.len (length xs) (and_left t₄ (t₅ && t₆) h₄);
        neg_there = leb-true c.neg.len (length ys) (and_left t₅ t₆ h₅);
        point = PA.agrees-says size top lowest_of_all (read c xs ys) (and_right t₅ t₆ h₅);
      }

  pub agreed-agrees : Agreed size top c xs ys → agrees size top c xs ys ≡ true
  unfolding agrees
  agreed-agrees k =
      and_intro t₁ (t₂ && (t₃ && (t₄ && (t₅ && t₆)))) (size-passes_in size k.least k.most)
      (and_intro t₂ (t₃ && (t₄ && (t₅ && t₆))) (le-leb top finest k.greatest)
      (and_intro t₃ (t₄ && (t₅ && t₆)) (le-leb c.level top k.level)
      (and_intro t₄ (t₅ && t₆) (le-leb c.pos.len (length xs) k.pos_there)
      (and_intro t₅ t₆ (le-leb c.neg.len (length ys) k.neg_there) (PA.agreed-agrees size top lowest_of_all (read c xs ys) k.point)))))

  -- the rows, at the series' own level
  module _ (k : Agreed size top c xs ys) where
    own : finest - (finest - c.level) ≡ c.level
    own = omega (arith, k.level, k.greatest)

    pub pos-facts : RowFacts size (lowest_bin c.level) (end_bin c.level) c.pos xs
    pos-facts = record { there = k.pos_there; ok = subst (λ (n : ℕ). RowOk size (lowest_bin c.level) (end_bin n) (row_in c.pos xs)) own k.point.pos }

    pub neg-facts : RowFacts size (lowest_bin c.level) (end_bin c.level) c.neg ys
    neg-facts = record { there = k.neg_there; ok = subst (λ (n : ℕ). RowOk size (lowest_bin c.level) (end_bin n) (row_in c.neg ys)) own k.point.neg }

    pub level_in : c.level ≤ finest
    level_in = omega (arith, k.level, k.greatest)

  -- ---- case by case

  pub refuse : (Agreed size top c xs ys → ⊥) → false ≡ agrees size top c xs ys
  refuse n = ⊎_elim (λ (t : agrees size top c xs ys ≡ true). absurd (n (agreed t))) (λ (t : agrees size top c xs ys ≡ false). sym t) (flag (agrees size top c xs ys))

  pub by-sum : size_passes size ≡ true → top ≤ finest → c.level ≤ top → row_agrees size (lowest_bin c.level) (end_bin c.level) c.pos xs ≡ true → row_agrees size (lowest_bin c.level) (end_bin c.level) c.neg ys ≡ true
      → adds_up c xs ys ≡ agrees size top c xs ys
  by-sum a t l p n =
      let f = row-facts size (lowest_bin c.level) (end_bin c.level) c.pos xs p in
      let g = row-facts size (lowest_bin c.level) (end_bin c.level) c.neg ys n in
      let w : c.level ≡ finest - (finest - c.level) = omega arith in
      ⊎_elim
      (λ (e : adds_up c xs ys ≡ true).
      e ∙ sym (agreed-agrees (record {
        least = (size_in size a).0;
        most = (size_in size a).1;
        greatest = t;
        level = l;
        pos_there = f.there;
        neg_there = g.there;
        point = record {
          fine = omega arith;
          coarse = omega arith;
          pos = subst (λ (n : ℕ). RowOk size (lowest_bin c.level) (end_bin n) (row_in c.pos xs)) w f.ok;
          neg = subst (λ (n : ℕ). RowOk size (lowest_bin c.level) (end_bin n) (row_in c.neg ys)) w g.ok;
          adds = eqb-true c.count (c.zeros + (total (take c.pos.len xs) + total (take c.neg.len ys))) e;
        };
      })))
      (λ (e : adds_up c xs ys ≡ false).
      e ∙ refuse (λ k. eqb-false c.count (c.zeros + (total (take c.pos.len xs) + total (take c.neg.len ys))) e k.point.adds))
      (flag (adds_up c xs ys))

-- ---- the sum in halves

pub halves-same : (n l h : ℕ) → n % 4294967296 ≡ l % 4294967296 → n / 4294967296 ≡ h + l / 4294967296 → n ≡ l + h * 4294967296
halves-same n l h p q = omega arith

pub halves-low : (n l h : ℕ) → n ≡ l + h * 4294967296 → n % 4294967296 ≡ l % 4294967296
halves-low n l h p = omega arith

pub halves-high : (n l h : ℕ) → n ≡ l + h * 4294967296 → n / 4294967296 ≡ h + l / 4294967296
halves-high n l h p = omega arith

pub halves-sum : (z l h l' h' t u : ℕ) → l + h * 4294967296 ≡ z % 4294967296 + z / 4294967296 * 4294967296 + t → l' + h' * 4294967296 ≡ l + h * 4294967296 + u
    → l' + h' * 4294967296 ≡ z + (t + u)
halves-sum z l h l' h' t u p q = omega arith

pub low-bound : (l z n : ℕ) → l ≤ z % 4294967296 + n * 4294967295 → n ≤ 160 → l ≤ 200 * 4294967295
low-bound l z n p q = omega arith

pub high-bound : (l z n : ℕ) → l ≤ z / 4294967296 + n * 4294967295 → z < 2 ^ 64 → n ≤ 160 → l ≤ 200 * 4294967295
high-bound l z n p h q = omega arith

pub last_fits : (l h l₀ h₀ n : ℕ) → l₀ ≤ 200 * 4294967295 → h₀ ≤ 200 * 4294967295 → n ≤ 160 → l ≤ l₀ + n * 4294967295 → h ≤ h₀ + n * 4294967295 → h + l / 4294967296 < 2 ^ 64
last_fits l h l₀ h₀ n a b d p q = omega arith

eqb-off : (a b : ℕ) → eqb a b ≡ false → a ≡ b → ⊥
eqb-off a b e q = not-both (eqb a b) (eq-eqb a b q) e

pub eqb_iff : (a b c d : ℕ) → (a ≡ b → c ≡ d) → (c ≡ d → a ≡ b) → eqb a b ≡ eqb c d
eqb_iff a b c d f g =
    ⊎_elim
    (λ (e : eqb a b ≡ true). e ∙ sym (eq-eqb c d (f (eqb-true a b e))))
    (λ (e : eqb a b ≡ false). e ∙ sym (ne_eqb c d (λ q. eqb-off a b e (g q))))
    (flag (eqb a b))

pub adds-up-no : (c : Counts) (xs ys : List ℕ) (l h : ℕ) → l + h * 4294967296 ≡ c.zeros + (total (take c.pos.len xs) + total (take c.neg.len ys))
    → (c.count % 4294967296 ≡ l % 4294967296 → ⊥) → false ≡ adds_up c xs ys
adds-up-no c xs ys l h s n =
    sym (ne_eqb c.count (c.zeros + (total (take c.pos.len xs) + total (take c.neg.len ys))) (λ q. n (halves-low c.count l h (q ∙ sym s))))

pub adds-up-by : (c : Counts) (xs ys : List ℕ) (l h : ℕ) → l + h * 4294967296 ≡ c.zeros + (total (take c.pos.len xs) + total (take c.neg.len ys))
    → c.count % 4294967296 ≡ l % 4294967296 → eqb (c.count / 4294967296) (h + l / 4294967296) ≡ adds_up c xs ys
adds-up-by c xs ys l h s n =
    eqb_iff (c.count / 4294967296) (h + l / 4294967296) c.count (c.zeros + (total (take c.pos.len xs) + total (take c.neg.len ys)))
    (λ q. halves-same c.count l h n q ∙ s) (λ q. halves-high c.count l h (q ∙ sym s))
