-- The table's rule, at every entry, by one test that antt computes: a row at a time, since a declaration has a limit of steps.
-- Assumes nothing.
use mathlib.Core.Bool.{Bool, ◌&&◌}
use mathlib.Core.Path.{◌≡◌, subst}
use mathlib.Core.List.{List, []}
use Prim.Native.Nat.{ℕ, zero, suc, ◌+◌, ◌*◌, ◌/◌, ◌%◌, ◌^◌, ◌≤◌, ◌<◌}
use native.Mathlib.Nat.{le_trans}
use native.Mathlib.Omega.{arith}
use lib.Dec.{T, leb, ltb, leb→le, ltb→lt}
use lib.ListN.{length, get_or, take, drop}
use Rattle.laws.proofs.Every.{every, cut, at, both_left, both_right}
use Rattle.bounds.specs.Bounds.{BoundAt}
use Rattle.bounds.specs.Table.{rows}

-- the entry at place k
unfoldable pub entry : ℕ → ℕ
entry k = get_or (get_or rows (k / 64) []) (k % 64) 0

-- a test of the entries of row i at their places
abbrev pub row : (ℕ → ℕ → Bool) → ℕ → List ℕ → Bool
row f i l = every (λ (j m : ℕ). f (i * 64 + j) m) 0 l

-- each row has 64 entries
wide : ℕ → List ℕ → Bool
wide i l = leb 64 (length l)

all-wide : T (every wide 0 rows)
unfolding wide
all-wide = tt

width : (i : ℕ) → i < 16 → 64 ≤ length (get_or rows i [])
unfolding wide
width i h = leb→le 64 (length (get_or rows i [])) (at wide [] rows 0 all-wide i h)

-- what each row passes, each entry passes
pub at_entry : (f : ℕ → ℕ → Bool) → T (every (row f) 0 rows) → (k : ℕ) → k < 1024 → T (f k (entry k))
unfolding entry
at_entry f t k h =
    subst (λ (n : ℕ). T (f n (entry k))) (place k)
    (at (λ (j m : ℕ). f ((0 + k / 64) * 64 + j) m) 0 (get_or rows (k / 64) []) 0 (at (row f) [] rows 0 t (k / 64) (quotient k h)) (k % 64) (le_trans (rest k) (width (k / 64) (quotient k h))))
  where
    place : (k : ℕ) → (0 + k / 64) * 64 + (0 + k % 64) ≡ k
    place k = omega arith

    quotient : (k : ℕ) → k < 1024 → k / 64 < 16
    quotient k h = omega (arith, h)

    rest : (k : ℕ) → k % 64 < 64
    rest k = omega arith

-- m is the bound at place k
right : ℕ → ℕ → Bool
right k m = leb (m ^ 1024) (2 ^ (k + 53248)) && ltb (2 ^ (k + 53248)) (suc m ^ 1024)

-- the rows from row i on, and the test on them, and on row i
rest : ℕ → List (List ℕ)
rest zero = rows
rest (suc i) = drop 1 (rest i)

abbrev Rest : ℕ → Type 0
Rest i = T (every (row right) i (rest i))

abbrev Row : ℕ → Type 0
Row i = T (every (row right) i (take 1 (rest i)))

join : (i : ℕ) → Row i → Rest (suc i) → Rest i
unfolding rest
join i p q = cut (row right) 1 i (rest i) p (subst (λ (n : ℕ). T (every (row right) n (drop 1 (rest i)))) (step i) q)
  where
    step : (i : ℕ) → suc i ≡ i + 1
    step i = omega arith

row_0 : Row 0
unfolding right rest
row_0 = tt

row_1 : Row 1
unfolding right rest
row_1 = tt

row_2 : Row 2
unfolding right rest
row_2 = tt

row_3 : Row 3
unfolding right rest
row_3 = tt

row_4 : Row 4
unfolding right rest
row_4 = tt

row_5 : Row 5
unfolding right rest
row_5 = tt

row_6 : Row 6
unfolding right rest
row_6 = tt

row_7 : Row 7
unfolding right rest
row_7 = tt

row_8 : Row 8
unfolding right rest
row_8 = tt

row_9 : Row 9
unfolding right rest
row_9 = tt

row_10 : Row 10
unfolding right rest
row_10 = tt

row_11 : Row 11
unfolding right rest
row_11 = tt

row_12 : Row 12
unfolding right rest
row_12 = tt

row_13 : Row 13
unfolding right rest
row_13 = tt

row_14 : Row 14
unfolding right rest
row_14 = tt

row_15 : Row 15
unfolding right rest
row_15 = tt

end : Rest 16
unfolding right rest
end = tt

all_right : T (every (row right) 0 rows)
unfolding rest
all_right = join 0 row_0 (join 1 row_1 (join 2 row_2 (join 3 row_3 (join 4 row_4 (join 5 row_5 (join 6 row_6 (join 7 row_7 others)))))))
  where
    others : Rest 8
    others = join 8 row_8 (join 9 row_9 (join 10 row_10 (join 11 row_11 (join 12 row_12 (join 13 row_13 (join 14 row_14 (join 15 row_15 end)))))))

as-bound : (k m : ℕ) → T (right k m) → BoundAt k m
unfolding right
as-bound k m t =
    let a = leb (m ^ 1024) (2 ^ (k + 53248)) in
    let b = ltb (2 ^ (k + 53248)) (suc m ^ 1024) in
    record {
      reaches = leb→le (m ^ 1024) (2 ^ (k + 53248)) (both_left a b t);
      next = ltb→lt (2 ^ (k + 53248)) (suc m ^ 1024) (both_right a b t);
    }

pub bounded : (k : ℕ) → k < 1024 → BoundAt k (entry k)
bounded k h = as-bound k (entry k) (at_entry right all_right k h)
