-- The sum of whole numbers of 1/1024 whose magnitudes total at most 2 ^ 43 is exact: neither their order nor how they are cut into
-- parts matters. Assumes nothing.
use mathlib.Core.Path.{◌≡◌, refl, sym, ap, ◌∙◌}
use mathlib.Core.List.{List, [], ◌∷◌, ◌++◌, foldl, Permᴰ}
use Prim.Native.Nat.{ℕ, suc, ◌+◌, ◌-◌, ◌^◌, ◌≤◌, ◌<◌}
use native.Mathlib.Omega.{arith}
use mathlib.Core.Bool.{Bool, true, false}
use lib.IntN.{ℤ, pos, negsuc, nat_abs, sub_ℕ, ◌+ℤ◌, +ℤ_assoc, +ℤ_comm, +ℤ_idl, +ℤ_idr}
use lib.Dec.{T, ltb, ltb→lt}
use lib.Ieee.{Float, binary64, add, of_bits, round}
use Rattle.laws.specs.Lists.{All}
use Rattle.laws.proofs.Lists.{all_left, all_right, all-perm, foldr-perm}
use Rattle.floats.specs.Grid.{grid, steps, Whole, exact_total, weight, Gridded}
use Rattle.floats.specs.Starts.{zero_float}
use Rattle.floats.proofs.Exact.{grid-exact, add-grid}

-- ---- |z + w| ≤ |z| + |w|
sub_abs : (a b : ℕ) → nat_abs (sub_ℕ a b) ≤ a + b
sub_abs a b = go (ltb a b) refl (ltb→lt a b)
  where
    near : a < b → suc (b - suc a) ≤ a + b
    near h = omega arith

    far : a - b ≤ a + b
    far = omega arith

    go : (c : Bool) → ltb a b ≡ c → (T c → a < b) → nat_abs (sub_ℕ a b) ≤ a + b
    go true e h = rw e (near (h tt))
    go false e h = rw e far

pub abs-add : (z w : ℤ) → nat_abs (z +ℤ w) ≤ nat_abs z + nat_abs w
abs-add (pos a) (pos b) = omega arith
abs-add (pos a) (negsuc b) = sub_abs a (suc b)
abs-add (negsuc a) (pos b) = let h = sub_abs b (suc a) in omega arith
abs-add (negsuc a) (negsuc b) = omega arith

-- ---- from left to right, as code adds them
sum-exact : (z : ℤ) (xs : List Float) → All Whole xs → nat_abs z + weight xs ≤ 2 ^ 53 → foldl (add binary64) (grid z) xs ≡ grid (z +ℤ exact_total xs)
unfolding exact_total weight All
sum-exact z [] a h = ap grid (sym (+ℤ_idr z))
sum-exact z (x ∷ xs) a h =
    ap (λ (y : Float). foldl (add binary64) y xs) (add-grid z (steps x) x (omega arith) a.0)
    ∙ sum-exact (z +ℤ steps x) xs a.1 (omega (arith, abs-add z (steps x)))
    ∙ ap grid (+ℤ_assoc z (steps x) (exact_total xs))

pub zero_is : zero_float ≡ grid (pos 0)
unfolding grid round of_bits
zero_is = refl

-- THE SUM FROM 0.0 IS EXACT; it is +0.0 where the total is 0
pub sum_is : (xs : List Float) → Gridded xs → foldl (add binary64) zero_float xs ≡ grid (exact_total xs)
sum_is xs g =
    ap (λ (y : Float). foldl (add binary64) y xs) zero_is ∙ sum-exact (pos 0) xs g.whole (omega (arith, g.light)) ∙ ap grid (+ℤ_idl (exact_total xs))

-- ---- order
-- WHATEVER THE ORDER
pub total-perm : {xs ys : List Float} → Permᴰ xs ys → exact_total xs ≡ exact_total ys
unfolding exact_total
total-perm p =
    foldr-perm (λ x t. steps x +ℤ t)
    (λ a b z. sym (+ℤ_assoc (steps a) (steps b) z) ∙ ap (λ (d : ℤ). d +ℤ z) (+ℤ_comm (steps a) (steps b)) ∙ +ℤ_assoc (steps b) (steps a) z) (pos 0) p

weight-perm : {xs ys : List Float} → Permᴰ xs ys → weight xs ≡ weight ys
unfolding weight
weight-perm p = foldr-perm (λ x t. nat_abs (steps x) + t) (λ a b z. omega arith) 0 p

pub gridded-perm : {xs ys : List Float} → Permᴰ xs ys → Gridded xs → Gridded ys
gridded-perm p g = record { whole = all-perm Whole p g.whole; light = omega (arith, weight-perm p, g.light) }

-- ---- parts
total_append : (xs ys : List Float) → exact_total (xs ++ ys) ≡ exact_total xs +ℤ exact_total ys
unfolding exact_total
total_append [] ys = sym (+ℤ_idl (exact_total ys))
total_append (x ∷ xs) ys = ap (λ (t : ℤ). steps x +ℤ t) (total_append xs ys) ∙ sym (+ℤ_assoc (steps x) (exact_total xs) (exact_total ys))

weight_append : (xs ys : List Float) → weight (xs ++ ys) ≡ weight xs + weight ys
unfolding weight
weight_append [] ys = omega arith
weight_append (x ∷ xs) ys = omega (arith, weight_append xs ys)

pub gridded-left : (xs ys : List Float) → Gridded (xs ++ ys) → Gridded xs
gridded-left xs ys g = record { whole = all_left Whole xs ys g.whole; light = omega (arith, weight_append xs ys, g.light) }

pub gridded-right : (xs ys : List Float) → Gridded (xs ++ ys) → Gridded ys
gridded-right xs ys g = record { whole = all_right Whole xs ys g.whole; light = omega (arith, weight_append xs ys, g.light) }

pub total-weight : (xs : List Float) → nat_abs (exact_total xs) ≤ weight xs
unfolding exact_total weight
total-weight [] = omega arith
total-weight (x ∷ xs) = omega (arith, total-weight xs, abs-add (steps x) (exact_total xs))

-- HOWEVER THEY ARE CUT: the exact totals of two parts added
pub grid-parts : (xs ys : List Float) → Gridded (xs ++ ys) → add binary64 (grid (exact_total xs)) (grid (exact_total ys)) ≡ grid (exact_total (xs ++ ys))
grid-parts xs ys g =
    let l = gridded-left xs ys g in
    let r = gridded-right xs ys g in
    add-grid (exact_total xs) (exact_total ys) (grid (exact_total ys)) (omega (arith, total-weight xs, l.light)) (grid-exact (exact_total ys) (omega (arith, total-weight ys, r.light)))
    ∙ ap grid (sym (total_append xs ys))

-- nothing and nothing
pub zeros-add : add binary64 zero_float zero_float ≡ zero_float
unfolding add of_bits
zeros-add = refl
