-- Tests of equality that antt computes, of whole numbers and lines. Assumes nothing.
use mathlib.Core.Path.{◌≡◌, refl, ap}
use mathlib.Core.Bool.{Bool, true, false, ◌&&◌}
use mathlib.Core.List.{List, [], ◌∷◌}
use Prim.Native.Nat.{ℕ}
use lib.Dec.{T, eqb, eqb→eq}
use lib.IntN.{ℤ, pos, negsuc}
use lib.ListN.{get_or}
use Rattle.laws.proofs.Every.{both_left, both_right}
use Rattle.marks.specs.Marks.{Line}

unfoldable pub same : ℤ → ℤ → Bool
same (pos a) (pos b) = eqb a b
same (pos a) (negsuc b) = false
same (negsuc a) (pos b) = false
same (negsuc a) (negsuc b) = eqb a b

pub same-is : (a b : ℤ) → T (same a b) → a ≡ b
unfolding same
same-is (pos a) (pos b) t = ap pos (eqb→eq a b t)
same-is (pos a) (negsuc b) t = absurd t
same-is (negsuc a) (pos b) t = absurd t
same-is (negsuc a) (negsuc b) t = ap negsuc (eqb→eq a b t)

unfoldable pub same_list : List ℕ → List ℕ → Bool
same_list [] [] = true
same_list [] (y ∷ ys) = false
same_list (x ∷ xs) [] = false
same_list (x ∷ xs) (y ∷ ys) = eqb x y && same_list xs ys

list-is : (xs ys : List ℕ) → T (same_list xs ys) → xs ≡ ys
unfolding same_list
list-is [] [] t = refl
list-is [] (y ∷ ys) t = absurd t
list-is (x ∷ xs) [] t = absurd t
list-is (x ∷ xs) (y ∷ ys) t =
    λ j. eqb→eq x y (both_left (eqb x y) (same_list xs ys) t) j ∷ list-is xs ys (both_right (eqb x y) (same_list xs ys) t) j

unfoldable pub same_row : ℤ × List ℕ → ℤ × List ℕ → Bool
same_row (o, cs) (p, ds) = same o p && same_list cs ds

row_is : (r s : ℤ × List ℕ) → T (same_row r s) → r ≡ s
unfolding same_row
row_is (o, cs) (p, ds) t =
    λ j. (same-is o p (both_left (same o p) (same_list cs ds) t) j, list-is cs ds (both_right (same o p) (same_list cs ds) t) j)

unfoldable pub same_line : Line → Line → Bool
same_line (c, z, s, l, h, t, p, n) (c', z', s', l', h', t', p', n') =
    same_list (c ∷ z ∷ l ∷ h ∷ t ∷ []) (c' ∷ z' ∷ l' ∷ h' ∷ t' ∷ []) && (same s s' && (same_row p p' && same_row n n'))

pub line-is : (l m : Line) → T (same_line l m) → l ≡ m
unfolding same_line
line-is (c, z, s, l, h, t, p, n) (c', z', s', l', h', t', p', n') k =
    let w = same_list (c ∷ z ∷ l ∷ h ∷ t ∷ []) (c' ∷ z' ∷ l' ∷ h' ∷ t' ∷ []) in
    let x = same s s' in
    let y = same_row p p' in
    let u = same_row n n' in
    let k2 = both_right w (x && (y && u)) k in
    let k3 = both_right x (y && u) k2 in
    let e = list-is (c ∷ z ∷ l ∷ h ∷ t ∷ []) (c' ∷ z' ∷ l' ∷ h' ∷ t' ∷ []) (both_left w (x && (y && u)) k) in
    λ j. (get_or (e j) 0 0, get_or (e j) 1 0, same-is s s' (both_left x (y && u) k2) j, get_or (e j) 2 0, get_or (e j) 3 0, get_or (e j) 4 0, row_is p p' (both_left y u k3) j, row_is n n' (both_right y u k3) j)
