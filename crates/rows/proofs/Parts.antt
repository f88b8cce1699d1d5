-- What is put into one slot's part is there, and nowhere else. Assumes nothing.
use Prim.Native.Nat.{ℕ, ◌+◌, ◌-◌, ◌*◌, ◌≤◌, ◌<◌}
use mathlib.Core.Path.{◌≡◌, sym, ap, subst, ◌∙◌}
use mathlib.Core.Logic.{⊎_elim}
use mathlib.Core.List.{List, ◌++◌}
use native.Mathlib.Nat.{suc-mul, mul-le-mul_right, le_trans}
use native.Mathlib.Omega.{arith}
use lib.ListN.{length, take, drop, length-drop, take-append-drop}
use lib.Seq.{length-take-le, take-append-le, drop-append-le, drop-drop, take_at, drop_at}
use borrow.Rule.Slice.PartMut as Mid
use Rattle.laws.proofs.Differences.{le_or-lt}
use Rattle.rows.specs.Parts.{part_at, put_at}

-- a slot's part ends where the next one's begins
pub slot-end : (x y n : ℕ) → x < y → x * n + n ≤ y * n
slot-end x y n h = rw suc-mul at (mul-le-mul_right n h)

-- and lies within a store that has parts for m slots
pub within : (x m n l : ℕ) → x < m → m * n ≤ l → x * n + n ≤ l
within x m n l h g = le_trans (slot-end x m n h) g

width : (a n : ℕ) → a + n - a ≡ n
width a n = omega arith

-- a part that lies in the first of two lists
early : (p r : List ℕ) (b k : ℕ) → b + k ≤ length p → take k (drop b (p ++ r)) ≡ take k (drop b p)
early p r b k h =
    ap (take k) (drop-append-le b p r (omega arith)) ∙ take-append-le k (drop b p) r (rw (length-drop b p) (omega arith))

-- a part is told by what lies from any place at or before it on
late : (e b : ℕ) (xs ys : List ℕ) → e ≤ b → drop e xs ≡ drop e ys → drop b xs ≡ drop b ys
late e b xs ys h q =
    let w : e + (b - e) ≡ b = omega arith in
    subst (λ (j : ℕ). drop j xs ≡ drop j ys) w (sym (drop-drop (b - e) e xs) ∙ ap (drop (b - e)) q ∙ drop-drop (b - e) e ys)

module _ (n : ℕ) (xs : List ℕ) (x : ℕ) (h : x * n + n ≤ length xs) where
  pub part_length : length (part_at n xs x) ≡ n
  part_length = Mid.mid_len (x * n) (x * n + n) xs h ∙ width (x * n) n

  module _ (ys : List ℕ) (l : length ys ≡ n) where
    whole : length ys ≡ x * n + n - x * n
    whole = l ∙ sym (width (x * n) n)

    front : length (take (x * n) xs) ≡ x * n
    front = length-take-le (x * n) xs (omega arith)

    pub put-length : length (put_at n xs x ys) ≡ length xs
    put-length = Mid.same_len_mid (x * n) (x * n + n - x * n) xs ys (l ∙ sym part_length)

    -- what was put there
    pub put-own : part_at n (put_at n xs x ys) x ≡ ys
    put-own =
        ap (take (x * n + n - x * n)) (drop_at (take (x * n) xs) (ys ++ drop (x * n + n - x * n) (drop (x * n) xs)) (x * n) front)
        ∙ take_at ys (drop (x * n + n - x * n) (drop (x * n) xs)) (x * n + n - x * n) whole

    before : (y : ℕ) → y < x → part_at n (put_at n xs x ys) y ≡ part_at n xs y
    before y g =
        let a = x * n in
        let k = y * n + n - y * n in
        let f : y * n + k ≤ length (take a xs) = omega (arith, slot-end y x n g, front, width (y * n) n) in
        early (take a xs) (ys ++ drop (a + n - a) (drop a xs)) (y * n) k f
        ∙ sym (early (take a xs) (drop a xs) (y * n) k f)
        ∙ ap (λ (l : List ℕ). take k (drop (y * n) l)) (take-append-drop a xs)

    after : (y : ℕ) → x < y → part_at n (put_at n xs x ys) y ≡ part_at n xs y
    after y g =
        ap (take (y * n + n - y * n))
        (late (x * n + n) (y * n) (put_at n xs x ys) xs (slot-end x y n g) (Mid.drop_put (x * n) (x * n + n) xs ys (omega arith) h whole))

    -- and every other slot's part is as it was
    pub put_other : (y : ℕ) → (y ≡ x → ⊥) → part_at n (put_at n xs x ys) y ≡ part_at n xs y
    put_other y d =
        ⊎_elim
        (λ (g : x ≤ y). after y (omega (arith, d)))
        (λ (g : y < x). before y g)
        (le_or-lt x y)

-- a part put back as it was
pub put_same : (n : ℕ) (xs : List ℕ) (x : ℕ) → put_at n xs x (part_at n xs x) ≡ xs
put_same n xs x = Mid.put_same (x * n) (x * n + n - x * n) xs
