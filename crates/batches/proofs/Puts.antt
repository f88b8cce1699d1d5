-- A part put twice into a list is the last one put. Assumes nothing.
use Prim.Native.Nat.{ℕ, ◌+◌, ◌-◌, ◌*◌, ◌≤◌}
use mathlib.Core.Path.{◌≡◌, sym, ◌∙◌}
use mathlib.Core.List.{List, ◌++◌}
use native.Mathlib.Omega.{arith}
use lib.ListN.{length}
use borrow.Rule.Slice.PartMut as Mid
use Rattle.rows.specs.Parts.{put_at}

pub put-put : (n : ℕ) (xs : List ℕ) (x : ℕ) (ys zs : List ℕ) → x * n + n ≤ length xs → length ys ≡ n → put_at n (put_at n xs x ys) x zs ≡ put_at n xs x zs
put-put n xs x ys zs h l =
    let a = x * n in
    let e = x * n + n in
    let w : length ys ≡ e - a = l ∙ width a n in
    let front = Mid.take_put a (e - a) xs ys (omega arith) in
    let back = Mid.Post-is a e (put_at n xs x ys) (omega arith) ∙ Mid.drop_put a e xs ys (omega arith) h w ∙ sym (Mid.Post-is a e xs (omega arith)) in
    λ j. front j ++ (zs ++ back j)
  where
    width : (b m : ℕ) → m ≡ b + m - b
    width b m = omega arith
