-- The front of a list, cut at the lesser of a number and its length. Assumes nothing.
use Prim.Native.Nat.{ℕ, min, ◌-◌, ◌≤◌, ◌<◌}
use mathlib.Core.Path.{◌≡◌, sym, ap, ◌∙◌}
use mathlib.Core.Logic.{⊎_elim}
use mathlib.Core.List.{List}
use native.Mathlib.Omega.{arith}
use lib.ListN.{length, take, drop}
use lib.Seq.{take_all}
use Rattle.laws.proofs.Differences.{le_or-lt}

pub front-is : {A : Type 0} (xs : List A) (n e : ℕ) → e ≡ min n (length xs) → take (e - 0) (drop 0 xs) ≡ take n xs
front-is xs n e f =
    ⊎_elim
    (λ (l : n ≤ length xs). let q : e - 0 ≡ n = omega (arith, f) in ap (λ (j : ℕ). take j xs) q)
    (λ (l : length xs < n). take_all (e - 0) xs (omega (arith, f)) ∙ sym (take_all n xs (omega arith)))
    (le_or-lt n (length xs))
