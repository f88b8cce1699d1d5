-- The laws of `add_at`. Assumes nothing.
use mathlib.Core.Path.{◌≡◌, sym, ap, ◌∙◌}
use mathlib.Core.List.{List, ◌++◌}
use Prim.Native.Nat.{ℕ, ◌+◌, ◌-◌, ◌≤◌, ◌<◌}
use native.Mathlib.Nat.{zero-add}
use native.Mathlib.Numerals.{add-one}
use native.Mathlib.Omega.{arith}
use lib.ListN.{length, get_or, take, set, replicate, length-append, length-take, length-replicate, get_or-eq_default}
use lib.Seq.{get_or-take, length-take-le}
use Rattle.rows.specs.Rows.{over, add_at, zeroed}
use Rattle.rows.proofs.Laws.{over-add_at, length-add_at_in, length-add_at-out}
use Rattle.rows.proofs.Adds.{over-self, over-zeroed, add_at_pad}

-- what `add_at` owes
abbrev pub Put : (xs : List ℕ) (n k v r : ℕ) (ys : List ℕ) → Type 0
Put xs n k v r ys = (r ≡ length (add_at k v (take n xs))) × (ys ≡ over (add_at k v (take n xs)) xs)

module _ (xs : List ℕ) (n k v : ℕ) (room : n ≤ length xs) (in-room : k < length xs) where
  len-n : length (take n xs) ≡ n
  len-n = length-take-le n xs room

  pub put_in : k < n → Put xs n k v n (set xs k (get_or xs k 0 + v))
  put_in h = (
    sym (length-add_at_in k v (take n xs) (rw len-n h) ∙ len-n),
    sym (over-add_at (take n xs) xs k v (rw len-n (omega arith)) in-room ∙ rw (over-self n xs room, get_or-take n xs k 0 h)),
  )

  pub put-out : n ≤ k → Put xs n k v (k + 1) (set (zeroed n k xs) k v)
  put-out h =
      let padded : List ℕ = take n xs ++ replicate (k - n) 0 in
      let len-padded : length padded ≡ k = simp (length-append, length-take, length-replicate) (omega arith) in (
        sym (rw add-one (length-add_at-out k v (take n xs) (rw len-n h))),
        sym (
            ap (λ (r : List ℕ). over r xs) (rw len-n at (add_at_pad k v (take n xs) (rw len-n h)))
            ∙ over-add_at padded xs k v (omega (arith, len-padded)) in-room
            ∙ rw (get_or-eq_default padded 0 {n = k} (omega (arith, len-padded)), zero-add, over-zeroed n k xs h (omega arith))
            ),
      )
