-- The lines of points that are one value, one by one. Assumes nothing.
use Prim.Native.Nat.{ℕ, suc, ◌+◌, ◌-◌, ◌≤◌, ◌<◌}
use mathlib.Core.Path.{◌≡◌, refl, sym, ap, ◌∙◌}
use mathlib.Core.List.{List, []}
use native.Mathlib.Omega.{arith}
use borrow.Author.Tests.{lt-ltb, le-ltb}
use lib.ListN.{length, get_or, take}
use Rattle.laws.proofs.Bools.{pick_true, pick-false}
use Rattle.lines.specs.Gathered.{Text, ◌behind◌}
use Rattle.lines.proofs.Gathering.{then}
use Rattle.sets.specs.Rows.{set_of}
use Rattle.printing.specs.Printed.{value_line, value_at, values_from}
use Rattle.printing.proofs.Putting.{nothing}

-- ---- by what is there

module _ (k : ℕ) (sets : List (List ℕ)) (values : List ℕ) where
  pub no_row : length sets ≤ k → [] ≡ value_at k sets values
  unfolding value_at
  no_row h = sym (pick-false _ _ _ (le-ltb k (length sets) h))

  module _ (h : k < length sets) where
    pub no_value : length values ≤ k → [] ≡ value_at k sets values
    unfolding value_at
    no_value l = sym (pick_true _ _ _ (lt-ltb k (length sets) h) ∙ pick-false _ _ _ (le-ltb k (length values) l))

    pub value_there : k < length values → value_line (take 8 (set_of (get_or sets k []))) (get_or values k 0) ≡ value_at k sets values
    unfolding value_at
    value_there l = sym (pick_true _ _ _ (lt-ltb k (length sets) h) ∙ pick_true _ _ _ (lt-ltb k (length values) l))

-- ---- one after another

pub values-start : (n : ℕ) (sets : List (List ℕ)) (values : List ℕ) (t : Text) → (values_from (n - 0) 0 sets values behind t) ≡ (values_from n 0 sets values behind t)
values-start n sets values t =
    let z : n - 0 ≡ n = omega arith in
    ap (λ (m : ℕ). values_from m 0 sets values behind t) z

module _ (n i : ℕ) (sets : List (List ℕ)) (values : List ℕ) (t : Text) where
  pub values-turn : {u : Text} → i < n → u ≡ (value_at i sets values behind t) → (values_from (n - (i + 1)) (i + 1) sets values behind u) ≡ (values_from (n - i) i sets values behind t)
  unfolding values_from
  values-turn {u} h p =
      let k : suc (n - (i + 1)) ≡ n - i = omega arith in
      then (value_at i sets values) (values_from (n - (i + 1)) (i + 1) sets values) t p refl
      ∙ ap (λ (m : ℕ). values_from m i sets values behind t) k

  pub values-end : n ≤ i → (values_from (n - i) i sets values behind t) ≡ t
  unfolding values_from
  values-end h =
      let z : n - i ≡ 0 = omega arith in
      ap (λ (m : ℕ). values_from m i sets values behind t) z ∙ sym (nothing t)
