-- A slot that was asked for its first value's number, unless its series is known to agree: it is ready, or that number stops all. For any
-- kind that pays what it owes. Assumes nothing.
use Prim.Native.Nat.{ℕ, ◌<◌}
use mathlib.Core.Path.{◌≡◌, sym, ◌∙◌}
use mathlib.Core.Logic.{⊎_elim}
use mathlib.Core.Bool.{Bool, true, false}
use mathlib.Core.List.{List, [], ◌∷◌}
use native.Mathlib.Omega.{arith}
use lib.ListN.{length, get_or}
use Rattle.laws.specs.Pick.{pick}
use Rattle.laws.proofs.Bools.{flag, pick_true, pick-false}
use Rattle.many.specs.Many.{stopped}
use Rattle.tally.specs.Kind.{Kind}
use Rattle.value_map.specs.Store.{Store}
use Rattle.value_map.proofs.Owed.{Owed}
use Rattle.batches.specs.Inner.{recorded_all}
use Rattle.batches.specs.Asked.{Asked}
use Rattle.batches.proofs.Slotted.{Ready, ready_if, first_stops}

module _ {K : Kind} {S : Store K} (W : Owed S) (w : S.Switches) (nought : K.Value) (known : Bool) (x : ℕ) (u : Bool) (c : S.Cells) (vs : List K.Value)
    (a : Asked S w nought known x u c vs) (n : ℕ) (e : n ≡ pick known 0 (S.recorded x u c (get_or vs 0 nought)).no) where
  abbrev no : ℕ
  no = (S.recorded x u c (get_or vs 0 nought)).no

  pub asked-ready : n ≡ 0 → Ready S w x u c
  asked-ready z =
      ⊎_elim
      (λ (k : known ≡ true). record { set = a.set; room = a.room; series = a.series k })
      (λ (k : known ≡ false).
      let m : no ≡ 0 = sym (pick-false known 0 no k) ∙ sym e ∙ z in
      ready_if W w x u c a.set a.room (get_or vs 0 nought) a.first (λ i. omega (arith, m, i)))
      (flag known)

  pub asked-stops : (n ≡ 0 → ⊥) → stopped n c ≡ recorded_all S x u c vs
  asked-stops d =
      ⊎_elim
      (λ (k : known ≡ true). absurd (d (e ∙ pick_true known 0 no k)))
      (λ (k : known ≡ false). stops vs a.some a.first (sym (pick-false known 0 no k) ∙ sym e))
      (flag known)
    where
      stops : (l : List K.Value) → 0 < length l → K.finite (get_or l 0 nought) ≡ true → (S.recorded x u c (get_or l 0 nought)).no ≡ n → stopped n c ≡ recorded_all S x u c l
      stops [] s f m = absurd (omega (arith, s))
      stops (v ∷ l) s f m = sym (first_stops S x u c v l W f n m d)
