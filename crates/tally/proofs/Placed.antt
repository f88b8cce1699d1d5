-- The entry that a call comes to, by cases. Assumes nothing.
use Prim.Native.Nat.{ℕ, suc, ◌≤◌, ◌<◌}
use mathlib.Core.Path.{◌≡◌, refl}
use mathlib.Core.Bool.{Bool, true, false}
use mathlib.Core.Option.{Option, none, some}
use native.Mathlib.Omega.{arith}
use lib.Dec.{ltb}
use borrow.Author.Tests.{ltb-true, ltb-false}
use Rattle.laws.specs.Pick.{pick}
use Rattle.tally.specs.Sets.{Set, overflow}
use Rattle.tally.specs.Kind.{Kind}
use Rattle.tally.specs.Map.{Entry, Map, find}
use Rattle.tally.proofs.MapSteps.{Place, new, held, place}

module _ (K : Kind) (m : Map K) where
  -- a new entry of the set s; the map's count is then n
  abbrev pub new_at : Set → ℕ → Place K
  new_at s n = record { entry = new K s (suc m.last); count = n; last = suc m.last }

  -- the set's own entry, held or made under the limit; or overflow's, held or made, and then not counted
  pub data Placed (limit : ℕ) (s : Set) (p : Place K) : Type 0 where
    held_own : (e : Entry K) → find K s m.entries ≡ some e → p ≡ held K m e → Placed limit s p
    made_own : find K s m.entries ≡ none → m.count < limit → p ≡ new_at s (suc m.count) → Placed limit s p
    held_over : (e : Entry K) → find K s m.entries ≡ none → limit ≤ m.count → find K overflow m.entries ≡ some e → p ≡ held K m e → Placed limit s p
    made_over : find K s m.entries ≡ none → limit ≤ m.count → find K overflow m.entries ≡ none → p ≡ new_at overflow m.count → Placed limit s p

  pub placed : (limit : ℕ) (s : Set) → Placed limit s (place K limit m s)
  unfolding place pick
  placed limit s = go (find K s m.entries) refl (ltb m.count limit) refl (find K overflow m.entries) refl
    where
      go : (x : Option (Entry K)) → find K s m.entries ≡ x → (b : Bool) → ltb m.count limit ≡ b → (y : Option (Entry K)) → find K overflow m.entries ≡ y → Placed limit s (place K limit m s)
      go (some e) f b q y i = held_own e f (rw f)
      go none f true q y i = made_own f (omega (arith, ltb-true m.count limit q)) (rw (f, q))
      go none f false q (some e) i = held_over e f (omega (arith, ltb-false m.count limit q)) i (rw (f, q, i))
      go none f false q none i = made_over f (omega (arith, ltb-false m.count limit q)) i (rw (f, q, i))
