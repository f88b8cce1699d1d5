-- The two cases of a line that binds or releases, from what the calls are given. Assumes nothing.
use Prim.Native.Nat.{ℕ}
use mathlib.Core.Path.{◌≡◌, sym, ap, ◌∙◌}
use mathlib.Core.Bool.{Bool, true, false}
use mathlib.Core.List.{List}
use lib.Dec.{eqb}
use lib.ListN.{take}
use Rattle.laws.specs.Pick.{pick}
use Rattle.tally.specs.Sets.{Set}
use Rattle.sets.specs.Sorted.{given, filter_of}
use Rattle.directory.specs.View.{Stores}
use Rattle.bindings.specs.Calls.{Outcome, bound, released}
use Rattle.replay_state.specs.declared.State.{State}
use Rattle.replay_state.specs.After.{field}
use Rattle.replay_state.specs.Bound.{filter_in, after, after_bound}

abbrev three : List (List ℕ) → List (List ℕ) → List ℕ → Stores
three sets entries order = record { sets = sets; entries = entries; order = order }

module _ (s : State) (sets sets' entries entries' : List (List ℕ)) (order order' : List ℕ)
    (p : sets ≡ sets') (q : entries ≡ entries') (o : order ≡ order') where
  pub binds : (attrs attrs' : List (List ℕ)) (keys : List ℕ) → attrs ≡ attrs' → keys ≡ take s.keys s.filter → eqb s.letter 98 ≡ true
      → (x : Outcome) → x ≡ bound s.limit (filter_of s.filtered keys) s.dir (three sets entries order) (given attrs)
      → after s x ≡ after_bound s (given attrs') (three sets' entries' order')
  unfolding after_bound pick
  binds attrs attrs' keys a k b x e =
      ap (after s) e
      ∙ (λ i. after s (bound s.limit (filter_of s.filtered (k i)) s.dir (three (p i) (q i) (o i)) (given (a i))))
      ∙ sym (ap (λ (t : Bool). pick t (after s (bound s.limit (filter_in s) s.dir (three sets' entries' order') (given attrs')))
      (after s (released s.limit s.dir (three sets' entries' order') (field s 1)))) b)

  pub releases : (attrs : Set) → eqb s.letter 98 ≡ false
      → (x : Outcome) → x ≡ released s.limit s.dir (three sets entries order) (field s 1)
      → after s x ≡ after_bound s attrs (three sets' entries' order')
  unfolding after_bound pick
  releases attrs b x e =
      ap (after s) e
      ∙ (λ i. after s (released s.limit s.dir (three (p i) (q i) (o i)) (field s 1)))
      ∙ sym (ap (λ (t : Bool). pick t (after s (bound s.limit (filter_in s) s.dir (three sets' entries' order') attrs))
      (after s (released s.limit s.dir (three sets' entries' order') (field s 1)))) b)
