-- The state after a line with many values, from what its call is given, and which call a line makes. Assumes nothing.
use Prim.Native.Nat.{ℕ}
use mathlib.Core.Path.{◌≡◌, sym, ap, ◌∙◌}
use mathlib.Core.Bool.{Bool, true, false}
use mathlib.Core.List.{List}
use mathlib.Core.Option.{Option}
use lib.Dec.{eqb}
use lib.ListN.{take}
use lib.Ieee.{Float}
use borrow.Author.Tests.{eq-eqb, ne_eqb}
use Rattle.laws.specs.Pick.{pick}
use Rattle.laws.proofs.Bools.{pick_true, pick-false}
use Rattle.many.specs.Many.{Many}
use Rattle.tally.specs.Kind.{Kind}
use Rattle.tally.specs.Sets.{Set}
use Rattle.sets.specs.Sorted.{given, filter_of}
use Rattle.directory.specs.View.{Stores}
use Rattle.explicit_slots.specs.Cells.{Cells}
use Rattle.value_map.specs.Store.{Store}
use Rattle.value_map.specs.Calls.{Held, held}
use Rattle.value_map.specs.Explicit.{explicit_store}
use Rattle.singles.specs.Stores.{single_store}
use Rattle.singles.specs.declared.Aggregation.{Aggregation}
use Rattle.batches.specs.Batch.{measured_all, measured_all_by}
use Rattle.replay_state.specs.declared.State.{State}
use Rattle.replay_state.specs.After.{field}
use Rattle.replay_batches.specs.Batched.{batched, batched_as, after_all, after_all_by}

-- ---- the calls

module _ {K : Kind} (S : Store K) (s : State) (d d' : Stores) (c c' : S.Cells) (vs vs' : List K.Value)
    (p : d ≡ d') (r : c ≡ c') (w : vs ≡ vs') where
  pub takes_all : (attrs attrs' : List (List ℕ)) (keys : List ℕ) → attrs ≡ attrs' → keys ≡ take s.keys s.filter
      → (x : Many (Held S.Cells)) → x ≡ measured_all S s.limit (filter_of s.filtered keys) (held s.dir d c) vs (given attrs)
      → batched s x ≡ after_all S s vs' (given attrs') d' c'
  unfolding after_all
  takes_all attrs attrs' keys t f x e =
      ap (batched s) e
      ∙ (λ i. batched s (measured_all S s.limit (filter_of s.filtered (f i)) (held s.dir (p i) (r i)) (w i) (given (t i))))

  pub takes-all-by : (x : Many (Held S.Cells)) → x ≡ measured_all_by S s.limit (held s.dir d c) vs (field s 1)
      → batched s x ≡ after_all_by S s vs' d' c'
  unfolding after_all_by
  takes-all-by x e = ap (batched s) e ∙ (λ i. batched s (measured_all_by S s.limit (held s.dir (p i) (r i)) (w i) (field s 1)))

-- ---- by a line's kind and letter

module _ {mine : Bool} (s r h : State) where
  pub batches-none : mine ≡ false → s ≡ batched_as mine s r h
  unfolding batched_as
  batches-none k = sym (pick-false mine _ s k)

  module _ (k : mine ≡ true) where
    batches : (x : State) → pick (eqb s.letter 82) r (pick (eqb s.letter 72) h s) ≡ x → x ≡ batched_as mine s r h
    unfolding batched_as
    batches x e = sym (pick_true mine _ s k ∙ e)

    pub batches-set : s.letter ≡ 82 → r ≡ batched_as mine s r h
    batches-set l = batches r (pick_true (eqb s.letter 82) r _ (eq-eqb _ _ l))

    pub batches-handle : s.letter ≡ 72 → h ≡ batched_as mine s r h
    batches-handle l =
        batches h (pick-false (eqb s.letter 82) r _ (ap (λ (n : ℕ). eqb n 82) l) ∙ pick_true (eqb s.letter 72) h s (eq-eqb _ _ l))

    pub batches-other : (s.letter ≡ 82 → ⊥) → (s.letter ≡ 72 → ⊥) → s ≡ batched_as mine s r h
    batches-other x y =
        batches s (pick-false (eqb s.letter 82) r _ (ne_eqb _ _ x) ∙ pick-false (eqb s.letter 72) h s (ne_eqb _ _ y))

-- ---- sums and last values: of which of the two kinds the store is

module _ {a a' : Aggregation} (k : a ≡ a') (limit : ℕ) where
  pub of_aggregation : (filter : Option (List ℕ)) (h : Held (List Float)) (vs : List Float) (attrs : Set)
      → measured_all (single_store a) limit filter h vs attrs ≡ measured_all (single_store a') limit filter h vs attrs
  of_aggregation filter h vs attrs = ap (λ (b : Aggregation). measured_all (single_store b) limit filter h vs attrs) k

  pub of_aggregation-by : (h : Held (List Float)) (vs : List Float) (handle : ℕ)
      → measured_all_by (single_store a) limit h vs handle ≡ measured_all_by (single_store a') limit h vs handle
  of_aggregation-by h vs handle = ap (λ (b : Aggregation). measured_all_by (single_store b) limit h vs handle) k

-- ---- the explicit kind: the bounds of the store

module _ {b b' : List Float} (k : b ≡ b') (limit : ℕ) where
  pub of-bounds : (filter : Option (List ℕ)) (h : Held Cells) (vs : List Float) (attrs : Set)
      → measured_all (explicit_store b) limit filter h vs attrs ≡ measured_all (explicit_store b') limit filter h vs attrs
  of-bounds filter h vs attrs = ap (λ (x : List Float). measured_all (explicit_store x) limit filter h vs attrs) k

  pub of-bounds-by : (h : Held Cells) (vs : List Float) (handle : ℕ)
      → measured_all_by (explicit_store b) limit h vs handle ≡ measured_all_by (explicit_store b') limit h vs handle
  of-bounds-by h vs handle = ap (λ (x : List Float). measured_all_by (explicit_store x) limit h vs handle) k
