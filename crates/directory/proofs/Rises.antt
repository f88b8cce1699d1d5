-- A directory that agrees is a map whose sets ascend. Assumes nothing.
use Rattle.std.specs.Prelude.{Ok, Err, Result}
use Rattle.std.proofs.Common.{◌≡◌, ℕ, zero, suc, ◌+◌, ◌<◌, ◌≤◌, true, false, ◌⊎◌, List, [], ◌∷◌, map, get_or, sym, refl, ap, ◌∙◌, subst, inl, inr, ⊎_elim, arith}
use Prim.Native.Nat.{Ordering}
use mathlib.Core.Option.{none, some}
use lib.Dec.{compare_is_eq}
use Rattle.laws.specs.Pick.{pick}
use Rattle.tally.specs.Sets.{Set, three, cmp, same, Rising, Above}
use Rattle.tally.specs.Kind.{Kind}
use Rattle.tally.specs.Map.{Entry, find, keys}
use Rattle.tally.proofs.Order.{gt-lt, lt_gt, same-flip}
use Rattle.tally.proofs.Rising.{above-trans, above-mem}
use Rattle.tally.proofs.Entries.{find_none}
use Rattle.tally.proofs.Ranks.{rank}
use Rattle.sets.specs.Rows.{span}
use Rattle.directory.specs.View.{Stores, set_at, seek, entry_at}

-- sets that rise from each place to the next, rise
pub rising-span : (f : ℕ → Set) (l : List ℕ) (i k : ℕ) → ((j : ℕ) → i ≤ j → suc j < i + k → cmp (f (get_or l j 0)) (f (get_or l (suc j) 0)) ≡ Ordering.lt) → Rising (map f (span l i k))
rising-span f l i zero h = tt
rising-span f l i (suc zero) h = (tt, tt)
rising-span f l i (suc (suc k)) h =
    let r = rising-span f l (suc i) (suc k) (λ j a b. h j (omega arith) (omega arith)) in
    let e = h i (omega arith) (omega arith) in
    ((e, above-trans (f (get_or l i 0)) (f (get_or l (suc i) 0)) (map f (span l (suc (suc i)) k)) e r.0), r)

pub above-span : (f : ℕ → Set) (s : Set) (l : List ℕ) (i k : ℕ) → ((j : ℕ) → i ≤ j → j < i + k → cmp s (f (get_or l j 0)) ≡ Ordering.lt) → Above s (map f (span l i k))
above-span f s l i zero h = tt
above-span f s l i (suc k) h = (h i (omega arith) (omega arith), above-span f s l (suc i) k (λ j a b. h j (omega arith) (omega arith)))

-- membership
abbrev pub In : ℕ → List ℕ → Type 0
In x [] = ⊥
In x (y ∷ l) = (x ≡ y) ⊎ In x l

-- what holds at each place holds of each slot
pub span_in : (P : ℕ → Type 0) (l : List ℕ) (i k : ℕ) → ((j : ℕ) → i ≤ j → j < i + k → P (get_or l j 0)) → (x : ℕ) → In x (span l i k) → P x
span_in P l i zero h x m = absurd m
span_in P l i (suc k) h x m =
    ⊎_elim (λ e. subst P (sym e) (h i (omega arith) (omega arith))) (λ n. span_in P l (suc i) k (λ j a b. h j (omega arith) (omega arith)) x n) m

module _ (K : Kind) (f : ℕ → K.Series) (st : Stores) where
  abbrev E : ℕ → Entry K
  E = entry_at K f st

  pub keys-map : (l : List ℕ) → keys K (map E l) ≡ map (set_at st.sets) l
  keys-map [] = refl
  keys-map (x ∷ l) = ap (λ r. set_at st.sets x ∷ r) (keys-map l)

-- what a search finds is there
held_inj : (x y : ℕ) → ◌≡◌ {A = Result ℕ ℕ} (Ok x) (Ok y) → x ≡ y
held_inj x y e = cc

room_inj : (x y : ℕ) → ◌≡◌ {A = Result ℕ ℕ} (Err x) (Err y) → x ≡ y
room_inj x y e = cc

room-not-held : {A : Type 0} (x y : ℕ) → ◌≡◌ {A = Result ℕ ℕ} (Err x) (Ok y) → A
room-not-held x y e = let z : ◌≡◌ {A = ℕ} 0 1 = cc in absurd (omega arith)

held-not-room : {A : Type 0} (x y : ℕ) → ◌≡◌ {A = Result ℕ ℕ} (Ok x) (Err y) → A
held-not-room x y e = let z : ◌≡◌ {A = ℕ} 0 1 = cc in absurd (omega arith)

module _ (K : Kind) (f : ℕ → K.Series) (st : Stores) (s : Set) where
  pub seek-held : (l : List ℕ) (i x : ℕ) → seek s st.sets l i ≡ Ok x → (In x l) × (find K s (map (entry_at K f st) l) ≡ some (entry_at K f st x))
  unfolding pick
  seek-held [] i x e = room-not-held i x e
  seek-held (y ∷ l) i x e = go (cmp s (set_at st.sets y)) refl e (seek-held l (suc i) x)
    where
      go : (o : Ordering) → cmp s (set_at st.sets y) ≡ o → three o (Err i) (Ok y) (seek s st.sets l (suc i)) ≡ Ok x
          → (seek s st.sets l (suc i) ≡ Ok x → (In x l) × (find K s (map (entry_at K f st) l) ≡ some (entry_at K f st x)))
          → (In x (y ∷ l)) × (find K s (map (entry_at K f st) (y ∷ l)) ≡ some (entry_at K f st x))
      go Ordering.lt d q ih = room-not-held i x q
      go Ordering.eq d q ih =
          let n : same (set_at st.sets y) s ≡ true = same-flip s (set_at st.sets y) ∙ ap compare_is_eq d in
          let z : y ≡ x = held_inj y x q in
          (inl (sym z), rw n (ap (λ k. some (entry_at K f st k)) z))
      go Ordering.gt d q ih =
          let n : same (set_at st.sets y) s ≡ false = ap compare_is_eq (gt-lt s (set_at st.sets y) d) in
          let r = ih q in
          (inr r.0, rw n r.1)

  -- and what it does not find is not, and would stand at that place
  pub seek-room : (l : List ℕ) (i r : ℕ) → Rising (map (set_at st.sets) l) → seek s st.sets l i ≡ Err r → (find K s (map (entry_at K f st) l) ≡ none) × (i + rank s (map (set_at st.sets) l) ≡ r)
  unfolding pick
  seek-room [] i r g e = (refl, let z : i ≡ r = room_inj i r e in omega arith)
  seek-room (y ∷ l) i r g e = go (cmp s (set_at st.sets y)) refl e (seek-room l (suc i) r g.1)
    where
      go : (o : Ordering) → cmp s (set_at st.sets y) ≡ o → three o (Err i) (Ok y) (seek s st.sets l (suc i)) ≡ Err r
          → (seek s st.sets l (suc i) ≡ Err r → (find K s (map (entry_at K f st) l) ≡ none) × (suc i + rank s (map (set_at st.sets) l) ≡ r))
          → (find K s (map (entry_at K f st) (y ∷ l)) ≡ none) × (i + three o 0 0 (suc (rank s (map (set_at st.sets) l))) ≡ r)
      go Ordering.lt d q ih =
          let n : same (set_at st.sets y) s ≡ false = ap compare_is_eq (lt_gt s (set_at st.sets y) d) in
          let a = above-mem s (map (set_at st.sets) l) (above-trans s (set_at st.sets y) (map (set_at st.sets) l) d g.0) in
          (rw n (find_none K s (map (entry_at K f st) l) (rw (keys-map K f st l) a)), let z : i ≡ r = room_inj i r q in omega arith)
      go Ordering.eq d q ih = held-not-room y r q
      go Ordering.gt d q ih =
          let n : same (set_at st.sets y) s ≡ false = ap compare_is_eq (gt-lt s (set_at st.sets y) d) in
          let w = ih q in
          (rw n w.0, omega (arith, w.1))
