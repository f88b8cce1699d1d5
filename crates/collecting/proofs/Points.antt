-- The map's points are those of the slots that are due, and its tests of agreement and of room are those of the slots. Assumes nothing.
use Prim.Native.Nat.{ℕ, zero, suc, ◌+◌, ◌≤◌}
use mathlib.Core.Path.{◌≡◌, refl, sym, ap, ◌∙◌}
use mathlib.Core.Logic.{inl, inr}
use mathlib.Core.Bool.{Bool, true, false, not, ◌&&◌, ◌||◌}
use mathlib.Core.List.{List, [], ◌∷◌, map}
use mathlib.Core.Option.{Option, none, some}
use native.Mathlib.Omega.{arith}
use lib.Dec.{leb, eqb, eqb-suc-zero}
use lib.ListN.{length, length-map, length-append}
use Rattle.laws.specs.Pick.{pick}
use Rattle.laws.specs.Lists.{only}
use Rattle.laws.specs.Tests.{all}
use Rattle.laws.specs.Counting.{sum}
use Rattle.laws.proofs.Bools.{and_left, and_right, pick_true, pick-false}
use Rattle.tally.specs.Kind.{Kind, Room, suffices}
use Rattle.tally.specs.Sets.{Set, same}
use Rattle.tally.specs.Map.{Entry, Points, points, sound, filled}
use Rattle.directory.specs.View.{Stores, set_at, entry_at, updated_in}
use Rattle.directory.proofs.Rises.{In}
use Rattle.seats.proofs.Recording.{or_fresh}
use Rattle.value_map.specs.Store.{Store}
use Rattle.value_map.specs.Calls.{Held}
use Rattle.value_map.proofs.Owed.{there, was}
use Rattle.collecting.specs.Lister.{Lister}
use Rattle.collecting.specs.Collected.{counts_of, roomy}
use Rattle.collecting.proofs.Owed.{Listed}
use Rattle.collecting.proofs.Back.{point_at}

-- ---- the points of entries that stand for slots: those that a test passes have a series
module _ (K : Kind) (z : K.Settings) (F : ℕ → Entry K) (set : ℕ → Set) (p : ℕ → Bool) (y : ℕ → K.Series) where
  abbrev Shows : ℕ → Type 0
  Shows x = ((F x).set ≡ set x) × ((F x).series ≡ pick (p x) (some (y x)) none)

  pub points-only : (l : List ℕ) → ((x : ℕ) → In x l → Shows x) → points K z (map F l) ≡ map (λ x. (set x, K.point z (y x))) (only p l)
  points-only [] g = refl
  points-only (x ∷ l) g = go (p x) refl (g x (inl refl)) (points-only l (λ q i. g q (inr i)))
    where
      one : Option K.Series → Set → Points K
      one o s = elim o [ none ↦ points K z (map F l) | some e ↦ (s, K.point z e) ∷ points K z (map F l) ]

      T : List ℕ → Points K
      T r = map (λ x. (set x, K.point z (y x))) r

      go : (b : Bool) → p x ≡ b → Shows x → points K z (map F l) ≡ map (λ x. (set x, K.point z (y x))) (only p l)
          → points K z (map F (x ∷ l)) ≡ map (λ x. (set x, K.point z (y x))) (only p (x ∷ l))
      go true e m ih =
          (λ i. one ((m.1 ∙ pick_true _ _ _ e) i) (m.0 i))
          ∙ ap (λ r. (set x, K.point z (y x)) ∷ r) ih
          ∙ sym (ap T (pick_true _ _ _ e))
      go false e m ih =
          (λ i. one ((m.1 ∙ pick-false _ _ _ e) i) (m.0 i))
          ∙ ih
          ∙ sym (ap T (pick-false _ _ _ e))

-- ---- a delta's entries, and a cumulative collection's, by whether the slot was updated
module _ (K : Kind) (z : K.Settings) (y : K.Series) where
  delta-series : (b n : Bool) → pick b (some y) none ≡ pick (b || (false && n)) (some (or_fresh K z (pick b (some y) none))) none
  unfolding pick
  delta-series true n = refl
  delta-series false n = refl

  root-series : (b : Bool) → pick b (some y) none ≡ pick (b || (true && false)) (some (or_fresh K z (pick b (some y) none))) none
  unfolding pick
  root-series true = refl
  root-series false = refl

  named-series : (b : Bool) → some (or_fresh K z (pick b (some y) none)) ≡ pick (b || (true && true)) (some (or_fresh K z (pick b (some y) none))) none
  unfolding pick
  named-series true = refl
  named-series false = refl

  sound-either : (b : Bool) → sound K z (pick b (some y) none) ≡ (not b || K.agrees z y)
  unfolding pick
  sound-either true = refl
  sound-either false = refl

module _ {K : Kind} (S : Store K) (w : S.Switches) (h : Held S.Cells) where
  abbrev f : ℕ → K.Series
  f = S.at h.cells

  abbrev z : K.Settings
  z = S.settings w

  abbrev s : Stores
  s = h.kept.stores

  abbrev u : ℕ → Bool
  u x = updated_in s.entries x

  pub delta-points : (l : List ℕ) → points K z (map (entry_at K f s) l) ≡ map (point_at S w h) (only (λ x. u x || (false && not (eqb x 0))) l)
  delta-points l =
      points-only K z (entry_at K f s) (set_at s.sets) (λ x. u x || (false && not (eqb x 0))) (λ x. was S w h.cells x (u x)) l
      (λ x i. (refl, delta-series K z (f x) (u x) (not (eqb x 0))))

  filled-shows : (x : ℕ) → (1 ≤ x → same (set_at s.sets x) [] ≡ false)
      → (filled K z (entry_at K f s x)).series ≡ pick (u x || (true && not (eqb x 0))) (some (was S w h.cells x (u x))) none
  unfolding pick
  filled-shows zero n = root-series K z (f 0) (u 0)
  filled-shows (suc x) n =
      pick-false _ _ _ (n (omega arith))
      ∙ named-series K z (f (suc x)) (u (suc x))
      ∙ sym (ap (λ b. pick (u (suc x) || (true && not b)) (some (was S w h.cells (suc x) (u (suc x)))) none) (eqb-suc-zero x))

  pub cumulative-points : (l : List ℕ) → ((x : ℕ) → In x l → 1 ≤ x → same (set_at s.sets x) [] ≡ false)
      → points K z (map (filled K z) (map (entry_at K f s) l)) ≡ map (point_at S w h) (only (λ x. u x || (true && not (eqb x 0))) l)
  cumulative-points l n =
      ap (points K z) (both l)
      ∙ points-only K z (λ x. filled K z (entry_at K f s x)) (set_at s.sets) (λ x. u x || (true && not (eqb x 0))) (λ x. was S w h.cells x (u x)) l
      (λ x i. (refl, filled-shows x (n x i)))
    where
      both : (r : List ℕ) → map (filled K z) (map (entry_at K f s) r) ≡ map (λ x. filled K z (entry_at K f s x)) r
      both [] = refl
      both (x ∷ r) = ap (λ t. filled K z (entry_at K f s x) ∷ t) (both r)

  -- agreement of the entries is that of the slots
  pub sound-all : (l : List ℕ) → all (λ e. sound K z e.series) (map (entry_at K f s) l) ≡ all (λ x. not (u x) || K.agrees z (f x)) l
  sound-all [] = refl
  sound-all (x ∷ l) = λ i. sound-either K z (f x) (u x) i && sound-all l i

  -- and of one that is among those that agree
  pub sound_in : (l : List ℕ) → all (λ x. not (u x) || K.agrees z (f x)) l ≡ true → (x : ℕ) → In x l → sound K z (there S h.cells x (u x)) ≡ true
  sound_in l a x i = sound-either K z (f x) (u x) ∙ all_in l a x i
    where
      all_in : (l : List ℕ) → all (λ x. not (u x) || K.agrees z (f x)) l ≡ true → (x : ℕ) → In x l → (not (u x) || K.agrees z (f x)) ≡ true
      all_in [] a x i = absurd i
      all_in (y ∷ l) a x (inl e) = ap (λ q. not (u q) || K.agrees z (f q)) e ∙ and_left (not (u y) || K.agrees z (f y)) (all (λ x. not (u x) || K.agrees z (f x)) l) a
      all_in (y ∷ l) a x (inr i) = all_in l (and_right (not (u y) || K.agrees z (f y)) (all (λ x. not (u x) || K.agrees z (f x)) l) a) x i

  -- ---- room
  module _ (L : Lister S) where
    pos-all : (l : List ℕ) → ((x : ℕ) → In x l → Listed L w h.cells x (u x)) → sum K.pos (map (λ p. p.1) (map (point_at S w h) l)) ≡ length (counts_of L.pos h l)
    pos-all [] g = refl
    pos-all (x ∷ l) g =
        (λ i. (g x (inl refl)).pos i + pos-all l (λ y m. g y (inr m)) i)
        ∙ sym (length-append (L.pos h.cells x (u x)) (counts_of L.pos h l))

    neg-all : (l : List ℕ) → ((x : ℕ) → In x l → Listed L w h.cells x (u x)) → sum K.neg (map (λ p. p.1) (map (point_at S w h) l)) ≡ length (counts_of L.neg h l)
    neg-all [] g = refl
    neg-all (x ∷ l) g =
        (λ i. (g x (inl refl)).neg i + neg-all l (λ y m. g y (inr m)) i)
        ∙ sym (length-append (L.neg h.cells x (u x)) (counts_of L.neg h l))

    pub room-is : (l : List ℕ) (r : Room) → ((x : ℕ) → In x l → Listed L w h.cells x (u x)) → suffices K r (map (λ p. p.1) (map (point_at S w h) l)) ≡ roomy L w h l r
    unfolding roomy
    room-is l r g =
        let n : length (map (λ p. p.1) (map (point_at S w h) l)) ≡ length l = length-map (map (point_at S w h) l) (λ p. p.1) ∙ length-map l (point_at S w h) in
        λ i. leb (n i) r.points && (leb (pos-all l g i) r.pos && leb (neg-all l g i) r.neg)
