-- The survey of the slots: what a turn adds to it, and what it comes to. Assumes nothing.
use Prim.Native.Nat.{ℕ, suc, ◌+◌, ◌≤◌, ◌<◌}
use mathlib.Core.Path.{◌≡◌, refl, sym, ap, ◌∙◌}
use mathlib.Core.Bool.{Bool, true, false, not, ◌&&◌, ◌||◌}
use mathlib.Core.List.{List, [], ◌∷◌, ◌++◌, append_assoc, append-nil}
use native.Mathlib.Omega.{arith}
use lib.ListN.{length, get_or, take, length-append}
use Rattle.laws.specs.Lists.{only}
use Rattle.laws.specs.Pick.{pick}
use Rattle.laws.specs.Tests.{all}
use Rattle.laws.proofs.Bools.{pick_true, pick-false}
use Rattle.laws.proofs.Cases.{true-not-false}
use Rattle.tally.specs.Kind.{Kind}
use Rattle.directory.specs.Calls.{Kept}
use Rattle.directory.specs.View.{updated_in}
use Rattle.value_map.specs.Store.{Store}
use Rattle.value_map.specs.Calls.{Held}
use Rattle.collecting.specs.Lister.{Lister}
use Rattle.collecting.specs.Collected.{slots_of, due, due_of, counts_of, agreeing}
use Rattle.collecting.specs.Slots.{unsound, one_more, walked, surveyed_at, counted, surveyed}
use Rattle.collecting.specs.declared.Survey.{Survey}
use Rattle.collecting.proofs.Nexts.{slots_length, slots-all, only_yes, only_no, all-next, all-stop}

sound-test : (b d : Bool) (s : Survey) (p n : ℕ) → s.sound ≡ true → (pick b (pick d (one_more s p n) s) unsound).sound ≡ b
unfolding pick
sound-test true true s p n e = refl
sound-test true false s p n e = e
sound-test false d s p n e = refl

sound-yes : (b d : Bool) (s : Survey) (p n : ℕ) → (pick b (pick d (one_more s p n) s) unsound).sound ≡ true → b ≡ true
unfolding pick
sound-yes true d s p n e = refl
sound-yes false d s p n e = e

-- the counts of slots in one store
module _ {Cells : Type 0} (counts : Cells → ℕ → Bool → List ℕ) (h : Held Cells) where
  abbrev cs : ℕ → List ℕ
  cs x = counts h.cells x (updated_in h.kept.stores.entries x)

  pub counts_append : (a c : List ℕ) → counts_of counts h (a ++ c) ≡ counts_of counts h a ++ counts_of counts h c
  counts_append [] c = refl
  counts_append (x ∷ a) c = ap (λ (t : List ℕ). cs x ++ t) (counts_append a c) ∙ sym (append_assoc (cs x) (counts_of counts h a) (counts_of counts h c))

  pub counts-snoc : (a : List ℕ) (x : ℕ) → counts_of counts h (a ++ (x ∷ [])) ≡ counts_of counts h a ++ cs x
  counts-snoc a x = counts_append a (x ∷ []) ∙ ap (λ (t : List ℕ). counts_of counts h a ++ t) (append-nil (cs x))

  pub counts-more : (l : List ℕ) (x : ℕ) → length (counts_of counts h l) + length (cs x) ≡ length (counts_of counts h (l ++ (x ∷ [])))
  counts-more l x = sym (ap length (counts-snoc l x) ∙ length-append (counts_of counts h l) (cs x))

  -- a walk reads the slots, their entries and the cells, and nothing else of the map
  pub counts-walked : (sets : List (List ℕ)) (l : List ℕ)
      → counts_of counts (walked h.kept.dir.used sets h.kept.stores.entries h.kept.stores.order h.cells) l ≡ counts_of counts h l
  counts-walked sets [] = refl
  counts-walked sets (x ∷ l) = ap (λ (t : List ℕ). cs x ++ t) (counts-walked sets l)

module _ {K : Kind} {S : Store K} (L : Lister S) (w : S.Switches) (h : Held S.Cells) where
  abbrev k : Kept
  k = h.kept

  abbrev used : ℕ
  used = h.kept.dir.used

  abbrev slots : List ℕ
  slots = slots_of h.kept

  abbrev u : ℕ → Bool
  u x = updated_in h.kept.stores.entries x

  -- a series that is held agrees
  abbrev pub agreed : ℕ → Bool
  agreed x = not (updated_in h.kept.stores.entries x) || K.agrees (S.settings w) (S.at h.cells x)

  abbrev ps : ℕ → List ℕ
  ps x = L.pos h.cells x (updated_in h.kept.stores.entries x)

  abbrev ns : ℕ → List ℕ
  ns x = L.neg h.cells x (updated_in h.kept.stores.entries x)

  pub in-slots : (i : ℕ) → i ≤ used → i < length slots
  in-slots i n = omega (arith, slots_length h.kept.stores.order used)

  -- where all agree, so does each
  pub agree_at : agreeing L w h ≡ true → (i : ℕ) → i ≤ used → agreed (get_or (slots_of h.kept) i 0) ≡ true
  agree_at a i n = go (agreed (get_or slots i 0)) refl
    where
      go : (b : Bool) → agreed (get_or slots i 0) ≡ b → b ≡ true
      go true e = refl
      go false e = true-not-false (sym a ∙ all-stop agreed slots i (in-slots i n) e)

  -- a slot more that is due
  abbrev tally : List ℕ → Survey
  tally l = record { sound = true; points = length l; pos = length (counts_of L.pos h l); neg = length (counts_of L.neg h l) }

  pub points-more : (l : List ℕ) (x : ℕ) → length l + 1 ≡ length (l ++ (x ∷ []))
  points-more l x = sym (length-append l (x ∷ []))

  tally-more : (l : List ℕ) (x : ℕ) → one_more (tally l) (length (ps x)) (length (ns x)) ≡ tally (l ++ (x ∷ []))
  tally-more l x = λ j. record { sound = true; points = points-more l x j; pos = counts-more L.pos h l x j; neg = counts-more L.neg h l x j }

  -- the map as a walk reads it
  abbrev read : List (List ℕ) → Held S.Cells
  read sets = walked used sets h.kept.stores.entries h.kept.stores.order h.cells

  -- nor does it read the switches, but to see whether series agree
  module _ (v : S.Switches) (sets : List (List ℕ)) where
    pub all-walked : ((x : ℕ) → K.agrees (S.settings v) (S.at h.cells x) ≡ K.agrees (S.settings w) (S.at h.cells x)) → (l : List ℕ)
        → all (λ x. not (u x) || K.agrees (S.settings v) (S.at h.cells x)) l ≡ all agreed l
    all-walked e [] = refl
    all-walked e (x ∷ l) = λ j. (not (u x) || e x j) && all-walked e l j

  module _ (cumulative : Bool) where
    module _ (i : ℕ) (n : i ≤ used) where
      abbrev x : ℕ
      x = get_or (slots_of h.kept) i 0

      -- ONE SLOT MORE, whose series agrees if there is one
      pub survey-turn : agreed x ≡ true
          → surveyed_at L w (u x) (due cumulative k x) h.cells (counted L w cumulative h (take i slots)) x ≡ counted L w cumulative h (take (suc i) slots)
      unfolding surveyed_at
      survey-turn a = pick_true (agreed x) _ unsound a ∙ go (due cumulative k x) refl
        where
          go : (b : Bool) → due cumulative k x ≡ b
              → pick (due cumulative k x) (one_more (tally (only (due cumulative k) (take i slots))) (length (ps x)) (length (ns x))) (tally (only (due cumulative k) (take i slots)))
              ≡ tally (only (due cumulative k) (take (suc i) slots))
          go true e = pick_true (due cumulative k x) _ _ e ∙ tally-more (only (due cumulative k) (take i slots)) x ∙ ap tally (sym (only_yes (due cumulative k) slots i (in-slots i n) e))
          go false e = pick-false (due cumulative k x) _ _ e ∙ ap tally (sym (only_no (due cumulative k) slots i (in-slots i n) e))

      pub agree-turn : all agreed (take i slots) ≡ true → agreed x ≡ true → all agreed (take (suc i) slots) ≡ true
      agree-turn a e = all-next agreed slots i (in-slots i n) a e

      -- A SLOT THAT DISAGREES ends it
      pub survey-none : agreed x ≡ false → surveyed L w cumulative h ≡ unsound
      unfolding surveyed
      survey-none e = pick-false (agreeing L w h) _ unsound (all-stop agreed slots i (in-slots i n) e)

    -- what the survey with one slot more says of it
    module _ (s : Survey) (x : ℕ) where
      pub turn-sound : (surveyed_at L w (u x) (due cumulative k x) h.cells s x).sound ≡ true → agreed x ≡ true
      unfolding surveyed_at
      turn-sound e = sound-yes (agreed x) (due cumulative k x) s (length (ps x)) (length (ns x)) e

      pub turn-unsound : s.sound ≡ true → (surveyed_at L w (u x) (due cumulative k x) h.cells s x).sound ≡ false → agreed x ≡ false
      unfolding surveyed_at
      turn-unsound a e = sym (sound-test (agreed x) (due cumulative k x) s (length (ps x)) (length (ns x)) a) ∙ e

    -- ALL SLOTS
    pub survey-all : all agreed (take (suc used) slots) ≡ true → surveyed L w cumulative h ≡ counted L w cumulative h (take (suc used) slots)
    unfolding surveyed
    survey-all a =
        let e = slots-all h.kept.stores.order used in
        pick_true (agreeing L w h) (counted L w cumulative h slots) unsound (sym (ap (all agreed) e) ∙ a) ∙ ap (λ (l : List ℕ). counted L w cumulative h l) (sym e)

    pub survey-walked : (v : S.Switches) (sets : List (List ℕ))
        → ((x : ℕ) → K.agrees (S.settings v) (S.at h.cells x) ≡ K.agrees (S.settings w) (S.at h.cells x))
        → surveyed L v cumulative (read sets) ≡ surveyed L w cumulative h
    unfolding surveyed
    survey-walked v sets e =
        let l = due_of cumulative h.kept in
        λ j.
        pick (all-walked v sets e slots j)
        (record { sound = true; points = length l; pos = length (counts-walked L.pos h sets l j); neg = length (counts-walked L.neg h sets l j) }) unsound
