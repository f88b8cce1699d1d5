-- One slot: what a survey finds there, and its point in the output. Assumes nothing.
use Prim.Native.Nat.{ℕ, zero, suc, ◌+◌}
use mathlib.Core.Path.{◌≡◌, refl, sym, ap, ◌∙◌}
use mathlib.Core.Bool.{Bool, true, false, not, ◌||◌}
use mathlib.Core.List.{List, [], ◌∷◌}
use native.Mathlib.Omega.{arith}
use lib.ListN.{get_or, set}
use lib.Ieee.{Float, nan}
use Rattle.laws.specs.Over.{over}
use Rattle.laws.specs.Pick.{pick}
use Rattle.laws.proofs.Bools.{pick_true, pick-false}
use Rattle.floats.specs.Answers.{bits_of}
use Rattle.listing.specs.Listed.{Output, over_at}
use Rattle.listing.specs.Inner.{Put, left}
use Rattle.collecting.specs.Slots.{unsound, one_more, surveyed_at, laid_at, put_slot}
use Rattle.collecting.specs.declared.Survey.{Survey}
use Rattle.singles.specs.declared.Aggregation.{Aggregation}
use Rattle.singles.specs.declared.Aggregation.TheVariants.{Sum}
use Rattle.singles.specs.Kinds.{holds}
use Rattle.singles.specs.Stores.{held_at}
use Rattle.singles.specs.Points.{as_words, single_lister}
use Rattle.singles.specs.Inner.{place}
use Rattle.singles.proofs.Owes.{holds-is}

-- ---- the survey

module _ (a : Aggregation) (u due : Bool) (c : List Float) (s : Survey) (x : ℕ) where
  abbrev pub after : Survey
  after = surveyed_at (single_lister a) tt u due c s x

  abbrev passes : Bool
  passes = holds a (held_at c x u)

  pub survey-none : passes ≡ false → unsound ≡ after
  unfolding surveyed_at
  survey-none p = sym (pick-false (not u || holds a (get_or c x nan)) _ unsound (sym (holds-is a c x u) ∙ p))

  module _ (p : passes ≡ true) where
    found : after ≡ pick due (one_more s 0 0) s
    unfolding surveyed_at
    found = pick_true (not u || holds a (get_or c x nan)) _ unsound (sym (holds-is a c x u) ∙ p)

    pub survey-idle : due ≡ false → s ≡ after
    survey-idle d = sym (found ∙ pick-false due _ s d)

    pub survey-due : due ≡ true → record { sound = true; points = s.points + 1; pos = s.pos; neg = s.neg } ≡ after
    survey-due d =
        let p : s.pos ≡ s.pos + 0 = omega arith in
        let n : s.neg ≡ s.neg + 0 = omega arith in
        (λ j. record { sound = true; points = s.points + 1; pos = p j; neg = n j }) ∙ sym (found ∙ pick_true due _ s d)

-- ---- the output

-- a value put among values is a word put among words
words-set : (values : List ℕ) (i b : ℕ) → as_words (set values i b) ≡ set (as_words values) i (b ∷ [])
words-set [] i b = refl
words-set (v ∷ values) zero b = refl
words-set (v ∷ values) (suc i) b = ap (λ (l : List (List ℕ)). (v ∷ []) ∷ l) (words-set values i b)

module _ (u due : Bool) (c : List Float) (x : ℕ) (row : List ℕ) (at : ℕ) (sets : List (List ℕ)) (values : List ℕ) where
  abbrev out : List (List ℕ) → List ℕ → Output
  out sets values = record { sets = sets; words = as_words values; pos = []; neg = [] }

  abbrev pub putting : Put
  putting = put_slot (single_lister Sum) tt u due c x row (place at) (out sets values)

  pub put-none : due ≡ false → left (place at) (out sets values) ≡ putting
  unfolding put_slot
  put-none d = sym (pick-false due _ (left (place at) (out sets values)) d)

  pub put_some : due ≡ true → (b : ℕ) → b ≡ bits_of (held_at c x u) → left (place (at + 1)) (out (set sets at row) (set values at b)) ≡ putting
  unfolding put_slot laid_at over_at over
  put_some d b e =
      (λ j. left (place (at + 1)) (record { sets = set sets at row; words = words-set values at (e j) j; pos = []; neg = [] }))
      ∙ sym (pick_true due _ (left (place at) (out sets values)) d)
