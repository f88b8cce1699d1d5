-- What is put is the same for every aggregation: output that can take its points can take those of sums. Assumes nothing.
use Prim.Native.Nat.{ℕ}
use mathlib.Core.Path.{◌≡◌, refl}
use mathlib.Core.Bool.{Bool, true, false, not, ◌||◌}
use mathlib.Core.List.{List, [], ◌∷◌}
use lib.ListN.{length, length-map}
use lib.Ieee.{Float}
use Rattle.laws.specs.Tests.{all}
use Rattle.directory.specs.View.{updated_in}
use Rattle.value_map.specs.Calls.{Held}
use Rattle.listing.specs.Listed.{Output}
use Rattle.collecting.specs.Collected.{slots_of, roomy}
use Rattle.collecting.specs.Slots.{Walk, Listable}
use Rattle.singles.specs.Stores.{single_store}
use Rattle.singles.specs.Points.{as_words, single_lister}
use Rattle.singles.specs.declared.Aggregation.{Aggregation}
use Rattle.singles.specs.declared.Aggregation.TheVariants.{Sum}

-- any f64 may be held as a sum
or-true : (b : Bool) → (b || true) ≡ true
or-true true = refl
or-true false = refl

all_true : (p : ℕ → Bool) (l : List ℕ) → all (λ x. p x || true) l ≡ true
all_true p [] = refl
all_true p (x ∷ l) = rw (or-true (p x)) (all_true p l)

module _ (a : Aggregation) (c : Bool) (h : Held (List Float)) (o : Output) (g : Listable (single_lister a) tt c h o) where
  walk-sums : Walk (single_store Sum) h
  walk-sums =
      let w = g.walk in
      record { set = w.set; most = w.most; order = w.order; entries = w.entries; slots = w.slots; room = w.room }

  pub listable-sums : Listable (single_lister Sum) tt c h o
  unfolding roomy
  listable-sums =
      let k = h.kept in
      record { walk = walk-sums; sets = g.sets; agrees = all_true (λ x. not (updated_in k.stores.entries x)) (slots_of k); room = g.room }

-- a place for a value is a place for a word
pub words_long : (values : List ℕ) → length (as_words values) ≡ length values
words_long values = length-map values (λ b. b ∷ [])
