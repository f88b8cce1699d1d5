-- The cases of the public calls: their refusals in order. Assumes nothing.
use Prim.Native.Nat.{ℕ, ◌≤◌, ◌<◌}
use mathlib.Core.Path.{◌≡◌, ap, ◌∙◌}
use mathlib.Core.Bool.{Bool, true, false}
use mathlib.Core.List.{List, [], ◌∷◌}
use mathlib.Core.Option.{Option, none}
use borrow.Author.Tests.{le-leb, lt-leb}
use lib.Dec.{leb}
use lib.ListN.{length, length-map, set}
use Rattle.laws.specs.Pick.{pick}
use Rattle.laws.specs.Said.{success}
use Rattle.tally.specs.Sets.{canonical}
use Rattle.sets.specs.Rows.{row_of}
use Rattle.sets.specs.Sorted.{attribute, given, most_attributes}
use Rattle.directory.specs.Calls.{most_sets, accepts, stores_suffice}
use Rattle.directory.specs.View.{Stores}
use Rattle.directory.specs.declared.Directory.{Directory}
use Rattle.bindings.specs.Calls.{refused, released_in, bound_in, fresh, started, bound, released}

-- a fresh start
module _ (limit : ℕ) (filter : Option (List ℕ)) (s : Stores) where
  pub start_4 : accepts limit filter ≡ false → started limit filter s ≡ refused 4 fresh s
  unfolding started pick
  start_4 e = rw e

  module _ (a : accepts limit filter ≡ true) where
    pub start_12 : stores_suffice limit s ≡ false → started limit filter s ≡ refused 12 fresh s
    unfolding started pick
    start_12 e = rw (a, e)

    pub start_0 : stores_suffice limit s ≡ true → started limit filter s
        ≡ record { answer = success none; kept = record { dir = fresh; stores = record { sets = s.sets; entries = set s.entries 0 (0 ∷ 0 ∷ 0 ∷ []); order = s.order } } }
    unfolding started pick
    start_0 e = rw (a, e)

-- binding, with attributes as they are lent
module _ (limit : ℕ) (filter : Option (List ℕ)) (d : Directory) (s : Stores) (l : List (List ℕ)) where
  long : length (given l) ≡ length l
  long = length-map l attribute

  pub bound_12 : stores_suffice limit s ≡ false → bound limit filter d s (given l) ≡ refused 12 d s
  unfolding bound pick
  bound_12 e = rw e

  -- the attributes are counted as they are given
  counted : (b : Bool) → leb (length l) most_attributes ≡ b → leb (length (given l)) most_attributes ≡ b
  counted b h = ap (λ (n : ℕ). leb n most_attributes) long ∙ h

  module _ (e : stores_suffice limit s ≡ true) where
    pub bound_5 : leb (length l) most_attributes ≡ false → bound limit filter d s (given l) ≡ refused 5 d s
    unfolding bound pick
    bound_5 h = rw (e, counted false h)

    module _ (h : leb (length l) most_attributes ≡ true) where
      pub bound_8 : accepts limit filter ≡ false → bound limit filter d s (given l) ≡ refused 8 d s
      unfolding bound pick
      bound_8 a = rw (e, counted true h, a)

      pub bound-on : accepts limit filter ≡ true → bound limit filter d s (given l) ≡ bound_in limit d s (row_of (canonical filter (given l)))
      unfolding bound pick
      bound-on a = rw (e, counted true h, a)

-- releasing
module _ (limit : ℕ) (d : Directory) (s : Stores) (h : ℕ) where
  pub released_12 : stores_suffice limit s ≡ false → released limit d s h ≡ refused 12 d s
  unfolding released pick
  released_12 e = rw e

  module _ (e : stores_suffice limit s ≡ true) where
    pub released_8 : most_sets < limit → released limit d s h ≡ refused 8 d s
    unfolding released pick
    released_8 k = rw (e, lt-leb limit most_sets k)

    pub released-on : limit ≤ most_sets → released limit d s h ≡ released_in limit d s h
    unfolding released pick
    released-on k = rw (e, le-leb limit most_sets k)
