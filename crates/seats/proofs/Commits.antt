-- What the code writes is `committed`. Assumes nothing.
use Prim.Native.Nat.{ℕ, ◌+◌, ◌<◌}
use mathlib.Core.Path.{◌≡◌, refl, ap, sym, subst, ◌∙◌}
use mathlib.Core.List.{List, [], ◌∷◌}
use native.Mathlib.Omega.{arith}
use lib.ListN.{length, length-set}
use Rattle.directory.specs.View.{Stores}
use Rattle.directory.specs.Calls.{Kept, over_row, admitted}
use Rattle.directory.specs.declared.Directory.{Directory}
use Rattle.directory.specs.declared.Target.TheVariants.{Disagrees, Old, New, Over}
use Rattle.seats.specs.Seats.{marked, marked_in, committed}
use Rattle.seats.specs.Inner.{Roomy}

-- a new entry, then marked
module _ (d : Directory) (s : Stores) (k : Kept) where
  abbrev pub Then : List (List ℕ) → Kept
  Then l = record { dir = k.dir; stores = record { sets = k.stores.sets; entries = l; order = k.stores.order } }

  module _ (row : List ℕ) (r more : ℕ) (e : k ≡ admitted d s row r more 0) where
    -- its slot is there
    pub made-there : Roomy d s r → k.dir.used < length k.stores.entries
    unfolding admitted
    made-there h =
        subst (λ (j : Kept). j.dir.used < length j.stores.entries) (sym e)
        (let p : d.used + 1 < length s.entries = h.entries in omega (arith, length-set s.entries (d.used + 1) ((d.last + 1) ∷ 0 ∷ 0 ∷ [])))

    pub made-marked : (l : List (List ℕ)) → l ≡ marked k.stores.entries k.dir.used → Then l ≡ marked_in (admitted d s row r more 0) (d.used + 1)
    unfolding admitted
    made-marked l p = ap Then p ∙ ap (λ (j : Kept). marked_in j j.dir.used) e

-- by cases
module _ (d : Directory) (s : Stores) (row : List ℕ) where
  pub commit-none : committed d s row Disagrees ≡ record { dir = d; stores = s }
  unfolding committed
  commit-none = refl

  pub commit-old : (x : ℕ) → committed d s row (Old x) ≡ marked_in (record { dir = d; stores = s }) x
  unfolding committed
  commit-old x = refl

  pub commit-new : (r : ℕ) → committed d s row (New r) ≡ marked_in (admitted d s row r 1 0) (d.used + 1)
  unfolding committed
  commit-new r = refl

  pub commit-over : (r : ℕ) → committed d s row (Over r) ≡ marked_in (admitted d s over_row r 0 0) (d.used + 1)
  unfolding committed
  commit-over r = refl
