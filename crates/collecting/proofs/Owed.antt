-- WHAT A KIND OWES of its points in lent output: they read back as the points of its series. Assumes nothing.
use Prim.Native.Nat.{ℕ}
use mathlib.Core.Path.{◌≡◌}
use mathlib.Core.Bool.{Bool, true}
use mathlib.Core.List.{List}
use mathlib.Core.Option.{Option, some}
use lib.ListN.{length}
use Rattle.tally.specs.Kind.{Kind}
use Rattle.tally.specs.Map.{sound}
use Rattle.value_map.specs.Store.{Store}
use Rattle.value_map.proofs.Owed.{there, was}
use Rattle.listing.specs.Listed.{Output}
use Rattle.listing.specs.declared.Cursor.{Cursor}
use Rattle.listing.proofs.There.{Lies}
use Rattle.collecting.specs.Lister.{Lister}
use Rattle.collecting.specs.Slots.{behind_at}

-- a reader finds x where words and counts lie, and the next cursor behind them
abbrev pub Finds : {A : Type 0} → (Cursor → Output → Option (A × Cursor)) → List ℕ → List ℕ → List ℕ → A → Type 0
Finds found ws ps ns x = (at : Cursor) (o : Output) → Lies at ws ps ns o → found at o ≡ some (x, behind_at at (length ps) (length ns))

module _ {K : Kind} {S : Store K} (L : Lister S) where
  -- the point of slot x, whose entry was updated or not
  pub record Listed (w : S.Switches) (c : S.Cells) (x : ℕ) (u : Bool) : Type 0 where
    pub found : Finds L.found (L.words w c x u) (L.pos c x u) (L.neg c x u) (K.point (S.settings w) (was S w c x u))
    -- and it takes as many places as the kind says
    pub pos : K.pos (K.point (S.settings w) (was S w c x u)) ≡ length (L.pos c x u)
    pub neg : K.neg (K.point (S.settings w) (was S w c x u)) ≡ length (L.neg c x u)

  -- of every slot of cells that can be lent that lies in them and whose series agrees, if it holds one
  abbrev pub Lists : S.Switches → Type 0
  Lists w =
      (c : S.Cells) (x : ℕ) (u : Bool) → S.unset ≡ 0 → L.Lent c → S.Room c x
      → sound K (S.settings w) (there S c x u) ≡ true → Listed w c x u
