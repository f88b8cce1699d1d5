-- The laws that a kind owes, and that merging owes, for demand 3 to hold. Assumes nothing.
use Prim.Native.Nat.{suc, ◌^◌, ◌≤◌, ◌<◌}
use mathlib.Core.Path.{◌≡◌}
use mathlib.Core.Bool.{true}
use mathlib.Core.List.{List, [], ◌∷◌, ◌++◌, Permᴰ}
use lib.ListN.{length}
use Rattle.laws.specs.Tests.{all}
use Rattle.tally.specs.Kind.{Kind, Room}
use Rattle.tally.proofs.Faithful.{Merging, fitting}

-- what a kind owes: some relation `Has` between a series and the values recorded into it, in order, with these laws
pub record Lawful (K : Kind) : Type 1 where
  pub Has : K.Settings → K.Series → List K.Value → Type 0
  pub fresh : (z : K.Settings) → K.valid z ≡ true → Has z (K.fresh z) []
  pub add : (z : K.Settings) (x : K.Series) (vs : List K.Value) (v : K.Value) → Has z x vs → K.finite v ≡ true
      → suc (K.total x) < 2 ^ 64 → K.allows z x v ≡ true → Has z (K.add z x v) (vs ++ v ∷ [])
  pub agrees : (z : K.Settings) (x : K.Series) (vs : List K.Value) → Has z x vs → K.agrees z x ≡ true
  pub total : (z : K.Settings) (x : K.Series) (vs : List K.Value) → Has z x vs → K.total x ≤ length vs
  pub allows : (z : K.Settings) (x : K.Series) (vs : List K.Value) (v : K.Value) → Has z x vs → K.finite v ≡ true
      → K.allows z x v ≡ K.allowed z vs v
  pub point : (z : K.Settings) (x : K.Series) (vs : List K.Value) → Has z x vs → K.point z x ≡ K.point_of z vs

-- what is asked of merging: the premise is one on the values as a bag, with its parts; a point handed out stands for its values; and
-- two points that stand for values merge, wherever there is room, to one that stands for both
pub record Mergeable (K : Kind) (M : Merging K) : Type 0 where
  pub parts : (vs ws : List K.Value) → M.Within (vs ++ ws) → M.Within vs × M.Within ws
  pub shuffled : (vs ws : List K.Value) → Permᴰ vs ws → M.Within vs → M.Within ws
  pub handed : (z : K.Settings) (vs : List K.Value) → K.valid z ≡ true → all K.finite vs ≡ true → length vs < 2 ^ 64 → M.Within vs → M.Stands z (K.point_of z vs) vs
  pub order : (z : K.Settings) (p : K.Point) (vs ws : List K.Value) → Permᴰ vs ws → M.Stands z p vs → M.Stands z p ws
  pub join : (z : K.Settings) (p q : K.Point) (vs ws : List K.Value) → all K.finite (vs ++ ws) ≡ true → length (vs ++ ws) < 2 ^ 64 → M.Within (vs ++ ws)
      → M.Stands z p vs → M.Stands z q ws
      → (r : K.Point) × M.Stands z r (vs ++ ws) × ((room : Room) → M.merge z p q room ≡ fitting K r room)
