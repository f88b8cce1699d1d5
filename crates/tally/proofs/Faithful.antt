-- FAITHFUL CODE, whose calls do the map's steps, and demand 3 of any such code of any kind. Assumes nothing.
use Prim.Native.Nat.{ℕ, ◌<◌}
use mathlib.Core.Path.{◌≡◌}
use mathlib.Core.Bool.{true}
use mathlib.Core.Logic.{◌⊎◌, inl, inr}
use mathlib.Core.List.{List, [], ◌∷◌, Permᴰ}
use lib.ListN.{length}
use Rattle.laws.specs.Pick.{pick}
use Rattle.tally.specs.Sets.{Set}
use Rattle.tally.specs.Kind.{Kind, Room, suffices}
use Rattle.tally.specs.Map.{Config, Call, Answer, Map, Agrees}
use Rattle.tally.proofs.MapSteps.{start, step}
use Rattle.tally.specs.Demand.{Answered, Code, Premise, any, asked, gained, points_of, ran}

module _ (K : Kind) where
  -- MERGING. Within: a premise on the values (none over f64; L6: the magnitudes total at most 2^63 - 1);
  -- Stands: the point has what demand 3 names as document 01 defines it from the values;
  -- merge: two points merged under the settings into lent output, a refusal's number or the merged point
  pub record Merging : Type 1 where
    pub Within : List K.Value → Type 0
    pub Stands : K.Settings → K.Point → List K.Value → Type 0
    pub merge : K.Settings → K.Point → K.Point → Room → ℕ ⊎ K.Point

  -- the point r, wherever there is room for it, and 10 wherever there is not
  abbrev pub fitting : K.Point → Room → ℕ ⊎ K.Point
  fitting r room = pick (suffices K room (r ∷ [])) (inr r) (inl 10)

  -- "Points enter merges as handed out; a lone one stays. A merge is refused only with 10, and repeated with longer output." The points
  -- qs merged into p one by one: each merge is answered, in all the room that suffices, and the last point stands for vs.
  abbrev pub Folds : Merging → K.Settings → K.Point → List K.Point → List K.Value → Type 0
  Folds M z p [] vs = M.Stands z p vs
  Folds M z p (q ∷ qs) vs =
      (r : K.Point) × ((room : Room) → M.merge z p q room ≡ fitting r room) × Folds M z r qs vs

  -- "its points merged one by one in any order"
  pub record Merged (M : Merging) (z : K.Settings) (ps : List K.Point) (vs : List K.Value) : Type 0 where
    pub there : 0 < length ps
    pub folds : (q : K.Point) (qs : List K.Point) → Permᴰ ps (q ∷ qs) → Folds M z q qs vs

  -- demand 3's second part, for kinds that merge: "each set with a collected value has a merged point". Under L10 the settings are the
  -- last ones, and the points are carried over to them first.
  abbrev pub Pooled : Merging → Config K → List (Call K) → List (Answer K) → Type 0
  Pooled M c xs ans =
      (s : Set) → any K (gained K c xs ans s) ≡ true → M.Within (gained K c xs ans s) → Merged M c.settings (points_of K s ans) (gained K c xs ans s)

  -- FAITHFUL code: each state stands for a map; in a state with stores that suffice (Ok shuts out number 12) and a directory that agrees each
  -- call is the step of that map; and the first state stands for the fresh map, under settings that configuring accepts
  pub record Faithful (c : Config K) (C : Code K) : Type 1 where
    pub Ok : C.State → Type 0
    pub view : C.State → Map K
    pub steps : (s : C.State) (x : C.Input) → Ok s → Agrees K c (view s)
        → Ok (C.call s x).1 × (record { answer = (C.call s x).0; map = view (C.call s x).1 } ≡ step K c (view s) (C.asks x))
    pub ok : Ok C.first
    pub fresh : view C.first ≡ start K c
    pub valid : K.valid c.settings ≡ true

  -- DEMAND 3, for any kind, and for kinds that merge
  abbrev pub Demand : Type 1
  Demand = (c : Config K) (C : Code K) → Faithful c C → (xs : List C.Input) → Premise K c (asked K C xs) (ran K C xs) → Answered K c (asked K C xs) (ran K C xs)

  abbrev pub MergedDemand : Merging → Type 1
  MergedDemand M = (c : Config K) (C : Code K) → Faithful c C → (xs : List C.Input) → Premise K c (asked K C xs) (ran K C xs) → Pooled M c (asked K C xs) (ran K C xs)
