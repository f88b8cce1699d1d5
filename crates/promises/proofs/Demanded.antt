-- DEMAND 3 WHOLE, for any histogram kind's store over a number and points in lent output that pay what they owe. Assumes nothing.
use Prim.Native.Nat.{◌+◌, ◌^◌, ◌<◌, ℕ}
use mathlib.Core.Path.{◌≡◌, refl, ap, sym, subst, ◌∙◌}
use mathlib.Core.Bool.{true}
use mathlib.Core.List.{List, [], ◌∷◌, map, flatten}
use native.Mathlib.Omega.{arith}
use lib.Dec.{leb}
use lib.ListN.{length, length-map}
use lib.Ieee.{Float}
use Rattle.laws.specs.Lists.{All}
use Rattle.laws.proofs.Cases.{and-true, true-not-false}
use Rattle.index.specs.Bins.{finest}
use Rattle.points.specs.Counts.{Kind, exponential, explicit, size_passes}
use Rattle.points.specs.Number.{Number}
use Rattle.point.specs.Lists.{Configured}
use Rattle.tally.specs.Kind as T
use Rattle.tally.specs.Sets.{Set}
use Rattle.tally.specs.Tally.{empty, after}
use Rattle.tally.specs.Demand.{counted, Cut, any, gained, points_of, asked, ran}
use Rattle.tally.proofs.Clean.{Clean, clean_after}
use Rattle.tally.proofs.Logs.{length-values}
use Rattle.tally.proofs.Demand.{demand}
use Rattle.tally.proofs.Lawful.{Lawful}
use Rattle.tally.proofs.Sound.{Steady}
use Rattle.kinds.specs.Any.{passes}
use Rattle.kinds.proofs.AnyRecorded.{all_known, lawful, steady}
use Rattle.value_map.specs.Store.{Store}
use Rattle.value_map.specs.Calls.{started}
use Rattle.value_map.specs.Maps.{config_of}
use Rattle.value_map.proofs.Owed.{Owed}
use Rattle.collecting.specs.Lister.{Lister}
use Rattle.promises.specs.Numbers.{InRuns, kind_of}
use Rattle.promises.specs.Runs.{run}
use Rattle.promises.specs.Pooled.{stored_of, Holds}
use Rattle.promises.specs.Promises.{PromisedWhole}
use Rattle.collecting.proofs.Owed.{Lists}
use Rattle.promises.proofs.Runs.{Keeps, begun, ready, faithful, runs}
use Rattle.promises.proofs.Cumulates.{cumulates}
use Rattle.promises.proofs.Owned.{owns}
use Rattle.promises.proofs.Numbers.{Owes}
use Rattle.promises.proofs.Pooling.{pointed, pooled}
use Rattle.promises.proofs.Stored.{Storing, run-read, run-shaped}
use mathlib.Core.Option.{Option}
use Rattle.laws.specs.Said.{number}
use Rattle.laws.specs.Counting.{sum}
use Rattle.directory.specs.View.{Stores}

-- "Take any list of these calls, refused ones included: recording by set or handle, binding, releasing, delta collection. It runs from a fresh start
-- under one configuration, and each call is given the state and lent stores as the last one left them."
abbrev pub Demanded : {N : Number} (P : InRuns N) {S : Store (kind_of P)} → Lister S → List Float → S.Switches → Type 0
Demanded P {S} L bounds w =
    (limit : ℕ) (filter : Option (List ℕ)) (s : Stores) (x : S.Cells) → L.Lent x → number (started S limit filter s x).answer ≡ 0
    → Holds P L bounds w limit filter (started S limit filter s x).held

-- settings that configuring accepts
configured : (k : Kind) → passes k ≡ true → Configured k
configured (exponential size top) e = (and-true (size_passes size) (leb top finest) e).0
configured (explicit bounds) e = e

-- points of some values are some
some-point : (K : T.Kind) {A : Type 0} (f : A → K.Point) (ps : List A) (g : List K.Value → K.Point) (parts : List (List K.Value)) (vs : List K.Value)
    → flatten parts ≡ vs → any K vs ≡ true → map f ps ≡ map g parts → 0 < length ps
unfolding flatten
some-point K f ps g [] vs i e j = true-not-false (sym e ∙ ap (any K) (sym i))
some-point K f ps g (v ∷ parts) vs i e j = omega (arith, ap length j, length-map ps f)

module _ {N : Number} (P : InRuns N) (A : Owes P) where
  -- the kind is lawful, and steady
  pub lawful-kind : Lawful (kind_of P)
  lawful-kind = lawful N A.owed P.point_of A.point-is

  pub steady-kind : Steady (kind_of P)
  steady-kind = steady N A.owed P.point_of A.point-is

  module _ {S : Store (kind_of P)} (W : Owed S) (L : Lister S) (keeps : Keeps L) (bounds : List Float) (T : Storing P L bounds) (w : S.Switches) (Q : Lists L w) where
    pub demanded : Demanded P L bounds w
    demanded limit filter s x l zero xs p =
        let K = kind_of P in
        let h = (started S limit filter s x).held in
        let c = config_of S w limit filter in
        let F = faithful W L keeps w Q limit filter s x l zero in
        let qs = asked K (run L w limit filter h) xs in
        let ans = ran K (run L w limit filter h) xs in
        let D = demand K lawful-kind c (run L w limit filter h) F xs p in
        let t = after K c (empty K c) qs ans in
        let n : Clean K (0 + sum (counted K) qs) t = clean_after K c qs ans 0 (empty K c) (record { waiting = λ s. refl; collected = λ s. refl; long = omega arith }) in
        let z = S.settings w in
        let ok = configured z.kind F.valid in
        let ps : Set → List P.coded.Stored = λ r. stored_of P L bounds w limit filter r h xs in
        let vs : Set → List N.Value = λ r. gained K c qs ans r in
        let cuts : (r : Set) → Cut K z (points_of K r ans) (vs r) = D.cut in
        let same : (r : Set) → map P.coded.handed_in (ps r) ≡ points_of K r ans = λ r. run-read P W L keeps bounds T w Q limit filter (begun S limit filter s x zero).accepted r xs h h in
        let is : (r : Set) → map P.coded.handed_in (ps r) ≡ map (P.point_of z) (cuts r).parts = λ r. same r ∙ (cuts r).points in
        let shaped : (r : Set) → All (λ y. P.coded.in_shape y ≡ true) (ps r) = λ r. run-shaped P W L keeps bounds T w Q limit filter (begun S limit filter s x zero).accepted r xs h (ready L limit filter s x l zero) in
        let known : (r : Set) → All N.Known (vs r) = λ r. all_known N A.owed P.point_of A.point-is (vs r) (n.collected r) in
        record {
          answered = D;
          stored = same;
          each = λ r. pointed P A z ok (ps r) (cuts r).parts (is r) (shaped r) (subst (All N.Known) (sym (cuts r).values) (known r));
          pools = λ r size k e within.
              let few : length (vs r) < 2 ^ 64 = omega (arith, length-values K r t.collected, n.long, p.fewer) in
              pooled P A z ok (ps r) (cuts r).parts (vs r) (is r) (shaped r) (cuts r).values (known r) few within
              (some-point K P.coded.handed_in (ps r) (P.point_of z) (cuts r).parts (vs r) (cuts r).values e (is r)) size k;
        }

    -- ---- all that is promised, from a start that was answered 0
    pub promised : (limit : ℕ) (filter : Option (List ℕ)) (s : Stores) (x : S.Cells) → L.Lent x → number (started S limit filter s x).answer ≡ 0
        → PromisedWhole P L bounds w limit filter (started S limit filter s x).held
    promised limit filter s x l zero =
        record {
          demand = demanded limit filter s x l zero;
          told = runs W L keeps w Q lawful-kind steady-kind limit filter s x l zero;
          cumulative = cumulates W L keeps w Q steady-kind limit filter s x l zero;
          owned = owns W L keeps w Q steady-kind limit filter s x l zero;
        }
