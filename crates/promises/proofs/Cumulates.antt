-- A cumulative collection after any run is the map's, leaves everything as it was, and is never answered 8 or 12. Assumes nothing.
use Prim.Native.Nat.{ℕ}
use mathlib.Core.Path.{◌≡◌, refl, sym, ap, ◌∙◌}
use mathlib.Core.Bool.{Bool, true, false}
use mathlib.Core.List.{List, [], ◌∷◌, ◌++◌, map}
use mathlib.Core.Option.{Option}
use lib.Dec.{eqb}
use Rattle.laws.specs.Pick.{pick}
use Rattle.laws.specs.Said.{refusal, number}
use Rattle.laws.specs.Tests.{all}
use Rattle.laws.proofs.Cases.{and-true}
use Rattle.tally.specs.Kind.{Kind, unless, first_of, suffices}
use Rattle.tally.specs.Map.{Answer, listed, Points, Config, Map, Out, sound, points, filled, or_refused, cumulate}
use Rattle.tally.proofs.MapSteps.{swept, upfront, act}
use Rattle.tally.specs.Demand.{Code, answers, left}
use Rattle.tally.proofs.Faithful.{Faithful}
use Rattle.tally.specs.Runs.{quiet}
use Rattle.tally.proofs.Demand.{steady}
use Rattle.tally.proofs.Sound.{Steady, never-damaged}
use Rattle.directory.specs.View.{Stores}
use Rattle.value_map.specs.Store.{Store}
use Rattle.value_map.specs.Calls.{Held, started}
use Rattle.value_map.specs.Maps.{map_of, config_of}
use Rattle.value_map.proofs.Owed.{Owed}
use Rattle.listing.specs.Listed.{Output}
use Rattle.collecting.specs.Lister.{Lister}
use Rattle.collecting.specs.Collected.{room_of, uncollected, cumulative_collected}
use Rattle.collecting.proofs.Owed.{Lists}
use Rattle.collecting.proofs.Ends.{collected_on}
use Rattle.collecting.proofs.Steps.{cumulative-steps}
use Rattle.promises.specs.Runs.{collecting, run, Cumulates}
use Rattle.promises.proofs.Runs.{Keeps, Ready, faithful}

-- the last answer of a run is among those that pass
last-passes : {K : Kind} (C : Code K) (q : Answer K → Bool) (xs : List C.Input) (y : C.Input) (s : C.State)
    → all q (answers K C s (xs ++ (y ∷ []))) ≡ true → q (C.call (left K C s xs) y).0 ≡ true
last-passes C q [] y s h = (and-true (q (C.call s y).0) true h).0
last-passes {K} C q (x ∷ xs) y s h =
    last-passes C q xs y (C.call s x).1 (and-true (q (C.call s x).0) (all q (answers K C (C.call s x).1 (xs ++ (y ∷ [])))) h).1

-- two collections of one map are answered 8 alike
alike : {K : Kind} (m : Map K) (b u v : Bool) (p q : Out K) → quiet K q.answer ≡ true
    → quiet K (or_refused K m (first_of (unless b 8 ∷ unless u 10 ∷ [])) p).answer ≡ true
    → quiet K (or_refused K m (first_of (unless b 8 ∷ unless v 10 ∷ [])) q).answer ≡ true
alike m true u true p q r h = r
alike m true u false p q r h = refl
alike m false u v p q r h = h

module _ {K : Kind} {S : Store K} (L : Lister S) (w : S.Switches) (limit : ℕ) (h : Held S.Cells) (o : Output) where
  stays : (cumulative_collected L w limit h o).held ≡ h
  unfolding cumulative_collected pick
  stays = go (eqb (uncollected L w true limit h o) 0)
    where
      go : (b : Bool) → (pick b (collected_on L w limit h o true h.kept) (record { answer = refusal (uncollected L w true limit h o); held = h; out = o })).held ≡ h
      go true = refl
      go false = refl

module _ {K : Kind} {S : Store K} (W : Owed S) (L : Lister S) (keeps : Keeps L) (w : S.Switches) (Q : Lists L w) where
  pub cumulates : Steady K → (limit : ℕ) (filter : Option (List ℕ)) (s : Stores) (x : S.Cells) → L.Lent x → number (started S limit filter s x).answer ≡ 0
      → Cumulates L w limit filter (started S limit filter s x).held
  unfolding faithful upfront act cumulate
  cumulates T limit filter s x l zero xs o =
      let c : Config K = config_of S w limit filter in
      let C : Code K = run L w limit filter (started S limit filter s x).held in
      let F : Faithful K c C = faithful W L keeps w Q limit filter s x l zero in
      let h : Held S.Cells = left K C C.first xs in
      let k = steady K c C F xs in
      let r : Ready L limit filter h = k.0 in
      let e = cumulative-steps W L w Q limit filter h r.fair r.lent o in
      let d = F.steps h (collecting o) k.0 k.1 in
      let n = last-passes C (quiet K) xs (collecting o) C.first (never-damaged K T c C F (xs ++ (collecting o ∷ []))) in
      let m : Map K = map_of S w h in
      let ps : Points K = points K m.settings m.entries in
      let qs : Points K = points K m.settings (map (filled K m.settings) m.entries) in
      let room : Points K → Bool = λ l. suffices K (room_of o) (map (λ i. i.1) l) in (
        sym e,
        stays L w limit h o,
        ap (λ (q : Out K). quiet K q.answer) (sym e)
            ∙ alike m (all (λ i. sound K m.settings i.series) m.entries) (room ps) (room qs) (record { answer = listed ps; map = swept K m }) (record { answer = listed qs; map = m }) refl
            (ap (λ (q : Out K). quiet K q.answer) (sym d.1) ∙ n),
      )
