-- A kind that allows every value never answers 16: of it demand 3's premise counts the sets of accepted calls, and no others. Assumes nothing.
use Prim.Native.Nat.{suc}
use mathlib.Core.Path.{◌≡◌, refl, ap, sym, subst, ◌∙◌}
use mathlib.Core.Bool.{Bool, true, false, not, ◌&&◌}
use mathlib.Core.List.{List, [], ◌∷◌, map}
use mathlib.Core.Option.{Option, none, some}
use lib.Dec.{eqb, leb}
use lib.ListN.{length}
use Rattle.laws.specs.Tests.{all}
use Rattle.laws.proofs.Bools.{and_intro}
use Rattle.laws.proofs.Cases.{true-not-false}
use Rattle.tally.specs.Sets.{canonical}
use Rattle.tally.specs.Kind.{Kind, unless, first_of, suffices}
use Rattle.tally.specs.Map.{Config, Entry, Map, Call, measure, measure_by, bind, release, collect, Answer, refuse, done, handle, listed, Out, or_refused, named, current, sound, points, Agrees}
use Rattle.tally.specs.Demand.{Code, answers, ran}
use Rattle.tally.proofs.MapSteps.{by_handle, Place, place, held, write, recorded, rebound, swept, fits, measure_at, bind_at, release_at, upfront, act, step}
use Rattle.tally.proofs.Faithful.{Faithful}
use Rattle.tally.proofs.Agree.{begins, step-agrees}

module _ (K : Kind) where
  abbrev pub unbarred : Answer K → Bool
  unbarred a = elim a [ refuse n ↦ not (eqb n 16) | done ↦ true | handle b ↦ true | listed ps ↦ true ]

  module _ (free : (z : K.Settings) (x : K.Series) (v : K.Value) → K.allows z x v ≡ true) where
    abbrev Free : Out K → Type 0
    Free o = unbarred o.answer ≡ true

    measured : (m : Map K) (v : K.Value) (p : Place K) → Free (measure_at K m v p)
    unfolding measure_at
    measured m v p =
        let x = current K m.settings p.entry in
        go (sound K m.settings p.entry.series) (fits p.last && fits (suc (K.total x))) (K.allows m.settings x v) (free m.settings x v)
      where
        go : (b u w : Bool) → w ≡ true → Free (or_refused K m (first_of (unless b 8 ∷ unless u 9 ∷ unless w 16 ∷ [])) (record { answer = done; map = write K m p (recorded K m.settings p.entry v) }))
        go true true true e = refl
        go true true false e = true-not-false (sym e)
        go true false w e = refl
        go false u w e = refl

    by : (m : Map K) (o : Option (Entry K)) (f : Entry K → Out K) → ((e : Entry K) → Free (f e)) → Free (by_handle K m o f)
    by m none f g = refl
    by m (some e) f g = g e

    acted : (c : Config K) (m : Map K) (x : Call K) → Free (act K c m x)
    unfolding act bind_at release_at
    acted c m (measure v attrs) = measured m v (place K c.limit m (canonical c.filter attrs))
    acted c m (measure_by i v) = by m (named K i m.entries) (λ e. measure_at K m v (held K m e)) (λ e. measured m v (held K m e))
    acted c m (bind attrs) = let p = place K c.limit m (canonical c.filter attrs) in go p (fits p.last && fits (suc p.entry.bindings))
      where
        go : (p : Place K) (b : Bool) → Free (or_refused K m (unless b 9) (record { answer = handle p.entry.birth; map = write K m p (rebound K p.entry (suc p.entry.bindings)) }))
        go p true = refl
        go p false = refl
    acted c m (release i) = by m (named K i m.entries) (λ e. release_at K m e) (λ e. refl)
    acted c m (collect room) =
        let ps = points K m.settings m.entries in go (all (λ e. sound K m.settings e.series) m.entries) (suffices K room (map (λ p. p.1) ps))
      where
        go : (b u : Bool) → Free (or_refused K m (first_of (unless b 8 ∷ unless u 10 ∷ [])) (record { answer = listed (points K m.settings m.entries); map = swept K m }))
        go true true = refl
        go true false = refl
        go false u = refl

    stepped : (c : Config K) (m : Map K) (x : Call K) → Free (step K c m x)
    unfolding upfront
    stepped c m (measure v attrs) = go (K.finite v) (leb (length attrs) 8)
      where
        go : (b u : Bool) → Free (or_refused K m (first_of (unless b 6 ∷ unless u 5 ∷ [])) (act K c m (measure v attrs)))
        go true true = acted c m (measure v attrs)
        go true false = refl
        go false u = refl
    stepped c m (measure_by i v) = go (K.finite v)
      where
        go : (b : Bool) → Free (or_refused K m (unless b 6) (act K c m (measure_by i v)))
        go true = acted c m (measure_by i v)
        go false = refl
    stepped c m (bind attrs) = go (leb (length attrs) 8)
      where
        go : (u : Bool) → Free (or_refused K m (unless u 5) (act K c m (bind attrs)))
        go true = acted c m (bind attrs)
        go false = refl
    stepped c m (release i) = acted c m (release i)
    stepped c m (collect room) = acted c m (collect room)

    -- THE LAW, of any faithful code, with no premise
    module _ (c : Config K) (C : Code K) (F : Faithful K c C) where
      run-free : (xs : List C.Input) (s : C.State) → F.Ok s → Agrees K c (F.view s) → all unbarred (answers K C s xs) ≡ true
      run-free [] s o y = refl
      run-free (x ∷ xs) s o y =
          let d = F.steps s x o y in
          and_intro (unbarred (C.call s x).0) (all unbarred (answers K C (C.call s x).1 xs))
          (ap (λ q. unbarred q.answer) d.1 ∙ stepped c (F.view s) (C.asks x))
          (run-free xs (C.call s x).1 d.0 (subst (λ q. Agrees K c q.map) (sym d.1) (step-agrees K c (F.view s) y (C.asks x))))

      pub never-barred : (xs : List C.Input) → all unbarred (ran K C xs) ≡ true
      never-barred xs = run-free xs C.first F.ok (subst (λ m. Agrees K c m) (sym F.fresh) (begins K c))
