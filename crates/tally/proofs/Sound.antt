-- Numbers 8 and 12 never come up in a run from a fresh start: series that agree do so after every call. Assumes nothing.
use Prim.Native.Nat.{ℕ, suc, ◌-◌, Ordering}
use mathlib.Core.Path.{◌≡◌, refl, ap, sym, subst, ◌∙◌}
use mathlib.Core.Bool.{Bool, true, false, ◌&&◌}
use mathlib.Core.List.{List, [], ◌∷◌, map}
use mathlib.Core.Option.{Option, none, some}
use mathlib.Core.Logic.{⊎_elim}
use lib.Dec.{eqb, ltb, leb}
use lib.ListN.{length}
use Rattle.laws.specs.Pick.{pick}
use Rattle.laws.specs.Tests.{all}
use Rattle.laws.proofs.Bools.{and_intro}
use Rattle.laws.proofs.Cases.{and-true, true-not-false, none-not-some}
use Rattle.tally.specs.Sets.{Set, overflow, three, cmp, same, canonical}
use Rattle.tally.specs.Kind.{Kind, unless, first_of, suffices}
use Rattle.tally.specs.Map.{Config, Entry, Map, Call, measure, measure_by, bind, release, collect, Answer, refuse, done, handle, listed, Out, or_refused, named, find, current, sound, points, Points, Agrees}
use Rattle.laws.proofs.Choices.{pick-cases, pick_some}
use Rattle.tally.proofs.MapSteps.{by_handle, put, Place, place, held, write, recorded, rebound, sweep, swept, fits, measure_at, bind_at, release_at, upfront, act, step}
use Rattle.tally.specs.Demand.{Code, answers, ran}
use Rattle.tally.proofs.Faithful.{Faithful}
use Rattle.tally.specs.Runs as Runs
use Rattle.tally.proofs.Agree.{begins, step-agrees}
use Rattle.tally.proofs.Placed.{Placed, held_own, made_own, held_over, made_over, placed}

-- what a kind owes: agreement from the start, and kept by a value more
pub record Steady (K : Kind) : Type 0 where
  pub fresh : (z : K.Settings) → K.valid z ≡ true → K.agrees z (K.fresh z) ≡ true
  pub add : (z : K.Settings) (x : K.Series) (v : K.Value) → K.valid z ≡ true → K.finite v ≡ true → K.agrees z x ≡ true → K.agrees z (K.add z x v) ≡ true

module _ (K : Kind) where
  -- each series of the map agrees
  abbrev pub Sound : Map K → Type 0
  Sound m = all (λ e. sound K m.settings e.series) m.entries ≡ true

  module _ (p : Entry K → Bool) where
    all-put : (e : Entry K) (l : List (Entry K)) → p e ≡ true → all p l ≡ true → all p (put K e l) ≡ true
    all-put e [] h k = and_intro (p e) true h refl
    all-put e (x ∷ l) h k = let a = and-true (p x) (all p l) k in go (all-put e l h a.1) a (cmp e.set x.set)
      where
        go : all p (put K e l) ≡ true → (p x ≡ true) × (all p l ≡ true) → (o : Ordering) → all p (three o (e ∷ x ∷ l) (e ∷ l) (x ∷ put K e l)) ≡ true
        go i a Ordering.lt = and_intro (p e) (all p (x ∷ l)) h k
        go i a Ordering.eq = and_intro (p e) (all p l) h a.1
        go i a Ordering.gt = and_intro (p x) (all p (put K e l)) a.0 i

    -- a search by a test finds what passes
    of-found : (x e : Entry K) (b : Bool) (o : Option (Entry K)) → p x ≡ true → (o ≡ some e → p e ≡ true) → pick b (some x) o ≡ some e → p e ≡ true
    of-found x e b o h k q = ⊎_elim (λ a. subst (λ y. p y ≡ true) a.1 h) k (pick_some _ _ _ _ q)

    all-find : (s : Set) (e : Entry K) (l : List (Entry K)) → all p l ≡ true → find K s l ≡ some e → p e ≡ true
    all-find s e [] k q = none-not-some q
    all-find s e (x ∷ l) k q =
        let a = and-true (p x) (all p l) k in of-found x e (same x.set s) (find K s l) a.0 (all-find s e l a.1) q

    all_named : (h : ℕ) (e : Entry K) (l : List (Entry K)) → all p l ≡ true → named K h l ≡ some e → p e ≡ true
    all_named h e [] k q = none-not-some q
    all_named h e (x ∷ l) k q =
        let a = and-true (p x) (all p l) k in
        of-found x e (eqb x.birth h && ltb 0 x.bindings) (named K h l) a.0 (all_named h e l a.1) q

  -- neither number; the settings as they were, and the series agree
  pub record Steadily (z : K.Settings) (o : Out K) : Type 0 where
    pub quiet : Runs.quiet K o.answer ≡ true
    pub settings : o.map.settings ≡ z
    pub sound : Sound o.map

module _ (K : Kind) (S : Steady K) (m : Map K) (z : K.valid m.settings ≡ true) (h : Sound K m) where
  fine : Entry K → Bool
  fine e = sound K m.settings e.series

  abbrev After : Out K → Type 0
  After o = Steadily K m.settings o

  told : (a : Answer K) → Runs.quiet K a ≡ true → (r : Map K) → r.settings ≡ m.settings → Sound K r → After (record { answer = a; map = r })
  told a e r q s = record { quiet = e; settings = q; sound = s }

  entry-fine : (c : Config K) (s : Set) → sound K m.settings (place K c.limit m s).entry.series ≡ true
  unfolding fine
  entry-fine c s = go (place K c.limit m s) (placed K m c.limit s)
    where
      go : (p : Place K) → Placed K m c.limit s p → sound K m.settings p.entry.series ≡ true
      go p (held_own e f q) = subst (λ x. fine x.entry ≡ true) (sym q) (all-find K fine s e m.entries h f)
      go p (made_own f l q) = subst (λ x. fine x.entry ≡ true) (sym q) refl
      go p (held_over e f l i q) = subst (λ x. fine x.entry ≡ true) (sym q) (all-find K fine overflow e m.entries h i)
      go p (made_over f l i q) = subst (λ x. fine x.entry ≡ true) (sym q) refl

  current-agrees : (o : Option K.Series) (e : Entry K) → e.series ≡ o → sound K m.settings o ≡ true → K.agrees m.settings (current K m.settings e) ≡ true
  current-agrees none e q a = rw q (S.fresh m.settings z)
  current-agrees (some x) e q a = rw q a

  measured : (v : K.Value) (p : Place K) → K.finite v ≡ true → fine p.entry ≡ true → After (measure_at K m v p)
  unfolding measure_at fine
  measured v p f a =
      let x = current K m.settings p.entry in
      go (sound K m.settings p.entry.series) a (fits p.last && fits (suc (K.total x))) (K.allows m.settings x v)
    where
      go : (b : Bool) → b ≡ true → (u w : Bool) → After (or_refused K m (first_of (unless b 8 ∷ unless u 9 ∷ unless w 16 ∷ [])) (record { answer = done; map = write K m p (recorded K m.settings p.entry v) }))
      go true q true true =
          told done refl (write K m p (recorded K m.settings p.entry v)) refl
          (all-put K fine (recorded K m.settings p.entry v) m.entries
          (S.add m.settings (current K m.settings p.entry) v z f (current-agrees p.entry.series p.entry refl a)) h)
      go true q true false = told (refuse 16) refl m refl h
      go true q false w = told (refuse 9) refl m refl h
      go false q u w = true-not-false (sym q)

  by : (o : Option (Entry K)) → ((e : Entry K) → o ≡ some e → fine e ≡ true) → (f : Entry K → Out K) → ((e : Entry K) → fine e ≡ true → After (f e)) → After (by_handle K m o f)
  by none s f g = told (refuse 7) refl m refl h
  by (some e) s f g = g e (s e refl)

  all-sweep : (l : List (Entry K)) → all fine (sweep K l) ≡ true
  unfolding fine
  all-sweep [] = refl
  all-sweep (e ∷ l) = let i = all-sweep l in pick-cases (λ r. all fine r ≡ true) _ _ _ (λ p. i) (λ p. i)

  -- a call with finite values
  abbrev Finite : Call K → Type 0
  Finite x = elim x [ measure v attrs ↦ K.finite v ≡ true | measure_by i v ↦ K.finite v ≡ true | bind attrs ↦ Unit | release i ↦ Unit | collect room ↦ Unit ]

  acted : (c : Config K) (x : Call K) → Finite x → After (act K c m x)
  unfolding act bind_at release_at fine
  acted c (measure v attrs) f =
      measured v (place K c.limit m (canonical c.filter attrs)) f (entry-fine c (canonical c.filter attrs))
  acted c (measure_by i v) f =
      by (named K i m.entries) (λ e q. all_named K fine i e m.entries h q) (λ e. measure_at K m v (held K m e)) (λ e q. measured v (held K m e) f q)
  acted c (bind attrs) f = go (fits p.last && fits (suc p.entry.bindings))
    where
      p : Place K
      p = place K c.limit m (canonical c.filter attrs)

      go : (b : Bool) → After (or_refused K m (unless b 9) (record { answer = handle p.entry.birth; map = write K m p (rebound K p.entry (suc p.entry.bindings)) }))
      go true = told (handle p.entry.birth) refl (write K m p (rebound K p.entry (suc p.entry.bindings))) refl (all-put K fine (rebound K p.entry (suc p.entry.bindings)) m.entries (entry-fine c (canonical c.filter attrs)) h)
      go false = told (refuse 9) refl m refl h
  acted c (release i) f =
      by (named K i m.entries) (λ e q. all_named K fine i e m.entries h q) (λ e. release_at K m e)
      (λ e q. told done refl (release_at K m e).map refl (all-put K fine (rebound K e (e.bindings - 1)) m.entries q h))
  acted c (collect room) f = go (all fine m.entries) h (suffices K room (map (λ p. p.1) ps))
    where
      ps : Points K
      ps = points K m.settings m.entries

      go : (b : Bool) → b ≡ true → (u : Bool) → After (or_refused K m (first_of (unless b 8 ∷ unless u 10 ∷ [])) (record { answer = listed ps; map = swept K m }))
      go true q true = told (listed ps) refl (swept K m) refl (all-sweep m.entries)
      go true q false = told (refuse 10) refl m refl h
      go false q u = true-not-false (sym q)

  pub steps_steadily : (c : Config K) (x : Call K) → After (step K c m x)
  unfolding upfront
  steps_steadily c (measure v attrs) = go (K.finite v) refl (leb (length attrs) 8)
    where
      go : (b : Bool) → K.finite v ≡ b → (u : Bool) → After (or_refused K m (first_of (unless b 6 ∷ unless u 5 ∷ [])) (act K c m (measure v attrs)))
      go true f true = acted c (measure v attrs) f
      go true f false = told (refuse 5) refl m refl h
      go false f u = told (refuse 6) refl m refl h
  steps_steadily c (measure_by i v) = go (K.finite v) refl
    where
      go : (b : Bool) → K.finite v ≡ b → After (or_refused K m (unless b 6) (act K c m (measure_by i v)))
      go true f = acted c (measure_by i v) f
      go false f = told (refuse 6) refl m refl h
  steps_steadily c (bind attrs) = go (leb (length attrs) 8)
    where
      go : (u : Bool) → After (or_refused K m (unless u 5) (act K c m (bind attrs)))
      go true = acted c (bind attrs) tt
      go false = told (refuse 5) refl m refl h
  steps_steadily c (release i) = acted c (release i) tt
  steps_steadily c (collect room) = acted c (collect room) tt

module _ (K : Kind) (S : Steady K) (c : Config K) (C : Code K) (F : Faithful K c C) where
  run-quiet : (xs : List C.Input) (s : C.State) → F.Ok s → Agrees K c (F.view s) → K.valid (F.view s).settings ≡ true → Sound K (F.view s)
      → all (Runs.quiet K) (answers K C s xs) ≡ true
  run-quiet [] s o y v h = refl
  run-quiet (x ∷ xs) s o y v h =
      let d = F.steps s x o y in
      let m = F.view s in
      let a = steps_steadily K S m v h c (C.asks x) in
      and_intro (Runs.quiet K (C.call s x).0) (all (Runs.quiet K) (answers K C (C.call s x).1 xs))
      (ap (λ q. Runs.quiet K q.answer) d.1 ∙ a.quiet)
      (run-quiet xs (C.call s x).1 d.0
      (subst (λ q. Agrees K c q.map) (sym d.1) (step-agrees K c m y (C.asks x)))
      (subst (λ q. K.valid q.map.settings ≡ true) (sym d.1) (ap K.valid a.settings ∙ v))
      (subst (λ q. Sound K q.map) (sym d.1) a.sound))

  -- with no premise: whatever the calls, from a fresh start none is answered 8 or 12
  pub never-damaged : (xs : List C.Input) → all (Runs.quiet K) (ran K C xs) ≡ true
  never-damaged xs =
      run-quiet xs C.first F.ok (subst (λ m. Agrees K c m) (sym F.fresh) (begins K c))
      (subst (λ m. K.valid m.settings ≡ true) (sym F.fresh) F.valid) (subst (λ m. Sound K m) (sym F.fresh) refl)
