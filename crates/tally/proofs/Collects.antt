-- A delta collection: the map's points are those that the tally has due, and what holds between the two holds after it. Assumes nothing.
use Prim.Native.Nat.{ℕ, ◌<◌}
use mathlib.Core.Path.{◌≡◌, refl, ap, sym, subst, ◌∙◌}
use mathlib.Core.Bool.{true, ◌&&◌}
use mathlib.Core.List.{List, [], ◌∷◌, map}
use mathlib.Core.Option.{Option, none, some}
use native.Mathlib.Omega.{arith}
use lib.ListN.{length}
use Rattle.laws.specs.Lists.{only}
use Rattle.laws.specs.Tests.{all}
use Rattle.laws.proofs.Bools.{some?}
use Rattle.laws.proofs.Cases.{none-not-some}
use Rattle.tally.specs.Sets.{Set, of_set, ascending}
use Rattle.tally.specs.Kind.{Kind}
use Rattle.tally.specs.Map.{Entry, Map, find, sound, points, keys}
use Rattle.tally.proofs.MapSteps.{sweep, reset, swept}
use Rattle.tally.specs.Tally.{Tally, gathered, due}
use Rattle.tally.specs.Demand.{any}
use Rattle.tally.proofs.Lawful.{Lawful}
use Rattle.tally.proofs.Rising.{rising-ascending, mem-ascending, ext}
use Rattle.tally.proofs.Entries.{rising-only, mem-only, mem-keys, rising-sweep, length-sweep, Shown, points-are, all_found}
use Rattle.tally.proofs.Logs.{mem-values}
use Rattle.tally.proofs.Sweep.{from, kept, rooted-sweep, apart-sweep, Idle, stays}
use Rattle.tally.proofs.Holds.{Kept, At, Holds}
use Rattle.tally.proofs.Places.{sound-now}

module _ (K : Kind) (L : Lawful K) (U : List Set) (top k : ℕ) (m : Map K) (t : Tally K) (h : Holds K L U top k m t) where
  -- the values of the set s that wait
  abbrev vs : Set → List K.Value
  vs s = of_set s t.waiting

  shown : (s : Set) (o : Option (Entry K)) → find K s m.entries ≡ o → (some? o && any K (vs s)) ≡ any K (vs s)
  shown s none p = rw (h.gone s p)
  shown s (some e) p = refl

  shows : (s : Set) (o : Option K.Series) → Kept K L m.settings o (vs s) → Shown K m.settings o (any K (vs s)) (K.point_of t.settings (vs s))
  shows s none a = ap (λ x. any K x) a
  shows s (some x) a = (a.0, L.point m.settings x (vs s) a.1 ∙ ap (λ z. K.point_of z (vs s)) (sym h.settings))

  pub points-due : points K m.settings m.entries ≡ due K t
  points-due =
      points-are K m.settings (λ s. any K (vs s)) (λ s. K.point_of t.settings (vs s)) m.entries h.rising
      (λ s e f. shows s e.series (h.here s e f).series)
      ∙ ap (map (λ s. (s, K.point_of t.settings (vs s)))) (ext
      (only (λ s. any K (vs s)) (keys K m.entries))
      (ascending (map (λ x. x.0) t.waiting))
      (rising-only (λ s. any K (vs s)) (keys K m.entries) h.rising)
      (rising-ascending (map (λ x. x.0) t.waiting))
      (λ s.
      mem-only (λ s. any K (vs s)) s (keys K m.entries)
      ∙ ap (λ b. b && any K (vs s)) (mem-keys K s m.entries)
      ∙ shown s (find K s m.entries) refl
      ∙ sym (mem-ascending s (map (λ x. x.0) t.waiting) ∙ mem-values K s t.waiting)))

  -- every touched series agrees
  pub touched : all (λ e. sound K m.settings e.series) m.entries ≡ true
  touched =
      all_found K (λ e. sound K m.settings e.series) m.entries h.rising
      (λ s e f. sound-now K L m.settings e.series (vs s) (h.here s e f).series)

  at-reset : (s : Set) (e : Entry K) → At K L U m.settings m.last t s e → At K L U m.settings m.last (gathered K t) s (reset K e)
  at-reset s e a =
      record { series = refl; birth = a.birth; bindings = a.bindings; one = a.one; own = a.own; inside = a.inside }

  bound : (b : ℕ) → 0 < t.bindings b → (e : Entry K) × (find K e.set (sweep K m.entries) ≡ some e) × (e.birth ≡ b)
  bound b q =
      let a = h.bound b q in
      let e = a.0 in
      let n : Idle K e → ⊥ = λ i. omega (arith, i.unbound, (h.here e.set e a.1).bindings, ap (λ i. t.bindings i) a.2) in
      (reset K e, kept K m.entries h.rising e.set e a.1 (stays K e n), a.2)

  held-length : (s : Set) (l : List (Entry K)) (e : Entry K) → find K s l ≡ some e → 0 < length l
  held-length s [] e f = none-not-some f
  held-length s (x ∷ l) e f = omega arith

  pub collected : Holds K L U top k (swept K m) (gathered K t)
  collected =
      let root = rooted-sweep K m.entries h.rising h.root in
      record {
        rising = rising-sweep K m.entries h.rising;
        root = root;
        count = omega (arith, h.count, length-sweep K m.entries, held-length [] (sweep K m.entries) root.0 root.1);
        last = h.last;
        here = λ s g p.
            let a = from K m.entries h.rising s g p in
            subst (λ x. At K L U m.settings m.last (gathered K t) s x) a.2 (at-reset s a.0 (h.here s a.0 a.1));
        gone = λ s p. refl;
        apart = apart-sweep K m.entries h.rising h.apart;
        bound = bound;
        free = h.free;
        long = omega arith;
        few = h.few;
        settings = h.settings;
        valid = h.valid;
      }
