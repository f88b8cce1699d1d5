-- A cumulative collection lists the point of each named set's values, and the empty set's if it has any. Assumes nothing.
use Prim.Native.Nat.{ℕ}
use mathlib.Core.Path.{◌≡◌, refl, ap, sym, subst, ◌∙◌}
use mathlib.Core.Bool.{Bool, true, false, not, ◌||◌}
use mathlib.Core.List.{List, [], ◌∷◌, map}
use mathlib.Core.Option.{Option, none, some, get_or}
use Rattle.laws.specs.Pick.{pick}
use Rattle.laws.specs.Lists.{only}
use Rattle.laws.proofs.Bools.{some?}
use Rattle.laws.proofs.Cases.{some_inj, none-not-some}
use Rattle.tally.specs.Sets.{Set, of_set, same}
use Rattle.tally.specs.Kind.{Kind}
use Rattle.tally.specs.Map.{Entry, Map, find, current, filled, keys}
use Rattle.tally.specs.Tally.{Tally}
use Rattle.tally.specs.Demand.{any}
use Rattle.tally.specs.Runs.{listed?, Listed}
use Rattle.tally.proofs.Lawful.{Lawful}
use Rattle.tally.proofs.Entries.{mem-keys, find-set, Shown, points-are}
use Rattle.tally.proofs.Holds.{Kept, Holds}
use Rattle.tally.proofs.Places.{has-now}

module _ (K : Kind) (z : K.Settings) where
  keys_filled : (l : List (Entry K)) → keys K (map (filled K z) l) ≡ keys K l
  keys_filled [] = refl
  keys_filled (e ∷ l) = ap (λ k. e.set ∷ k) (keys_filled l)

  find-filled : (s : Set) (l : List (Entry K)) (f : Entry K) → find K s (map (filled K z) l) ≡ some f → (e : Entry K) × (find K s l ≡ some e) × (filled K z e ≡ f)
  unfolding pick
  find-filled s [] f h = none-not-some h
  find-filled s (e ∷ l) f h = go (find-filled s l f) (same e.set s) h
    where
      go : (find K s (map (filled K z) l) ≡ some f → (x : Entry K) × (find K s l ≡ some x) × (filled K z x ≡ f)) → (b : Bool)
          → pick b (some (filled K z e)) (find K s (map (filled K z) l)) ≡ some f → (x : Entry K) × (pick b (some e) (find K s l) ≡ some x) × (filled K z x ≡ f)
      go k true q = (e, refl, some_inj q)
      go k false q = k q

module _ (K : Kind) (L : Lawful K) (U : List Set) (top k : ℕ) (m : Map K) (t : Tally K) (h : Holds K L U top k m t) where
  abbrev vs : Set → List K.Value
  vs s = of_set s t.waiting

  shown : (s : Set) (b : Bool) (o : Option K.Series) → Kept K L m.settings o (vs s)
      → Shown K m.settings (pick b o (some (get_or o (K.fresh m.settings)))) (not b || any K (vs s)) (K.point_of m.settings (vs s))
  unfolding pick
  shown s true none a = ap (λ x. any K x) a
  shown s true (some x) a = (a.0, L.point m.settings x (vs s) a.1)
  shown s false o a =
      (refl, L.point m.settings (get_or o (K.fresh m.settings)) (vs s) (has-now K L m.settings h.valid o (vs s) a))

  each : (s : Set) (f : Entry K) → find K s (map (filled K m.settings) m.entries) ≡ some f
      → Shown K m.settings f.series (listed? (any K (vs s)) s) (K.point_of m.settings (vs s))
  each s f q =
      let r = find-filled K m.settings s m.entries f q in
      let e = r.0 in
      subst (λ x. Shown K m.settings x.series (listed? (any K (vs s)) s) (K.point_of m.settings (vs s))) r.2
      (subst (λ x. Shown K m.settings (pick (same x []) e.series (some (current K m.settings e))) (listed? (any K (vs s)) s) (K.point_of m.settings (vs s)))
      (sym (find-set K s m.entries e r.1)) (shown s (same s []) e.series (h.here s e r.1).series))

  held : (s : Set) (o : Option (Entry K)) → find K s m.entries ≡ o → any K (vs s) ≡ true → some? o ≡ true
  held s none q p = sym (ap (λ l. any K l) (h.gone s q)) ∙ p
  held s (some e) q p = refl

  pub cumulative-are : Listed K m t
  cumulative-are =
      let k = keys_filled K m.settings m.entries in
      record {
        shown =
            points-are K m.settings (λ s. listed? (any K (vs s)) s) (λ s. K.point_of m.settings (vs s)) (map (filled K m.settings) m.entries) (rw k h.rising) each
            ∙ ap (λ l. map (λ s. (s, K.point_of m.settings (vs s))) (only (λ s. listed? (any K (vs s)) s) l)) k;
        every = λ s p. mem-keys K s m.entries ∙ held s (find K s m.entries) refl p;
      }
