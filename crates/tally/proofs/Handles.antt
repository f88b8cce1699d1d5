-- A handle keeps naming its set while it has a binding, whatever the calls; no premise. Assumes nothing.
use Prim.Native.Nat.{ℕ, suc, ◌+◌, ◌-◌, ◌<◌}
use mathlib.Core.Path.{◌≡◌, refl, ap, sym, subst, ◌∙◌}
use mathlib.Core.Bool.{Bool, true, false, ◌&&◌}
use mathlib.Core.List.{List, [], ◌∷◌}
use mathlib.Core.Option.{Option, none, some}
use native.Mathlib.Omega.{arith}
use borrow.Author.Tests.{eq-eqb}
use lib.Dec.{eqb}
use Rattle.laws.proofs.Bools.{pick_true, pick-false}
use Rattle.laws.specs.Counting.{bit, sum}
use Rattle.laws.proofs.Cases.{some_inj, none-not-some, true-not-false}
use Rattle.tally.specs.Sets.{Set, overflow, same, canonical}
use Rattle.tally.specs.Kind.{Kind, unless}
use Rattle.tally.specs.Map.{Config, Entry, Map, Call, measure, measure_by, bind, release, collect, Out, or_refused, named, find, points, unlisted, Agrees}
use Rattle.tally.proofs.MapSteps.{by_handle, put, Place, place, held, recorded, rebound, reset, sweep, fits, unfit, measure_at, bind_at, release_at, upfront, act, step}
use Rattle.tally.specs.Demand.{Code, asked, left}
use Rattle.tally.proofs.Faithful.{Faithful}
use Rattle.tally.specs.Runs.{Names, releasing}
use Rattle.tally.proofs.Order.{same-eq}
use Rattle.tally.proofs.Entries.{find-set, find-put, named_some, named_none}
use Rattle.tally.proofs.Placed.{Placed, held_own, made_own, held_over, made_over, placed}
use Rattle.tally.proofs.Sweep.{stays, kept}
use Rattle.tally.proofs.Agree.{step-agrees}

one_more : (k b : ℕ) → k < b → k < suc b
one_more k b l = omega (arith, l)

some_of : (k b : ℕ) → k < b → 0 < b
some_of k b l = omega (arith, l)

-- a release of h, of which one binding more than k is left
one_less : (k : ℕ) (t : Bool) (b : ℕ) → t ≡ true → k + bit t < b → k < b - 1
one_less k true b e l = omega (arith, l)
one_less k false b e l = absurd (true-not-false (sym e))

-- the first call's releases and those of the others
first_of : (t k b : ℕ) → t + k < b → (k < b) × (k + t < b)
first_of t k b l = (omega (arith, l), omega (arith, l))

module _ (K : Kind) (c : Config K) (m : Map K) (g : Agrees K c m) (h : ℕ) (e : Entry K) (n : named K h m.entries ≡ some e) (k : ℕ) (more : k < e.bindings) where
  -- the set's entry has the number h and more than k bindings
  Bound : List (Entry K) → Type 0
  Bound l = (y : Entry K) × (find K e.set l ≡ some y) × (y.birth ≡ h) × (k < y.bindings)

  its : (e.birth ≡ h) × (0 < e.bindings) × (find K e.set m.entries ≡ some e)
  its = named_some K h m.entries e g.rising n

  bound : Bound m.entries
  unfolding Bound
  bound = (e, its.2, its.0, more)

  bound_or : (o : Option ℕ) (r : Out K) → Bound r.map.entries → Bound (or_refused K m o r).map.entries
  bound_or none r b = b
  bound_or (some i) r b = bound

  -- an entry put in: another set's, or the same with a binding
  bound-put : (x : Entry K) → (x.set ≡ e.set → (x.birth ≡ h) × (k < x.bindings)) → Bound (put K x m.entries)
  unfolding Bound
  bound-put x has = go (same x.set e.set) refl
    where
      go : (b : Bool) → same x.set e.set ≡ b → Bound (put K x m.entries)
      go true q =
          let w = has (same-eq x.set e.set q) in
          (x, find-put K e.set x m.entries ∙ pick_true _ _ _ q, w.0, w.1)
      go false q =
          (e, find-put K e.set x m.entries ∙ pick-false _ _ _ q ∙ its.2, its.0, more)

  -- an entry of the set that is held is e; none is new
  own : (s : Set) (x : Entry K) → find K s m.entries ≡ some x → x.set ≡ e.set → x ≡ e
  own s x f q = some_inj (sym f ∙ ap (λ t. find K t m.entries) (sym (find-set K s m.entries x f) ∙ q) ∙ its.2)

  there : (c : Config K) (s : Set) → (place K c.limit m s).entry.set ≡ e.set
      → ((place K c.limit m s).entry.birth ≡ h) × (k < (place K c.limit m s).entry.bindings)
  there c s = go (place K c.limit m s) (placed K m c.limit s)
    where
      is : (p : Place K) (x : Entry K) → p ≡ held K m x → x ≡ e → (p.entry.birth ≡ h) × (k < p.entry.bindings)
      is p x q w =
          subst (λ y. (y.birth ≡ h) × (k < y.bindings)) (sym (ap (λ y. y.entry) q ∙ w)) (its.0, more)

      fresh : (s : Set) → find K s m.entries ≡ none → s ≡ e.set → {A : Type 0} → A
      fresh s f q = none-not-some (sym f ∙ ap (λ t. find K t m.entries) q ∙ its.2)

      go : (p : Place K) → Placed K m c.limit s p → p.entry.set ≡ e.set → (p.entry.birth ≡ h) × (k < p.entry.bindings)
      go p (held_own x f q) w = is p x q (own s x f (sym (ap (λ y. y.entry.set) q) ∙ w))
      go p (made_own f l q) w = fresh s f (sym (ap (λ y. y.entry.set) q) ∙ w)
      go p (held_over x f l i q) w = is p x q (own overflow x i (sym (ap (λ y. y.entry.set) q) ∙ w))
      go p (made_over f l i q) w = fresh overflow i (sym (ap (λ y. y.entry.set) q) ∙ w)

  by : (i : ℕ) (f : Entry K → Out K) → ((x : Entry K) → named K i m.entries ≡ some x → Bound (f x).map.entries) → Bound (by_handle K m (named K i m.entries) f).map.entries
  by i f leaves = go (named K i m.entries) refl
    where
      go : (o : Option (Entry K)) → named K i m.entries ≡ o → Bound (by_handle K m o f).map.entries
      go none q = bound
      go (some x) q = leaves x q

  named-own : (i : ℕ) (x : Entry K) → named K i m.entries ≡ some x → x.set ≡ e.set → x ≡ e
  named-own i x q w = own x.set x (named_some K i m.entries x g.rising q).2 w

  swept-bound : Bound (sweep K m.entries)
  unfolding Bound
  swept-bound =
      (reset K e, kept K m.entries g.rising e.set e its.2 (stays K e (λ i. omega (arith, i.unbound, its.1))), its.0, more)

  acted : (x : Call K) → k + releasing K h x < e.bindings → Bound (act K c m x).map.entries
  unfolding act measure_at bind_at release_at
  acted (measure v attrs) l =
      let p = place K c.limit m (canonical c.filter attrs) in
      bound_or (unfit K m v p) _ (bound-put (recorded K m.settings p.entry v) (there c (canonical c.filter attrs)))
  acted (measure_by i v) l =
      by i (λ x. measure_at K m v (held K m x))
      (λ x q. bound_or (unfit K m v (held K m x)) _
      (bound-put (recorded K m.settings x v) (λ w. subst (λ y. (y.birth ≡ h) × (k < y.bindings)) (sym (named-own i x q w)) (its.0, more))))
  acted (bind attrs) l =
      let p = place K c.limit m (canonical c.filter attrs) in
      bound_or (unless (fits p.last && fits (suc p.entry.bindings)) 9) _
      (bound-put (rebound K p.entry (suc p.entry.bindings)) (λ w. let t = there c (canonical c.filter attrs) w in (t.0, one_more k p.entry.bindings t.1)))
  acted (release i) l =
      by i (λ x. release_at K m x)
      (λ x q. bound-put (rebound K x (x.bindings - 1))
      (λ w.
      let y = named-own i x q w in
      let b = (named_some K i m.entries x g.rising q).0 in
      let d = one_less k (eqb i h) e.bindings (eq-eqb i h (sym b ∙ ap (λ t. t.birth) y ∙ its.0)) l in
      (ap (λ t. t.birth) y ∙ its.0, subst (λ t. k < t.bindings - 1) (sym y) d)))
  acted (collect room) l =
      bound_or (unlisted K m room (points K m.settings m.entries)) _ swept-bound

  -- one call
  pub still-named : (x : Call K) → k + releasing K h x < e.bindings → Names K h e.set k (step K c m x).map
  unfolding Bound
  still-named x l = go (bound_or (upfront K x) (act K c m x) (acted x l)) (named K h m'.entries) refl
    where
      m' : Map K
      m' = (step K c m x).map

      a : Agrees K c m'
      a = step-agrees K c m g x

      go : Bound m'.entries → (o : Option (Entry K)) → named K h m'.entries ≡ o → Names K h e.set k m'
      go b none q = absurd (named_none K h m'.entries e.set b.0 q b.1 b.2 (some_of k b.0.bindings b.3))
      go b (some y) q =
          let w = named_some K h m'.entries y a.rising q in
          let r : y.set ≡ e.set = a.apart y.set e.set y b.0 w.2 b.1 (w.0 ∙ sym b.2) in
          let z : y ≡ b.0 = some_inj (sym w.2 ∙ ap (λ t. find K t m'.entries) r ∙ b.1) in
          (y, q, r, subst (λ (t : Entry K). k < t.bindings) (sym z) b.3)

-- any run of calls: a handle that they release fewer times than it has bindings names its set after it as before
module _ (K : Kind) (c : Config K) (C : Code K) (F : Faithful K c C) (h : ℕ) (r : Set) where
  pub keeps-naming : (xs : List C.Input) (s : C.State) → F.Ok s → Agrees K c (F.view s) → Names K h r (sum (releasing K h) (asked K C xs)) (F.view s)
      → Names K h r 0 (F.view (left K C s xs))
  keeps-naming [] s o y n = n
  keeps-naming (x ∷ xs) s o y n =
      let d = F.steps s x o y in
      let m = F.view s in
      let k = sum (releasing K h) (asked K C xs) in
      let l = first_of (releasing K h (C.asks x)) k n.0.bindings n.3 in
      let w = still-named K c m y h n.0 n.1 k l.0 (C.asks x) l.1 in
      keeps-naming xs (C.call s x).1 d.0 (subst (λ q. Agrees K c q.map) (sym d.1) (step-agrees K c m y (C.asks x)))
      (subst (λ q. Names K h r k q.map) (sym d.1) (w.0, w.1, w.2 ∙ n.2, w.3))
