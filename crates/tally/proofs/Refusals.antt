-- A refused call leaves the map as it was, and a cumulative collection always does. Assumes nothing.
use Prim.Native.Nat.{ℕ, suc}
use mathlib.Core.Path.{◌≡◌, refl, ap, sym, ◌∙◌}
use mathlib.Core.Bool.{Bool, true, false, ◌&&◌}
use mathlib.Core.List.{map}
use mathlib.Core.Option.{Option, none, some}
use Rattle.laws.proofs.Cases.{true-not-false}
use Rattle.tally.specs.Sets.{canonical}
use Rattle.tally.specs.Kind.{Kind, unless, Room}
use Rattle.tally.specs.Map.{Config, Entry, Map, Call, measure, measure_by, bind, release, collect, Answer, refuse, done, handle, listed, Out, or_refused, named, filled, unlisted, points, cumulate}
use Rattle.tally.proofs.MapSteps.{by_handle, Place, place, held, write, recorded, rebound, swept, unfit, fits, measure_at, bind_at, release_at, upfront, act, step}

module _ (K : Kind) (m : Map K) where
  refuse? : Answer K → Bool
  refuse? (refuse n) = true
  refuse? done = false
  refuse? (handle b) = false
  refuse? (listed ps) = false

  -- an outcome that, refused, is that of the map as it was
  abbrev Whole : Out K → Type 0
  Whole o = refuse? o.answer ≡ true → o.map ≡ m

  whole_or : (n : Option ℕ) (o : Out K) → Whole o → Whole (or_refused K m n o)
  whole_or none o h = h
  whole_or (some n) o h = λ e. refl

  -- a refusal, or an answer that is none
  whole-told : (n : Option ℕ) (a : Answer K) (r : Map K) → refuse? a ≡ false → Whole (or_refused K m n (record { answer = a; map = r }))
  whole-told none a r f = λ e. true-not-false (sym e ∙ f)
  whole-told (some n) a r f = λ e. refl

  whole-handle : (o : Option (Entry K)) (f : Entry K → Out K) → ((e : Entry K) → Whole (f e)) → Whole (by_handle K m o f)
  whole-handle none f h = λ e. refl
  whole-handle (some x) f h = h x

  whole-measure : (v : K.Value) (p : Place K) → Whole (measure_at K m v p)
  unfolding measure_at refuse?
  whole-measure v p = whole-told (unfit K m v p) done (write K m p (recorded K m.settings p.entry v)) refl

  whole-act : (c : Config K) (x : Call K) → Whole (act K c m x)
  unfolding act bind_at release_at refuse?
  whole-act c (measure v attrs) = whole-measure v (place K c.limit m (canonical c.filter attrs))
  whole-act c (measure_by h v) = whole-handle (named K h m.entries) (λ e. measure_at K m v (held K m e)) (λ e. whole-measure v (held K m e))
  whole-act c (bind attrs) =
      let p = place K c.limit m (canonical c.filter attrs) in
      whole-told (unless (fits p.last && fits (suc p.entry.bindings)) 9) (handle p.entry.birth) (write K m p (rebound K p.entry (suc p.entry.bindings))) refl
  whole-act c (release h) =
      whole-handle (named K h m.entries) (λ e. release_at K m e) (λ e. whole-told none done (release_at K m e).map refl)
  whole-act c (collect room) =
      let ps = points K m.settings m.entries in
      whole-told (unlisted K m room ps) (listed ps) (swept K m) refl

  pub refused-whole : (c : Config K) (x : Call K) (n : ℕ) → (step K c m x).answer ≡ refuse n → (step K c m x).map ≡ m
  unfolding refuse?
  refused-whole c x n e = whole_or (upfront K x) (act K c m x) (whole-act c x) (ap refuse? e)

  pub cumulative-whole : (room : Room) → (cumulate K m room).map ≡ m
  unfolding cumulate
  cumulative-whole room =
      let ps = points K m.settings (map (filled K m.settings) m.entries) in
      go (unlisted K m room ps) (record { answer = listed ps; map = m }) refl
    where
      go : (n : Option ℕ) (o : Out K) → o.map ≡ m → (or_refused K m n o).map ≡ m
      go none o e = e
      go (some n) o e = refl
