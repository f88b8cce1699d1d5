-- Releasing is the map's step, for any kind of series. Assumes nothing.
use Rattle.std.specs.Prelude.{Ok, Err, Result, ℕ}
use Prim.Native.Nat.{ℕ, ◌+◌, ◌-◌, ◌≤◌}
use mathlib.Core.Path.{◌≡◌, refl, ap, sym, subst, ◌∙◌}
use mathlib.Core.Bool.{true, false}
use mathlib.Core.List.{[], map}
use mathlib.Core.Option.{none, some}
use native.Mathlib.Omega.{arith}
use lib.ListN.{length, get_or}
use Rattle.tally.specs.Kind.{Kind}
use Rattle.tally.specs.Map.{Config, Map, Call, release, named}
use Rattle.tally.proofs.MapSteps.{step, upfront, act, release_at}
use Rattle.directory.specs.Calls.{scan}
use Rattle.directory.specs.View.{Stores, agreesb, entry_at, view}
use Rattle.directory.specs.declared.Directory.{Directory}
use Rattle.directory.proofs.Finds.{scan-bound}
use Rattle.directory.proofs.Laws.{slots_of, named-scan, entry_of, rebind-put, ascends, few, scan_in, slot-used}
use Rattle.bindings.specs.Calls.{map_answer, released_in, released_at, refused, Outcome}
use Rattle.bindings.specs.Inner.{Bound}
use Rattle.laws.specs.Pick.{pick}

-- the cases of a release
module _ (limit : ℕ) (d : Directory) (s : Stores) (h : ℕ) where
  pub release-no : agreesb limit d s ≡ false → released_in limit d s h ≡ refused 8 d s
  unfolding released_in pick
  release-no g = rw g

  module _ (g : agreesb limit d s ≡ true) (o : Result ℕ ℕ) (e : scan h s.entries (slots_of d s) ≡ o) where
    pub release-at : released_in limit d s h ≡ released_at d s o
    unfolding released_in pick
    release-at = rw (g, e)

-- what a handle is found to name is there and has a binding
pub bound-there : (limit : ℕ) (d : Directory) (s : Stores) (h : ℕ) → agreesb limit d s ≡ true → limit + 2 ≤ length s.entries
    → (o : Result ℕ ℕ) → scan h s.entries (slots_of d s) ≡ o → Bound s.entries o
bound-there limit d s h g l (Err r) e = tt
bound-there limit d s h g l (Ok x) e = (
  omega (arith, l, few limit d s g, slot-used limit d s g x (scan_in h s.entries x (slots_of d s) e)),
  scan-bound h s.entries x (slots_of d s) e,
)

module _ (K : Kind) (f : ℕ → K.Series) (z : K.Settings) where
  release-step : (c : Config K) (d : Directory) (s : Stores) (h : ℕ) → agreesb c.limit d s ≡ true → c.limit + 2 ≤ length s.entries
      → (o : Result ℕ ℕ) → scan h s.entries (slots_of d s) ≡ o
      → (map_answer K (released_at d s o).answer ≡ (step K c (view K f z d s) (release h)).answer)
      × (view K f z (released_at d s o).kept.dir (released_at d s o).kept.stores ≡ (step K c (view K f z d s) (release h)).map)
  unfolding upfront act release_at
  release-step c d s h g r (Err i) e =
      let n : named K h (map (entry_at K f s) (slots_of d s)) ≡ none = named-scan K f s h (slots_of d s) ∙ ap (entry_of K f s h) e in
      rw n (refl, refl)
  release-step c d s h g r (Ok x) e =
      let n : named K h (map (entry_at K f s) (slots_of d s)) ≡ some (entry_at K f s x) = named-scan K f s h (slots_of d s) ∙ ap (entry_of K f s h) e in
      let m = scan_in h s.entries x (slots_of d s) e in
      let u = slot-used c.limit d s g x m in
      let w = few c.limit d s g in
      let p = rebind-put K f s x (get_or (get_or s.entries x []) 1 0 - 1) (slots_of d s) (ascends c.limit d s g) m (omega arith) in
      rw n (refl, ap (λ l. record { settings = z; count = d.count; last = d.last; entries = l }) p)

  -- an outcome is the map's step: its answer, and the map that is then held
  abbrev pub Steps : Config K → Map K → Call K → Outcome → Type 0
  Steps c m x o = (map_answer K o.answer ≡ (step K c m x).answer) × (view K f z o.kept.dir o.kept.stores ≡ (step K c m x).map)

  -- releasing is the map's step, where the directory agrees
  pub release-faithful : (c : Config K) (d : Directory) (s : Stores) (h : ℕ) → agreesb c.limit d s ≡ true → c.limit + 2 ≤ length s.entries
      → Steps c (view K f z d s) (release h) (released_in c.limit d s h)
  release-faithful c d s h g r =
      subst (λ o. Steps c (view K f z d s) (release h) o) (sym (release-at c.limit d s h g (scan h s.entries (slots_of d s)) refl)) (release-step c d s h g r (scan h s.entries (slots_of d s)) refl)
