-- The public calls are the map's steps and keep the directory's agreement, from every agreeing state and from a fresh start.
-- Assumes nothing.
use Rattle.std.specs.Prelude.{Ok, Err, Result, ℕ}
use Prim.Native.Nat.{ℕ, ◌+◌, ◌-◌, ◌^◌, ◌≤◌, ◌<◌}
use mathlib.Core.Path.{◌≡◌, refl, ap, sym, subst, ◌∙◌}
use mathlib.Core.Bool.{Bool, true, false}
use mathlib.Core.List.{List, [], ◌∷◌}
use mathlib.Core.Option.{Option, none}
use native.Mathlib.Omega.{arith}
use borrow.Author.Tests.{le-leb, leb-true}
use lib.Dec.{leb}
use lib.ListN.{length, get_or, set}
use lib.Seq.{get_or-set_same}
use Rattle.laws.specs.Pick.{pick}
use Rattle.tally.specs.Sets.{Set, canonical, Keyed, Lendable}
use Rattle.tally.specs.Kind.{Kind}
use Rattle.tally.specs.Map.{Config, bind, release, Agrees}
use Rattle.tally.proofs.MapSteps.{start, upfront, act}
use Rattle.tally.proofs.Agree.{step-agrees}
use Rattle.sets.specs.All.{allb}
use Rattle.sets.specs.Rows.{size, set_of, row_of}
use Rattle.sets.specs.Sorted.{most_attributes}
use Rattle.sets.proofs.CallRow.{row-set, row_keyed, row-short}
use Rattle.sets.proofs.Keyed.{keyed-sound}
use Rattle.directory.specs.Calls.{Kept, over_row, located, scan, most_sets, accepts, stores_suffice}
use Rattle.directory.specs.View.{Stores, Laid, slotsb, agreesb, view}
use Rattle.directory.specs.declared.Directory.{Directory}
use Rattle.directory.specs.declared.Target.{Target}
use Rattle.directory.specs.declared.Target.TheVariants.{Disagrees, Old, New, Over}
use Rattle.directory.proofs.Laid.{laid, laid-agrees, laid_rebind, laid_admit}
use Rattle.directory.proofs.Laws.{slots_of, few, slot-used, scan_in}
use Rattle.directory.proofs.Located.{blank, told, old-there, new-there, over-there, some_words, sound-over}
use Rattle.directory.proofs.Refusals.{suffices}
use Rattle.directory.proofs.Tied.{agreed}
use Rattle.bindings.specs.Calls.{Outcome, refused, released_at, released_in, bound_at, bound_in, fresh, started, bound, released}
use Rattle.bindings.proofs.Binds.{bind-faithful}
use Rattle.bindings.proofs.Releases.{Steps, release-faithful}

-- what holds of both outcomes holds of the one picked
pub either : (P : Outcome → Type 0) (b : Bool) (o p : Outcome) → (b ≡ true → P o) → (b ≡ false → P p) → P (pick b o p)
unfolding pick
either P true o p f g = f refl
either P false o p f g = g refl

-- the layout, and the agreement, of an outcome's stores
abbrev LaidIn : Outcome → Type 0
LaidIn o = Laid o.kept.dir o.kept.stores

abbrev pub AgreesIn : ℕ → Outcome → Type 0
AgreesIn limit o = agreesb limit o.kept.dir o.kept.stores ≡ true

-- binding keeps the layout
module _ (limit : ℕ) (d : Directory) (s : Stores) (row : List ℕ) (g : agreesb limit d s ≡ true)
    (ls : limit + 2 ≤ length s.sets) (le : limit + 2 ≤ length s.entries) (lo : limit + 2 ≤ length s.order)
    (keyed : Keyed (set_of row)) (short : size row ≤ 8) where
  laid-at : (t : Target) → located limit d s row ≡ t → LaidIn (bound_at d s row t)
  laid-at Disagrees e = laid limit d s g
  laid-at (Old x) e =
      either LaidIn (leb 18446744073709551615 (get_or (get_or s.entries x []) 1 0)) _ _ (λ b. laid limit d s g)
      (λ b. laid_rebind d s x (get_or (get_or s.entries x []) 1 0 + 1) (old-there limit d s row x e le) (laid limit d s g))
  laid-at (New r) e =
      let n = new-there limit d s row r e in
      let w = some_words row d.used s.sets s.order r (told limit d s row (New r) e).1 in
      either LaidIn (leb 18446744073709551615 d.last) _ _ (λ b. laid limit d s g)
      (λ b. laid_admit d s row r 1 1 (omega (arith, n.1)) (omega (arith, n.1)) (omega (arith, n.1)) n.0 (keyed-sound row w short keyed) (laid limit d s g))
  laid-at (Over q) e =
      let n = over-there limit d s row q e in
      either LaidIn (leb 18446744073709551615 d.last) _ _ (λ b. laid limit d s g)
      (λ b. laid_admit d s over_row q 0 1 (omega (arith, n.1)) (omega (arith, n.1)) (omega (arith, n.1)) n.0 sound-over (laid limit d s g))

  bound-laid : LaidIn (bound_in limit d s row)
  unfolding bound_in
  bound-laid = laid-at (located limit d s row) refl

-- releasing keeps it
module _ (limit : ℕ) (d : Directory) (s : Stores) (h : ℕ) (g : agreesb limit d s ≡ true) (le : limit + 2 ≤ length s.entries) where
  freed-laid : (o : Result ℕ ℕ) → scan h s.entries (slots_of d s) ≡ o → LaidIn (released_at d s o)
  freed-laid (Err r) e = laid limit d s g
  freed-laid (Ok x) e =
      let u = slot-used limit d s g x (scan_in h s.entries x (slots_of d s) e) in
      laid_rebind d s x (get_or (get_or s.entries x []) 1 0 - 1) (omega (arith, few limit d s g)) (laid limit d s g)

  released-laid : LaidIn (released_in limit d s h)
  unfolding released_in
  released-laid = either LaidIn (agreesb limit d s) _ _ (λ b. freed-laid (scan h s.entries (slots_of d s)) refl) (λ b. laid limit d s g)

module _ (limit : ℕ) (filter : Option (List ℕ)) (d : Directory) (s : Stores) (attrs : Set) where
  bound-is : stores_suffice limit s ≡ true → leb (length attrs) most_attributes ≡ true → accepts limit filter ≡ true → bound limit filter d s attrs ≡ bound_in limit d s (row_of (canonical filter attrs))
  unfolding bound pick
  bound-is e h a = rw (e, h, a)

  bound-many : stores_suffice limit s ≡ true → leb (length attrs) most_attributes ≡ false → bound limit filter d s attrs ≡ refused 5 d s
  unfolding bound pick
  bound-many e h = rw (e, h)

-- FAITHFUL. Each call is the map's step, wherever the directory agrees, in stores that suffice
module _ (K : Kind) (f : ℕ → K.Series) (z : K.Settings) (c : Config K) (d : Directory) (s : Stores) (g : agreesb c.limit d s ≡ true) (e : stores_suffice c.limit s ≡ true) where
  too_many : (attrs : Set) → leb (length attrs) 8 ≡ false → Steps K f z c (view K f z d s) (bind attrs) (refused 5 d s)
  unfolding upfront act
  too_many attrs h = rw h (refl, refl)

  pub bind-steps : (attrs : Set) → Lendable attrs → d.last < 2 ^ 64 → accepts c.limit c.filter ≡ true
      → Steps K f z c (view K f z d s) (bind attrs) (bound c.limit c.filter d s attrs)
  bind-steps attrs small last a = go (leb (length attrs) 8) refl
    where
      go : (b : Bool) → leb (length attrs) 8 ≡ b → Steps K f z c (view K f z d s) (bind attrs) (bound c.limit c.filter d s attrs)
      go true h =
          let n = leb-true (length attrs) 8 h in
          let r = suffices c.limit s e in
          subst (λ o. Steps K f z c (view K f z d s) (bind attrs) o) (sym (bound-is c.limit c.filter d s attrs e h a))
          (bind-faithful K f z c d s (row_of (canonical c.filter attrs)) last r.sets r.entries r.order attrs n (row-set c.filter attrs small n) g)
      go false h =
          subst (λ o. Steps K f z c (view K f z d s) (bind attrs) o) (sym (bound-many c.limit c.filter d s attrs e h)) (too_many attrs h)

  released-is : (h : ℕ) → c.limit ≤ most_sets → released c.limit d s h ≡ released_in c.limit d s h
  unfolding released pick
  released-is h k = rw (e, le-leb c.limit most_sets k)

  pub release-steps : (h : ℕ) → c.limit ≤ most_sets → Steps K f z c (view K f z d s) (release h) (released c.limit d s h)
  release-steps h k =
      subst (λ o. Steps K f z c (view K f z d s) (release h) o) (sym (released-is h k)) (release-faithful K f z c d s h g (suffices c.limit s e).entries)

-- KEPT. The directory agrees after each call as before it
module _ (limit : ℕ) (d : Directory) (s : Stores) (g : agreesb limit d s ≡ true) where
  abbrev config : Option (List ℕ) → Config blank
  config filter = record { settings = tt; limit = limit; filter = filter }

  before_it : (filter : Option (List ℕ)) → Agrees blank (config filter) (view blank (λ k. tt) tt d s)
  before_it filter = agreed blank (λ k. tt) tt (config filter) d s g

  pub bind-keeps : (filter : Option (List ℕ)) (attrs : Set) → Lendable attrs → d.last < 2 ^ 64 → AgreesIn limit (bound limit filter d s attrs)
  unfolding bound
  bind-keeps filter attrs small last =
      either (AgreesIn limit) (stores_suffice limit s) _ _
      (λ e. either (AgreesIn limit) (leb (length attrs) most_attributes) _ _
      (λ h. either (AgreesIn limit) (accepts limit filter) _ _ (λ a. on e (leb-true (length attrs) 8 h)) (λ a. g))
      (λ h. g))
      (λ e. g)
    where
      on : stores_suffice limit s ≡ true → length attrs ≤ 8 → AgreesIn limit (bound_in limit d s (row_of (canonical filter attrs)))
      on e n =
          let r = suffices limit s e in
          let row = row_of (canonical filter attrs) in
          let o = bound_in limit d s row in
          let p = bind-faithful blank (λ k. tt) tt (config filter) d s row last r.sets r.entries r.order attrs n (row-set filter attrs small n) g in
          laid-agrees blank (λ k. tt) tt (config filter) o.kept.dir o.kept.stores
          (bound-laid limit d s row g r.sets r.entries r.order (row_keyed filter attrs small n) (row-short filter attrs small n))
          (subst (Agrees blank (config filter)) (sym p.1) (step-agrees blank (config filter) (view blank (λ k. tt) tt d s) (before_it filter) (bind attrs)))

  pub release-keeps : (h : ℕ) → AgreesIn limit (released limit d s h)
  unfolding released
  release-keeps h =
      either (AgreesIn limit) (stores_suffice limit s) _ _ (λ e. either (AgreesIn limit) (leb limit most_sets) _ _ (λ k. on e) (λ k. g)) (λ e. g)
    where
      on : stores_suffice limit s ≡ true → AgreesIn limit (released_in limit d s h)
      on e =
          let r = suffices limit s e in
          let o = released_in limit d s h in
          let p = release-faithful blank (λ k. tt) tt (config none) d s h g r.entries in
          laid-agrees blank (λ k. tt) tt (config none) o.kept.dir o.kept.stores (released-laid limit d s h g r.entries)
          (subst (Agrees blank (config none)) (sym p.1) (step-agrees blank (config none) (view blank (λ k. tt) tt d s) (before_it none) (release h)))

-- FRESH. A fresh start is the map's, and agrees
module _ (limit : ℕ) (filter : Option (List ℕ)) (s : Stores) (a : accepts limit filter ≡ true) (e : stores_suffice limit s ≡ true) where
  abbrev pub wiped : Stores
  wiped = record { sets = s.sets; entries = set s.entries 0 (0 ∷ 0 ∷ 0 ∷ []); order = s.order }

  pub start_is : (started limit filter s).kept ≡ record { dir = fresh; stores = wiped }
  unfolding started pick
  start_is = rw (a, e)

  fresh-agrees : agreesb limit fresh wiped ≡ true
  unfolding agreesb slotsb allb
  fresh-agrees = rw (le-leb 0 (limit + 1) (omega arith), le-leb 0 limit (omega arith))

  pub start-keeps : AgreesIn limit (started limit filter s)
  start-keeps = subst (λ (k : Kept). agreesb limit k.dir k.stores ≡ true) (sym start_is) fresh-agrees

  pub start-map : (K : Kind) (f : ℕ → K.Series) (z : K.Settings)
      → view K f z (started limit filter s).kept.dir (started limit filter s).kept.stores ≡ start K (record { settings = z; limit = limit; filter = filter })
  unfolding pick
  start-map K f z =
      let q : get_or wiped.entries 0 [] ≡ 0 ∷ 0 ∷ 0 ∷ [] = get_or-set_same s.entries 0 (0 ∷ 0 ∷ 0 ∷ []) [] (omega (arith, (suffices limit s e).entries)) in
      ap (λ (k : Kept). view K f z k.dir k.stores) start_is ∙ rw q
