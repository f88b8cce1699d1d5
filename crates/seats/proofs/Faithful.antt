-- Recording is the map's step, for any kind of series, by set and by handle: a kind owes its series' refusal and the series with the
-- value added, and nothing of the directory. Assumes nothing.
use Rattle.std.specs.Prelude.{Ok, Err, Result, ℕ}
use Prim.Native.Nat.{ℕ, suc, ◌+◌, ◌^◌, ◌≤◌, ◌<◌}
use mathlib.Core.Path.{◌≡◌, refl, ap, sym, subst, ◌∙◌}
use mathlib.Core.Bool.{Bool, true, false, ◌&&◌}
use mathlib.Core.List.{List, [], ◌∷◌}
use mathlib.Core.Option.{Option, none, some}
use native.Mathlib.Omega.{arith}
use lib.ListN.{length}
use Rattle.tally.specs.Sets.{Set, canonical}
use Rattle.tally.specs.Kind.{Kind, unless, first_of}
use Rattle.tally.specs.Map.{Config, Entry, Map, sound, or_refused, named, measure, measure_by, refuse, done}
use Rattle.tally.proofs.MapSteps.{fits, Place, held, place, recorded, write, unfit, measure_at, act}
use Rattle.sets.specs.Rows.{set_of}
use Rattle.directory.specs.View.{Stores, agreesb, entry_at, view}
use Rattle.directory.specs.Calls.{Kept, scan}
use Rattle.directory.specs.declared.Directory.{Directory}
use Rattle.directory.proofs.Laws.{slots_of, named-scan, scan_in}
use Rattle.seats.specs.Seats.{held_seat, seated, seat_by, seated_by, committed, Seating}
use Rattle.seats.proofs.Recording.{held_at, or_fresh, refusal, Others, served}
use Rattle.seats.proofs.Commits.{commit-old}
use Rattle.seats.proofs.Seatings.{by-is}
use Rattle.seats.proofs.Sits.{Sits, Spent, old-sits, seat-sits, seat-spent}

-- the map's refusal at a place: by whether the birth number there fits, and by the series
module _ (K : Kind) (m : Map K) (v : K.Value) (p : Place K) where
  abbrev by : Bool → Option K.Series → Option ℕ
  by b o =
      first_of (unless (sound K m.settings o) 8 ∷ unless (b && fits (suc (K.total (or_fresh K m.settings o)))) 9
      ∷ unless (K.allows m.settings (or_fresh K m.settings o) v) 16 ∷ [])

  unfit-by : (b : Bool) (o : Option K.Series) → fits p.last ≡ b → p.entry.series ≡ o → unfit K m v p ≡ by b o
  unfit-by b o e i = ap (λ c. by c p.entry.series) e ∙ ap (by b) i

-- recording at a place where a seating sits: the refusal is the series' own
module _ (K : Kind) (f : ℕ → K.Series) (z : K.Settings) (d : Directory) (s : Stores) (a : Seating) (k : Kept) (p : Place K) (t : Sits K f z d s a k p) (v : K.Value) where
  unfit-is : unfit K (view K f z d s) v p ≡ refusal K z (held_at K f a) v
  unfit-is = unfit-by K (view K f z d s) v p true (held_at K f a) t.fit t.series

  pub at-refused : (n : ℕ) → refusal K z (held_at K f a) v ≡ some n → measure_at K (view K f z d s) v p ≡ record { answer = refuse n; map = view K f z d s }
  unfolding measure_at
  at-refused n e =
      ap (λ u. or_refused K (view K f z d s) u (record { answer = done; map = write K (view K f z d s) p (recorded K z p.entry v) })) (unfit-is ∙ e)

  -- h: each slot's series afterwards
  pub at_done : refusal K z (held_at K f a) v ≡ none → (h : ℕ → K.Series) → h a.slot ≡ K.add z (or_fresh K z (held_at K f a)) v → Others K f h d a.slot
      → measure_at K (view K f z d s) v p ≡ record { answer = done; map = view K h z k.dir k.stores }
  unfolding measure_at
  at_done e h q o =
      ap (λ u. or_refused K (view K f z d s) u (record { answer = done; map = write K (view K f z d s) p (recorded K z p.entry v) })) (unfit-is ∙ e)
      ∙ ap (λ y. record { answer = done; map = write K (view K f z d s) p (served K p.entry y) }) (ap (λ x. K.add z (or_fresh K z x) v) t.series ∙ sym q)
      ∙ ap (λ w. record { answer = done; map = w }) (sym (t.kept h o))

-- and at one where the birth numbers are spent
module _ (K : Kind) (m : Map K) (a : Seating) (p : Place K) (t : Spent K a p) (v : K.Value) where
  at-spent : measure_at K m v p ≡ record { answer = refuse a.no; map = m }
  unfolding measure_at
  at-spent =
      ap (λ u. or_refused K m u (record { answer = done; map = write K m p (recorded K m.settings p.entry v) })) (unfit-by K m v p false none t.full t.series)
      ∙ ap (λ i. record { answer = refuse i; map = m }) (sym t.no)

module _ (K : Kind) (f : ℕ → K.Series) (z : K.Settings) (c : Config K) (d : Directory) (s : Stores) (g : agreesb c.limit d s ≡ true) (small : d.last < 2 ^ 64)
    (ls : c.limit + 2 ≤ length s.sets) (le : c.limit + 2 ≤ length s.entries) (lo : c.limit + 2 ≤ length s.order) where
  abbrev m : Map K
  m = view K f z d s

  -- BY SET. The row is that of the call's set
  module _ (row : List ℕ) (attrs : Set) (is : set_of row ≡ canonical c.filter attrs) (v : K.Value) where
    abbrev p : Place K
    p = place K c.limit m (set_of row)

    abbrev here : Seating
    here = seated c.limit d s row

    comes : act K c m (measure v attrs) ≡ measure_at K m v p
    unfolding act
    comes = rw is

    -- the directory's own refusal
    pub measure-away : (here.no ≡ 0 → ⊥) → act K c m (measure v attrs) ≡ record { answer = refuse here.no; map = m }
    measure-away n = comes ∙ at-spent K m here p (seat-spent K f z c.limit d s g ls le lo row small n) v

    module _ (n : here.no ≡ 0) where
      abbrev kept : Kept
      kept = committed d s row here.target

      sits : Sits K f z d s here kept p
      sits = seat-sits K f z c.limit d s g ls le lo row small n

      -- the series' refusal
      pub measure-refused : (i : ℕ) → refusal K z (held_at K f here) v ≡ some i → act K c m (measure v attrs) ≡ record { answer = refuse i; map = m }
      measure-refused i e = comes ∙ at-refused K f z d s here kept p sits v i e

      -- the series takes the value; h gives each slot's series afterwards
      pub measure-done : refusal K z (held_at K f here) v ≡ none → (h : ℕ → K.Series) → h here.slot ≡ K.add z (or_fresh K z (held_at K f here)) v → Others K f h d here.slot
          → act K c m (measure v attrs) ≡ record { answer = done; map = view K h z kept.dir kept.stores }
      measure-done e h q o = comes ∙ at_done K f z d s here kept p sits v e h q o

  -- BY HANDLE
  module _ (b : ℕ) (row : List ℕ) (v : K.Value) where
    abbrev there : Seating
    there = seated_by c.limit d s b

    -- what the handle names
    none_named : (r : ℕ) → scan b s.entries (slots_of d s) ≡ Err r → named K b m.entries ≡ none
    none_named r e = rw e at (named-scan K f s b (slots_of d s))

    one-named : (x : ℕ) → scan b s.entries (slots_of d s) ≡ Ok x → named K b m.entries ≡ some (entry_at K f s x)
    one-named x e = rw e at (named-scan K f s b (slots_of d s))

    by-none : named K b m.entries ≡ none → act K c m (measure_by b v) ≡ record { answer = refuse 7; map = m }
    unfolding act
    by-none e = rw e

    by-some : (e : Entry K) → named K b m.entries ≡ some e → act K c m (measure_by b v) ≡ measure_at K m v (held K m e)
    unfolding act
    by-some e i = rw i

    -- the directory's own refusal
    abbrev AwayBy : Seating → Type 0
    AwayBy a = (a.no ≡ 0 → ⊥) → act K c m (measure_by b v) ≡ record { answer = refuse a.no; map = m }

    pub by-away : AwayBy there
    by-away = subst AwayBy (sym (by-is c.limit d s b g _ refl)) (go (scan b s.entries (slots_of d s)) refl)
      where
        go : (o : Result ℕ ℕ) → scan b s.entries (slots_of d s) ≡ o → AwayBy (seat_by s o)
        go (Err r) e = λ n. by-none (none_named r e)
        go (Ok x) e = λ n. absurd (n refl)

    -- unless it is refused, the seating is the entry that the handle names
    abbrev SatBy : Seating → Type 0
    SatBy a = a.no ≡ 0 → (e : Entry K) × (named K b m.entries ≡ some e) × Sits K f z d s a (committed d s row a.target) (held K m e)

    by-sits : SatBy there
    by-sits = subst SatBy (sym (by-is c.limit d s b g _ refl)) (go (scan b s.entries (slots_of d s)) refl)
      where
        go : (o : Result ℕ ℕ) → scan b s.entries (slots_of d s) ≡ o → SatBy (seat_by s o)
        go (Err r) e = λ n. absurd (omega arith)
        go (Ok x) e =
            let i = old-sits K f z c.limit d s g ls le lo small x (scan_in b s.entries x (slots_of d s) e) in
            λ n. (entry_at K f s x, one-named x e, subst (λ k. Sits K f z d s (held_seat s.entries x) k (held K m (entry_at K f s x))) (sym (commit-old d s row x)) i)

    module _ (n : there.no ≡ 0) where
      abbrev kept_by : Kept
      kept_by = committed d s row there.target

      pub by-refused : (i : ℕ) → refusal K z (held_at K f there) v ≡ some i → act K c m (measure_by b v) ≡ record { answer = refuse i; map = m }
      by-refused i e =
          let t = by-sits n in
          by-some t.0 t.1 ∙ at-refused K f z d s there kept_by (held K m t.0) t.2 v i e

      pub by-done : refusal K z (held_at K f there) v ≡ none → (h : ℕ → K.Series) → h there.slot ≡ K.add z (or_fresh K z (held_at K f there)) v → Others K f h d there.slot
          → act K c m (measure_by b v) ≡ record { answer = done; map = view K h z kept_by.dir kept_by.stores }
      by-done e h q o =
          let t = by-sits n in
          by-some t.0 t.1 ∙ at_done K f z d s there kept_by (held K m t.0) t.2 v e h q o
