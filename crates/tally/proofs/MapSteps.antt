-- THE MAP'S STEPS: each call's answer and the map after it, for any kind of series. Assumes nothing.
use Prim.Native.Nat.{ℕ, suc, ◌-◌, ◌^◌}
use mathlib.Core.Bool.{Bool, not, ◌&&◌}
use mathlib.Core.List.{List, [], ◌∷◌}
use mathlib.Core.Option.{Option, none, some}
use lib.Dec.{eqb, leb, ltb}
use lib.ListN.{length}
use Rattle.laws.specs.Pick.{pick}
use Rattle.laws.proofs.Bools.{some?}
use Rattle.tally.specs.Sets.{Set, overflow, three, cmp, canonical}
use Rattle.tally.specs.Kind.{Kind, unless, first_of, Config, Call, measure, measure_by, bind, release, collect, refuse, done, handle, listed}
use Rattle.tally.specs.Map.{Entry, Map, Out, current, find, named, or_refused, plain, points, sound, unlisted}

-- "9: a count, binding count or birth number would pass 2^64 - 1"
abbrev pub fits : ℕ → Bool
fits n = ltb n (2 ^ 64)

module _ (K : Kind) where
  abbrev pub new : Set → ℕ → Entry K
  new s b = record { set = s; birth = b; bindings = 0; series = none }

  -- "Fresh: just configured"
  abbrev pub start : Config K → Map K
  start c = record { settings = c.settings; count = 0; last = 0; entries = new [] 0 ∷ [] }

  -- the entry in the place of its set's, or at its place among the others
  abbrev pub put : Entry K → List (Entry K) → List (Entry K)
  put e [] = e ∷ []
  put e (x ∷ l) = three (cmp e.set x.set) (e ∷ x ∷ l) (e ∷ l) (x ∷ put e l)

  -- the entry that a call comes to, with the map's count and last birth number then
  pub record Place : Type 0 where
    pub entry : Entry K
    pub count : ℕ
    pub last : ℕ

  abbrev pub held : Map K → Entry K → Place
  held m e = record { entry = e; count = m.count; last = m.last }

  abbrev pub held_or : Map K → Option (Entry K) → Place → Place
  held_or m o p = elim o [ none ↦ p | some e ↦ held m e ]

  -- "A new set is made while the map's count is below the limit; otherwise the value goes to the overflow series, which doesn't
  -- raise the count when made that way. Recorded as an ordinary set under the limit, the overflow set does raise it."
  -- "A birth number is spent on each new entry and never again."
  unfoldable pub place : ℕ → Map K → Set → Place
  place limit m s =
      held_or m (find K s m.entries) (pick (ltb m.count limit)
      (record { entry = new s (suc m.last); count = suc m.count; last = suc m.last })
      (held_or m (find K overflow m.entries)
      (record { entry = new overflow (suc m.last); count = m.count; last = suc m.last })))

  abbrev pub write : Map K → Place → Entry K → Map K
  write m p e = record { settings = m.settings; count = p.count; last = p.last; entries = put e m.entries }

  abbrev pub recorded : K.Settings → Entry K → K.Value → Entry K
  recorded z e v = record { set = e.set; birth = e.birth; bindings = e.bindings; series = some (K.add z (current K z e) v) }

  abbrev pub rebound : Entry K → ℕ → Entry K
  rebound e n = record { set = e.set; birth = e.birth; bindings = n; series = e.series }

  -- "Recording: .. 8, 9"; 16 after these (L6)
  abbrev pub unfit : Map K → K.Value → Place → Option ℕ
  unfit m v p =
      let x = current K m.settings p.entry in
      first_of (unless (sound K m.settings p.entry.series) 8 ∷ unless (fits p.last && fits (suc (K.total x))) 9
      ∷ unless (K.allows m.settings x v) 16 ∷ [])

  unfoldable pub measure_at : Map K → K.Value → Place → Out K
  measure_at m v p =
      or_refused K m (unfit m v p) (record { answer = done; map = write m p (recorded m.settings p.entry v) })

  -- "Binding: .. 9"
  unfoldable pub bind_at : Map K → Place → Out K
  bind_at m p =
      or_refused K m (unless (fits p.last && fits (suc p.entry.bindings)) 9)
      (record { answer = handle p.entry.birth; map = write m p (rebound p.entry (suc p.entry.bindings)) })

  -- "Releasing takes one binding off"
  unfoldable pub release_at : Map K → Entry K → Out K
  release_at m e = record { answer = done; map = write m (held m e) (rebound e (e.bindings - 1)) }

  abbrev pub by_handle : Map K → Option (Entry K) → (Entry K → Out K) → Out K
  by_handle m o f = elim o [ none ↦ record { answer = refuse 7; map = m } | some e ↦ f e ]

  -- to be removed: not updated, without bindings, and neither the empty set's, which is always there, nor overflow
  abbrev pub idle : Entry K → Bool
  idle e = not (some? e.series) && (eqb e.bindings 0 && plain e.set)

  abbrev pub reset : Entry K → Entry K
  reset e = record { set = e.set; birth = e.birth; bindings = e.bindings; series = none }

  -- "Delta: updated entries are listed and reset; others, without bindings and not overflow, are removed"
  abbrev pub sweep : List (Entry K) → List (Entry K)
  sweep [] = []
  sweep (e ∷ l) = pick (idle e) (sweep l) (reset e ∷ sweep l)

  -- "the count falls by them"
  abbrev pub swept : Map K → Map K
  swept m =
      let l = sweep m.entries in
      record { settings = m.settings; count = m.count - (length m.entries - length l); last = m.last; entries = l }

  -- Number 12 comes before all others and is about lent stores alone: it belongs to the code. So does the directory's number 8: a
  -- directory that disagrees with itself stands for no map. A call gives 8 for it after `upfront` and before `act`.
  -- The refusals that a call's arguments decide: "6: value NaN or infinite; 5: over 8 attributes, counted before the filter"
  unfoldable pub upfront : Call K → Option ℕ
  upfront (measure v attrs) = first_of (unless (K.finite v) 6 ∷ unless (leb (length attrs) 8) 5 ∷ [])
  upfront (measure_by h v) = unless (K.finite v) 6
  upfront (bind attrs) = unless (leb (length attrs) 8) 5
  upfront (release h) = none
  upfront (collect room) = none

  -- what a call does then, where the directory agrees
  unfoldable pub act : Config K → Map K → Call K → Out K
  act c m (measure v attrs) = measure_at m v (place c.limit m (canonical c.filter attrs))
  act c m (measure_by h v) = by_handle m (named K h m.entries) (λ e. measure_at m v (held m e))
  act c m (bind attrs) = bind_at m (place c.limit m (canonical c.filter attrs))
  act c m (release h) = by_handle m (named K h m.entries) (λ e. release_at m e)
  act c m (collect room) =
      let ps = points K m.settings m.entries in
      or_refused K m (unlisted K m room ps) (record { answer = listed ps; map = swept m })

  abbrev pub step : Config K → Map K → Call K → Out K
  step c m x = or_refused K m (upfront x) (act c m x)
