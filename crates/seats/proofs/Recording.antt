-- A recording at a seating, for any kind of series: what its slot holds, when the series refuses the value, and what else stays. Assumes nothing.
use Rattle.seats.specs.Seats.{Seating}
use Prim.Native.Nat.{ℕ, suc, ◌≤◌}
use mathlib.Core.Path.{◌≡◌}
use mathlib.Core.List.{[], ◌∷◌}
use mathlib.Core.Option.{Option, none, some, get_or}
use Rattle.laws.specs.Pick.{pick}
use Rattle.tally.specs.Kind.{Kind, unless, first_of}
use Rattle.tally.specs.Map.{Entry, sound}
use Rattle.tally.proofs.MapSteps.{fits}
use Rattle.directory.specs.declared.Directory.{Directory}

module _ (K : Kind) where
  -- the series that the seating's slot holds, where f gives each slot's
  abbrev pub held_at : (ℕ → K.Series) → Seating → Option K.Series
  held_at f a = pick a.updated (some (f a.slot)) none

  -- the one that the value is added to: an entry that is not updated has no series and counts as fresh (docs/DECISIONS.md, "Readings of document 01")
  abbrev pub or_fresh : K.Settings → Option K.Series → K.Series
  or_fresh z o = get_or o (K.fresh z)

  -- the series' own refusals, in order: "8: .. touched series disagrees with itself", "9: a count .. would pass 2^64 - 1", 16 (L6)
  abbrev pub refusal : K.Settings → Option K.Series → K.Value → Option ℕ
  refusal z o v =
      first_of (unless (sound K z o) 8 ∷ unless (fits (suc (K.total (or_fresh z o)))) 9 ∷ unless (K.allows z (or_fresh z o) v) 16 ∷ [])

  -- every other used slot's series stays
  abbrev pub Others : (ℕ → K.Series) → (ℕ → K.Series) → Directory → ℕ → Type 0
  Others f g d x = (y : ℕ) → y ≤ d.used → (y ≡ x → ⊥) → g y ≡ f y

  -- the entry with this series
  abbrev pub served : Entry K → K.Series → Entry K
  served e y = record { set = e.set; birth = e.birth; bindings = e.bindings; series = some y }
