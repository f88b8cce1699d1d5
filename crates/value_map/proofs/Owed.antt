-- WHAT A KIND OWES of its store, and all: that the calls do the map's steps, keep what they found and run as the tally says follows once for
-- every kind (Steps.antt, Kept.antt, crate promises). Assumes nothing.
use Prim.Native.Nat.{ℕ, suc, ◌+◌, ◌≤◌}
use mathlib.Core.Path.{◌≡◌}
use mathlib.Core.Bool.{Bool, true, false}
use mathlib.Core.Option.{Option, none, some}
use Rattle.laws.specs.Pick.{pick}
use Rattle.tally.specs.Kind.{Kind}
use Rattle.tally.specs.Map.{sound}
use Rattle.tally.proofs.MapSteps.{fits}
use Rattle.seats.proofs.Recording.{or_fresh}
use Rattle.value_map.specs.Store.{Store, Recording}

module _ {K : Kind} (S : Store K) where
  -- what a caller has tested: the settings, the slot's place and the value
  pub record Fit (c : S.Cells) (x : ℕ) (v : K.Value) : Type 0 where
    pub set : S.unset ≡ 0
    pub room : S.Room c x
    pub value : K.finite v ≡ true

  -- the series that slot x holds, where its entry was updated; and the one that a value is added to
  abbrev pub there : S.Cells → ℕ → Bool → Option K.Series
  there c x u = pick u (some (S.at c x)) none

  abbrev pub was : S.Switches → S.Cells → ℕ → Bool → K.Series
  was w c x u = or_fresh K (S.settings w) (there c x u)

  -- refused with the number n: nothing is written
  abbrev pub refusing : ℕ → S.Cells → Recording S.Cells
  refusing n c = record { no = n; cells = c }

  -- taken: slot x has the series y, every other slot what it had, and the cells suffice as before
  pub record Took (c : S.Cells) (x : ℕ) (o : Recording S.Cells) (y : K.Series) : Type 0 where
    pub no : o.no ≡ 0
    pub own : S.at o.cells x ≡ y
    pub others : (j : ℕ) → (j ≡ x → ⊥) → S.at o.cells j ≡ S.at c j
    pub lent : (limit : ℕ) → S.suffices limit c ≡ true → S.suffices limit o.cells ≡ true

  pub record Owed : Type 1 where
    -- settings that configuring accepts are the kind's, whatever the switches
    pub valid : S.unset ≡ 0 → (w : S.Switches) → K.valid (S.settings w) ≡ true
    -- each of limit + 2 slots lies in cells that suffice
    pub room : (limit : ℕ) (c : S.Cells) (x : ℕ) → S.suffices limit c ≡ true → x ≤ limit + 1 → S.Room c x
    -- "Every refusal changes nothing."
    pub unchanged : (c : S.Cells) (x : ℕ) (u : Bool) (v : K.Value) → ((S.recorded x u c v).no ≡ 0 → ⊥) → (S.recorded x u c v).cells ≡ c
    -- recording is the kind's: 8 where the series disagrees, 9 where its count is full, 16 where the kind does not allow the value (L6), else the
    -- series with one value more
    pub disagreeing : (w : S.Switches) (c : S.Cells) (x : ℕ) (u : Bool) (v : K.Value) → Fit c x v
        → sound K (S.settings w) (there c x u) ≡ false → S.recorded x u c v ≡ refusing 8 c
    pub full : (w : S.Switches) (c : S.Cells) (x : ℕ) (u : Bool) (v : K.Value) → Fit c x v
        → sound K (S.settings w) (there c x u) ≡ true → fits (suc (K.total (was w c x u))) ≡ false → S.recorded x u c v ≡ refusing 9 c
    pub barred : (w : S.Switches) (c : S.Cells) (x : ℕ) (u : Bool) (v : K.Value) → Fit c x v
        → sound K (S.settings w) (there c x u) ≡ true → fits (suc (K.total (was w c x u))) ≡ true
        → K.allows (S.settings w) (was w c x u) v ≡ false → S.recorded x u c v ≡ refusing 16 c
    pub took : (w : S.Switches) (c : S.Cells) (x : ℕ) (u : Bool) (v : K.Value) → Fit c x v
        → sound K (S.settings w) (there c x u) ≡ true → fits (suc (K.total (was w c x u))) ≡ true
        → K.allows (S.settings w) (was w c x u) v ≡ true → Took c x (S.recorded x u c v) (K.add (S.settings w) (was w c x u) v)
