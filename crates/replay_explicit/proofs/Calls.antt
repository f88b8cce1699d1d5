-- The state after each call of a line, from what the call is given. Assumes nothing.
use Prim.Native.Nat.{ℕ}
use mathlib.Core.Path.{◌≡◌, ap, ◌∙◌}
use mathlib.Core.List.{List}
use lib.Dec.{eqb}
use lib.ListN.{take}
use lib.Ieee.{Float, binary64, of_bits}
use Rattle.sets.specs.Sorted.{given, filter_of}
use Rattle.directory.specs.View.{Stores}
use Rattle.explicit_slots.specs.Cells.{Cells}
use Rattle.value_map.specs.Calls.{Outcome, held, measured, measured_by}
use Rattle.value_map.specs.Explicit.{explicit_store}
use Rattle.listing.specs.Listed.{Output}
use Rattle.collecting.specs.Configured.{Configuring}
use Rattle.collecting.specs.Collected.{Collected, delta_collected, cumulative_collected}
use Rattle.explicit_collection.specs.Points.{explicit_lister}
use Rattle.explicit_collection.specs.Configured.{configured}
use Rattle.explicit_collection.specs.declared.Settings.{Settings}
use Rattle.explicit_collection.specs.declared.Setup.{Setup}
use Rattle.replay_state.specs.declared.State.{State}
use Rattle.replay_state.specs.After.{field}
use Rattle.replay_explicit.specs.Followed.{waiting_in, bounds_in, configured_by, recorded}
use Rattle.replay_explicit.specs.Followed.{after_configured, after_measured, after_measured_by}
use Rattle.replay_explicit.specs.Collected.{listed, after_delta, after_cumulative}

-- the series' stores as they are lent
abbrev series : List ℕ → List (List Float) → List ℕ → Cells
series totals extremes counts = record { totals = totals; extremes = extremes; counts = counts }

abbrev out : List (List ℕ) → List (List ℕ) → List ℕ → List ℕ → Output
out sets words pos neg = record { sets = sets; words = words; pos = pos; neg = neg }

abbrev set-up : State → Configuring Setup → State
set-up s x = configured_by x.answer s

pub series-are : {totals totals' counts counts' : List ℕ} {extremes extremes' : List (List Float)}
    → totals ≡ totals' → extremes ≡ extremes' → counts ≡ counts' → series totals extremes counts ≡ series totals' extremes' counts'
series-are p q o = λ i. series (p i) (q i) (o i)

pub output-is : {sets sets' words words' : List (List ℕ)} {pos pos' neg neg' : List ℕ}
    → sets ≡ sets' → words ≡ words' → pos ≡ pos' → neg ≡ neg' → out sets words pos neg ≡ out sets' words' pos' neg'
output-is p q o r = λ i. out (p i) (q i) (o i) (r i)

module _ (s : State) (all b : List Float) (d d' : Stores) (c c' : Cells) (p : d ≡ d') (q : c ≡ c') where
  pub configures : (keys : List ℕ) → b ≡ waiting_in s all → keys ≡ take s.next_keys s.next_filter
      → (x : Configuring Setup)
      → x ≡ configured b (eqb (field s 8) 49) (eqb (field s 9) 49) (field s 6) (filter_of s.next_filtered keys) d c
      → set-up s x ≡ after_configured s all d' c'
  unfolding after_configured
  configures keys k f x e =
      ap (set-up s) e
      ∙ (λ i. set-up s (configured (k i) (eqb (field s 8) 49) (eqb (field s 9) 49) (field s 6) (filter_of s.next_filtered (f i))
      (p i) (q i)))

  module _ (k : b ≡ bounds_in s all) where
    pub measures : (v : Float) (attrs attrs' : List (List ℕ)) (keys : List ℕ)
        → v ≡ of_bits binary64 (field s 1) → attrs ≡ attrs' → keys ≡ take s.keys s.filter
        → (x : Outcome Cells) → x ≡ measured (explicit_store b) s.limit (filter_of s.filtered keys) (held s.dir d c) v (given attrs)
        → recorded s x ≡ after_measured s all (given attrs') d' c'
    unfolding after_measured
    measures v attrs attrs' keys w t f x e =
        ap (recorded s) e
        ∙ (λ i. recorded s (measured (explicit_store (k i)) s.limit (filter_of s.filtered (f i)) (held s.dir (p i) (q i))
        (w i) (given (t i))))

    pub measures-by : (v : Float) → v ≡ of_bits binary64 (field s 2)
        → (x : Outcome Cells) → x ≡ measured_by (explicit_store b) s.limit (held s.dir d c) v (field s 1)
        → recorded s x ≡ after_measured_by s all d' c'
    unfolding after_measured_by
    measures-by v w x e =
        ap (recorded s) e ∙ (λ i. recorded s (measured_by (explicit_store (k i)) s.limit (held s.dir (p i) (q i)) (w i) (field s 1)))

    module _ (z : Settings) (o o' : Output) (g : z ≡ record { extremes = s.extremes; sums = s.sums; limit = s.limit }) (y : o ≡ o')
        (x : Collected Cells) where
      pub lists_delta : x ≡ delta_collected (explicit_lister b) (z.extremes, z.sums) z.limit (held s.dir d c) o
          → listed s x ≡ after_delta s all d' c' o'
      unfolding after_delta
      lists_delta e =
          ap (listed s) e
          ∙ (λ i. listed s (delta_collected (explicit_lister (k i)) ((g i).extremes, (g i).sums) (g i).limit
          (held s.dir (p i) (q i)) (y i)))

      pub lists-cumulative : x ≡ cumulative_collected (explicit_lister b) (z.extremes, z.sums) z.limit (held s.dir d c) o
          → listed s x ≡ after_cumulative s all d' c' o'
      unfolding after_cumulative
      lists-cumulative e =
          ap (listed s) e
          ∙ (λ i. listed s (cumulative_collected (explicit_lister (k i)) ((g i).extremes, (g i).sums) (g i).limit
          (held s.dir (p i) (q i)) (y i)))
