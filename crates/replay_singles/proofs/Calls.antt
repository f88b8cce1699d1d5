-- The state after each call of a line, from what the call is given. Assumes nothing.
use Prim.Native.Nat.{ℕ}
use mathlib.Core.Path.{◌≡◌, ap, ◌∙◌}
use mathlib.Core.List.{List, []}
use lib.ListN.{take}
use lib.Ieee.{Float, binary64, of_bits}
use Rattle.sets.specs.Sorted.{given, filter_of}
use Rattle.directory.specs.View.{Stores}
use Rattle.value_map.specs.Calls.{Outcome, held, measured, measured_by}
use Rattle.listing.specs.Listed.{Output}
use Rattle.collecting.specs.Configured.{Configuring}
use Rattle.collecting.specs.Collected.{Collected, delta_collected, cumulative_collected}
use Rattle.singles.specs.Stores.{single_store}
use Rattle.singles.specs.Points.{as_words, single_lister}
use Rattle.singles.specs.Configured.{configured}
use Rattle.singles.specs.declared.Aggregation.{Aggregation}
use Rattle.singles.specs.declared.Settings.{Settings}
use Rattle.singles.specs.declared.Setup.{Setup}
use Rattle.replay_state.specs.declared.State.{State}
use Rattle.replay_state.specs.After.{field}
use Rattle.replay_singles.specs.Followed.{kind_of, configured_by, after_configured, recorded, after_measured, after_measured_by}
use Rattle.replay_singles.specs.Collected.{listed, after_delta, after_cumulative}

abbrev three : List (List ℕ) → List (List ℕ) → List ℕ → Stores
three sets entries order = record { sets = sets; entries = entries; order = order }

abbrev out : List (List ℕ) → List ℕ → Output
out sets values = record { sets = sets; words = as_words values; pos = []; neg = [] }

abbrev set-up : State → Configuring Setup → State
set-up s x = configured_by x.answer s

module _ (s : State) (sets sets' entries entries' : List (List ℕ)) (order order' : List ℕ) (c c' : List Float)
    (p : sets ≡ sets') (q : entries ≡ entries') (o : order ≡ order') (r : c ≡ c') where
  pub configures : (a : Aggregation) (keys : List ℕ) → a ≡ kind_of s → keys ≡ take s.next_keys s.next_filter
      → (x : Configuring Setup) → x ≡ configured a (field s 6) (filter_of s.next_filtered keys) (three sets entries order) c
      → set-up s x ≡ after_configured s (three sets' entries' order') c'
  unfolding after_configured
  configures a keys k f x e =
      ap (set-up s) e
      ∙ (λ i. set-up s (configured (k i) (field s 6) (filter_of s.next_filtered (f i)) (three (p i) (q i) (o i)) (r i)))

  pub measures : (a : Aggregation) (v : Float) (attrs attrs' : List (List ℕ)) (keys : List ℕ)
      → a ≡ kind_of s → v ≡ of_bits binary64 (field s 1) → attrs ≡ attrs' → keys ≡ take s.keys s.filter
      → (x : Outcome (List Float))
      → x ≡ measured (single_store a) s.limit (filter_of s.filtered keys) (held s.dir (three sets entries order) c) v (given attrs)
      → recorded s x ≡ after_measured s (given attrs') (three sets' entries' order') c'
  unfolding after_measured
  measures a v attrs attrs' keys k w t f x e =
      ap (recorded s) e
      ∙ (λ i. recorded s (measured (single_store (k i)) s.limit (filter_of s.filtered (f i)) (held s.dir (three (p i) (q i) (o i)) (r i))
      (w i) (given (t i))))

  pub measures-by : (a : Aggregation) (v : Float) → a ≡ kind_of s → v ≡ of_bits binary64 (field s 2)
      → (x : Outcome (List Float)) → x ≡ measured_by (single_store a) s.limit (held s.dir (three sets entries order) c) v (field s 1)
      → recorded s x ≡ after_measured_by s (three sets' entries' order') c'
  unfolding after_measured_by
  measures-by a v k w x e =
      ap (recorded s) e
      ∙ (λ i. recorded s (measured_by (single_store (k i)) s.limit (held s.dir (three (p i) (q i) (o i)) (r i)) (w i) (field s 1)))

  module _ (z : Settings) (rows rows' : List (List ℕ)) (bits bits' : List ℕ)
      (k : z ≡ record { aggregation = kind_of s; limit = s.limit }) (y : rows ≡ rows') (b : bits ≡ bits') (x : Collected (List Float)) where
    pub lists_delta : x ≡ delta_collected (single_lister z.aggregation) tt z.limit (held s.dir (three sets entries order) c) (out rows bits)
        → listed s x ≡ after_delta s (three sets' entries' order') c' (out rows' bits')
    unfolding after_delta
    lists_delta e =
        ap (listed s) e
        ∙ (λ i. listed s (delta_collected (single_lister (k i).aggregation) tt (k i).limit (held s.dir (three (p i) (q i) (o i)) (r i))
        (out (y i) (b i))))

    pub lists-cumulative : x ≡ cumulative_collected (single_lister z.aggregation) tt z.limit (held s.dir (three sets entries order) c)
        (out rows bits) → listed s x ≡ after_cumulative s (three sets' entries' order') c' (out rows' bits')
    unfolding after_cumulative
    lists-cumulative e =
        ap (listed s) e
        ∙ (λ i. listed s (cumulative_collected (single_lister (k i).aggregation) tt (k i).limit (held s.dir (three (p i) (q i) (o i)) (r i))
        (out (y i) (b i))))
