-- The state after each call of a line, from what the call is given. Assumes nothing.
use Prim.Native.Nat.{ℕ, ◌%◌}
use mathlib.Core.Path.{◌≡◌, ap, ◌∙◌}
use mathlib.Core.List.{List}
use lib.Dec.{eqb}
use lib.IntN.{ℤ}
use lib.ListN.{take}
use Rattle.integers.specs.Answers.{of_bits}
use Rattle.sets.specs.Sorted.{given, filter_of}
use Rattle.directory.specs.View.{Stores}
use Rattle.exponential_whole_slots.specs.Cells.{Cells}
use Rattle.value_map.specs.Calls.{Outcome, held, measured, measured_by}
use Rattle.whole_map.specs.Exponential.{exponential_wholes}
use Rattle.listing.specs.Listed.{Output}
use Rattle.collecting.specs.Configured.{Configuring}
use Rattle.collecting.specs.Collected.{Collected, delta_collected, cumulative_collected}
use Rattle.exponential_whole_collection.specs.Points.{exponential_whole_lister}
use Rattle.exponential_whole_collection.specs.Configured.{configured}
use Rattle.exponential_collection.specs.declared.Settings.{Settings}
use Rattle.exponential_collection.specs.declared.Setup.{Setup}
use Rattle.replay_state.specs.declared.State.{State}
use Rattle.replay_state.specs.After.{field}
use Rattle.replay_exponential.specs.Followed.{scale_in, configured_by}
use Rattle.replay_exponential_wholes.specs.Followed.{after_configured, recorded, after_measured, after_measured_by}
use Rattle.replay_exponential_wholes.specs.Collected.{listed, after_delta, after_cumulative}

-- ---- what is lent, store by store

pub same-cells : {figures figures' : List (List ℕ)} {extremes extremes' : List (List ℤ)} {pos pos' neg neg' : List ℕ}
    → figures ≡ figures' → extremes ≡ extremes' → pos ≡ pos' → neg ≡ neg'
    → ◌≡◌ {A = Cells} (record { figures = figures; extremes = extremes; pos = pos; neg = neg })
    (record { figures = figures'; extremes = extremes'; pos = pos'; neg = neg' })
same-cells p q x y i = record { figures = p i; extremes = q i; pos = x i; neg = y i }

-- ---- the calls

abbrev set-up : State → Configuring Setup → State
set-up s x = configured_by x.answer s

module _ (s : State) (d d' : Stores) (c c' : Cells) (p : d ≡ d') (r : c ≡ c') where
  pub configures : (size : ℕ) (scale : ℤ) (keys : List ℕ)
      → size ≡ field s 3 % 4294967296 → scale ≡ scale_in (field s 4) → keys ≡ take s.next_keys s.next_filter
      → (x : Configuring Setup)
      → x ≡ configured size scale (eqb (field s 8) 49) (eqb (field s 9) 49) (field s 6) (filter_of s.next_filtered keys) d c
      → set-up s x ≡ after_configured s d' c'
  unfolding after_configured
  configures size scale keys z k f x e =
      ap (set-up s) e
      ∙ (λ i. set-up s (configured (z i) (k i) (eqb (field s 8) 49) (eqb (field s 9) 49) (field s 6) (filter_of s.next_filtered (f i))
      (p i) (r i)))

  pub measures : (v : ℤ) (attrs attrs' : List (List ℕ)) (keys : List ℕ)
      → v ≡ of_bits (field s 1) → attrs ≡ attrs' → keys ≡ take s.keys s.filter
      → (x : Outcome Cells)
      → x ≡ measured (exponential_wholes s.size s.top s.sums) s.limit (filter_of s.filtered keys) (held s.dir d c) v (given attrs)
      → recorded s x ≡ after_measured s (given attrs') d' c'
  unfolding after_measured
  measures v attrs attrs' keys w t f x e =
      ap (recorded s) e
      ∙ (λ i. recorded s (measured (exponential_wholes s.size s.top s.sums) s.limit (filter_of s.filtered (f i))
      (held s.dir (p i) (r i)) (w i) (given (t i))))

  pub measures-by : (v : ℤ) → v ≡ of_bits (field s 2)
      → (x : Outcome Cells) → x ≡ measured_by (exponential_wholes s.size s.top s.sums) s.limit (held s.dir d c) v (field s 1)
      → recorded s x ≡ after_measured_by s d' c'
  unfolding after_measured_by
  measures-by v w x e =
      ap (recorded s) e
      ∙ (λ i. recorded s (measured_by (exponential_wholes s.size s.top s.sums) s.limit (held s.dir (p i) (r i)) (w i) (field s 1)))

  module _ (z : Settings) (k : z ≡ record { size = s.size; top = s.top; extremes = s.extremes; sums = s.sums; limit = s.limit })
      (o o' : Output) (y : o ≡ o') (x : Collected Cells) where
    pub lists_delta : x ≡ delta_collected (exponential_whole_lister z.size z.top z.sums) z.extremes z.limit (held s.dir d c) o
        → listed s x ≡ after_delta s d' c' o'
    unfolding after_delta
    lists_delta e =
        ap (listed s) e
        ∙ (λ i. listed s (delta_collected (exponential_whole_lister (k i).size (k i).top (k i).sums) (k i).extremes (k i).limit
        (held s.dir (p i) (r i)) (y i)))

    pub lists-cumulative : x ≡ cumulative_collected (exponential_whole_lister z.size z.top z.sums) z.extremes z.limit
        (held s.dir d c) o → listed s x ≡ after_cumulative s d' c' o'
    unfolding after_cumulative
    lists-cumulative e =
        ap (listed s) e
        ∙ (λ i. listed s (cumulative_collected (exponential_whole_lister (k i).size (k i).top (k i).sums) (k i).extremes (k i).limit
        (held s.dir (p i) (r i)) (y i)))
