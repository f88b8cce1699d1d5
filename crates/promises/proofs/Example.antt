-- A run of the explicit kind with the bounds 0 and 5, computed from configuring: two collections, and their points merged as they lie in lent output.
-- So the promises are about some runs, and no premise is empty. Assumes nothing.
use Prim.Native.Nat.{ℕ, zero, suc}
use mathlib.Core.Path.{◌≡◌, refl, ap, sym, subst}
use mathlib.Core.Bool.{Bool, true}
use mathlib.Core.List.Permᴰ
use mathlib.Core.List.{List, [], ◌∷◌, Permᴰ}
use mathlib.Core.Option.{none}
use native.Mathlib.Omega.{arith}
use lib.IntN.{pos}
use lib.ListN.{replicate, get_or}
use lib.Ieee.{Float, nan, binary64, of_bits, of_fields, to_bits, lt, add, eq, is_nan, fits, round}
use Rattle.laws.specs.Over.{over}
use Rattle.laws.specs.Pick.{pick}
use Rattle.laws.specs.Said.{success}
use Rattle.laws.specs.Trees.{leaf, node}
use Rattle.floats.specs.Grid.{is_whole, exact_total}
use Rattle.floats.specs.Starts.{zero_float}
use Rattle.std.specs.Prelude.{Some}
use Rattle.points.specs.Explicit.{bucket_of, buckets_of, record_bucket, buckets_agree, bounds_pass, no_nan, rising, merge_buckets, added, same_bounds}
use Rattle.points.specs.Figures.{explicit_counts}
use Rattle.points.specs.Handed.{Handed, handed, mergeable, merge_handed, handed_agrees, unmergeable}
use Rattle.points.specs.Stands.{Stands}
use Rattle.point.specs.declared.Figures.TheVariants.{Explicit}
use Rattle.point.specs.Handing.{Stored, stored_in, handed_in, agrees_alone, refusal_before, laid_over, merging}
use Rattle.mean.specs.Rounding.{rounded, nearest}
use Rattle.mean.specs.Mean.{on_grid, mean_of, mean_in}
use Rattle.mean.specs.Values.{mean_of_all}
use Rattle.tally.specs.Sets.{Set, Lendable}
use Rattle.tally.specs.Kind.{Room}
use Rattle.tally.specs.Map.{Config, Call, measure, measure_by, bind, release, collect, Answer, refuse, done, handle, listed}
use Rattle.tally.specs.Tally.{tell}
use Rattle.tally.specs.Demand as Demand
use Rattle.tally.specs.Demand.{Premise, any, gained, Code, ran}
use Rattle.kinds.specs.Histograms.{histograms}
use Rattle.sets.specs.All.{allb}
use Rattle.sets.specs.Rows.{set_of, row_of, soundb}
use Rattle.sets.specs.Inserted.{inserted}
use Rattle.directory.specs.View.{Stores, slotsb, agreesb, sought}
use Rattle.directory.specs.Calls.{located, admitted, bound_to}
use Rattle.bindings.specs.Calls as Bindings
use Rattle.bindings.specs.Calls.{bound_in, bound, released_in, released}
use Rattle.seats.specs.Seats.{new_seat, seated, seated_by, barred_by, unless_barred, marked, committed}
use Rattle.sweep.specs.Swept.{swept_kept}
use Rattle.explicit.specs.Series.{refusal_of}
use Rattle.explicit.specs.Series as Series
use Rattle.explicit_slots.specs.Cells.{Cells, recorded_at}
use Rattle.value_map.specs.Calls.{begun, unless_refused, entered, called, measured, measured_by, started, Held, held}
use Rattle.value_map.specs.Maps.{config_of}
use Rattle.value_map.specs.Explicit.{explicit_store}
use Rattle.listing.specs.Listed.{Output, point_at, entry_in}
use Rattle.listing.specs.Words.{figures_in, bounds_in, extreme_in, point_in, is_point}
use Rattle.collecting.specs.Collected.{roomy, uncollected, delta_collected}
use Rattle.collecting.specs.Read.{AllFit}
use Rattle.explicit_collection.specs.Points.{explicit_lister}
use Rattle.explicit_collection.specs.Configured.{configured}
use Rattle.explicit_collection.specs.declared.Setup.{Setup}
use Rattle.promises.specs.Numbers.{reals}
use Rattle.promises.specs.Runs.{Asked, recording, recording_by, binding, releasing, collecting, run}
use Rattle.promises.specs.Pooled.{stored_of, Whole}
use Rattle.promises.proofs.Promises.{explicit-demand}

abbrev f : ℕ → Float
f bits = of_bits binary64 bits

-- 5.0, 7.0, -1.0
abbrev five : Float
five = f 0x4014_0000_0000_0000

abbrev seven : Float
seven = f 0x401c_0000_0000_0000

abbrev less : Float
less = f 0xbff0_0000_0000_0000

abbrev bounds : List Float
bounds = zero_float ∷ five ∷ []

-- limit 1: three places in each store
abbrev pub stores : Stores
stores = record { sets = replicate 3 (replicate 9 0); entries = replicate 3 (replicate 3 0); order = replicate 3 0 }

abbrev cells : Cells
cells = record { totals = replicate 3 0; extremes = replicate 3 (replicate 3 zero_float); counts = replicate 9 0 }

abbrev pub A : Set
A = (1, 5) ∷ []

pub small : Lendable A
small = ((omega arith, omega arith), tt)

abbrev out : Output
out = record { sets = replicate 1 (replicate 9 0); words = replicate 1 (replicate 12 0); pos = replicate 3 0; neg = [] }

-- ---- CONFIGURING, accepted
abbrev setup : Setup
setup = record { settings = record { extremes = true; sums = true; limit = 1 }; dir = record { used = 0; count = 0; last = 0 } }

accepted : (configured bounds true true 1 none stores cells).answer ≡ success setup
unfolding configured started begun Bindings.started bounds_pass no_nan rising is_nan lt of_bits pick
accepted = refl

row_fits : (i : ℕ) → fits binary64 (get_or (replicate 3 zero_float) i nan) ≡ true
unfolding fits of_bits of_fields
row_fits zero = refl
row_fits (suc zero) = refl
row_fits (suc (suc zero)) = refl
row_fits (suc (suc (suc i))) = refl

pub all_fit : AllFit (replicate 3 (replicate 3 zero_float))
unfolding fits
all_fit zero i = row_fits i
all_fit (suc zero) i = row_fits i
all_fit (suc (suc zero)) i = row_fits i
all_fit (suc (suc (suc x))) i = refl

abbrev first : Held Cells
first = held setup.dir (configured bounds true true 1 none stores cells).stores cells

-- ---- THE RUN: two values, a collection, one more by a handle, a collection, and the handle released, once more than it was bound
abbrev w : Bool × Bool
w = (true, true)

abbrev c : Config histograms
c = config_of (explicit_store bounds) w 1 none

abbrev given : List (Asked histograms)
given =
    recording five A small ∷ recording less A small ∷ collecting out ∷ binding A small ∷ recording_by 1 seven ∷ collecting out ∷ releasing 1 ∷ releasing 1 ∷ []

-- a point with these counts, minimum, maximum and sum
abbrev point : List ℕ → ℕ → Float → Float → Float → Handed
point cs n low high sum =
    record {
      counts = explicit_counts bounds (record { counts = cs; total = n });
      extremes = true;
      threshold = zero_float;
      min = Some low;
      max = Some high;
      sum = sum;
    }

abbrev x₁ : Handed
x₁ = point (1 ∷ 1 ∷ 0 ∷ []) 2 less five (f 0x4010_0000_0000_0000)

abbrev x₂ : Handed
x₂ = point (0 ∷ 0 ∷ 1 ∷ []) 1 seven seven seven

abbrev code : Code histograms
code = run (explicit_lister bounds) w 1 none first

abbrev answers_are : List (Answer histograms)
answers_are = done ∷ done ∷ listed ((A, x₁) ∷ []) ∷ handle 1 ∷ done ∷ listed ((A, x₂) ∷ []) ∷ done ∷ refuse 7 ∷ []

answers : ran histograms code given ≡ answers_are
unfolding point_at entry_in is_point configured started begun Bindings.started bound bound_in bound_to released released_in measured_by seated_by bounds_pass no_nan rising is_nan lt of_bits of_fields to_bits fits add round eq pick over measured called entered unless_refused barred_by unless_barred new_seat seated marked committed located agreesb slotsb allb sought admitted set_of row_of soundb inserted recorded_at Series.recording refusal_of bucket_of buckets_of record_bucket buckets_agree delta_collected uncollected roomy swept_kept figures_in bounds_in extreme_in point_in
answers = refl

abbrev room : Room
room = record { points = 1; pos = 3; neg = 0 }

abbrev asks : List (Call histograms)
asks = measure five A ∷ measure less A ∷ collect room ∷ bind A ∷ measure_by 1 seven ∷ collect room ∷ release 1 ∷ release 1 ∷ []

asked : Demand.asked histograms code given ≡ asks
unfolding pick
asked = refl

-- demand 3's premise holds, and so does all that it says
premise : Premise histograms c (Demand.asked histograms code given) (ran histograms code given)
unfolding pick
premise =
    subst (λ (a : List (Answer histograms)). Premise histograms c (Demand.asked histograms code given) a) (sym answers)
    (record { fewer = omega arith; unlike = omega arith })

demanded : Whole reals c (Demand.asked histograms code given) (ran histograms code given) (λ r. stored_of reals (explicit_lister bounds) bounds w 1 none r first given)
demanded = (explicit-demand bounds true true 1 none stores cells setup all_fit accepted).1.demand given premise

-- ---- THE SET'S POINTS, as they are stored, and merged
abbrev stored : List ℕ → ℕ → Float → Float → Float → Stored
stored cs n low high sum =
    stored_in (record { figures = Explicit n; extremes = true; min = Some low; max = Some high; sum = sum }) bounds cs []

abbrev s₁ : Stored
s₁ = stored (1 ∷ 1 ∷ 0 ∷ []) 2 less five (f 0x4010_0000_0000_0000)

abbrev s₂ : Stored
s₂ = stored (0 ∷ 0 ∷ 1 ∷ []) 1 seven seven seven

abbrev all : Stored
all = stored (1 ∷ 1 ∷ 1 ∷ []) 3 less seven (f 0x4026_0000_0000_0000)

points : stored_of reals (explicit_lister bounds) bounds w 1 none A first given ≡ s₁ ∷ s₂ ∷ []
unfolding point_at entry_in is_point configured started begun Bindings.started bound bound_in bound_to released released_in measured_by seated_by bounds_pass no_nan rising is_nan lt of_bits of_fields to_bits fits add round eq pick over measured called entered unless_refused barred_by unless_barred new_seat seated marked committed located agreesb slotsb allb sought admitted set_of row_of soundb inserted recorded_at Series.recording refusal_of bucket_of buckets_of record_bucket buckets_agree delta_collected uncollected roomy swept_kept figures_in bounds_in extreme_in point_in
points = refl

together : (merging 0 s₁ s₂ (0 ∷ 0 ∷ 0 ∷ []) []).answer ≡ success all
unfolding merging refusal_before unmergeable mergeable merge_handed handed_agrees laid_over merge_buckets added buckets_agree bounds_pass same_bounds no_nan rising is_nan lt eq add round of_bits pick over
together = refl

values : gained histograms c (Demand.asked histograms code given) (ran histograms code given) A ≡ five ∷ less ∷ seven ∷ []
unfolding tell pick bounds_pass fits of_bits of_fields handed buckets_of bucket_of lt add round
values = ap (λ (a : List (Answer histograms)). gained histograms c asks a A) answers

-- so the merged point stands for the three values
stands : Stands c.settings (handed_in all) (five ∷ less ∷ seven ∷ [])
stands =
    subst (Stands c.settings (handed_in all)) values
    ((demanded.pools A 0 refl (ap (any histograms) values) tt).stands (node (leaf s₁) (leaf s₂)) (subst (λ l. Permᴰ l (s₁ ∷ s₂ ∷ [])) (sym points) (Permᴰ.refl (s₁ ∷ s₂ ∷ []))) all
    (s₁, s₂, 0 ∷ 0 ∷ 0 ∷ [], [], refl, refl, together)).0

-- and its mean is theirs: 11 / 3, in hundredths
mean : (mean_in all ≡ success (pos 367)) × (mean_of_all true (five ∷ less ∷ seven ∷ []) ≡ success (pos 367))
unfolding mean_in agrees_alone mean_of mean_of_all exact_total on_grid is_whole nearest rounded handed_agrees buckets_agree bounds_pass no_nan rising is_nan lt of_bits pick
mean = (refl, refl)
