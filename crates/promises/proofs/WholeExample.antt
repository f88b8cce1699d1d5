-- A run of the explicit kind over i64 with the bounds 0 and 5, computed from configuring: a value that the sum does not take, two collections, and
-- their points merged as they lie in lent output. So the promises over i64 are about some runs, and no premise is empty. Assumes nothing.
use Prim.Native.Nat.{ℕ, zero, suc}
use mathlib.Core.Path.{◌≡◌, refl, ap, sym, subst}
use mathlib.Core.Bool.{true}
use mathlib.Core.List.Permᴰ
use mathlib.Core.List.{List, [], ◌∷◌, Permᴰ}
use mathlib.Core.Option.{none}
use native.Mathlib.Omega.{arith}
use lib.IntN.{ℤ, pos, negsuc}
use lib.ListN.{replicate, get_or}
use lib.Ieee.{Float, binary64, of_bits, of_int, lt, eq, is_nan, round}
use Rattle.laws.specs.Over.{over}
use Rattle.laws.specs.Pick.{pick}
use Rattle.laws.specs.Said.{success}
use Rattle.laws.specs.Trees.{leaf, node}
use Rattle.floats.specs.Starts.{zero_float}
use Rattle.integers.specs.Answers as Integers
use Rattle.integers.specs.Totals.{weight}
use Rattle.std.specs.Prelude.{Some}
use Rattle.points.specs.Explicit.{bucket_of, buckets_of, record_bucket, buckets_agree, bounds_pass, no_nan, rising, merge_buckets, added, same_bounds}
use Rattle.points.specs.Counts.{explicit_counts}
use Rattle.points.specs.Any.{Handed, Stands}
use Rattle.points.specs.Whole.{whole}
use Rattle.point.specs.declared.Figures.TheVariants.{Explicit}
use Rattle.whole_point.specs.Handing.{Stored, stored_in, handed_in, refusal_before, laid_over, merging}
use Rattle.tally.specs.Kind.{Room}
use Rattle.tally.specs.Map.{Config, Call, measure, collect, Answer, refuse, done, listed}
use Rattle.tally.specs.Tally.{tell}
use Rattle.tally.specs.Demand as Demand
use Rattle.tally.specs.Demand.{Premise, any, gained, Code, ran}
use Rattle.kinds.specs.Wholes as Kinds
use Rattle.sets.specs.All.{allb}
use Rattle.sets.specs.Rows.{set_of, row_of, soundb}
use Rattle.sets.specs.Inserted.{inserted}
use Rattle.directory.specs.View.{slotsb, agreesb, sought}
use Rattle.directory.specs.Calls.{located, admitted}
use Rattle.bindings.specs.Calls as Bindings
use Rattle.seats.specs.Seats.{new_seat, seated, barred_by, unless_barred, marked, committed}
use Rattle.sweep.specs.Swept.{swept_kept}
use Rattle.explicit.specs.Series as Real
use Rattle.explicit_wholes.specs.Series as Series
use Rattle.explicit_whole_slots.specs.Cells.{Cells, recorded_at}
use Rattle.value_map.specs.Calls.{begun, unless_refused, entered, called, measured, started, Held, held}
use Rattle.value_map.specs.Maps.{config_of}
use Rattle.whole_map.specs.Explicit.{explicit_wholes}
use Rattle.listing.specs.Listed.{Output}
use Rattle.listing.specs.Words as Words
use Rattle.whole_listing.specs.Listed.{point_at, entry_in}
use Rattle.whole_listing.specs.Words.{bounds_in, extreme_in, point_in, is_point}
use Rattle.whole_listing.specs.Read.{AllHeld}
use Rattle.collecting.specs.Collected.{roomy, uncollected, delta_collected}
use Rattle.explicit_whole_collection.specs.Points.{explicit_whole_lister}
use Rattle.explicit_whole_collection.specs.Configured.{configured}
use Rattle.explicit_collection.specs.declared.Setup.{Setup}
use Rattle.promises.specs.Numbers.{wholes}
use Rattle.promises.specs.Runs.{Asked, recording, collecting, run}
use Rattle.promises.specs.Pooled.{stored_of, Whole}
use Rattle.promises.proofs.Promises.{explicit-wholes-demand}
use Rattle.promises.proofs.Example.{stores, A, small}

-- the bounds 0.0 and 5.0
abbrev bounds : List Float
bounds = zero_float ∷ of_bits binary64 0x4014_0000_0000_0000 ∷ []

-- the greatest i64
abbrev most : ℤ
most = pos 9223372036854775807

abbrev cells : Cells
cells = record { totals = replicate 3 0; extremes = replicate 3 (replicate 3 (pos 0)); counts = replicate 9 0 }

abbrev out : Output
out = record { sets = replicate 1 (replicate 9 0); words = replicate 1 (replicate 12 0); pos = replicate 3 0; neg = [] }

-- ---- CONFIGURING, accepted
abbrev setup : Setup
setup = record { settings = record { extremes = true; sums = true; limit = 1 }; dir = record { used = 0; count = 0; last = 0 } }

accepted : (configured bounds true true 1 none stores cells).answer ≡ success setup
unfolding configured started begun Bindings.started bounds_pass no_nan rising is_nan lt of_bits pick
accepted = refl

row-held : (i : ℕ) → Integers.in_range (get_or (replicate 3 (pos 0)) i (pos 0)) ≡ true
row-held zero = refl
row-held (suc zero) = refl
row-held (suc (suc zero)) = refl
row-held (suc (suc (suc i))) = refl

all_held : AllHeld (replicate 3 (replicate 3 (pos 0)))
all_held zero i = row-held i
all_held (suc zero) i = row-held i
all_held (suc (suc zero)) i = row-held i
all_held (suc (suc (suc x))) i = refl

abbrev first : Held Cells
first = held setup.dir (configured bounds true true 1 none stores cells).stores cells

-- ---- THE RUN: 5 and -3, and the greatest i64, which the sum does not take; a collection, 7, a collection
abbrev given : List (Asked Kinds.wholes)
given =
    recording (pos 5) A small ∷ recording most A small ∷ recording (negsuc 2) A small ∷ collecting out ∷ recording (pos 7) A small ∷ collecting out ∷ []

abbrev c : Config Kinds.wholes
c = config_of (explicit_wholes bounds true) true 1 none

-- a point with these counts, minimum, maximum and sum
abbrev point : List ℕ → ℕ → ℤ → ℤ → ℤ → Handed whole
point cs n low high sum =
    record {
      counts = explicit_counts bounds (record { counts = cs; total = n });
      extremes = true;
      threshold = zero_float;
      min = Some low;
      max = Some high;
      sum = sum;
    }

abbrev code : Code Kinds.wholes
code = run (explicit_whole_lister bounds true) true 1 none first

abbrev answers_are : List (Answer Kinds.wholes)
answers_are =
    done ∷ refuse 16 ∷ done ∷ listed ((A, point (1 ∷ 1 ∷ 0 ∷ []) 2 (negsuc 2) (pos 5) (pos 2)) ∷ []) ∷ done
    ∷ listed ((A, point (0 ∷ 0 ∷ 1 ∷ []) 1 (pos 7) (pos 7) (pos 7)) ∷ []) ∷ []

answers : ran Kinds.wholes code given ≡ answers_are
unfolding point_at entry_in is_point configured started begun Bindings.started bounds_pass no_nan rising is_nan lt of_bits of_int round eq pick over measured called entered unless_refused barred_by unless_barred new_seat seated marked committed located agreesb slotsb allb sought admitted set_of row_of soundb inserted recorded_at Series.recording Series.refusal_of Real.refusal_of bucket_of buckets_of record_bucket buckets_agree delta_collected uncollected roomy swept_kept Words.figures_in Words.bounds_in bounds_in extreme_in point_in Integers.of_bits
answers = refl

abbrev room : Room
room = record { points = 1; pos = 3; neg = 0 }

abbrev asks : List (Call Kinds.wholes)
asks = measure (pos 5) A ∷ measure most A ∷ measure (negsuc 2) A ∷ collect room ∷ measure (pos 7) A ∷ collect room ∷ []

-- demand 3's premise holds, and so does all that it says: the tally answers 16 too
premise : Premise Kinds.wholes c (Demand.asked Kinds.wholes code given) (ran Kinds.wholes code given)
unfolding pick
premise =
    subst (λ (a : List (Answer Kinds.wholes)). Premise Kinds.wholes c (Demand.asked Kinds.wholes code given) a) (sym answers)
    (record { fewer = omega arith; unlike = omega arith })

demanded : Whole wholes c (Demand.asked Kinds.wholes code given) (ran Kinds.wholes code given) (λ r. stored_of wholes (explicit_whole_lister bounds true) bounds true 1 none r first given)
demanded = (explicit-wholes-demand bounds true true 1 none stores cells setup all_held accepted).1.demand given premise

-- ---- THE SET'S POINTS, as they are stored, and merged
abbrev stored : List ℕ → ℕ → ℤ → ℤ → ℤ → Stored
stored cs n low high sum =
    stored_in (record { figures = Explicit n; extremes = true; min = Some low; max = Some high; sum = sum }) bounds cs []

abbrev s₁ : Stored
s₁ = stored (1 ∷ 1 ∷ 0 ∷ []) 2 (negsuc 2) (pos 5) (pos 2)

abbrev s₂ : Stored
s₂ = stored (0 ∷ 0 ∷ 1 ∷ []) 1 (pos 7) (pos 7) (pos 7)

abbrev all : Stored
all = stored (1 ∷ 1 ∷ 1 ∷ []) 3 (negsuc 2) (pos 7) (pos 9)

points : stored_of wholes (explicit_whole_lister bounds true) bounds true 1 none A first given ≡ s₁ ∷ s₂ ∷ []
unfolding point_at entry_in is_point configured started begun Bindings.started bounds_pass no_nan rising is_nan lt of_bits of_int round eq pick over measured called entered unless_refused barred_by unless_barred new_seat seated marked committed located agreesb slotsb allb sought admitted set_of row_of soundb inserted recorded_at Series.recording Series.refusal_of Real.refusal_of bucket_of buckets_of record_bucket buckets_agree delta_collected uncollected roomy swept_kept Words.figures_in Words.bounds_in bounds_in extreme_in point_in Integers.of_bits
points = refl

together : (merging 0 s₁ s₂ (0 ∷ 0 ∷ 0 ∷ []) []).answer ≡ success all
unfolding merging refusal_before laid_over merge_buckets added buckets_agree bounds_pass same_bounds no_nan rising is_nan lt eq round of_bits pick over
together = refl

values : gained Kinds.wholes c (Demand.asked Kinds.wholes code given) (ran Kinds.wholes code given) A ≡ pos 5 ∷ negsuc 2 ∷ pos 7 ∷ []
unfolding tell pick bounds_pass of_bits of_int Kinds.handed buckets_of bucket_of lt round
values = ap (λ (a : List (Answer Kinds.wholes)). gained Kinds.wholes c asks a A) answers

-- their magnitudes total 15
light : whole.Within (pos 5 ∷ negsuc 2 ∷ pos 7 ∷ [])
unfolding weight
light = record { light = omega arith }

-- so the merged point stands for the three values, and its sum is theirs
stands : Stands whole c.settings (handed_in all) (pos 5 ∷ negsuc 2 ∷ pos 7 ∷ [])
stands =
    subst (Stands whole c.settings (handed_in all)) values
    ((demanded.pools A 0 refl (ap (any Kinds.wholes) values) (subst whole.Within (sym values) light)).stands (node (leaf s₁) (leaf s₂))
    (subst (λ l. Permᴰ l (s₁ ∷ s₂ ∷ [])) (sym points) (Permᴰ.refl (s₁ ∷ s₂ ∷ []))) all (s₁, s₂, 0 ∷ 0 ∷ 0 ∷ [], [], refl, refl, together)).0
