-- A run of the exponential kind over zeros, computed from configuring: two collections, and their points merged as they lie in lent output. (An index
-- does not compute here: proofs of it are in `marks`.) Assumes nothing.
use Prim.Native.Nat.{ℕ}
use mathlib.Core.Path.{◌≡◌, refl, sym, subst}
use mathlib.Core.Bool.{true}
use mathlib.Core.List.{List, [], ◌∷◌}
use mathlib.Core.Option.{none}
use native.Mathlib.Omega.{arith}
use lib.ListN.{replicate}
use lib.IntN.{pos}
use lib.Ieee.{of_bits, of_fields, to_bits, lt, add, eq, is_nan, fits, round}
use Rattle.laws.specs.Over.{over}
use Rattle.laws.specs.Pick.{pick}
use Rattle.laws.specs.Said.{success}
use Rattle.index.specs.Signed.{level_answer}
use Rattle.index.specs.Magnitude.{magnitude}
use Rattle.floats.specs.Starts.{zero_float}
use Rattle.std.specs.Prelude.{Some}
use Rattle.points.specs.Agreement as Agreement
use Rattle.points.specs.Agreement.{row_agrees}
use Rattle.points.specs.Figures.{exponential_counts}
use Rattle.points.specs.Handed.{Handed, mergeable, merge_handed, handed_agrees, unmergeable}
use Rattle.points.specs.Points as Points
use Rattle.points.proofs.Rows as PointsRows
use Rattle.points.specs.Values.{class_of}
use Rattle.point.specs.declared.Figures.TheVariants.{Exponential}
use Rattle.point.specs.Handing.{Stored, stored_in, refusal_before, laid_over, merging}
use Rattle.tally.specs.Map.{Config, Answer, done, listed}
use Rattle.tally.specs.Demand as Demand
use Rattle.tally.specs.Demand.{Premise, Code, ran}
use Rattle.kinds.specs.Histograms.{histograms}
use Rattle.sets.specs.All.{allb}
use Rattle.sets.specs.Rows.{set_of, row_of, soundb}
use Rattle.sets.specs.Inserted.{inserted}
use Rattle.directory.specs.View.{slotsb, agreesb, sought}
use Rattle.directory.specs.Calls.{located, admitted}
use Rattle.bindings.specs.Calls as Bindings
use Rattle.seats.specs.Seats.{new_seat, seated, barred_by, unless_barred, marked, committed}
use Rattle.sweep.specs.Swept.{swept_kept}
use Rattle.exponential.specs.Series as Series
use Rattle.exponential.specs.Series.{refusal_of}
use Rattle.exponential.specs.Steps.{low_bin, high_bin, placed}
use Rattle.exponential_slots.specs.Cells.{Cells, head_in, narrow, readable, head_of, recorded_at}
use Rattle.exponential_slots.specs.Meaning.{shaped, counts_at}
use Rattle.value_map.specs.Calls.{begun, unless_refused, entered, called, measured, started, Held, held}
use Rattle.value_map.specs.Maps.{config_of}
use Rattle.value_map.specs.Exponential.{unset, exponential_store}
use Rattle.listing.specs.Listed.{Output, point_at, entry_in}
use Rattle.listing.specs.Words.{figures_in, bounds_in, extreme_in, point_in, is_point}
use Rattle.collecting.specs.Collected.{roomy, uncollected, delta_collected}
use Rattle.exponential_collection.specs.Points.{exponential_lister}
use Rattle.exponential_collection.specs.Configured.{configured}
use Rattle.exponential_collection.specs.declared.Setup.{Setup}
use Rattle.promises.specs.Numbers.{reals}
use Rattle.promises.specs.Runs.{Asked, recording, collecting, run}
use Rattle.promises.specs.Pooled.{stored_of, Whole}
use Rattle.promises.proofs.Promises.{exponential-demand}
use Rattle.promises.proofs.Example.{stores, A, small, all_fit}

-- limit 1, max_size 3, max_scale 10
abbrev cells : Cells
cells = record { figures = replicate 3 (replicate 8 0); extremes = replicate 3 (replicate 3 zero_float); pos = replicate 9 0; neg = replicate 9 0 }

abbrev setup : Setup
setup = record { settings = record { size = 3; top = 20; extremes = true; sums = true; limit = 1 }; dir = record { used = 0; count = 0; last = 0 } }

accepted : (configured 3 (pos 10) true true 1 none stores cells).answer ≡ success setup
unfolding configured level_answer started begun Bindings.started unset pick
accepted = refl

-- no count store is needed for zeros
abbrev out : Output
out = record { sets = replicate 1 (replicate 9 0); words = replicate 1 (replicate 12 0); pos = []; neg = [] }

abbrev first : Held Cells
first = held setup.dir (configured 3 (pos 10) true true 1 none stores cells).stores cells

abbrev given : List (Asked histograms)
given = recording zero_float A small ∷ collecting out ∷ recording zero_float A small ∷ collecting out ∷ []

-- one zero, at scale 10
abbrev point : ℕ → Handed
point n =
    record {
      counts = exponential_counts (record {
        d = 0;
        pos = record { start = 0; counts = [] };
        neg = record { start = 0; counts = [] };
        zeros = n;
        total = n;
      });
      extremes = true;
      threshold = zero_float;
      min = Some zero_float;
      max = Some zero_float;
      sum = zero_float;
    }

abbrev code : Code histograms
code = run (exponential_lister 3 20) (true, true) 1 none first

abbrev answers_are : List (Answer histograms)
answers_are = done ∷ listed ((A, point 1) ∷ []) ∷ done ∷ listed ((A, point 1) ∷ []) ∷ []

answers : ran histograms code given ≡ answers_are
unfolding point_at entry_in is_point configured level_answer started begun Bindings.started unset is_nan lt of_bits of_fields to_bits fits add round eq pick over measured called entered unless_refused barred_by unless_barred new_seat seated marked committed located agreesb slotsb allb sought admitted set_of row_of soundb inserted recorded_at shaped counts_at head_in narrow readable head_of Series.agrees refusal_of Series.recording class_of magnitude Agreement.agrees row_agrees placed low_bin high_bin PointsRows.at Points.row_of Points.row Points.fits Points.fits_both Points.scale Points.build Points.point_of Points.indices Points.bag Points.record1 delta_collected uncollected roomy swept_kept figures_in bounds_in extreme_in point_in
answers = refl

-- demand 3's premise holds, and so does all that it says
abbrev c : Config histograms
c = config_of (exponential_store 3 20) (true, true) 1 none

premise : Premise histograms c (Demand.asked histograms code given) (ran histograms code given)
unfolding pick
premise =
    subst (λ (a : List (Answer histograms)). Premise histograms c (Demand.asked histograms code given) a) (sym answers)
    (record { fewer = omega arith; unlike = omega arith })

demanded : Whole reals c (Demand.asked histograms code given) (ran histograms code given) (λ r. stored_of reals (exponential_lister 3 20) [] (true, true) 1 none r first given)
unfolding level_answer pick
demanded = (exponential-demand 3 (pos 10) true true 1 none stores cells setup all_fit accepted).1.demand given premise

-- ---- THE SET'S POINTS, as they are stored, and merged
abbrev stored : ℕ → Stored
stored n =
    stored_in
    (record {
      figures = Exponential (record {
        count = n;
        zeros = n;
        level = 20;
        pos = record { start = 0; len = 0 };
        neg = record { start = 0; len = 0 };
      });
      extremes = true;
      min = Some zero_float;
      max = Some zero_float;
      sum = zero_float;
    })
    [] [] []

points : stored_of reals (exponential_lister 3 20) [] (true, true) 1 none A first given ≡ stored 1 ∷ stored 1 ∷ []
unfolding point_at entry_in is_point configured level_answer started begun Bindings.started unset is_nan lt of_bits of_fields to_bits fits add round eq pick over measured called entered unless_refused barred_by unless_barred new_seat seated marked committed located agreesb slotsb allb sought admitted set_of row_of soundb inserted recorded_at shaped counts_at head_in narrow readable head_of Series.agrees refusal_of Series.recording class_of magnitude Agreement.agrees row_agrees placed low_bin high_bin PointsRows.at Points.row_of Points.row Points.fits Points.fits_both Points.scale Points.build Points.point_of Points.indices Points.bag Points.record1 delta_collected uncollected roomy swept_kept figures_in bounds_in extreme_in point_in
points = refl

together : (merging 3 (stored 1) (stored 1) [] []).answer ≡ success (stored 2)
unfolding merging refusal_before unmergeable mergeable merge_handed handed_agrees Series.agrees Agreement.agrees row_agrees laid_over is_nan lt eq add round of_bits of_fields pick over PointsRows.at Points.row_of Points.row Points.fits Points.fits_both Points.scale Points.build Points.indices Points.bag Points.merge
together = refl
