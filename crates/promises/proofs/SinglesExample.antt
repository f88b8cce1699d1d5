-- Runs of a sum and of a last value, computed from configuring: refused calls, three collections, a value by a handle; and cumulative collections of an entry
-- that is bound and has no values, and of a damaged one. So their promise is about some runs, and no premise is empty. Assumes nothing.
use Prim.Native.Nat.{ℕ}
use mathlib.Core.Path.{◌≡◌, refl, sym, subst}
use mathlib.Core.List.{List, [], ◌∷◌}
use mathlib.Core.Option.{none}
use native.Mathlib.Omega.{arith}
use lib.ListN.{replicate}
use lib.Ieee.{Float, binary64, of_bits, of_fields, to_bits, fits, add, round, eq, is_nan}
use Rattle.laws.specs.Over.{over}
use Rattle.laws.specs.Pick.{pick}
use Rattle.laws.specs.Said.{success}
use Rattle.tally.specs.Map.{Answer, refuse, done, handle, listed}
use Rattle.tally.specs.Demand.{Premise, Answered, Code, asked, ran, left}
use Rattle.sets.specs.All.{allb}
use Rattle.sets.specs.Rows.{set_of, row_of, soundb}
use Rattle.sets.specs.Inserted.{inserted}
use Rattle.directory.specs.View.{slotsb, agreesb, sought}
use Rattle.directory.specs.Calls.{located, admitted, bound_to}
use Rattle.bindings.specs.Calls as Bindings
use Rattle.bindings.specs.Calls.{bound_in, bound, released_in, released}
use Rattle.seats.specs.Seats.{new_seat, seated, seated_by, barred_by, unless_barred, marked, committed}
use Rattle.sweep.specs.Swept.{swept_kept}
use Rattle.value_map.specs.Calls.{begun, unless_refused, entered, called, measured, measured_by, started, Held, held}
use Rattle.value_map.specs.Maps.{config_of}
use Rattle.listing.specs.Listed.{Output}
use Rattle.collecting.specs.Collected.{roomy, uncollected, delta_collected, cumulative_collected, answered}
use Rattle.singles.specs.declared.Aggregation.{Aggregation}
use Rattle.singles.specs.declared.Aggregation.TheVariants.{Sum, LastValue}
use Rattle.singles.specs.declared.Setup.{Setup}
use Rattle.singles.specs.Kinds.{singles}
use Rattle.singles.specs.Stores.{recorded_at, single_store}
use Rattle.singles.specs.Points.{single_lister}
use Rattle.singles.specs.Configured.{configured}
use Rattle.promises.specs.Runs.{Asked, recording, recording_by, binding, releasing, collecting, run}
use Rattle.promises.proofs.Promises.{singles-demand}
use Rattle.promises.proofs.Example.{stores, A, small}

-- infinity, -0.0, 5.0, -1.0, 7.0, and 4.0, which is 5.0 + -1.0
abbrev infinity : ℕ
infinity = 0x7ff0_0000_0000_0000

abbrev minus_zero : ℕ
minus_zero = 0x8000_0000_0000_0000

abbrev five : ℕ
five = 0x4014_0000_0000_0000

abbrev minus_one : ℕ
minus_one = 0xbff0_0000_0000_0000

abbrev seven : ℕ
seven = 0x401c_0000_0000_0000

abbrev four : ℕ
four = 0x4010_0000_0000_0000

abbrev f : ℕ → Float
f bits = of_bits binary64 bits

-- limit 1: three places in each store. What lies in the values before does not matter
abbrev cells : List Float
cells = replicate 3 (f infinity)

abbrev out : Output
out = record { sets = replicate 1 (replicate 9 0); words = replicate 1 (0 ∷ []); pos = []; neg = [] }

-- no place for a point
abbrev short : Output
short = record { sets = []; words = replicate 1 (0 ∷ []); pos = []; neg = [] }

module _ (a : Aggregation) where
  abbrev setup : Setup
  setup = record { settings = record { aggregation = a; limit = 1 }; dir = record { used = 0; count = 0; last = 0 } }

  accepted : (configured a 1 none stores cells).answer ≡ success setup
  unfolding configured started begun Bindings.started pick
  accepted = refl

  abbrev code : Code (singles a)
  code = run (single_lister a) tt 1 none (held setup.dir (configured a 1 none stores cells).stores cells)

  abbrev given : List (Asked (singles a))
  given =
      recording (f infinity) A small ∷ recording (f minus_zero) A small ∷ collecting out
      ∷ recording (f five) A small ∷ recording (f minus_one) A small ∷ collecting short ∷ collecting out
      ∷ binding A small ∷ recording_by 1 (f seven) ∷ collecting out ∷ releasing 1 ∷ releasing 1 ∷ []

  -- with what the first two accepted collections list
  abbrev answers_are : ℕ → ℕ → List (Answer (singles a))
  answers_are x y =
      refuse 6 ∷ done ∷ listed ((A, x) ∷ []) ∷ done ∷ done ∷ refuse 10 ∷ listed ((A, y) ∷ []) ∷ handle 1 ∷ done ∷ listed ((A, seven) ∷ []) ∷ done ∷ refuse 7 ∷ []

  -- demand 3's premise holds of such a run, and so does its first part
  demanded : (x y : ℕ) → ran (singles a) code given ≡ answers_are x y
      → Answered (singles a) (config_of (single_store a) tt 1 none) (asked (singles a) code given) (ran (singles a) code given)
  unfolding pick
  demanded x y e =
      (singles-demand a 1 none stores cells setup accepted).1.demand given
      (subst (λ (l : List (Answer (singles a))). Premise (singles a) (config_of (single_store a) tt 1 none) (asked (singles a) code given) l)
      (sym e) (record { fewer = omega arith; unlike = omega arith }))

  -- a cumulative collection after some calls, in cells that are damaged then
  abbrev shown : List (Asked (singles a)) → Answer (singles a)
  shown xs =
      let h : Held (List Float) = left (singles a) code code.first xs in
      answered (single_lister a) (cumulative_collected (single_lister a) tt 1 (record { kept = h.kept; cells = cells }) out)

sum-answers : ran (singles Sum) (code Sum) (given Sum) ≡ answers_are Sum 0 four
unfolding configured started begun Bindings.started bound bound_in bound_to released released_in measured_by seated_by is_nan of_bits of_fields to_bits fits add round eq pick over measured called entered unless_refused barred_by unless_barred new_seat seated marked committed located agreesb slotsb allb sought admitted set_of row_of soundb inserted recorded_at delta_collected uncollected roomy swept_kept
sum-answers = refl

last-answers : ran (singles LastValue) (code LastValue) (given LastValue) ≡ answers_are LastValue minus_zero minus_one
unfolding configured started begun Bindings.started bound bound_in bound_to released released_in measured_by seated_by is_nan of_bits of_fields to_bits fits add round eq pick over measured called entered unless_refused barred_by unless_barred new_seat seated marked committed located agreesb slotsb allb sought admitted set_of row_of soundb inserted recorded_at delta_collected uncollected roomy swept_kept
last-answers = refl

-- bound and without values: 0.0, of bits 0
sum-idle : shown Sum (binding A small ∷ []) ≡ listed ((A, 0) ∷ [])
unfolding configured started begun Bindings.started bound bound_in bound_to is_nan of_bits to_bits pick over located agreesb slotsb allb sought admitted set_of row_of soundb inserted cumulative_collected uncollected roomy
sum-idle = refl

last-idle : shown LastValue (binding A small ∷ []) ≡ listed ((A, 0) ∷ [])
unfolding configured started begun Bindings.started bound bound_in bound_to is_nan of_bits to_bits pick over located agreesb slotsb allb sought admitted set_of row_of soundb inserted cumulative_collected uncollected roomy
last-idle = refl

-- with a value, which the damage made infinite: a sum may be, a last value disagrees
sum-damaged : shown Sum (recording (f five) A small ∷ []) ≡ listed ((A, infinity) ∷ [])
unfolding configured started begun Bindings.started is_nan of_bits of_fields to_bits fits add round eq pick over measured called entered unless_refused barred_by unless_barred new_seat seated marked committed located agreesb slotsb allb sought admitted set_of row_of soundb inserted recorded_at cumulative_collected uncollected roomy
sum-damaged = refl

last-damaged : shown LastValue (recording (f five) A small ∷ []) ≡ refuse 8
unfolding configured started begun Bindings.started is_nan of_bits of_fields to_bits fits add round eq pick over measured called entered unless_refused barred_by unless_barred new_seat seated marked committed located agreesb slotsb allb sought admitted set_of row_of soundb inserted recorded_at cumulative_collected uncollected roomy
last-damaged = refl
