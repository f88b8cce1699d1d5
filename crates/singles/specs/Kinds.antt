-- SUMS AND LAST VALUES (request L1): kinds of series that are one f64. Assumes nothing.
use Rattle.std.specs.Prelude.{ℕ, Bool, true, Float}
use mathlib.Core.List.{List, [], ◌∷◌, foldl}
use Rattle.std.specs.Float.{binary64}
use Rattle.std.specs.Float.Ieee.{add}
use Rattle.std.specs.Float.Ieee.Scale.{finite}
use Rattle.floats.specs.Starts.{zero_float}
use Rattle.floats.specs.Answers.{bits_of}
use Rattle.tally.specs.Kind.{Kind}
use Rattle.kinds.specs.Histograms.{histograms}
use Rattle.singles.specs.declared.Aggregation.{Aggregation}
use Rattle.singles.specs.declared.Aggregation.TheVariants.{Sum, LastValue}

-- the last of a list of values; d if it has none
abbrev pub last_or : Float → List Float → Float
last_or d [] = d
last_or d (v ∷ []) = v
last_or d (v ∷ w ∷ vs) = last_or d (w ∷ vs)

-- what the values of a set come to: "the set's sum or last waiting value". A sum is f64 addition in order of recording from 0.0, one rounding each; without
-- values either is 0.0, as in the Rust (`T::default()` in `Aggregator::create`)
abbrev pub value_of : Aggregation → List Float → Float
value_of Sum vs = foldl (add binary64) zero_float vs
value_of LastValue vs = last_or zero_float vs

-- what a value makes of the f64 that is held: `update` of sum.rs adds it, that of last_value.rs puts it in its place
abbrev pub step : Aggregation → Float → Float → Float
step Sum x v = add binary64 x v
step LastValue x v = v

-- which f64s may be held: as a sum any, for a sum of finite values may overflow. "A value that isn't finite .. held as a last value it gives 8."
abbrev pub holds : Aggregation → Float → Bool
holds Sum x = true
holds LastValue x = finite x

-- THE KINDS. "A value that isn't finite is 6 here too." They have no settings; they keep no count, so no 9 is about one. A point is the bits of the value,
-- 7FF8000000000000 for a NaN, and has no counts.
abbrev pub singles : Aggregation → Kind
singles a =
    record {
      Settings = Unit;
      valid = λ z. true;
      Value = Float;
      Series = Float;
      Point = ℕ;
      finite = histograms.finite;
      fresh = λ z. zero_float;
      add = λ z x v. step a x v;
      agrees = λ z x. holds a x;
      total = λ x. 0;
      allows = λ z x v. true;
      point = λ z x. bits_of x;
      pos = λ p. 0;
      neg = λ p. 0;
      point_of = λ z vs. bits_of (value_of a vs);
      allowed = λ z vs v. true;
    }
