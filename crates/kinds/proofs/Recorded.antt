-- The histogram kinds over f64 are lawful: a series has the values recorded into it. Assumes nothing.
use mathlib.Core.Path.{◌≡◌, refl}
use mathlib.Core.Bool.{true}
use mathlib.Core.List.{List}
use lib.Ieee.{Float}
use Rattle.laws.specs.Lists.{All}
use Rattle.laws.specs.Tests.{all}
use Rattle.floats.specs.Starts.{FiniteF64}
use Rattle.points.specs.Figures.{Settings}
use Rattle.points.specs.Handed.{handed}
use Rattle.points.specs.Any
use Rattle.points.specs.Real.{real}
use Rattle.points.proofs.Real.{owed}
use Rattle.tally.specs.Map.{Config}
use Rattle.tally.specs.Demand.{Code, ran}
use Rattle.tally.proofs.Lawful.{Lawful}
use Rattle.tally.proofs.Faithful.{Faithful}
use Rattle.tally.proofs.Unbarred.{unbarred, never-barred}
use Rattle.tally.proofs.Sound.{Steady}
use Rattle.kinds.specs.Histograms.{histograms}
pub use Rattle.kinds.proofs.AnyRecorded.{sound-kind}
use Rattle.kinds.proofs.AnyRecorded as A

-- `handed` is the number's
pub point-is : (z : Settings) (vs : List Float) → handed z vs ≡ Any.handed real z vs
unfolding handed
point-is z vs = refl

-- values that are accepted are finite f64s
pub all-f64 : (vs : List Float) → all histograms.finite vs ≡ true → All FiniteF64 vs
all-f64 = A.all_known real owed handed point-is

pub lawful : Lawful histograms
lawful = A.lawful real owed handed point-is

pub histograms-steady : Steady histograms
histograms-steady = A.steady real owed handed point-is

-- no sum of f64s is refused: 16 is never answered, and so demand 3's premise counts the sets of accepted calls alone
pub never_16 : (c : Config histograms) (C : Code histograms) → Faithful histograms c C → (xs : List C.Input) → all (unbarred histograms) (ran histograms C xs) ≡ true
never_16 = never-barred histograms (λ z x v. refl)
