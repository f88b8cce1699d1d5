-- A value that a histogram takes is finite. Assumes nothing.
use mathlib.Core.Path.{◌≡◌}
use mathlib.Core.Bool.{true}
use lib.Ieee.{Float, binary64, fits}
use lib.Ieee.Scale.{finite}
use Rattle.laws.proofs.Cases.{and-true}
use Rattle.kinds.specs.Histograms.{histograms}

pub finite-is : (v : Float) → histograms.finite v ≡ true → finite v ≡ true
finite-is v e = (and-true (finite v) (fits binary64 v) e).0
