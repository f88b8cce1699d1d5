-- Figures of f64 values: recorded one by one they are those of the list. Assumes nothing.
use mathlib.Core.Path.{◌≡◌}
use mathlib.Core.List.{List, ◌∷◌, [], ◌++◌, foldl}
use lib.Ieee.{Float}
use Rattle.points.specs.Figures.{Settings, figures_of, record_figures}
use Rattle.points.specs.Real.{real}
pub use Rattle.points.proofs.Counts.{count-is, OneKind, kind-one, shape_one, merged-count}
use Rattle.points.proofs.AnyPoint
use Rattle.points.proofs.Real.{owed}

pub figures_append : (s : Settings) (vs : List Float) (v : Float) → record_figures s (figures_of s vs) v ≡ figures_of s (vs ++ v ∷ [])
figures_append = AnyPoint.figures_append real owed

pub figures-all : (s : Settings) (us vs : List Float) → foldl (record_figures s) (figures_of s us) vs ≡ figures_of s (us ++ vs)
figures-all = AnyPoint.figures-all real owed
