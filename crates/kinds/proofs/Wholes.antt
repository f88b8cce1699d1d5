-- The histogram kinds over i64: lawful, steady, and their points merge. So demand 3 holds of any code that does the steps of their map.
-- Assumes nothing.
use Prim.Native.Nat.{ℕ}
use mathlib.Core.Path.{◌≡◌, refl}
use mathlib.Core.Bool.{Bool}
use mathlib.Core.List.{List}
use lib.IntN.{ℤ}
use Rattle.points.specs.Counts.{Settings}
use Rattle.points.specs.Any
use Rattle.points.specs.Whole.{whole}
use Rattle.points.proofs.Whole.{owed}
use Rattle.tally.proofs.Faithful.{Merging}
use Rattle.tally.proofs.Lawful.{Lawful, Mergeable}
use Rattle.tally.proofs.Sound.{Steady}
use Rattle.kinds.specs.Wholes.{Handed, handed, merge_handed, unmergeable, wholes}
use Rattle.kinds.proofs.AnyRecorded as R
use Rattle.kinds.proofs.AnyMerges as M
use Rattle.kinds.proofs.AnyMerges.{Forms}

pub point-is : (z : Settings) (vs : List ℤ) → handed z vs ≡ Any.handed whole z vs
unfolding handed
point-is z vs = refl

pub merge-is : (size : ℕ) (p q : Handed) → merge_handed size p q ≡ Any.merge_handed whole size p q
unfolding merge_handed
merge-is size p q = refl

pub number_is : (size : ℕ) (there : Bool) (p q : Handed) → unmergeable size there p q ≡ Any.unmergeable whole size there p q
unfolding unmergeable
number_is size there p q = refl

abbrev pub forms : Forms whole
forms = record { point_of = handed; point-is = point-is; merge = merge_handed; merge-is = merge-is; number = unmergeable; number_is = number_is }

pub wholes-lawful : Lawful wholes
wholes-lawful = R.lawful whole owed handed point-is

pub wholes-steady : Steady wholes
wholes-steady = R.steady whole owed handed point-is

-- "the independence from order and cutting, sum included, holds whenever the magnitudes of each set's collected values total at most 2^63 - 1":
-- `Within` is that, and what is said of the sum of a point that stands for values is that it is their exact total
abbrev pub wholes-merging : Merging wholes
wholes-merging = M.merging whole owed forms

pub wholes-mergeable : Mergeable wholes wholes-merging
wholes-mergeable = M.mergeable-is whole owed forms
