-- A refusal's number is 1 to 16, never 0; an answer with the number 0 is no refusal, and any other number is a refusal's. Assumes nothing.
use Rattle.std.specs.Prelude.{◌≡◌, ◌≢◌, ◌≤◌, Result, Ok, Err}
use Rattle.std.specs.Result.{IsErrAnd}
use mathlib.Core.Path.{sym, ap, ◌∙◌}
use native.Mathlib.Omega.{arith}
use Rattle.std.proofs.Math.Nat.{suc-ne-zero}
use Rattle.refusals.specs.declared.Refusal.{Refusal}
use Rattle.refusals.specs.declared.Refusal.TheVariants as R
use Rattle.refusals.specs.Refusals.{number, code}

pub number-nonzero : (e : Refusal) → number e ≢ 0
number-nonzero R.MaxSize = suc-ne-zero 0
number-nonzero R.MaxScale = suc-ne-zero 1
number-nonzero R.Bounds = suc-ne-zero 2
number-nonzero R.Limit = suc-ne-zero 3
number-nonzero R.Attributes = suc-ne-zero 4
number-nonzero R.NotFinite = suc-ne-zero 5
number-nonzero R.NoHandle = suc-ne-zero 6
number-nonzero R.Disagrees = suc-ne-zero 7
number-nonzero R.Full = suc-ne-zero 8
number-nonzero R.NoRoom = suc-ne-zero 9
number-nonzero R.Unlike = suc-ne-zero 10
number-nonzero R.LentShort = suc-ne-zero 11
number-nonzero R.NoValues = suc-ne-zero 12
number-nonzero R.OffGrid = suc-ne-zero 13
number-nonzero R.NotASheet = suc-ne-zero 14
number-nonzero R.SumOutside = suc-ne-zero 15

pub number-most : (e : Refusal) → number e ≤ 16
number-most R.MaxSize = omega arith
number-most R.MaxScale = omega arith
number-most R.Bounds = omega arith
number-most R.Limit = omega arith
number-most R.Attributes = omega arith
number-most R.NotFinite = omega arith
number-most R.NoHandle = omega arith
number-most R.Disagrees = omega arith
number-most R.Full = omega arith
number-most R.NoRoom = omega arith
number-most R.Unlike = omega arith
number-most R.LentShort = omega arith
number-most R.NoValues = omega arith
number-most R.OffGrid = omega arith
number-most R.NotASheet = omega arith
number-most R.SumOutside = omega arith

pub code-most : {A : Type 0} → (r : Result A Refusal) → code r ≤ 16
code-most (Ok a) = omega arith
code-most (Err e) = number-most e

pub refused-nonzero : {A : Type 0} → (r : Result A Refusal) → (e : Refusal) → r ≡ Err e → code r ≢ 0
refused-nonzero r e i z = number-nonzero e (sym (ap code i) ∙ z)

-- what a `?` hands on is the refusal that it met
pub passed-on : {A : Type 0} → (r : Result A Refusal) → (e : Refusal) → IsErrAnd r (λ y. y ≡ e) → r ≡ Err e
passed-on (Ok a) e h = absurd h
passed-on (Err y) e h = ap Err h
