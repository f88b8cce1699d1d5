-- The terms of the promises, under their names in small letters; and demand 3 of any faithful code of the histogram kinds. Assumes nothing.
use Prim.Native.Nat.{ℕ, ◌+◌, ◌-◌, ◌/◌, ◌^◌}
use mathlib.Core.Path.{◌≡◌, sym, ap, ◌∙◌}
use native.Mathlib.Omega.{arith}
use borrow.Author.Tests.{ltb-true}
use lib.IntN.{pos, ◌-ℤ◌}
use lib.Pow.{pow-add}
use lib.Signed.{shr_z, mag}
use lib.Ieee.Bits.{is_true}
use lib.Ieee.Scale.{finite}
use Rattle.laws.proofs.Differences.{shift-sub}
use Rattle.index.specs.Magnitude.{magnitude}
use Rattle.index.specs.Bins.{bin_at, index_of}
use Rattle.index.proofs.Indices.{one_index as only-index}
use Rattle.index.proofs.Values.{value-is}
use Rattle.integers.specs.Answers.{nearest_of}
use Rattle.integers.proofs.NoNearer.{nearest-is, one-nearest as only-nearest}
use Rattle.halving.proofs.Plain as Plain
use Rattle.tally.proofs.Faithful.{Demand, MergedDemand}
use Rattle.tally.proofs.Demand.{demand, merged-demand}
use Rattle.kinds.specs.Histograms.{histograms}
use Rattle.kinds.proofs.Recorded.{lawful}
use Rattle.kinds.proofs.Merges.{merging, mergeable}
use Rattle.kinds.specs.Wholes.{wholes}
use Rattle.kinds.proofs.Wholes.{wholes-lawful, wholes-merging, wholes-mergeable}
use Rattle.directory.proofs.Tied.{agreement}
use Rattle.promises.specs.Promises.{ExponentialDemand, ExplicitDemand, ExponentialWholesDemand, ExplicitWholesDemand, SinglesDemand, Reaches, OneIndex, OneNearest, PlainForm, HalvedOffset, DirectoryAgrees}
use Rattle.promises.proofs.Reaches as Reaching
use Rattle.promises.proofs.Setups as Setups
use Rattle.promises.proofs.Singles as Singles

pub exponential-demand : ExponentialDemand
exponential-demand = Setups.exponential-demand

pub explicit-demand : ExplicitDemand
explicit-demand = Setups.explicit-demand

pub exponential-wholes-demand : ExponentialWholesDemand
exponential-wholes-demand = Setups.exponential-wholes-demand

pub explicit-wholes-demand : ExplicitWholesDemand
explicit-wholes-demand = Setups.explicit-wholes-demand

pub singles-demand : SinglesDemand
singles-demand = Singles.singles-demand

pub reaches : Reaches
reaches = Reaching.reaches

pub one_index : OneIndex
one_index x scale level f z e =
    let r = value-is x scale level f.fits (is_true (finite x) f.known) z e in
    let i = index_of level (bin_at level (magnitude x)) in
    (i, r.0, r.1, λ j h. only-index scale (magnitude x) j i h r.1)

pub one-nearest : OneNearest
one-nearest z h =
    let n = nearest-is z (ltb-true (mag z) (2 ^ 63) h) in
    (n, λ x m. only-nearest z x (nearest_of z) h m n)

pub plain_form : PlainForm
plain_form = Plain.plain_form

pub halved_offset : HalvedOffset
halved_offset level bin h =
    let e : level - 1 + 1 ≡ level = omega arith in
    ap (λ (n : ℕ). pos (bin / 2) -ℤ pos (2 ^ n)) e
    ∙ sym (ap (λ (n : ℕ). shr_z (pos bin -ℤ pos n) 2) (pow-add 2 level 1) ∙ shift-sub bin (2 ^ level) 1)

pub directory-agrees : DirectoryAgrees
directory-agrees = agreement

-- "each call's number and each list of points collected is that of document 01's tally", "whatever the order of recording and wherever collections cut"
pub answers : Demand histograms
answers = demand histograms lawful

-- and "each set with a collected value has a merged point (its points merged one by one in any order, under the configured max_size) .."
pub merges : MergedDemand histograms merging
merges = merged-demand histograms lawful merging mergeable

-- over i64, where the magnitudes of each set's collected values total at most 2^63 - 1
pub whole-answers : Demand wholes
whole-answers = demand wholes wholes-lawful

pub whole-merges : MergedDemand wholes wholes-merging
whole-merges = merged-demand wholes wholes-lawful wholes-merging wholes-mergeable
