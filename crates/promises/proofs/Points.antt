-- The terms of the promises about points of lists and their means, under their names in small letters. Assumes nothing.
use mathlib.Core.Path.{◌≡◌, sym, subst, ◌∙◌}
use mathlib.Core.List.{[], ◌∷◌}
use lib.IntN.{ℤ, ◌+ℤ◌, +ℤ_idr}
use Rattle.floats.proofs.Whole.{whole_is, is-whole}
use Rattle.integers.specs.Totals.{total}
use Rattle.integers.proofs.Totals.{total_append}
use Rattle.points.specs.Any.{Stands}
use Rattle.points.specs.Real.{real}
use Rattle.points.proofs.AnyPoint.{handed-stands}
use Rattle.points.proofs.Real as Real
use Rattle.points.proofs.Whole as Whole
use Rattle.point.specs.Lists.{real_points}
use Rattle.whole_point.specs.Lists.{whole_points}
use Rattle.point.proofs.Lists.{exponential-recorded, explicit-recorded}
use Rattle.mean.proofs.Rounding.{hundredths-nearest, hundredths-half}
use Rattle.mean.proofs.Standing.{mean-stands}
use Rattle.merging.proofs.Owed.{real-merges, whole-merges, merged-reads}
use Rattle.merging.proofs.Groups as Groups
use Rattle.merging.proofs.Orders.{all_alike}
use Rattle.merging.proofs.Fresh.{empty-first, empty-second, fresh-good, fresh-first, fresh-second}
use Rattle.pooling.proofs.WholeMerges.{wholes_as-stored, wholes-hold}
use Rattle.pooling.proofs.Merges.{as-stored, holds}
use Rattle.promises.specs.Points.{ExponentialRecords, ExplicitRecords, MergeAnswers, ListsMerge, AnyGrouping, EveryGrouping, EmptyMerges, FreshAgrees, FreshMerges, WholeSums, ListedMerge, ListedWholesMerge, PointMean, NearestMean, HalfMean, WholeTest}
use Rattle.promises.proofs.Groupings.{two-lists}

pub exponential-records : ExponentialRecords
exponential-records size top sized known xs ys long long' vs values few bounds extremes sums =
    exponential-recorded size top sized known xs ys long long' vs values few bounds extremes sums

pub explicit-records : ExplicitRecords
explicit-records bounds passes xs long vs values few ys extremes sums = explicit-recorded bounds passes xs long vs values few ys extremes sums

pub merge-answers : MergeAnswers real_points
merge-answers = merged-reads real_points real-merges

pub lists-merge : ListsMerge real_points
lists-merge s k size u = two-lists Real.owed real_points real-merges s k size u

pub any_grouping : AnyGrouping real_points
any_grouping = Groups.any_grouping Real.owed real_points real-merges

pub every_grouping : EveryGrouping real_points
every_grouping = all_alike Real.owed real_points real-merges

pub empty-merges : EmptyMerges real_points
empty-merges size x y z us vs e = (empty-first Real.owed real_points real-merges size x y z us vs e, empty-second Real.owed real_points real-merges size x y z us vs e)

pub fresh-agrees : FreshAgrees real_points
fresh-agrees = fresh-good Real.owed real_points

pub fresh-merges : FreshMerges real_points
fresh-merges size s top f y z none g us vs =
    (fresh-first Real.owed real_points real-merges size s top f y none g z us vs, fresh-second Real.owed real_points real-merges size s top f y none g z us vs)

-- ---- over i64
pub whole-merge-answers : MergeAnswers whole_points
whole-merge-answers = merged-reads whole_points whole-merges

pub whole-lists-merge : ListsMerge whole_points
whole-lists-merge s k size u = two-lists Whole.owed whole_points whole-merges s k size u

pub whole-any_grouping : AnyGrouping whole_points
whole-any_grouping = Groups.any_grouping Whole.owed whole_points whole-merges

pub whole-every_grouping : EveryGrouping whole_points
whole-every_grouping = all_alike Whole.owed whole_points whole-merges

pub whole-empty-merges : EmptyMerges whole_points
whole-empty-merges size x y z us vs e =
    (empty-first Whole.owed whole_points whole-merges size x y z us vs e, empty-second Whole.owed whole_points whole-merges size x y z us vs e)

pub whole-fresh-agrees : FreshAgrees whole_points
whole-fresh-agrees = fresh-good Whole.owed whole_points

pub whole-fresh-merges : FreshMerges whole_points
whole-fresh-merges size s top f y z none g us vs =
    (fresh-first Whole.owed whole_points whole-merges size s top f y none g z us vs, fresh-second Whole.owed whole_points whole-merges size s top f y none g z us vs)

one-total : (x : ℤ) → x ≡ total (x ∷ [])
unfolding total
one-total x = sym (+ℤ_idr x)

pub whole-sums : WholeSums
whole-sums =
    Groups.sums-add Whole.owed whole_points whole-merges (λ x vs. x ≡ total vs) one-total (λ x y vs ws h k. (λ i. h i +ℤ k i) ∙ sym (total_append vs ws))

-- ---- in lists
pub listed-merge : ListedMerge
listed-merge size a x b y at o e f s p q h = (as-stored size a x b y at o e f s p q h, λ z g. holds size a x b y at o e f s p q h z g)

pub listed-wholes-merge : ListedWholesMerge
listed-wholes-merge size a x b y at o e f s p q h =
    (wholes_as-stored size a x b y at o e f s p q h, λ z g. wholes-hold size a x b y at o e f s p q h z g)

pub point-mean : PointMean
point-mean s k vs x p g =
    mean-stands s k x p.shape vs (subst (λ h. Stands real s h vs) (sym p.is) (handed-stands real Real.owed s vs p.values)) g

pub nearest-mean : NearestMean
nearest-mean = hundredths-nearest

pub half-mean : HalfMean
half-mean = hundredths-half

pub whole-test : WholeTest
whole-test x = (whole_is x, is-whole x)
