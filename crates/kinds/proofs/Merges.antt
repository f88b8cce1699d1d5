-- Points of the histogram kinds over f64 merge, wherever there is room, to the point of the lists joined. Assumes nothing.
use Prim.Native.Nat.{ℕ}
use mathlib.Core.Path.{◌≡◌, refl}
use mathlib.Core.Bool.{Bool, true}
use mathlib.Core.Logic.{◌⊎◌, inl}
use lib.Dec.{eqb}
use Rattle.laws.specs.Pick.{pick}
use Rattle.points.specs.Handed as H
use Rattle.points.specs.Handed.{Handed, handed, merge_handed, handed_agrees, unmergeable}
use Rattle.points.specs.Stands.{Stands}
use Rattle.points.specs.Any
use Rattle.points.specs.Real.{real}
use Rattle.points.proofs.Real.{owed}
use Rattle.points.proofs.Counts.{size_of}
use Rattle.tally.specs.Kind.{Room}
use Rattle.tally.proofs.Faithful.{Merging, fitting}
use Rattle.tally.proofs.Lawful.{Mergeable}
use Rattle.kinds.specs.Histograms.{passes, histograms}
use Rattle.kinds.proofs.Recorded.{point-is}
use Rattle.kinds.proofs.AnyMerges as A
use Rattle.kinds.proofs.AnyMerges.{Forms}

-- two points merged under a max_size into lent output: a refusal's number, or the merged point
unfoldable pub merged : ℕ → Handed → Handed → Room → ℕ ⊎ Handed
merged size p q room = pick (eqb (unmergeable size true p q) 0) (fitting histograms (merge_handed size p q) room) (inl (unmergeable size true p q))

abbrev pub merging : Merging histograms
merging =
    record {
      Within = λ vs. Unit;
      Stands = λ z p vs. (passes z.kind ≡ true) × Stands z p vs;
      merge = λ z. merged (size_of z.kind);
    }

merge-is : (size : ℕ) (p q : Handed) → merge_handed size p q ≡ Any.merge_handed real size p q
unfolding merge_handed
merge-is size p q = refl

number_is : (size : ℕ) (there : Bool) (p q : Handed) → unmergeable size there p q ≡ Any.unmergeable real size there p q
unfolding unmergeable H.mergeable handed_agrees
number_is size there p q = refl

abbrev forms : Forms real
forms = record { point_of = handed; point-is = point-is; merge = merge_handed; merge-is = merge-is; number = unmergeable; number_is = number_is }

pub mergeable : Mergeable histograms merging
unfolding merged
mergeable = A.mergeable-is real owed forms
