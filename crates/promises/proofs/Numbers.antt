-- WHAT A NUMBER OWES of its points in runs: f64 and i64 pay it. Assumes nothing.
use Prim.Native.Nat.{ℕ}
use mathlib.Core.Path.{◌≡◌, refl, ap, subst, ◌∙◌}
use mathlib.Core.Bool.{true}
use mathlib.Core.List.{List}
use lib.IntN.{ℤ}
use lib.Ieee.{Float}
use Rattle.laws.proofs.Bools.{and_intro, pick_true}
use Rattle.index.specs.Bins.{finest, lowest_bin}
use Rattle.points.specs.Counts.{Kind, exponential, explicit, size_passes, Settings, kind_counts, resized}
use Rattle.points.specs.Number.{Number}
use Rattle.points.specs.Any.{handed, handed_agrees, Stands}
use Rattle.points.specs.Real.{real}
use Rattle.points.specs.Whole.{whole}
use Rattle.points.specs.Handed as H
use Rattle.points.proofs.Counts.{size_of}
use Rattle.points.proofs.Owed.{Owed}
use Rattle.points.proofs.Real as Real
use Rattle.points.proofs.Whole as Whole
use Rattle.points.proofs.Shadow.{shadow-agrees}
use Rattle.point.specs.declared.Figures.{Figures}
use Rattle.point.specs.declared.Figures.TheVariants.{Exponential, Explicit}
use Rattle.point.specs.Handing.{Stored, counts_as, counts_in, handed_in, in_shape}
use Rattle.point.specs.Lists.{Configured}
use Rattle.point.proofs.Means.{agrees-whole, size_for}
use Rattle.point.proofs.Answers.{stands-alone}
use Rattle.whole_point.specs.Handing as W
use Rattle.whole_point.specs.Handing.{shadow_stored, alone_number}
use Rattle.mean.proofs.Standing.{mean-stands}
use Rattle.merging.proofs.Owed.{Merges, real-merges, whole-merges}
use Rattle.kinds.proofs.Recorded as Recorded
use Rattle.kinds.proofs.Wholes as Wholes
use Rattle.promises.specs.Numbers.{InRuns, reals, wholes}
use Rattle.promises.specs.Seen.{Shows}
use Rattle.promises.proofs.Seen as Seen
use Rattle.promises.proofs.Seen.{is_exponential}

-- the size of a merge, where it is the configured one or none is asked
abbrev pub Under : Kind → ℕ → Type 0
Under k size = resized size k ≡ k

pub same_size : (m top size : ℕ) → Under (exponential m top) size → size ≡ m
same_size m top size u = ap size_of u

pub record Owes {N : Number} (P : InRuns N) : Type 1 where
  pub owed : Owed N
  pub merges : Merges P.coded
  -- `point_of` is the number's `handed`
  pub point-is : (z : Settings) (vs : List N.Value) → P.point_of z vs ≡ handed N z vs
  -- a point that agrees, in shape, with the counts of a list of f64s shows their scale and offsets
  pub shows : (k : Kind) (t : Float) (size : ℕ) → Under k size → Configured k → (v : List Float) (x : P.coded.Stored) → P.coded.in_shape x ≡ true
      → handed_agrees N size finest (lowest_bin finest) (P.coded.handed_in x) ≡ true → (P.coded.handed_in x).counts ≡ kind_counts k t v → Shows k t v (P.figures x)
  -- and one that stands for values has its card
  pub card : (z : Settings) → Configured z.kind → (v : List N.Value) (x : P.coded.Stored) → P.coded.in_shape x ≡ true
      → Stands N z (P.coded.handed_in x) v → P.Card z v x

-- ---- f64
size_for_lem : (k : Kind) (t : Float) (size : ℕ) → Under k size → Configured k → (f : Figures) (bs : List Float) (xs ys : List ℕ) (v : List Float)
    → counts_as f bs xs ys ≡ kind_counts k t v → size_for size f ≡ true
size_for_lem (exponential m top) t size u k (Exponential c) bs xs ys v e = ap (λ n. size_passes n) (same_size m top size u) ∙ k
size_for_lem (exponential m top) t size u k (Explicit n) bs xs ys v e = refl
size_for_lem (explicit b) t size u k (Exponential c) bs xs ys v e = absurd (subst is_exponential e tt)
size_for_lem (explicit b) t size u k (Explicit n) bs xs ys v e = refl

shows : (k : Kind) (t : Float) (size : ℕ) → Under k size → Configured k → (v : List Float) (x : Stored) → in_shape x ≡ true
    → handed_agrees real size finest (lowest_bin finest) (handed_in x) ≡ true → counts_in x ≡ kind_counts k t v → Shows k t v x.point.figures
unfolding H.handed_agrees
shows k t size u c v x s a e =
    Seen.shows k t v size x (agrees-whole size x (size_for_lem k t size u c x.point.figures x.bounds x.pos x.neg v e) s ∙ a) s e

pub real_owes : Owes reals
real_owes =
    record {
      owed = Real.owed;
      merges = real-merges;
      point-is = Recorded.point-is;
      shows = shows;
      card = λ z k v x s h g. mean-stands z k x s v h g;
    }

-- ---- i64, by the shadow
alone-card : (z : Settings) → Configured z.kind → (v : List ℤ) (x : W.Stored) → W.in_shape x ≡ true → Stands whole z (W.handed_in x) v → alone_number x ≡ 11
unfolding alone_number
alone-card z k v x s h = pick_true _ 11 8 (and_intro _ _ s (stands-alone whole Whole.owed z k (W.handed_in x) v h))

pub whole_owes : Owes wholes
whole_owes =
    record {
      owed = Whole.owed;
      merges = whole-merges;
      point-is = Wholes.point-is;
      shows = λ k t size u c v x s a e. shows k t size u c v (shadow_stored x) s (shadow-agrees size finest (lowest_bin finest) (W.handed_in x) ∙ a) e;
      card = alone-card;
    }
