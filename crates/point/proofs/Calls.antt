-- The call of a merge: its refusals in order, and what it answers otherwise. Assumes nothing.
use Prim.Native.Nat.{ℕ, ◌+◌, ◌^◌, ◌≤◌, ◌<◌}
use mathlib.Core.Path.{◌≡◌, refl, ap, sym, subst, ◌∙◌}
use mathlib.Core.Bool.{Bool, true, false, beq, ◌&&◌}
use mathlib.Core.List.{List}
use native.Mathlib.Omega.{arith}
use lib.Dec.{leb}
use lib.ListN.{length}
use borrow.Author.Tests.{leb-true, eq-eqb, ne_eqb}
use Rattle.laws.specs.Over.{over}
use Rattle.laws.specs.Pick.{pick}
use Rattle.laws.specs.Said.{Said, refusal}
use Rattle.laws.proofs.Bools.{not-both, and_left, and_right, pick-left, pick-then}
use Rattle.points.specs.Explicit.{same_bounds, bucket_count, buckets_agree, merge_buckets}
use Rattle.points.specs.Figures.{exponential_counts, explicit_counts}
use Rattle.points.specs.Handed.{merge_counts, merge_handed, pos_of, neg_of}
use Rattle.points.proofs.Explicit.{buckets-say}
use Rattle.exponential.specs.declared.Counts.{Counts}
use Rattle.merges.specs.Merges.{Agreeing, merged_point}
use Rattle.explicit.specs.Series.{buckets_in}
use Rattle.explicit.specs.Inner.{Addable}
use Rattle.point.specs.declared.Point.{Point}
use Rattle.point.specs.declared.Figures.TheVariants.{Exponential, Explicit}
use Rattle.std.specs.Prelude.{Ok, Err}
use Rattle.refusals.specs.declared.Refusal.TheVariants.{NoRoom}
use Rattle.point.specs.Handing.{Stored, counts_as, counts_in, handed_in, figures_for, Outcome, ended, laid_over, refusal_before, merging, count_in}
use Rattle.point.specs.Inner.{size_fits, same_figures, figures_agree, extremes_ok, point_agrees, Made, Over, made_over, counts_over, made_one, laid_one, finished}
use Rattle.point.proofs.Laid.{addable, over-one}
use Rattle.point.proofs.Means.{refusal_is}
use Rattle.laws.specs.Counting.{most_count}

-- the tests in their order
abbrev chain : Bool → Bool → Bool → Bool → Bool → Bool → ℕ
chain t u v w x y = pick t (pick (u && v) (pick (w && x) (pick y 0 9) 11) 8) 1

-- the outcome of counts laid over the rows
abbrev concluded : Stored → Stored → Over → Outcome
concluded x y o = ended (finished x.point y.point o.made) x.bounds o.pos o.neg

through : (a b : Stored) (t : Bool) (o n : Over) → concluded a b (pick t o n) ≡ pick t (concluded a b o) (concluded a b n)
unfolding pick
through a b true o n = refl
through a b false o n = refl

module _ (size : ℕ) (a b : Stored) where
  abbrev pub size_ok : Bool
  size_ok = size_fits size a.point.figures b.point.figures

  abbrev pub first_ok : Bool
  first_ok = point_agrees size a

  abbrev pub second_ok : Bool
  second_ok = point_agrees size b

  abbrev pub kind_ok : Bool
  kind_ok = same_figures a.point.figures a.bounds b.point.figures b.bounds

  abbrev pub switch_ok : Bool
  switch_ok = beq a.point.extremes b.point.extremes

  abbrev count_ok : Bool
  count_ok = leb (count_in a.point.figures + count_in b.point.figures) most_count

  is-chain : refusal_before size a b ≡ chain size_ok first_ok second_ok kind_ok switch_ok count_ok
  is-chain = sym (refusal_is size a b)

  pub bad-size : size_ok ≡ false → 1 ≡ refusal_before size a b
  unfolding pick
  bad-size t = sym (is-chain ∙ ap (λ t. chain t first_ok second_ok kind_ok switch_ok count_ok) t)

  module _ (t : size_ok ≡ true) where
    pub bad-first : first_ok ≡ false → 8 ≡ refusal_before size a b
    unfolding pick
    bad-first u = sym (is-chain ∙ (λ j. chain (t j) (u j) second_ok kind_ok switch_ok count_ok))

    module _ (u : first_ok ≡ true) where
      pub bad-second : second_ok ≡ false → 8 ≡ refusal_before size a b
      unfolding pick
      bad-second v = sym (is-chain ∙ (λ j. chain (t j) (u j) (v j) kind_ok switch_ok count_ok))

      module _ (v : second_ok ≡ true) where
        pub unlike : kind_ok ≡ false → 11 ≡ refusal_before size a b
        unfolding pick
        unlike w = sym (is-chain ∙ (λ j. chain (t j) (u j) (v j) (w j) switch_ok count_ok))

        module _ (w : kind_ok ≡ true) where
          pub unlike_switch : switch_ok ≡ false → 11 ≡ refusal_before size a b
          unfolding pick
          unlike_switch x = sym (is-chain ∙ (λ j. chain (t j) (u j) (v j) (w j) (x j) count_ok))

          module _ (x : switch_ok ≡ true) where
            pub too_many : count_ok ≡ false → 9 ≡ refusal_before size a b
            unfolding pick
            too_many y = sym (is-chain ∙ (λ j. chain (t j) (u j) (v j) (w j) (x j) (y j)))

            pub none : count_ok ≡ true → 0 ≡ refusal_before size a b
            unfolding pick
            none y = sym (is-chain ∙ (λ j. chain (t j) (u j) (v j) (w j) (x j) (y j)))

  -- where nothing is refused
  module _ (e : refusal_before size a b ≡ 0) where
    e₁ : ◌≡◌ {A = ℕ} (pick (first_ok && second_ok) (pick (kind_ok && switch_ok) (pick count_ok 0 9) 11) 8) 0
    e₁ = pick-then size_ok _ 1 (omega arith) (sym is-chain ∙ e)

    e₂ : ◌≡◌ {A = ℕ} (pick (kind_ok && switch_ok) (pick count_ok 0 9) 11) 0
    e₂ = pick-then (first_ok && second_ok) _ 8 (omega arith) e₁

    both : first_ok && second_ok ≡ true
    both = pick-left (first_ok && second_ok) _ 8 (omega arith) e₁

    pub first-agrees : figures_agree size a.point.figures a.bounds a.pos a.neg ≡ true
    unfolding point_agrees
    first-agrees = and_left (figures_agree size a.point.figures a.bounds a.pos a.neg) (extremes_ok a.point) (and_left first_ok second_ok both)

    pub second-agrees : figures_agree size b.point.figures b.bounds b.pos b.neg ≡ true
    unfolding point_agrees
    second-agrees = and_left (figures_agree size b.point.figures b.bounds b.pos b.neg) (extremes_ok b.point) (and_right first_ok second_ok both)

    pub alike : kind_ok ≡ true
    alike = and_left kind_ok switch_ok (pick-left (kind_ok && switch_ok) _ 11 (omega arith) e₂)

    pub fit : count_in a.point.figures + count_in b.point.figures ≤ most_count
    fit = leb-true (count_in a.point.figures + count_in b.point.figures) most_count (pick-left count_ok 0 9 (omega arith) (pick-then (kind_ok && switch_ok) _ 11 (omega arith) e₂))

    -- the exponential kind
    pub agreeing : (c d : Counts) → a.point.figures ≡ Exponential c → b.point.figures ≡ Exponential d → Agreeing size c a.pos a.neg d b.pos b.neg
    agreeing c d f g =
        let n : c.count + d.count ≤ most_count = subst (λ (n : ℕ). n ≤ most_count) (λ j. count_in (f j) + count_in (g j)) fit in
        record {
          first = ap (λ h. figures_agree size h a.bounds a.pos a.neg) (sym f) ∙ first-agrees;
          second = ap (λ h. figures_agree size h b.bounds b.pos b.neg) (sym g) ∙ second-agrees;
          count = omega (arith, n);
        }

    -- the explicit kind
    module _ (n m : ℕ) (f : a.point.figures ≡ Explicit n) (g : b.point.figures ≡ Explicit m) where
      pub same : same_bounds a.bounds b.bounds ≡ true
      same = (λ j. same_figures (sym f j) a.bounds (sym g j) b.bounds) ∙ alike

      pub ok-first : buckets_agree a.bounds (buckets_in a.bounds n a.pos) ≡ true
      ok-first = ap (λ h. figures_agree size h a.bounds a.pos a.neg) (sym f) ∙ first-agrees

      pub ok-second : buckets_agree b.bounds (buckets_in b.bounds m b.pos) ≡ true
      ok-second = ap (λ h. figures_agree size h b.bounds b.pos b.neg) (sym g) ∙ second-agrees

      pub can-add : Addable (bucket_count a.bounds) a.pos b.pos × (n + m < 2 ^ 64)
      can-add =
          let k : n + m ≤ most_count = subst (λ (n : ℕ). n ≤ most_count) (λ j. count_in (f j) + count_in (g j)) fit in
          addable a.bounds n a.pos b.bounds m b.pos same (buckets-say a.bounds (buckets_in a.bounds n a.pos) ok-first) (buckets-say b.bounds (buckets_in b.bounds m b.pos) ok-second) (omega (arith, k))

      pub one-is : (us vs : List ℕ) → counts_over (explicit_counts a.bounds (merge_buckets (buckets_in a.bounds n a.pos) (buckets_in b.bounds m b.pos))) us vs
          ≡ made_over (laid_one (bucket_count a.bounds) n a.pos m b.pos us).made (laid_one (bucket_count a.bounds) n a.pos m b.pos us).counts vs
      one-is = over-one a.bounds n a.pos b.bounds m b.pos same (buckets-say a.bounds (buckets_in a.bounds n a.pos) ok-first) (buckets-say b.bounds (buckets_in b.bounds m b.pos) ok-second)

    -- unlike kinds are refused before
    pub not_mixed : (c : Counts) (m : ℕ) → a.point.figures ≡ Exponential c → b.point.figures ≡ Explicit m → ⊥
    not_mixed c m f g = not-both kind_ok alike (λ j. same_figures (f j) a.bounds (g j) b.bounds)

    pub not_mixed_2 : (n : ℕ) (d : Counts) → a.point.figures ≡ Explicit n → b.point.figures ≡ Exponential d → ⊥
    not_mixed_2 n d f g = not-both kind_ok alike (λ j. same_figures (f j) a.bounds (g j) b.bounds)

  module _ (us vs : List ℕ) where
    pub refused_law : (n : ℕ) → n ≡ refusal_before size a b → (n ≡ 0 → ⊥) → ended (refusal n) a.bounds us vs ≡ merging size a b us vs
    unfolding merging pick
    refused_law n e z = rw (← e, ne_eqb n 0 z)

    -- the merged counts over the rows are the merged point over the rows
    laid-is : concluded a b (counts_over (merge_counts size (counts_in a) (counts_in b)) us vs) ≡ laid_over (merge_handed size (handed_in a) (handed_in b)) a.bounds us vs
    unfolding counts_over laid_over merge_handed
    laid-is =
        let c = merge_counts size (counts_in a) (counts_in b) in
        through a b (leb (length (pos_of c)) (length us) && leb (length (neg_of c)) (length vs)) (made_over (Ok (figures_for c)) (over (pos_of c) us) (over (neg_of c) vs)) (made_over (Err NoRoom) us vs)

    pub accepted : refusal_before size a b ≡ 0
        → concluded a b (counts_over (merge_counts size (counts_in a) (counts_in b)) us vs) ≡ merging size a b us vs
    unfolding merging pick
    accepted e = rw (eq-eqb (refusal_before size a b) 0 e) laid-is

    pub exponential_law : (c d : Counts) (m : Made) (r : Said Point) (us' vs' : List ℕ) → refusal_before size a b ≡ 0 → a.point.figures ≡ Exponential c → b.point.figures ≡ Exponential d
        → made_over m us' vs' ≡ counts_over (exponential_counts (merged_point size c a.pos a.neg d b.pos b.neg)) us vs → r ≡ finished a.point b.point m
        → ended r a.bounds us' vs' ≡ merging size a b us vs
    exponential_law c d m r us' vs' e f g h k =
        ap (λ r. ended r a.bounds us' vs') k
        ∙ ap (concluded a b) h
        ∙ (λ j. concluded a b (counts_over (merge_counts size (counts_as (sym f j) a.bounds a.pos a.neg) (counts_as (sym g j) b.bounds b.pos b.neg)) us vs))
        ∙ accepted e

    pub explicit_law : (n m : ℕ) (t : Made) (r : Said Point) (us' : List ℕ) → refusal_before size a b ≡ 0 → a.point.figures ≡ Explicit n → b.point.figures ≡ Explicit m
        → made_one t us' ≡ laid_one (bucket_count a.bounds) n a.pos m b.pos us → r ≡ finished a.point b.point t
        → ended r a.bounds us' vs ≡ merging size a b us vs
    explicit_law n m t r us' e f g h k =
        ap (λ r. ended r a.bounds us' vs) k
        ∙ (λ j. concluded a b (made_over (h j).made (h j).counts vs))
        ∙ ap (concluded a b) (sym (one-is e n m f g us vs))
        ∙ (λ j. concluded a b (counts_over (merge_counts size (counts_as (sym f j) a.bounds a.pos a.neg) (counts_as (sym g j) b.bounds b.pos b.neg)) us vs))
        ∙ accepted e
