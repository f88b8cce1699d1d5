-- One value more into a series over i64 that agrees: only 9 and 16 are left to refuse it, and a series that took it agrees, over rows as long as
-- they were. Assumes nothing.
use Prim.Native.Nat.{ℕ, ◌^◌}
use mathlib.Core.Path.{◌≡◌, refl, sym, ap, subst, ◌∙◌}
use mathlib.Core.Bool.{Bool, true, false}
use mathlib.Core.List.{List}
use native.Mathlib.Omega.{arith}
use lib.IntN.{ℤ}
use lib.ListN.{length}
use lib.Ieee.{binary64, of_bits, fits}
use lib.Ieee.Bits.{is_true}
use lib.Ieee.Scale.{finite}
use lib.Signed.{mag}
use borrow.Author.Tests.{lt-ltb, ltb-true}
use mir.Syntax.{w64}
use mir.Val.{SFits}
use Rattle.laws.specs.Said.{refusal, number}
use Rattle.laws.specs.Counting.{most_count}
use Rattle.laws.proofs.Bools.{pick_true, pick-false}
use Rattle.floats.specs.Starts.{zero_float}
use Rattle.integers.specs.Answers.{in_range, nearest_of, kept_sum}
use Rattle.std.specs.Prelude.{Some, None}
use Rattle.integers.proofs.NoNearer.{nearest-is}
use Rattle.points.specs.Points.{Point, record1}
use Rattle.points.specs.Classes.{class_of}
use Rattle.points.specs.Whole.{whole}
use Rattle.points.proofs.Kept.{ValueIn}
use Rattle.rows.specs.Recording.{Recording, after}
use Rattle.rows.proofs.Laws.{length_over}
use Rattle.exponential.specs.declared.Counts.{Counts}
use Rattle.exponential.specs.Series.{read, agrees, lowest_of_all}
use Rattle.exponential.specs.Inner.{Written}
use Rattle.exponential.proofs.Call as E
use Rattle.exponential.proofs.Classes.{ranged-of}
use Rattle.exponential.proofs.Stays.{next-ok, stays}
use Rattle.exponential_wholes.specs.Series.{under, refusal_of, Outcome, outcome, accepted, recording}
use Rattle.exponential_wholes.proofs.Call as W
use Rattle.many.proofs.Turns.{either}
use Rattle.exponential_whole_batches.specs.Series.{Series, Sound, leaving, step}

zero-finite : finite zero_float ≡ true
unfolding of_bits
zero-finite = refl

-- what is counted of a value has a place in the rows
near_in : (v : ℤ) → SFits w64 v → ValueIn lowest_of_all (class_of zero_float (nearest_of v))
near_in v f =
    let k = (nearest-is v f.sfits).finite in
    ranged-of (nearest_of v) (is_true (fits binary64 (nearest_of v)) k.fits) (is_true (finite (nearest_of v)) k.known)

pub in-range : (v : ℤ) → SFits w64 v → in_range v ≡ true
in-range v f = lt-ltb (mag v) (2 ^ 63) f.sfits

pub is_i64 : (v : ℤ) → in_range v ≡ true → SFits w64 v
is_i64 v h = record { sfits = ltb-true (mag v) (2 ^ 63) h }

module _ (size top : ℕ) (sums : Bool) (s : Series) (v : ℤ) where
  abbrev o : Outcome
  o = recording size top sums s.head s.pos s.neg v

  abbrev no : ℕ
  no = refusal_of size top sums s.head s.pos s.neg v

  abbrev before : ℕ
  before = W.before size top sums s.head s.pos s.neg v

  pub no_i64 : in_range v ≡ false → step size top sums s v ≡ after 6 s
  unfolding step
  no_i64 h = pick-false _ _ _ h

  module _ (f : SFits w64 v) where
    pub step_is : step size top sums s v ≡ leaving s o
    unfolding step
    step_is = pick_true _ _ _ (in-range v f)

    -- a refusal leaves the series as it was
    refused : (n : ℕ) → outcome (refusal n) s.pos s.neg ≡ o → after n s ≡ step size top sums s v
    refused n e = ap (leaving s) e ∙ sym step_is

    kept_by : (number o.answer ≡ 0 → ⊥) → (leaving s o).cells ≡ s
    kept_by d =
        either no
        (λ e. absurd (d (ap (λ (x : Outcome). number x.answer) (W.goes_on size top sums s.head s.pos s.neg v e))))
        (λ k. ap (λ (x : Outcome). (leaving s x).cells) (sym (W.gives_up size top sums s.head s.pos s.neg v no refl k)))

    pub kept : ((step size top sums s v).no ≡ 0 → ⊥) → (step size top sums s v).cells ≡ s
    kept d = ap (λ (r : Recording Series). r.cells) step_is ∙ kept_by (λ z. d (ap (λ (r : Recording Series). r.no) step_is ∙ z))

    not-refused : (step size top sums s v).no ≡ 0 → no ≡ 0
    not-refused z =
        either no (λ e. e)
        (λ k.
        absurd (k (ap (λ (x : Outcome). number x.answer) (W.gives_up size top sums s.head s.pos s.neg v no refl k)
        ∙ ap (λ (r : Recording Series). r.no) (sym step_is) ∙ z)))

    abbrev next : Point
    next = record1 size (read s.head.counts s.pos s.neg) (class_of zero_float (nearest_of v))

    pub taken_is : (step size top sums s v).no ≡ 0 → o ≡ accepted next sums s.head s.pos s.neg v
    taken_is z = W.goes_on size top sums s.head s.pos s.neg v (not-refused z)

    -- in a series that agrees only 9 and 16 are left
    module _ (g : Sound size top s) where
      full-before : s.head.counts.count ≡ most_count → before ≡ 9
      full-before e =
          sym (W.before-is size top sums s.head s.pos s.neg v f)
          ∙ E.full size top (under s.head.counts) s.pos s.neg zero_float g.pos g.neg zero-finite g.agree zero-finite zero-finite e

      pub free : (s.head.counts.count ≡ most_count → ⊥) → before ≡ 0
      free d =
          sym (W.before-is size top sums s.head s.pos s.neg v f)
          ∙ E.none size top (under s.head.counts) s.pos s.neg zero_float g.pos g.neg zero-finite g.agree zero-finite zero-finite d

      pub full : s.head.counts.count ≡ most_count → after 9 s ≡ step size top sums s v
      full e = refused 9 (W.refused_law size top sums s.head s.pos s.neg v 9 (sym (full-before e)) (λ z. omega (arith, z)))

      module _ (d : s.head.counts.count ≡ most_count → ⊥) where
        pub outside : kept_sum sums s.head.sum v ≡ None → after 16 s ≡ step size top sums s v
        outside t = refused 16 (W.outside_law size top sums s.head s.pos s.neg v (free d) t)

        pub inside : (x mn mx : ℤ) (c : Counts) (xs ys : List ℕ) → kept_sum sums s.head.sum v ≡ Some x → Written next s.pos s.neg c xs ys
            → mn ≡ whole.lesser s.head.min v → mx ≡ whole.greater s.head.max v
            → after 0 (record { head = record { counts = c; min = mn; max = mx; sum = x }; pos = xs; neg = ys }) ≡ step size top sums s v
        inside x mn mx c xs ys t w a b = ap (leaving s) (W.inside_law size top sums s.head s.pos s.neg v x mn mx c xs ys (free d) t w a b) ∙ sym step_is

      -- ---- the value was taken
      module _ (z : (step size top sums s v).no ≡ 0) where
        abbrev Long : Series → Type 0
        Long t = (length t.pos ≡ length s.pos) × (length t.neg ≡ length s.neg)

        left_is : step size top sums s v ≡ leaving s (accepted next sums s.head s.pos s.neg v)
        left_is = step_is ∙ ap (leaving s) (taken_is z)

        pub long : Long (step size top sums s v).cells
        long =
            let ok = next-ok size top s.head.counts s.pos s.neg (class_of zero_float (nearest_of v)) g.agree (near_in v f) in
            subst (λ (r : Recording Series). Long r.cells) (sym left_is) (
              length_over next.pos.counts s.pos (omega (arith, ok.pos.short, g.pos)),
              length_over next.neg.counts s.neg (omega (arith, ok.neg.short, g.neg)),
            )

        agree-next : (let t = (step size top sums s v).cells in agrees size top t.head.counts t.pos t.neg ≡ true)
        agree-next =
            subst (λ (r : Recording Series). let t = r.cells in agrees size top t.head.counts t.pos t.neg ≡ true) (sym left_is)
            (stays size top s.head.counts s.pos s.neg (class_of zero_float (nearest_of v)) g.agree (near_in v f))

        -- a series that took a value agrees
        pub sound : Sound size top (step size top sums s v).cells
        sound = record { agree = agree-next; pos = omega (arith, g.pos, long.0); neg = omega (arith, g.neg, long.1) }
