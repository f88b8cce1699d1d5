-- The call over i64: what crate `exponential` counts, and the sum that takes the value or does not. Assumes nothing.
use Prim.Native.Nat.{ℕ}
use mir.Syntax.{w64}
use mir.Val.{SFits}
use mathlib.Core.Path.{◌≡◌, refl, sym, ap, ◌∙◌}
use mathlib.Core.Bool.{Bool, true, false, ◌&&◌}
use mathlib.Core.List.{List}
use native.Mathlib.Omega.{arith}
use borrow.Author.Tests.{eq-eqb, ne_eqb}
use lib.Dec.{T, leb, eqb}
use lib.ListN.{length}
use lib.Ieee.{Float, of_bits}
use lib.Ieee.Scale.{finite}
use lib.IntN.{ℤ}
use Rattle.laws.specs.Pick.{pick}
use Rattle.laws.specs.Counting.{most_count}
use Rattle.laws.specs.Said.{refusal, success}
use Rattle.laws.proofs.Bools.{pick_true, pick-false}
use Rattle.floats.specs.Starts.{zero_float}
use Rattle.integers.specs.Answers.{nearest_of, kept_sum, last_number}
use Rattle.std.specs.Prelude.{Some, None}
use Rattle.integers.proofs.NoNearer.{nearest-is}
use Rattle.points.specs.Points.{record1}
use Rattle.points.specs.Classes.{class_of}
use Rattle.points.specs.Whole.{whole}
use Rattle.points.proofs.WholeSums.{sum-takes, sum-leaves}
use Rattle.exponential.specs.declared.Counts.{Counts}
use Rattle.exponential.specs.declared.Head as F
use Rattle.exponential.specs.Series as E
use Rattle.exponential.specs.Series.{read}
use Rattle.exponential.specs.Inner.{Written}
use Rattle.exponential_wholes.specs.declared.Head.{Head}
use Rattle.exponential_wholes.specs.Series.{under, refusal_of, outcome, accepted, recording}

-- what crate `exponential` refuses of one finite value it refuses of any
finite-alike : (size top : ℕ) (h : F.Head) (xs ys : List ℕ) (x y : Float) → finite x ≡ finite y → E.refusal_of size top h xs ys x ≡ E.refusal_of size top h xs ys y
unfolding E.refusal_of
finite-alike size top h xs ys x y e = λ j. E.refusal_by (leb size (length xs) && leb size (length ys)) (e j) (E.agrees size top h.counts xs ys && (finite h.min && finite h.max)) (eqb h.counts.count most_count)

near-finite : (v : ℤ) → SFits w64 v → finite zero_float ≡ finite (nearest_of v)
unfolding of_bits
near-finite v f = sym (known (finite (nearest_of v)) (nearest-is v f.sfits).finite.known)
  where
    known : (b : Bool) → T b → b ≡ true
    known true t = refl
    known false t = absurd t

module _ (size top : ℕ) (sums : Bool) (h : Head) (xs ys : List ℕ) (v : ℤ) where
  abbrev pub before : ℕ
  before = E.refusal_of size top (under h.counts) xs ys (nearest_of v)

  pub before-is : SFits w64 v → E.refusal_of size top (under h.counts) xs ys zero_float ≡ before
  before-is f = finite-alike size top (under h.counts) xs ys zero_float (nearest_of v) (near-finite v f)

  pub number-before : (before ≡ 0 → ⊥) → refusal_of size top sums h xs ys v ≡ before
  unfolding refusal_of
  number-before e = pick-false _ _ _ (ne_eqb before 0 e)

  pub number-none : before ≡ 0 → whole.takes sums h.sum v ≡ true → refusal_of size top sums h xs ys v ≡ 0
  unfolding refusal_of
  number-none e t = pick_true _ _ _ (eq-eqb before 0 e) ∙ pick_true _ _ _ t

  pub number-last : whole.takes sums h.sum v ≡ false → refusal_of size top sums h xs ys v ≡ last_number before
  unfolding refusal_of
  number-last t = ap (λ n. pick (eqb before 0) n before) (pick-false _ 0 16 t)

  pub gives_up : (n : ℕ) → refusal_of size top sums h xs ys v ≡ n → (n ≡ 0 → ⊥) → outcome (refusal n) xs ys ≡ recording size top sums h xs ys v
  unfolding recording
  gives_up n e z =
      sym (pick-false _ _ _ (ne_eqb (refusal_of size top sums h xs ys v) 0 (λ d. z (sym e ∙ d))) ∙ ap (λ m. outcome (refusal m) xs ys) e)

  pub goes_on : refusal_of size top sums h xs ys v ≡ 0
      → recording size top sums h xs ys v ≡ accepted (record1 size (read h.counts xs ys) (class_of zero_float (nearest_of v))) sums h xs ys v
  unfolding recording
  goes_on e = pick_true _ _ _ (eq-eqb (refusal_of size top sums h xs ys v) 0 e)

  pub refused_law : (n : ℕ) → n ≡ before → (n ≡ 0 → ⊥) → outcome (refusal n) xs ys ≡ recording size top sums h xs ys v
  refused_law n e z = gives_up n (number-before (λ d. z (e ∙ d)) ∙ sym e) z

  -- where the sum would leave i64
  pub outside_law : before ≡ 0 → kept_sum sums h.sum v ≡ None → outcome (refusal 16) xs ys ≡ recording size top sums h xs ys v
  outside_law e t = gives_up 16 (number-last (sum-leaves sums h.sum v t) ∙ ap last_number e ∙ pick_true _ _ _ refl) (λ z. omega (arith, z))

  -- where it does not
  pub inside_law : (s mn mx : ℤ) (c : Counts) (xs' ys' : List ℕ) → before ≡ 0 → kept_sum sums h.sum v ≡ Some s
      → Written (record1 size (read h.counts xs ys) (class_of zero_float (nearest_of v))) xs ys c xs' ys'
      → mn ≡ whole.lesser h.min v → mx ≡ whole.greater h.max v
      → outcome (success (record { counts = c; min = mn; max = mx; sum = s })) xs' ys' ≡ recording size top sums h xs ys v
  inside_law s mn mx c xs' ys' e t w a b =
      let k = sum-takes sums h.sum v s t in
      (λ j. record {
        answer = success (record { counts = w.counts j; min = a j; max = b j; sum = k.sum j });
        pos = w.pos j;
        neg = w.neg j;
      })
      ∙ sym (goes_on (number-none e k.takes))
