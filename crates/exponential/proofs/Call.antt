-- The call: its refusals in order, and that an accepted value makes the point that the definition says. Assumes nothing.
use Rattle.std.proofs.Common.{◌≡◌, ℕ, ◌^◌, ◌<◌, ◌≤◌, true, false, eqb, leb, List, length, ap, ◌∙◌, arith, eq-eqb, ne_eqb, le-leb, leb-true}
use lib.Ieee.{Float, binary64, add, fits}
use lib.Ieee.Scale.{finite}
use borrow.Author.Tests.{lt-leb, eqb-false}
use Rattle.points.specs.Points.{record1}
use Rattle.exponential.specs.declared.Counts.{Counts}
use Rattle.exponential.specs.declared.Head.{Head}
use Rattle.index.specs.Answers.{bin_of}
use Rattle.exponential.specs.Steps.{placed}
use Rattle.exponential.specs.Series.{agrees, read, refusal_of, outcome, recording}
use Rattle.exponential.specs.Inner.{class_at, value_of, Written, Ready}
use Rattle.laws.specs.Pick.{pick}
use Rattle.laws.specs.Said.{refusal, success}
use Rattle.laws.proofs.Bools.{and_left, and_right, pick-left, pick-then, pick-right}
use Rattle.floats.specs.Answers.{lesser_of, greater_of}
use Rattle.floats.specs.Starts.{zero_float}
use Rattle.points.specs.Values.{class_of}
use Rattle.exponential.proofs.Joint.{placed-is}
use Rattle.exponential.proofs.Classes.{class-is, ranged-of, within_of}
use Rattle.exponential.proofs.Facts.{agreed, level_in}
use Rattle.laws.specs.Counting.{most_count}

module _ (size top : ℕ) (h : Head) (xs ys : List ℕ) (v : Float) where
  pub short-pos : length xs < size → refusal_of size top h xs ys v ≡ 12
  unfolding refusal_of pick
  short-pos p = rw (lt-leb size (length xs) p)

  pub short-neg : size ≤ length xs → length ys < size → refusal_of size top h xs ys v ≡ 12
  unfolding refusal_of pick
  short-neg p q = rw (le-leb size (length xs) p, lt-leb size (length ys) q)

  module _ (p : size ≤ length xs) (q : size ≤ length ys) where
    pub not_finite : finite v ≡ false → refusal_of size top h xs ys v ≡ 6
    unfolding refusal_of pick
    not_finite f = rw (le-leb size (length xs) p, le-leb size (length ys) q, f)

    module _ (f : finite v ≡ true) where
      pub disagrees : agrees size top h.counts xs ys ≡ false → refusal_of size top h xs ys v ≡ 8
      unfolding refusal_of pick
      disagrees a = rw (le-leb size (length xs) p, le-leb size (length ys) q, f, a)

      module _ (a : agrees size top h.counts xs ys ≡ true) where
        pub bad-min : finite h.min ≡ false → refusal_of size top h xs ys v ≡ 8
        unfolding refusal_of pick
        bad-min m = rw (le-leb size (length xs) p, le-leb size (length ys) q, f, a, m)

        pub bad-max : finite h.min ≡ true → finite h.max ≡ false → refusal_of size top h xs ys v ≡ 8
        unfolding refusal_of pick
        bad-max m n = rw (le-leb size (length xs) p, le-leb size (length ys) q, f, a, m, n)

        pub by_count : finite h.min ≡ true → finite h.max ≡ true → refusal_of size top h xs ys v ≡ pick (eqb h.counts.count most_count) 9 0
        unfolding refusal_of pick
        by_count m n = rw (le-leb size (length xs) p, le-leb size (length ys) q, f, a, m, n)

        pub full : finite h.min ≡ true → finite h.max ≡ true → h.counts.count ≡ most_count → refusal_of size top h xs ys v ≡ 9
        unfolding pick
        full m n e = by_count m n ∙ rw (eq-eqb h.counts.count most_count e)

        pub none : finite h.min ≡ true → finite h.max ≡ true → (h.counts.count ≡ most_count → ⊥) → refusal_of size top h xs ys v ≡ 0
        unfolding pick
        none m n e = by_count m n ∙ rw (ne_eqb h.counts.count most_count e)

-- ---- where nothing is refused

pub ready : (size top : ℕ) (h : Head) (xs ys : List ℕ) (v : Float) → refusal_of size top h xs ys v ≡ 0 → h.counts.count < 2 ^ 64 → fits binary64 v ≡ true
    → Ready size top h.counts xs ys (class_at (bin_of v h.counts.level))
unfolding refusal_of
ready size top h xs ys v e m g =
    let s = pick-left _ _ 12 (omega arith) e in
    let e₁ = pick-then _ _ 12 (omega arith) e in
    let e₂ = pick-then _ _ 6 (omega arith) e₁ in
    let a = pick-left _ _ 8 (omega arith) e₂ in
    let e₃ = pick-then _ _ 8 (omega arith) e₂ in
    let n = eqb-false h.counts.count most_count (pick-right _ 9 (omega arith) e₃) in
    let t = agreed size top h.counts xs ys (and_left _ _ a) in
    record {
      agree = and_left _ _ a;
      pos = leb-true size (length xs) (and_left _ _ s);
      neg = leb-true size (length ys) (and_right (leb size (length xs)) _ s);
      count = below h.counts.count m n;
      known = within_of v h.counts.level (level_in size top h.counts xs ys t) g (pick-left _ _ 6 (omega arith) e₁);
    }
  where
    below : (c : ℕ) → c < 2 ^ 64 → (c ≡ most_count → ⊥) → c < most_count
    below c p q = omega (arith, q)

pub finite-of : (size top : ℕ) (h : Head) (xs ys : List ℕ) (v : Float) → refusal_of size top h xs ys v ≡ 0 → finite v ≡ true
unfolding refusal_of
finite-of size top h xs ys v e = pick-left _ _ 6 (omega arith) (pick-then _ _ 12 (omega arith) e)

pub refused_law : (size top : ℕ) (h : Head) (xs ys : List ℕ) (v : Float) (n : ℕ) → n ≡ refusal_of size top h xs ys v → (n ≡ 0 → ⊥)
    → outcome (refusal n) xs ys ≡ recording size top h xs ys v
unfolding recording pick
refused_law size top h xs ys v n e z = rw (← e, ne_eqb n 0 z)

-- the point that the definition says
pub written_is : (size top : ℕ) (c : Counts) (xs ys : List ℕ) (v : Float) → agrees size top c xs ys ≡ true → fits binary64 v ≡ true → finite v ≡ true
    → placed size (read c xs ys) (value_of (class_at (bin_of v c.level))) ≡ record1 size (read c xs ys) (class_of zero_float v)
written_is size top c xs ys v r g f =
    let a = agreed size top c xs ys r in
    ap (placed size (read c xs ys)) (class-is v c.level (level_in size top c xs ys a) f)
    ∙ placed-is size (read c xs ys) (class_of zero_float v) a.least a.point (ranged-of v g f)

pub accepted_law : (size top : ℕ) (h : Head) (xs ys : List ℕ) (v : Float) (c : Counts) (mn mx : Float) (xs' ys' : List ℕ)
    → refusal_of size top h xs ys v ≡ 0 → Written (record1 size (read h.counts xs ys) (class_of zero_float v)) xs ys c xs' ys'
    → mn ≡ lesser_of h.min v → mx ≡ greater_of h.max v
    → outcome (success (record { counts = c; min = mn; max = mx; sum = add binary64 h.sum v })) xs' ys' ≡ recording size top h xs ys v
unfolding recording pick
accepted_law size top h xs ys v c mn mx xs' ys' e w a b =
    (λ j. record { answer = success (record { counts = w.counts j; min = a j; max = b j; sum = add binary64 h.sum v }); pos = w.pos j; neg = w.neg j })
    ∙ rw (eq-eqb (refusal_of size top h xs ys v) 0 e)
