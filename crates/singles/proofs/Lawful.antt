-- Sums and last values are lawful kinds: a series is what its values come to, and may be held. Assumes nothing.
use mathlib.Core.Path.{◌≡◌, refl, ap, ◌∙◌}
use mathlib.Core.Bool.{true}
use mathlib.Core.List.{List, [], ◌∷◌, ◌++◌, foldl}
use native.Mathlib.Omega.{arith}
use lib.Ieee.{Float, binary64, fits, add}
use lib.Ieee.Scale.{finite}
use Rattle.laws.proofs.Cases.{and-true}
use Rattle.floats.specs.Starts.{zero_float}
use Rattle.floats.specs.Answers.{bits_of}
use Rattle.tally.proofs.Lawful.{Lawful}
use Rattle.tally.proofs.Sound.{Steady}
use Rattle.singles.specs.declared.Aggregation.{Aggregation}
use Rattle.singles.specs.declared.Aggregation.TheVariants.{Sum, LastValue}
use Rattle.singles.specs.Kinds.{last_or, value_of, step, holds, singles}
use Rattle.singles.proofs.Owes.{start-held}

-- what a finite value makes may be held
step-held : (a : Aggregation) (x v : Float) → (singles a).finite v ≡ true → holds a (step a x v) ≡ true
step-held Sum x v f = refl
step-held LastValue x v f = (and-true (finite v) (fits binary64 v) f).0

fold-snoc : (y : Float) (vs : List Float) (v : Float) → add binary64 (foldl (add binary64) y vs) v ≡ foldl (add binary64) y (vs ++ v ∷ [])
fold-snoc y [] v = refl
fold-snoc y (x ∷ vs) v = fold-snoc (add binary64 y x) vs v

last_snoc : (d : Float) (vs : List Float) (v : Float) → v ≡ last_or d (vs ++ v ∷ [])
last_snoc d [] v = refl
last_snoc d (x ∷ []) v = refl
last_snoc d (x ∷ y ∷ vs) v = last_snoc d (y ∷ vs) v

-- a value more
step_is : (a : Aggregation) (vs : List Float) (v : Float) → step a (value_of a vs) v ≡ value_of a (vs ++ v ∷ [])
step_is Sum vs v = fold-snoc zero_float vs v
step_is LastValue vs v = last_snoc zero_float vs v

without : (a : Aggregation) → zero_float ≡ value_of a []
without Sum = refl
without LastValue = refl

module _ (a : Aggregation) where
  pub record Has (x : Float) (vs : List Float) : Type 0 where
    pub is : x ≡ value_of a vs
    pub held : holds a x ≡ true

  pub lawful : Lawful (singles a)
  lawful =
      record {
        Has = λ z x vs. Has x vs;
        fresh = λ z ok. record { is = without a; held = start-held a };
        add = λ z x vs v h f l b.
            record { is = ap (λ (y : Float). step a y v) h.is ∙ step_is a vs v; held = step-held a x v f };
        agrees = λ z x vs h. h.held;
        total = λ z x vs h. omega arith;
        allows = λ z x vs v h f. refl;
        point = λ z x vs h. ap bits_of h.is;
      }

  pub steady : Steady (singles a)
  steady = record { fresh = λ z ok. start-held a; add = λ z x v ok f h. step-held a x v f }
