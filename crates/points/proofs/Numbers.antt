-- Equal numbers; extremes that are the same, a zero's sign aside; extremes shown by a switch and a count, and two of them merged. Assumes nothing.
use Prim.Native.Nat.{ℕ, suc}
use mathlib.Core.Path.{◌≡◌, refl, ap, sym}
use mathlib.Core.Bool.{Bool, true, false, not, ◌||◌}
use native.Mathlib.Omega.{arith}
use borrow.Author.Tests.{ne_eqb}
use lib.Ieee.{Float, binary64}
use Rattle.laws.specs.Pick.{pick}
use Rattle.laws.proofs.Bools.{not-both}
use Rattle.floats.specs.Answers.{shows, is_shown, smaller_of, larger_of}
use Rattle.floats.specs.Starts.{zero_float, FiniteF64}
use Rattle.std.specs.Prelude.{Option, Some, None}
use Rattle.floats.proofs.Choices.{chosen, eq_refl, eq-sym, eq_trans, chosen-cong, chosen-comm, chosen-assoc}
use Rattle.floats.proofs.Starts.{finite-ok, chosen-finite}
use Rattle.points.specs.Real.{SameNumber, SameExtreme}

-- ---- the same number
pub number-refl : (x : Float) → FiniteF64 x → SameNumber x x
number-refl x p = record { left = p; right = p; same = eq_refl binary64 x (finite-ok x p) }

number-turn : (x y : Float) → SameNumber x y → SameNumber y x
number-turn x y h =
    record { left = h.right; right = h.left; same = eq-sym binary64 x y (finite-ok x h.left) (finite-ok y h.right) h.same }

number-trans : (x y z : Float) → SameNumber x y → SameNumber y z → SameNumber x z
number-trans x y z h k =
    record {
      left = h.left;
      right = k.right;
      same = eq_trans binary64 x y z (finite-ok x h.left) (finite-ok y h.right) (finite-ok z k.right) h.same k.same;
    }

number-chosen : (up : Bool) (a b c d : Float) → SameNumber a c → SameNumber b d → SameNumber (chosen up a b) (chosen up c d)
number-chosen up a b c d h k =
    record {
      left = chosen-finite up a b h.left k.left;
      right = chosen-finite up c d h.right k.right;
      same = chosen-cong up binary64 a b c d (finite-ok a h.left) (finite-ok b k.left) (finite-ok c h.right) (finite-ok d k.right) h.same k.same;
    }

number-turned : (up : Bool) (x y : Float) → FiniteF64 x → FiniteF64 y → SameNumber (chosen up x y) (chosen up y x)
number-turned up x y p q =
    record {
      left = chosen-finite up x y p q;
      right = chosen-finite up y x q p;
      same = chosen-comm up binary64 x y (finite-ok x p) (finite-ok y q);
    }

-- ---- the same extreme
pub extreme-turn : (a b : Option Float) → SameExtreme a b → SameExtreme b a
extreme-turn None None h = tt
extreme-turn None (Some y) h = absurd h
extreme-turn (Some x) None h = absurd h
extreme-turn (Some x) (Some y) h = number-turn x y h

pub extreme-trans : (a b c : Option Float) → SameExtreme a b → SameExtreme b c → SameExtreme a c
extreme-trans None None None h k = tt
extreme-trans None None (Some z) h k = absurd k
extreme-trans None (Some y) c h k = absurd h
extreme-trans (Some x) None c h k = absurd h
extreme-trans (Some x) (Some y) None h k = absurd k
extreme-trans (Some x) (Some y) (Some z) h k = number-trans x y z h k

-- ---- a switch that is on shows where there is a value
pub shows-none : (on : Bool) → shows on 0 ≡ false
shows-none true = refl
shows-none false = refl

pub shows-some : (on : Bool) (n : ℕ) → shows on (suc n) ≡ on
shows-some true n = ap not (ne_eqb (suc n) 0 (λ e. omega (arith, e)))
shows-some false n = refl

-- ---- shown where it is due: `shown_of` is this of what the switch and the count `shows`
abbrev pub shown_if : Bool → Float → Option Float
shown_if due x = pick due (Some x) None

pub same-shown : (due : Bool) (x y : Float) → SameNumber x y → SameExtreme (shown_if due x) (shown_if due y)
unfolding pick
same-shown true x y h = h
same-shown false x y h = tt

-- ---- two extremes merged: the smaller where up, otherwise the larger
abbrev pub nearer : Bool → Option Float → Option Float → Option Float
nearer true a b = smaller_of a b
nearer false a b = larger_of a b

pub nearer-cong : (up : Bool) (a b c d : Option Float) → SameExtreme a c → SameExtreme b d → SameExtreme (nearer up a b) (nearer up c d)
nearer-cong true None b None d h k = k
nearer-cong false None b None d h k = k
nearer-cong up None b (Some z) d h k = absurd h
nearer-cong up (Some x) b None d h k = absurd h
nearer-cong true (Some x) None (Some z) None h k = h
nearer-cong false (Some x) None (Some z) None h k = h
nearer-cong up (Some x) None (Some z) (Some w) h k = absurd k
nearer-cong up (Some x) (Some y) (Some z) None h k = absurd k
nearer-cong true (Some x) (Some y) (Some z) (Some w) h k = number-chosen true x y z w h k
nearer-cong false (Some x) (Some y) (Some z) (Some w) h k = number-chosen false x y z w h k

pub nearer-shown : (up due : Bool) (x y : Float) → nearer up (shown_if due x) (shown_if due y) ≡ shown_if due (chosen up x y)
unfolding pick
nearer-shown true true x y = refl
nearer-shown true false x y = refl
nearer-shown false true x y = refl
nearer-shown false false x y = refl

-- one that is not there gives way
pub nearer-none : (up : Bool) (a : Option Float) → (nearer up None a ≡ a) × (nearer up a None ≡ a)
nearer-none true None = (refl, refl)
nearer-none true (Some x) = (refl, refl)
nearer-none false None = (refl, refl)
nearer-none false (Some x) = (refl, refl)

-- ---- a finite f64, if it is there
abbrev pub Numeric : Option Float → Type 0
Numeric None = Unit {0}
Numeric (Some x) = FiniteF64 x

pub numeric-self : (a : Option Float) → Numeric a → SameExtreme a a
numeric-self None p = tt
numeric-self (Some x) p = number-refl x p

pub numeric-nearer : (up : Bool) (a b : Option Float) → Numeric a → Numeric b → Numeric (nearer up a b)
numeric-nearer true None b p q = q
numeric-nearer false None b p q = q
numeric-nearer true (Some x) None p q = p
numeric-nearer false (Some x) None p q = p
numeric-nearer true (Some x) (Some y) p q = chosen-finite true x y p q
numeric-nearer false (Some x) (Some y) p q = chosen-finite false x y p q

pub numeric-comm : (up : Bool) (a b : Option Float) → Numeric a → Numeric b → SameExtreme (nearer up a b) (nearer up b a)
numeric-comm up None b p q = rw ((nearer-none up b).0, (nearer-none up b).1) (numeric-self b q)
numeric-comm up (Some x) None p q = rw ((nearer-none up (Some x)).0, (nearer-none up (Some x)).1) (number-refl x p)
numeric-comm true (Some x) (Some y) p q = number-turned true x y p q
numeric-comm false (Some x) (Some y) p q = number-turned false x y p q

pub numeric-assoc : (up : Bool) (a b c : Option Float) → Numeric a → Numeric b → Numeric c → nearer up (nearer up a b) c ≡ nearer up a (nearer up b c)
numeric-assoc true None b c p q r = refl
numeric-assoc false None b c p q r = refl
numeric-assoc true (Some x) None c p q r = refl
numeric-assoc false (Some x) None c p q r = refl
numeric-assoc true (Some x) (Some y) None p q r = refl
numeric-assoc false (Some x) (Some y) None p q r = refl
numeric-assoc true (Some x) (Some y) (Some z) p q r = ap Some (chosen-assoc true binary64 x y z (finite-ok x p) (finite-ok y q) (finite-ok z r))
numeric-assoc false (Some x) (Some y) (Some z) p q r = ap Some (chosen-assoc false binary64 x y z (finite-ok x p) (finite-ok y q) (finite-ok z r))

-- ---- and it is there just where it is due
pub record Shown (due : Bool) (e : Option Float) : Type 0 where
  pub known : Numeric e
  pub is : is_shown e ≡ due

pub shown_of : (due : Bool) (e : Option Float) (x : Float) → SameExtreme e (shown_if due x) → Shown due e
unfolding pick
shown_of true (Some y) x h = record { known = h.left; is = refl }
shown_of true None x h = absurd h
shown_of false (Some y) x h = absurd h
shown_of false None x h = record { known = tt; is = refl }

-- the number that it shows, if it does
abbrev pub number_in : Option Float → Float
number_in None = zero_float
number_in (Some x) = x

pub of-shown : (due : Bool) (e : Option Float) → Shown due e → SameExtreme e (shown_if due (number_in e))
unfolding pick
of-shown true (Some x) k = number-refl x k.known
of-shown true None k = absurd (not-both true refl (sym k.is))
of-shown false (Some x) k = absurd (not-both true refl k.is)
of-shown false None k = tt

-- merged, where either was
pub either-shown : (up : Bool) (a b : Option Float) → is_shown (nearer up a b) ≡ is_shown a || is_shown b
either-shown true None b = refl
either-shown false None b = refl
either-shown true (Some x) None = refl
either-shown false (Some x) None = refl
either-shown true (Some x) (Some y) = refl
either-shown false (Some x) (Some y) = refl
