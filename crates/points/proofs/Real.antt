-- f64 pays what a number owes. Assumes nothing.
use mathlib.Core.Path.{◌≡◌, refl, ap, sym, ◌∙◌}
use mathlib.Core.Bool.{Bool, true, false, ◌&&◌}
use mathlib.Core.List.Permᴰ
use mathlib.Core.List.{List, ◌++◌, Permᴰ}
use lib.Ieee.{Float, binary64, add, fits}
use lib.Ieee.Bits.{is_true}
use lib.Ieee.Scale.{finite}
use Rattle.laws.specs.Pick.{pick}
use Rattle.laws.specs.Lists.{All}
use Rattle.laws.proofs.Bools.{and_left, and_right, and_intro, not-both}
use Rattle.laws.proofs.Cases.{and-true, true-not-false}
use Rattle.laws.proofs.Lists.{all-perm}
use Rattle.std.specs.Prelude.{Option, Some, None}
use Rattle.floats.specs.Answers.{lesser_of, greater_of, is_shown, smaller_of, larger_of}
use Rattle.floats.specs.Grid.{grid}
use Rattle.floats.specs.Starts.{zero_float, FiniteF64}
use Rattle.floats.proofs.Choices.{finite-chosen}
use Rattle.floats.proofs.Starts.{finite-f64}
use Rattle.floats.proofs.Sums.{total-perm, gridded-perm, gridded-left, gridded-right, grid-parts, zeros-add}
use Rattle.points.specs.Values.{summary_of}
use Rattle.points.specs.Handed.{extremes_agree}
use Rattle.points.specs.Real.{finite_or_none, SameNumber, SameExtreme, SumStands, real}
use Rattle.points.proofs.Owed.{chosen, nearer, extreme, Owed}
use Rattle.points.proofs.Numbers as X
use Rattle.points.proofs.Numbers.{shown_if}
use Rattle.points.proofs.Summaries.{extreme-finite, extreme-parts, extreme-perm, sum-of}

-- ---- the sum: exact on the grid
sum-handed : (on : Bool) (vs : List Float) → SumStands on (pick on (summary_of vs).sum zero_float) vs
unfolding pick
sum-handed true vs = sum-of vs
sum-handed false vs = refl

sum-order : (on : Bool) (x : Float) {vs ws : List Float} → Permᴰ vs ws → SumStands on x vs → SumStands on x ws
sum-order true x h k = λ g. k (gridded-perm (Permᴰ.symm h) g) ∙ ap grid (total-perm h)
sum-order false x h k = k

sum-join : (on : Bool) (x y : Float) (vs ws : List Float) → SumStands on x vs → SumStands on y ws → SumStands on (add binary64 x y) (vs ++ ws)
sum-join true x y vs ws h k = λ g. rw (h (gridded-left vs ws g), k (gridded-right vs ws g)) (grid-parts vs ws g)
sum-join false x y vs ws h k = rw (h, k) zeros-add

-- ---- extremes
not-shown : (e : Option Float) → SameExtreme e None → e ≡ None
not-shown None h = refl
not-shown (Some y) h = absurd h

unshown : (e : Option Float) → is_shown e ≡ false → e ≡ None
unshown None h = refl
unshown (Some x) h = absurd (not-both true refl h)

finite-merged : (a b c d : Option Float) → finite_or_none a b ≡ true → finite_or_none c d ≡ true → finite_or_none (smaller_of a c) (larger_of b d) ≡ true
finite-merged None None c d h k = k
finite-merged None (Some y) c d h k = true-not-false (sym h)
finite-merged (Some x) None c d h k = true-not-false (sym h)
finite-merged (Some x) (Some y) None None h k = h
finite-merged (Some x) (Some y) None (Some w) h k = true-not-false (sym k)
finite-merged (Some x) (Some y) (Some z) None h k = true-not-false (sym k)
finite-merged (Some x) (Some y) (Some z) (Some w) h k =
    and_intro (finite (lesser_of x z)) (finite (greater_of y w))
    (finite-chosen true x z (and_left (finite x) (finite y) h) (and_left (finite z) (finite w) k))
    (finite-chosen false y w (and_right (finite x) (finite y) h) (and_right (finite z) (finite w) k))

extremes-agree : (due : Bool) (a b : Option Float) (x y : Float) → SameExtreme a (shown_if due x) → SameExtreme b (shown_if due y) → extremes_agree due a b ≡ true
unfolding pick
extremes-agree true (Some a) (Some b) x y h k =
    and_intro (finite a && finite b) true (and_intro (finite a) (finite b) (is_true (finite a) h.left.known) (is_true (finite b) k.left.known)) refl
extremes-agree true (Some a) None x y h k = absurd k
extremes-agree true None b x y h k = absurd h
extremes-agree false (Some a) b x y h k = absurd h
extremes-agree false None (Some b) x y h k = absurd k
extremes-agree false None None x y h k = refl

-- the minimum or the maximum, as `Owed` has it
parts : (up : Bool) (xs ys : List Float) → All FiniteF64 xs → All FiniteF64 ys
    → chosen real up (extreme real up (summary_of xs)) (extreme real up (summary_of ys)) ≡ extreme real up (summary_of (xs ++ ys))
parts true xs ys p q = extreme-parts true xs ys p q
parts false xs ys p q = extreme-parts false xs ys p q

shown : (up due : Bool) (x y : Float) → nearer real up (shown_if due x) (shown_if due y) ≡ shown_if due (chosen real up x y)
shown true due x y = X.nearer-shown true due x y
shown false due x y = X.nearer-shown false due x y

chosen-finite : (up : Bool) (a v : Float) → finite a ≡ true → finite v ≡ true → finite (chosen real up a v) ≡ true
chosen-finite true a v h k = finite-chosen true a v h k
chosen-finite false a v h k = finite-chosen false a v h k

pub owed : Owed real
owed =
    record {
      taken-known = λ v h. let k = and-true (finite v) (fits binary64 v) h in finite-f64 v k.0 k.1;
      known-finite = λ v p. is_true (finite v) p.known;
      chosen-finite = chosen-finite;
      nears-none = refl;
      nears-one = λ v. refl;
      nears_append = λ vs ws. refl;
      nears-perm = λ h. h;
      nears-length = λ vs. refl;
      nears-known = λ vs h. h;
      Same = SameNumber;
      number-refl = X.number-refl;
      extreme-known = λ up sums vs h. extreme-finite up vs h;
      extreme-parts = λ up sums xs ys p q. parts up xs ys p q;
      extreme-perm = λ up sums {xs} {ys} h p.
          record {
            left = extreme-finite up xs p;
            right = extreme-finite up ys (all-perm FiniteF64 h p);
            same = extreme-perm up h p;
          };
      extreme-turn = X.extreme-turn;
      extreme-trans = X.extreme-trans;
      same-shown = X.same-shown;
      nearer-cong = X.nearer-cong;
      nearer-shown = shown;
      nearer-none = X.nearer-none;
      not-shown = not-shown;
      unshown = unshown;
      extremes-agree = extremes-agree;
      finite-merged = finite-merged;
      Numeric = X.Numeric;
      number_in = X.number_in;
      shown_of = λ due e x h. let r = X.shown_of due e x h in (r.known, r.is);
      of-shown = λ due e p q. X.of-shown due e (record { known = p; is = q });
      either-shown = X.either-shown;
      numeric-self = X.numeric-self;
      numeric-nearer = X.numeric-nearer;
      numeric-comm = X.numeric-comm;
      numeric-assoc = X.numeric-assoc;
      sum-handed = λ on vs. sum-handed on vs;
      sum-order = sum-order;
      sum-join = sum-join;
      within-parts = λ vs ws w. (tt, tt);
      within-perm = λ vs ws h w. tt;
      sum-within = λ on x y vs ws h k w. refl;
      Adds = λ x vs. Unit;
      adds_one = λ x. tt;
      adds-join = λ x y vs ws h k. tt;
      adds-within = λ x y vs ws h k w. refl;
    }
