-- i64 pays what a number owes. Assumes nothing.
use Prim.Native.Nat.{ℕ, suc, ◌+◌, ◌^◌, ◌<◌}
use mathlib.Core.Path.{◌≡◌, refl, ap, sym, subst, ◌∙◌}
use mathlib.Core.Bool.{Bool, true, false, ◌||◌}
use mathlib.Core.List.{List, [], ◌∷◌, ◌++◌, map, map-append, foldl, Permᴰ}
use native.Mathlib.Omega.{arith}
use borrow.Author.Tests.{ltb-true}
use lib.ListN.{length}
use lib.IntN.{ℤ, pos, negsuc, ◌+ℤ◌, +ℤ_idr}
use lib.Signed.{mag}
use Rattle.laws.specs.Pick.{pick}
use Rattle.laws.specs.Lists.{All}
use Rattle.laws.proofs.Bools.{not-both}
use Rattle.laws.proofs.Cases.{true-not-false}
use Rattle.laws.proofs.Lists.{map-perm}
use Rattle.floats.specs.Starts.{FiniteF64}
use Rattle.integers.specs.Answers.{nearest_of, in_range, is_shown, smaller_of, larger_of}
use Rattle.integers.specs.Totals.{total, weight}
use Rattle.std.specs.Prelude.{Option, Some, None}
use Rattle.integers.proofs.Order as Z
use Rattle.integers.proofs.NoNearer.{nearest-is}
use Rattle.integers.proofs.Totals.{total-is, total-perm, total_append, weight-perm, weight_append, total-range}
use Rattle.points.specs.Any.{Summary, start, noted, summary_of, shown_if, extremes_agree}
use Rattle.points.specs.Whole.{both_or_none, SameExtreme, SumStands, Light, whole}
use Rattle.points.proofs.Owed.{chosen, nearer, extreme, Owed}

-- ---- the f64s
nears-length : (vs : List ℤ) → length (map nearest_of vs) ≡ length vs
nears-length [] = refl
nears-length (v ∷ vs) = ap suc (nears-length vs)

near-finite : (z : ℤ) → in_range z ≡ true → FiniteF64 (nearest_of z)
near-finite z h = (nearest-is z (ltb-true (mag z) (2 ^ 63) h)).finite

nears-known : (vs : List ℤ) → All (λ z. in_range z ≡ true) vs → All FiniteF64 (map nearest_of vs)
unfolding All
nears-known [] h = tt
nears-known (v ∷ vs) h = (near-finite v h.0, nears-known vs h.1)

-- ---- three folds
abbrev begin : Bool → ℤ
begin true = pos 9223372036854775807
begin false = negsuc 9223372036854775807

module _ (sums : Bool) where
  summary-from : (s : Summary whole) (vs : List ℤ)
      → foldl (noted whole sums) s vs
      ≡ record { min = foldl (Z.chosen true) s.min vs; max = foldl (Z.chosen false) s.max vs; sum = foldl (λ x v. pick sums (x +ℤ v) x) s.sum vs }
  summary-from s [] = refl
  summary-from s (v ∷ vs) = summary-from (noted whole sums s v) vs

  extreme-is : (up : Bool) (vs : List ℤ) → extreme whole up (summary_of whole sums vs) ≡ foldl (Z.chosen up) (begin up) vs
  extreme-is true vs = ap (λ s. s.min) (summary-from (start whole) vs)
  extreme-is false vs = ap (λ s. s.max) (summary-from (start whole) vs)

  sum_is : (vs : List ℤ) → (summary_of whole sums vs).sum ≡ foldl (λ x v. pick sums (x +ℤ v) x) (pos 0) vs
  sum_is vs = ap (λ s. s.sum) (summary-from (start whole) vs)

-- ---- extremes of lists
same_choice : (up : Bool) (x y : ℤ) → chosen whole up x y ≡ Z.chosen up x y
same_choice true x y = refl
same_choice false x y = refl

chosen-range : (up : Bool) (a v : ℤ) → in_range a ≡ true → in_range v ≡ true → in_range (Z.chosen up a v) ≡ true
unfolding pick
chosen-range up a v h k = go (Z.before up v a)
  where
    go : (b : Bool) → in_range (pick b v a) ≡ true
    go true = k
    go false = h

fold-range : (up : Bool) (a : ℤ) (vs : List ℤ) → in_range a ≡ true → All (λ z. in_range z ≡ true) vs → in_range (foldl (Z.chosen up) a vs) ≡ true
unfolding All
fold-range up a [] h k = h
fold-range up a (v ∷ vs) h k = fold-range up (Z.chosen up a v) vs (chosen-range up a v h k.0) k.1

begin-range : (up : Bool) → in_range (begin up) ≡ true
begin-range true = refl
begin-range false = refl

known : (up sums : Bool) (vs : List ℤ) → All (λ z. in_range z ≡ true) vs → in_range (extreme whole up (summary_of whole sums vs)) ≡ true
known up sums vs h = ap in_range (extreme-is sums up vs) ∙ fold-range up (begin up) vs (begin-range up) h

parts : (up sums : Bool) (xs ys : List ℤ)
    → chosen whole up (extreme whole up (summary_of whole sums xs)) (extreme whole up (summary_of whole sums ys)) ≡ extreme whole up (summary_of whole sums (xs ++ ys))
parts up sums xs ys =
    same_choice up (extreme whole up (summary_of whole sums xs)) (extreme whole up (summary_of whole sums ys))
    ∙ ap (λ (z : ℤ). Z.chosen up z (extreme whole up (summary_of whole sums ys))) (extreme-is sums up xs)
    ∙ ap (Z.chosen up (foldl (Z.chosen up) (begin up) xs)) (extreme-is sums up ys)
    ∙ Z.fold-parts up (begin up) xs ys
    ∙ sym (extreme-is sums up (xs ++ ys))

perm : (up sums : Bool) {xs ys : List ℤ} → Permᴰ xs ys → extreme whole up (summary_of whole sums xs) ≡ extreme whole up (summary_of whole sums ys)
perm up sums {xs} {ys} h = extreme-is sums up xs ∙ Z.fold-perm up (begin up) h ∙ sym (extreme-is sums up ys)

-- ---- extremes as they are shown: the same where they are equal
same-is : (a b : Option ℤ) → SameExtreme a b → a ≡ b
same-is None None h = refl
same-is None (Some y) h = absurd h
same-is (Some x) None h = absurd h
same-is (Some x) (Some y) h = ap Some h

is_same : (a b : Option ℤ) → a ≡ b → SameExtreme a b
is_same a b e = subst (SameExtreme a) e (self a)
  where
    self : (a : Option ℤ) → SameExtreme a a
    self None = tt
    self (Some x) = refl

shown : (up due : Bool) (x y : ℤ) → nearer whole up (shown_if whole due x) (shown_if whole due y) ≡ shown_if whole due (chosen whole up x y)
unfolding pick
shown true true x y = refl
shown true false x y = refl
shown false true x y = refl
shown false false x y = refl

none : (up : Bool) (a : Option ℤ) → (nearer whole up None a ≡ a) × (nearer whole up a None ≡ a)
none true None = (refl, refl)
none true (Some x) = (refl, refl)
none false None = (refl, refl)
none false (Some x) = (refl, refl)

shown-is : (due : Bool) (x : ℤ) → is_shown (shown_if whole due x) ≡ due
unfolding pick
shown-is true x = refl
shown-is false x = refl

agree : (due : Bool) (x y : ℤ) → extremes_agree whole due (shown_if whole due x) (shown_if whole due y) ≡ true
unfolding pick
agree true x y = refl
agree false x y = refl

both-merged : (a b c d : Option ℤ) → both_or_none a b ≡ true → both_or_none c d ≡ true → both_or_none (smaller_of a c) (larger_of b d) ≡ true
both-merged None None c d h k = k
both-merged None (Some y) c d h k = true-not-false (sym h)
both-merged (Some x) None c d h k = true-not-false (sym h)
both-merged (Some x) (Some y) None None h k = h
both-merged (Some x) (Some y) None (Some w) h k = true-not-false (sym k)
both-merged (Some x) (Some y) (Some z) None h k = true-not-false (sym k)
both-merged (Some x) (Some y) (Some z) (Some w) h k = refl

abbrev number_in : Option ℤ → ℤ
number_in None = pos 0
number_in (Some x) = x

of-shown : (due : Bool) (e : Option ℤ) → is_shown e ≡ due → e ≡ shown_if whole due (number_in e)
unfolding pick
of-shown true (Some x) h = refl
of-shown true None h = absurd (not-both true refl (sym h))
of-shown false (Some x) h = absurd (not-both true refl h)
of-shown false None h = refl

unshown : (e : Option ℤ) → is_shown e ≡ false → e ≡ None
unfolding pick
unshown e h = of-shown false e h

either : (up : Bool) (a b : Option ℤ) → is_shown (nearer whole up a b) ≡ is_shown a || is_shown b
either true None b = refl
either false None b = refl
either true (Some x) None = refl
either false (Some x) None = refl
either true (Some x) (Some y) = refl
either false (Some x) (Some y) = refl

comm : (up : Bool) (a b : Option ℤ) → nearer whole up a b ≡ nearer whole up b a
comm up None b = (none up b).0 ∙ sym (none up b).1
comm up (Some x) None = (none up (Some x)).1 ∙ sym (none up (Some x)).0
comm true (Some x) (Some y) = ap Some (Z.chosen-comm true x y)
comm false (Some x) (Some y) = ap Some (Z.chosen-comm false x y)

assoc : (up : Bool) (a b c : Option ℤ) → nearer whole up (nearer whole up a b) c ≡ nearer whole up a (nearer whole up b c)
assoc up None b c = ap (λ x. nearer whole up x c) (none up b).0 ∙ sym (none up (nearer whole up b c)).0
assoc up (Some x) None c = ap (λ y. nearer whole up y c) (none up (Some x)).1 ∙ sym (ap (nearer whole up (Some x)) (none up c).0)
assoc up (Some x) (Some y) None = (none up (nearer whole up (Some x) (Some y))).1 ∙ sym (ap (nearer whole up (Some x)) (none up (Some y)).1)
assoc true (Some x) (Some y) (Some z) = ap Some (Z.chosen-assoc true x y z)
assoc false (Some x) (Some y) (Some z) = ap Some (Z.chosen-assoc false x y z)

-- ---- the sum: with the switch on the exact total, with it off 0
kept : (x : ℤ) (vs : List ℤ) → foldl (λ y v. pick false (y +ℤ v) y) x vs ≡ x
unfolding pick
kept x [] = refl
kept x (v ∷ vs) = kept x vs

pub sum-total : (vs : List ℤ) → (summary_of whole true vs).sum ≡ total vs
unfolding pick
sum-total vs = sum_is true vs ∙ total-is vs

pub sum_kept : (vs : List ℤ) → (summary_of whole false vs).sum ≡ pos 0
sum_kept vs = sum_is false vs ∙ kept (pos 0) vs

sum-handed : (on : Bool) (vs : List ℤ) → SumStands on (pick on (summary_of whole on vs).sum (pos 0)) vs
unfolding pick
sum-handed true vs = sum-total vs
sum-handed false vs = refl

sum-order : (on : Bool) (x : ℤ) {vs ws : List ℤ} → Permᴰ vs ws → SumStands on x vs → SumStands on x ws
sum-order true x h k = k ∙ total-perm h
sum-order false x h k = k

sum-join : (on : Bool) (x y : ℤ) (vs ws : List ℤ) → SumStands on x vs → SumStands on y ws → SumStands on (x +ℤ y) (vs ++ ws)
sum-join true x y vs ws h k = (λ i. h i +ℤ k i) ∙ sym (total_append vs ws)
sum-join false x y vs ws h k = λ i. h i +ℤ k i

-- magnitudes that total at most 2 ^ 63 - 1: of parts, in any order
light-parts : (vs ws : List ℤ) → Light (vs ++ ws) → Light vs × Light ws
light-parts vs ws h =
    (record { light = less (weight vs) (weight ws) (weight (vs ++ ws)) (weight_append vs ws) h.light }, record { light = more (weight vs) (weight ws) (weight (vs ++ ws)) (weight_append vs ws) h.light })
  where
    less : (a b c : ℕ) → c ≡ a + b → c < 2 ^ 63 → a < 2 ^ 63
    less a b c e k = omega (arith, e, k)

    more : (a b c : ℕ) → c ≡ a + b → c < 2 ^ 63 → b < 2 ^ 63
    more a b c e k = omega (arith, e, k)

light-perm : (vs ws : List ℤ) → Permᴰ vs ws → Light vs → Light ws
light-perm vs ws p h = record { light = subst (λ (n : ℕ). n < 2 ^ 63) (weight-perm p) h.light }

fine : (x y : ℤ) → in_range (x +ℤ y) ≡ true → whole.beyond x y ≡ 0
unfolding pick
fine x y e = rw e

adds_one : (x : ℤ) → x ≡ total (x ∷ [])
unfolding total
adds_one x = sym (+ℤ_idr x)

sum-within : (on : Bool) (x y : ℤ) (vs ws : List ℤ) → SumStands on x vs → SumStands on y ws → Light (vs ++ ws) → whole.beyond x y ≡ 0
sum-within true x y vs ws h k l = fine x y (ap in_range ((λ i. h i +ℤ k i) ∙ sym (total_append vs ws)) ∙ total-range (vs ++ ws) l.light)
sum-within false x y vs ws h k l = fine x y (λ i. in_range (h i +ℤ k i))

pub owed : Owed whole
owed =
    record {
      taken-known = λ v h. h;
      known-finite = λ v p. refl;
      chosen-finite = λ up a v h k. refl;
      nears-none = refl;
      nears-one = λ v. refl;
      nears_append = map-append nearest_of;
      nears-perm = λ h. map-perm nearest_of h;
      nears-length = nears-length;
      nears-known = nears-known;
      Same = λ x y. x ≡ y;
      number-refl = λ x p. refl;
      extreme-known = known;
      extreme-parts = λ up sums xs ys p q. parts up sums xs ys;
      extreme-perm = λ up sums h p. perm up sums h;
      extreme-turn = λ a b h. is_same b a (sym (same-is a b h));
      extreme-trans = λ a b c h k. is_same a c (same-is a b h ∙ same-is b c k);
      same-shown = λ due x y h. is_same (shown_if whole due x) (shown_if whole due y) (ap (shown_if whole due) h);
      nearer-cong = λ up a b c d h k. is_same (nearer whole up a b) (nearer whole up c d) (λ i. nearer whole up (same-is a c h i) (same-is b d k i));
      nearer-shown = shown;
      nearer-none = none;
      not-shown = λ e h. same-is e None h;
      unshown = unshown;
      extremes-agree = λ due a b x y h k.
          (λ i. extremes_agree whole due (same-is a (shown_if whole due x) h i) (same-is b (shown_if whole due y) k i)) ∙ agree due x y;
      finite-merged = both-merged;
      Numeric = λ e. Unit;
      number_in = number_in;
      shown_of = λ due e x h. (tt, ap is_shown (same-is e (shown_if whole due x) h) ∙ shown-is due x);
      of-shown = λ due e p q. is_same e (shown_if whole due (number_in e)) (of-shown due e q);
      either-shown = either;
      numeric-self = λ a p. is_same a a refl;
      numeric-nearer = λ up a b p q. tt;
      numeric-comm = λ up a b p q. is_same (nearer whole up a b) (nearer whole up b a) (comm up a b);
      numeric-assoc = λ up a b c p q r. assoc up a b c;
      sum-handed = sum-handed;
      sum-order = sum-order;
      sum-join = sum-join;
      within-parts = light-parts;
      within-perm = light-perm;
      sum-within = sum-within;
      Adds = λ x vs. x ≡ total vs;
      adds_one = adds_one;
      adds-join = sum-join true;
      adds-within = sum-within true;
    }
