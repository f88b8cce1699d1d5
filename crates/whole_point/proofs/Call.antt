-- Merging points of i64 values by their shadows: what crate `point` makes of the counts, and the sum that stays in i64 or does not. Assumes nothing.
use Prim.Native.Nat.{ℕ, ◌+◌}
use mathlib.Core.Path.{◌≡◌, refl, sym, ap, subst, ◌∙◌}
use mathlib.Core.Bool.{Bool, true, false, ◌&&◌}
use mathlib.Core.List.{List}
use borrow.Author.Tests.{eqb-true, eqb-false, eq-eqb, ne_eqb}
use lib.Dec.{T, leb, eqb}
use lib.IntN.{ℤ, ◌+ℤ◌}
use lib.ListN.{length}
use lib.Ieee.{Float}
use Rattle.std.specs.Prelude.{◌≢◌}
use Rattle.refusals.specs.declared.Refusal.{Refusal}
use Rattle.refusals.specs.declared.Refusal.TheVariants as V
use Rattle.refusals.specs.Refusals.{number}
use Rattle.refusals.proofs.Numbers.{number-nonzero}
use Rattle.laws.specs.Pick.{pick}
use Rattle.laws.specs.Said.{Said, refusal, success}
use Rattle.laws.specs.Over.{over}
use Rattle.laws.specs.Counting.{most_count}
use Rattle.laws.proofs.Bools.{pick_true, pick-false}
use Rattle.index.specs.Bins.{finest, lowest_bin}
use Rattle.integers.specs.Answers.{in_range, sum_of, last_number}
use Rattle.std.specs.Prelude.{Option, Some, None}
use Rattle.points.specs.Counts.{most_size, size_asked, pos_of, neg_of, merge_number}
use Rattle.points.specs.Handed as R
use Rattle.points.specs.Any.{Handed, handed_agrees, merge_handed}
use Rattle.points.specs.Real.{real}
use Rattle.points.specs.Whole.{whole}
use Rattle.points.specs.Shadow.{shadow}
use Rattle.points.proofs.WholeSums.{last_some}
use Rattle.points.proofs.Shadow.{shadow-agrees, shadow-number}
use Rattle.point.specs.declared.Point as P
use Rattle.point.specs.Handing as Q
use Rattle.whole_point.specs.declared.Point.{Point}
use Rattle.whole_point.specs.Handing.{Stored, handed_in, in_shape, shadow_stored, ended, point_for, laid_over, refusal_before, merging, mixed_number, alone_number, finished, beside_number}

no : {A : Type 0} → true ≡ false → A
no h = absurd (subst T h tt)

-- the number of what refuses, of whose sum leaves i64
pub last-refused : (e : Refusal) → number e ≡ last_number (number e)
last-refused e = sym (pick-false _ _ _ (ne_eqb (number e) 0 (number-nonzero e)))

pub last-none : 16 ≡ last_number 0
last-none = sym (pick_true _ _ _ (eq-eqb 0 0 refl))

-- ---- the sum
abbrev total_in : ℤ → Option ℤ → ℤ
total_in d None = d
total_in d (Some s) = s

abbrev is_in : Option ℤ → Bool
is_in None = false
is_in (Some s) = true

record Stays (x y s : ℤ) : Type 0 where
  none : whole.beyond x y ≡ 0
  sum : s ≡ x +ℤ y

stays : (x y s : ℤ) → sum_of x y ≡ Some s → Stays x y s
unfolding sum_of
stays x y s e = go (in_range (x +ℤ y)) refl
  where
    go : (b : Bool) → in_range (x +ℤ y) ≡ b → Stays x y s
    go true d = record { none = pick_true _ 0 16 d; sum = sym (ap (total_in s) (sym (pick_true (in_range (x +ℤ y)) (Some (x +ℤ y)) None d) ∙ e)) }
    go false d = no (sym (ap is_in (sym (pick-false (in_range (x +ℤ y)) (Some (x +ℤ y)) None d) ∙ e)))

leaves : (x y : ℤ) → sum_of x y ≡ None → whole.beyond x y ≡ 16
unfolding sum_of
leaves x y e = go (in_range (x +ℤ y)) refl
  where
    go : (b : Bool) → in_range (x +ℤ y) ≡ b → whole.beyond x y ≡ 16
    go true d = no (ap is_in (sym (pick_true (in_range (x +ℤ y)) (Some (x +ℤ y)) None d) ∙ e))
    go false d = pick-false _ 0 16 d

-- ---- what an f64 outcome says
abbrev is_refused : {A : Type 0} → Said A → Bool
is_refused (refusal n) = true
is_refused (success a) = false

abbrev number_in : {A : Type 0} → Said A → ℕ
number_in (refusal n) = n
number_in (success a) = 0

abbrev point_in : P.Point → Said Q.Stored → P.Point
point_in d (refusal n) = d
point_in d (success x) = x.point

-- the answer of an outcome is the one that it was made of
same_answer : (r q : Said P.Point) (bs : List Float) (us vs us' vs' : List ℕ) → Q.ended r bs us' vs' ≡ Q.ended q bs us vs → r ≡ q
same_answer (refusal n) (refusal m) bs us vs us' vs' e = ap refusal (ap (λ o. number_in o.answer) e)
same_answer (refusal n) (success h) bs us vs us' vs' e = no (ap (λ o. is_refused o.answer) e)
same_answer (success g) (refusal m) bs us vs us' vs' e = no (sym (ap (λ o. is_refused o.answer) e))
same_answer (success g) (success h) bs us vs us' vs' e = ap success (ap (λ o. point_in g o.answer) e)

-- ---- THE CALL
module _ (size : ℕ) (x y : Stored) (us vs : List ℕ) where
  abbrev before : ℕ
  before = Q.refusal_before size (shadow_stored x) (shadow_stored y)

  -- the number of the shadows, or else the sum's
  pub number_is : refusal_before size x y ≡ pick (eqb before 0) (whole.beyond x.point.sum y.point.sum) before
  unfolding refusal_before Q.refusal_before R.unmergeable R.mergeable R.handed_agrees
  number_is = shadow-number size (in_shape x && in_shape y) (handed_in x) (handed_in y)

  abbrev merged : Handed whole
  merged = merge_handed whole size (handed_in x) (handed_in y)

  gives_up : (n : ℕ) → refusal_before size x y ≡ n → (n ≡ 0 → ⊥) → ended (refusal n) x.bounds us vs ≡ merging size x y us vs
  unfolding merging
  gives_up n e z =
      sym (pick-false _ _ _ (ne_eqb (refusal_before size x y) 0 (λ d. z (sym e ∙ d))) ∙ ap (λ m. ended (refusal m) x.bounds us vs) e)

  goes_on : refusal_before size x y ≡ 0 → merging size x y us vs ≡ laid_over merged x.bounds us vs
  unfolding merging
  goes_on e = pick_true _ _ _ (eq-eqb (refusal_before size x y) 0 e)

  -- where the sum would leave i64
  pub outside_law : sum_of x.point.sum y.point.sum ≡ None → (n k : ℕ) → n ≡ before → k ≡ last_number n
      → ended (refusal k) x.bounds us vs ≡ merging size x y us vs
  outside_law t n k e d =
      ap (λ m. ended (refusal m) x.bounds us vs) (d ∙ ap last_number e)
      ∙ gives_up (last_number before) (number_is ∙ ap (λ m. pick (eqb before 0) m before) (leaves x.point.sum y.point.sum t)) (last_some before)

  -- where it does not
  module _ (s : ℤ) (t : sum_of x.point.sum y.point.sum ≡ Some s) where
    abbrev done : Said P.Point → Said Point
    done r = finished x.point y.point s r

    stay : Stays x.point.sum y.point.sum s
    stay = stays x.point.sum y.point.sum s t

    -- refused for the counts
    by_number : (before ≡ 0 → ⊥) → ended (done (refusal before)) x.bounds us vs ≡ merging size x y us vs
    by_number z = gives_up before (number_is ∙ pick-false _ _ _ (ne_eqb before 0 z)) z

    free : before ≡ 0 → refusal_before size x y ≡ 0
    free e = number_is ∙ pick_true _ _ _ (eq-eqb before 0 e) ∙ stay.none

    abbrev room : Bool
    room = leb (length (pos_of merged.counts)) (length us) && leb (length (neg_of merged.counts)) (length vs)

    abbrev shadows : R.Handed
    shadows = R.merge_handed size (Q.handed_in (shadow_stored x)) (Q.handed_in (shadow_stored y))

    counts-are : shadows.counts ≡ merged.counts
    unfolding R.merge_handed
    counts-are = refl

    laid : room ≡ true → laid_over merged x.bounds us vs ≡ ended (success (point_for merged)) x.bounds (over (pos_of merged.counts) us) (over (neg_of merged.counts) vs)
    unfolding laid_over
    laid e = pick_true _ _ _ e

    short : room ≡ false → laid_over merged x.bounds us vs ≡ ended (refusal 10) x.bounds us vs
    unfolding laid_over
    short e = pick-false _ _ _ e

    f64-left : (before ≡ 0 → ⊥) → Q.merging size (shadow_stored x) (shadow_stored y) us vs ≡ Q.ended (refusal before) x.bounds us vs
    unfolding Q.merging
    f64-left z = pick-false _ _ _ (ne_eqb before 0 z)

    f64-laid : before ≡ 0 → room ≡ true
        → Q.merging size (shadow_stored x) (shadow_stored y) us vs ≡ Q.ended (success (Q.point_for shadows)) x.bounds (over (pos_of merged.counts) us) (over (neg_of merged.counts) vs)
    unfolding Q.merging Q.laid_over R.merge_handed
    f64-laid e d = pick_true _ _ _ (eq-eqb before 0 e) ∙ pick_true _ _ _ d

    f64-short : before ≡ 0 → room ≡ false → Q.merging size (shadow_stored x) (shadow_stored y) us vs ≡ Q.ended (refusal 10) x.bounds us vs
    unfolding Q.merging Q.laid_over R.merge_handed
    f64-short e d = pick_true _ _ _ (eq-eqb before 0 e) ∙ pick-false _ _ _ d

    made : done (success (Q.point_for shadows)) ≡ success (point_for merged)
    unfolding R.merge_handed
    made =
        λ j. success (record {
          figures = (point_for merged).figures;
          extremes = merged.extremes;
          min = merged.min;
          max = merged.max;
          sum = stay.sum j;
        })

    -- from the f64 outcome, whose answer is q over the rows ps and qs
    from : (q : Said P.Point) (ps qs : List ℕ) (r : Said P.Point) (us' vs' : List ℕ) → Q.ended r x.bounds us' vs' ≡ Q.ended q x.bounds ps qs
        → ended (done r) x.bounds us' vs' ≡ ended (done q) x.bounds ps qs
    from q ps qs r us' vs' e =
        let a = same_answer r q x.bounds ps qs us' vs' e in
        λ j. ended (done (a j)) x.bounds (e j).pos (e j).neg

    pub inside_law : (r : Said P.Point) (a : Said Point) (us' vs' : List ℕ)
        → Q.ended r x.bounds us' vs' ≡ Q.merging size (shadow_stored x) (shadow_stored y) us vs → a ≡ done r → ended a x.bounds us' vs' ≡ merging size x y us vs
    inside_law r a us' vs' e f = ap (λ b. ended b x.bounds us' vs') f ∙ go (eqb before 0) room refl refl
      where
        go : (b c : Bool) → eqb before 0 ≡ b → room ≡ c → ended (done r) x.bounds us' vs' ≡ merging size x y us vs
        go false c d h =
            let z = eqb-false before 0 d in
            from (refusal before) us vs r us' vs' (e ∙ f64-left z) ∙ by_number z
        go true true d h =
            let z = eqb-true before 0 d in
            from (success (Q.point_for shadows)) (over (pos_of merged.counts) us) (over (neg_of merged.counts) vs) r us' vs' (e ∙ f64-laid z h)
            ∙ ap (λ b. ended b x.bounds (over (pos_of merged.counts) us) (over (neg_of merged.counts) vs)) made
            ∙ sym (goes_on (free z) ∙ laid h)
        go true false d h =
            let z = eqb-true before 0 d in
            from (refusal 10) us vs r us' vs' (e ∙ f64-short z h) ∙ sym (goes_on (free z) ∙ short h)

-- ---- BESIDE f64
-- but for 1 and 8 it is 11
pub beside-else : (n : ℕ) → n ≢ 1 → n ≢ 8 → 11 ≡ beside_number n
beside-else n h k = sym (pick-false (eqb n 1) 1 _ (ne_eqb n 1 h) ∙ pick-false (eqb n 8) 8 11 (ne_eqb n 8 k))

-- so of a refusal, and where nothing is refused: two laws for other crates, which nothing here cites
pub beside-other : (e : Refusal) → e ≢ V.MaxSize → e ≢ V.Disagrees → 11 ≡ beside_number (number e)
unfolding pick
beside-other V.MaxSize h k = absurd (h refl)
beside-other V.MaxScale h k = refl
beside-other V.Bounds h k = refl
beside-other V.Limit h k = refl
beside-other V.Attributes h k = refl
beside-other V.NotFinite h k = refl
beside-other V.NoHandle h k = refl
beside-other V.Disagrees h k = absurd (k refl)
beside-other V.Full h k = refl
beside-other V.NoRoom h k = refl
beside-other V.Unlike h k = refl
beside-other V.LentShort h k = refl
beside-other V.NoValues h k = refl
beside-other V.OffGrid h k = refl
beside-other V.NotASheet h k = refl
beside-other V.SumOutside h k = refl

pub beside-none : 11 ≡ beside_number 0
unfolding pick
beside-none = refl

pub beside-size : 1 ≡ beside_number 1
unfolding pick
beside-size = refl

pub beside-agree : 8 ≡ beside_number 8
unfolding pick
beside-agree = refl

-- the first two numbers of a merge
abbrev firsts : Bool → Bool → ℕ
firsts sized agreed = pick sized (pick agreed 11 8) 1

by_first : (a b c d : Bool) → beside_number (merge_number a b c d 0) ≡ firsts a b
unfolding pick
by_first false b c d = refl
by_first true false c d = refl
by_first true true false d = refl
by_first true true true false = refl
by_first true true true true = refl

module _ (size : ℕ) (x : Stored) (y : Q.Stored) where
  abbrev sized : Bool
  sized = size_asked size (handed_in x).counts (Q.handed_in y).counts

  abbrev agreed : Bool
  agreed = (in_shape x && Q.in_shape y) && (handed_agrees whole size finest (lowest_bin finest) (handed_in x) && handed_agrees real size finest (lowest_bin finest) (Q.handed_in y))

  pub mixed_law : (n : ℕ) → n ≡ Q.refusal_before size (shadow_stored x) y → beside_number n ≡ mixed_number size x y
  unfolding mixed_number Q.refusal_before R.unmergeable R.handed_agrees
  mixed_law n e =
      let alike = R.mergeable (shadow (handed_in x)) (Q.handed_in y) in
      let few = leb (R.count_of (handed_in x).counts + R.count_of (Q.handed_in y).counts) most_count in
      ap beside_number e
      ∙ (λ j. beside_number (merge_number sized ((in_shape x && Q.in_shape y) && (shadow-agrees size finest (lowest_bin finest) (handed_in x) j && handed_agrees real size finest (lowest_bin finest) (Q.handed_in y))) alike few 0))
      ∙ by_first sized agreed alike few

-- in a card or sheet
pub alone_law : (x : Stored) (b : Bool) → b ≡ Q.agrees_alone (shadow_stored x) → pick b 11 8 ≡ alone_number x
unfolding alone_number Q.agrees_alone R.handed_agrees
alone_law x b e = ap (λ c. pick c 11 8) (e ∙ ap (λ c. in_shape x && c) (shadow-agrees most_size finest (lowest_bin finest) (handed_in x)))
