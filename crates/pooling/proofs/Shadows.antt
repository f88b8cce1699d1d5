-- Two stored points of i64 values pooled by their shadows: the merged numbers over the words of the merged shadow. Assumes nothing.
use Prim.Native.Nat.{ℕ, ◌≤◌, ◌<◌}
use mathlib.Core.Path.{◌≡◌, refl, sym, ap, ap₂, subst, ◌∙◌}
use mathlib.Core.Logic.{⊎_elim}
use mathlib.Core.Bool.{Bool, true, false}
use mathlib.Core.List.{List, []}
use native.Mathlib.Omega.{arith}
use lib.IntN.{ℤ}
use lib.ListN.{length, get_or, set, take, drop, length-set}
use lib.Seq.{set-set, get_or-set_same}
use lib.Ieee.{Float}
use Rattle.laws.specs.Pick.{pick}
use Rattle.laws.specs.Said.{Said, refusal, success}
use Rattle.laws.specs.Over.{over}
use Rattle.laws.proofs.Bools.{flag, pick_true, pick-false}
use Rattle.floats.specs.Answers as Floats
use Rattle.integers.specs.Answers.{is_shown, smaller_of, larger_of, sum_of, last_number}
use Rattle.std.specs.Prelude.{Option, Some, None}
use Rattle.points.specs.Counts.{pos_of, neg_of}
use Rattle.points.specs.Handed.{merge_counts}
use Rattle.points.specs.Shadow.{shadow_of}
use Rattle.point.specs.declared.Point as P
use Rattle.point.specs.Handing as Q
use Rattle.whole_point.specs.declared.Point.{Point}
use Rattle.whole_point.specs.Handing.{Stored, stored_in, shadow_stored, Outcome, ended, refusal_before, merging, laid_over}
use Rattle.whole_point.proofs.Call.{outside_law, inside_law}
use Rattle.listing.specs.Words as F
use Rattle.listing.specs.Listed as L
use Rattle.listing.specs.Listed.{Output, pos_len, neg_len, behind, over_at}
use Rattle.listing.specs.declared.Cursor.{Cursor}
use Rattle.listing.specs.declared.Span.{Span}
use Rattle.whole_listing.specs.Listed.{put_at}
use Rattle.whole_listing.specs.Inner.{with_numbers}
use Rattle.whole_listing.proofs.Cases.{kind-least, words-made}
use Rattle.pooling.specs.Lists as Lists
use Rattle.pooling.specs.Lists.{ends, has_place, pooled, put_merged_whole, pooled_wholes}
use Rattle.pooling.specs.Entries.{renumbered, Numberable}
use Rattle.pooling.proofs.Verdicts.{point, lastly, Turned, Taken, verdict}
use Rattle.pooling.proofs.Placed.{place-says, with-place, without-place}

-- ---- what merging answers, and the number without a place

abbrev number_or : {A : Type 0} → ℕ → Said A → ℕ
number_or d (refusal n) = n
number_or d (success z) = d

by_answer : (s t : Bool) (p : Point) (bs : List Float) (us vs us' vs' : List ℕ) (n : ℕ)
    → number_or 10 (pick s (pick t (ended (success p) bs us' vs') (ended (refusal 10) bs us vs)) (ended (refusal n) bs us vs)).answer ≡ pick s 10 n
unfolding pick
by_answer true true p bs us vs us' vs' n = refl
by_answer true false p bs us vs us' vs' n = refl
by_answer false t p bs us vs us' vs' n = refl

either_way : {A : Type 0} (t : Bool) (a : A) → pick t a a ≡ a
unfolding pick
either_way true a = refl
either_way false a = refl

module _ (size : ℕ) (x y : Stored) (us vs : List ℕ) where
  number_of : number_or 10 (merging size x y us vs).answer ≡ lastly (refusal_before size x y)
  unfolding merging laid_over
  number_of = by_answer _ _ _ _ _ _ _ _ _

module _ (size : ℕ) (row : List ℕ) (b : Span) (x y : Stored) (at : Cursor) (o : Output) where
  abbrev us : List ℕ
  us = drop at.pos o.pos

  abbrev vs : List ℕ
  vs = drop at.neg o.neg

  -- refused, with a place or without
  refused : (n : ℕ) → (merging size x y (drop at.pos o.pos) (drop at.neg o.neg)).answer ≡ refusal n → pooled_wholes size row b x y at o ≡ ends (refusal n) o
  unfolding pooled_wholes
  refused n e =
      ap₂ (λ (r : Said Stored) (k : ℕ). pick (has_place at o) (put_merged_whole at row b o r) (ends (refusal k) o)) e
      (sym (number_of size x y us vs) ∙ ap (number_or 10) e)
      ∙ either_way (has_place at o) (ends (refusal n) o)

  pub placed : has_place at o ≡ true → pooled_wholes size row b x y at o ≡ put_merged_whole at row b o (merging size x y us vs).answer
  unfolding pooled_wholes
  placed h = pick_true (has_place at o) _ _ h

  placeless : (z : Stored) → (merging size x y us vs).answer ≡ success z → has_place at o ≡ false → pooled_wholes size row b x y at o ≡ ends (refusal 10) o
  unfolding pooled_wholes
  placeless z e h =
      pick-false (has_place at o) _ _ h ∙ ap (λ (k : ℕ). ends (refusal k) o) (sym (number_of size x y us vs) ∙ ap (number_or 10) e)

  -- where the sum would leave i64
  pub outside-pooled : sum_of x.point.sum y.point.sum ≡ None → (n k : ℕ) → n ≡ Q.refusal_before size (shadow_stored x) (shadow_stored y) → k ≡ last_number n
      → ends (refusal k) o ≡ pooled_wholes size row b x y at o
  outside-pooled t n k e d = sym (refused k (sym (ap (λ (m : Outcome). m.answer) (outside_law size x y us vs t n k e d))))

-- an extreme of two is shown where that of the shadows is
pub shown-smaller : (u v : Option ℤ) → Floats.is_shown (Floats.smaller_of (shadow_of u) (shadow_of v)) ≡ is_shown (smaller_of u v)
shown-smaller None None = refl
shown-smaller None (Some y) = refl
shown-smaller (Some x) None = refl
shown-smaller (Some x) (Some y) = refl

pub shown-larger : (u v : Option ℤ) → Floats.is_shown (Floats.larger_of (shadow_of u) (shadow_of v)) ≡ is_shown (larger_of u v)
shown-larger None None = refl
shown-larger None (Some y) = refl
shown-larger (Some x) None = refl
shown-larger (Some x) (Some y) = refl

-- ---- by the shadows
module _ (size : ℕ) (x y : Stored) (us vs : List ℕ) (s : ℤ) (t : sum_of x.point.sum y.point.sum ≡ Some s) where
  abbrev shadows : P.Point
  shadows = point size (shadow_stored x) (shadow_stored y)

  -- the merged point
  abbrev pub whole : Point
  whole =
      record {
        figures = shadows.figures;
        extremes = x.point.extremes;
        min = smaller_of x.point.min y.point.min;
        max = larger_of x.point.max y.point.max;
        sum = s;
      }

  abbrev ps : List ℕ
  ps = over (pos_of (merge_counts size (Q.counts_in (shadow_stored x)) (Q.counts_in (shadow_stored y)))) us

  abbrev ns : List ℕ
  ns = over (neg_of (merge_counts size (Q.counts_in (shadow_stored x)) (Q.counts_in (shadow_stored y)))) vs

  pub turned-whole : (n : ℕ) → Turned size (shadow_stored x) (shadow_stored y) us vs n → (merging size x y us vs).answer ≡ refusal n
  turned-whole n k = sym (ap (λ (m : Outcome). m.answer) (inside_law size x y us vs s t (refusal n) (refusal n) us vs (sym k.is) refl))

  pub taken-whole : Taken size (shadow_stored x) (shadow_stored y) us vs → (merging size x y us vs).answer ≡ success (stored_in whole x.bounds ps ns)
  taken-whole k = sym (ap (λ (m : Outcome). m.answer) (inside_law size x y us vs s t (success shadows) (success whole) ps ns (sym k.is) refl))

module _ (size : ℕ) (row : List ℕ) (b : Span) (x y : Stored) (at : Cursor) (o : Output) (l : length x.bounds ≡ b.len) where
  abbrev first : Q.Stored
  first = shadow_stored x

  abbrev second : Q.Stored
  second = shadow_stored y

  abbrev us₂ : List ℕ
  us₂ = drop at.pos o.pos

  abbrev vs₂ : List ℕ
  vs₂ = drop at.neg o.neg

  -- what the shadows come to
  shadows-refused : (n : ℕ) → Turned size first second us₂ vs₂ n → pooled size row b first second at o ≡ ends (refusal n) o
  shadows-refused n k =
      ⊎_elim
      (λ (h : has_place at o ≡ true). sym (with-place size first second at row b l o h) ∙ ap (λ (m : Q.Outcome). Lists.put_merged at row b o m.answer) k.is)
      (λ (h : has_place at o ≡ false). sym (without-place size first second at row b l o h) ∙ ap (λ (m : ℕ). ends (refusal m) o) k.number)
      (flag (has_place at o))

  module _ (k : Taken size first second us₂ vs₂) where
    abbrev made : P.Point
    made = point size first second

    abbrev ps₂ : List ℕ
    ps₂ = over (pos_of (merge_counts size (Q.counts_in first) (Q.counts_in second))) us₂

    abbrev ns₂ : List ℕ
    ns₂ = over (neg_of (merge_counts size (Q.counts_in first) (Q.counts_in second))) vs₂

    shadows-taken : has_place at o ≡ true → pooled size row b first second at o ≡ ends (success (behind at made.figures b)) (L.put_at at row made b ps₂ ns₂ o)
    shadows-taken h = sym (with-place size first second at row b l o h) ∙ ap (λ (m : Q.Outcome). Lists.put_merged at row b o m.answer) k.is

    shadows-placeless : has_place at o ≡ false → pooled size row b first second at o ≡ ends (refusal 10) o
    unfolding pick
    shadows-placeless h = sym (without-place size first second at row b l o h) ∙ ap (λ (n : ℕ). ends (refusal (lastly n)) o) k.free

  -- the merged shadow's words are there
  abbrev There : Lists.Outcome → Type 0
  There q = Numberable at.place q.answer q.output.words

  there : There (pooled size row b first second at o)
  unfolding L.put_at
  there =
      ⊎_elim (λ (k : (n : ℕ) × Turned size first second us₂ vs₂ n). subst There (sym (shadows-refused k.0 k.1)) tt)
      (λ (k : Taken size first second us₂ vs₂).
      ⊎_elim
      (λ (h : has_place at o ≡ true).
      let w = F.words_of (point size first second) b in
      let p = (place-says at (length o.sets) (length o.words) (length o.pos) (length o.neg) h).1 in
      subst There (sym (shadows-taken k h)) (
        omega (arith, p, length-set o.words at.place w),
        subst (λ (v : List ℕ). get_or v 0 0 ≤ 1) (sym (get_or-set_same o.words at.place w [] p)) (kind-least (point size first second).figures b _),
      ))
      (λ (h : has_place at o ≡ false). subst There (sym (shadows-placeless k h)) tt)
      (flag (has_place at o)))
      (verdict size first second us₂ vs₂)

  pub numberable : (r : Said Cursor) (k : Output) → ends r k ≡ pooled size row b (shadow_stored x) (shadow_stored y) at o → Numberable at.place r k.words
  numberable r k h = subst There (sym h) there

  -- the merged numbers over them
  module _ (s : ℤ) (t : sum_of x.point.sum y.point.sum ≡ Some s) where
    abbrev low : Option ℤ
    low = smaller_of x.point.min y.point.min

    abbrev high : Option ℤ
    high = larger_of x.point.max y.point.max

    abbrev numbered : Said Cursor → Output → Output
    numbered r k = record { sets = k.sets; words = renumbered at.place low high s r k.words; pos = k.pos; neg = k.neg }

    abbrev renumber : Lists.Outcome → Lists.Outcome
    renumber q = ends q.answer (numbered q.answer q.output)

    put-over : (ps ns : List ℕ) (c : Cursor) → at.place < length o.words
        → renumber (ends (success c) (L.put_at at row (point size first second) b ps ns o)) ≡ ends (success c) (put_at at row (whole size x y us₂ vs₂ s t) b ps ns o)
    unfolding put_at L.put_at
    put-over ps ns c p =
        let made = point size first second in
        let v = F.words_of made b in
        let e = ap (λ (w : List ℕ). with_numbers w low high s) (get_or-set_same o.words at.place v [] p)
        ∙ words-made made b low high s (shown-smaller x.point.min y.point.min) in
        let w = set-set o.words at.place v _ ∙ ap (set o.words at.place) e in
        λ i. ends (success c) (record {
          sets = set o.sets at.place row;
          words = w i;
          pos = over_at at.pos (take (pos_len made.figures b) ps) o.pos;
          neg = over_at at.neg (take (neg_len made.figures) ns) o.neg;
        })

    by-shadows : renumber (pooled size row b first second at o) ≡ pooled_wholes size row b x y at o
    by-shadows =
        ⊎_elim
        (λ (k : (n : ℕ) × Turned size first second us₂ vs₂ n).
        ap renumber (shadows-refused k.0 k.1) ∙ sym (refused size row b x y at o k.0 (turned-whole size x y us₂ vs₂ s t k.0 k.1)))
        (λ (k : Taken size first second us₂ vs₂).
        let e = taken-whole size x y us₂ vs₂ s t k in
        ⊎_elim
        (λ (h : has_place at o ≡ true).
        ap renumber (shadows-taken k h)
        ∙ put-over _ _ _ (place-says at (length o.sets) (length o.words) (length o.pos) (length o.neg) h).1
        ∙ sym (placed size row b x y at o h ∙ ap (put_merged_whole at row b o) e))
        (λ (h : has_place at o ≡ false). ap renumber (shadows-placeless k h) ∙ sym (placeless size row b x y at o _ e h))
        (flag (has_place at o)))
        (verdict size first second us₂ vs₂)

    pub inside-pooled : (r : Said Cursor) (k : Output) (words : List (List ℕ)) → ends r k ≡ pooled size row b (shadow_stored x) (shadow_stored y) at o
        → words ≡ renumbered at.place (smaller_of x.point.min y.point.min) (larger_of x.point.max y.point.max) s r k.words
        → ends r (record { sets = k.sets; words = words; pos = k.pos; neg = k.neg }) ≡ pooled_wholes size row b x y at o
    inside-pooled r k words h e =
        ap (λ (w : List (List ℕ)). ends r (record { sets = k.sets; words = w; pos = k.pos; neg = k.neg })) e ∙ ap renumber h ∙ by-shadows
