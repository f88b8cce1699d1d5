-- A point of i64 values and its shadow of f64: agreement and the numbers of a merge. Assumes nothing.
use Prim.Native.Nat.{ℕ, ◌+◌}
use mathlib.Core.Path.{◌≡◌, refl, sym, ap, ◌∙◌}
use mathlib.Core.Bool.{Bool, true, false, beq, ◌&&◌}
use lib.Dec.{leb, eqb}
use lib.Ieee.{of_bits}
use Rattle.laws.specs.Pick.{pick}
use Rattle.laws.specs.Counting.{most_count}
use Rattle.index.specs.Bins.{finest, lowest_bin}
use Rattle.floats.specs.Answers as R
use Rattle.floats.specs.Answers.{shows}
use Rattle.integers.specs.Answers.{is_shown}
use Rattle.std.specs.Prelude.{Option, Some, None, ℤ}
use Rattle.points.specs.Counts.{count_of, counts_agree, size_asked, merge_number}
use Rattle.points.specs.Any.{Handed, extremes_agree, handed_agrees, mergeable, merge_handed, unmergeable}
use Rattle.points.specs.Real.{finite_or_none, real}
use Rattle.points.specs.Whole.{both_or_none, whole}
use Rattle.points.specs.Shadow.{shadow_of, shadow}

shown : (e : Option ℤ) → R.is_shown (shadow_of e) ≡ is_shown e
shown None = refl
shown (Some x) = refl

both : (a b : Option ℤ) → finite_or_none (shadow_of a) (shadow_of b) ≡ both_or_none a b
unfolding of_bits
both None None = refl
both None (Some y) = refl
both (Some x) None = refl
both (Some x) (Some y) = refl

extremes-alike : (due : Bool) (a b : Option ℤ) → extremes_agree real due (shadow_of a) (shadow_of b) ≡ extremes_agree whole due a b
extremes-alike due a b = λ j. both a b j && (beq (shown a j) due && beq (shown b j) due)

-- IT AGREES WHERE THE POINT DOES
pub shadow-agrees : (size top low : ℕ) (p : Handed whole) → handed_agrees real size top low (shadow p) ≡ handed_agrees whole size top low p
shadow-agrees size top low p =
    ap (λ b. counts_agree size top low p.counts && b) (extremes-alike (shows p.extremes (count_of p.counts)) p.min p.max)

-- THE NUMBER OF A MERGE: that of the shadows, or else 16
after-number : (a b c d : Bool) (n : ℕ) → merge_number a b c d n ≡ pick (eqb (merge_number a b c d 0) 0) n (merge_number a b c d 0)
unfolding pick
after-number false b c d n = refl
after-number true false c d n = refl
after-number true true false d n = refl
after-number true true true false n = refl
after-number true true true true n = refl

pub shadow-number : (size : ℕ) (there : Bool) (p q : Handed whole)
    → unmergeable whole size there p q
    ≡ pick (eqb (unmergeable real size there (shadow p) (shadow q)) 0) (whole.beyond p.sum q.sum) (unmergeable real size there (shadow p) (shadow q))
shadow-number size there p q =
    let sized = size_asked size p.counts q.counts in
    let ok : Handed whole → Bool = handed_agrees whole size finest (lowest_bin finest) in
    let alike = mergeable whole p q in
    let few = leb (count_of p.counts + count_of q.counts) most_count in
    after-number sized (there && (ok p && ok q)) alike few (whole.beyond p.sum q.sum)
    ∙ ap (λ n. pick (eqb n 0) (whole.beyond p.sum q.sum) n)
    (λ j. merge_number sized (there && (sym (shadow-agrees size finest (lowest_bin finest) p) j && sym (shadow-agrees size finest (lowest_bin finest) q) j)) alike few 0)

-- AND THE COUNTS OF A MERGED POINT
pub shadow-merged : (size : ℕ) (p q : Handed whole) → (merge_handed whole size p q).counts ≡ (merge_handed real size (shadow p) (shadow q)).counts
shadow-merged size p q = refl
