-- What the code's proofs cite: the words of a point by those of its shadow, and a point put by its shadow. Assumes nothing.
use Prim.Native.Nat.{ℕ, ◌+◌, ◌*◌, ◌≤◌}
use mathlib.Core.Path.{◌≡◌, refl, ap, ◌∙◌}
use mathlib.Core.Bool.{Bool}
use mathlib.Core.List.{List, [], ◌∷◌, ◌++◌}
use native.Mathlib.Omega.{arith}
use lib.IntN.{ℤ}
use lib.ListN.{get_or, set, take}
use lib.Seq.{set-set}
use Rattle.laws.specs.Counting.{bit}
use Rattle.floats.specs.Answers as Floats
use Rattle.integers.specs.Answers.{is_shown, bits_of}
use Rattle.std.specs.Prelude.{Option}
use Rattle.point.specs.declared.Figures.{Figures}
use Rattle.point.specs.declared.Figures.TheVariants.{Exponential, Explicit}
use Rattle.whole_point.specs.Handing.{shadow_point}
use Rattle.whole_point.specs.declared.Point.{Point}
use Rattle.point.specs.declared.Point as P
use Rattle.listing.specs.Words as F
use Rattle.listing.specs.Words.{figures_words}
use Rattle.listing.specs.Listed as L
use Rattle.listing.specs.Listed.{Output, pos_len, neg_len, behind, over_at}
use Rattle.listing.specs.Inner.{Put, left}
use Rattle.listing.specs.declared.Cursor.{Cursor}
use Rattle.listing.specs.declared.Span.{Span}
use Rattle.whole_listing.specs.Words.{shown_bits, raised, words_of}
use Rattle.whole_listing.specs.Listed.{put_at}
use Rattle.whole_listing.specs.Inner.{with_numbers}

-- a shadow's kind is 0 or 1
pub kind-least : (f : Figures) (b : Span) (l : List ℕ) → get_or (figures_words f b ++ l) 0 0 ≤ 1
kind-least (Exponential c) b l = omega arith
kind-least (Explicit n) b l = omega arith

numbers-over : (f : Figures) (b : Span) (k x y z : ℕ) (min max : Option ℤ) (sum : ℤ)
    → with_numbers (figures_words f b ++ (k ∷ x ∷ y ∷ z ∷ [])) min max sum ≡ raised (figures_words f b) ++ (k ∷ shown_bits min ∷ shown_bits max ∷ bits_of sum ∷ [])
numbers-over (Exponential c) b k x y z min max sum = refl
numbers-over (Explicit n) b k x y z min max sum = refl

-- numbers over the words of an f64 point that shows extremes where they do
pub words-made : (q : P.Point) (b : Span) (min max : Option ℤ) (sum : ℤ) → Floats.is_shown q.min ≡ is_shown min
    → with_numbers (F.words_of q b) min max sum ≡ words_of (record { figures = q.figures; extremes = q.extremes; min = min; max = max; sum = sum }) b
words-made q b min max sum e =
    numbers-over q.figures b _ _ _ _ min max sum
    ∙ ap (λ (t : Bool). raised (figures_words q.figures b) ++ ((bit q.extremes + 2 * bit t) ∷ shown_bits min ∷ shown_bits max ∷ bits_of sum ∷ [])) e

-- ---- a point put: its shadow's words written over
pub put-over : (at : Cursor) (row : List ℕ) (p : Point) (q : P.Point) (b : Span) (xs ys : List ℕ) (o : Output) (next : Cursor) (made : Output) (w : List ℕ)
    → q ≡ shadow_point p → left next made ≡ left (behind at q.figures b) (L.put_at at row q b xs ys o) → w ≡ words_of p b
    → left next (record { sets = made.sets; words = set made.words at.place w; pos = made.pos; neg = made.neg })
    ≡ left (behind at p.figures b) (put_at at row p b xs ys o)
unfolding put_at L.put_at
put-over at row p q b xs ys o next made w e m h =
    ap (λ (z : Put). left z.next (record { sets = z.output.sets; words = set z.output.words at.place w; pos = z.output.pos; neg = z.output.neg }))
    (m ∙ ap (λ (s : P.Point). left (behind at s.figures b) (L.put_at at row s b xs ys o)) e)
    ∙ ap (λ (l : List (List ℕ)). left (behind at p.figures b) (record {
      sets = set o.sets at.place row;
      words = l;
      pos = over_at at.pos (take (pos_len p.figures b) xs) o.pos;
      neg = over_at at.neg (take (neg_len p.figures) ys) o.neg;
    }))
    (set-set o.words at.place (F.words_of (shadow_point p) b) w ∙ ap (set o.words at.place) h)
