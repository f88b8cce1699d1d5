-- What the code's proofs cite: tests of room, words by the code's match, copied counts. Assumes nothing.
use Prim.Native.Nat.{ℕ, zero, suc, ◌+◌, ◌-◌, ◌*◌, ◌≤◌, ◌<◌, min}
use mathlib.Core.Path.{◌≡◌, refl, sym, ap, ◌∙◌}
use mathlib.Core.Logic.{⊎_elim}
use mathlib.Core.Bool.{Bool, true, false, ◌&&◌}
use mathlib.Core.List.{List, [], ◌∷◌, ◌++◌, append-nil}
use native.Mathlib.Omega.{arith}
use native.Mathlib.Numerals.{add-one}
use borrow.Author.Tests.{le-leb, lt-leb, lt-ltb, le-ltb}
use lib.Dec.{leb, ltb}
use lib.ListN.{length, get_or, set, take, drop, length-drop, drop_of_length-le}
use lib.Seq.{take-suc, take_all, length-take-le, drop-length}
use Rattle.laws.specs.Counting.{bit}
use Rattle.laws.specs.Over.{over}
use Rattle.laws.proofs.Over.{over-snoc}
use Rattle.laws.proofs.Differences.{le_or-lt}
use Rattle.floats.specs.Answers.{is_shown, bits_of}
use Rattle.point.specs.declared.Point.{Point}
use Rattle.point.specs.declared.Figures.{Figures}
use Rattle.point.specs.declared.Figures.TheVariants.{Explicit}
use Rattle.listing.specs.Words.{shown_bits, figures_words, words_of}
use Rattle.listing.specs.Listed.{buckets_of, pos_len, neg_len, within, over_at}
use Rattle.listing.specs.declared.Cursor.{Cursor}
use Rattle.listing.specs.declared.Span.{Span}

-- ---- room

pub lie-no : (a n m : ℕ) → m < a → leb (a + n) m ≡ false
lie-no a n m h = lt-leb (a + n) m (omega arith)

pub lie-is : (a n m : ℕ) → a ≤ m → leb n (m - a) ≡ leb (a + n) m
lie-is a n m h =
    ⊎_elim
    (λ (l : a + n ≤ m). le-leb n (m - a) (omega arith) ∙ sym (le-leb (a + n) m l))
    (λ (l : m < a + n). lt-leb n (m - a) (omega arith) ∙ sym (lt-leb (a + n) m l))
    (le_or-lt (a + n) m)

pub buckets-some : (n : ℕ) → (n ≡ 0 → ⊥) → buckets_of n ≡ n + 1
buckets-some zero h = absurd (h refl)
buckets-some (suc n) h = sym (add-one (suc n))

pub buckets-none : (a n m : ℕ) → n ≡ 0 → leb a m ≡ leb (a + buckets_of n) m
buckets-none a n m e =
    let z : a ≡ a + 0 = omega arith in
    ap (λ (k : ℕ). leb k m) z ∙ sym (ap (λ (k : ℕ). leb (a + buckets_of k) m) e)

pub buckets-no : (a n m : ℕ) → m < a → leb (a + buckets_of n) m ≡ false
buckets-no a n m h = lt-leb (a + buckets_of n) m (omega arith)

pub buckets-are : (a n m : ℕ) → (n ≡ 0 → ⊥) → a ≤ m → ltb n (m - a) ≡ leb (a + buckets_of n) m
buckets-are a n m z h =
    let b = buckets-some n z in
    ⊎_elim
    (λ (l : a + (n + 1) ≤ m). lt-ltb n (m - a) (omega arith) ∙ sym (le-leb (a + buckets_of n) m (omega arith)))
    (λ (l : m < a + (n + 1)). le-ltb n (m - a) (omega arith) ∙ sym (lt-leb (a + buckets_of n) m (omega arith)))
    (le_or-lt (a + (n + 1)) m)

pub explicit-len : (f : Figures) (b : Span) (m : ℕ) → f ≡ Explicit m → (b.len ≡ 0 → ⊥) → pos_len f b ≡ b.len + 1
explicit-len f b m e h = ap (λ (g : Figures). pos_len g b) e ∙ buckets-some b.len h

module _ (at : Cursor) (f : Figures) (b : Span) (pos neg : ℕ) where
  pub within-no : leb (at.pos + pos_len f b) pos ≡ false → false ≡ within at f b pos neg
  within-no h = sym (ap (λ (t : Bool). t && leb (at.neg + neg_len f) neg) h)

  pub within-then : leb (at.pos + pos_len f b) pos ≡ true → leb (at.neg + neg_len f) neg ≡ within at f b pos neg
  within-then h = sym (ap (λ (t : Bool). t && leb (at.neg + neg_len f) neg) h)

-- ---- words, by the code's match

module _ (p : Point) (b : Span) (fl lo hi su : ℕ) (f : fl ≡ bit p.extremes + 2 * bit (is_shown p.min)) (l : lo ≡ shown_bits p.min)
    (h : hi ≡ shown_bits p.max) (s : su ≡ bits_of p.sum) where
  abbrev last : List ℕ
  last = (bit p.extremes + 2 * bit (is_shown p.min)) ∷ shown_bits p.min ∷ shown_bits p.max ∷ bits_of p.sum ∷ []

  last-is : ◌≡◌ {A = List ℕ} (fl ∷ lo ∷ hi ∷ su ∷ []) last
  last-is i = f i ∷ l i ∷ h i ∷ s i ∷ []

  pub words-by : (g : Figures) → p.figures ≡ g → figures_words g b ++ (fl ∷ lo ∷ hi ∷ su ∷ []) ≡ words_of p b
  words-by g e = ap (λ (u : List ℕ). figures_words g b ++ u) last-is ∙ ap (λ (x : Figures). figures_words x b ++ last) (sym e)

-- ---- copied counts

pub copy-turn : (cs old out : List ℕ) (i : ℕ) → i < length cs → i < length old → out ≡ over (take i cs) old
    → set out i (get_or cs i 0) ≡ over (take (i + 1) cs) old
copy-turn cs old out i h k e =
    let n : length (take i cs) ≡ i = length-take-le i cs (omega arith) in
    let v = get_or cs i 0 in
    ap (λ (l : List ℕ). set l i v) e
    ∙ ap (λ (j : ℕ). set (over (take i cs) old) j v) (sym n)
    ∙ over-snoc (take i cs) old v (omega arith)
    ∙ ap (λ (l : List ℕ). over l old) (sym (take-suc cs i 0 h))
    ∙ ap (λ (j : ℕ). over (take j cs) old) (sym (add-one i))

-- counts laid over a part that they fill
pub part-laid : (a n : ℕ) (ys xs : List ℕ) → length ys ≡ n → a + n ≤ length xs
    → take a xs ++ (over ys (take (a + n - a) (drop a xs)) ++ drop (a + n - a) (drop a xs)) ≡ over_at a ys xs
unfolding over over_at
part-laid a n ys xs e h =
    let w : a + n - a ≡ n = omega arith in
    let q : length (take n (drop a xs)) ≡ n = length-take-le n (drop a xs) (omega (arith, length-drop a xs)) in
    let z : ys ++ drop (length ys) (take n (drop a xs)) ≡ ys ++ [] = ap (λ (j : ℕ). ys ++ drop j (take n (drop a xs))) (e ∙ sym q) ∙ ap (λ (l : List ℕ). ys ++ l) (drop-length (take n (drop a xs))) in
    ap (λ (j : ℕ). take a xs ++ ((ys ++ drop (length ys) (take j (drop a xs))) ++ drop j (drop a xs))) w
    ∙ ap (λ (l : List ℕ). take a xs ++ (l ++ drop n (drop a xs))) (z ∙ append-nil ys)
    ∙ ap (λ (j : ℕ). take a xs ++ (ys ++ drop j (drop a xs))) (sym e)

-- ---- what lies from a place on

-- from the lesser of a place and the end on
module _ {A : Type 0} (xs : List A) (a i : ℕ) (e : i ≡ min a (length xs)) where
  from_is : drop i xs ≡ drop a xs
  from_is =
      ⊎_elim
      (λ (l : a ≤ length xs). let q : i ≡ a = omega (arith, e) in ap (λ (j : ℕ). drop j xs) q)
      (λ (l : length xs < a). drop_of_length-le xs {i = i} (omega (arith, e)) ∙ sym (drop_of_length-le xs {i = a} (omega arith)))
      (le_or-lt a (length xs))

  pub rest-is : (k : ℕ) → take k (take (length xs - i) (drop i xs)) ≡ take k (drop a xs)
  rest-is k = ap (take k) (take_all (length xs - i) (drop i xs) (omega (arith, length-drop i xs)) ∙ from_is)

  -- up to the lesser of so many and the end
  pub some_is : (k n : ℕ) → n ≡ min k (length xs - i) → take (i + n - i) (drop i xs) ≡ take k (drop a xs)
  some_is k n f =
      let w : i + n - i ≡ n = omega arith in
      ap (λ (j : ℕ). take j (drop i xs)) w
      ∙ ⊎_elim
      (λ (l : k ≤ length xs - i). let q : n ≡ k = omega (arith, f) in ap (λ (j : ℕ). take j (drop i xs)) q)
      (λ (l : length xs - i < k). take_all n (drop i xs) (omega (arith, f, length-drop i xs)) ∙ sym (take_all k (drop i xs) (omega (arith, length-drop i xs))))
      (le_or-lt k (length xs - i))
      ∙ ap (take k) from_is
