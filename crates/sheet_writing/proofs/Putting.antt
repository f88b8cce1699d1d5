-- The turns and sequels of the functions that put points into records. Assumes nothing.
use Prim.Native.Nat.{ℕ, zero, suc, ◌+◌, ◌-◌, ◌<◌}
use mathlib.Core.Path.{◌≡◌, refl, sym, ap, ap₂, ◌∙◌}
use mathlib.Core.Bool.{true, false}
use mathlib.Core.List.{List, [], ◌∷◌, ◌++◌, map, append-nil}
use native.Mathlib.Omega.{arith}
use lib.ListN.{length, get_or, take, drop, replicate, length-drop, length-map, get_or-map}
use lib.Seq.{length-take-le}
use lib.Ieee.{Float}
use Rattle.laws.specs.Pick.{pick}
use Rattle.floats.specs.Answers.{bits_of}
use Rattle.point.specs.Handing.{Stored, stored_in}
use Rattle.point.specs.declared.Point.{Point}
use Rattle.listing.specs.Listed.{bounds_at, row_at}
use Rattle.listing.specs.declared.Cursor.{Cursor}
use Rattle.listing.specs.declared.Entry.{Entry}
use Rattle.pooling.specs.Entries.{Whole}
use Rattle.pooling.proofs.Whole.{bounds-long}
use Rattle.sheets.specs.Entries.{head_of}
use Rattle.sheet_writing.specs.Inner.{width_at}
use Rattle.records.specs.Records.{padded, width}
use Rattle.records.specs.Inner.{laid, emitted}
use Rattle.records.proofs.Laid.{laid_append, turn-run}
use Rattle.records.proofs.Padded.{padded-is, entry-laid}

-- inside a list the default does not matter
inside : (l : List ℕ) (i a b : ℕ) → i < length l → get_or l i a ≡ get_or l i b
inside [] i a b h = absurd (omega arith)
inside (x ∷ l) zero a b h = refl
inside (x ∷ l) (suc i) a b h = inside l i a b (omega arith)

pub turn_floats : (info n k : ℕ) (xs : List Float) (d : Float) (s₀ s s' : List ℕ) (i : ℕ) → i < length xs
    → s ≡ laid info n k (take i (map bits_of xs)) s₀ → s' ≡ emitted info n (k + i) (bits_of (get_or xs i d)) s
    → s' ≡ laid info n k (take (i + 1) (map bits_of xs)) s₀
turn_floats info n k xs d s₀ s s' i h e f =
    let l : i < length (map bits_of xs) = omega (arith, length-map xs bits_of) in
    let g : bits_of (get_or xs i d) ≡ get_or (map bits_of xs) i 0 = sym (get_or-map bits_of xs i d) ∙ inside (map bits_of xs) i (bits_of d) 0 l in
    turn-run info n k (map bits_of xs) s₀ s s' i l e (f ∙ ap (λ (x : ℕ). emitted info n (k + i) x s) g)

-- a run, and zeros up to whole records
pub run-laid : (info n k m : ℕ) (xs s₀ s₁ s₂ : List ℕ) → length xs ≡ m → s₁ ≡ laid info n k xs s₀
    → s₂ ≡ laid info n (k + m) (replicate (width m - m) 0) s₁ → s₂ ≡ laid info n k (padded xs) s₀
run-laid info n k m xs s₀ s₁ s₂ l a b =
    let z : ℕ → List ℕ = λ (j : ℕ). replicate (width j - j) 0 in
    b
    ∙ ap₂ (λ (j : ℕ) (u : List ℕ). laid info n (k + j) (replicate (width j - j) 0) u) (sym l) a
    ∙ sym (laid_append info n k xs (z (length xs)) s₀)
    ∙ ap (λ (u : List ℕ). laid info n k u s₀) (sym (padded-is xs))

-- a point: row, head, bounds and counts one behind the other
module _ (info n k m : ℕ) (row head bits pos neg s₀ s₁ s₂ s₃ s₄ : List ℕ) where
  pub point-laid : length row ≡ 9 → length head ≡ 12 → length bits ≡ m → s₁ ≡ laid info n k row s₀ → s₂ ≡ laid info n (k + 9) head s₁
      → s₃ ≡ laid info n (k + 21) (padded bits) s₂ → s₄ ≡ laid info n (k + 21 + width m) (padded (pos ++ neg)) s₃
      → s₄ ≡ laid info n k (row ++ (head ++ (padded bits ++ padded (pos ++ neg)))) s₀
  point-laid r h l a b c d =
      let z : length bits + 0 ≡ m = omega (arith, l) in
      entry-laid info n k (k + 21 + width m) row head bits [] pos neg s₀ s₁ s₂ s₃ s₄ r h refl a b
      (c ∙ ap (λ (u : List ℕ). laid info n (k + 21) (padded u) s₂) (sym (append-nil bits)))
      (ap (λ (u : ℕ). k + 21 + width u) (sym z)) d

-- the words of a point, as `put_point` has them
abbrev words_with : List ℕ → Stored → List ℕ
words_with row p = row ++ (head_of p ++ (padded (map bits_of p.bounds) ++ padded (p.pos ++ p.neg)))

pub found-laid : (info n k : ℕ) (row : List ℕ) (p : Point) (bs bs' : List Float) (xs xs' ys ys' s s' : List ℕ) → bs ≡ bs' → xs ≡ xs' → ys ≡ ys'
    → s' ≡ laid info n k (words_with row (stored_in p bs xs ys)) s → s' ≡ laid info n k (words_with row (stored_in p bs' xs' ys')) s
found-laid info n k row p bs bs' xs xs' ys ys' s s' a b c h = h ∙ (λ i. laid info n k (words_with row (stored_in p (a i) (b i) (c i))) s)

-- as long as the cursors say
found_rows : (at : Cursor) (e : Entry) (pos neg : List ℕ) (n : ℕ) → Whole at e (length pos) (length neg) n
    → (length (row_at at e.next false pos neg) ≡ e.next.pos - at.pos) × (length (row_at at e.next true pos neg) ≡ e.next.neg - at.neg)
unfolding pick
found_rows at e pos neg n w = (
  length-take-le (e.next.pos - at.pos) (drop at.pos pos) (omega (arith, length-drop at.pos pos, w.pos_end)),
  length-take-le (e.next.neg - at.neg) (drop at.neg neg) (omega (arith, length-drop at.neg neg, w.neg_end)),
)

pub found-width : (at : Cursor) (e : Entry) (pos neg xs ys : List ℕ) (bounds bs : List Float) → Whole at e (length pos) (length neg) (length bounds)
    → bs ≡ bounds_at e.bounds bounds → xs ≡ row_at at e.next false pos neg → ys ≡ row_at at e.next true pos neg
    → 21 + (width (length bs) + width (length xs + length ys)) ≡ width_at at e
found-width at e pos neg xs ys bounds bs w b x y =
    let r = found_rows at e pos neg (length bounds) w in
    ap₂ (λ (u v : ℕ). 21 + (width u + width v)) (ap length b ∙ bounds-long e.bounds bounds w.bounds) (ap₂ ◌+◌ (ap length x ∙ r.0) (ap length y ∙ r.1))
