-- Runs laid one behind the other. Assumes nothing.
use Prim.Native.Nat.{ℕ, suc, ◌+◌, ◌-◌, ◌*◌, ◌/◌, ◌≤◌}
use mathlib.Core.Path.{◌≡◌, refl, sym, ap, ap₂, ◌∙◌}
use mathlib.Core.List.{List, [], ◌∷◌, ◌++◌, append-nil}
use native.Mathlib.Omega.{arith}
use lib.ListN.{length, replicate, length-append}
use Rattle.records.specs.Records.{padded, width}
use Rattle.records.specs.Inner.{laid, emitted, Room}
use Rattle.records.proofs.Records.{length-padded}
use Rattle.records.proofs.Laid.{laid_append}

pub room-kept : (info n : ℕ) (s s' : List ℕ) → Room info n s → length s' ≡ length s → Room info n s'
room-kept info n s s' r e = record { small = r.small; few = r.few; long = omega (arith, r.long, e) }

pub width-le : (n : ℕ) → n ≤ width n
unfolding width
width-le n = omega arith

pub padded-is : (xs : List ℕ) → padded xs ≡ xs ++ replicate (width (length xs) - length xs) 0
unfolding padded width
padded-is [] = refl
padded-is (a ∷ []) = refl
padded-is (a ∷ b ∷ []) = refl
padded-is (a ∷ b ∷ c ∷ xs) =
    let e : (length xs + 2) / 3 * 3 - length xs ≡ (suc (suc (suc (length xs))) + 2) / 3 * 3 - suc (suc (suc (length xs))) = omega arith in
    ap (λ (l : List ℕ). a ∷ b ∷ c ∷ l) (padded-is xs ∙ ap (λ (k : ℕ). xs ++ replicate k 0) e)

module _ (info n k : ℕ) (xs ys s₀ s₁ s₂ s₃ : List ℕ) where
  pub rows-laid : s₁ ≡ laid info n k xs s₀ → s₂ ≡ laid info n (k + length xs) ys s₁
      → s₃ ≡ laid info n (k + (length xs + length ys)) (replicate (width (length xs + length ys) - (length xs + length ys)) 0) s₂
      → s₃ ≡ laid info n k (padded (xs ++ ys)) s₀
  rows-laid a b c =
      let m = length xs + length ys in
      let z : List ℕ = replicate (width m - m) 0 in
      let l : length (xs ++ ys) ≡ m = length-append xs ys in
      let p : padded (xs ++ ys) ≡ (xs ++ ys) ++ z = padded-is (xs ++ ys) ∙ ap (λ (j : ℕ). (xs ++ ys) ++ replicate (width j - j) 0) l in
      c
      ∙ ap (laid info n (k + m) z) (b ∙ ap (laid info n (k + length xs) ys) a ∙ sym (laid_append info n k xs ys s₀))
      ∙ ap (λ (j : ℕ). laid info n (k + j) z (laid info n k (xs ++ ys) s₀)) (sym l)
      ∙ sym (laid_append info n k (xs ++ ys) z s₀)
      ∙ ap (λ (u : List ℕ). laid info n k u s₀) (sym p)

pub header-laid : (info n a b : ℕ) (s₀ s₁ s₂ s₃ : List ℕ) → s₁ ≡ emitted info n 0 a s₀ → s₂ ≡ emitted info n 1 b s₁ → s₃ ≡ emitted info n 2 0 s₂
    → s₃ ≡ laid info n 0 (a ∷ b ∷ 0 ∷ []) s₀
unfolding laid
header-laid info n a b s₀ s₁ s₂ s₃ p q r = r ∙ ap (emitted info n 2 0) (q ∙ ap (emitted info n 1 b) p)

module _ (info n k j : ℕ) (set head bounds none first second s₀ s₁ s₂ s₃ s₄ : List ℕ) where
  pub entry-laid : length set ≡ 9 → length head ≡ 12 → none ≡ [] → s₁ ≡ laid info n k set s₀ → s₂ ≡ laid info n (k + 9) head s₁
      → s₃ ≡ laid info n (k + 21) (padded (bounds ++ none)) s₂ → j ≡ k + 21 + width (length bounds + length none)
      → s₄ ≡ laid info n j (padded (first ++ second)) s₃
      → s₄ ≡ laid info n k (set ++ (head ++ (padded bounds ++ padded (first ++ second)))) s₀
  entry-laid e f z a b c d g =
      let P = padded bounds in
      let Q = padded (first ++ second) in
      let x : bounds ++ none ≡ bounds = ap (λ (l : List ℕ). bounds ++ l) z ∙ append-nil bounds in
      let y : length none ≡ 0 = ap length z in
      let i1 : k + 9 ≡ k + length set = omega arith in
      let i2 : k + 21 ≡ k + length set + length head = omega arith in
      let i3 : j ≡ k + length set + length head + length P = omega (arith, length-padded bounds, y, ap width (width_arg y)) in
      g
      ∙ ap₂ (λ (u : ℕ) (v : List ℕ). laid info n u Q v) i3
      (c ∙ ap₂ (λ (u : ℕ) (v : List ℕ). laid info n u (padded v) s₂) i2 x
      ∙ ap (laid info n (k + length set + length head) P) (b ∙ ap₂ (λ (u : ℕ) (v : List ℕ). laid info n u head v) i1 a))
      ∙ sym (laid_append info n (k + length set + length head) P Q (laid info n (k + length set) head (laid info n k set s₀)))
      ∙ sym (laid_append info n (k + length set) head (P ++ Q) (laid info n k set s₀))
      ∙ sym (laid_append info n k set (head ++ (P ++ Q)) s₀)
    where
      width_arg : length none ≡ 0 → length bounds + length none ≡ length bounds
      width_arg y = omega arith
