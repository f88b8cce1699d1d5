-- Rows and counts put behind a list that lies over what was lent. Assumes nothing.
use Prim.Native.Nat.{ℕ, ◌<◌}
use mathlib.Core.Path.{◌≡◌, sym, ap, ap₂, ◌∙◌}
use mathlib.Core.List.{List, [], ◌∷◌, ◌++◌, map, map-append, append_assoc}
use native.Mathlib.Omega.{arith}
use lib.ListN.{length, set, drop, length-append, length-map}
use lib.Seq.{take-append_seam, drop-append_seam, drop-drop}
use Rattle.laws.specs.Over.{over}
use Rattle.laws.proofs.Over.{over-snoc}
use Rattle.listing.specs.Listed.{over_at}

pub over-behind-front : {A : Type 0} (a b old : List A) → over_at (length a) b (over a old) ≡ over (a ++ b) old
unfolding over over_at
over-behind-front a b old =
    let r = drop (length a) old in
    ap₂ (λ x y. x ++ (b ++ drop (length b) y)) (take-append_seam a r) (drop-append_seam a r)
    ∙ sym (append_assoc a b (drop (length b) r))
    ∙ ap (λ l. (a ++ b) ++ l) (drop-drop (length b) (length a) old)
    ∙ ap (λ (n : ℕ). (a ++ b) ++ drop n old) (sym (length-append a b))

pub rows_snoc : {A : Type 0} (f : A → List ℕ) (l : List A) (i : A) (old : List (List ℕ)) → length l < length old
    → set (over (map f l) old) (length l) (f i) ≡ over (map f (l ++ (i ∷ []))) old
rows_snoc f l i old h =
    ap (λ (n : ℕ). set (over (map f l) old) n (f i)) (sym (length-map l f))
    ∙ over-snoc (map f l) old (f i) (omega (arith, length-map l f))
    ∙ ap (λ (t : List (List ℕ)). over t old) (sym (map-append f l (i ∷ [])))
