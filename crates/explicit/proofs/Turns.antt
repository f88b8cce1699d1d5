-- What a turn of each loop over bounds and counts does. Assumes nothing.
use Prim.Native.Nat.{ℕ, suc, ◌+◌, ◌-◌, ◌≤◌, ◌<◌}
use mathlib.Core.Path.{◌≡◌, refl, ap, sym, ◌∙◌}
use mathlib.Core.Bool.{Bool, true, false, ◌&&◌, and-false}
use mathlib.Core.List.{List, [], ◌∷◌, ◌++◌, append_assoc}
use native.Mathlib.Numerals.{add-one}
use native.Mathlib.Omega.{arith}
use lib.ListN.{length, take, get_or}
use lib.Seq.{take-suc, length-take-le}
use lib.Ieee.{Float, nan, lt, eq}
use Rattle.laws.specs.Counting.{bit}
use Rattle.points.specs.Explicit.{rising, same_bounds, bucket_of, bucket_count}
use Rattle.points.proofs.Bounds.{rising-next, same_next, bucket-next}

pub take_next : {A : Type 0} (xs : List A) (i : ℕ) (d : A) → i < length xs → take (i + 1) xs ≡ take i xs ++ get_or xs i d ∷ []
take_next xs i d h = ap (λ (n : ℕ). take n xs) (add-one i) ∙ take-suc xs i d h

pub rising-turn : (bs : List Float) (i : ℕ) (ok r : Bool) → 1 ≤ i → i < length bs → ok ≡ rising (take i bs) → r ≡ (ok && lt (get_or bs (i - 1) nan) (get_or bs i nan))
    → r ≡ rising (take (i + 1) bs)
rising-turn bs i ok r g h e f =
    let c = get_or bs (i - 1) nan in
    let d = get_or bs i nan in
    let q : i ≡ i - 1 + 1 = omega arith in
    let p : take i bs ≡ take (i - 1) bs ++ c ∷ [] = ap (λ (n : ℕ). take n bs) q ∙ take_next bs (i - 1) nan (omega arith) in
    let s : take (i + 1) bs ≡ take (i - 1) bs ++ c ∷ d ∷ [] = take_next bs i nan h ∙ ap (λ l. l ++ d ∷ []) p ∙ append_assoc (take (i - 1) bs) (c ∷ []) (d ∷ []) in
    f ∙ ap (λ t. t && lt c d) (e ∙ ap rising p) ∙ sym (rising-next (take (i - 1) bs) c d) ∙ ap rising (sym s)

pub rising-one : (bs : List Float) → true ≡ rising (take 1 bs)
unfolding rising
rising-one [] = refl
rising-one (b ∷ bs) = refl

pub same_turn : (cs bs : List Float) (i : ℕ) (ok r : Bool) → length cs ≡ length bs → i < length cs → ok ≡ same_bounds (take i cs) (take i bs)
    → r ≡ (ok && eq (get_or cs i nan) (get_or bs i nan)) → r ≡ same_bounds (take (i + 1) cs) (take (i + 1) bs)
same_turn cs bs i ok r l h e f =
    let a = get_or cs i nan in
    let b = get_or bs i nan in
    f ∙ ap (λ t. t && eq a b) e
    ∙ sym (same_next (take i cs) (take i bs) a b (length-take-le i cs (omega arith) ∙ sym (length-take-le i bs (omega arith))))
    ∙ (λ j. same_bounds (sym (take_next cs i nan h) j) (sym (take_next bs i nan (omega arith)) j))

pub same-other : (cs bs : List Float) → (length cs ≡ length bs → ⊥) → false ≡ same_bounds cs bs
unfolding same_bounds
same-other [] [] n = absurd (n refl)
same-other [] (b ∷ bs) n = refl
same-other (a ∷ cs) [] n = refl
same-other (a ∷ cs) (b ∷ bs) n = sym (ap (λ t. eq a b && t) (sym (same-other cs bs (λ e. n (ap suc e)))) ∙ and-false (eq a b))

pub same_none : (cs bs : List Float) → true ≡ same_bounds (take 0 cs) (take 0 bs)
unfolding same_bounds
same_none cs bs = refl

pub bucket-turn : (bs : List Float) (v : Float) (i k r : ℕ) → i < length bs → k ≡ bucket_of (take i bs) v → r ≡ bit (lt (get_or bs i nan) v)
    → k + r ≡ bucket_of (take (i + 1) bs) v
bucket-turn bs v i k r h e f =
    (λ j. e j + f j) ∙ sym (bucket-next (take i bs) (get_or bs i nan) v) ∙ ap (λ l. bucket_of l v) (sym (take_next bs i nan h))

pub count_none : (bs : List Float) → length bs ≡ 0 → 0 ≡ bucket_count bs
count_none [] h = refl
count_none (b ∷ bs) h = absurd (omega arith)

pub count-some : (bs : List Float) → (length bs ≡ 0 → ⊥) → length bs + 1 ≡ bucket_count bs
count-some [] h = absurd (h refl)
count-some (b ∷ bs) h = add-one (length (b ∷ bs))
