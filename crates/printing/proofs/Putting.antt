-- Fields and lines put one behind another. Assumes nothing.
use Prim.Native.Nat.{ℕ, zero, suc, ◌+◌, ◌≤◌, ◌<◌}
use mathlib.Core.Path.{◌≡◌, refl, sym, ap, ◌∙◌, subst}
use mathlib.Core.Bool.{Bool}
use mathlib.Core.List.{List, [], ◌∷◌, ◌++◌, map, append_assoc}
use native.Mathlib.Numerals.{add-one}
use native.Mathlib.Omega.{arith}
use lib.Dec.{eqb, eqb-suc-zero}
use lib.ListN.{length, get_or, drop, drop_of_length-le, length-map, get_or-map}
use lib.Seq.{drop-cons}
use Rattle.laws.specs.Pick.{pick}
use Rattle.lines.specs.Gathered.{Text, ◌behind◌}
use Rattle.lines.proofs.Gathering.{then, spelt}
use Rattle.printing.specs.Fields.{each, joined, listed, line}

pub nothing : (t : Text) → t ≡ ([] behind t)
unfolding ◌behind◌
nothing t = refl

-- ---- fields, each behind a byte

each_append : (b : ℕ) (xs ys : List (List ℕ)) → each b (xs ++ ys) ≡ each b xs ++ each b ys
unfolding each
each_append b [] ys = refl
each_append b (x ∷ xs) ys =
    ap (λ (r : List ℕ). b ∷ (x ++ r)) (each_append b xs ys) ∙ ap (λ (r : List ℕ). b ∷ r) (sym (append_assoc x (each b xs) (each b ys)))

pub no_field : (b : ℕ) (t : Text) → t ≡ (each b [] behind t)
unfolding each ◌behind◌
no_field b t = refl

module _ (b : ℕ) (t : Text) {u v : Text} where
  pub a-field : (x : List ℕ) (xs : List (List ℕ)) → u ≡ (b ∷ x behind t) → v ≡ (each b xs behind u) → v ≡ (each b (x ∷ xs) behind t)
  unfolding each
  a-field x xs p q = then (b ∷ x) (each b xs) t p q

  pub fields : (xs ys : List (List ℕ)) → u ≡ (each b xs behind t) → v ≡ (each b ys behind u) → v ≡ (each b (xs ++ ys) behind t)
  fields xs ys p q = spelt (sym (each_append b xs ys)) t (then (each b xs) (each b ys) t p q)

-- a line is its first field, the others behind a space each, and a newline
pub a-line : (x : List ℕ) (xs : List (List ℕ)) (t : Text) {u v w : Text} → u ≡ (x behind t) → v ≡ (each 32 xs behind u) → w ≡ (10 ∷ [] behind v) → w ≡ (line (x ∷ xs) behind t)
unfolding line joined
a-line x xs t p q r = then (x ++ each 32 xs) (10 ∷ []) t (then x (each 32 xs) t p q) r

-- ---- several joined, one after another

-- those from place i on, the byte before the first of them unless it is the first of all
unfoldable pub from : ℕ → List (List ℕ) → ℕ → List ℕ
from b xs i = pick (eqb i 0) (joined b xs) (each b (drop i xs))

pub from_start : (b : ℕ) (xs : List (List ℕ)) (t : Text) → (from b xs 0 behind t) ≡ (joined b xs behind t)
unfolding from pick
from_start b xs t = refl

from_suc : (b : ℕ) (xs : List (List ℕ)) (i : ℕ) → from b xs (suc i) ≡ each b (drop (suc i) xs)
unfolding from pick
from_suc b xs i = ap (λ (t : Bool). pick t (joined b xs) (each b (drop (suc i) xs))) (eqb-suc-zero i)

abbrev comma : ℕ → ℕ → List ℕ
comma b i = pick (eqb i 0) [] (b ∷ [])

comma-suc : (b i : ℕ) → comma b (suc i) ≡ b ∷ []
unfolding pick
comma-suc b i = ap (λ (t : Bool). pick t [] (b ∷ [])) (eqb-suc-zero i)

turn_is : (b : ℕ) (xs : List (List ℕ)) (d : List ℕ) (i : ℕ) → i < length xs → from b xs i ≡ comma b i ++ (get_or xs i d ++ from b xs (suc i))
unfolding from pick joined each
turn_is b [] d i h = absurd (omega arith)
turn_is b (x ∷ xs) d zero h = refl
turn_is b (x ∷ xs) d (suc i) h =
    from_suc b (x ∷ xs) i
    ∙ ap (each b) (drop-cons xs i d (omega arith))
    ∙ ap (λ (r : List ℕ). b ∷ (get_or xs i d ++ r)) (sym (from_suc b (x ∷ xs) (suc i)))
    ∙ ap (λ (r : List ℕ). r ++ (get_or xs i d ++ from b (x ∷ xs) (suc (suc i)))) (sym (comma-suc b i))

end_is : (b : ℕ) (xs : List (List ℕ)) (i : ℕ) → length xs ≤ i → from b xs i ≡ []
unfolding from pick joined each
end_is b [] zero h = refl
end_is b [] (suc i) h = from_suc b [] i
end_is b (x ∷ xs) zero h = absurd (omega arith)
end_is b (x ∷ xs) (suc i) h =
    let l : length xs ≤ i = omega arith in
    from_suc b (x ∷ xs) i ∙ ap (each b) (drop_of_length-le xs l)

-- the texts of a list's elements
module _ {A : Type 0} (f : A → List ℕ) (l : List A) (b i : ℕ) (t : Text) where
  pub joined-turn : (d : A) {u v : Text} → i < length l → u ≡ (pick (eqb i 0) [] (b ∷ []) behind t) → v ≡ (f (get_or l i d) behind u) → (from b (map f l) (i + 1) behind v) ≡ (from b (map f l) i behind t)
  joined-turn d {u} {v} h p q =
      let xs = map f l in
      let n : i < length xs = subst (λ (k : ℕ). i < k) (sym (length-map l f)) h in
      let e = spelt (sym (get_or-map f l i d)) u q in
      sym
      (ap (λ (r : List ℕ). r behind t) (turn_is b xs (f d) i n)
      ∙ sym (then (comma b i) (get_or xs i (f d) ++ from b xs (suc i)) t p (then (get_or xs i (f d)) (from b xs (suc i)) u e refl))
      ∙ ap (λ (k : ℕ). from b xs k behind v) (sym (add-one i)))

  pub joined_end : length l ≤ i → (from b (map f l) i behind t) ≡ t
  joined_end h =
      ap (λ (r : List ℕ). r behind t) (end_is b (map f l) i (subst (λ (k : ℕ). k ≤ i) (sym (length-map l f)) h)) ∙ sym (nothing t)

-- ---- several, `-` if there are none

module _ {A : Type 0} (f : A → List ℕ) where
  pub listed-is : (l : List A) → pick (eqb (length l) 0) (45 ∷ []) [] ++ joined 44 (map f l) ≡ listed (map f l)
  unfolding listed joined pick
  listed-is [] = refl
  listed-is (x ∷ l) = ap (λ (t : Bool). pick t (45 ∷ []) [] ++ joined 44 (map f (x ∷ l))) (eqb-suc-zero (length l))

  pub listed-some : (l : List A) → 0 < length l → joined 44 (map f l) ≡ listed (map f l)
  unfolding listed
  listed-some [] h = absurd (omega arith)
  listed-some (x ∷ l) h = refl
