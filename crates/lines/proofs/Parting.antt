-- A text's parts, found one after another. Assumes nothing.
use Prim.Native.Nat.{ℕ, suc, ◌+◌, ◌≤◌, ◌<◌}
use mathlib.Core.Path.{◌≡◌, refl, sym, ap, ◌∙◌, subst}
use mathlib.Core.Logic.{⊎_elim}
use mathlib.Core.Bool.{Bool, true, false}
use Rattle.std.specs.Prelude.{Option, Some, None}
use mathlib.Core.List.{List, [], ◌∷◌}
use native.Mathlib.Omega.{arith}
use lib.Dec.{eqb}
use lib.ListN.{length, drop, length-drop, drop_of_length-le}
use lib.Seq.{drop-drop}
use Rattle.laws.specs.Pick.{pick}
use Rattle.laws.proofs.Differences.{le_or-lt}
use Rattle.text.specs.Fields.{until}
use Rattle.text.specs.Numbers.{decimal_of, ill_led}
use Rattle.lines.specs.Spelled.{both_of, attribute_of, first_more, parts, attributes_of, word_of, next, put, told, kept}

last_step : (b : ℕ) (bs : List ℕ) → (length bs ≤ length (until 44 bs) → parts bs ≡ until 44 bs ∷ []) → (t : Bool) → suc (length bs) ≤ length (pick t [] (b ∷ until 44 bs)) → pick t ([] ∷ parts bs) (first_more b (parts bs)) ≡ pick t [] (b ∷ until 44 bs) ∷ []
unfolding pick
last_step b bs ih true h = absurd (omega arith)
last_step b bs ih false h = ap (first_more b) (ih (omega arith))

-- no comma stands
parts_last : (bs : List ℕ) → length bs ≤ length (until 44 bs) → parts bs ≡ until 44 bs ∷ []
unfolding parts until
parts_last [] h = refl
parts_last (b ∷ bs) h = last_step b bs (parts_last bs) (eqb b 44) h

Behind : List ℕ → List ℕ → List (List ℕ) → Type 0
Behind bs front ps = ps ≡ front ∷ parts (drop (suc (length front)) bs)

more-step : (b : ℕ) (bs : List ℕ) → (length (until 44 bs) < length bs → Behind bs (until 44 bs) (parts bs)) → (t : Bool) → length (pick t [] (b ∷ until 44 bs)) < suc (length bs) → Behind (b ∷ bs) (pick t [] (b ∷ until 44 bs)) (pick t ([] ∷ parts bs) (first_more b (parts bs)))
unfolding pick Behind
more-step b bs ih true h = refl
more-step b bs ih false h = ap (first_more b) (ih (omega arith))

-- one does
parts_more : (bs : List ℕ) → length (until 44 bs) < length bs → Behind bs (until 44 bs) (parts bs)
unfolding parts until
parts_more [] h = absurd (omega arith)
parts_more (b ∷ bs) h = more-step b bs (parts_more bs) (eqb b 44) h

-- the attributes from a place on
unfoldable pub from : List ℕ → ℕ → List (Option (List ℕ))
from bs i = attributes_of (parts (drop i bs))

-- the part from i on ends at e
module _ (bs : List ℕ) (i e : ℕ) (q : e ≡ i + length (until 44 (drop i bs))) where
  at_last : length bs ≤ e → from bs i ≡ attribute_of (until 44 (drop i bs)) ∷ []
  unfolding from attributes_of
  at_last h =
      let l : length (drop i bs) ≤ length (until 44 (drop i bs)) = omega (arith, q, length-drop i bs) in
      ap attributes_of (parts_last (drop i bs) l)

  at_more : e < length bs → from bs i ≡ attribute_of (until 44 (drop i bs)) ∷ from bs (e + 1)
  unfolding from attributes_of Behind
  at_more h =
      let u = until 44 (drop i bs) in
      let l : length u < length (drop i bs) = omega (arith, q, length-drop i bs) in
      let k : i + suc (length u) ≡ e + 1 = omega (arith, q) in
      ap attributes_of (parts_more (drop i bs) l)
      ∙ ap (λ (r : List ℕ). attribute_of u ∷ attributes_of (parts r)) (drop-drop (suc (length u)) i bs ∙ ap (λ (n : ℕ). drop n bs) k)

-- What is told, and what is kept, of attributes behind n others, given the first of them.
abbrev pub Both : ℕ → List (Option (List ℕ)) → List (List ℕ) → Option ℕ → List (List ℕ) → Type 0
Both n more store g after = (told n more ≡ g) × (kept n more store ≡ after)

first-none : (n : ℕ) (a : Option (List ℕ)) (rest : List (Option (List ℕ))) (store : List (List ℕ)) → a ≡ None → Both n (a ∷ rest) store None store
unfolding told kept
first-none n a rest store p = (ap (λ (x : Option (List ℕ)). told n (x ∷ rest)) p, ap (λ (x : Option (List ℕ)). kept n (x ∷ rest) store) p)

first-is : (n : ℕ) (a : Option (List ℕ)) (rest : List (Option (List ℕ))) (store : List (List ℕ)) (v : List ℕ) → a ≡ Some v → Both n (a ∷ rest) store (told (next n) rest) (kept (next n) rest (put n v store))
unfolding told kept
first-is n a rest store v p = (ap (λ (x : Option (List ℕ)). told n (x ∷ rest)) p, ap (λ (x : Option (List ℕ)). kept n (x ∷ rest) store) p)

-- the same of those from a place on
pub none_here : (bs : List ℕ) (i n : ℕ) (store : List (List ℕ)) → attribute_of (until 44 (drop i bs)) ≡ None → Both n (from bs i) store None store
none_here bs i n store p =
    let e = i + length (until 44 (drop i bs)) in
    ⊎_elim
    (λ (l : length bs ≤ e). subst (λ (r : List (Option (List ℕ))). Both n r store None store) (sym (at_last bs i e refl l)) (first-none n _ [] store p))
    (λ (l : e < length bs). subst (λ (r : List (Option (List ℕ))). Both n r store None store) (sym (at_more bs i e refl l)) (first-none n _ (from bs (e + 1)) store p))
    (le_or-lt (length bs) e)

module _ (bs : List ℕ) (i e n : ℕ) (store : List (List ℕ)) (q : e ≡ i + length (until 44 (drop i bs))) (v : List ℕ) (p : attribute_of (until 44 (drop i bs)) ≡ Some v) where
  pub last-here : length bs ≤ e → Both n (from bs i) store (Some (next n)) (put n v store)
  unfolding told kept
  last-here l =
      subst (λ (r : List (Option (List ℕ))). Both n r store (Some (next n)) (put n v store)) (sym (at_last bs i e q l)) (first-is n _ [] store v p)

  pub more-here : e < length bs → Both n (from bs i) store (told (next n) (from bs (e + 1))) (kept (next n) (from bs (e + 1)) (put n v store))
  more-here l =
      subst (λ (r : List (Option (List ℕ))). Both n r store (told (next n) (from bs (e + 1))) (kept (next n) (from bs (e + 1)) (put n v store))) (sym (at_more bs i e q l)) (first-is n _ (from bs (e + 1)) store v p)

pub no_word : word_of [] ≡ None
unfolding word_of decimal_of ill_led pick
no_word = refl

no_part : attribute_of [] ≡ None
unfolding attribute_of until
no_part = ap (λ (w : Option ℕ). both_of w (word_of [])) no_word

-- an empty part is no attribute
pub none_left : (bs : List ℕ) (i n : ℕ) (store : List (List ℕ)) → length bs ≤ i → Both n (from bs i) store None store
unfolding from attributes_of parts
none_left bs i n store h =
    subst (λ (r : List ℕ). Both n (attributes_of (parts r)) store None store) (sym (drop_of_length-le bs h)) (first-none n (attribute_of []) [] store no_part)

pub kept_same : {m n : ℕ} {a b : List (List ℕ)} (rest : List (Option (List ℕ))) → m ≡ n → a ≡ b → kept m rest a ≡ kept n rest b
kept_same {m} {n} {a} {b} rest p q = ap (λ (k : ℕ). kept k rest a) p ∙ ap (kept n rest) q
