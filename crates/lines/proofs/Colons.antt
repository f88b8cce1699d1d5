-- A part's key and value, parted by its first colon. Assumes nothing.
use Prim.Native.Nat.{ℕ, suc, ◌+◌, ◌*◌, ◌≤◌, ◌<◌}
use mathlib.Core.Path.{◌≡◌, refl, sym, ap, ◌∙◌, subst}
use mathlib.Core.Logic.{⊎_elim}
use mathlib.Core.Bool.{Bool, true, false}
use Rattle.std.specs.Prelude.{Option, Some, None}
use mathlib.Core.List.{List, [], ◌∷◌}
use native.Mathlib.Omega.{arith}
use native.Mathlib.Numerals.{add-one}
use lib.Dec.{eqb}
use lib.ListN.{length, drop, length-drop, drop_of_length-le}
use lib.Seq.{drop-drop}
use borrow.Author.Tests.{le-leb, eqb-true}
use Rattle.laws.proofs.Bools.{flag, pick_true, pick-false}
use Rattle.laws.proofs.Differences.{le_or-lt}
use Rattle.text.specs.Fields.{until}
use Rattle.text.specs.Numbers.{digit_of, spelled_from}
use Rattle.text.proofs.Pairing.{pick-none}
use Rattle.lines.specs.Spelled.{word_in, word_of, both_of, attribute_of}
use Rattle.lines.specs.declared.attributes.Part.{Part}
use Rattle.lines.specs.Scanned.{after, attribute, part_end, Parted}
use Rattle.lines.proofs.Scanning.{none-spelled, comma-mark}
use Rattle.lines.proofs.Parting.{no_word}

stop-here : (m b : ℕ) (bs : List ℕ) → eqb b m ≡ true → until m (b ∷ bs) ≡ []
unfolding until
stop-here m b bs h = pick_true _ _ _ h

go_on : (m b : ℕ) (bs : List ℕ) → eqb b m ≡ false → until m (b ∷ bs) ≡ b ∷ until m bs
unfolding until
go_on m b bs h = pick-false _ _ _ h

until_nil : (m : ℕ) → until m [] ≡ []
unfolding until
until_nil m = refl

until-le : (m : ℕ) (bs : List ℕ) → length (until m bs) ≤ length bs
until-le m [] = omega (arith, ap length (until_nil m))
until-le m (b ∷ bs) =
    ⊎_elim
    (λ (e : eqb b m ≡ true). omega (arith, ap length (stop-here m b bs e)))
    (λ (e : eqb b m ≡ false). omega (arith, ap length (go_on m b bs e), until-le m bs))
    (flag (eqb b m))

-- a text, what stands before its first colon, and what before its first comma, where the colon comes first
Split : List ℕ → List ℕ → List ℕ → Type 0
Split xs u p =
    (until 58 p ≡ u)
    × (drop (suc (length u)) p ≡ until 44 (drop (suc (length u)) xs))
    × (length u < length xs → length p ≡ suc (length u) + length (until 44 (drop (suc (length u)) xs)))

split_as : (xs u v p q : List ℕ) → u ≡ v → p ≡ q → Split xs v q → Split xs u p
split_as xs u v p q e f s = subst (λ (x : List ℕ). Split xs x p) (sym e) (subst (λ (x : List ℕ). Split xs v x) (sym f) s)

-- the same list, with one byte before it
Clear : List ℕ → Type 0
Clear u = length u ≤ length (until 44 u)

split_step : (b : ℕ) (xs : List ℕ) → (Clear (until 58 xs) → Split xs (until 58 xs) (until 44 xs)) → Clear (until 58 (b ∷ xs)) → (s t : Bool) → eqb b 58 ≡ s → eqb b 44 ≡ t → Split (b ∷ xs) (until 58 (b ∷ xs)) (until 44 (b ∷ xs))
unfolding Split Clear
split_step b xs ih h true true e f = absurd (omega (arith, eqb-true b 58 e, eqb-true b 44 f))
split_step b xs ih h true false e f =
    split_as (b ∷ xs) (until 58 (b ∷ xs)) [] (until 44 (b ∷ xs)) (b ∷ until 44 xs) (stop-here 58 b xs e) (go_on 44 b xs f) (stop-here 58 b (until 44 xs) e, refl, λ l. omega arith)
split_step b xs ih h false true e f =
    let u = go_on 58 b xs e in
    absurd (omega (arith, h, ap length u, ap (λ (x : List ℕ). length (until 44 x)) u, ap length (stop-here 44 b (until 58 xs) f)))
split_step b xs ih h false false e f =
    let u = go_on 58 b xs e in
    let k : Clear (until 58 xs) = omega (arith, h, ap length u, ap (λ (x : List ℕ). length (until 44 x)) u, ap length (go_on 44 b (until 58 xs) f)) in
    let s = ih k in
    split_as (b ∷ xs) (until 58 (b ∷ xs)) (b ∷ until 58 xs) (until 44 (b ∷ xs)) (b ∷ until 44 xs) u (go_on 44 b xs f)
    (go_on 58 b (until 44 xs) e ∙ ap (λ (x : List ℕ). b ∷ x) s.0, s.1, λ l. omega (arith, s.2 (omega (arith, l))))

nil-split : Split [] (until 58 []) (until 44 [])
unfolding Split until
nil-split = (refl, refl, λ l. absurd (omega (arith, l)))

split : (xs : List ℕ) → Clear (until 58 xs) → Split xs (until 58 xs) (until 44 xs)
split [] h = nil-split
split (b ∷ xs) h = split_step b xs (split xs) h (eqb b 58) (eqb b 44) refl refl

-- where the comma comes first there is no colon before it
first_step : (b : ℕ) (xs : List ℕ) → (length (until 44 (until 58 xs)) < length (until 58 xs) → until 58 (until 44 xs) ≡ until 44 xs) → length (until 44 (until 58 (b ∷ xs))) < length (until 58 (b ∷ xs)) → (s t : Bool) → eqb b 58 ≡ s → eqb b 44 ≡ t → until 58 (until 44 (b ∷ xs)) ≡ until 44 (b ∷ xs)
first_step b xs ih h true t e f = absurd (omega (arith, h, ap length (stop-here 58 b xs e)))
first_step b xs ih h false true e f =
    let p = stop-here 44 b xs f in
    ap (until 58) p ∙ until_nil 58 ∙ sym p
first_step b xs ih h false false e f =
    let u = go_on 58 b xs e in
    let p = go_on 44 b xs f in
    let k : length (until 44 (until 58 xs)) < length (until 58 xs) = omega (arith, h, ap length u, ap (λ (x : List ℕ). length (until 44 x)) u, ap length (go_on 44 b (until 58 xs) f)) in
    ap (until 58) p ∙ go_on 58 b (until 44 xs) e ∙ ap (λ (x : List ℕ). b ∷ x) (ih k) ∙ sym p

comma-first : (xs : List ℕ) → length (until 44 (until 58 xs)) < length (until 58 xs) → until 58 (until 44 xs) ≡ until 44 xs
comma-first [] h = absurd (omega (arith, h, ap length (until_nil 58)))
comma-first (b ∷ xs) h = first_step b xs (comma-first xs) h (eqb b 58) (eqb b 44) refl refl

-- a text with a comma is no number
comma_spells : (x : ℕ) (u : List ℕ) → length (until 44 u) < length u → spelled_from 10 x u ≡ None
unfolding spelled_from
comma_spells x [] h = absurd (omega arith)
comma_spells x (b ∷ u) h =
    ⊎_elim
    (λ (e : eqb b 44 ≡ true). pick_true _ _ _ (le-leb 10 (digit_of b) (subst (λ (n : ℕ). 10 ≤ digit_of n) (sym (eqb-true b 44 e)) comma-mark)))
    (λ (e : eqb b 44 ≡ false). pick-none _ _ (pick-none _ _ (comma_spells (x * 10 + digit_of b) u (omega (arith, h, ap length (go_on 44 b u e))))))
    (flag (eqb b 44))

comma-none : (u : List ℕ) → length (until 44 u) < length u → word_of u ≡ None
comma-none u h = none-spelled u (ap word_in (comma_spells 0 u h))

none-not-is : (w : Option ℕ) (x : ℕ) → w ≡ None → w ≡ Some x → ⊥
none-not-is w x p q = let z : ◌≡◌ {A = ℕ} 0 1 = cc in omega arith

both-none : (w : Option ℕ) → both_of w None ≡ None
both-none None = refl
both-none (Some x) = refl

-- without a value there is no attribute
valueless : (p : List ℕ) → length p ≤ length (until 58 p) + 1 → attribute_of p ≡ None
unfolding attribute_of
valueless p h =
    ap (λ (r : List ℕ). both_of (word_of (until 58 p)) (word_of r)) (drop_of_length-le p h)
    ∙ ap (both_of (word_of (until 58 p))) no_word
    ∙ both-none (word_of (until 58 p))

keyless : (p u : List ℕ) → until 58 p ≡ u → word_of u ≡ None → attribute_of p ≡ None
unfolding attribute_of
keyless p u e k = ap (λ (w : Option ℕ). both_of w (word_of (drop (length (until 58 p) + 1) p))) (ap word_of e ∙ k)

pub no_key : (xs : List ℕ) → word_of (until 58 xs) ≡ None → attribute_of (until 44 xs) ≡ None
unfolding Clear Split
no_key xs k =
    ⊎_elim
    (λ (h : length (until 58 xs) ≤ length (until 44 (until 58 xs))). keyless (until 44 xs) (until 58 xs) (split xs h).0 k)
    (λ (h : length (until 44 (until 58 xs)) < length (until 58 xs)). valueless (until 44 xs) (omega (arith, ap length (comma-first xs h))))
    (le_or-lt (length (until 58 xs)) (length (until 44 (until 58 xs))))

-- a key has no comma
clear : (u : List ℕ) (a : ℕ) → word_of u ≡ Some a → Clear u
unfolding Clear
clear u a k =
    ⊎_elim
    (λ (h : length u ≤ length (until 44 u)). h)
    (λ (h : length (until 44 u) < length u). absurd (none-not-is (word_of u) a (comma-none u h) k))
    (le_or-lt (length u) (length (until 44 u)))

-- A part from a place on whose key ends at a colon.
module _ (bs : List ℕ) (from colon a : ℕ) (k : word_of (until 58 (drop from bs)) ≡ Some a) (q : colon ≡ from + length (until 58 (drop from bs))) where
  pub at-end : from ≤ length bs → length bs ≤ colon → attribute_of (until 44 (drop from bs)) ≡ None
  unfolding Split
  at-end g h =
      let xs = drop from bs in
      let s = split xs (clear (until 58 xs) a k) in
      valueless (until 44 xs) (omega (arith, q, length-drop from bs, until-le 44 xs, ap length s.0))

  pub at_value : colon < length bs → (attribute_of (until 44 (drop from bs)) ≡ both_of (Some a) (word_of (until 44 (drop (colon + 1) bs)))) × (from + length (until 44 (drop from bs)) ≡ colon + 1 + length (until 44 (drop (colon + 1) bs)))
  unfolding Split attribute_of
  at_value h =
      let xs = drop from bs in
      let u = until 58 xs in
      let s = split xs (clear u a k) in
      let n : from + suc (length u) ≡ colon + 1 = omega (arith, q) in
      let d : drop (suc (length u)) xs ≡ drop (colon + 1) bs = drop-drop (suc (length u)) from bs ∙ ap (λ (i : ℕ). drop i bs) n in
      let l : length u < length xs = omega (arith, q, length-drop from bs) in
      let v : drop (length (until 58 (until 44 xs)) + 1) (until 44 xs) ≡ until 44 (drop (colon + 1) bs) =
      ap (λ (x : List ℕ). drop (length x + 1) (until 44 xs)) s.0 ∙ ap (λ (i : ℕ). drop i (until 44 xs)) (add-one (length u)) ∙ s.1 ∙ ap (until 44) d in (
        ap (λ (x : List ℕ). both_of (word_of (until 58 (until 44 xs))) (word_of x)) v ∙ ap (λ (w : Option ℕ). both_of w (word_of (until 44 (drop (colon + 1) bs)))) (ap word_of s.0 ∙ k),
        omega (arith, q, s.2 l, ap (λ (x : List ℕ). length (until 44 x)) d),
      )

pub parted-none : (u : List ℕ) (from : ℕ) (r : Option Part) → r ≡ None → attribute_of u ≡ None → Parted u from (attribute r) (part_end r)
parted-none u from r p k = (ap attribute p ∙ sym k, ap part_end p ∙ sym (ap (λ (x : Option Part). after (attribute x) (from + length u)) p))
