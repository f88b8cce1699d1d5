-- Places whose sets have the same keys: what one pass over them tells. Assumes nothing.
use Rattle.std.specs.Prelude.{Some}
use Rattle.std.proofs.Common.{◌≡◌, ℕ, zero, suc, ◌+◌, ◌-◌, ◌%◌, ◌<◌, ◌≤◌, Bool, true, false, ◌&&◌, ◌||◌, eqb, ltb, leb, List, [], get_or, sym, refl, ap, ◌∙◌, subst, ⊎_elim, eq-or-lt_of_le, add-one, arith, ltb-false, ltb-true, le-leb, leb-false, leb-true}
use Prim.Native.Nat.{Ordering}
use borrow.Author.Tests.{lt-leb, eqb-false}
use lib.Bits.{bit_xor}
use Rattle.laws.proofs.Cases.{and-true}
use Rattle.tally.specs.Sets.{cmp}
use Rattle.sets.specs.Rows.{size, set_of, soundb, below}
use Rattle.sets.proofs.Alls.{allb-yes}
use Rattle.directory.proofs.Bitwise.{joined-each, word_same, size_same, sound-same}
use Rattle.sets.proofs.Keyed.{sound-few}
use Rattle.sets.proofs.Plains.{plain-many}
use Rattle.directory.specs.View.{plainly}
use Rattle.directory.specs.Inner.{placed, step_at, joined, SameKeys, row_at, Told, Alike}
use Rattle.directory.proofs.Checks.{some, plainly-more, placed-yes, step-test}

-- a number from 1 on is at most `used` where the one before is below it, and 0 wraps
pub named-is : (r q used : ℕ) → (r + 1) % 18446744073709551616 ≡ q → r < 18446744073709551616 → used < 18446744073709551616 → ltb r used ≡ (leb 1 q && leb q used)
named-is r q used e h k = go (ltb r used) (leb 1 q) refl refl
  where
    go : (b c : Bool) → ltb r used ≡ b → leb 1 q ≡ c → b ≡ (c && leb q used)
    go true true u v = let l = ltb-true r used u in sym (le-leb q used (omega arith))
    go true false u v = let l = ltb-true r used u in let m = leb-false 1 q v in absurd (omega arith)
    go false true u v = let l = ltb-false r used u in let m = leb-true 1 q v in sym (lt-leb q used (omega arith))
    go false false u v = refl

pub in-range : (used q : ℕ) (r : Bool) → r ≡ (leb 1 q && leb q used) → r ≡ true → (1 ≤ q) × (q ≤ used)
in-range used q r e t = let c = and-true (leb 1 q) (leb q used) (sym e ∙ t) in (leb-true 1 q c.0, leb-true q used c.1)

-- the bits d hold those in which slot x differs from the first one
abbrev pub Held : List (List ℕ) → List ℕ → ℕ → Type 0
Held sets d x = (j : ℕ) → j < 9 → bit_xor (get_or (get_or sets x []) j 0) (get_or (get_or sets 1 []) j 0) ≤ get_or d j 0

-- a turn: one slot's own bits are joined, and those of slots before it are kept
module _ (sets : List (List ℕ)) (d : List ℕ) (n : ℕ) (r : List ℕ) (e : r ≡ joined d (get_or sets n []) (get_or sets 1 [])) where
  pub held_new : Held sets r n
  held_new j h = subst (λ (y : List ℕ). bit_xor (get_or (get_or sets n []) j 0) (get_or (get_or sets 1 []) j 0) ≤ get_or y j 0) (sym e) (joined-each d (get_or sets n []) (get_or sets 1 []) j h).1

  pub held-old : (x : ℕ) → Held sets d x → Held sets r x
  held-old x w j h = subst (λ (y : List ℕ). bit_xor (get_or (get_or sets x []) j 0) (get_or (get_or sets 1 []) j 0) ≤ get_or y j 0) (sym e) (up _ _ _ (w j h) (joined-each d (get_or sets n []) (get_or sets 1 []) j h).0)
    where
      up : (a b c : ℕ) → a ≤ b → b ≤ c → a ≤ c
      up a b c h k = omega arith

-- what is known of a place that was passed
abbrev pub Passed : ℕ → List (List ℕ) → List ℕ → ℕ → List ℕ → ℕ → Type 0
Passed used sets order from d k =
    (1 ≤ get_or order k 0) × (get_or order k 0 ≤ used) × Held sets d (get_or order k 0) × (1 ≤ k → Told (row_at sets order (k - 1)) (row_at sets order k) from)

pub passed-more : (used : ℕ) (sets : List (List ℕ)) (order : List ℕ) (from : ℕ) (d r : List ℕ) (i : ℕ) → r ≡ joined d (row_at sets order i) (get_or sets 1 [])
    → ((k : ℕ) → k < i → Passed used sets order from d k) → 1 ≤ get_or order i 0 → get_or order i 0 ≤ used
    → (1 ≤ i → Told (row_at sets order (i - 1)) (row_at sets order i) from) → (k : ℕ) → k < i + 1 → Passed used sets order from r k
passed-more used sets order from d r i e w a b t k h =
    ⊎_elim (λ q. subst (Passed used sets order from r) (sym q) (a, b, held_new sets d (get_or order i 0) r e, t))
    (λ u. let v = w k u in (v.0, v.1, held-old sets d (get_or order i 0) r e (get_or order k 0) v.2, v.3))
    (eq-or-lt_of_le (let z : k ≤ i = omega arith in z))

-- where the keys were the same and the first slot is sound, the places are alike
pub alike_is : (used : ℕ) (sets : List (List ℕ)) (order : List ℕ) (from : ℕ) (d : List ℕ) → ((k : ℕ) → k < used → Passed used sets order from d k) → SameKeys d
    → soundb (get_or sets 1 []) ≡ true → from ≤ 8 → ((j : ℕ) → j < from → get_or d j 0 ≡ 0) → Alike used sets order from
alike_is used sets order from d w s sound few e =
    record {
      named = λ k h. ((w k h).0, (w k h).1);
      sound = λ k h. sound-same (row_at sets order k) (get_or sets 1 []) d (w k h).2 s sound;
      long = λ k h. size_same (row_at sets order k) (get_or sets 1 []) d (w k h).2 s;
      word = λ k h j l. word_same (row_at sets order k) (get_or sets 1 []) d (w k h).2 j (omega arith) (e j l);
      told = λ k h. (w k h).3;
    }

-- and so they ascend, and name plain sets
module _ (used : ℕ) (sets : List (List ℕ)) (order : List ℕ) (from : ℕ) (a : Alike used sets order from) (many : 2 ≤ size (get_or sets 1 [])) (part : from < size (get_or sets 1 [])) where
  lesser : (k : ℕ) → k < used → 1 ≤ k → cmp (set_of (row_at sets order (k - 1))) (set_of (row_at sets order k)) ≡ Ordering.lt
  lesser k h l =
      let n = a.long k h in
      let m = a.long (k - 1) (omega arith) in
      let f = sound-few (row_at sets order (k - 1)) (a.sound (k - 1) (omega arith)) in
      a.told k h l (omega (arith, m, part)) f (omega (arith, n, part)) (λ j u. a.word (k - 1) (omega arith) j u ∙ sym (a.word k h j u))

  step : (k : ℕ) → k < used → step_at sets order used k ≡ true
  step k h = step-test sets order used k (get_or order (k - 1) 0) (a.named k h).0 (a.named k h).1 (λ n. let u = some k n in (refl, (a.named (k - 1) (omega arith)).0)) true (go (eqb k 0) refl)
    where
      go : (b : Bool) → eqb k 0 ≡ b → true ≡ (soundb (row_at sets order k) && (b || below (cmp (set_of (row_at sets order (k - 1))) (set_of (row_at sets order k)))))
      go true e = rw (a.sound k h)
      go false e = rw (a.sound k h, lesser k h (some k (eqb-false k 0 e)))

  all_plain : (i : ℕ) → i ≤ used → plainly sets order i ≡ i
  all_plain zero h = refl
  all_plain (suc i) h =
      let m = a.long i (omega arith) in
      let q = plain-many (row_at sets order i) (omega (arith, m, many)) (λ z. absurd (omega (arith, m, many, z))) in
      ap (plainly sets order) (sym (add-one i)) ∙ plainly-more sets order i (a.named i (omega arith)).0 ∙ sum _ _ (all_plain i (omega arith)) q
    where
      sum : (x y : ℕ) → x ≡ i → y ≡ 1 → x + y ≡ suc i
      sum x y p q = omega arith

  pub placed_alike : placed used sets order ≡ Some used
  placed_alike = placed-yes used sets order (allb-yes (step_at sets order used) used step) ∙ ap (λ (k : ℕ). Some k) (all_plain used (omega arith))
