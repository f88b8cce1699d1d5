-- What the least of several numbers says of a test that asks for so many. Assumes nothing.
use Prim.Native.Nat.{ℕ, ◌≤◌, ◌<◌, min}
use mathlib.Core.Path.{◌≡◌, refl, ap, sym, ◌∙◌}
use mathlib.Core.Logic.{⊎_elim}
use mathlib.Core.Bool.{Bool, true, false, ◌&&◌, and_assoc}
use native.Mathlib.Omega.{arith}
use lib.Dec.{leb}
use borrow.Author.Tests.{le-leb, lt-leb, leb-true, leb-false}
use Rattle.laws.proofs.Bools.{flag}

module _ (a b : ℕ) where
  pub lesser-first : a ≤ b → a ≡ min a b
  lesser-first h = omega arith

  pub lesser-second : b < a → b ≡ min a b
  lesser-second h = omega arith

  module _ (n : ℕ) where
    up : a ≤ b → leb n a ≡ (leb n a && leb n b)
    up h = go (leb n a) refl
      where
        go : (t : Bool) → leb n a ≡ t → t ≡ (t && leb n b)
        go true e = sym (le-leb n b (let p = leb-true n a e in omega arith))
        go false e = refl

    down : b < a → leb n b ≡ (leb n a && leb n b)
    down h = go (leb n a) refl
      where
        go : (t : Bool) → leb n a ≡ t → leb n b ≡ (t && leb n b)
        go true e = refl
        go false e = lt-leb n b (let p = leb-false n a e in omega arith)

    -- the lesser suffices where both do
    pub both_suffice : leb n (min a b) ≡ (leb n a && leb n b)
    both_suffice =
        ⊎_elim
        (λ (e : leb a b ≡ true). let h = leb-true a b e in ap (leb n) (sym (lesser-first h)) ∙ up h)
        (λ (e : leb a b ≡ false). let h = leb-false a b e in ap (leb n) (sym (lesser-second h)) ∙ down h)
        (flag (leb a b))

-- ---- tests in another order

pub one_less : (a : Bool) → a ≡ (a && true)
one_less true = refl
one_less false = refl

-- the least of four
pub all_suffice : (n a b c d : ℕ) → leb n (min (min a b) (min c d)) ≡ ((leb n a && (leb n b && leb n c)) && leb n d)
all_suffice n a b c d =
    both_suffice (min a b) (min c d) n ∙ (λ i. both_suffice a b n i && both_suffice c d n i) ∙ and_assoc (leb n a) (leb n b) (leb n c && leb n d)
    ∙ (λ i. leb n a && sym (and_assoc (leb n b) (leb n c) (leb n d)) i) ∙ sym (and_assoc (leb n a) (leb n b && leb n c) (leb n d))
