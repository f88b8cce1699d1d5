-- A loop over values: a turn, a halt and the end of `each`. Assumes nothing.
use Prim.Native.Nat.{ℕ, zero, suc, ◌+◌, ◌≤◌, ◌<◌}
use mathlib.Core.Path.{◌≡◌, refl, sym, ap, ◌∙◌}
use mathlib.Core.List.{List, [], ◌∷◌}
use native.Mathlib.Omega.{arith}
use native.Mathlib.Numerals.{add-one}
use lib.ListN.{length, get_or, drop, drop_of_length-le}
use lib.Seq.{drop-cons}
use borrow.Author.Tests.{eq-eqb, ne_eqb}
use Rattle.laws.specs.Pick.{pick}
use Rattle.rows.specs.Recording.{Recording}
use Rattle.many.specs.Many.{Many, stopped, one_more, each}

-- by what holds of a number that is 0, and of one that is not
pub either : {P : Type 0} (n : ℕ) → (n ≡ 0 → P) → ((n ≡ 0 → ⊥) → P) → P
either zero f g = f refl
either (suc n) f g = g (λ e. omega (arith, e))

-- i taken before
abbrev pub later : {Left : Type 0} → ℕ → Many Left → Many Left
later i r = record { taken = i + r.taken; no = r.no; left = r.left }

module _ {A Left : Type 0} (f : Left → A → Recording Left) where
  module _ (l : Left) (v : A) (vs : List A) where
    pub each_on : (f l v).no ≡ 0 → each f l (v ∷ vs) ≡ one_more (each f (f l v).cells vs)
    unfolding each pick
    each_on z = rw (eq-eqb (f l v).no 0 z)

    pub each-stop : ((f l v).no ≡ 0 → ⊥) → each f l (v ∷ vs) ≡ stopped (f l v).no (f l v).cells
    unfolding each pick
    each-stop d = rw (ne_eqb (f l v).no 0 d)

  pub each_none : (l : Left) → each f l [] ≡ stopped 0 l
  unfolding each
  each_none l = refl

  pub begins : (l : Left) (vs : List A) → each f l vs ≡ later 0 (each f l (drop 0 vs))
  begins l vs =
      let r = each f l vs in
      let t : r.taken ≡ 0 + r.taken = omega arith in
      λ j. record { taken = t j; no = r.no; left = r.left }

  -- in a loop at place i of the list: x is what the call there made of l
  module _ (l : Left) (vs : List A) (i : ℕ) where
    module _ (nought : A) (h : i < length vs) (x : Recording Left) (e : x ≡ f l (get_or vs i nought)) where
      at_turn : drop i vs ≡ get_or vs i nought ∷ drop (i + 1) vs
      at_turn = drop-cons vs i nought h ∙ ap (λ (j : ℕ). get_or vs i nought ∷ drop j vs) (sym (add-one i))

      pub turn : x.no ≡ 0 → later i (each f l (drop i vs)) ≡ later (i + 1) (each f x.cells (drop (i + 1) vs))
      turn z =
          let r = each f x.cells (drop (i + 1) vs) in
          let n : i + suc r.taken ≡ (i + 1) + r.taken = omega arith in
          ap (λ (ws : List A). later i (each f l ws)) at_turn
          ∙ ap (later i) (each_on l (get_or vs i nought) (drop (i + 1) vs) (ap (λ (y : Recording Left). y.no) (sym e) ∙ z))
          ∙ ap (λ (y : Recording Left). later i (one_more (each f y.cells (drop (i + 1) vs)))) (sym e)
          ∙ (λ j. record { taken = n j; no = r.no; left = r.left })

      pub halt : (x.no ≡ 0 → ⊥) → later i (each f l (drop i vs)) ≡ record { taken = i; no = x.no; left = x.cells }
      halt d =
          let t : i + 0 ≡ i = omega arith in
          ap (λ (ws : List A). later i (each f l ws)) at_turn
          ∙ ap (later i) (each-stop l (get_or vs i nought) (drop (i + 1) vs) (λ z. d (ap (λ (y : Recording Left). y.no) e ∙ z)))
          ∙ ap (λ (y : Recording Left). later i (stopped y.no y.cells)) (sym e)
          ∙ (λ j. record { taken = t j; no = x.no; left = x.cells })

    pub ended : length vs ≤ i → later i (each f l (drop i vs)) ≡ record { taken = i; no = 0; left = l }
    unfolding each
    ended h =
        let t : i + 0 ≡ i = omega arith in
        ap (λ (ws : List A). later i (each f l ws)) (drop_of_length-le vs h) ∙ (λ j. record { taken = t j; no = 0; left = l })

    -- the same behind a loop over the whole list
    pub through : i ≡ length vs → later i (each f l (drop i vs)) ≡ record { taken = length vs; no = 0; left = l }
    through e = let r : ℕ → Many Left = λ n. record { taken = n; no = 0; left = l } in ended (omega (arith, e)) ∙ ap r e
