-- Which call a line makes, by its kind and letter: the state after the line is that after the call. Assumes nothing.
use Prim.Native.Nat.{ℕ}
use mathlib.Core.Path.{◌≡◌, sym, ap, ◌∙◌}
use mathlib.Core.Logic.{◌⊎◌, inl, inr}
use mathlib.Core.Bool.{Bool, true, false, ◌||◌}
use lib.Dec.{eqb}
use borrow.Author.Tests.{ne_eqb}
use Rattle.laws.specs.Pick.{pick}
use Rattle.laws.proofs.Bools.{pick_true, pick-false}
use Rattle.replay_state.specs.declared.State.{State}
use Rattle.replay_state.specs.Lines.{by_letter, followed_by, collected_as}

module _ (n r h b s : State) where
  by_n : (l : ℕ) → l ≡ 110 → by_letter l n r h b s ≡ n
  unfolding by_letter pick
  by_n l e = ap (λ (k : ℕ). by_letter k n r h b s) e

  by-r : (l : ℕ) → l ≡ 114 → by_letter l n r h b s ≡ r
  unfolding by_letter pick
  by-r l e = ap (λ (k : ℕ). by_letter k n r h b s) e

  by-h : (l : ℕ) → l ≡ 104 → by_letter l n r h b s ≡ h
  unfolding by_letter pick
  by-h l e = ap (λ (k : ℕ). by_letter k n r h b s) e

  by-b-u : (l : ℕ) → (l ≡ 98) ⊎ (l ≡ 117) → by_letter l n r h b s ≡ b
  unfolding by_letter pick
  by-b-u l (inl e) = ap (λ (k : ℕ). by_letter k n r h b s) e
  by-b-u l (inr e) = ap (λ (k : ℕ). by_letter k n r h b s) e

  by-other : (l : ℕ) → (l ≡ 110 → ⊥) → (l ≡ 114 → ⊥) → (l ≡ 104 → ⊥) → ((l ≡ 98) ⊎ (l ≡ 117) → ⊥) → by_letter l n r h b s ≡ s
  unfolding by_letter
  by-other l x y z w =
      let p = ne_eqb l 98 (λ e. w (inl e)) in
      let q = ne_eqb l 117 (λ e. w (inr e)) in
      pick-false (eqb l 110) n _ (ne_eqb l 110 x) ∙ pick-false (eqb l 114) r _ (ne_eqb l 114 y)
      ∙ pick-false (eqb l 104) h _ (ne_eqb l 104 z) ∙ pick-false (eqb l 98 || eqb l 117) b s (λ i. p i || q i)

module _ {mine : Bool} (l : ℕ) (n r h b s : State) where
  pub follows-none : mine ≡ false → s ≡ followed_by mine l n r h b s
  unfolding followed_by
  follows-none k = sym (pick-false mine _ s k)

  module _ (k : mine ≡ true) where
    follows : (x : State) → by_letter l n r h b s ≡ x → x ≡ followed_by mine l n r h b s
    unfolding followed_by
    follows x e = sym (pick_true mine (by_letter l n r h b s) s k ∙ e)

    pub follows-n : l ≡ 110 → n ≡ followed_by mine l n r h b s
    follows-n e = follows n (by_n n r h b s l e)

    pub follows-r : l ≡ 114 → r ≡ followed_by mine l n r h b s
    follows-r e = follows r (by-r n r h b s l e)

    pub follows-h : l ≡ 104 → h ≡ followed_by mine l n r h b s
    follows-h e = follows h (by-h n r h b s l e)

    pub follows-b-u : (l ≡ 98) ⊎ (l ≡ 117) → b ≡ followed_by mine l n r h b s
    follows-b-u e = follows b (by-b-u n r h b s l e)

    pub follows-other : (l ≡ 110 → ⊥) → (l ≡ 114 → ⊥) → (l ≡ 104 → ⊥) → ((l ≡ 98) ⊎ (l ≡ 117) → ⊥) → s ≡ followed_by mine l n r h b s
    follows-other x y z w = follows s (by-other n r h b s l x y z w)

module _ {mine : Bool} (s d c : State) where
  pub collects-none : mine ≡ false → s ≡ collected_as mine s d c
  unfolding collected_as
  collects-none k = sym (pick-false mine _ s k)

  module _ (k : mine ≡ true) where
    pub collects-other : eqb s.letter 99 ≡ false → s ≡ collected_as mine s d c
    unfolding collected_as
    collects-other l = sym (pick_true mine _ s k ∙ pick-false (eqb s.letter 99) (pick s.delta d c) s l)

    module _ (l : eqb s.letter 99 ≡ true) where
      collects : (x : State) → pick s.delta d c ≡ x → x ≡ collected_as mine s d c
      unfolding collected_as
      collects x e = sym (pick_true mine _ s k ∙ pick_true (eqb s.letter 99) (pick s.delta d c) s l ∙ e)

      pub collects_delta : s.delta ≡ true → d ≡ collected_as mine s d c
      collects_delta e = collects d (pick_true s.delta d c e)

      pub collects-cumulative : s.delta ≡ false → c ≡ collected_as mine s d c
      collects-cumulative e = collects c (pick-false s.delta d c e)
