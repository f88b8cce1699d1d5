-- The lesser and the greater of whole numbers, once for both: commutative, associative; of a list in any order and in parts. Assumes nothing.
use Rattle.std.proofs.Common.{◌≡◌, ℕ, Bool, true, false, not, T, ltb, ◌⊎◌, List, [], ◌∷◌, ◌++◌, ℤ, pos, negsuc, sym, refl, ap, ◌∙◌, subst, inl, inr, arith, ltb-false, ltb-true, lt-ltb}
use mathlib.Core.List.{foldl, foldr, foldl-append, Permᴰ}
use lib.Signed.{lt_z}
use Rattle.laws.specs.Pick.{pick}
use Rattle.laws.proofs.Lists.{foldr-perm}

-- ---- the order
lt_trans : (a b c : ℕ) → ltb a b ≡ true → ltb b c ≡ true → ltb a c ≡ true
lt_trans a b c h k = lt-ltb a c (omega (arith, ltb-true a b h, ltb-true b c k))

-- neither below the other
level : (a b : ℕ) → ltb a b ≡ false → (ltb b a ≡ true) ⊎ (a ≡ b)
level a b h = go (ltb b a) refl
  where
    go : (t : Bool) → ltb b a ≡ t → (ltb b a ≡ true) ⊎ (a ≡ b)
    go true e = inl e
    go false e = inr (omega (arith, ltb-false a b h, ltb-false b a e))

never : (a b : ℕ) → ltb a b ≡ true → ltb b a ≡ true → ⊥
never a b h k = omega (arith, ltb-true a b h, ltb-true b a k)

no : {A : Type 0} → false ≡ true → A
no h = absurd (subst (λ (b : Bool). T (not b)) h tt)

before-trans : (a b c : ℤ) → lt_z a b ≡ true → lt_z b c ≡ true → lt_z a c ≡ true
before-trans (pos a) (pos b) (pos c) h k = lt_trans a b c h k
before-trans (pos a) (pos b) (negsuc c) h k = k
before-trans (pos a) (negsuc b) c h k = no h
before-trans (negsuc a) (pos b) (pos c) h k = refl
before-trans (negsuc a) (pos b) (negsuc c) h k = no k
before-trans (negsuc a) (negsuc b) (pos c) h k = refl
before-trans (negsuc a) (negsuc b) (negsuc c) h k = lt_trans c b a k h

before-tri : (a b : ℤ) → lt_z a b ≡ false → (lt_z b a ≡ true) ⊎ (a ≡ b)
before-tri (pos a) (pos b) h = elim (level a b h) [ inl k ↦ inl k | inr e ↦ inr (ap pos e) ]
before-tri (pos a) (negsuc b) h = inl refl
before-tri (negsuc a) (pos b) h = no (sym h)
before-tri (negsuc a) (negsuc b) h = elim (level b a h) [ inl k ↦ inl k | inr e ↦ inr (ap negsuc (sym e)) ]

before-asym : (a b : ℤ) → lt_z a b ≡ true → lt_z b a ≡ true → ⊥
before-asym (pos a) (pos b) h k = never a b h k
before-asym (pos a) (negsuc b) h k = no h
before-asym (negsuc a) (pos b) h k = no k
before-asym (negsuc a) (negsuc b) h k = never b a h k

-- ---- up: the lesser is wanted; otherwise the greater
abbrev pub before : Bool → ℤ → ℤ → Bool
before true x y = lt_z x y
before false x y = lt_z y x

abbrev pub chosen : Bool → ℤ → ℤ → ℤ
chosen up a x = pick (before up x a) x a

trans : (up : Bool) (a b c : ℤ) → before up a b ≡ true → before up b c ≡ true → before up a c ≡ true
trans true a b c h k = before-trans a b c h k
trans false a b c h k = before-trans c b a k h

tri : (up : Bool) (a b : ℤ) → before up a b ≡ false → (before up b a ≡ true) ⊎ (a ≡ b)
tri true a b h = before-tri a b h
tri false a b h = elim (before-tri b a h) [ inl k ↦ inl k | inr e ↦ inr (sym e) ]

asym : (up : Bool) (a b : ℤ) → before up a b ≡ true → before up b a ≡ true → ⊥
asym true a b h k = before-asym a b h k
asym false a b h k = before-asym b a h k

-- not below one that is not below a third
untrans : (up : Bool) (a b c : ℤ) → before up b a ≡ false → before up c b ≡ false → before up c a ≡ false
untrans up a b c h k = go (before up c a) refl
  where
    both : (t : Bool) → t ≡ false → t ≡ true → ⊥
    both true e d = no (sym e)
    both false e d = no d

    go : (t : Bool) → before up c a ≡ t → t ≡ false
    go false e = refl
    go true e =
        absurd (elim (tri up b a h) [
          | inl l ↦ both (before up c b) k (trans up c a b e l)
          | inr l ↦ both (before up c b) k (subst (λ (z : ℤ). before up c z ≡ true) (sym l) e)
        ])

module _ (up : Bool) where
  -- COMMUTATIVE
  pub chosen-comm : (a b : ℤ) → chosen up a b ≡ chosen up b a
  unfolding pick
  chosen-comm a b = go (before up b a) (before up a b) refl refl
    where
      go : (p q : Bool) → before up b a ≡ p → before up a b ≡ q → pick p b a ≡ pick q a b
      go true true h k = absurd (asym up b a h k)
      go true false h k = refl
      go false true h k = refl
      go false false h k = elim (tri up b a h) [ inl l ↦ no (sym k ∙ l) | inr l ↦ sym l ]

  pub chosen_self : (a : ℤ) → chosen up a a ≡ a
  unfolding pick
  chosen_self a = go (before up a a)
    where
      go : (p : Bool) → pick p a a ≡ a
      go true = refl
      go false = refl

  -- ASSOCIATIVE
  pub chosen-assoc : (a b c : ℤ) → chosen up (chosen up a b) c ≡ chosen up a (chosen up b c)
  unfolding pick
  chosen-assoc a b c =
      into (before up b a) ∙ steps (before up b a) (before up c b) (before up c a) (λ x y. trans up c b a y x) (λ x y. untrans up a b c x y)
      ∙ sym (from (before up c b))
    where
      into : (p : Bool) → pick (before up c (pick p b a)) c (pick p b a) ≡ pick p (pick (before up c b) c b) (pick (before up c a) c a)
      into true = refl
      into false = refl

      from : (p : Bool) → pick (before up (pick p c b) a) (pick p c b) a ≡ pick p (pick (before up c a) c a) (pick (before up b a) b a)
      from true = refl
      from false = refl

      steps : (p q r : Bool) → (p ≡ true → q ≡ true → r ≡ true) → (p ≡ false → q ≡ false → r ≡ false)
          → pick p (pick q c b) (pick r c a) ≡ pick q (pick r c a) (pick p b a)
      steps true true true f g = refl
      steps true true false f g = no (f refl refl)
      steps true false r f g = refl
      steps false true r f g = refl
      steps false false true f g = no (sym (g refl refl))
      steps false false false f g = refl

  -- ---- a list
  fold_start : (a b : ℤ) (xs : List ℤ) → foldl (chosen up) (chosen up a b) xs ≡ chosen up a (foldl (chosen up) b xs)
  fold_start a b [] = refl
  fold_start a b (x ∷ xs) = ap (λ (y : ℤ). foldl (chosen up) y xs) (chosen-assoc a b x) ∙ fold_start a (chosen up b x) xs

  from-right : (a : ℤ) (xs : List ℤ) → foldl (chosen up) a xs ≡ foldr (chosen up) a xs
  from-right a [] = refl
  from-right a (x ∷ xs) = ap (λ (y : ℤ). foldl (chosen up) y xs) (chosen-comm a x) ∙ fold_start x a xs ∙ ap (chosen up x) (from-right a xs)

  -- WHATEVER THE ORDER
  pub fold-perm : (a : ℤ) {xs ys : List ℤ} → Permᴰ xs ys → foldl (chosen up) a xs ≡ foldl (chosen up) a ys
  fold-perm a {xs} {ys} s =
      from-right a xs
      ∙ foldr-perm (chosen up) (λ x y z. sym (chosen-assoc x y z) ∙ ap (λ (w : ℤ). chosen up w z) (chosen-comm x y) ∙ chosen-assoc y x z) a s
      ∙ sym (from-right a ys)

  -- IN PARTS
  stays : (a : ℤ) (xs : List ℤ) → chosen up (foldl (chosen up) a xs) a ≡ foldl (chosen up) a xs
  stays a xs = chosen-comm (foldl (chosen up) a xs) a ∙ sym (fold_start a a xs) ∙ ap (λ (y : ℤ). foldl (chosen up) y xs) (chosen_self a)

  pub fold-parts : (a : ℤ) (xs ys : List ℤ) → chosen up (foldl (chosen up) a xs) (foldl (chosen up) a ys) ≡ foldl (chosen up) a (xs ++ ys)
  fold-parts a xs ys =
      sym (fold_start (foldl (chosen up) a xs) a ys)
      ∙ ap (λ (y : ℤ). foldl (chosen up) y ys) (stays a xs)
      ∙ sym (foldl-append (chosen up) a xs ys)
