-- The lesser and the greater of floats, the first where they are equal, once for both: associative as data, and by a number for each
-- float the least, whatever the order. Assumes nothing.
use mathlib.Core.Path.{◌≡◌, refl, sym, ap, ◌∙◌, subst}
use mathlib.Core.List.{List, [], ◌∷◌, ◌++◌, foldl, foldr, foldl-append, Permᴰ}
use Prim.Native.Nat.{ℕ, ◌+◌, ◌-◌, ◌≤◌, ◌<◌, min}
use native.Mathlib.Omega.{arith}
use mathlib.Core.Bool.{Bool, true, false, not}
use lib.Dec.{T, ltb, ltb→lt, nltb→le, lt→ltb}
use lib.Ieee.{Float, Format, lt, eq}
use lib.Ieee.Scale.{finite}
use borrow.Author.Tests.{eq-eqb, eqb-true}
use Rattle.laws.specs.Pick.{pick}
use Rattle.laws.specs.Lists.{All}
use Rattle.laws.proofs.Lists.{all-perm, foldr-perm}
use Rattle.floats.proofs.Fractions.{ltb_iff}
use Rattle.floats.proofs.Order.{key, big, Ok, lt-key, key-le}
use Rattle.floats.proofs.Equal.{eq-key}

-- ---- up: the lesser is wanted; otherwise the greater
abbrev pub before : Bool → Float → Float → Bool
before true x y = lt x y
before false x y = lt y x

abbrev pub chosen : Bool → Float → Float → Float
chosen up a x = pick (before up x a) x a

-- of two finite numbers it is finite
pub finite-chosen : (up : Bool) (a v : Float) → finite a ≡ true → finite v ≡ true → finite (chosen up a v) ≡ true
unfolding pick
finite-chosen up a v h k = go (before up v a)
  where
    go : (b : Bool) → finite (pick b v a) ≡ true
    go true = k
    go false = h

-- the lower, the more wanted
unfoldable pub rank : Bool → Format → Float → ℕ
rank true f x = key f x
rank false f x = big f + big f - key f x

turned : (g a b : ℕ) → a ≤ g → b ≤ g → ltb b a ≡ ltb (g - a) (g - b)
turned g a b p q = ltb_iff b a (g - a) (g - b) (λ h. omega arith) (λ h. omega arith)

before-rank : (up : Bool) (f : Format) (x y : Float) → Ok f x → Ok f y → before up x y ≡ ltb (rank up f x) (rank up f y)
unfolding rank
before-rank true f x y p q = lt-key f x y p q
before-rank false f x y p q = lt-key f y x q p ∙ turned (big f + big f) (key f x) (key f y) (key-le f x p) (key-le f y q)

turned_inj : (g a b : ℕ) → a ≤ g → b ≤ g → g - a ≡ g - b → a ≡ b
turned_inj g a b p q h = omega arith

rank-key : (up : Bool) (f : Format) (x y : Float) → Ok f x → Ok f y → rank up f x ≡ rank up f y → key f x ≡ key f y
unfolding rank
rank-key true f x y p q h = h
rank-key false f x y p q h = turned_inj (big f + big f) (key f x) (key f y) (key-le f x p) (key-le f y q) h

-- of one rank: the same number
pub rank-eq : (up : Bool) (f : Format) (x y : Float) → Ok f x → Ok f y → rank up f x ≡ rank up f y → eq x y ≡ true
rank-eq up f x y p q h = eq-key f x y p q ∙ eq-eqb (key f x) (key f y) (rank-key up f x y p q h)

-- and equal numbers are of one rank
pub eq-rank : (up : Bool) (f : Format) (x y : Float) → Ok f x → Ok f y → eq x y ≡ true → rank up f x ≡ rank up f y
unfolding rank
eq-rank up f x y p q h = go up (eqb-true (key f x) (key f y) (sym (eq-key f x y p q) ∙ h))
  where
    go : (up : Bool) → key f x ≡ key f y → rank up f x ≡ rank up f y
    go true e = e
    go false e = ap (λ (n : ℕ). big f + big f - n) e

-- equal numbers, and the ranks of them
pub eq_refl : (f : Format) (x : Float) → Ok f x → eq x x ≡ true
eq_refl f x p = rank-eq true f x x p p refl

pub eq-sym : (f : Format) (x y : Float) → Ok f x → Ok f y → eq x y ≡ true → eq y x ≡ true
eq-sym f x y p q h = rank-eq true f y x q p (sym (eq-rank true f x y p q h))

pub eq_trans : (f : Format) (x y z : Float) → Ok f x → Ok f y → Ok f z → eq x y ≡ true → eq y z ≡ true → eq x z ≡ true
eq_trans f x y z p q r h k = rank-eq true f x z p r (eq-rank true f x y p q h ∙ eq-rank true f y z q r k)

module _ (up : Bool) (f : Format) where
  said : (x y : Float) → Ok f x → Ok f y → T (before up x y) → rank up f x < rank up f y
  said x y p q t = ltb→lt (rank up f x) (rank up f y) (subst T (before-rank up f x y p q) t)

  unsaid : (x y : Float) → Ok f x → Ok f y → T (not (before up x y)) → rank up f y ≤ rank up f x
  unsaid x y p q t = nltb→le (rank up f x) (rank up f y) (subst (λ (b : Bool). T (not b)) (before-rank up f x y p q) t)

  say : (x y : Float) → Ok f x → Ok f y → rank up f x < rank up f y → T (before up x y)
  say x y p q h = subst T (sym (before-rank up f x y p q)) (lt→ltb (rank up f x) (rank up f y) h)

  unsay : (x y : Float) → Ok f x → Ok f y → rank up f y ≤ rank up f x → T (not (before up x y))
  unsay x y p q h = go (before up x y) (said x y p q)
    where
      never : rank up f x < rank up f y → ⊥
      never l = omega arith

      go : (b : Bool) → (T b → rank up f x < rank up f y) → T (not b)
      go true k = never (k tt)
      go false k = tt

  -- ---- one choice
  pub chosen-ok : (a x : Float) → Ok f a → Ok f x → Ok f (chosen up a x)
  unfolding pick
  chosen-ok a x p q = go (before up x a)
    where
      go : (b : Bool) → Ok f (pick b x a)
      go true = q
      go false = p

  pub chosen-rank : (a x : Float) → Ok f a → Ok f x → rank up f (chosen up a x) ≡ min (rank up f a) (rank up f x)
  unfolding pick
  chosen-rank a x p q = go (before up x a) (said x a q p) (unsaid x a q p)
    where
      left : (m n : ℕ) → m < n → m ≡ min n m
      left m n h = omega arith

      right : (m n : ℕ) → n ≤ m → n ≡ min n m
      right m n h = omega arith

      go : (b : Bool) → (T b → rank up f x < rank up f a) → (T (not b) → rank up f a ≤ rank up f x) → rank up f (pick b x a) ≡ min (rank up f a) (rank up f x)
      go true h k = left (rank up f x) (rank up f a) (h tt)
      go false h k = right (rank up f x) (rank up f a) (k tt)

  -- the first stays where the second is not wanted more
  pub chosen-stays : (a x : Float) → Ok f a → Ok f x → rank up f a ≤ rank up f x → chosen up a x ≡ a
  unfolding pick
  chosen-stays a x p q h = go (before up x a) (unsay x a q p h)
    where
      go : (b : Bool) → T (not b) → pick b x a ≡ a
      go true t = absurd t
      go false t = refl

  -- of equal numbers, equal choices
  pub chosen-cong : (a b c d : Float) → Ok f a → Ok f b → Ok f c → Ok f d → eq a c ≡ true → eq b d ≡ true → eq (chosen up a b) (chosen up c d) ≡ true
  chosen-cong a b c d p q r s h k =
      rank-eq up f (chosen up a b) (chosen up c d) (chosen-ok a b p q) (chosen-ok c d r s)
      (chosen-rank a b p q ∙ ap (λ (n : ℕ). min n (rank up f b)) (eq-rank up f a c p r h) ∙ ap (min (rank up f c)) (eq-rank up f b d q s k) ∙ sym (chosen-rank c d r s))

  -- COMMUTATIVE, a zero's sign aside
  pub chosen-comm : (a b : Float) → Ok f a → Ok f b → eq (chosen up a b) (chosen up b a) ≡ true
  chosen-comm a b p q =
      rank-eq up f (chosen up a b) (chosen up b a) (chosen-ok a b p q) (chosen-ok b a q p)
      (let h = chosen-rank a b p q in let k = chosen-rank b a q p in omega arith)

  -- ASSOCIATIVE, as data
  pub chosen-assoc : (a b c : Float) → Ok f a → Ok f b → Ok f c → chosen up (chosen up a b) c ≡ chosen up a (chosen up b c)
  unfolding pick
  chosen-assoc a b c p q r =
      into (before up b a) ∙ steps (before up b a) (before up c b) (before up c a)
      (λ x y. say c a r p (omega (arith, said c b r q y, said b a q p x)))
      (λ x y. unsay c a r p (omega (arith, unsaid b a q p x, unsaid c b r q y)))
      ∙ sym (from (before up c b))
    where
      into : (p : Bool) → pick (before up c (pick p b a)) c (pick p b a) ≡ pick p (pick (before up c b) c b) (pick (before up c a) c a)
      into true = refl
      into false = refl

      from : (p : Bool) → pick (before up (pick p c b) a) (pick p c b) a ≡ pick p (pick (before up c a) c a) (pick (before up b a) b a)
      from true = refl
      from false = refl

      steps : (p q r : Bool) → (T p → T q → T r) → (T (not p) → T (not q) → T (not r))
          → pick p (pick q c b) (pick r c a) ≡ pick q (pick r c a) (pick p b a)
      steps true true true f g = refl
      steps true true false f g = absurd (f tt tt)
      steps true false r f g = refl
      steps false true r f g = refl
      steps false false true f g = absurd (g tt tt)
      steps false false false f g = refl

  -- ---- a list
  pub fold_ok : (a : Float) (xs : List Float) → Ok f a → All (Ok f) xs → Ok f (foldl (chosen up) a xs)
  unfolding All
  fold_ok a [] p q = p
  fold_ok a (x ∷ xs) p q = fold_ok (chosen up a x) xs (chosen-ok a x p q.0) q.1

  abbrev floor : ℕ → List Float → ℕ
  floor = foldr (λ x n. min (rank up f x) n)

  floor-min : (n m : ℕ) (xs : List Float) → floor (min n m) xs ≡ min m (floor n xs)
  floor-min n m [] = omega arith
  floor-min n m (x ∷ xs) = let h = floor-min n m xs in omega arith

  fold-rank : (a : Float) (xs : List Float) → Ok f a → All (Ok f) xs → rank up f (foldl (chosen up) a xs) ≡ floor (rank up f a) xs
  unfolding All
  fold-rank a [] p q = refl
  fold-rank a (x ∷ xs) p q =
      fold-rank (chosen up a x) xs (chosen-ok a x p q.0) q.1
      ∙ ap (λ n. floor n xs) (chosen-rank a x p q.0) ∙ floor-min (rank up f a) (rank up f x) xs

  floor-le : (n : ℕ) (xs : List Float) → floor n xs ≤ n
  floor-le n [] = omega arith
  floor-le n (x ∷ xs) = let h = floor-le n xs in omega arith

  -- WHATEVER THE ORDER, a zero's sign aside
  pub fold-perm : (a : Float) {xs ys : List Float} → Permᴰ xs ys → Ok f a → All (Ok f) xs → eq (foldl (chosen up) a xs) (foldl (chosen up) a ys) ≡ true
  fold-perm a {xs} {ys} s p q =
      let r = all-perm (Ok f) s q in
      rank-eq up f (foldl (chosen up) a xs) (foldl (chosen up) a ys) (fold_ok a xs p q) (fold_ok a ys p r)
      (fold-rank a xs p q ∙ foldr-perm (λ x n. min (rank up f x) n) (λ x y n. omega arith) (rank up f a) s ∙ sym (fold-rank a ys p r))

  -- TWO PARTS IN THEIR ORDER: the very float
  fold_start : (a b : Float) (xs : List Float) → Ok f a → Ok f b → All (Ok f) xs → foldl (chosen up) (chosen up a b) xs ≡ chosen up a (foldl (chosen up) b xs)
  unfolding All
  fold_start a b [] p q r = refl
  fold_start a b (x ∷ xs) p q r =
      ap (λ (y : Float). foldl (chosen up) y xs) (chosen-assoc a b x p q r.0) ∙ fold_start a (chosen up b x) xs p (chosen-ok b x q r.0) r.1

  pub fold-parts : (a : Float) (xs ys : List Float) → Ok f a → All (Ok f) xs → All (Ok f) ys
      → chosen up (foldl (chosen up) a xs) (foldl (chosen up) a ys) ≡ foldl (chosen up) a (xs ++ ys)
  fold-parts a xs ys p q r =
      let b = foldl (chosen up) a xs in
      let o = fold_ok a xs p q in
      sym (fold_start b a ys o p r)
      ∙ ap (λ (y : Float). foldl (chosen up) y ys) (chosen-stays b a o p (omega (arith, fold-rank a xs p q, floor-le (rank up f a) xs)))
      ∙ sym (foldl-append (chosen up) a xs ys)
