-- What a comparison's answer tells of two sets. Assumes nothing.
use Prim.Native.Nat.{ℕ, Ordering}
use mathlib.Core.Path.{◌≡◌, refl, sym, ◌∙◌}
use mathlib.Core.Bool.{Bool, true, ◌&&◌, ◌||◌, and-true}
use borrow.Author.Tests.{eq-eqb, ne_eqb}
use lib.Dec.{eqb}
use Rattle.sets.specs.Rows.{below}
use Rattle.sets.specs.Inner.{way}
use Rattle.std.specs.declared.cmp.Ordering.TheVariants.{Less, Equal, Greater}

pub way-lt : (o : Ordering) → way o ≡ Less → o ≡ Ordering.lt
way-lt Ordering.lt e = refl
way-lt Ordering.eq e = cc
way-lt Ordering.gt e = cc

pub way-eq : (o : Ordering) → way o ≡ Equal → o ≡ Ordering.eq
way-eq Ordering.lt e = cc
way-eq Ordering.eq e = refl
way-eq Ordering.gt e = cc

pub way_gt : (o : Ordering) → way o ≡ Greater → o ≡ Ordering.gt
way_gt Ordering.lt e = cc
way_gt Ordering.eq e = cc
way_gt Ordering.gt e = refl

pub below-lt : (o : Ordering) → below o ≡ true → o ≡ Ordering.lt
below-lt Ordering.lt e = refl
below-lt Ordering.eq e = cc
below-lt Ordering.gt e = cc

-- whether one may follow another, at place 0 and behind it
module _ (i : ℕ) (s o : Bool) where
  pub follow-first : i ≡ 0 → (x : Bool) → x ≡ s → x ≡ (s && (eqb i 0 || o))
  follow-first e x q = rw (eq-eqb i 0 e) (q ∙ sym (and-true s))

  pub follow-next : (i ≡ 0 → ⊥) → (x : Bool) → x ≡ (s && o) → x ≡ (s && (eqb i 0 || o))
  follow-next n x q = rw (ne_eqb i 0 n) q
