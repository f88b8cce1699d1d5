-- Sums and last values pay what they owe of their store. Assumes nothing.
use Prim.Native.Nat.{ℕ, ◌+◌, ◌<◌}
use mathlib.Core.Path.{◌≡◌, refl, ap, sym, subst, ◌∙◌}
use mathlib.Core.Bool.{Bool, true, false, not, ◌||◌}
use mathlib.Core.List.{List}
use native.Mathlib.Omega.{arith}
use borrow.Author.Tests.{leb-true}
use lib.Dec.{leb}
use lib.ListN.{length, get_or, set, length-set}
use lib.Seq.{get_or-set_same, get_or-set_other}
use lib.Ieee.{Float, nan, of_bits}
use Rattle.laws.specs.Pick.{pick}
use Rattle.laws.proofs.Bools.{pick_true, pick-false}
use Rattle.laws.proofs.Cases.{true-not-false}
use Rattle.floats.specs.Starts.{zero_float}
use Rattle.rows.specs.Recording.{Recording, after}
use Rattle.tally.specs.Map.{sound}
use Rattle.value_map.proofs.Owed.{there, was, Took, Owed}
use Rattle.singles.specs.declared.Aggregation.{Aggregation}
use Rattle.singles.specs.declared.Aggregation.TheVariants.{Sum, LastValue}
use Rattle.singles.specs.Kinds.{step, holds, singles}
use Rattle.singles.specs.Stores.{held_at, recorded_at, single_store}

-- every map may hold the start
pub start-held : (a : Aggregation) → holds a zero_float ≡ true
unfolding of_bits
start-held Sum = refl
start-held LastValue = refl

module _ (a : Aggregation) (c : List Float) (x : ℕ) where
  -- what is held is sound exactly where the code's test passes
  pub holds-is : (u : Bool) → holds a (held_at c x u) ≡ (not u || holds a (get_or c x nan))
  unfolding pick
  holds-is true = refl
  holds-is false = start-held a

  sound-is : (u : Bool) → sound (singles a) tt (there (single_store a) c x u) ≡ holds a (held_at c x u)
  unfolding pick
  sound-is true = refl
  sound-is false = sym (start-held a)

  pub was-is : (u : Bool) → held_at c x u ≡ was (single_store a) tt c x u
  unfolding pick
  was-is true = refl
  was-is false = refl

  module _ (u : Bool) (v : Float) where
    pub held_bad : holds a (held_at c x u) ≡ false → after 8 c ≡ recorded_at a x u c v
    unfolding recorded_at
    held_bad e = sym (pick-false (holds a (held_at c x u)) _ (after 8 c) e)

    pub held-good : holds a (held_at c x u) ≡ true → after 0 (set c x (step a (held_at c x u) v)) ≡ recorded_at a x u c v
    unfolding recorded_at
    held-good e = sym (pick_true (holds a (held_at c x u)) _ (after 8 c) e)

    same : ((recorded_at a x u c v).no ≡ 0 → ⊥) → (recorded_at a x u c v).cells ≡ c
    same d = go (holds a (held_at c x u)) refl
      where
        go : (b : Bool) → holds a (held_at c x u) ≡ b → (recorded_at a x u c v).cells ≡ c
        go true e = absurd (d (ap (λ (o : Recording (List Float)). o.no) (sym (held-good e))))
        go false e = ap (λ (o : Recording (List Float)). o.cells) (sym (held_bad e))

    taken : x < length c → sound (singles a) tt (there (single_store a) c x u) ≡ true → Took (single_store a) c x (recorded_at a x u c v) (step a (was (single_store a) tt c x u) v)
    taken l s =
        let y = step a (held_at c x u) v in
        subst (λ (o : Recording (List Float)). Took (single_store a) c x o (step a (was (single_store a) tt c x u) v)) (held-good (sym (sound-is u) ∙ s))
        (record {
          no = refl;
          own = get_or-set_same c x y nan l ∙ ap (λ (z : Float). step a z v) (was-is u);
          others = λ j d. get_or-set_other c x j y nan d;
          lent = λ limit e. ap (leb (limit + 2)) (length-set c x y) ∙ e;
        })

pub owed : (a : Aggregation) → Owed (single_store a)
owed a =
    record {
      valid = λ e w. refl;
      room = λ limit c x e h. omega (arith, h, leb-true (limit + 2) (length c) e);
      unchanged = λ c x u v d. same a c x u v d;
      disagreeing = λ w c x u v f s. sym (held_bad a c x u v (sym (sound-is a c x u) ∙ s));
      full = λ w c x u v f s n. true-not-false n;
      barred = λ w c x u v f s n b. true-not-false b;
      took = λ w c x u v f s n b. taken a c x u v f.room s;
    }
