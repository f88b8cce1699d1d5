-- How values are recorded at a slot of sums or last values: on the f64 that is held, by value. Assumes nothing.
use Prim.Native.Nat.{ℕ, ◌<◌}
use mathlib.Core.Path.{◌≡◌, refl, ap, sym, ◌∙◌}
use mathlib.Core.Logic.{⊎_elim}
use mathlib.Core.Bool.{Bool, true, false}
use mathlib.Core.List.{List, [], ◌∷◌}
use native.Mathlib.Omega.{arith}
use lib.ListN.{length, get_or, set, length-set}
use lib.Seq.{get_or-set_same, set-set}
use lib.Ieee.{Float, nan}
use Rattle.laws.specs.Pick.{pick}
use Rattle.laws.proofs.Bools.{flag, pick_true, pick-false}
use Rattle.laws.proofs.Cases.{true-not-false}
use Rattle.rows.specs.Recording.{Recording, after}
use Rattle.many.specs.Many.{Many, many, stopped, each}
use Rattle.many.proofs.Turns.{each_on, each-stop, each_none}
use Rattle.batches.specs.Inner.{recorded_all}
use Rattle.batches.proofs.Slotted.{Slotted, none-all, wild-all, first_stops, slot-ends}
use Rattle.singles.specs.declared.Aggregation.{Aggregation}
use Rattle.singles.specs.Kinds.{step, holds, singles}
use Rattle.singles.specs.Stores.{held_at, single_store}
use Rattle.singles.proofs.Owes.{start-held, held_bad, held-good, owed}
use Rattle.singles.proofs.Lawful.{steady}
use Rattle.single_batches.specs.Inner.{stepped}

module _ (a : Aggregation) (y v : Float) where
  pub step-on : (singles a).finite v ≡ true → after 0 (step a y v) ≡ stepped a y v
  unfolding stepped
  step-on q = sym (pick_true ((singles a).finite v) _ (after 6 y) q)

  pub step-off : (singles a).finite v ≡ false → after 6 y ≡ stepped a y v
  unfolding stepped
  step-off q = sym (pick-false ((singles a).finite v) _ (after 6 y) q)

  wild-stops : (singles a).finite v ≡ false → (stepped a y v).no ≡ 0 → ⊥
  wild-stops q z = let i = ap (λ (o : Recording Float). o.no) (step-off q) ∙ z in omega (arith, i)

  -- only a value that is not finite is refused
  wild-only : {P : Type 0} → ((stepped a y v).no ≡ 0 → ⊥) → ((singles a).finite v ≡ false → P) → P
  wild-only d k =
      ⊎_elim (λ (q : (singles a).finite v ≡ true). absurd (d (ap (λ (o : Recording Float). o.no) (sym (step-on q))))) k (flag ((singles a).finite v))

module _ (a : Aggregation) (c : List Float) (x : ℕ) where
  -- what is held may be held, where the series that lies there agrees or none does; and back
  pub held-sound : (u : Bool) → (u ≡ true → holds a (get_or c x nan) ≡ true) → holds a (held_at c x u) ≡ true
  unfolding pick
  held-sound true h = h refl
  held-sound false h = start-held a

  pub sound-held : (u : Bool) → holds a (held_at c x u) ≡ true → u ≡ true → holds a (get_or c x nan) ≡ true
  unfolding pick
  sound-held true h e = h
  sound-held false h e = true-not-false (sym e)

pub slotted : (a : Aggregation) → Slotted (single_store a) tt
slotted a =
    record {
      Series = Float;
      load = held_at;
      put = set;
      step = stepped a;
      Shape = λ v. Unit;
      nought = nan;
      Fitting = λ s. Unit;
      unchanged = λ c x u v r s d. wild-only a (held_at c x u) v d (λ q. ap (λ (o : Recording Float). o.cells) (sym (step-off a (held_at c x u) v q)));
      wild = λ c x u v r s q. ap (λ (o : Recording Float). o.no) (sym (step-off a (held_at c x u) v q));
      refused = λ c x u v r s q d. absurd (d (ap (λ (o : Recording Float). o.no) (sym (step-on a (held_at c x u) v q))));
      took = λ c x u v r s q t. (
        sym (held-good a c x u v (held-sound a c x u r.series)) ∙ ap (λ (o : Recording Float). after 0 (set c x o.cells)) (step-on a (held_at c x u) v q),
        tt,
      );
      read_back = λ c x s r f. read_back c x s r;
      put-again = λ c x s t r f. set-set c x s t;
      put-room = λ c x s r f. omega (arith, r, length-set c x s);
    }
  where
    read_back : (c : List Float) (x : ℕ) (s : Float) → x < length c → held_at (set c x s) x true ≡ s
    read_back c x s r = pick_true true (get_or (set c x s) x nan) _ refl ∙ get_or-set_same c x s nan r

-- ---- at the ends of the code

-- a first value that is finite is taken
first_taken : {P : Type 0} (a : Aggregation) (y v : Float) (vs : List Float) → (singles a).finite v ≡ true → (each (stepped a) y (v ∷ vs)).taken ≡ 0 → P
first_taken a y v vs q t =
    let o : (stepped a y v).no ≡ 0 = ap (λ (o : Recording Float). o.no) (sym (step-on a y v q)) in
    absurd (let i = ap (λ (m : Many Float). m.taken) (sym (each_on (stepped a) y v vs o)) ∙ t in omega (arith, i))

module _ (a : Aggregation) (x : ℕ) (u : Bool) (c : List Float) where
  abbrev y : Float
  y = held_at c x u

  -- none would be taken: the list's number, whatever is held
  pub ends-none : (vs : List Float) (m : Many Float) → m ≡ each (stepped a) y vs → m.taken ≡ 0 → stopped m.no c ≡ recorded_all (single_store a) x u c vs
  ends-none vs m e t = go vs (ap (λ (i : Many Float). i.no) e) (ap (λ (i : Many Float). i.taken) (sym e) ∙ t)
    where
      go : (vs : List Float) → m.no ≡ (each (stepped a) y vs).no → (each (stepped a) y vs).taken ≡ 0 → stopped m.no c ≡ recorded_all (single_store a) x u c vs
      go [] n t = ap (λ (k : ℕ). stopped k c) (n ∙ ap (λ (i : Many Float). i.no) (each_none (stepped a) y)) ∙ sym (none-all (single_store a) x u c)
      go (v ∷ vs) n t =
          ⊎_elim (λ (q : (singles a).finite v ≡ true). first_taken a y v vs q t)
          (λ (q : (singles a).finite v ≡ false).
          ap (λ (k : ℕ). stopped k c) (n ∙ ap (λ (i : Many Float). i.no) (each-stop (stepped a) y v vs (wild-stops a y v q)) ∙ ap (λ (o : Recording Float). o.no) (sym (step-off a y v q)))
          ∙ sym (wild-all (single_store a) x u c v vs q))
          (flag ((singles a).finite v))

  -- some would, and the map may not hold what is held
  pub ends-unsound : (vs : List Float) → ((each (stepped a) y vs).taken ≡ 0 → ⊥) → holds a y ≡ false → stopped 8 c ≡ recorded_all (single_store a) x u c vs
  ends-unsound [] d h = absurd (d (ap (λ (i : Many Float). i.taken) (each_none (stepped a) y)))
  ends-unsound (v ∷ vs) d h =
      ⊎_elim
      (λ (q : (singles a).finite v ≡ true).
      sym (first_stops (single_store a) x u c v vs (owed a) q 8 (ap (λ (o : Recording (List Float)). o.no) (sym (held_bad a c x u v h))) (λ i. omega (arith, i))))
      (λ (q : (singles a).finite v ≡ false).
      absurd (d (ap (λ (i : Many Float). i.taken) (each-stop (stepped a) y v vs (wild-stops a y v q)))))
      (flag ((singles a).finite v))

  -- some were taken: what they left is put
  pub ends-put : x < length c → holds a y ≡ true → (vs : List Float) (m : Many Float) → m ≡ each (stepped a) y vs → (m.taken ≡ 0 → ⊥)
      → many m.taken m.no (set c x m.left) ≡ recorded_all (single_store a) x u c vs
  unfolding slotted
  ends-put r h vs m e d =
      slot-ends (owed a) (steady a) tt (slotted a) x u c (record { set = refl; room = r; series = sound-held a c x u h }) vs (λ i. tt) m e
      (set c x m.left) (λ t k. absurd (d t)) (λ k. refl)
