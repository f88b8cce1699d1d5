-- The cases of the count and of the places, and what agreement says of each slot and place. Assumes nothing.
use Rattle.std.specs.Prelude.{Some, None}
use Rattle.std.proofs.Common.{◌≡◌, ℕ, suc, ◌+◌, ◌-◌, ◌<◌, ◌≤◌, Bool, true, false, ◌&&◌, ◌||◌, eqb, leb, List, [], get_or, sym, refl, ap, ◌∙◌, arith, ltb-true, le-ltb, lt-ltb, eq-eqb, ne_eqb, le-leb, leb-true}
use Prim.Native.Nat.{Ordering}
use mathlib.Core.Bool.{and-false}
use borrow.Author.Tests.{lt-leb}
use Rattle.laws.specs.Pick.{pick}
use Rattle.tally.specs.Sets.{cmp}
use Rattle.laws.proofs.Cases.{and-true}
use Rattle.sets.specs.All.{allb}
use Rattle.sets.specs.Rows.{size, soundb, below}
use Rattle.sets.proofs.Alls.{allb-at}
use Rattle.sets.proofs.Keyed.{sound-some, sound-few}
use Rattle.sets.proofs.Ways.{below-lt}
use Rattle.directory.specs.View.{set_at, birth_at, slot_at, place_at, plainly, slotsb, countsb}
use Rattle.directory.specs.Inner.{placed, step_at}

-- the count
module _ (limit count used plain : ℕ) where
  pub count-over : limit < count → countsb limit count used plain ≡ false
  count-over h = rw (lt-leb count limit h)

  pub count-plain : count ≤ limit → count ≡ plain → countsb limit count used plain ≡ true
  count-plain h e = rw (le-leb count limit h, eq-eqb count plain e)

  pub count_none : count ≤ limit → (count ≡ plain → ⊥) → used ≤ plain → countsb limit count used plain ≡ false
  count_none h n k = rw (le-leb count limit h, ne_eqb count plain n, le-ltb plain used k) (and-false (eqb count (plain + 1)))

  pub count-more : count ≤ limit → (count ≡ plain → ⊥) → plain < used → count ≡ plain + 1 → countsb limit count used plain ≡ true
  count-more h n k e = rw (le-leb count limit h, ne_eqb count plain n, lt-ltb plain used k, eq-eqb count (plain + 1) e)

  pub count_wrong : count ≤ limit → (count ≡ plain → ⊥) → (count ≡ plain + 1 → ⊥) → countsb limit count used plain ≡ false
  count_wrong h n e = rw (le-leb count limit h, ne_eqb count plain n, ne_eqb count (plain + 1) e)

-- the places' answer
broken_inv : (b : Bool) (n : ℕ) → pick b (Some n) None ≡ None → b ≡ false
unfolding pick
broken_inv true n e = cc
broken_inv false n e = refl

plain_inv : (b : Bool) (n m : ℕ) → pick b (Some n) None ≡ Some m → (b ≡ true) × (n ≡ m)
unfolding pick
plain_inv true n m e = (refl, cc)
plain_inv false n m e = (cc, cc)

module _ (used : ℕ) (sets : List (List ℕ)) (order : List ℕ) where
  pub placed_broken : placed used sets order ≡ None → allb used (step_at sets order used) ≡ false
  unfolding placed
  placed_broken e = broken_inv _ (plainly sets order used) e

  pub placed-plain : (n : ℕ) → placed used sets order ≡ Some n → (allb used (step_at sets order used) ≡ true) × (plainly sets order used ≡ n)
  unfolding placed
  placed-plain n e = plain_inv _ (plainly sets order used) n e

-- what right slots say
module _ (used last : ℕ) (sets entries : List (List ℕ)) (e : slotsb used last sets entries ≡ true) where
  all_slots : allb used (slot_at sets entries) ≡ true
  unfolding slotsb
  all_slots = (and-true (allb used (slot_at sets entries)) _ e).0

  pub last-birth : birth_at entries used ≤ last
  unfolding slotsb
  last-birth = leb-true _ _ (and-true (allb used (slot_at sets entries)) _ e).1

  pub slot-sound : (x : ℕ) → 1 ≤ x → x ≤ used → soundb (get_or sets x []) ≡ true
  slot-sound x h k =
      let y : x - 1 + 1 ≡ x = omega arith in
      ap (λ (i : ℕ). soundb (get_or sets i [])) (sym y) ∙ (and-true (soundb (get_or sets (x - 1 + 1) [])) _ (allb-at _ _ all_slots (x - 1) (omega arith))).0

  pub birth-rise : (x : ℕ) → x < used → birth_at entries x < birth_at entries (x + 1)
  birth-rise x h = ltb-true _ _ (and-true (soundb (get_or sets (x + 1) [])) _ (allb-at _ _ all_slots x h)).1

  pub slot-sizes : (x : ℕ) → 1 ≤ x → x ≤ used → (1 ≤ size (get_or sets x [])) × (size (get_or sets x []) ≤ 8)
  slot-sizes x h k = (sound-some (get_or sets x []) (slot-sound x h k), sound-few (get_or sets x []) (slot-sound x h k))

-- what right places say
module _ (used : ℕ) (sets : List (List ℕ)) (order : List ℕ) (e : allb used (place_at sets order used) ≡ true) where
  halves : (k : ℕ) → k < used → ((leb 1 (get_or order k 0) && leb (get_or order k 0) used) ≡ true) × ((eqb k 0 || below (cmp (set_at sets (get_or order (k - 1) 0)) (set_at sets (get_or order k 0)))) ≡ true)
  halves k h = and-true (leb 1 (get_or order k 0) && leb (get_or order k 0) used) _ (allb-at _ _ e k h)

  pub place-slot : (k : ℕ) → k < used → (1 ≤ get_or order k 0) × (get_or order k 0 ≤ used)
  place-slot k h =
      let p = and-true (leb 1 (get_or order k 0)) (leb (get_or order k 0) used) (halves k h).0 in
      (leb-true _ _ p.0, leb-true _ _ p.1)

  pub place-rise : (k : ℕ) → suc k < used → cmp (set_at sets (get_or order k 0)) (set_at sets (get_or order (suc k) 0)) ≡ Ordering.lt
  place-rise k h = below-lt _ (later (halves (suc k) h).1)
    where
      later : (eqb (suc k) 0 || below (cmp (set_at sets (get_or order (suc k - 1) 0)) (set_at sets (get_or order (suc k) 0)))) ≡ true → below (cmp (set_at sets (get_or order k 0)) (set_at sets (get_or order (suc k) 0))) ≡ true
      later p = let a : eqb (suc k) 0 ≡ false = ne_eqb (suc k) 0 (λ q. omega arith) in let b : suc k - 1 ≡ k = omega arith in rw (a, b) at p
