-- Agreement as it is tested, by birth numbers along the slots and the rest along the places. Assumes nothing.
use Rattle.std.proofs.Common.{◌≡◌, ℕ, ◌+◌, ◌<◌, ◌≤◌, Bool, true, false, List, [], get_or, sym, refl, ◌∙◌, arith, lt-ltb, le-leb}
use borrow.Author.Tests.{lt-leb}
use Rattle.laws.proofs.Cases.{and-true, true-not-false}
use Rattle.sets.specs.All.{allb}
use Rattle.sets.specs.Rows.{soundb}
use Rattle.sets.proofs.Alls.{allb-at, allb-yes}
use Rattle.directory.specs.View.{Stores, birth_at, born_at, slot_at, place_at, plainly, slotsb, countsb, agreesb}
use Rattle.directory.specs.Inner.{step_at, bornb}
use Rattle.directory.specs.declared.Directory.{Directory}
use Rattle.directory.proofs.Agreed.{slot-sound, birth-rise, last-birth, place-slot}
use Rattle.directory.proofs.Covers.{named}
use Rattle.directory.proofs.Laws.{slots-right, places-right}
use Rattle.directory.proofs.Rises.{span_in}

module _ (used last : ℕ) (sets entries : List (List ℕ)) (order : List ℕ) where
  -- right slots have rising birth numbers, and right places name sound ones
  slots_births : slotsb used last sets entries ≡ true → bornb used last entries ≡ true
  unfolding bornb
  slots_births e =
      let t : allb used (born_at entries) ≡ true = allb-yes (born_at entries) used (λ x h. lt-ltb _ _ (birth-rise used last sets entries e x h)) in
      rw (t, le-leb (birth_at entries used) last (last-birth used last sets entries e))

  slots-steps : slotsb used last sets entries ≡ true → allb used (place_at sets order used) ≡ true → allb used (step_at sets order used) ≡ true
  slots-steps e p =
      allb-yes (step_at sets order used) used
      (λ k h. let q = place-slot used sets order p k h in rw (allb-at (place_at sets order used) used p k h, slot-sound used last sets entries e (get_or order k 0) q.0 q.1))

  -- and back: the places name every slot
  steps-places : allb used (step_at sets order used) ≡ true → allb used (place_at sets order used) ≡ true
  steps-places e = allb-yes (place_at sets order used) used (λ k h. (and-true (place_at sets order used k) _ (allb-at (step_at sets order used) used e k h)).0)

  steps-slots : bornb used last entries ≡ true → allb used (step_at sets order used) ≡ true → slotsb used last sets entries ≡ true
  unfolding bornb slotsb
  steps-slots b e =
      let q = and-true (allb used (born_at entries)) _ b in
      let t : allb used (slot_at sets entries) ≡ true = allb-yes (slot_at sets entries) used (λ x h. rw (sound x h, allb-at (born_at entries) used q.0 x h)) in
      rw (t, q.1)
    where
      sound : (x : ℕ) → x < used → soundb (get_or sets (x + 1) []) ≡ true
      sound x h =
          span_in (λ (y : ℕ). soundb (get_or sets y []) ≡ true) order 0 used (λ j u v. (and-true (place_at sets order used j) _ (allb-at (step_at sets order used) used e j (omega arith))).1) (x + 1)
          (named used sets order (steps-places e) (x + 1) (omega arith) (omega arith))

-- what is not so is false
refute : (b : Bool) → (b ≡ true → ⊥) → b ≡ false
refute true n = absurd (n refl)
refute false n = refl

module _ (limit : ℕ) (d : Directory) (s : Stores) where
  pub agree-far : limit + 1 < d.used → agreesb limit d s ≡ false
  unfolding agreesb
  agree-far h = rw (lt-leb d.used (limit + 1) h)

  pub agree_births : bornb d.used d.last s.entries ≡ false → agreesb limit d s ≡ false
  agree_births e = refute _ (λ g. true-not-false (sym (slots_births d.used d.last s.sets s.entries s.order (slots-right limit d s g)) ∙ e))

  pub agree-places : allb d.used (step_at s.sets s.order d.used) ≡ false → agreesb limit d s ≡ false
  agree-places e =
      refute _ (λ g. true-not-false (sym (slots-steps d.used d.last s.sets s.entries s.order (slots-right limit d s g) (places-right limit d s g)) ∙ e))

  pub agree-counts : d.used ≤ limit + 1 → bornb d.used d.last s.entries ≡ true → (n : ℕ) → (allb d.used (step_at s.sets s.order d.used) ≡ true) × (plainly s.sets s.order d.used ≡ n)
      → agreesb limit d s ≡ countsb limit d.count d.used n
  unfolding agreesb
  agree-counts h b n e =
      rw (le-leb d.used (limit + 1) h, steps-slots d.used d.last s.sets s.entries s.order b e.0, steps-places d.used d.last s.sets s.entries s.order e.0, e.1)
