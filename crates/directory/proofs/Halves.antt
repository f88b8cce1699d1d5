-- Halving the places between which a set stands. Assumes nothing.
use Rattle.std.specs.Prelude.{Ok, Err}
use Rattle.std.proofs.Common.{◌≡◌, ℕ, zero, suc, ◌+◌, ◌-◌, ◌<◌, ◌≤◌, List, [], get_or, sym, refl, ap, ◌∙◌, subst, ⊎_elim, eq-or-lt_of_le, add-one, arith}
use Prim.Native.Nat.{Ordering}
use Rattle.tally.specs.Sets.{Set, cmp}
use Rattle.tally.proofs.Order.{cmp-trans, cmp-eq, gt-lt, lt_gt}
use Rattle.sets.specs.Rows.{span, set_of}
use Rattle.directory.specs.View.{seek}
use Rattle.directory.proofs.Checks.{seek-over, seek-low, seek-here, seek-on}

module _ (w : Set) (used : ℕ) (sets : List (List ℕ)) (order : List ℕ) where
  -- the set at a place
  abbrev pub at : ℕ → Set
  at k = set_of (get_or sets (get_or order k 0) [])

  module _ (rise : (k : ℕ) → suc k < used → cmp (at k) (at (suc k)) ≡ Ordering.lt) where
    climb : (j k : ℕ) → j + suc k < used → cmp (at j) (at (j + suc k)) ≡ Ordering.lt
    climb j zero h = let e : suc j ≡ j + suc zero = omega arith in subst (λ (n : ℕ). cmp (at j) (at n) ≡ Ordering.lt) e (rise j (omega arith))
    climb j (suc k) h =
        let e : suc (j + suc k) ≡ j + suc (suc k) = omega arith in
        subst (λ (n : ℕ). cmp (at j) (at n) ≡ Ordering.lt) e
        (cmp-trans (at j) (at (j + suc k)) (at (suc (j + suc k))) (climb j k (omega arith)) (rise (j + suc k) (omega arith)))

    rises : (j k : ℕ) → j < k → k < used → cmp (at j) (at k) ≡ Ordering.lt
    rises j k h u =
        let e : j + suc (k - j - 1) ≡ k = omega arith in
        subst (λ (n : ℕ). cmp (at j) (at n) ≡ Ordering.lt) e (climb j (k - j - 1) (omega arith))

    -- a set after that at a place is after all before it
    pub beneath : (m : ℕ) → m < used → cmp w (at m) ≡ Ordering.gt → (k : ℕ) → k < m + 1 → cmp w (at k) ≡ Ordering.gt
    beneath m u g k h =
        ⊎_elim (λ e. subst (λ (n : ℕ). cmp w (at n) ≡ Ordering.gt) (sym e) g)
        (λ l. lt_gt (at k) w (cmp-trans (at k) (at m) w (rises k m l u) (gt-lt w (at m) g)))
        (eq-or-lt_of_le (let z : k ≤ m = omega arith in z))

    -- and one before it is before all behind it
    pub beyond : (m : ℕ) → cmp w (at m) ≡ Ordering.lt → (k : ℕ) → m ≤ k → k < used → cmp w (at k) ≡ Ordering.lt
    beyond m g k h u =
        ⊎_elim (λ e. subst (λ (n : ℕ). cmp w (at n) ≡ Ordering.lt) e g)
        (λ l. cmp-trans w (at m) (at k) g (rises m k l u))
        (eq-or-lt_of_le h)

  module _ (slots : (k : ℕ) → k < used → (1 ≤ get_or order k 0) × (get_or order k 0 ≤ used)) where
    -- the scan passes the places whose sets are before
    skip : (m : ℕ) → m ≤ used → ((k : ℕ) → k < m → cmp w (at k) ≡ Ordering.gt) → seek w sets (span order 0 (used - 0)) 0 ≡ seek w sets (span order m (used - m)) m
    skip zero h g = refl
    skip (suc m) h g =
        skip m (omega arith) (λ k l. g k (omega arith))
        ∙ seek-on w used sets order m (omega arith) (slots m (omega arith)).0 (g m (omega arith))
        ∙ ap (λ (n : ℕ). seek w sets (span order n (used - n)) n) (add-one m)

    pub seek-held-at : (m : ℕ) → m < used → ((k : ℕ) → k < m → cmp w (at k) ≡ Ordering.gt) → cmp w (at m) ≡ Ordering.eq → seek w sets (span order 0 (used - 0)) 0 ≡ Ok (get_or order m 0)
    seek-held-at m u g e = skip m (omega arith) g ∙ seek-here w used sets order m u (slots m u).0 e

    pub seek-room-at : (m : ℕ) → m ≤ used → ((k : ℕ) → k < m → cmp w (at k) ≡ Ordering.gt) → ((k : ℕ) → m ≤ k → k < used → cmp w (at k) ≡ Ordering.lt) → seek w sets (span order 0 (used - 0)) 0 ≡ Err m
    seek-room-at m h g l =
        skip m h g
        ∙ ⊎_elim (λ e. seek-over w used sets order m (omega arith)) (λ u. seek-low w used sets order m u (slots m u).0 (l m (omega arith) u)) (eq-or-lt_of_le h)

  pub held-at : (rise : (k : ℕ) → suc k < used → cmp (at k) (at (suc k)) ≡ Ordering.lt) (slots : (k : ℕ) → k < used → (1 ≤ get_or order k 0) × (get_or order k 0 ≤ used)) (m : ℕ) → m < used → cmp w (at m) ≡ Ordering.eq → seek w sets (span order 0 (used - 0)) 0 ≡ Ok (get_or order m 0)
  held-at rise slots m u e =
      seek-held-at slots m u (λ k l. lt_gt (at k) w (subst (λ r. cmp (at k) r ≡ Ordering.lt) (sym (cmp-eq w (at m) e)) (rises rise k m l u))) e
