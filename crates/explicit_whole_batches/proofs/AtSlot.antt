-- The explicit kind's code at a slot over i64: how it reads a series, records one value and puts the series back (`Slotted`). Assumes nothing.
use Prim.Native.Nat.{ℕ, ◌≤◌}
use mathlib.Core.Path.{◌≡◌, refl, sym, ap, subst, ◌∙◌}
use mathlib.Core.Logic.{⊎_elim}
use mathlib.Core.Bool.{Bool, true, false}
use mathlib.Core.List.{List, []}
use native.Mathlib.Omega.{arith}
use lib.IntN.{ℤ, pos}
use lib.ListN.{length, get_or, replicate, length-set, length-replicate}
use lib.Seq.{get_or-set_same, set-set}
use lib.Ieee.{Float}
use Rattle.laws.specs.Pick.{pick}
use Rattle.laws.specs.Said.{Said, refusal, success, number}
use Rattle.laws.proofs.Bools.{flag, pick_true, pick-false}
use Rattle.integers.specs.Answers.{nearest_of}
use Rattle.rows.specs.Recording.{Recording, after}
use Rattle.rows.proofs.Parts.{part_length, put-length, put-own}
use Rattle.many.proofs.Turns.{either}
use Rattle.points.specs.Explicit.{bucket_count}
use Rattle.kinds.specs.Wholes.{wholes}
use Rattle.explicit.proofs.Listed.{stays-long}
use Rattle.explicit_wholes.specs.declared.Head.{Head}
use Rattle.explicit_wholes.specs.Series.{Outcome, refusal_of, recording}
use Rattle.explicit_whole_slots.specs.Cells.{Cells, Room, row_at, written, recorded_at}
use Rattle.explicit_whole_slots.proofs.Numbers.{refused_law, accepted-is}
use Rattle.whole_map.specs.Explicit.{explicit_wholes}
use Rattle.batches.proofs.Slotted.{Slotted}
use Rattle.batches.proofs.Puts.{put-put}
use Rattle.explicit_whole_batches.specs.Values.{Series, leaving, step}
use Rattle.explicit_whole_batches.specs.Slot.{load, extremes_of, put}

-- ---- one value, whatever the series

module _ (bs : List Float) (sums : Bool) (s : Series) (v : ℤ) where
  abbrev no : ℕ
  no = refusal_of bs sums s.head s.counts v

  abbrev o : Outcome
  o = recording bs sums s.head s.counts v

  -- no i64
  outside : wholes.finite v ≡ false → step bs sums s v ≡ after 6 s
  unfolding step
  outside q = pick-false _ _ _ q

  module _ (f : wholes.finite v ≡ true) where
    pub step_is : leaving s o ≡ step bs sums s v
    unfolding step
    step_is = sym (pick_true _ _ _ f)

    stays : (no ≡ 0 → ⊥) → after no s ≡ step bs sums s v
    stays d = ap (leaving s) (refused_law bs sums s.head s.counts v no refl d) ∙ step_is

    taken_not : (step bs sums s v).no ≡ 0 → no ≡ 0
    taken_not z = either no (λ e. e) (λ k. absurd (k (ap (λ (y : Recording Series). y.no) (stays k) ∙ z)))

    same_if : ((step bs sums s v).no ≡ 0 → ⊥) → (step bs sums s v).cells ≡ s
    same_if d =
        either no
        (λ e. absurd (d (ap (λ (y : Recording Series). y.no) (sym step_is) ∙ ap (λ (y : Outcome). number y.answer) (accepted-is bs sums s.head s.counts v e))))
        (λ k. ap (λ (y : Recording Series). y.cells) (sym (stays k)))

    pub long-next : bucket_count bs ≤ length s.counts → (step bs sums s v).no ≡ 0 → length (step bs sums s v).cells.counts ≡ length s.counts
    long-next l z =
        ap (λ (y : Recording Series). length y.cells.counts) (sym step_is)
        ∙ subst (λ (y : Outcome). length y.counts ≡ length s.counts) (sym (accepted-is bs sums s.head s.counts v (taken_not z)))
        (stays-long bs s.head.count s.counts (nearest_of v) l)

  pub kept : ((step bs sums s v).no ≡ 0 → ⊥) → (step bs sums s v).cells ≡ s
  kept d =
      ⊎_elim (λ (f : wholes.finite v ≡ true). same_if f d)
      (λ (f : wholes.finite v ≡ false). ap (λ (y : Recording Series). y.cells) (outside f))
      (flag (wholes.finite v))

  pub wild : wholes.finite v ≡ false → (step bs sums s v).no ≡ 6
  wild q = ap (λ (y : Recording Series). y.no) (outside q)

-- ---- a slot, and a series in it

module _ (bs : List Float) (c : Cells) (x : ℕ) where
  abbrev n : ℕ
  n = bucket_count bs

  module _ (u : Bool) (r : Room bs c x) where
    abbrev s : Series
    s = load bs c x u

    pub long : length s.counts ≡ n
    long =
        ⊎_elim
        (λ (e : u ≡ true). ap (λ (l : List ℕ). length l) (pick_true u (row_at bs c.counts x) (replicate n 0) e) ∙ part_length n c.counts x r.counts)
        (λ (e : u ≡ false). ap (λ (l : List ℕ). length l) (pick-false u (row_at bs c.counts x) (replicate n 0) e) ∙ length-replicate {A = ℕ} n 0)
        (flag u)

    module _ (sums : Bool) (v : ℤ) (f : wholes.finite v ≡ true) where
      pub numbers : (recorded_at bs sums x u c v).no ≡ (step bs sums s v).no
      unfolding recorded_at
      numbers = go (o bs sums s v).answer ∙ ap (λ (y : Recording Series). y.no) (step_is bs sums s v f)
        where
          go : (a : Said Head) → (written bs x c a (o bs sums s v).counts).no ≡ number a
          go (refusal k) = refl
          go (success h) = refl

      pub took : (step bs sums s v).no ≡ 0 → recorded_at bs sums x u c v ≡ after 0 (put bs c x (step bs sums s v).cells)
      unfolding recorded_at
      took z =
          subst (λ (y : Outcome). written bs x c y.answer y.counts ≡ after 0 (put bs c x (leaving s y).cells))
          (sym (accepted-is bs sums s.head s.counts v (taken_not bs sums s v f z))) refl
          ∙ ap (λ (y : Recording Series). after 0 (put bs c x y.cells)) (step_is bs sums s v f)

  module _ (s : Series) (r : Room bs c x) (l : length s.counts ≡ n) where
    pub read_back : load bs (put bs c x s) x true ≡ s
    unfolding pick
    read_back =
        let t = get_or-set_same c.totals x s.head.count 0 r.totals in
        let e = get_or-set_same c.extremes x (extremes_of s.head) [] r.extremes in
        λ j. record {
          head = record { count = t j; min = get_or (e j) 0 (pos 0); max = get_or (e j) 1 (pos 0); sum = get_or (e j) 2 (pos 0) };
          counts = put-own n c.counts x r.counts s.counts l j;
        }

    pub put-again : (t : Series) → put bs (put bs c x s) x t ≡ put bs c x t
    put-again t =
        λ j. record {
          totals = set-set c.totals x s.head.count t.head.count j;
          extremes = set-set c.extremes x (extremes_of s.head) (extremes_of t.head) j;
          counts = put-put n c.counts x s.counts t.counts r.counts l j;
        }

    pub put-room : Room bs (put bs c x s) x
    put-room =
        record {
          totals = omega (arith, r.totals, length-set c.totals x s.head.count);
          extremes = omega (arith, r.extremes, length-set c.extremes x (extremes_of s.head));
          counts = omega (arith, r.counts, put-length n c.counts x r.counts s.counts l);
        }

-- ---- the instance

abbrev pub slotted : (bs : List Float) (sums : Bool) → Slotted (explicit_wholes bs sums) true
slotted bs sums =
    record {
      Series = Series;
      load = load bs;
      put = put bs;
      step = step bs sums;
      Shape = λ v. Unit {0};
      nought = pos 0;
      Fitting = λ s. length s.counts ≡ bucket_count bs;
      unchanged = λ c x u v r t d. kept bs sums (load bs c x u) v d;
      wild = λ c x u v r t q. wild bs sums (load bs c x u) v q;
      refused = λ c x u v r t q d. numbers bs c x u r.room sums v q;
      took = λ c x u v r t q e. (
        took bs c x u r.room sums v q e,
        long-next bs sums (load bs c x u) v q (let k = long bs c x u r.room in omega (arith, k)) e ∙ long bs c x u r.room,
      );
      read_back = λ c x s r g. read_back bs c x s r g;
      put-again = λ c x s t r g. put-again bs c x s r g t;
      put-room = λ c x s r g. put-room bs c x s r g;
    }
