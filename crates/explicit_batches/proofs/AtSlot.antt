-- The explicit kind's code at a slot: how it reads a series, records one value and puts the series back (`Slotted`). Assumes nothing.
use Prim.Native.Nat.{ℕ, ◌≤◌}
use mathlib.Core.Path.{◌≡◌, refl, sym, ap, subst, ◌∙◌}
use mathlib.Core.Logic.{⊎_elim}
use mathlib.Core.Bool.{Bool, true, false}
use mathlib.Core.List.{List, []}
use native.Mathlib.Omega.{arith}
use lib.ListN.{length, get_or, replicate, length-set, length-replicate}
use lib.Seq.{get_or-set_same, set-set}
use lib.Ieee.{Float, nan, binary64, fits}
use lib.Ieee.Scale.{finite}
use Rattle.laws.specs.Pick.{pick}
use Rattle.laws.specs.Said.{Said, refusal, success, number}
use Rattle.laws.proofs.Bools.{flag, not-both, and_intro, pick_true, pick-false}
use Rattle.rows.specs.Recording.{Recording, after}
use Rattle.rows.proofs.Parts.{part_length, put-length, put-own}
use Rattle.many.proofs.Turns.{either}
use Rattle.points.specs.Explicit.{bucket_count}
use Rattle.kinds.specs.Histograms.{histograms}
use Rattle.explicit.specs.declared.Head.{Head}
use Rattle.explicit.specs.Series.{Outcome, refusal_of, recording}
use Rattle.explicit.proofs.Cases.{not_finite}
use Rattle.explicit.proofs.Writes.{refused_law}
use Rattle.explicit.proofs.Listed.{accepted-is, stays-long}
use Rattle.explicit_slots.specs.Cells.{Cells, Room, row_at, written, recorded_at}
use Rattle.value_map.specs.Explicit.{explicit_store}
use Rattle.batches.proofs.Slotted.{Slotted}
use Rattle.batches.proofs.Puts.{put-put}
use Rattle.explicit_batches.specs.Values.{Series, head_after, step}
use Rattle.explicit_batches.specs.Slot.{load, extremes_of, put}

-- ---- one value, whatever the series

module _ (bs : List Float) (s : Series) (v : Float) where
  abbrev no : ℕ
  no = refusal_of bs s.head s.counts v

  abbrev o : Outcome
  o = recording bs s.head s.counts v

  -- what an outcome leaves
  abbrev leaving : Outcome → Recording Series
  leaving y = after (number y.answer) (record { head = head_after y.answer s.head; counts = y.counts })

  stays : (no ≡ 0 → ⊥) → after no s ≡ step bs s v
  unfolding step
  stays d = ap leaving (refused_law bs s.head s.counts v no refl d)

  pub kept : ((step bs s v).no ≡ 0 → ⊥) → (step bs s v).cells ≡ s
  unfolding step
  kept d =
      either no
      (λ e. absurd (d (ap (λ (y : Outcome). number y.answer) (accepted-is bs s.head s.counts v e))))
      (λ k. ap (λ (y : Recording Series). y.cells) (sym (stays k)))

  taken_not : (step bs s v).no ≡ 0 → no ≡ 0
  taken_not z = either no (λ e. e) (λ k. absurd (k (ap (λ (y : Recording Series). y.no) (stays k) ∙ z)))

  pub long-next : bucket_count bs ≤ length s.counts → (step bs s v).no ≡ 0 → length (step bs s v).cells.counts ≡ length s.counts
  unfolding step
  long-next l z =
      subst (λ (y : Outcome). length y.counts ≡ length s.counts) (sym (accepted-is bs s.head s.counts v (taken_not z)))
      (stays-long bs s.head.count s.counts v l)

-- ---- a slot, and a series in it

module _ (bs : List Float) (c : Cells) (x : ℕ) where
  abbrev n : ℕ
  n = bucket_count bs

  module _ (u : Bool) (r : Room bs c x) where
    abbrev s : Series
    s = load bs c x u

    pub long : length s.counts ≡ n
    long =
        ⊎_elim
        (λ (e : u ≡ true). ap (λ (l : List ℕ). length l) (pick_true u (row_at bs c.counts x) (replicate n 0) e) ∙ part_length n c.counts x r.counts)
        (λ (e : u ≡ false). ap (λ (l : List ℕ). length l) (pick-false u (row_at bs c.counts x) (replicate n 0) e) ∙ length-replicate {A = ℕ} n 0)
        (flag u)

    module _ (v : Float) where
      pub wild : fits binary64 v ≡ true → histograms.finite v ≡ false → (step bs s v).no ≡ 6
      wild t q =
          let k : finite v ≡ false = ⊎_elim (λ (e : finite v ≡ true). absurd (not-both (histograms.finite v) (and_intro (finite v) (fits binary64 v) e t) q)) (λ (e : finite v ≡ false). e) (flag (finite v)) in
          let e = not_finite bs s.head s.counts v (omega (arith, long)) k in
          ap (λ (y : Recording Series). y.no) (sym (stays bs s v (λ i. omega (arith, e, i)))) ∙ sym e

      pub numbers : (recorded_at bs x u c v).no ≡ (step bs s v).no
      unfolding recorded_at step
      numbers = go (o bs s v).answer
        where
          go : (a : Said Head) → (written bs x c a (o bs s v).counts).no ≡ number a
          go (refusal k) = refl
          go (success h) = refl

      pub took : (step bs s v).no ≡ 0 → recorded_at bs x u c v ≡ after 0 (put bs c x (step bs s v).cells)
      unfolding recorded_at step
      took z =
          subst (λ (y : Outcome). written bs x c y.answer y.counts ≡ after 0 (put bs c x (record { head = head_after y.answer s.head; counts = y.counts })))
          (sym (accepted-is bs s.head s.counts v (taken_not bs s v z))) refl

  module _ (s : Series) (r : Room bs c x) (l : length s.counts ≡ n) where
    pub read_back : load bs (put bs c x s) x true ≡ s
    unfolding pick
    read_back =
        let t = get_or-set_same c.totals x s.head.count 0 r.totals in
        let e = get_or-set_same c.extremes x (extremes_of s.head) [] r.extremes in
        λ j. record {
          head = record { count = t j; min = get_or (e j) 0 nan; max = get_or (e j) 1 nan; sum = get_or (e j) 2 nan };
          counts = put-own n c.counts x r.counts s.counts l j;
        }

    pub put-again : (t : Series) → put bs (put bs c x s) x t ≡ put bs c x t
    put-again t =
        λ j. record {
          totals = set-set c.totals x s.head.count t.head.count j;
          extremes = set-set c.extremes x (extremes_of s.head) (extremes_of t.head) j;
          counts = put-put n c.counts x s.counts t.counts r.counts l j;
        }

    pub put-room : Room bs (put bs c x s) x
    put-room =
        record {
          totals = omega (arith, r.totals, length-set c.totals x s.head.count);
          extremes = omega (arith, r.extremes, length-set c.extremes x (extremes_of s.head));
          counts = omega (arith, r.counts, put-length n c.counts x r.counts s.counts l);
        }

-- ---- the instance

abbrev pub slotted : (bs : List Float) → Slotted (explicit_store bs) (true, true)
slotted bs =
    record {
      Series = Series;
      load = load bs;
      put = put bs;
      step = step bs;
      Shape = λ v. fits binary64 v ≡ true;
      nought = nan;
      Fitting = λ s. length s.counts ≡ bucket_count bs;
      unchanged = λ c x u v r t d. kept bs (load bs c x u) v d;
      wild = λ c x u v r t q. wild bs c x u r.room v t q;
      refused = λ c x u v r t q d. numbers bs c x u r.room v;
      took = λ c x u v r t q e. (
        took bs c x u r.room v e,
        long-next bs (load bs c x u) v (let k = long bs c x u r.room in omega (arith, k)) e ∙ long bs c x u r.room,
      );
      read_back = λ c x s r g. read_back bs c x s r g;
      put-again = λ c x s t r g. put-again bs c x s r g t;
      put-room = λ c x s r g. put-room bs c x s r g;
    }
