-- Recording into a slot as the map asks it of a kind: its number, the value added to the slot's series, the others as they were.
-- Assumes nothing.
use Prim.Native.Nat.{ℕ, suc, ◌^◌, ◌≤◌, ◌<◌}
use mathlib.Core.Path.{◌≡◌, refl, ap, sym, subst, ◌∙◌}
use mathlib.Core.Logic.{⊎_elim, ◌≢◌}
use mathlib.Core.Bool.{Bool, true, false, ◌&&◌}
use mathlib.Core.List.{List, [], ◌∷◌}
use mathlib.Core.Option
use mathlib.Core.Option.{Option, none, some}
use native.Mathlib.Omega.{arith}
use lib.ListN.{length, get_or, replicate, length-set, length-replicate}
use lib.Seq.{get_or-set_same, get_or-set_other}
use lib.IntN.{ℤ}
use lib.Ieee.{Float}
use borrow.Author.Tests.{ltb-true, ltb-false}
use Rattle.laws.specs.Pick.{pick}
use Rattle.laws.specs.Said.{Said, refusal, success}
use Rattle.laws.proofs.Bools.{flag, not-both, and_intro}
use Rattle.rows.specs.Recording.{Recording}
use Rattle.rows.proofs.Parts.{part_length, put-length, put-own, put_other}
use Rattle.rows.specs.Rows.{over}
use Rattle.rows.proofs.Laws.{length_over}
use Rattle.points.specs.Explicit.{bucket_count, bounds_pass, buckets_of, record_bucket, buckets_agree}
use Rattle.integers.specs.Answers.{nearest_of}
use Rattle.points.specs.Counts.{Settings, explicit, explicit_counts}
use Rattle.points.specs.Any.{noted, Figures}
use Rattle.points.specs.Whole.{whole}
use Rattle.laws.proofs.Cases.{and-true, true-not-false}
use Rattle.tally.specs.Map.{sound}
use Rattle.tally.proofs.MapSteps.{fits}
use Rattle.kinds.specs.Wholes.{wholes}
use Rattle.explicit.specs.Series.{buckets_in}
use Rattle.explicit.proofs.Cases.{refuse}
use Rattle.explicit.proofs.Listed.{fresh-is, reads, stays-long}
use Rattle.explicit_wholes.specs.declared.Head.{Head}
use Rattle.explicit_wholes.specs.Series.{head_of, summary, fresh_head, refusal_of, outcome, accepted, recording}
use Rattle.explicit_whole_slots.specs.Cells.{Cells, Room, row_at, head_in, head_at, counts_at, series_at, written, entering, recorded_at}
use Rattle.explicit_whole_slots.proofs.Numbers.{disagrees, full-refused, none-refused, barred-refused, refused_law, accepted-is, zero-takes}
use Rattle.explicit_whole_slots.proofs.Enters.{zeros, begun-taken, enters-held, enters_bad, enters-first, call}
use Rattle.laws.specs.Counting.{most_count}

-- stores as long as they were
pub record Long (s after : Cells) : Type 0 where
  pub totals : length after.totals ≡ length s.totals
  pub extremes : length after.extremes ≡ length s.extremes
  pub counts : length after.counts ≡ length s.counts

-- ---- a slot's cells written

module _ (bounds : List Float) (s : Cells) (x : ℕ) (r : Room bounds s x) where
  abbrev n : ℕ
  n = bucket_count bounds

  abbrev row : List ℕ
  row = row_at bounds s.counts x

  long : length row ≡ n
  long = part_length n s.counts x r.counts

  module _ (h : Head) (ys : List ℕ) (l : length ys ≡ n) where
    abbrev after : Cells
    after = (written bounds x s (success h) ys).cells

    at_slot : series_at bounds after x ≡ record { counts = explicit_counts bounds (buckets_in bounds h.count ys); summary = summary h }
    at_slot =
        let a = get_or-set_same s.totals x h.count 0 r.totals in
        let b = get_or-set_same s.extremes x (h.min ∷ h.max ∷ h.sum ∷ []) [] r.extremes in
        let c = put-own n s.counts x r.counts ys l in
        λ j. record {
          counts = explicit_counts bounds (buckets_in bounds (a j) (c j));
          summary = record { min = get_or (b j) 0 whole.zero; max = get_or (b j) 1 whole.zero; sum = get_or (b j) 2 whole.zero };
        }

    beside : (y : ℕ) → y ≢ x → series_at bounds after y ≡ series_at bounds s y
    beside y d =
        let a = get_or-set_other s.totals x y h.count 0 d in
        let b = get_or-set_other s.extremes x y (h.min ∷ h.max ∷ h.sum ∷ []) [] d in
        let c = put_other n s.counts x r.counts ys l y d in
        λ j. record {
          counts = explicit_counts bounds (buckets_in bounds (a j) (c j));
          summary = record { min = get_or (b j) 0 whole.zero; max = get_or (b j) 1 whole.zero; sum = get_or (b j) 2 whole.zero };
        }

    as_long : Long s after
    as_long =
        record {
          totals = length-set s.totals x h.count;
          extremes = length-set s.extremes x (h.min ∷ h.max ∷ h.sum ∷ []);
          counts = put-length n s.counts x r.counts ys l;
        }

-- ---- refusals

module _ (bounds : List Float) (sums : Bool) (x : ℕ) (u : Bool) (s : Cells) (v : ℤ) where
  -- a number other than 0 leaves the stores
  pub refused-same : (recorded_at bounds sums x u s v).no ≢ 0 → (recorded_at bounds sums x u s v).cells ≡ s
  unfolding recorded_at
  refused-same = let o = recording bounds sums (head_at s x u) (counts_at bounds s x u) v in go o.answer o.counts
    where
      go : (a : Said Head) (xs : List ℕ) → (written bounds x s a xs).no ≢ 0 → (written bounds x s a xs).cells ≡ s
      go (refusal n) xs d = refl
      go (success h) xs d = absurd (d refl)

  -- 8 under bounds that do not pass
  pub bad-bounds : Room bounds s x → wholes.finite v ≡ true → bounds_pass bounds ≡ false → recorded_at bounds sums x u s v ≡ record { no = 8; cells = s }
  bad-bounds r f b =
      let h = head_in s x in
      let xs = row_at bounds s.counts x in
      let no : buckets_agree bounds (buckets_in bounds h.count xs) ≡ false = sym (refuse bounds h.count xs (λ k. not-both (bounds_pass bounds) k.passes b)) in
      let eight : 8 ≡ refusal_of bounds sums h xs v = disagrees bounds sums h xs v (omega (arith, long bounds s x r)) f no in
      let o : outcome (refusal 8) xs ≡ entering bounds sums u h xs v =
      ⊎_elim
      (λ (t : u ≡ true). refused_law bounds sums h xs v 8 eight (λ z. omega (arith, z)) ∙ sym (enters-held bounds sums u h xs v t))
      (λ (t : u ≡ false). sym (enters_bad bounds sums u h xs v t b))
      (flag u)
      in
      sym (call bounds sums x u s v r f (refusal 8) xs o)

-- ---- numbers

module _ (bounds : List Float) (sums e : Bool) (t : Float) where
  -- the explicit kind with these bounds, whatever its switches and its threshold
  abbrev pub settings : Settings
  settings = record { kind = explicit bounds; extremes = e; sums = sums; threshold = t }

  module _ (s : Cells) (x : ℕ) (r : Room bounds s x) (v : ℤ) (f : wholes.finite v ≡ true) where
    abbrev held : Figures whole
    held = series_at bounds s x

    abbrev xs : List ℕ
    xs = row_at bounds s.counts x

    abbrev total : ℕ
    total = get_or s.totals x 0

    -- what the value was added to, and what is left
    pub record Added (was : Figures whole) (after : Cells) : Type 0 where
      pub series : series_at bounds after x ≡ wholes.add settings was v
      pub others : (y : ℕ) → y ≢ x → series_at bounds after y ≡ series_at bounds s y
      pub lengths : Long s after

    abbrev pub Took : Bool → Figures whole → Type 0
    Took u was = ((recorded_at bounds sums x u s v).no ≡ 0) × Added was (recorded_at bounds sums x u s v).cells

    -- a head and a row recorded into leave their figures in the slot, with the value added
    taken : (u : Bool) (h : Head) (ys : List ℕ) → length ys ≡ bucket_count bounds
        → entering bounds sums u (head_in s x) xs v ≡ accepted (record_bucket bounds (buckets_in bounds h.count ys) (nearest_of v)) sums h ys v
        → (was : Figures whole) → was ≡ record { counts = explicit_counts bounds (buckets_in bounds h.count ys); summary = summary h }
        → Took u was
    taken u h ys l e was i =
        let q = record_bucket bounds (buckets_in bounds h.count ys) (nearest_of v) in
        let g = head_of q.total (noted whole sums (summary h) v) in
        let zs = over q.counts ys in
        let k : bucket_count bounds ≤ length ys = omega (arith, l) in
        let lz : length zs ≡ bucket_count bounds = stays-long bounds h.count ys (nearest_of v) k ∙ l in
        subst (λ (o : Recording Cells). (o.no ≡ 0) × Added was o.cells) (call bounds sums x u s v r f (success g) zs (sym e)) (
          refl,
          record {
            series = at_slot bounds s x r g zs lz
                ∙ (λ j. record { counts = explicit_counts bounds (reads bounds h.count ys (nearest_of v) k j); summary = noted whole sums (summary h) v })
                ∙ ap (λ (w : Figures whole). wholes.add settings w v) (sym i);
            others = beside bounds s x r g zs lz;
            lengths = as_long bounds s x r g zs lz;
          },
        )

    -- of a series that was recorded into before

    refused : (k : ℕ) → k ≡ refusal_of bounds sums (head_in s x) xs v → k ≢ 0 → recorded_at bounds sums x true s v ≡ record { no = k; cells = s }
    refused k i z =
        sym (call bounds sums x true s v r f (refusal k) xs (refused_law bounds sums (head_in s x) xs v k i z ∙ sym (enters-held bounds sums true (head_in s x) xs v refl)))

    at_least : bucket_count bounds ≤ length xs
    at_least = omega (arith, long bounds s x r)

    counts-false : wholes.agrees settings held ≡ false → buckets_agree bounds (buckets_in bounds total xs) ≡ false
    counts-false a = ⊎_elim (λ (y : buckets_agree bounds (buckets_in bounds total xs) ≡ true). absurd (not-both (wholes.agrees settings held) (and_intro (buckets_agree bounds (buckets_in bounds total xs)) (true && true) y refl) a))
        (λ (n : buckets_agree bounds (buckets_in bounds total xs) ≡ false). n) (flag (buckets_agree bounds (buckets_in bounds total xs)))

    held_8 : wholes.agrees settings held ≡ false → recorded_at bounds sums x true s v ≡ record { no = 8; cells = s }
    held_8 a = refused 8 (disagrees bounds sums (head_in s x) xs v at_least f (counts-false a)) (λ z. omega (arith, z))

    module _ (a : wholes.agrees settings held ≡ true) where
      agrees : buckets_agree bounds (buckets_in bounds total xs) ≡ true
      agrees = (and-true (buckets_agree bounds (buckets_in bounds total xs)) (true && true) a).0

      held_9 : fits (suc total) ≡ false → recorded_at bounds sums x true s v ≡ record { no = 9; cells = s }
      held_9 b = refused 9 (full-refused bounds sums (head_in s x) xs v at_least f agrees (omega (arith, ltb-false (suc total) (2 ^ 64) b))) (λ z. omega (arith, z))

      module _ (b : fits (suc total) ≡ true) where
        room-left : total < most_count
        room-left = omega (arith, ltb-true (suc total) (2 ^ 64) b)

        held_16 : whole.takes sums (head_in s x).sum v ≡ false → recorded_at bounds sums x true s v ≡ record { no = 16; cells = s }
        held_16 t = refused 16 (barred-refused bounds sums (head_in s x) xs v at_least f agrees room-left t) (λ z. omega (arith, z))

        held_0 : whole.takes sums (head_in s x).sum v ≡ true → Took true held
        held_0 t =
            let h = head_in s x in
            taken true h xs (long bounds s x r) (enters-held bounds sums true h xs v refl ∙ accepted-is bounds sums h xs v (none-refused bounds sums h xs v at_least f agrees room-left t)) held refl

    -- a first value is added to a fresh series
    first_0 : bounds_pass bounds ≡ true → Took false (wholes.fresh settings)
    first_0 p =
        let k : bucket_count bounds ≤ length xs = omega (arith, long bounds s x r) in
        let zs = zeros bounds sums xs k in
        let l : length zs ≡ bucket_count bounds = length_over (replicate (bucket_count bounds) 0) xs (omega (arith, k, length-replicate {A = ℕ} (bucket_count bounds) 0)) ∙ long bounds s x r in
        taken false fresh_head zs l (enters-first bounds sums false (head_in s x) xs v refl p ∙ begun-taken bounds sums xs k v p f) (wholes.fresh settings)
        (λ j. record { counts = explicit_counts bounds (sym (fresh-is bounds xs) j); summary = summary fresh_head })

    -- ---- THE LAWS: 8 where the series disagrees, 9 where its count is full, else the value is added to it, or to a fresh one

    -- the series that the slot holds, where it was updated
    abbrev pub there : Bool → Option (Figures whole)
    there u = pick u (some held) none

    pub disagreeing : (u : Bool) → sound wholes settings (there u) ≡ false → recorded_at bounds sums x u s v ≡ record { no = 8; cells = s }
    unfolding pick
    disagreeing true a = held_8 a
    disagreeing false a = true-not-false a

    pub full : (u : Bool) → sound wholes settings (there u) ≡ true → fits (suc (wholes.total (Option.get_or (there u) (wholes.fresh settings)))) ≡ false
        → recorded_at bounds sums x u s v ≡ record { no = 9; cells = s }
    unfolding buckets_of pick
    full true a b = held_9 a b
    full false a b = true-not-false b

    pub barred : (u : Bool) → sound wholes settings (there u) ≡ true → fits (suc (wholes.total (Option.get_or (there u) (wholes.fresh settings)))) ≡ true
        → wholes.allows settings (Option.get_or (there u) (wholes.fresh settings)) v ≡ false → recorded_at bounds sums x u s v ≡ record { no = 16; cells = s }
    unfolding pick
    barred true a b t = held_16 a b t
    barred false a b t = absurd (not-both (whole.takes sums whole.zero v) (zero-takes sums v f) t)

    pub took : bounds_pass bounds ≡ true → (u : Bool) → sound wholes settings (there u) ≡ true → fits (suc (wholes.total (Option.get_or (there u) (wholes.fresh settings)))) ≡ true
        → wholes.allows settings (Option.get_or (there u) (wholes.fresh settings)) v ≡ true → Took u (Option.get_or (there u) (wholes.fresh settings))
    unfolding pick
    took p true a b t = held_0 a b t
    took p false a b t = first_0 p
