-- Recording into a slot as the map asks it of a kind: its number, the value added to the slot's series, the others as they were.
-- Assumes nothing.
use Prim.Native.Nat.{ℕ, suc, ◌^◌, ◌≤◌, ◌<◌}
use mathlib.Core.Path.{◌≡◌, refl, ap, sym, subst, ◌∙◌}
use mathlib.Core.Logic.{⊎_elim, ◌≢◌}
use mathlib.Core.Bool.{Bool, true, false}
use mathlib.Core.List.{List, [], ◌∷◌}
use mathlib.Core.Option
use mathlib.Core.Option.{Option, none, some}
use native.Mathlib.Omega.{arith}
use lib.Dec.{leb}
use lib.ListN.{length, get_or, replicate, length-set, length-replicate}
use lib.Seq.{get_or-set_same, get_or-set_other}
use lib.Ieee.{Float, nan}
use lib.Ieee.Scale.{finite}
use borrow.Author.Tests.{le-leb, lt-leb, ltb-true, ltb-false}
use Rattle.laws.specs.Pick.{pick}
use Rattle.laws.specs.Said.{Said, refusal, success}
use Rattle.laws.proofs.Bools.{flag, not-both, pick_true, pick-false}
use Rattle.rows.specs.Recording.{Recording}
use Rattle.rows.proofs.Parts.{part_length, put-length, put-own, put_other}
use Rattle.rows.specs.Rows.{over}
use Rattle.rows.proofs.Laws.{length_over}
use Rattle.points.specs.Explicit.{bucket_count, bounds_pass, buckets_of, record_bucket, buckets_agree}
use Rattle.points.specs.Values.{noted}
use Rattle.points.specs.Figures.{Settings, explicit, Figures, explicit_counts}
use Rattle.laws.proofs.Cases.{true-not-false}
use Rattle.tally.specs.Map.{sound}
use Rattle.tally.proofs.MapSteps.{fits}
use Rattle.kinds.specs.Histograms.{histograms}
use Rattle.explicit.specs.declared.Head.{Head}
use Rattle.explicit.specs.Series.{buckets_in, head_of, summary, fresh_head, refusal_of, outcome, accepted, recording}
use Rattle.explicit.proofs.Cases.{refuse, disagrees}
use Rattle.explicit.proofs.Writes.{refused_law}
use Rattle.explicit.proofs.Listed.{accepted-is, fresh-is, reads, stays-long}
use Rattle.explicit_slots.specs.Cells.{Cells, Room, row_at, head_in, head_at, counts_at, series_at, written, recorded_at}
use Rattle.explicit_slots.specs.Inner.{entering}
use Rattle.explicit_slots.proofs.Enters.{zeros, begun-taken, enters-held, enters_bad, enters-first, call}
use Rattle.laws.specs.Counting.{most_count}

-- stores as long as they were
pub record Long (s after : Cells) : Type 0 where
  pub totals : length after.totals ≡ length s.totals
  pub extremes : length after.extremes ≡ length s.extremes
  pub counts : length after.counts ≡ length s.counts

-- ---- a slot's cells written

module _ (bounds : List Float) (s : Cells) (x : ℕ) (r : Room bounds s x) where
  abbrev n : ℕ
  n = bucket_count bounds

  abbrev row : List ℕ
  row = row_at bounds s.counts x

  long : length row ≡ n
  long = part_length n s.counts x r.counts

  module _ (h : Head) (ys : List ℕ) (l : length ys ≡ n) where
    abbrev after : Cells
    after = (written bounds x s (success h) ys).cells

    at_slot : series_at bounds after x ≡ record { counts = explicit_counts bounds (buckets_in bounds h.count ys); summary = summary h }
    at_slot =
        let a = get_or-set_same s.totals x h.count 0 r.totals in
        let b = get_or-set_same s.extremes x (h.min ∷ h.max ∷ h.sum ∷ []) [] r.extremes in
        let c = put-own n s.counts x r.counts ys l in
        λ j. record {
          counts = explicit_counts bounds (buckets_in bounds (a j) (c j));
          summary = record { min = get_or (b j) 0 nan; max = get_or (b j) 1 nan; sum = get_or (b j) 2 nan };
        }

    beside : (y : ℕ) → y ≢ x → series_at bounds after y ≡ series_at bounds s y
    beside y d =
        let a = get_or-set_other s.totals x y h.count 0 d in
        let b = get_or-set_other s.extremes x y (h.min ∷ h.max ∷ h.sum ∷ []) [] d in
        let c = put_other n s.counts x r.counts ys l y d in
        λ j. record {
          counts = explicit_counts bounds (buckets_in bounds (a j) (c j));
          summary = record { min = get_or (b j) 0 nan; max = get_or (b j) 1 nan; sum = get_or (b j) 2 nan };
        }

    as_long : Long s after
    as_long =
        record {
          totals = length-set s.totals x h.count;
          extremes = length-set s.extremes x (h.min ∷ h.max ∷ h.sum ∷ []);
          counts = put-length n s.counts x r.counts ys l;
        }

-- ---- refusals

module _ (bounds : List Float) (x : ℕ) (u : Bool) (s : Cells) (v : Float) where
  -- a number other than 0 leaves the stores
  pub refused-same : (recorded_at bounds x u s v).no ≢ 0 → (recorded_at bounds x u s v).cells ≡ s
  unfolding recorded_at
  refused-same = let o = recording bounds (head_at s x u) (counts_at bounds s x u) v in go o.answer o.counts
    where
      go : (a : Said Head) (xs : List ℕ) → (written bounds x s a xs).no ≢ 0 → (written bounds x s a xs).cells ≡ s
      go (refusal n) xs d = refl
      go (success h) xs d = absurd (d refl)

  -- 8 under bounds that do not pass
  pub bad-bounds : Room bounds s x → finite v ≡ true → bounds_pass bounds ≡ false → recorded_at bounds x u s v ≡ record { no = 8; cells = s }
  bad-bounds r f b =
      let h = head_in s x in
      let xs = row_at bounds s.counts x in
      let no : buckets_agree bounds (buckets_in bounds h.count xs) ≡ false = sym (refuse bounds h.count xs (λ k. not-both (bounds_pass bounds) k.passes b)) in
      let eight : 8 ≡ refusal_of bounds h xs v = disagrees bounds h xs v (omega (arith, long bounds s x r)) f no in
      let o : outcome (refusal 8) xs ≡ entering bounds u h xs v =
      ⊎_elim
      (λ (t : u ≡ true). refused_law bounds h xs v 8 eight (λ z. omega (arith, z)) ∙ sym (enters-held bounds u h xs v t))
      (λ (t : u ≡ false). sym (enters_bad bounds u h xs v t b))
      (flag u)
      in
      sym (call bounds x u s v r f (refusal 8) xs o)

-- ---- numbers

module _ (bounds : List Float) (e m : Bool) (t : Float) where
  -- the explicit kind with these bounds, whatever its switches and its threshold
  abbrev pub settings : Settings
  settings = record { kind = explicit bounds; extremes = e; sums = m; threshold = t }

  module _ (s : Cells) (x : ℕ) (r : Room bounds s x) (v : Float) (f : finite v ≡ true) where
    abbrev held : Figures
    held = series_at bounds s x

    abbrev xs : List ℕ
    xs = row_at bounds s.counts x

    abbrev total : ℕ
    total = get_or s.totals x 0

    no-is : refusal_of bounds (head_in s x) xs v ≡ pick (histograms.agrees settings held) (pick (leb most_count total) 9 0) 8
    unfolding refusal_of
    no-is =
        pick_true (leb (bucket_count bounds) (length xs)) _ 12 (le-leb (bucket_count bounds) (length xs) (omega (arith, long bounds s x r)))
        ∙ pick_true (finite v) _ 6 f

    -- what the value was added to, and what is left
    pub record Added (was : Figures) (after : Cells) : Type 0 where
      pub series : series_at bounds after x ≡ histograms.add settings was v
      pub others : (y : ℕ) → y ≢ x → series_at bounds after y ≡ series_at bounds s y
      pub lengths : Long s after

    abbrev pub Took : Bool → Figures → Type 0
    Took u was = ((recorded_at bounds x u s v).no ≡ 0) × Added was (recorded_at bounds x u s v).cells

    -- a head and a row recorded into leave their figures in the slot, with the value added
    taken : (u : Bool) (h : Head) (ys : List ℕ) → length ys ≡ bucket_count bounds
        → entering bounds u (head_in s x) xs v ≡ accepted (record_bucket bounds (buckets_in bounds h.count ys) v) h ys v
        → (was : Figures) → was ≡ record { counts = explicit_counts bounds (buckets_in bounds h.count ys); summary = summary h }
        → Took u was
    taken u h ys l e was i =
        let q = record_bucket bounds (buckets_in bounds h.count ys) v in
        let g = head_of q.total (noted (summary h) v) in
        let zs = over q.counts ys in
        let k : bucket_count bounds ≤ length ys = omega (arith, l) in
        let lz : length zs ≡ bucket_count bounds = stays-long bounds h.count ys v k ∙ l in
        subst (λ (o : Recording Cells). (o.no ≡ 0) × Added was o.cells) (call bounds x u s v r f (success g) zs (sym e)) (
          refl,
          record {
            series = at_slot bounds s x r g zs lz
                ∙ (λ j. record { counts = explicit_counts bounds (reads bounds h.count ys v k j); summary = noted (summary h) v })
                ∙ ap (λ (w : Figures). histograms.add settings w v) (sym i);
            others = beside bounds s x r g zs lz;
            lengths = as_long bounds s x r g zs lz;
          },
        )

    -- of a series that was recorded into before

    refused : (k : ℕ) → k ≡ refusal_of bounds (head_in s x) xs v → k ≢ 0 → recorded_at bounds x true s v ≡ record { no = k; cells = s }
    refused k i z =
        sym (call bounds x true s v r f (refusal k) xs (refused_law bounds (head_in s x) xs v k i z ∙ sym (enters-held bounds true (head_in s x) xs v refl)))

    held_8 : histograms.agrees settings held ≡ false → recorded_at bounds x true s v ≡ record { no = 8; cells = s }
    held_8 a = refused 8 (sym (no-is ∙ pick-false (histograms.agrees settings held) _ 8 a)) (λ z. omega (arith, z))

    module _ (a : histograms.agrees settings held ≡ true) where
      by_count : refusal_of bounds (head_in s x) xs v ≡ pick (leb most_count total) 9 0
      by_count = no-is ∙ pick_true (histograms.agrees settings held) _ 8 a

      held_9 : fits (suc total) ≡ false → recorded_at bounds x true s v ≡ record { no = 9; cells = s }
      held_9 b =
          let full : most_count ≤ total = omega (arith, ltb-false (suc total) (2 ^ 64) b) in
          refused 9 (sym (by_count ∙ pick_true (leb most_count total) 9 0 (le-leb most_count total full))) (λ z. omega (arith, z))

      held_0 : fits (suc total) ≡ true → Took true held
      held_0 b =
          let h = head_in s x in
          let free : total < most_count = omega (arith, ltb-true (suc total) (2 ^ 64) b) in
          let z = by_count ∙ pick-false (leb most_count total) 9 0 (lt-leb most_count total free) in
          taken true h xs (long bounds s x r) (enters-held bounds true h xs v refl ∙ accepted-is bounds h xs v z) held refl

    -- a first value is added to a fresh series
    first_0 : bounds_pass bounds ≡ true → Took false (histograms.fresh settings)
    first_0 p =
        let k : bucket_count bounds ≤ length xs = omega (arith, long bounds s x r) in
        let zs = zeros bounds xs k in
        let l : length zs ≡ bucket_count bounds = length_over (replicate (bucket_count bounds) 0) xs (omega (arith, k, length-replicate {A = ℕ} (bucket_count bounds) 0)) ∙ long bounds s x r in
        taken false fresh_head zs l (enters-first bounds false (head_in s x) xs v refl p ∙ begun-taken bounds xs k v p f) (histograms.fresh settings)
        (λ j. record { counts = explicit_counts bounds (sym (fresh-is bounds xs) j); summary = summary fresh_head })

    -- ---- THE LAWS: 8 where the series disagrees, 9 where its count is full, else the value is added to it, or to a fresh one

    -- the series that the slot holds, where it was updated
    abbrev pub there : Bool → Option Figures
    there u = pick u (some held) none

    pub disagreeing : (u : Bool) → sound histograms settings (there u) ≡ false → recorded_at bounds x u s v ≡ record { no = 8; cells = s }
    unfolding pick
    disagreeing true a = held_8 a
    disagreeing false a = true-not-false a

    pub full : (u : Bool) → sound histograms settings (there u) ≡ true → fits (suc (histograms.total (Option.get_or (there u) (histograms.fresh settings)))) ≡ false
        → recorded_at bounds x u s v ≡ record { no = 9; cells = s }
    unfolding buckets_of pick
    full true a b = held_9 a b
    full false a b = true-not-false b

    pub took : bounds_pass bounds ≡ true → (u : Bool) → sound histograms settings (there u) ≡ true → fits (suc (histograms.total (Option.get_or (there u) (histograms.fresh settings)))) ≡ true
        → Took u (Option.get_or (there u) (histograms.fresh settings))
    unfolding pick
    took p true a b = held_0 a b
    took p false a b = first_0 p
