-- Values that enter a slot's row: whether its series agrees, where they start, and what the slot has then. Assumes nothing.
use Prim.Native.Nat.{ℕ, ◌≤◌}
use Rattle.std.specs.Prelude.{Result, Ok, Err}
use Rattle.std.specs.Result.{result_unwrap_or}
use Rattle.refusals.specs.Refusals.{said}
use Rattle.refusals.specs.declared.Refusal.{Refusal}
use Rattle.laws.proofs.Answers.{success?, value_in}
use mathlib.Core.Path.{◌≡◌, refl, sym, ap, subst, ◌∙◌}
use mathlib.Core.Logic.{⊎_elim}
use mathlib.Core.Bool.{Bool, true, false, ◌&&◌}
use mathlib.Core.List.{List, ◌∷◌, ◌++◌, append-nil}
use native.Mathlib.Omega.{arith}
use lib.Dec.{eqb}
use lib.ListN.{length, get_or, set, drop, replicate, length-replicate, drop_of_length-le}
use lib.Ieee.{Float, nan, binary64, fits}
use lib.Ieee.Scale.{finite}
use borrow.Author.Tests.{le-leb}
use Rattle.laws.specs.Pick.{pick}
use Rattle.laws.specs.Over.{over}
use Rattle.laws.specs.Said.{Said, success}
use Rattle.laws.proofs.Bools.{flag, and_left, and_right, pick-left, pick_true, pick-false}
use Rattle.laws.proofs.Cases.{true-not-false}
use Rattle.rows.specs.Parts.{part_at, put_at}
use Rattle.rows.proofs.Parts.{part_length, put_same}
use Rattle.many.specs.Many.{Many, many, stopped, each}
use Rattle.many.proofs.Turns.{each_on}
use Rattle.many.proofs.Alike.{pick_first, pick_second, Elements}
use Rattle.points.specs.Explicit.{bounds_pass, bucket_count, buckets_agree}
use Rattle.kinds.proofs.Recorded.{histograms-steady}
use Rattle.explicit.specs.declared.Head.{Head}
use Rattle.explicit.specs.Series.{outcome, buckets_in, fresh_head, freshening}
use Rattle.explicit.proofs.Listed.{fin-min, fin-max}
use Rattle.explicit_slots.specs.Cells.{Cells, head_in, row_at}
use Rattle.value_map.specs.Explicit.{explicit_store}
use Rattle.value_map.proofs.ExplicitOwes.{owed}
use Rattle.value_map.proofs.Values.{finite-is}
use Rattle.batches.specs.Inner.{recorded_all}
use Rattle.batches.specs.Asked.{Asked}
use Rattle.batches.proofs.Slotted.{Ready, unsound-all, slot-ends}
use Rattle.batches.proofs.Ends.{cut-first}
use Rattle.explicit_batches.specs.Values.{Series, step, Sound}
use Rattle.explicit_batches.specs.Slot.{load, extremes_of, put, agreeing, agrees_if, begun, entering}
use Rattle.explicit_batches.proofs.Values.{counted_none, bar-none, step_0}
use Rattle.explicit_batches.proofs.AtSlot.{slotted}

-- what is unwrapped of an answer that is no refusal, whatever stands by for one
pub unwrapped : {A : Type 0} (r : Result A Refusal) (d f : A) → said r ≡ success f → result_unwrap_or r d ≡ f
unwrapped (Ok a) d f e = ap (value_in f) e
unwrapped (Err n) d f e = true-not-false (sym (ap success? e))

-- ---- in a row

module _ (bs : List Float) (h : Head) (xs : List ℕ) where
  abbrev a? : Bool
  a? = buckets_agree bs (buckets_in bs h.count xs)

  pub bad-counts : a? ≡ false → false ≡ agreeing bs h xs
  unfolding agreeing
  bad-counts a = rw a

  module _ (a : a? ≡ true) where
    pub bad-min : finite h.min ≡ false → false ≡ agreeing bs h xs
    unfolding agreeing
    bad-min m = rw (a, m)

    pub by-max : finite h.min ≡ true → finite h.max ≡ agreeing bs h xs
    unfolding agreeing
    by-max m = rw (a, m)

  abbrev pub zeros : List ℕ
  zeros = over (replicate (bucket_count bs) 0) xs

  abbrev pub empty : Series
  empty = record { head = fresh_head; counts = zeros }

  module _ (u : Bool) where
    pub if-held : u ≡ true → agreeing bs h xs ≡ agrees_if bs u h xs
    unfolding agrees_if
    if-held e = sym (pick_true u _ _ e)

    pub if_none : u ≡ false → true ≡ agrees_if bs u h xs
    unfolding agrees_if
    if_none e = sym (pick-false u _ _ e)

    pub begun-held : u ≡ true → record { head = h; counts = xs } ≡ begun bs u h xs
    unfolding begun
    begun-held e = sym (pick_true u _ _ e)

    pub begun-empty : u ≡ false → empty ≡ begun bs u h xs
    unfolding begun
    begun-empty e = sym (pick-false u _ _ e)

  -- what `explicit::fresh` leaves
  pub fresh-is : bucket_count bs ≤ length xs → (a : Said Head) (ys : List ℕ) → outcome a ys ≡ freshening bs xs → outcome a ys ≡ outcome (success fresh_head) zeros
  unfolding freshening pick
  fresh-is l a ys e = e ∙ rw (le-leb (bucket_count bs) (length xs) l) refl

  module _ (p : bounds_pass bs ≡ true) (l : bucket_count bs ≤ length xs) where
    sound_empty : Sound bs empty
    sound_empty = record { counted = counted_none bs xs p l; min = fin-min; max = fin-max }

    -- a series to start from agrees
    pub sound-begun : (u : Bool) → agrees_if bs u h xs ≡ true → Sound bs (begun bs u h xs)
    unfolding agreeing
    sound-begun u a =
        ⊎_elim
        (λ (e : u ≡ true).
        let k = if-held u e ∙ a in
        let f = and_right a? (finite h.min && finite h.max) k in
        subst (Sound bs) (begun-held u e)
        (record {
          counted = record { agree = and_left a? (finite h.min && finite h.max) k; long = l };
          min = and_left (finite h.min) (finite h.max) f;
          max = and_right (finite h.min) (finite h.max) f;
        }))
        (λ (e : u ≡ false). subst (Sound bs) (begun-empty u e) sound_empty)
        (flag u)

    -- and a fresh one takes a finite value
    pub empty-takes : (v : Float) → finite v ≡ true → (step bs empty v).no ≡ 0
    empty-takes v f = step_0 bs empty v sound_empty (bar-none 0 v f (omega arith))

  module _ (u : Bool) (vs : List Float) where
    pub enters_8 : agrees_if bs u h xs ≡ false → stopped 8 (record { head = h; counts = xs }) ≡ entering bs u h xs vs
    unfolding entering
    enters_8 a = sym (pick-false _ _ _ a)

    pub enters : agrees_if bs u h xs ≡ true → (s : Series) → s ≡ begun bs u h xs → each (step bs) s vs ≡ entering bs u h xs vs
    unfolding entering
    enters a s e = ap (λ (y : Series). each (step bs) y vs) e ∙ sym (pick_true _ _ _ a)

-- ---- at a slot

module _ (known : Bool) (bs : List Float) (x : ℕ) (u : Bool) (c : Cells) (vs : List Float) (a : Asked (explicit_store bs) (true, true) nan known x u c vs) where
  abbrev n : ℕ
  n = bucket_count bs

  abbrev h : Head
  h = head_in c x

  abbrev xs : List ℕ
  xs = row_at bs c.counts x

  -- the first value
  abbrev one : Float
  one = get_or vs 0 nan

  cut : vs ≡ one ∷ drop 1 vs
  cut = cut-first vs nan a.some

  pub long-row : length xs ≡ n
  long-row = part_length n c.counts x a.room.counts

  -- what is known of the slot's series is known of its row
  pub known-row : known ≡ true → agrees_if bs u h xs ≡ true
  unfolding agreeing
  known-row k =
      ⊎_elim
      (λ (e : u ≡ true). sym (if-held bs h xs u e) ∙ a.series k e)
      (λ (e : u ≡ false). sym (if_none bs h xs u e))
      (flag u)

  -- in a row of its own length nothing lies behind zeros
  all-zeros : zeros bs h xs ≡ replicate n 0
  unfolding over
  all-zeros =
      let z : List ℕ = replicate n 0 in
      ap (λ (l : List ℕ). z ++ l) (drop_of_length-le xs {i = length z} (omega (arith, long-row, length-replicate {A = ℕ} n 0))) ∙ append-nil z

  loaded : begun bs u h xs ≡ load bs c x u
  loaded =
      ⊎_elim
      (λ (e : u ≡ true). sym (begun-held bs h xs u e) ∙ (λ j. record { head = sym (pick_true u h fresh_head e) j; counts = sym (pick_true u xs (replicate n 0) e) j }))
      (λ (e : u ≡ false). sym (begun-empty bs h xs u e)
      ∙ (λ j. record { head = sym (pick-false u h fresh_head e) j; counts = (all-zeros ∙ sym (pick-false u xs (replicate n 0) e)) j }))
      (flag u)

  pub passes : bounds_pass bs ≡ true
  passes = pick-left (bounds_pass bs) 0 3 (omega arith) a.set

  -- the loop left m, and the head was kept if anything was taken
  module _ (k : Elements (λ v. fits binary64 v ≡ true) nan vs) (m : Many Series) (e : m ≡ entering bs u h xs vs)
      (ts : List ℕ) (t : ts ≡ pick (eqb m.taken 0) c.totals (set c.totals x m.left.head.count))
      (es : List (List Float)) (r : es ≡ pick (eqb m.taken 0) c.extremes (set c.extremes x (extremes_of m.left.head)))
    where
      abbrev end : Cells
      end = record { totals = ts; extremes = es; counts = put_at n c.counts x m.left.counts }

      -- nothing taken, and the row as it was
      same : m.taken ≡ 0 → m.left.counts ≡ xs → end ≡ c
      same z l =
          λ j. record {
            totals = (t ∙ pick_first m.taken z c.totals (set c.totals x m.left.head.count)) j;
            extremes = (r ∙ pick_first m.taken z c.extremes (set c.extremes x (extremes_of m.left.head))) j;
            counts = (ap (put_at n c.counts x) l ∙ put_same n c.counts x) j;
          }

      on : (m.taken ≡ 0 → ⊥) → end ≡ put bs c x m.left
      on d =
          λ j. record {
            totals = (t ∙ pick_second m.taken d c.totals (set c.totals x m.left.head.count)) j;
            extremes = (r ∙ pick_second m.taken d c.extremes (set c.extremes x (extremes_of m.left.head))) j;
            counts = put_at n c.counts x m.left.counts;
          }

      module _ (g : agrees_if bs u h xs ≡ true) where
        ready : Ready (explicit_store bs) (true, true) x u c
        unfolding agreeing
        ready = record { set = a.set; room = a.room; series = λ i. if-held bs h xs u i ∙ g }

        each-is : m ≡ each (step bs) (load bs c x u) vs
        each-is = e ∙ sym (enters bs h xs u vs g (begun bs u h xs) refl) ∙ ap (λ (s : Series). each (step bs) s vs) loaded

        -- an empty slot took the first value
        took-first : u ≡ false → m.taken ≡ 0 → ⊥
        took-first i z =
            let q : load bs c x u ≡ empty bs h xs = sym loaded ∙ sym (begun-empty bs h xs u i) in
            let o = subst (λ (s : Series). (step bs s one).no ≡ 0) (sym q) (empty-takes bs h xs passes (omega (arith, long-row)) one (finite-is one a.first)) in
            let w = ap (λ (b : Many Series). b.taken) (sym (each_on (step bs) (load bs c x u) one (drop 1 vs) o) ∙ ap (each (step bs) (load bs c x u)) (sym cut) ∙ sym each-is) ∙ z in
            omega (arith, w)

        off : m.taken ≡ 0 → m.left ≡ load bs c x u → end ≡ c
        off z l =
            ⊎_elim
            (λ (i : u ≡ true). same z (ap (λ (s : Series). s.counts) l ∙ pick_true u xs (replicate n 0) i))
            (λ (i : u ≡ false). absurd (took-first i z))
            (flag u)

        agreed_law : many m.taken m.no end ≡ recorded_all (explicit_store bs) x u c vs
        agreed_law = slot-ends (owed bs) histograms-steady (true, true) (slotted bs) x u c ready vs k m each-is end off on

      module _ (g : agrees_if bs u h xs ≡ false) where
        stops : m ≡ stopped 8 (record { head = h; counts = xs })
        stops = e ∙ sym (enters_8 bs h xs u vs g)

        held-is : u ≡ true
        held-is = ⊎_elim (λ (i : u ≡ true). i) (λ (i : u ≡ false). true-not-false (if_none bs h xs u i ∙ g)) (flag u)

        refused_law : many m.taken m.no end ≡ recorded_all (explicit_store bs) x u c vs
        unfolding agreeing
        refused_law =
            let z = ap (λ (b : Many Series). b.taken) stops in
            let w = same z (ap (λ (b : Many Series). b.left.counts) stops) in
            (λ j. record { taken = z j; no = (stops j).no; left = w j })
            ∙ sym (unsound-all (owed bs) (true, true) x u c a.set a.room one (drop 1 vs) a.first held-is (if-held bs h xs u held-is ∙ g))
            ∙ ap (recorded_all (explicit_store bs) x u c) (sym cut)

      slot_law : many m.taken m.no end ≡ recorded_all (explicit_store bs) x u c vs
      slot_law = ⊎_elim agreed_law refused_law (flag (agrees_if bs u h xs))

  -- the same where the code counted the buckets
  module _ (b : ℕ) (is : b ≡ n) (k : Elements (λ v. fits binary64 v ≡ true) nan vs) (m : Many Series) (e : m ≡ entering bs u h (part_at b c.counts x) vs)
      (ts : List ℕ) (t : ts ≡ pick (eqb m.taken 0) c.totals (set c.totals x m.left.head.count))
      (es : List (List Float)) (r : es ≡ pick (eqb m.taken 0) c.extremes (set c.extremes x (extremes_of m.left.head)))
    where
      pub kept_law : many m.taken m.no (record { totals = ts; extremes = es; counts = put_at b c.counts x m.left.counts }) ≡ recorded_all (explicit_store bs) x u c vs
      kept_law =
          (λ j. many m.taken m.no (record { totals = ts; extremes = es; counts = put_at (is j) c.counts x m.left.counts }))
          ∙ slot_law k m (e ∙ ap (λ (i : ℕ). entering bs u h (part_at i c.counts x) vs) is) ts t es r
