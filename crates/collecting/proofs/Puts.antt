-- The points of the slots put one by one: what a turn adds to the output, and what it comes to. Assumes nothing.
use Prim.Native.Nat.{ℕ, suc, ◌≤◌, ◌<◌, min}
use mathlib.Core.Path.{◌≡◌, refl, sym, ap, subst, ◌∙◌}
use mathlib.Core.Bool.{Bool, true, false, ◌&&◌}
use mathlib.Core.List.{List, [], ◌∷◌, ◌++◌, map}
use native.Mathlib.Omega.{arith}
use borrow.Author.Tests.{leb-true}
use lib.Dec.{leb}
use lib.ListN.{length, get_or, take, drop, length-append, length-map}
use Rattle.laws.specs.Lists.{only}
use Rattle.laws.specs.Over.{over}
use Rattle.laws.specs.Pick.{pick}
use Rattle.laws.proofs.Bools.{pick_true, pick-false}
use Rattle.laws.proofs.Cases.{and-true}
use Rattle.laws.proofs.Over.{length_over}
use Rattle.tally.specs.Kind.{Kind}
use Rattle.sets.specs.Rows.{row_of}
use Rattle.directory.specs.View.{set_at, updated_in}
use Rattle.seats.proofs.Least.{both_suffice}
use Rattle.value_map.specs.Store.{Store}
use Rattle.value_map.specs.Calls.{Held}
use Rattle.listing.specs.Listed.{Output, over_at}
use Rattle.listing.specs.Inner.{Put, left}
use Rattle.listing.proofs.Lists.{over-behind-front, rows_snoc}
use Rattle.collecting.specs.Lister.{Lister}
use Rattle.collecting.specs.Collected.{room_of, slots_of, due, due_of, counts_of, laid_out, roomy}
use Rattle.collecting.specs.Slots.{walked, Place, laid_at, behind_at, put_slot, put_slots}
use Rattle.collecting.proofs.Nexts.{slots-all, only_yes, only_no, only-front}
use Rattle.collecting.proofs.Surveys.{counts_append, counts-snoc, counts-more, counts-walked, in-slots, points-more}

fewest-both : (n a b : ℕ) → leb n (min a b) ≡ true → (n ≤ a) × (n ≤ b)
fewest-both n a b e = let p = and-true (leb n a) (leb n b) (sym (both_suffice a b n) ∙ e) in (leb-true n a p.0, leb-true n b p.1)

module _ {K : Kind} {S : Store K} (L : Lister S) (w : S.Switches) (h : Held S.Cells) (o : Output) where
  abbrev u : ℕ → Bool
  u x = updated_in h.kept.stores.entries x

  abbrev row : ℕ → List ℕ
  row x = row_of (set_at h.kept.stores.sets x)

  abbrev pos : ℕ → List ℕ
  pos x = L.pos h.cells x (updated_in h.kept.stores.entries x)

  abbrev neg : ℕ → List ℕ
  neg x = L.neg h.cells x (updated_in h.kept.stores.entries x)

  -- the points of a list of slots have room
  pub record Fit (l : List ℕ) : Type 0 where
    pub sets : length l ≤ length o.sets
    pub words : length l ≤ length o.words
    pub pos : length (counts_of L.pos h l) ≤ length o.pos
    pub neg : length (counts_of L.neg h l) ≤ length o.neg

  pub fit_of : (l : List ℕ) → roomy L w h l (room_of o) ≡ true → Fit l
  unfolding roomy
  fit_of l e =
      let a = and-true (leb (length l) (room_of o).points) _ e in
      let b = and-true (leb (length (counts_of L.pos h l)) (length o.pos)) _ a.1 in
      let c = fewest-both (length l) (length o.sets) (length o.words) a.0 in
      record { sets = c.0; words = c.1; pos = leb-true _ _ b.0; neg = leb-true _ _ b.1 }

  -- and so those of its first slots
  pub fit-front : (a c : List ℕ) → Fit (a ++ c) → Fit a
  fit-front a c g =
      let n = length-append a c in
      let p = ap length (counts_append L.pos h a c) ∙ length-append (counts_of L.pos h a) (counts_of L.pos h c) in
      let m = ap length (counts_append L.neg h a c) ∙ length-append (counts_of L.neg h a) (counts_of L.neg h c) in
      record { sets = omega (arith, n, g.sets); words = omega (arith, n, g.words); pos = omega (arith, p, g.pos); neg = omega (arith, m, g.neg) }

  -- the stores keep their lengths
  pub record Long (l : List ℕ) : Type 0 where
    pub sets : length (laid_out L w h l o).sets ≡ length o.sets
    pub words : length (laid_out L w h l o).words ≡ length o.words
    pub pos : length (laid_out L w h l o).pos ≡ length o.pos
    pub neg : length (laid_out L w h l o).neg ≡ length o.neg

  pub laid-long : (l : List ℕ) → Fit l → Long l
  laid-long l g =
      record {
        sets = length_over (map row l) o.sets (omega (arith, length-map l row, g.sets));
        words = length_over (map (λ x. L.words w h.cells x (u x)) l) o.words (omega (arith, length-map l (λ x. L.words w h.cells x (u x)), g.words));
        pos = length_over (counts_of L.pos h l) o.pos g.pos;
        neg = length_over (counts_of L.neg h l) o.neg g.neg;
      }

  pub put-none : put_slots L w h [] o ≡ left (record { place = 0; pos = 0; neg = 0 }) o
  unfolding over
  put-none = refl

  -- a point more
  put-more : (l : List ℕ) (x : ℕ) → length l < length o.sets → length l < length o.words
      → left (behind_at (put_slots L w h l o).next (length (pos x)) (length (neg x)))
      (laid_at (put_slots L w h l o).next (row x) (L.words w h.cells x (u x)) (pos x) (neg x) (laid_out L w h l o))
      ≡ put_slots L w h (l ++ (x ∷ [])) o
  unfolding laid_at
  put-more l x m n =
      let a = rows_snoc row l x o.sets m in
      let b = rows_snoc (λ y. L.words w h.cells y (u y)) l x o.words n in
      let p : over_at (length (counts_of L.pos h l)) (pos x) (over (counts_of L.pos h l) o.pos) ≡ over (counts_of L.pos h (l ++ (x ∷ []))) o.pos =
      over-behind-front (counts_of L.pos h l) (pos x) o.pos ∙ ap (λ (t : List ℕ). over t o.pos) (sym (counts-snoc L.pos h l x)) in
      let q : over_at (length (counts_of L.neg h l)) (neg x) (over (counts_of L.neg h l) o.neg) ≡ over (counts_of L.neg h (l ++ (x ∷ []))) o.neg =
      over-behind-front (counts_of L.neg h l) (neg x) o.neg ∙ ap (λ (t : List ℕ). over t o.neg) (sym (counts-snoc L.neg h l x)) in
      λ j. left (record { place = points-more L w h l x j; pos = counts-more L.pos h l x j; neg = counts-more L.neg h l x j })
      (record { sets = a j; words = b j; pos = p j; neg = q j })

  place_of : (l : List ℕ) (x : ℕ) → Fit (l ++ (x ∷ [])) → Place (put_slots L w h l o).next (laid_out L w h l o) (length (pos x)) (length (neg x))
  place_of l x g =
      let n = points-more L w h l x in
      let p = counts-more L.pos h l x in
      let m = counts-more L.neg h l x in
      let e = laid-long l (fit-front l (x ∷ []) g) in
      record {
        sets = omega (arith, n, g.sets, e.sets);
        words = omega (arith, n, g.words, e.words);
        pos = omega (arith, p, g.pos, e.pos);
        neg = omega (arith, m, g.neg, e.neg);
      }

  module _ (cumulative : Bool) (r : roomy L w h (due_of cumulative h.kept) (room_of o) ≡ true) where
    abbrev slots : List ℕ
    slots = slots_of h.kept

    -- the first slots' points have room
    pub fit-first : (i : ℕ) → Fit (only (due cumulative h.kept) (take i slots))
    fit-first i = fit-front (only (due cumulative h.kept) (take i slots)) (only (due cumulative h.kept) (drop i slots)) (subst Fit (only-front (due cumulative h.kept) slots i) (fit_of (due_of cumulative h.kept) r))

    module _ (i : ℕ) (n : i ≤ h.kept.dir.used) where
      abbrev x : ℕ
      x = get_or (slots_of h.kept) i 0

      abbrev l : List ℕ
      l = only (due cumulative h.kept) (take i (slots_of h.kept))

      abbrev l' : List ℕ
      l' = only (due cumulative h.kept) (take (suc i) (slots_of h.kept))

      one_more : due cumulative h.kept x ≡ true → l' ≡ l ++ (x ∷ [])
      one_more e = only_yes (due cumulative h.kept) slots i (in-slots L w h i n) e

      -- ROOM for the slot's point, if it is due
      pub put-room : due cumulative h.kept x ≡ true
          → Place (put_slots L w h l o).next (put_slots L w h l o).output (length (L.pos h.cells x (u x))) (length (L.neg h.cells x (u x)))
      put-room e = place_of l x (subst Fit (one_more e) (fit-first (suc i)))

      -- ONE SLOT MORE
      pub put-turn : put_slot L w (u x) (due cumulative h.kept x) h.cells x (row_of (set_at h.kept.stores.sets x)) (put_slots L w h l o).next (put_slots L w h l o).output
          ≡ put_slots L w h l' o
      unfolding put_slot
      put-turn = go (due cumulative h.kept x) refl
        where
          more : Put
          more =
              left (behind_at (put_slots L w h l o).next (length (pos x)) (length (neg x)))
              (laid_at (put_slots L w h l o).next (row x) (L.words w h.cells x (u x)) (pos x) (neg x) (laid_out L w h l o))

          go : (b : Bool) → due cumulative h.kept x ≡ b → pick (due cumulative h.kept x) more (put_slots L w h l o) ≡ put_slots L w h l' o
          go true e =
              let g = subst Fit (one_more e) (fit-first (suc i)) in
              let m = points-more L w h l x in
              pick_true (due cumulative h.kept x) more (put_slots L w h l o) e
              ∙ put-more l x (omega (arith, m, g.sets)) (omega (arith, m, g.words))
              ∙ ap (λ (t : List ℕ). put_slots L w h t o) (sym (one_more e))
          go false e =
              pick-false (due cumulative h.kept x) more (put_slots L w h l o) e
              ∙ ap (λ (t : List ℕ). put_slots L w h t o) (sym (only_no (due cumulative h.kept) slots i (in-slots L w h i n) e))

  -- ALL SLOTS
  pub put_all : (cumulative : Bool)
      → put_slots L w h (only (due cumulative h.kept) (take (suc h.kept.dir.used) (slots_of h.kept))) o ≡ put_slots L w h (due_of cumulative h.kept) o
  put_all cumulative = ap (λ (t : List ℕ). put_slots L w h (only (due cumulative h.kept) t) o) (slots-all h.kept.stores.order h.kept.dir.used)

  -- a walk reads the sets too, and nothing more
  pub put-walked : (l : List ℕ)
      → put_slots L w (walked h.kept.dir.used h.kept.stores.sets h.kept.stores.entries h.kept.stores.order h.cells) l o ≡ put_slots L w h l o
  put-walked l =
      let p = counts-walked L.pos h h.kept.stores.sets l in
      let n = counts-walked L.neg h h.kept.stores.sets l in
      λ j.
      left (record { place = length l; pos = length (p j); neg = length (n j) })
      (record {
        sets = over (map row l) o.sets;
        words = over (map (λ x. L.words w h.cells x (u x)) l) o.words;
        pos = over (p j) o.pos;
        neg = over (n j) o.neg;
      })

  pub room-walked : (v : S.Switches) (sets : List (List ℕ)) (l : List ℕ)
      → roomy L v (walked h.kept.dir.used sets h.kept.stores.entries h.kept.stores.order h.cells) l (room_of o) ≡ roomy L w h l (room_of o)
  unfolding roomy
  room-walked v sets l =
      let p = counts-walked L.pos h sets l in
      let n = counts-walked L.neg h sets l in
      λ j. leb (length l) (room_of o).points && (leb (length (p j)) (length o.pos) && leb (length (n j)) (length o.neg))
