-- The points of slots read back from lent output as the points of their series, and recording keeps cells that can be lent. Assumes nothing.
use Prim.Native.Nat.{ℕ}
use mathlib.Core.Path.{◌≡◌, refl, sym, ap, subst, ◌∙◌}
use mathlib.Core.Logic.{⊎_elim}
use mathlib.Core.Bool.{Bool, true, false, not, ◌||◌}
use mathlib.Core.List.{List, []}
use native.Mathlib.Omega.{arith}
use borrow.Author.Tests.{eqb-true, eqb-false}
use lib.Dec.{eqb}
use lib.IntN.{ℤ}
use lib.ListN.{get_or, take}
use Rattle.laws.specs.Pick.{pick}
use Rattle.laws.proofs.Bools.{flag}
use Rattle.rows.specs.Parts.{part_at}
use Rattle.rows.specs.Recording.{Recording}
use Rattle.points.specs.Points.{Point}
use Rattle.points.specs.Counts.{exponential_counts}
use Rattle.points.specs.Any.{Figures, handed_out}
use Rattle.points.specs.Whole.{whole}
use Rattle.points.proofs.WholeSums.{last_some}
use Rattle.exponential.specs.Series.{read}
use Rattle.exponential_wholes.specs.declared.Head.{Head}
use Rattle.exponential_wholes.specs.Series.{summary, refusal_of, Outcome, recording}
use Rattle.exponential_wholes.proofs.Call.{before, number-last, gives_up, goes_on}
use Rattle.kinds.specs.Wholes.{wholes}
use Rattle.tally.specs.Map.{sound}
use Rattle.exponential_slots.specs.Cells.{readable}
use Rattle.exponential_whole_slots.specs.Cells.{Cells, Room, head_at, settings, recorded_at}
use Rattle.exponential_whole_slots.proofs.Cases.{into, head-held, head-fresh, unread, called}
use Rattle.value_map.specs.Exponential.{unset}
use Rattle.value_map.proofs.Owed.{there, was}
use Rattle.whole_map.specs.Exponential.{exponential_wholes}
use Rattle.collecting.specs.Read.{span_of}
use Rattle.collecting.proofs.Owed.{Finds, Listed, Lists}
use Rattle.exponential_collection.proofs.Counts.{point-shaped, read_first}
use Rattle.whole_point.specs.Handing.{stored_in, handed_in, in_shape, exponential_point}
use Rattle.whole_point.specs.declared.Point as P
use Rattle.whole_listing.specs.Words.{words_of}
use Rattle.whole_listing.specs.Listed.{found_at}
use Rattle.whole_listing.specs.Read.{AllHeld}
use Rattle.whole_listing.proofs.Back as Back
use Rattle.whole_listing.proofs.Given.{exponential-held}
use Rattle.whole_listing.proofs.Finds.{finds-stored, finds-handed}
use Rattle.whole_listing.proofs.Fits.{Fitting, start_fits, more-fits, put-fits}
use Rattle.exponential_whole_collection.specs.Points.{exponential_whole_lister}
use Rattle.exponential_whole_collection.proofs.Slots.{agrees_at, long-pos, long-neg, laid, pos-length, neg-length}

-- ---- the head of a slot

-- its numbers are i64s
abbrev HeadFits : Head → Type 0
HeadFits h = Fitting h.min h.max h.sum

head-fits : (top x : ℕ) (u : Bool) (c : Cells) → AllHeld c.extremes → HeadFits (head_at top c x u)
head-fits top x true c l = subst HeadFits (sym (head-held top true _ _ refl)) (record { min = l x 0; max = l x 1; sum = l x 2 })
head-fits top x false c l = subst HeadFits (sym (head-fresh top false _ _ refl)) start_fits

module _ (size top : ℕ) (sums : Bool) (on : unset size top ≡ 0) (c : Cells) (x : ℕ) (r : Room size c x) (w : Bool) where
  abbrev xs : List ℕ
  xs = part_at size c.pos x

  abbrev ys : List ℕ
  ys = part_at size c.neg x

  abbrev pub sound-is : Bool → Type 0
  sound-is u = sound wholes (settings size top sums w) (there (exponential_wholes size top sums) c x u) ≡ true

  sound-then : (u : Bool) → sound-is u → (not u || agrees_at size top on c x r) ≡ true
  unfolding pick
  sound-then true s = s
  sound-then false s = refl

  -- head and rows are the slot's series, or a fresh one
  series-is : (u : Bool) → sound-is u
      → was (exponential_wholes size top sums) w c x u ≡ record { counts = exponential_counts (read (head_at top c x u).counts xs ys); summary = summary (head_at top c x u) }
  unfolding pick
  series-is true s =
      λ i. record {
        counts = (laid size top on c x r true (sound-then true s)).is i;
        summary = summary (sym (head-held top true (get_or c.figures x []) (get_or c.extremes x []) refl) i);
      }
  series-is false s =
      λ i. record {
        counts = (laid size top on c x r false (sound-then false s)).is i;
        summary = summary (sym (head-fresh top false (get_or c.figures x []) (get_or c.extremes x []) refl) i);
      }

  module _ (l : AllHeld c.extremes) (u : Bool) (s : sound-is u) where
    abbrev h : Head
    h = head_at top c x u

    abbrev p : P.Point
    p = exponential_point (head_at top c x u) w sums

    held : Back.Held p (span_of [])
    held =
        let z = head-fits top x u c l in
        let k = laid size top on c x r u (sound-then u s) in
        exponential-held w sums h z.min z.max z.sum (omega (arith, k.level)) k.pos k.neg

    abbrev ps : List ℕ
    ps = take (head_at top c x u).counts.pos.len xs

    abbrev ns : List ℕ
    ns = take (head_at top c x u).counts.neg.len ys

    -- what the series hands out
    out-is : handed_in (stored_in p [] ps ns) ≡ handed_out whole (settings size top sums w) (was (exponential_wholes size top sums) w c x u)
    out-is =
        ap (λ (q : Point). handed_out whole (settings size top sums w) (record { counts = exponential_counts q; summary = summary h })) (read_first h.counts xs ys)
        ∙ ap (handed_out whole (settings size top sums w)) (sym (series-is u s))

    -- a point in shape
    pub shaped : in_shape (stored_in p [] ps ns) ≡ true
    shaped =
        point-shaped size top on (get_or c.figures x []) xs ys (long-pos size top on c x r) (long-neg size top on c x r) u h.counts
        (laid size top on c x r u (sound-then u s))

    -- it is found as it is stored
    pub finds : Finds (found_at []) (words_of p (span_of [])) ps ns (stored_in p [] ps ns)
    finds =
        let a = sound-then u s in
        finds-stored [] p (span_of []) ps ns held (pos-length size top on c x r u a sums) (neg-length size top on c x r u a sums)

    listed : Listed (exponential_whole_lister size top sums) w c x u
    listed =
        let y = series-is u s in
        record {
          found = finds-handed [] (words_of p (span_of [])) ps ns (stored_in p [] ps ns) _ finds out-is;
          pos = ap (λ (y : Figures whole). wholes.pos (handed_out whole (settings size top sums w) y)) y;
          neg = ap (λ (y : Figures whole). wholes.neg (handed_out whole (settings size top sums w) y)) y;
        }

-- THE EXPONENTIAL KIND OVER i64 PAYS what it owes of its points
pub exponential-whole-lists : (size top : ℕ) (sums w : Bool) → Lists (exponential_whole_lister size top sums) w
exponential-whole-lists size top sums w c x u on l r s = listed size top sums on c x r w l u s

-- ---- recording keeps cells that can be lent

module _ (size top : ℕ) (sums : Bool) (x : ℕ) (v : ℤ) (t : wholes.finite v ≡ true) where
  abbrev Keeps : Recording Cells → Type 0
  Keeps o = AllHeld o.cells.extremes

  module _ (c : Cells) (l : AllHeld c.extremes) (h : Head) (k : HeadFits h) where
    abbrev number : ℕ
    number = refusal_of size top sums h (part_at size c.pos x) (part_at size c.neg x) v

    -- what is not refused, the sum takes
    takes : number ≡ 0 → whole.takes sums h.sum v ≡ true
    takes e =
        let xs = part_at size c.pos x in
        let ys = part_at size c.neg x in
        ⊎_elim
        (λ (b : whole.takes sums h.sum v ≡ true). b)
        (λ (b : whole.takes sums h.sum v ≡ false). absurd (last_some (before size top sums h xs ys v) (sym (number-last size top sums h xs ys v b) ∙ e)))
        (flag (whole.takes sums h.sum v))

    into-keeps : Keeps (into size x c (recording size top sums h (part_at size c.pos x) (part_at size c.neg x) v))
    into-keeps =
        let xs = part_at size c.pos x in
        let ys = part_at size c.neg x in
        ⊎_elim
        (λ (e : eqb number 0 ≡ true).
        let z = eqb-true number 0 e in
        subst (λ (o : Outcome). Keeps (into size x c o)) (sym (goes_on size top sums h xs ys v z))
        (put-fits c.extremes x _ _ _ l (more-fits sums h.min h.max h.sum v t (takes z) k)))
        (λ (e : eqb number 0 ≡ false). subst (λ (o : Outcome). Keeps (into size x c o)) (gives_up size top sums h xs ys v number refl (eqb-false number 0 e)) l)
        (flag (eqb number 0))

  -- RECORDING KEEPS IT, whatever is refused
  pub recording-keeps : (u : Bool) (c : Cells) → AllHeld c.extremes → AllHeld (recorded_at size top sums x u c v).cells.extremes
  recording-keeps u c l =
      let b = readable u (get_or c.figures x []) in
      ⊎_elim
      (λ (e : b ≡ true). subst Keeps (sym (called size top sums x u c v e)) (into-keeps c l (head_at top c x u) (head-fits top x u c l)))
      (λ (e : b ≡ false). subst Keeps (sym (unread size top sums x u c v e)) l)
      (flag b)
