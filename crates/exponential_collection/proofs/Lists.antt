-- The points of slots read back from lent output as the points of their series, and recording keeps cells that can be lent. Assumes nothing.
use Prim.Native.Nat.{ℕ}
use mathlib.Core.Path.{◌≡◌, refl, sym, ap, subst, ◌∙◌}
use mathlib.Core.Logic.{⊎_elim}
use mathlib.Core.Bool.{Bool, true, false, not, ◌||◌}
use mathlib.Core.List.{List, []}
use native.Mathlib.Omega.{arith}
use lib.Dec.{eqb}
use lib.ListN.{get_or, take}
use lib.Ieee.{Float}
use Rattle.laws.specs.Pick.{pick}
use Rattle.laws.proofs.Bools.{flag, pick_true, pick-false}
use Rattle.rows.specs.Parts.{part_at}
use Rattle.rows.specs.Recording.{Recording}
use Rattle.points.specs.Points.{Point}
use Rattle.points.specs.Figures.{exponential_counts, Figures}
use Rattle.points.specs.Handed.{handed_out}
use Rattle.exponential.specs.declared.Head.{Head}
use Rattle.exponential.specs.Series.{read, refusal_of, Outcome, recording}
use Rattle.exponential.proofs.Lists.{summary}
use Rattle.kinds.specs.Histograms.{histograms}
use Rattle.tally.specs.Map.{sound}
use Rattle.exponential_slots.specs.Cells.{Cells, Room, readable, head_in, head_at, recorded_at}
use Rattle.exponential_slots.specs.Meaning.{settings}
use Rattle.exponential_slots.proofs.Cases.{into, head-held, head-fresh, unread, called}
use Rattle.value_map.specs.Exponential.{unset, exponential_store}
use Rattle.value_map.proofs.Owed.{there, was}
use Rattle.point.specs.Handing.{stored_in, handed_in, in_shape, exponential_point}
use Rattle.point.specs.declared.Point as P
use Rattle.listing.specs.Words.{words_of}
use Rattle.listing.proofs.Back as Back
use Rattle.listing.proofs.Given.{exponential-held}
use Rattle.listing.specs.Listed.{found_at}
use Rattle.collecting.specs.Read.{span_of, AllFit}
use Rattle.collecting.proofs.Owed.{Finds, Listed, Lists}
use Rattle.collecting.proofs.Finds.{finds-stored, finds-handed}
use Rattle.collecting.proofs.Fits.{Fitting, start_fits, more-fits, put-fits}
use Rattle.exponential_collection.specs.Points.{exponential_lister}
use Rattle.exponential_collection.proofs.Counts.{point-shaped, read_first}
use Rattle.exponential_collection.proofs.Slots.{agrees_at, long-pos, long-neg, laid, pos-length, neg-length}

-- ---- the head of a slot

-- its floats are f64s
abbrev HeadFits : Head → Type 0
HeadFits h = Fitting h.min h.max h.sum

head-fits : (top x : ℕ) (u : Bool) (c : Cells) → AllFit c.extremes → HeadFits (head_at top c x u)
unfolding head_in
head-fits top x true c l = subst HeadFits (sym (head-held top true _ _ refl)) (record { min = l x 0; max = l x 1; sum = l x 2 })
head-fits top x false c l = subst HeadFits (sym (head-fresh top false _ _ refl)) start_fits

module _ (size top : ℕ) (on : unset size top ≡ 0) (c : Cells) (x : ℕ) (r : Room size c x) (w : Bool × Bool) where
  abbrev xs : List ℕ
  xs = part_at size c.pos x

  abbrev ys : List ℕ
  ys = part_at size c.neg x

  abbrev pub sound-is : Bool → Type 0
  sound-is u = sound histograms (settings size top w.0 w.1) (there (exponential_store size top) c x u) ≡ true

  sound-then : (u : Bool) → sound-is u → (not u || agrees_at size top on c x r) ≡ true
  unfolding pick
  sound-then true s = s
  sound-then false s = refl

  -- head and rows are the slot's series, or a fresh one
  series-is : (u : Bool) → sound-is u
      → was (exponential_store size top) w c x u ≡ record { counts = exponential_counts (read (head_at top c x u).counts xs ys); summary = summary (head_at top c x u) }
  unfolding pick head_in
  series-is true s =
      λ i. record {
        counts = (laid size top on c x r true (sound-then true s)).is i;
        summary = summary (sym (head-held top true (get_or c.figures x []) (get_or c.extremes x []) refl) i);
      }
  series-is false s =
      λ i. record {
        counts = (laid size top on c x r false (sound-then false s)).is i;
        summary = summary (sym (head-fresh top false (get_or c.figures x []) (get_or c.extremes x []) refl) i);
      }

  module _ (l : AllFit c.extremes) (u : Bool) (s : sound-is u) where
    abbrev h : Head
    h = head_at top c x u

    abbrev p : P.Point
    p = exponential_point (head_at top c x u) w.0 w.1

    held : Back.Held p (span_of [])
    held =
        let z = head-fits top x u c l in
        let k = laid size top on c x r u (sound-then u s) in
        exponential-held w.0 w.1 h z.min z.max z.sum (omega (arith, k.level)) k.pos k.neg

    abbrev ps : List ℕ
    ps = take (head_at top c x u).counts.pos.len xs

    abbrev ns : List ℕ
    ns = take (head_at top c x u).counts.neg.len ys

    -- what the series hands out
    out-is : handed_in (stored_in p [] ps ns) ≡ handed_out (settings size top w.0 w.1) (was (exponential_store size top) w c x u)
    out-is =
        ap (λ (q : Point). handed_out (settings size top w.0 w.1) (record { counts = exponential_counts q; summary = summary h })) (read_first h.counts xs ys)
        ∙ ap (handed_out (settings size top w.0 w.1)) (sym (series-is u s))

    -- a point in shape
    pub shaped : in_shape (stored_in p [] ps ns) ≡ true
    shaped =
        point-shaped size top on (get_or c.figures x []) xs ys (long-pos size top on c x r) (long-neg size top on c x r) u h.counts
        (laid size top on c x r u (sound-then u s))

    -- it is found as it is stored
    pub finds : Finds (found_at []) (words_of p (span_of [])) ps ns (stored_in p [] ps ns)
    finds = let a = sound-then u s in finds-stored [] p (span_of []) ps ns held (pos-length size top on c x r u a) (neg-length size top on c x r u a)

    listed : Listed (exponential_lister size top) w c x u
    listed =
        let y = series-is u s in
        record {
          found = finds-handed [] (words_of p (span_of [])) ps ns (stored_in p [] ps ns) _ finds out-is;
          pos = ap (λ (y : Figures). histograms.pos (handed_out (settings size top w.0 w.1) y)) y;
          neg = ap (λ (y : Figures). histograms.neg (handed_out (settings size top w.0 w.1) y)) y;
        }

-- THE EXPONENTIAL KIND PAYS what it owes of its points
pub exponential-lists : (size top : ℕ) (w : Bool × Bool) → Lists (exponential_lister size top) w
exponential-lists size top w c x u on l r s = listed size top on c x r w l u s

-- ---- recording keeps cells that can be lent

module _ (size top x : ℕ) (v : Float) (t : histograms.finite v ≡ true) where
  abbrev Keeps : Recording Cells → Type 0
  Keeps o = AllFit o.cells.extremes

  module _ (c : Cells) (l : AllFit c.extremes) (h : Head) (k : HeadFits h) where
    into-keeps : Keeps (into size x c (recording size top h (part_at size c.pos x) (part_at size c.neg x) v))
    unfolding recording
    into-keeps =
        let xs = part_at size c.pos x in
        let ys = part_at size c.neg x in
        let b = eqb (refusal_of size top h xs ys v) 0 in
        ⊎_elim
        (λ (e : b ≡ true). subst (λ (o : Outcome). Keeps (into size x c o)) (sym (pick_true b _ _ e))
        (put-fits c.extremes x _ _ _ l (more-fits h.min h.max h.sum v t k)))
        (λ (e : b ≡ false). subst (λ (o : Outcome). Keeps (into size x c o)) (sym (pick-false b _ _ e)) l)
        (flag b)

  -- RECORDING KEEPS IT, whatever is refused
  pub recording-keeps : (u : Bool) (c : Cells) → AllFit c.extremes → AllFit (recorded_at size top x u c v).cells.extremes
  recording-keeps u c l =
      let b = readable u (get_or c.figures x []) in
      ⊎_elim
      (λ (e : b ≡ true). subst Keeps (sym (called size top x u c v e)) (into-keeps c l (head_at top c x u) (head-fits top x u c l)))
      (λ (e : b ≡ false). subst Keeps (sym (unread size top x u c v e)) l)
      (flag b)
