-- What judging finds at a cursor, case by case; what a point is that it passes; and the loop over the points. Assumes nothing.
use Prim.Native.Nat.{ℕ, suc, ◌+◌, ◌-◌, ◌*◌, ◌≤◌, ◌<◌}
use mathlib.Core.Path.{◌≡◌, refl, sym, ap, subst, ◌∙◌}
use mathlib.Core.Bool.{Bool, true, false, ◌&&◌, ◌||◌}
use mathlib.Core.List.{List, []}
use native.Mathlib.Omega.{arith}
use borrow.Author.Tests.{le-leb, lt-leb, lt-ltb, le-ltb, eqb-true, eq-eqb, ne_eqb}
use lib.Dec.{leb}
use lib.ListN.{length, get_or, drop, length-drop}
use lib.Seq.{length-take-le}
use Rattle.laws.specs.Pick.{pick}
use Rattle.laws.proofs.Bools.{and_intro, pick_true, pick-false}
use Rattle.laws.proofs.Cases.{true-not-false}
use Rattle.tally.specs.Sets.{cmp}
use Rattle.sets.specs.Rows.{size, set_of, below}
use Rattle.point.specs.Handing.{Stored, agrees_alone}
use Rattle.point.specs.declared.Figures.{Figures}
use Rattle.point.specs.declared.Figures.TheVariants.{Exponential, Explicit}
use Rattle.listing.specs.Listed.{buckets_of, pos_len, neg_len, behind, stored_at}
use Rattle.listing.specs.declared.Cursor.{Cursor}
use Rattle.listing.specs.declared.Entry.{Entry}
use Rattle.listing.specs.declared.Span.{Span}
use Rattle.pooling.specs.Lists.{Source, whole_at}
use Rattle.pooling.proofs.Whole.{whole-told, whole-lies, bounds-long}
use Rattle.records.specs.Records.{width}
use Rattle.sheets.specs.Entries.{own_span, bounds_fine, exact}
use Rattle.sheets.specs.Inner.{row_fine}
use Rattle.sheets.specs.Sheet.{most_points}
use Rattle.sheets.proofs.PointLaws.{Few, agreed-few, bounds-fit}
use Rattle.std.specs.Prelude.{None, Some, Option}
use Rattle.sheet_writing.specs.Inner.{origin, follows, row_taken, agreeing, step_at, Spanned, width_at, judged_from, judged}

-- ---- the row of a set

module _ (i : ℕ) (a b : List ℕ) where
  abbrev ascends : Bool
  ascends = below (cmp (set_of a) (set_of b))

  pub follow-first : i ≡ 0 → true ≡ follows i a b
  follow-first h = sym (ap (λ (t : Bool). t || (leb (size a) 8 && (leb (size b) 8 && ascends))) (eq-eqb i 0 h))

  module _ (n : i ≡ 0 → ⊥) where
    pub follow-long : 8 < size a → false ≡ follows i a b
    follow-long h = sym (λ j. ne_eqb i 0 n j || (lt-leb (size a) 8 h j && (leb (size b) 8 && ascends)))

    pub follow-long_2 : size a ≤ 8 → 8 < size b → false ≡ follows i a b
    follow-long_2 g h = sym (λ j. ne_eqb i 0 n j || (le-leb (size a) 8 g j && (lt-leb (size b) 8 h j && ascends)))

    pub follow-is : size a ≤ 8 → size b ≤ 8 → below (cmp (set_of a) (set_of b)) ≡ follows i a b
    follow-is g h = sym (λ j. ne_eqb i 0 n j || (le-leb (size a) 8 g j && (le-leb (size b) 8 h j && ascends)))

module _ (i : ℕ) (sets : List (List ℕ)) where
  abbrev row : List ℕ
  row = get_or sets i []

  pub row-absent : length sets ≤ i → false ≡ row_taken i sets
  row-absent h = sym (ap (λ (t : Bool). t && (row_fine row && follows i (get_or sets (i - 1) []) row)) (le-ltb i (length sets) h))

  pub row_bad : i < length sets → row_fine row ≡ false → false ≡ row_taken i sets
  row_bad h g = sym (λ j. lt-ltb i (length sets) h j && (g j && follows i (get_or sets (i - 1) []) row))

  pub row_is : i < length sets → row_fine row ≡ true → (k : ℕ) → k ≡ i - 1 → follows i (get_or sets k []) row ≡ row_taken i sets
  row_is h g k e =
      ap (λ (m : ℕ). follows i (get_or sets m []) row) e
      ∙ sym (λ j. lt-ltb i (length sets) h j && (g j && follows i (get_or sets (i - 1) []) row))

-- ---- the point at a cursor

module _ (at : Cursor) (x : Source) where
  pub agreeing_in : (f : Option Entry) (e : Entry) → f ≡ Some e → agrees_alone (stored_at at e x.bounds x.list) ≡ true → Some e ≡ agreeing at x f
  agreeing_in f e p t = sym (ap (agreeing at x) p ∙ pick_true (agrees_alone (stored_at at e x.bounds x.list)) (Some e) None t)

  pub agreeing-out : (f : Option Entry) (e : Entry) → f ≡ Some e → agrees_alone (stored_at at e x.bounds x.list) ≡ false → None ≡ agreeing at x f
  agreeing-out f e p t = sym (ap (agreeing at x) p ∙ pick-false (agrees_alone (stored_at at e x.bounds x.list)) (Some e) None t)

  pub step-no : row_taken at.place x.list.sets ≡ false → None ≡ step_at at x
  unfolding step_at
  step-no h = sym (pick-false (row_taken at.place x.list.sets) (agreeing at x (whole_at at x)) None h)

  pub step_is : row_taken at.place x.list.sets ≡ true → agreeing at x (whole_at at x) ≡ step_at at x
  unfolding step_at
  step_is h = sym (pick_true (row_taken at.place x.list.sets) (agreeing at x (whole_at at x)) None h)

-- agreement is asked of counts and bounds alone
pub agreeing-alike : (at : Cursor) (x y : Source) → x.list.pos ≡ y.list.pos → x.list.neg ≡ y.list.neg → x.bounds ≡ y.bounds
    → (f : Option Entry) → agreeing at x f ≡ agreeing at y f
agreeing-alike at x y p q r None = refl
agreeing-alike at x y p q r (Some e) =
    λ j. agreeing at (record { list = record { sets = []; words = []; pos = p j; neg = q j }; bounds = r j }) (Some e)

-- ---- what is found

abbrev pub present : Option Entry → Bool
present None = false
present (Some e) = true

abbrev entry_or : Entry → Option Entry → Entry
entry_or d None = d
entry_or d (Some e) = e

chosen : (t : Bool) (f : Option Entry) (e : Entry) → pick t f None ≡ Some e → (t ≡ true) × (f ≡ Some e)
unfolding pick
chosen true f e h = (refl, h)
chosen false f e h = true-not-false (sym (ap present h))

agreeing-says : (at : Cursor) (x : Source) (f : Option Entry) (e : Entry) → agreeing at x f ≡ Some e
    → (f ≡ Some e) × (agrees_alone (stored_at at e x.bounds x.list) ≡ true)
agreeing-says at x None e h = true-not-false (sym (ap present h))
agreeing-says at x (Some d) e h =
    let c = chosen (agrees_alone (stored_at at d x.bounds x.list)) (Some d) e h in
    (c.1, subst (λ (y : Entry). agrees_alone (stored_at at y x.bounds x.list) ≡ true) (ap (entry_or d) c.1) c.0)

-- a point that can be written
pub record Passed (at : Cursor) (x : Source) (e : Entry) : Type 0 where
  pub taken : row_taken at.place x.list.sets ≡ true
  pub whole : whole_at at x ≡ Some e
  pub agrees : agrees_alone (stored_at at e x.bounds x.list) ≡ true

pub step-passed : (at : Cursor) (x : Source) (e : Entry) → step_at at x ≡ Some e → Passed at x e
unfolding step_at
step-passed at x e h =
    let c = chosen (row_taken at.place x.list.sets) (agreeing at x (whole_at at x)) e h in
    let a = agreeing-says at x (whole_at at x) e c.1 in
    record { taken = c.0; whole = a.0; agrees = a.1 }

-- ---- how many words a point takes

same-long : (f : Figures) (a b : Span) → a.len ≡ b.len → pos_len f a ≡ pos_len f b
same-long (Exponential c) a b h = refl
same-long (Explicit n) a b h = ap buckets_of h

-- a point has bounds or two rows
few_words : (f : Figures) (b : Span) → bounds_fine f b.len ≡ true → b.len ≤ 159 → pos_len f b ≤ 160 → neg_len f ≤ 160
    → 21 + (width b.len + width (pos_len f b + neg_len f)) ≤ 342
unfolding width
few_words (Exponential c) b z l m n = omega (arith, eqb-true b.len 0 z)
few_words (Explicit k) b z l m n = omega arith

-- a point that is there with all of its counts and bounds: how many they are, and where the next one lies
module _ (at : Cursor) (x : Source) (e : Entry) (h : whole_at at x ≡ Some e) where
  abbrev f : Figures
  f = e.point.figures

  abbrev s : Stored
  s = stored_at at e x.bounds x.list

  pub whole-next : e.next ≡ behind at e.point.figures e.bounds
  whole-next = subst (λ (y : Entry). y.next ≡ behind at y.point.figures y.bounds) (whole-told at x e h).entry refl

  said-bounds : bounds_fine f e.bounds.len ≡ true
  said-bounds =
      subst (λ (y : Entry). bounds_fine y.point.figures y.bounds.len ≡ true) (whole-told at x e h).entry
      (bounds-fit (get_or x.list.words at.place []))

  said-pos : e.next.pos ≡ at.pos + pos_len e.point.figures e.bounds
  said-pos = ap (λ (c : Cursor). c.pos) whole-next

  said-neg : e.next.neg ≡ at.neg + neg_len e.point.figures
  said-neg = ap (λ (c : Cursor). c.neg) whole-next

  pub long-bounds : length (stored_at at e x.bounds x.list).bounds ≡ e.bounds.len
  long-bounds = bounds-long e.bounds x.bounds (whole-lies at x e h).bounds

  pub long-pos : length (stored_at at e x.bounds x.list).pos ≡ e.next.pos - at.pos
  unfolding pick
  long-pos =
      let l = whole-lies at x e h in
      length-take-le (e.next.pos - at.pos) (drop at.pos x.list.pos) (omega (arith, l.pos, l.pos_end, length-drop at.pos x.list.pos))

  pub long-neg : length (stored_at at e x.bounds x.list).neg ≡ e.next.neg - at.neg
  unfolding pick
  long-neg =
      let l = whole-lies at x e h in
      length-take-le (e.next.neg - at.neg) (drop at.neg x.list.neg) (omega (arith, l.neg, l.neg_end, length-drop at.neg x.list.neg))

  -- as many as the point says
  own-bounds : bounds_fine f (length s.bounds) ≡ true
  own-bounds = ap (bounds_fine f) long-bounds ∙ said-bounds

  own-pos : pos_len f (own_span s) ≡ pos_len f e.bounds
  own-pos = same-long f (own_span s) e.bounds long-bounds

  pub whole-exact : exact (stored_at at e x.bounds x.list) ≡ true
  unfolding exact
  whole-exact =
      and_intro _ _ own-bounds
      (and_intro _ _ (eq-eqb (length s.pos) (pos_len f (own_span s)) (omega (arith, own-pos, long-pos, said-pos)))
      (eq-eqb (length s.neg) (neg_len f) (omega (arith, long-neg, said-neg))))

  -- and few where it agrees
  module _ (a : agrees_alone (stored_at at e x.bounds x.list) ≡ true) where
    few : Few f s.bounds
    few = agreed-few s a own-bounds

    whole_spanned : Spanned at e
    whole_spanned =
        let l = whole-lies at x e h in
        record {
          pos = l.pos;
          neg = l.neg;
          few_pos = omega (arith, few.pos, own-pos, said-pos);
          few_neg = omega (arith, few.neg, said-neg);
          few_bounds = omega (arith, few.bounds, long-bounds);
        }

    whole-width : width_at at e ≤ 342
    whole-width =
        let m : e.next.pos - at.pos ≡ pos_len f e.bounds = omega (arith, said-pos) in
        let n : e.next.neg - at.neg ≡ neg_len f = omega (arith, said-neg) in
        subst (λ (k : ℕ). 21 + (width e.bounds.len + width k) ≤ 342) (λ j. sym m j + sym n j)
        (few_words f e.bounds said-bounds (omega (arith, few.bounds, long-bounds)) (omega (arith, few.pos, own-pos)) few.neg)

module _ (at : Cursor) (x : Source) (e : Entry) (h : step_at at x ≡ Some e) where
  pub step_spanned : Spanned at e
  step_spanned = let p = step-passed at x e h in whole_spanned at x e p.whole p.agrees

  pub step-width : width_at at e ≤ 342
  step-width = let p = step-passed at x e h in whole-width at x e p.whole p.agrees

-- what so few words take
pub width_few : (at : Cursor) (e : Entry) → Spanned at e → width_at at e ≤ 501
unfolding width
width_few at e s = omega (arith, s.pos, s.neg, s.few_pos, s.few_neg, s.few_bounds)

-- ---- the loop

module _ (n : ℕ) (at : Cursor) (k : ℕ) (x : Source) where
  pub from_bad : step_at at x ≡ None → judged_from (suc n) at k x ≡ None
  from_bad h = ap (λ (f : Option Entry). elim f [ None ↦ None | Some e ↦ judged_from n e.next (k + width_at at e) x ]) h

  pub from_more : (e : Entry) → step_at at x ≡ Some e → judged_from (suc n) at k x ≡ judged_from n e.next (k + width_at at e) x
  from_more d h = ap (λ (f : Option Entry). elim f [ None ↦ None | Some e ↦ judged_from n e.next (k + width_at at e) x ]) h

-- before turn i of n: what is left is judged as the whole is
pub record Going (n i : ℕ) (at : Cursor) (cells : ℕ) (x : Source) : Type 0 where
  pub most : n ≤ 64
  pub left : i ≤ n
  pub few : cells ≤ 342 * i
  pub same : judged_from n origin 0 x ≡ judged_from (n - i) at cells x

pub judged-most : (n : ℕ) (x : Source) → n ≤ 64 → judged_from n origin 0 x ≡ judged n x
unfolding judged
judged-most n x h = sym (pick_true (leb n most_points) (judged_from n origin 0 x) None (le-leb n most_points h))

pub judged-over : (n : ℕ) (x : Source) → 64 < n → None ≡ judged n x
unfolding judged
judged-over n x h = sym (pick-false (leb n most_points) (judged_from n origin 0 x) None (lt-leb n most_points h))

pub going_start : (n : ℕ) (x : Source) → n ≤ 64 → Going n 0 origin 0 x
going_start n x h =
    let e : n ≡ n - 0 = omega arith in
    record { most = h; left = omega arith; few = omega arith; same = ap (λ (m : ℕ). judged_from m origin 0 x) e }

module _ (n i : ℕ) (at : Cursor) (cells : ℕ) (x : Source) (g : Going n i at cells x) where
  pub going_next : i < n → (e : Entry) → step_at at x ≡ Some e → (w : ℕ) → w ≡ width_at at e → Going n (i + 1) e.next (cells + w) x
  going_next l e h w v =
      let m : n - i ≡ suc (n - (i + 1)) = omega arith in
      record {
        most = g.most;
        left = omega arith;
        few = omega (arith, g.few, step-width at x e h, v);
        same =
            g.same
            ∙ ap (λ (j : ℕ). judged_from j at cells x) m
            ∙ from_more (n - (i + 1)) at cells x e h
            ∙ ap (λ (j : ℕ). judged_from (n - (i + 1)) e.next (cells + j) x) (sym v);
      }

  pub going_bad : i < n → step_at at x ≡ None → None ≡ judged n x
  going_bad l h =
      let m : n - i ≡ suc (n - (i + 1)) = omega arith in
      sym (from_bad (n - (i + 1)) at cells x h) ∙ ap (λ (j : ℕ). judged_from j at cells x) (sym m) ∙ sym g.same ∙ judged-most n x g.most

  pub going_end : n ≤ i → Some cells ≡ judged n x
  going_end l =
      let m : n - i ≡ 0 = omega (arith, g.left) in
      ap (λ (j : ℕ). judged_from j at cells x) (sym m) ∙ sym g.same ∙ judged-most n x g.most
