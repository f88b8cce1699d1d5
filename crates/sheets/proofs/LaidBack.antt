-- Points laid into a list are taken from it as they were. Assumes nothing.
use Prim.Native.Nat.{ℕ, ◌+◌, ◌≤◌, ◌<◌}
use mathlib.Core.Path.{◌≡◌, refl, sym, ap, ◌∙◌}
use mathlib.Core.Bool.{true, ◌&&◌}
use mathlib.Core.List.{List, [], ◌∷◌, ◌++◌, map, append_assoc}
use mathlib.Core.Option
use mathlib.Core.Option.{Option, none, some}
use native.Mathlib.Omega.{arith}
use borrow.Author.Tests.{le-leb, lt-ltb, eqb-true}
use lib.Dec.{ltb}
use lib.ListN.{length, get_or, take, drop, length-append, length-drop}
use lib.Seq.{take-append_seam, drop-append_seam, drop-drop, get_or-drop}
use lib.Ieee.{Float}
use Rattle.laws.specs.Lists.{All}
use Rattle.laws.specs.Over.{over}
use Rattle.laws.specs.Tests.{all}
use Rattle.laws.proofs.Bools.{and_left, and_right, and_intro, pick_true}
use Rattle.sets.specs.Rows.{set_of, row_of}
use Rattle.sets.proofs.Exact.{set_own}
use Rattle.point.specs.Handing.{Stored}
use Rattle.point.specs.declared.Point.{Point}
use Rattle.point.specs.declared.Figures.{Figures}
use Rattle.point.specs.declared.Figures.TheVariants.{Exponential, Explicit}
use Rattle.listing.specs.Words.{figures_words, words_of}
use Rattle.listing.specs.Listed.{pos_len, neg_len, behind, bounds_at, stored_at, read_from}
use Rattle.listing.specs.declared.Cursor.{Cursor}
use Rattle.listing.specs.declared.Entry as F
use Rattle.std.specs.Prelude.{Some, None}
use Rattle.std.specs.Prelude as Std
use Rattle.listing.specs.declared.Span.{Span}
use Rattle.listing.proofs.Back as B
use Rattle.listing.proofs.Back.{Narrow}
use Rattle.listing.proofs.There.{Lies, point-there, stored_there}
use Rattle.pooling.specs.Lists.{Source, whole_at}
use Rattle.pooling.proofs.Whole.{bounded_in}
use Rattle.sheets.specs.Entries.{Entry, bounds_fine, entry_fine}
use Rattle.sheets.specs.Sheet.{same_list}
use Rattle.sheets.specs.Lists.{whole_found, listed, joined, words_from, laid_out}
use Rattle.sheets.proofs.SameLists.{same-list}
use Rattle.sheets.proofs.Lengths.{fine-few, fine-exact, exact-bounds, exact-pos, exact-neg}
use Rattle.sheets.proofs.Back.{HeldEntry, point-held}

-- ---- where the words say that bounds lie: those of an exponential point say nothing, and it has none

abbrev span_for : Figures → ℕ → ℕ → Span
span_for (Exponential c) b n = record { start = 0; len = 0 }
span_for (Explicit m) b n = record { start = b; len = n }

figures_for_lem : (f : Figures) (b n : ℕ) (l : List ℕ) → figures_words f (record { start = b; len = n }) ++ l ≡ figures_words f (span_for f b n) ++ l
figures_for_lem (Exponential c) b n l = refl
figures_for_lem (Explicit m) b n l = refl

words_for_lem : (p : Point) (b n : ℕ) → words_of p (record { start = b; len = n }) ≡ words_of p (span_for p.figures b n)
words_for_lem p b n = figures_for_lem p.figures b n _

narrow_for : (f : Figures) (s : Span) (b n : ℕ) → Narrow f s → Narrow f (span_for f b n)
narrow_for (Exponential c) s b n h = (h.0, h.1, h.2, refl)
narrow_for (Explicit m) s b n h = tt

many_for : (f : Figures) (b n : ℕ) → pos_len f (record { start = 0; len = n }) ≡ pos_len f (span_for f b n)
many_for (Exponential c) b n = refl
many_for (Explicit m) b n = refl

bounds_for : (f : Figures) (b : ℕ) (bs l : List Float) → bounds_fine f (length bs) ≡ true → take (length bs) (drop b l) ≡ bs
    → bounds_at (span_for f b (length bs)) l ≡ bs
bounds_for (Exponential c) b bs l h t = ap (λ (k : ℕ). take k (drop b l)) (sym (eqb-true (length bs) 0 h)) ∙ t
bounds_for (Explicit m) b bs l h t = t

end_for : (f : Figures) (b n k : ℕ) → b + n ≤ k → (span_for f b n).start + (span_for f b n).len ≤ k
end_for (Exponential c) b n k h = omega arith
end_for (Explicit m) b n k h = h

held_for : (p : Point) (s : Span) (b n : ℕ) → B.Held p s → B.Held p (span_for p.figures b n)
held_for p s b n h =
    record { figures = narrow_for p.figures s b n h.figures; both = h.both; min = h.min; max = h.max; sum = h.sum }

-- ---- a list that lies behind a cursor of a store

module _ {A : Type 0} (k : ℕ) (l a b c : List A) (h : drop k l ≡ (a ++ b) ++ c) where
  first-here : take (length a) (drop k l) ≡ a
  first-here = ap (take (length a)) (h ∙ append_assoc a b c) ∙ take-append_seam a (b ++ c)

  rest-here : drop (k + length a) l ≡ b ++ c
  rest-here = sym (drop-drop (length a) k l) ∙ ap (drop (length a)) (h ∙ append_assoc a b c) ∙ drop-append_seam a (b ++ c)

  end-here : k ≤ length l → k + length a ≤ length l
  end-here g = omega (arith, length-drop k l, ap length h, length-append (a ++ b) c, length-append a b)

row_here : (k : ℕ) (l : List (List ℕ)) {r : List ℕ} {t : List (List ℕ)} → drop k l ≡ r ∷ t → get_or l k [] ≡ r
row_here k l e =
    let z : k + 0 ≡ k = omega arith in
    ap (λ (j : ℕ). get_or l j []) (sym z) ∙ sym (get_or-drop k l 0 []) ∙ ap (λ (q : List (List ℕ)). get_or q 0 []) e

place_here : (k : ℕ) (l : List (List ℕ)) {r : List ℕ} {t : List (List ℕ)} → drop k l ≡ r ∷ t → k < length l
place_here k l e = omega (arith, length-drop k l, ap length e)

-- ---- entries that lie in a list from a cursor on, their bounds from place b on

module _ (x : Source) (rs ws : List (List ℕ)) (ps ns : List ℕ) (bs : List Float) where
  record From (es : List Entry) (b : ℕ) (at : Cursor) : Type 0 where
    sets : drop at.place x.list.sets ≡ map (λ e. row_of e.0) es ++ rs
    words : drop at.place x.list.words ≡ words_from b es ++ ws
    pos : drop at.pos x.list.pos ≡ joined (λ s. s.pos) es ++ ps
    neg : drop at.neg x.list.neg ≡ joined (λ s. s.neg) es ++ ns
    bounds : drop b x.bounds ≡ joined (λ s. s.bounds) es ++ bs
    in_pos : at.pos ≤ length x.list.pos
    in-neg : at.neg ≤ length x.list.neg
    in_bounds : b ≤ length x.bounds

  module _ (e : Entry) (es : List Entry) (b : ℕ) (at : Cursor) (f : From (e ∷ es) b at) (fine : entry_fine e ≡ true) (h : HeldEntry e) where
    abbrev s : Stored
    s = e.1

    abbrev n : ℕ
    n = length e.1.bounds

    abbrev at-span : Span
    at-span = span_for e.1.point.figures b (length e.1.bounds)

    -- the cursor behind it
    abbrev onward : Cursor
    onward = record { place = at.place + 1; pos = at.pos + length e.1.pos; neg = at.neg + length e.1.neg }

    lies : Lies at (words_of e.1.point at-span) e.1.pos e.1.neg x.list
    lies =
        record {
          place = place_here at.place x.list.words f.words;
          words = row_here at.place x.list.words f.words ∙ words_for_lem s.point b n;
          pos_end = end-here at.pos x.list.pos s.pos (joined (λ s. s.pos) es) ps f.pos f.in_pos;
          neg_end = end-here at.neg x.list.neg s.neg (joined (λ s. s.neg) es) ns f.neg f.in-neg;
          pos = first-here at.pos x.list.pos s.pos (joined (λ s. s.pos) es) ps f.pos;
          neg = first-here at.neg x.list.neg s.neg (joined (λ s. s.neg) es) ns f.neg;
        }

    bounds-end : b + length e.1.bounds ≤ length x.bounds
    bounds-end = end-here b x.bounds s.bounds (joined (λ s. s.bounds) es) bs f.bounds f.in_bounds

    next : From es (b + length e.1.bounds) onward
    next =
        record {
          sets = sym (drop-drop 1 at.place x.list.sets) ∙ ap (drop 1) f.sets;
          words = sym (drop-drop 1 at.place x.list.words) ∙ ap (drop 1) f.words;
          pos = rest-here at.pos x.list.pos s.pos (joined (λ s. s.pos) es) ps f.pos;
          neg = rest-here at.neg x.list.neg s.neg (joined (λ s. s.neg) es) ns f.neg;
          bounds = rest-here b x.bounds s.bounds (joined (λ s. s.bounds) es) bs f.bounds;
          in_pos = lies.pos_end;
          in-neg = lies.neg_end;
          in_bounds = bounds-end;
        }

    held : B.Held e.1.point at-span
    held = held_for s.point _ b n (point-held e fine h)

    pos-many : length e.1.pos ≡ pos_len e.1.point.figures at-span
    pos-many = exact-pos s (fine-exact e fine) ∙ many_for s.point.figures b n

    neg-many : length e.1.neg ≡ neg_len e.1.point.figures
    neg-many = exact-neg s (fine-exact e fine)

    abbrev entry : F.Entry
    entry = record { point = e.1.point; bounds = at-span; next = behind at e.1.point.figures at-span }

    whole : whole_at at x ≡ Some entry
    whole =
        sym (bounded_in (length x.bounds) _ entry (point-there at s.point at-span s.pos s.neg x.list held pos-many neg-many lies)
        (le-leb _ _ (end_for s.point.figures b n (length x.bounds) bounds-end)))

    stored : stored_at at entry x.bounds x.list ≡ e.1
    stored =
        stored_there at s.point at-span s.pos s.neg x.list held pos-many neg-many lies x.bounds
        ∙ (λ i. record {
          point = s.point;
          bounds = bounds_for s.point.figures b s.bounds x.bounds (exact-bounds s (fine-exact e fine))
              (first-here b x.bounds s.bounds (joined (λ s. s.bounds) es) bs f.bounds) i;
          pos = s.pos;
          neg = s.neg;
        })

    row : get_or x.list.sets at.place [] ≡ row_of e.0
    row = row_here at.place x.list.sets f.sets

    set : set_of (get_or x.list.sets at.place []) ≡ e.0
    set = ap set_of row ∙ set_own e.0 (fine-few e fine) h.set

    found : whole_found x.bounds at x.list ≡ some (e.1, onward)
    found =
        let r = get_or x.list.sets at.place [] in
        let p : ltb at.place (length x.list.sets) ≡ true = lt-ltb _ _ (place_here at.place x.list.sets f.sets) in
        let q : same_list (row_of (set_of r)) r ≡ true = same-list (row_of (set_of r)) r (ap row_of set ∙ sym row) in
        pick_true (ltb at.place (length x.list.sets) && same_list (row_of (set_of r)) r) _ none (and_intro _ _ p q)
        ∙ ap (λ (y : Std.Option F.Entry). elim y [ None ↦ none | Some d ↦ some (stored_at at d x.bounds x.list, d.next) ]) whole
        ∙ (λ i. some (stored i, record { place = at.place + 1; pos = at.pos + sym pos-many i; neg = at.neg + sym neg-many i }))

  taken : (es : List Entry) (b : ℕ) (at : Cursor) → From es b at → all entry_fine es ≡ true → All HeldEntry es
      → read_from (whole_found x.bounds) (length es) at x.list ≡ some es
  unfolding All
  taken [] b at f t h = refl
  taken (e ∷ es) b at f t h =
      let a = and_left (entry_fine e) (all entry_fine es) t in
      let r = set_of (get_or x.list.sets at.place []) in
      let w = whole_found x.bounds in
      ap (λ (y : Option (Stored × Cursor)). elim y [ none ↦ none | some z ↦ Option.map (λ l. (r, z.0) ∷ l) (read_from w (length es) z.1 x.list) ])
      (found e es b at f a h.0)
      ∙ (λ i. Option.map (λ l. (set e es b at f a h.0 i, e.1) ∷ l)
      (taken es _ _ (next e es b at f a h.0) (and_right (entry_fine e) (all entry_fine es) t) h.1 i))

-- ---- READ BACK: what is laid out is taken

-- where a store is too short it is longer afterwards: no room is asked for
pub laid-back : (es : List Entry) (o : Source) → All HeldEntry es → all entry_fine es ≡ true → listed (length es) (laid_out es o) ≡ some es
unfolding over
laid-back es o h t =
    taken (laid_out es o) _ _ _ _ _ es 0 (record { place = 0; pos = 0; neg = 0 })
    (record { sets = refl; words = refl; pos = refl; neg = refl; bounds = refl; in_pos = omega arith; in-neg = omega arith; in_bounds = omega arith })
    t h
