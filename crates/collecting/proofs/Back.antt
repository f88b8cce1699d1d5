-- The points that are laid over lent output read back as they were. Assumes nothing.
use Prim.Native.Nat.{ℕ, ◌+◌, ◌≤◌}
use mathlib.Core.Path.{◌≡◌, refl, sym, ap, ◌∙◌}
use mathlib.Core.Logic.{inl, inr}
use mathlib.Core.Bool.{Bool}
use mathlib.Core.List.{List, [], ◌∷◌, ◌++◌, map, append_assoc}
use mathlib.Core.Option
use mathlib.Core.Option.{Option, none, some}
use native.Mathlib.Omega.{arith}
use lib.ListN.{length, get_or, take, drop, length-append, length-drop}
use lib.Seq.{take-append_seam, drop-append_seam, drop-drop, get_or-drop}
use Rattle.laws.specs.Over.{over}
use Rattle.tally.specs.Kind.{Kind}
use Rattle.tally.specs.Sets.{Set}
use Rattle.sets.specs.Rows.{set_of, row_of}
use Rattle.directory.specs.View.{set_at, updated_in}
use Rattle.directory.proofs.Rises.{In}
use Rattle.value_map.specs.Store.{Store}
use Rattle.value_map.specs.Calls.{Held}
use Rattle.value_map.proofs.Owed.{was}
use Rattle.listing.specs.Listed.{Output, read_from}
use Rattle.listing.specs.declared.Cursor.{Cursor}
use Rattle.listing.proofs.There.{Lies}
use Rattle.collecting.specs.Lister.{Lister}
use Rattle.collecting.specs.Collected.{counts_of, laid_out}
use Rattle.collecting.specs.Slots.{behind_at}
use Rattle.collecting.proofs.Owed.{Finds}

-- the first of two lists that lie one behind the other, and what lies behind it
first_of : (a b c : List ℕ) → take (length a) ((a ++ b) ++ c) ≡ a
first_of a b c = ap (take (length a)) (append_assoc a b c) ∙ take-append_seam a (b ++ c)

rest_of : (a b c : List ℕ) → drop (length a) ((a ++ b) ++ c) ≡ b ++ c
rest_of a b c = ap (drop (length a)) (append_assoc a b c) ∙ drop-append_seam a (b ++ c)

-- a slot's set and point
abbrev pub point_at : {K : Kind} (S : Store K) → S.Switches → Held S.Cells → ℕ → Set × K.Point
point_at {K} S w h x =
    (set_at h.kept.stores.sets x, K.point (S.settings w) (was S w h.cells x (updated_in h.kept.stores.entries x)))

-- a reader that finds of each slot of a list what g says
module _ {K : Kind} {S : Store K} (L : Lister S) (w : S.Switches) (h : Held S.Cells) {A : Type 0} (found : Cursor → Output → Option (A × Cursor)) (g : ℕ → A) where
  abbrev u : ℕ → Bool
  u x = updated_in h.kept.stores.entries x

  abbrev set : ℕ → Set
  set x = set_at h.kept.stores.sets x

  pub record Read (x : ℕ) : Type 0 where
    pub found-is : Finds found (L.words w h.cells x (u x)) (L.pos h.cells x (u x)) (L.neg h.cells x (u x)) (g x)
    pub set_is : set_of (row_of (set x)) ≡ set x

  -- an output, in which slots lie from a cursor on
  module _ (o : Output) (rs ws : List (List ℕ)) (ps ns : List ℕ) where
    record From (l : List ℕ) (at : Cursor) : Type 0 where
      sets : drop at.place o.sets ≡ map (λ x. row_of (set x)) l ++ rs
      words : drop at.place o.words ≡ map (λ x. L.words w h.cells x (u x)) l ++ ws
      pos : drop at.pos o.pos ≡ counts_of L.pos h l ++ ps
      neg : drop at.neg o.neg ≡ counts_of L.neg h l ++ ns
      in_pos : at.pos ≤ length o.pos
      in-neg : at.neg ≤ length o.neg

    module _ (x : ℕ) (l : List ℕ) (at : Cursor) (f : From (x ∷ l) at) where
      abbrev P : List ℕ
      P = L.pos h.cells x (u x)

      abbrev N : List ℕ
      N = L.neg h.cells x (u x)

      first-is : (t : List (List ℕ)) {r : List ℕ} {R : List (List ℕ)} → drop at.place t ≡ r ∷ R → get_or t at.place [] ≡ r
      first-is t e =
          let z : at.place + 0 ≡ at.place = omega arith in
          ap (λ (k : ℕ). get_or t k []) (sym z) ∙ sym (get_or-drop at.place t 0 []) ∙ ap (λ (q : List (List ℕ)). get_or q 0 []) e

      pos_end : at.pos + length P ≤ length o.pos
      pos_end =
          let PS = counts_of L.pos h l in
          omega (arith, f.in_pos, length-drop at.pos o.pos, ap length f.pos, length-append (P ++ PS) ps, length-append P PS)

      neg-end : at.neg + length N ≤ length o.neg
      neg-end =
          let NS = counts_of L.neg h l in
          omega (arith, f.in-neg, length-drop at.neg o.neg, ap length f.neg, length-append (N ++ NS) ns, length-append N NS)

      lies : Lies at (L.words w h.cells x (u x)) P N o
      lies =
          record {
            place = omega (arith, length-drop at.place o.words, ap length f.words);
            words = first-is o.words f.words;
            pos_end = pos_end;
            neg_end = neg-end;
            pos = ap (take (length P)) f.pos ∙ first_of P (counts_of L.pos h l) ps;
            neg = ap (take (length N)) f.neg ∙ first_of N (counts_of L.neg h l) ns;
          }

      next : From l (behind_at at (length P) (length N))
      next =
          record {
            sets = sym (drop-drop 1 at.place o.sets) ∙ ap (drop 1) f.sets;
            words = sym (drop-drop 1 at.place o.words) ∙ ap (drop 1) f.words;
            pos = sym (drop-drop (length P) at.pos o.pos) ∙ ap (drop (length P)) f.pos ∙ rest_of P (counts_of L.pos h l) ps;
            neg = sym (drop-drop (length N) at.neg o.neg) ∙ ap (drop (length N)) f.neg ∙ rest_of N (counts_of L.neg h l) ns;
            in_pos = pos_end;
            in-neg = neg-end;
          }

    reads-from : (l : List ℕ) (at : Cursor) → From l at → ((x : ℕ) → In x l → Read x) → read_from found (length l) at o ≡ some (map (λ x. (set x, g x)) l)
    reads-from [] at f r = refl
    reads-from (x ∷ l) at f r =
        let e = r x (inl refl) in
        let s = ap set_of (first-is x l at f o.sets f.sets) ∙ e.set_is in
        ap (λ (y : Option (A × Cursor)). elim y [ none ↦ none | some z ↦ Option.map (λ q. (set_of (get_or o.sets at.place []), z.0) ∷ q) (read_from found (length l) z.1 o) ])
        (e.found-is at o (lies x l at f))
        ∙ (λ i. Option.map (λ q. (s i, g x) ∷ q) (reads-from l _ (next x l at f) (λ y m. r y (inr m)) i))

  -- READ BACK: the points laid over lent output are those of the slots
  pub reads-back : (l : List ℕ) (o : Output) → ((x : ℕ) → In x l → Read x)
      → read_from found (length l) (record { place = 0; pos = 0; neg = 0 }) (laid_out L w h l o) ≡ some (map (λ x. (set x, g x)) l)
  unfolding over
  reads-back l o r =
      reads-from (laid_out L w h l o) _ _ _ _ l (record { place = 0; pos = 0; neg = 0 })
      (record { sets = refl; words = refl; pos = refl; neg = refl; in_pos = omega arith; in-neg = omega arith }) r
