-- The passes together are the definition. Assumes nothing.
use Prim.Native.Nat.{ℕ, zero, suc, ◌+◌, ◌%◌, ◌-◌, ◌≤◌, ◌<◌}
use mathlib.Core.Path.{◌≡◌, refl, ap, sym, subst, ◌∙◌}
use mathlib.Core.Logic.{inl, inr}
use mathlib.Core.Bool.{Bool, true, false}
use mathlib.Core.List.{List, [], ◌∷◌, ◌++◌, map, map-append, append-nil}
use native.Mathlib.Omega.{arith}
use borrow.Author.Tests.{eq-eqb, ne_eqb}
use lib.Dec.{eqb}
use lib.ListN.{length, get_or, set, length-map}
use Rattle.laws.specs.Lists.{only}
use Rattle.laws.specs.Over.{over}
use Rattle.laws.proofs.Bools.{pick_true, pick-false}
use Rattle.tally.specs.Map.{bit}
use Rattle.sets.specs.Rows.{span}
use Rattle.directory.specs.declared.Directory.{Directory}
use Rattle.directory.proofs.Rises.{In, span_in}
use Rattle.sweep.specs.Swept.{staying, stayers, rank, down, clear, swept_kept}
use Rattle.sweep.specs.Passes.{mark_in, mark_of, packed, lows, renumbered, settled}
use Rattle.laws.proofs.Over.{length_over, over-front, over-snoc}
use Rattle.sweep.proofs.Marks.{rank-more, rank-le, rank-some, mark-stays, mark-goes, mark-le, renumbered-small, over-small}
use Rattle.sweep.proofs.Packs.{packed-length, packed-low, packed-mark, packed-same, lows-packed}
use Rattle.sweep.proofs.Turns.{places-length}

pub map_at : {A : Type 0} (f : ℕ → A) (l : List ℕ) (k : ℕ) (d : A) → k < length l → get_or (map f l) k d ≡ f (get_or l k 0)
map_at f [] k d h = absurd (omega arith)
map_at f (x ∷ l) zero d h = refl
map_at f (x ∷ l) (suc k) d h = map_at f l k d (omega arith)

-- the rows of the slots that stay
module _ (c : List ℕ → List ℕ) (p : ℕ → Bool) (used : ℕ) (l : List (List ℕ)) (h : used < length l) where
  abbrev front : List (List ℕ)
  front = map (λ x. c (get_or l x [])) (0 ∷ stayers p used)

  front_long : length front ≡ suc (rank p used)
  front_long = length-map (0 ∷ stayers p used) (λ x. c (get_or l x []))

  pub down-length : length (down c p used l) ≡ length l
  down-length = length_over front l (omega (arith, front_long, rank-le p used))

  pub down-front : (y : ℕ) → y ≤ rank p used → get_or (down c p used l) y [] ≡ c (get_or l (get_or (0 ∷ stayers p used) y 0) [])
  down-front y k = over-front front l y [] (omega (arith, front_long)) ∙ map_at (λ x. c (get_or l x [])) (0 ∷ stayers p used) y [] (omega arith)

-- moving by marks
root_over : (c : List ℕ → List ℕ) (l : List (List ℕ)) → 0 < length l → set l 0 (c (get_or l 0 [])) ≡ over (c (get_or l 0 []) ∷ []) l
unfolding over
root_over c [] h = absurd (omega arith)
root_over c (x ∷ l) h = refl

module _ (c : List ℕ → List ℕ) (p : ℕ → Bool) (m : ℕ → ℕ) (l : List (List ℕ)) where
  pub settled-down : (n : ℕ) → n < length l → ((x : ℕ) → 1 ≤ x → x ≤ n → m x ≡ mark_of p x) → settled c m n l ≡ down c p n l
  settled-down zero h g = root_over c l h
  settled-down (suc n) h g = go (p (suc n)) refl (g (suc n) (omega arith) (omega arith)) (settled-down n (omega arith) (λ x a b. g x a (omega arith)))
    where
      go : (b : Bool) → p (suc n) ≡ b → m (suc n) ≡ mark_of p (suc n) → settled c m n l ≡ down c p n l → settled c m (suc n) l ≡ down c p (suc n) l
      go true e q ih =
          let row = c (get_or l (suc n) []) in
          let f = map (λ x. c (get_or l x [])) (0 ∷ stayers p n) in
          let r : m (suc n) ≡ suc (rank p n) = q ∙ mark-stays p (suc n) e ∙ rank-more p n ∙ ap (λ (b : Bool). rank p n + bit b) e ∙ omega arith in
          let k : length f ≡ m (suc n) = length-map (0 ∷ stayers p n) (λ x. c (get_or l x [])) ∙ sym r in
          let s : stayers p (suc n) ≡ stayers p n ++ (suc n ∷ []) = ap (λ (t : List ℕ). stayers p n ++ t) (pick_true (p (suc n)) (suc n ∷ []) [] e) in
          pick-false (eqb (m (suc n)) 0) (settled c m n l) (set (settled c m n l) (m (suc n)) row) (ne_eqb (m (suc n)) 0 (λ z. omega arith))
          ∙ ap (λ (t : List (List ℕ)). set t (m (suc n)) row) ih
          ∙ ap (λ (i : ℕ). set (over f l) i row) (sym k)
          ∙ over-snoc f l row (omega (arith, rank-le p n))
          ∙ ap (λ (t : List (List ℕ)). over t l) (sym (ap (λ (t : List ℕ). map (λ x. c (get_or l x [])) (0 ∷ t)) s ∙ map-append (λ x. c (get_or l x [])) (0 ∷ stayers p n) (suc n ∷ [])))
      go false e q ih =
          let s : stayers p (suc n) ≡ stayers p n = ap (λ (t : List ℕ). stayers p n ++ t) (pick-false (p (suc n)) (suc n ∷ []) [] e) ∙ append-nil (stayers p n) in
          pick_true (eqb (m (suc n)) 0) (settled c m n l) (set (settled c m n l) (m (suc n)) (c (get_or l (suc n) []))) (eq-eqb (m (suc n)) 0 (q ∙ mark-goes p (suc n) e))
          ∙ ih
          ∙ ap (λ (t : List ℕ). over (map (λ x. c (get_or l x [])) (0 ∷ t)) l) (sym s)

-- the places by marks
module _ (p : ℕ → Bool) (m : ℕ → ℕ) where
  pub renumbered-only : (l : List ℕ) → ((q : ℕ) → In q l → (1 ≤ q) × (m q ≡ mark_of p q)) → renumbered m l ≡ map (rank p) (only p l)
  renumbered-only [] g = refl
  renumbered-only (q ∷ l) g = go (p q) refl (g q (inl refl)) (renumbered-only l (λ x i. g x (inr i)))
    where
      go : (b : Bool) → p q ≡ b → (1 ≤ q) × (m q ≡ mark_of p q) → renumbered m l ≡ map (rank p) (only p l) → renumbered m (q ∷ l) ≡ map (rank p) (only p (q ∷ l))
      go true e a ih =
          let r : m q ≡ rank p q = a.1 ∙ mark-stays p q e in
          pick-false (eqb (m q) 0) (renumbered m l) (m q ∷ renumbered m l) (ne_eqb (m q) 0 (λ z. let w = rank-some p q a.0 e in omega arith))
          ∙ ap (λ (x : ℕ). x ∷ renumbered m l) r
          ∙ ap (λ (t : List ℕ). rank p q ∷ t) ih
          ∙ sym (ap (map (rank p)) (pick_true (p q) (q ∷ only p l) (only p l) e))
      go false e a ih =
          pick_true (eqb (m q) 0) (renumbered m l) (m q ∷ renumbered m l) (eq-eqb (m q) 0 (a.1 ∙ mark-goes p q e))
          ∙ ih
          ∙ sym (ap (map (rank p)) (pick-false (p q) (q ∷ only p l) (only p l) e))

-- all of it
module _ (d : Directory) (sets entries : List (List ℕ)) (order : List ℕ) (ls : d.used < length sets) (le : d.used < length entries)
    (lo : d.used ≤ length order) (few : d.used < 65536) (g : (k : ℕ) → k < d.used → (1 ≤ get_or order k 0) × (get_or order k 0 ≤ d.used)) where
  abbrev p : ℕ → Bool
  p = staying sets entries

  abbrev u : ℕ
  u = d.used

  pub places-small : (k : ℕ) → k < d.used → get_or order k 0 < 65536
  places-small k h = omega (arith, (g k h).1)

  -- once the slots are marked
  module _ (o : List ℕ) (e : o ≡ packed (mark_of (staying sets entries)) d.used order) where
    marks : (x : ℕ) → 1 ≤ x → x ≤ d.used → mark_in o x ≡ mark_of (staying sets entries) x
    marks x a b = ap (λ (t : List ℕ). mark_in t x) e ∙ packed-mark (mark_of p) u order lo places-small x a b

    pub marked-long : d.used ≤ length o
    marked-long = omega (arith, ap length e, packed-length (mark_of p) u order lo)

    pub marked-slot : (k : ℕ) → k < d.used → (1 ≤ get_or o k 0 % 65536) × (get_or o k 0 % 65536 ≤ d.used)
    marked-slot k h =
        let q = ap (λ (t : List ℕ). get_or t k 0 % 65536) e ∙ packed-low (mark_of p) u order lo places-small k h in
        (omega (arith, q, (g k h).0), omega (arith, q, (g k h).1))

    pub marked-le : (x : ℕ) → 1 ≤ x → x ≤ d.used → mark_in o x ≤ d.used
    marked-le x a b = omega (arith, marks x a b, mark-le p x)

    -- once the places are renumbered
    abbrev Z : List ℕ
    Z = over (map (rank (staying sets entries)) (only (staying sets entries) (span order 0 d.used))) order

    here : (q : ℕ) → In q (span order 0 d.used) → (1 ≤ q) × (q ≤ d.used)
    here q i = span_in (λ (x : ℕ). (1 ≤ x) × (x ≤ d.used)) order 0 u (λ j x y. g j (omega arith)) q i

    named : renumbered (mark_in o) (span order 0 d.used) ≡ map (rank (staying sets entries)) (only (staying sets entries) (span order 0 d.used))
    named = renumbered-only p (mark_in o) (span order 0 u) (λ q i. let w = here q i in (w.0, marks q w.0 w.1))

    Z-long : length Z ≡ length order
    Z-long = ap (λ (t : List ℕ). length (over t order)) (sym named) ∙ places-length (mark_in o) order u lo

    Z-small : (j : ℕ) → j < d.used → get_or Z j 0 < 65536
    Z-small j h =
        subst (λ (t : List ℕ). get_or (over t order) j 0 < 65536) named
        (over-small (renumbered (mark_in o) (span order 0 u)) order 65536 (renumbered-small (mark_in o) 65536 (span order 0 u) (λ q i. let w = here q i in omega (arith, marked-le q w.0 w.1))) j (places-small j h))

    module _ (r : List ℕ) (f : r ≡ packed (mark_in o) d.used (over (renumbered (mark_in o) (span (lows d.used o) 0 d.used)) (lows d.used o))) where
      words_are : r ≡ packed (mark_of (staying sets entries)) d.used Z
      words_are =
          let l : lows u o ≡ order = ap (lows u) e ∙ lows-packed (mark_of p) u order lo places-small in
          f ∙ ap (λ (t : List ℕ). packed (mark_in o) u (over (renumbered (mark_in o) (span t 0 u)) t)) l
          ∙ ap (λ (t : List ℕ). packed (mark_in o) u (over t order)) named
          ∙ packed-same (mark_in o) (mark_of p) u Z marks

      room : d.used ≤ length Z
      room = omega (arith, Z-long)

      pub moves_long : d.used ≤ length r
      moves_long = omega (arith, ap length words_are, packed-length (mark_of p) u Z room, Z-long)

      moves-mark : (x : ℕ) → 1 ≤ x → x ≤ d.used → mark_in r x ≡ mark_of (staying sets entries) x
      moves-mark x a b = ap (λ (t : List ℕ). mark_in t x) words_are ∙ packed-mark (mark_of p) u Z room Z-small x a b

      pub moves-le : (x : ℕ) → 1 ≤ x → x ≤ d.used → mark_in r x ≤ x
      moves-le x a b = omega (arith, moves-mark x a b, mark-le p x)

      -- and then moved, and the marks taken away
      pub swept-is : (kept count : ℕ) (sets₁ entries₁ : List (List ℕ)) (order₁ : List ℕ) → kept ≡ rank (staying sets entries) d.used
          → sets₁ ≡ settled (λ row. row) (mark_in r) d.used sets → entries₁ ≡ settled clear (mark_in r) d.used entries → order₁ ≡ lows d.used r → count ≡ d.count - (d.used - kept)
          → record { dir = record { used = kept; count = count; last = d.last }; stores = record { sets = sets₁; entries = entries₁; order = order₁ } } ≡ swept_kept (record { dir = d; stores = record { sets = sets; entries = entries; order = order } })
      unfolding swept_kept
      swept-is kept count sets₁ entries₁ order₁ k s t c n =
          let b : sets₁ ≡ down (λ row. row) p u sets = s ∙ settled-down (λ row. row) p (mark_in r) sets u ls moves-mark in
          let i : entries₁ ≡ down clear p u entries = t ∙ settled-down clear p (mark_in r) entries u le moves-mark in
          let a : order₁ ≡ Z = c ∙ ap (lows u) words_are ∙ lows-packed (mark_of p) u Z room Z-small in
          let j : count ≡ d.count - (u - rank p u) = n ∙ ap (λ (x : ℕ). d.count - (u - x)) k in
          ap (λ (x : ℕ). record { dir = record { used = x; count = count; last = d.last }; stores = record { sets = sets₁; entries = entries₁; order = order₁ } }) k
          ∙ ap (λ (x : ℕ). record { dir = record { used = rank p u; count = x; last = d.last }; stores = record { sets = sets₁; entries = entries₁; order = order₁ } }) j
          ∙ ap (λ (x : List (List ℕ)). record { dir = record { used = rank p u; count = d.count - (u - rank p u); last = d.last }; stores = record { sets = x; entries = entries₁; order = order₁ } }) b
          ∙ ap (λ (x : List (List ℕ)). record { dir = record { used = rank p u; count = d.count - (u - rank p u); last = d.last }; stores = record { sets = down (λ row. row) p u sets; entries = x; order = order₁ } }) i
          ∙ ap (λ (x : List ℕ). record { dir = record { used = rank p u; count = d.count - (u - rank p u); last = d.last }; stores = record { sets = down (λ row. row) p u sets; entries = down clear p u entries; order = x } }) a
