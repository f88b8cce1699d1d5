-- A merge into the rest of an output's counts, told as a point put there or as nothing changed. Assumes nothing.
use Prim.Native.Nat.{ℕ, ◌+◌, ◌-◌, ◌^◌, ◌≤◌, ◌<◌}
use mathlib.Core.Path.{◌≡◌, refl, sym, ap, ap₂, ◌∙◌}
use mathlib.Core.Logic.{⊎_elim}
use mathlib.Core.Bool.{Bool, true, false, ◌&&◌}
use mathlib.Core.List.{List, [], ◌∷◌, ◌++◌, append-nil}
use native.Mathlib.Omega.{arith}
use borrow.Author.Tests.{leb-true, le-leb, lt-leb}
use lib.Dec.{leb}
use lib.ListN.{length, set, take, drop, length-drop, drop_of_length-le, take-append-drop}
use lib.Seq.{take_all}
use Rattle.laws.specs.Over.{over}
use Rattle.laws.specs.Pick.{pick}
use Rattle.laws.specs.Said.{Said, refusal, success}
use Rattle.laws.proofs.Bools.{and_left, and_right, pick_true, pick-false}
use Rattle.laws.proofs.Cases.{true-not-false}
use Rattle.laws.proofs.Over.{take-over}
use Rattle.point.specs.declared.Point.{Point}
use Rattle.point.specs.Handing.{Stored, refusal_before, counts_in, Outcome, ended, merging}
use Rattle.points.specs.Handed.{merge_counts, pos_of, neg_of}
use Rattle.listing.specs.Words.{words_of}
use Rattle.listing.specs.Listed.{Output, pos_len, neg_len, behind, over_at, put_at}
use Rattle.listing.specs.Inner.{Goes}
use Rattle.listing.specs.declared.Cursor.{Cursor}
use Rattle.listing.specs.declared.Span.{Span}
use Rattle.pooling.specs.Lists.{ends, placed, has_place, put_merged, pooled}
use Rattle.pooling.proofs.Verdicts.{point, lastly, enough, Turned, Taken, verdict}

-- ---- a place at the cursor

module _ (at : Cursor) (sets words pos neg : ℕ) where
  pub no-sets : sets ≤ at.place → false ≡ placed at sets words pos neg
  no-sets h = sym (ap (λ (t : Bool). t && (leb (at.place + 1) words && (leb at.pos pos && leb at.neg neg))) (lt-leb (at.place + 1) sets (omega arith)))

  module _ (s : at.place < sets) where
    pub no_words : words ≤ at.place → false ≡ placed at sets words pos neg
    no_words h = λ i. sym (le-leb (at.place + 1) sets (omega arith)) i && (sym (lt-leb (at.place + 1) words (omega arith)) i && (leb at.pos pos && leb at.neg neg))

    module _ (w : at.place < words) where
      pub no-pos : pos < at.pos → false ≡ placed at sets words pos neg
      no-pos h =
          λ i. sym (le-leb (at.place + 1) sets (omega arith)) i && (sym (le-leb (at.place + 1) words (omega arith)) i && (sym (lt-leb at.pos pos h) i && leb at.neg neg))

      pub by-neg : at.pos ≤ pos → leb at.neg neg ≡ placed at sets words pos neg
      by-neg h =
          λ i. sym (le-leb (at.place + 1) sets (omega arith)) i && (sym (le-leb (at.place + 1) words (omega arith)) i && (sym (le-leb at.pos pos h) i && leb at.neg neg))

  pub place-says : placed at sets words pos neg ≡ true → (at.place < sets) × (at.place < words) × (at.pos ≤ pos) × (at.neg ≤ neg)
  place-says h =
      let s = leb (at.place + 1) sets in
      let w = leb (at.place + 1) words in
      let p = leb at.pos pos in
      let n = leb at.neg neg in
      let h₂ = and_right s (w && (p && n)) h in
      let h₃ = and_right w (p && n) h₂ in
      let a = leb-true (at.place + 1) sets (and_left s (w && (p && n)) h) in
      let b = leb-true (at.place + 1) words (and_left w (p && n) h₂) in
      (omega arith, omega arith, leb-true _ _ (and_left p n h₃), leb-true _ _ (and_right p n h₃))

-- ---- what lies from a place on

abbrev rest : ℕ → List ℕ → List ℕ
rest a xs = take (length xs - a) (drop a xs)

rest-is : (a : ℕ) (xs : List ℕ) → rest a xs ≡ drop a xs
rest-is a xs = take_all (length xs - a) (drop a xs) (omega (arith, length-drop a xs))

-- written again behind its front
again : (a : ℕ) (us xs : List ℕ) → take a xs ++ (us ++ drop (length xs - a) (drop a xs)) ≡ take a xs ++ us
again a us xs =
    ap (λ (l : List ℕ). take a xs ++ (us ++ l)) (drop_of_length-le (drop a xs) {i = length xs - a} (omega (arith, length-drop a xs)))
    ∙ ap (λ (l : List ℕ). take a xs ++ l) (append-nil us)

kept : (a : ℕ) (us xs : List ℕ) → us ≡ rest a xs → take a xs ++ (us ++ drop (length xs - a) (drop a xs)) ≡ xs
kept a us xs e = again a us xs ∙ ap (λ (l : List ℕ). take a xs ++ l) (e ∙ rest-is a xs) ∙ take-append-drop a xs

laid-at : (a n : ℕ) (cs us xs : List ℕ) → length cs ≡ n → us ≡ over cs (rest a xs)
    → take a xs ++ (us ++ drop (length xs - a) (drop a xs)) ≡ over_at a (take n us) xs
unfolding over_at
laid-at a n cs us xs e u =
    let d : us ≡ over cs (drop a xs) = u ∙ ap (over cs) (rest-is a xs) in
    let t : take n us ≡ cs = ap₂ take (sym e) d ∙ take-over cs (drop a xs) in
    again a us xs
    ∙ ap (λ (l : List ℕ). take a xs ++ l) d
    ∙ ap (λ (c : List ℕ). take a xs ++ over c (drop a xs)) (sym t)

-- ---- a merge's answer by its outcome

abbrev pub is_success : {A : Type 0} → Said A → Bool
is_success (refusal n) = false
is_success (success z) = true

abbrev number_or : {A : Type 0} → ℕ → Said A → ℕ
number_or d (refusal n) = n
number_or d (success z) = d

abbrev point_or : Point → Said Stored → Point
point_or d (refusal n) = d
point_or d (success z) = z.point

module _ (size : ℕ) (x y : Stored) (us vs : List ℕ) where
  -- refused
  pub record Back (n : ℕ) (us' vs' : List ℕ) : Type 0 where
    pub number : lastly (refusal_before size x y) ≡ n
    pub pos : us' ≡ us
    pub neg : vs' ≡ vs

  pub turned-back : (n : ℕ) (us' vs' : List ℕ) → ended (refusal n) x.bounds us' vs' ≡ merging size x y us vs → Back n us' vs'
  turned-back n us' vs' h =
      ⊎_elim
      (λ (t : (k : ℕ) × Turned size x y us vs k).
      let q = h ∙ t.1.is in
      record {
        number = t.1.number ∙ sym (ap (λ (o : Outcome). number_or 0 o.answer) q);
        pos = ap (λ (o : Outcome). o.pos) q;
        neg = ap (λ (o : Outcome). o.neg) q;
      })
      (λ (t : Taken size x y us vs). true-not-false (sym (ap (λ (o : Outcome). is_success o.answer) (h ∙ t.is))))
      (verdict size x y us vs)

  -- taken: counts over the rows, as many as the point says
  pub record Took (b : Span) (p : Point) (us' vs' : List ℕ) : Type 0 where
    pub free : refusal_before size x y ≡ 0
    pub is : p ≡ point size x y
    pub pos : us' ≡ over (pos_of (merge_counts size (counts_in x) (counts_in y))) us
    pub neg : vs' ≡ over (neg_of (merge_counts size (counts_in x) (counts_in y))) vs
    pub many : length (pos_of (merge_counts size (counts_in x) (counts_in y))) ≡ pos_len p.figures b
    pub many_neg : length (neg_of (merge_counts size (counts_in x) (counts_in y))) ≡ neg_len p.figures
    pub room : length (pos_of (merge_counts size (counts_in x) (counts_in y))) ≤ length us
    pub room_neg : length (neg_of (merge_counts size (counts_in x) (counts_in y))) ≤ length vs

  pub took : (b : Span) → length x.bounds ≡ b.len → (p : Point) (us' vs' : List ℕ) → ended (success p) x.bounds us' vs' ≡ merging size x y us vs → Took b p us' vs'
  took b l p us' vs' h =
      ⊎_elim
      (λ (t : (k : ℕ) × Turned size x y us vs k). true-not-false (ap (λ (o : Outcome). is_success o.answer) (h ∙ t.1.is)))
      (λ (t : Taken size x y us vs).
      let q = h ∙ t.is in
      let e = ap (λ (o : Outcome). point_or p o.answer) q in
      let m = enough size x y t.free b l in
      record {
        free = t.free;
        is = e;
        pos = ap (λ (o : Outcome). o.pos) q;
        neg = ap (λ (o : Outcome). o.neg) q;
        many = m.pos ∙ ap (λ (z : Point). pos_len z.figures b) (sym e);
        many_neg = m.neg ∙ ap (λ (z : Point). neg_len z.figures) (sym e);
        room = t.pos;
        room_neg = t.neg;
      })
      (verdict size x y us vs)

-- ---- merged into the counts from a place on: the cursor's, or behind all counts without a place for the point

none_over : (cs us old : List ℕ) → length cs ≤ 0 → us ≡ over cs old → us ≡ old
unfolding over
none_over [] us old h e = e
none_over (c ∷ cs) us old h e = absurd (omega arith)

-- as the code writes counts back
abbrev written : ℕ → List ℕ → List ℕ → List ℕ
written i us xs = take i xs ++ (us ++ drop (length xs - i) (drop i xs))

pub start-le : (ok : Bool) (a n i : ℕ) → (ok ≡ true → a ≤ n) → i ≡ pick ok a n → i ≤ n
unfolding pick
start-le true a n i h e = omega (arith, h refl, e)
start-le false a n i h e = omega (arith, e)

module _ (size : ℕ) (x y : Stored) (at : Cursor) (row : List ℕ) (b : Span) (l : length x.bounds ≡ b.len) (o : Output) where
  same : (merging size x y (rest at.pos o.pos) (rest at.neg o.neg)).answer ≡ (merging size x y (drop at.pos o.pos) (drop at.neg o.neg)).answer
  same = ap₂ (λ (u v : List ℕ). (merging size x y u v).answer) (rest-is at.pos o.pos) (rest-is at.neg o.neg)

  pub with-place : has_place at o ≡ true
      → put_merged at row b o (merging size x y (drop at.pos o.pos) (drop at.neg o.neg)).answer ≡ pooled size row b x y at o
  unfolding pooled
  with-place h = sym (pick_true (has_place at o) _ _ h)

  pub without-place : has_place at o ≡ false → ends (refusal (lastly (refusal_before size x y))) o ≡ pooled size row b x y at o
  unfolding pooled
  without-place h = sym (pick-false (has_place at o) _ _ h)

  module _ (i j : ℕ) where
    -- refused, with a place or without
    by_place : (ok : Bool) → has_place at o ≡ ok → i ≡ pick ok at.pos (length o.pos) → j ≡ pick ok at.neg (length o.neg)
        → (n : ℕ) → lastly (refusal_before size x y) ≡ n → (merging size x y (rest i o.pos) (rest j o.neg)).answer ≡ refusal n
        → ends (refusal n) o ≡ pooled size row b x y at o
    unfolding pick
    by_place true t e f n m h =
        ap (put_merged at row b o) (sym h ∙ (λ k. (merging size x y (rest (e k) o.pos) (rest (f k) o.neg)).answer) ∙ same) ∙ with-place t
    by_place false t e f n m h = ap (λ (k : ℕ). ends (refusal k) o) (sym m) ∙ without-place t

    module _ (ok : Bool) (t : ok ≡ has_place at o) (e : i ≡ pick ok at.pos (length o.pos)) (f : j ≡ pick ok at.neg (length o.neg)) (us vs : List ℕ) where
      pub refused_law : (n : ℕ) → ended (refusal n) x.bounds us vs ≡ merging size x y (rest i o.pos) (rest j o.neg)
          → ends (refusal n) (record { sets = o.sets; words = o.words; pos = written i us o.pos; neg = written j vs o.neg }) ≡ pooled size row b x y at o
      refused_law n h =
          let q = turned-back size x y (rest i o.pos) (rest j o.neg) n us vs h in
          let p = kept i us o.pos q.pos in
          let m = kept j vs o.neg q.neg in
          (λ k. ends (refusal n) (record { sets = o.sets; words = o.words; pos = p k; neg = m k }))
          ∙ by_place ok (sym t) e f n q.number (sym (ap (λ (k : Outcome). k.answer) h))

      module _ (p : Point) (h : ended (success p) x.bounds us vs ≡ merging size x y (rest i o.pos) (rest j o.neg)) where
        taken : Took size x y (rest i o.pos) (rest j o.neg) b p us vs
        taken = took size x y (rest i o.pos) (rest j o.neg) b l p us vs h

        -- merged into no counts at all: only the place is wanting
        pub placeless_law : ok ≡ false
            → ends (refusal 10) (record { sets = o.sets; words = o.words; pos = written i us o.pos; neg = written j vs o.neg }) ≡ pooled size row b x y at o
        unfolding pick
        placeless_law g =
            let q = taken in
            let ei : i ≡ length o.pos = e ∙ ap (λ (k : Bool). pick k at.pos (length o.pos)) g in
            let ej : j ≡ length o.neg = f ∙ ap (λ (k : Bool). pick k at.neg (length o.neg)) g in
            let a = ap length (rest-is i o.pos) ∙ length-drop i o.pos in
            let c = ap length (rest-is j o.neg) ∙ length-drop j o.neg in
            let u = kept i us o.pos (none_over _ us (rest i o.pos) (omega (arith, q.room, a, ei)) q.pos) in
            let v = kept j vs o.neg (none_over _ vs (rest j o.neg) (omega (arith, q.room_neg, c, ej)) q.neg) in
            (λ k. ends (refusal 10) (record { sets = o.sets; words = o.words; pos = u k; neg = v k }))
            ∙ ap (λ (k : ℕ). ends (refusal k) o) (sym (ap lastly q.free))
            ∙ without-place (sym t ∙ g)

        module _ (g : ok ≡ true) where
          ei : i ≡ at.pos
          unfolding pick
          ei = e ∙ ap (λ (k : Bool). pick k at.pos (length o.pos)) g

          ej : j ≡ at.neg
          unfolding pick
          ej = f ∙ ap (λ (k : Bool). pick k at.neg (length o.neg)) g

          pub goes : at.place + 1 < 2 ^ 64 → i ≤ length o.pos → j ≤ length o.neg → length o.pos < 2 ^ 64 → length o.neg < 2 ^ 64
              → Goes at p.figures b
          goes k r s m n =
              let q = taken in
              let a = ap length (rest-is i o.pos) ∙ length-drop i o.pos in
              let c = ap length (rest-is j o.neg) ∙ length-drop j o.neg in
              (k, omega (arith, q.many, q.room, a, r, m, ei), omega (arith, q.many_neg, q.room_neg, c, s, n, ej))

          pub accepted_law : (ws : List ℕ) (next : Cursor) → ws ≡ words_of p b → next ≡ behind at p.figures b
              → ends (success next) (record {
                sets = set o.sets at.place row;
                words = set o.words at.place ws;
                pos = written i us o.pos;
                neg = written j vs o.neg;
              })
              ≡ pooled size row b x y at o
          unfolding put_at
          accepted_law ws next w c =
              let q = taken in
              let a = laid-at i (pos_len p.figures b) _ us o.pos q.many q.pos ∙ ap (λ (k : ℕ). over_at k (take (pos_len p.figures b) us) o.pos) ei in
              let n = laid-at j (neg_len p.figures) _ vs o.neg q.many_neg q.neg ∙ ap (λ (k : ℕ). over_at k (take (neg_len p.figures) vs) o.neg) ej in
              (λ k. ends (success (c k)) (record { sets = set o.sets at.place row; words = set o.words at.place (w k); pos = a k; neg = n k }))
              ∙ ap (put_merged at row b o) (ap (λ (k : Outcome). k.answer) h ∙ (λ k. (merging size x y (rest (ei k) o.pos) (rest (ej k) o.neg)).answer) ∙ same)
              ∙ with-place (sym t ∙ g)
