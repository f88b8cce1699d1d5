-- The tests of an entry in the order of the code pass just where its words are those of an entry that is written. Assumes nothing.
use Prim.Native.Nat.{ℕ, zero, suc, ◌+◌, ◌-◌, ◌≤◌, ◌<◌}
use mathlib.Core.Path.{◌≡◌, refl, sym, ap, ap₂, subst, ◌∙◌}
use mathlib.Core.Bool.{Bool, true, ◌&&◌}
use mathlib.Core.List.{List, map}
use native.Mathlib.Omega.{arith}
use borrow.Author.Tests.{leb-true, le-leb, eqb-true, eq-eqb}
use lib.Dec.{leb, eqb}
use lib.ListN.{length, get_or, take, drop, length-drop}
use lib.Seq.{length-take-le, drop-drop, get_or-take, get_or-drop}
use Rattle.laws.proofs.Bools.{and_right, and_intro}
use Rattle.laws.proofs.Cases.{and-true}
use Rattle.floats.specs.Answers.{bits_of}
use Rattle.points.specs.Explicit.{no_nan}
use Rattle.point.specs.Handing.{Stored, agrees_alone}
use Rattle.point.specs.declared.Point.{Point}
use Rattle.sets.specs.All.{allb}
use Rattle.sets.specs.Rows.{set_of, row_of}
use Rattle.listing.specs.Words.{words_of, point_in, bounds_in, is_point}
use Rattle.listing.specs.Listed.{pos_len, neg_len}
use Rattle.listing.specs.declared.Span.{Span}
use Rattle.records.specs.Records.{width, cells}
use Rattle.records.specs.Inner.{AllBytes, zero_at}
use Rattle.records.proofs.Padded.{width-le}
use Rattle.records.proofs.Found.{cells-length, cells_at, cells-small}
use Rattle.sheets.specs.Entries.{own_span, head_of, entry_words, head_in, pos_in, neg_in, stored_from, entry_of, entry_len}
use Rattle.sheets.specs.Entries.{set_fine, bounds_fine, exact, entry_fine}
use Rattle.sheets.specs.Sheet.{same_list}
use Rattle.sheets.specs.Inner.{row_fine, head_fine, filled, entry_at}
use Rattle.sheets.proofs.Good.{entry_good}
use Rattle.sheets.proofs.SameLists.{same-says, same-list, same_test}
use Rattle.sheets.proofs.SetLaws.{row-few}
use Rattle.sheets.proofs.EntryParts.{zeros_in, padded-fits, padded-says, Parts, entry-long, rest-long, counts-room, bounds-long, pos-long, neg-long}
use Rattle.sheets.proofs.EntryParts.{counts-are, counts-long, words_long, parts-joined, parts_cut}
use Rattle.sheets.proofs.PointLaws.{AllWords, Few, agreed-few, words-again, bounds-fit, start-zero, point-says, point-is}

-- ---- zeros by a sheet's words

allb-same : (f g : ℕ → Bool) (n : ℕ) → ((i : ℕ) → i < n → f i ≡ g i) → allb n f ≡ allb n g
unfolding allb
allb-same f g zero h = refl
allb-same f g (suc n) h = ap₂ ◌&&◌ (allb-same f g n (λ i p. h i (omega arith))) (h n (omega arith))

filled_is : (s : List ℕ) (k m : ℕ) → k + width m ≤ length (cells s) → filled s k m ≡ zeros_in (drop k (cells s)) m
filled_is s k m h =
    allb-same (zero_at s (k + m)) (λ i. eqb (get_or (drop k (cells s)) (m + i) 0) 0) (width m - m)
    (λ i p.
    let e : k + (m + i) ≡ k + m + i = omega arith in
    ap (λ (x : ℕ). eqb x 0)
    (sym (get_or-drop k (cells s) (m + i) 0
    ∙ ap (λ (j : ℕ). get_or (cells s) j 0) e
    ∙ cells_at s (k + m + i) (omega (arith, h, p, cells-length s)))))

-- ---- over the words from an entry's first on

module _ (l : List ℕ) (long : entry_len (head_in l) ≤ length l) where
  abbrev w : List ℕ
  w = head_in l

  abbrev r : List ℕ
  r = drop 21 l

  abbrev x : Stored
  x = stored_from w r

  abbrev n : ℕ
  n = (bounds_in w).len

  abbrev B : ℕ
  B = width n

  abbrev m : ℕ
  m = pos_in w + neg_in w

  same_point : x.point ≡ point_in w
  unfolding stored_from
  same_point = refl

  head-long : length w ≡ 12
  head-long = length-take-le 12 (drop 9 l) (omega (arith, entry-long l long, length-drop 9 l))

  span-is : (bounds_in w).start ≡ 0 → own_span x ≡ bounds_in w
  span-is z = λ i. record { start = sym z i; len = bounds-long l long i }

  -- as many bounds as the point says
  own-bounds : bounds_fine x.point.figures (length x.bounds) ≡ true
  own-bounds = ap₂ (λ (p : Point) (j : ℕ). bounds_fine p.figures j) same_point (bounds-long l long) ∙ bounds-fit w

  few : agrees_alone x ≡ true → Few x.point.figures x.bounds
  few h = agreed-few x h own-bounds

  is-exact : (bounds_in w).start ≡ 0 → exact x ≡ true
  unfolding exact
  is-exact z =
      let p : length x.pos ≡ pos_len x.point.figures (own_span x) =
      pos-long l long ∙ sym (ap₂ (λ (p : Point) (b : Span). pos_len p.figures b) same_point (span-is z)) in
      let q : length x.neg ≡ neg_len x.point.figures = neg-long l long ∙ sym (ap (λ (p : Point). neg_len p.figures) same_point) in
      and_intro _ _ own-bounds (and_intro _ _ (eq-eqb _ _ p) (eq-eqb _ _ q))

  -- ---- the tests make up an entry's words

  bound-words : AllWords l → AllWords (take n r)
  bound-words h i p =
      let e = length-take-le n r (omega (arith, rest-long l long, width-le n)) in
      subst (λ (j : ℕ). j < 18446744073709551616)
      (sym (get_or-take n r i 0 (omega arith) ∙ get_or-drop 21 l i 0))
      (h (21 + i) (omega (arith, rest-long l long, width-le n, length-drop 21 l)))

  bounds-again : AllWords l → no_nan x.bounds ≡ true → map bits_of x.bounds ≡ take n r
  unfolding stored_from
  bounds-again h k = words-again (take n r) (bound-words h) k

  to-parts : AllWords l → row_of (set_of (take 9 l)) ≡ take 9 l → is_point w ≡ true → (bounds_in w).start ≡ 0
      → zeros_in r n ≡ true → zeros_in (drop B r) m ≡ true → agrees_alone x ≡ true → Parts l w r x
  to-parts small row point z fill fills agrees =
      record {
        row = row;
        head = ap₂ words_of same_point (span-is z) ∙ point-says w head-long point;
        bounds =
            padded-fits (map bits_of x.bounds) r n (words_long l long) (omega (arith, rest-long l long))
            (bounds-again small (few agrees).numbers) fill;
        counts = padded-fits _ (drop B r) m (counts-long l long) (counts-room l long) (counts-are l long) fills;
      }

  -- ---- and an entry's words pass the tests

  from-head : head_of x ≡ w → (bounds_in w).start ≡ 0
  from-head h = start-zero w (length x.bounds) (ap (λ (p : Point). words_of p (own_span x)) (sym same_point) ∙ h)

  from_parts : Parts l w r x → agrees_alone x ≡ true → head_fine w ≡ true
  unfolding head_fine
  from_parts t agrees =
      let z = from-head t.head in
      let s = span-is z in
      let f = few agrees in
      let point : is_point w ≡ true = point-is w (sym (ap₂ words_of same_point s) ∙ t.head) in
      let p : pos_in w ≤ 160 = subst (λ (j : ℕ). j ≤ 160) (ap₂ (λ (p : Point) (b : Span). pos_len p.figures b) same_point s) f.pos in
      let q : neg_in w ≤ 160 = subst (λ (j : ℕ). j ≤ 160) (ap (λ (p : Point). neg_len p.figures) same_point) f.neg in
      let b : n ≤ 159 = omega (arith, bounds-long l long, f.bounds) in
      and_intro _ _ point (and_intro _ _ (eq-eqb _ _ z) (and_intro _ _ (le-leb _ _ b) (and_intro _ _ (le-leb _ _ p) (le-leb _ _ q))))

-- ---- either way

module _ (s : List ℕ) (k : ℕ) where
  abbrev cut : List ℕ
  cut = drop k (cells s)

  abbrev head : List ℕ
  head = head_in cut

  abbrev behind : List ℕ
  behind = drop 21 cut

  abbrev ends : ℕ
  ends = width (bounds_in head).len

  abbrev counted : ℕ
  counted = pos_in head + neg_in head

  small : AllBytes s → AllWords cut
  small h i p =
      subst (λ (j : ℕ). j < 18446744073709551616) (sym (get_or-drop k (cells s) i 0)) (cells-small s h (k + i) (omega (arith, p, length-drop k (cells s))))

  -- the words behind the head, and behind the bounds
  first-filled : entry_len head ≤ length cut → filled s (k + 21) (bounds_in head).len ≡ zeros_in behind (bounds_in head).len
  first-filled h =
      filled_is s (k + 21) (bounds_in head).len (omega (arith, entry-long cut h, length-drop k (cells s)))
      ∙ ap (λ (u : List ℕ). zeros_in u (bounds_in head).len) (sym (drop-drop 21 k (cells s)))

  then-filled : entry_len head ≤ length cut → filled s (k + (21 + ends)) counted ≡ zeros_in (drop ends behind) counted
  then-filled h =
      filled_is s (k + (21 + ends)) counted (omega (arith, entry-long cut h, length-drop k (cells s)))
      ∙ ap (λ (u : List ℕ). zeros_in u counted) (sym (drop-drop ends 21 cut ∙ drop-drop (21 + ends) k (cells s)))

  good : AllBytes s → entry_at s k ≡ true → entry_good cut ≡ true
  unfolding entry_at entry_good row_fine head_fine entry_fine entry_of
  good bytes h =
      let x = stored_from head behind in
      let a = (and-true (leb 21 (length cut)) _ h).1 in
      let b = and-true (row_fine (take 9 cut)) _ a in
      let c = and-true (head_fine head) _ b.1 in
      let d = and-true (leb (entry_len head) (length cut)) _ c.1 in
      let e = and-true (filled s (k + 21) (bounds_in head).len) _ d.1 in
      let f = and-true (filled s (k + (21 + ends)) counted) (agrees_alone x) e.1 in
      let row = and-true (same_list (row_of (set_of (take 9 cut))) (take 9 cut)) (set_fine (set_of (take 9 cut))) b.0 in
      let point = and-true (is_point head) _ c.0 in
      let z = eqb-true (bounds_in head).start 0 (and-true (eqb (bounds_in head).start 0) _ point.1).0 in
      let long = leb-true (entry_len head) (length cut) d.0 in
      let t =
      to-parts cut long (small bytes) (same-says (row_of (set_of (take 9 cut))) (take 9 cut) row.0) point.0 z
      (sym (first-filled long) ∙ e.0) (sym (then-filled long) ∙ f.0) f.1 in
      and_intro _ _ d.0
      (and_intro _ _ (and_intro _ _ row.1 (and_intro _ _ (is-exact cut long z) f.1))
      (same-list (entry_words (entry_of cut)) (take (entry_len head) cut) (parts-joined cut long t)))

  passes : entry_good cut ≡ true → entry_at s k ≡ true
  unfolding entry_at entry_good row_fine entry_fine entry_of
  passes h =
      let x = stored_from head behind in
      let a = and-true (leb (entry_len head) (length cut)) _ h in
      let b = and-true (entry_fine (entry_of cut)) (same_list (entry_words (entry_of cut)) (take (entry_len head) cut)) a.1 in
      let c = and-true (set_fine (set_of (take 9 cut))) (exact x && agrees_alone x) b.0 in
      let agrees = and_right (exact x) (agrees_alone x) c.1 in
      let long = leb-true (entry_len head) (length cut) a.0 in
      let t =
      parts_cut cut long (row-few (take 9 cut) c.0) (same-says (entry_words (entry_of cut)) (take (entry_len head) cut) b.1) in
      let row = and_intro _ _ (same-list (row_of (set_of (take 9 cut))) (take 9 cut) t.row) c.0 in
      let fill = padded-says (map bits_of x.bounds) behind (bounds_in head).len (words_long cut long) (omega (arith, rest-long cut long)) t.bounds in
      let fills = padded-says _ (drop ends behind) counted (counts-long cut long) (counts-room cut long) t.counts in
      and_intro _ _ (le-leb 21 (length cut) (omega (arith, entry-long cut long)))
      (and_intro _ _ row
      (and_intro _ _ (from_parts cut long t agrees)
      (and_intro _ _ a.0 (and_intro _ _ (first-filled long ∙ fill) (and_intro _ _ (then-filled long ∙ fills) agrees)))))

pub entry-is : (s : List ℕ) (k : ℕ) → AllBytes s → entry_at s k ≡ entry_good (drop k (cells s))
entry-is s k h = same_test (entry_at s k) (entry_good (drop k (cells s))) (good s k h) (passes s k)
