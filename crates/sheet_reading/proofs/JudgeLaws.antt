-- The tests of an entry, of its head and of room, in the order of the code; and its point out of the words read. Assumes nothing.
use Prim.Native.Nat.{ℕ, zero, suc, ◌+◌, ◌-◌, ◌^◌, ◌<◌, ◌≤◌}
use mathlib.Core.Path.{◌≡◌, sym, ap, ap₂, ◌∙◌}
use mathlib.Core.Bool.{Bool, true, false, ◌&&◌}
use mathlib.Core.List.{List, map}
use native.Mathlib.Omega.{arith}
use borrow.Author.Tests.{eq-eqb, ne_eqb, le-leb, lt-leb}
use borrow.Rule.Slice.PartMut.{mid_of, post_of, put_mid, same_len_mid, mid_len}
use lib.Dec.{leb, eqb}
use lib.ListN.{length, get_or, take, drop, length-drop}
use lib.Seq.{drop-drop, take_at}
use lib.Ieee.{binary64, of_bits}
use Rattle.laws.specs.Pick.{pick}
use Rattle.sets.specs.All.{allb}
use Rattle.exponential.specs.declared.Counts.{Counts}
use Rattle.point.specs.declared.Figures.TheVariants.{Exponential, Explicit}
use Rattle.point.specs.Handing.{Stored, stored_in, agrees_alone}
use Rattle.listing.specs.Words.{figures_in, point_in, bounds_in, is_point}
use Rattle.listing.specs.Listed.{buckets_of, pos_len}
use Rattle.listing.specs.declared.Span.{Span}
use Rattle.records.specs.Records.{width, cells}
use Rattle.records.specs.Inner.{run, zero_at}
use Rattle.records.proofs.Found.{run_is}
use Rattle.sheets.specs.Entries.{pos_in, neg_in, stored_from, entry_len}
use Rattle.sheets.specs.Inner.{row_fine, head_fine, filled, entry_at}
use Rattle.sheets.specs.Lists.{room_for}
use Rattle.sheet_reading.specs.Inner.{There, floats_at, rest_holds, sizes_of, words_in}
use Rattle.sheet_reading.specs.declared.judge.Sizes.{Sizes}
use Rattle.sheet_reading.proofs.EntryLaws.{head-run}
use Rattle.sheet_reading.proofs.SizeLaws.{width-least}

-- ---- room

module _ (n pos neg bounds sets words many_pos many_neg many_bounds : ℕ) where
  abbrev roomy? : Bool
  roomy? = room_for n pos neg bounds sets words many_pos many_neg many_bounds

  pub room-sets : sets < n → false ≡ roomy?
  room-sets h = rw (lt-leb n sets h)

  pub room-words : n ≤ sets → words < n → false ≡ roomy?
  room-words h g = rw (le-leb n sets h, lt-leb n words g)

  pub room-pos : n ≤ sets → n ≤ words → many_pos < pos → false ≡ roomy?
  room-pos h g f = rw (le-leb n sets h, le-leb n words g, lt-leb pos many_pos f)

  pub room-neg : n ≤ sets → n ≤ words → pos ≤ many_pos → many_neg < neg → false ≡ roomy?
  room-neg h g f e = rw (le-leb n sets h, le-leb n words g, le-leb pos many_pos f, lt-leb neg many_neg e)

  pub room-rest : n ≤ sets → n ≤ words → pos ≤ many_pos → neg ≤ many_neg → leb bounds many_bounds ≡ roomy?
  room-rest h g f e = rw (le-leb n sets h, le-leb n words g, le-leb pos many_pos f, le-leb neg many_neg e)

-- ---- the head

buckets-few : (n : ℕ) → n ≤ 159 → buckets_of n < 2 ^ 64
buckets-few zero h = omega arith
buckets-few (suc n) h = omega arith

picked-pos : (b : Bool) (c : Counts) (n : ℕ) (x : Span) → c.pos.len < 2 ^ 64 → x.len ≤ 159 → pos_len (pick b (Exponential c) (Explicit n)) x < 2 ^ 64
unfolding pick
picked-pos true c n x h g = h
picked-pos false c n x h g = buckets-few x.len g

module _ (w : List ℕ) where
  pub head-no : is_point w ≡ false → false ≡ head_fine w
  unfolding head_fine
  head-no h = rw h

  pub head-start : is_point w ≡ true → ((bounds_in w).start ≡ 0 → ⊥) → false ≡ head_fine w
  unfolding head_fine
  head-start h g = rw (h, ne_eqb (bounds_in w).start 0 g)

  pub head-bounds : is_point w ≡ true → (bounds_in w).start ≡ 0 → 159 < (bounds_in w).len → false ≡ head_fine w
  unfolding head_fine
  head-bounds h g f = rw (h, eq-eqb (bounds_in w).start 0 g, lt-leb (bounds_in w).len 159 f)

  pub head-pos : is_point w ≡ true → (bounds_in w).start ≡ 0 → (bounds_in w).len ≤ 159 → 160 < pos_in w → false ≡ head_fine w
  unfolding head_fine
  head-pos h g f e = rw (h, eq-eqb (bounds_in w).start 0 g, le-leb (bounds_in w).len 159 f, lt-leb (pos_in w) 160 e)

  pub head-rest : is_point w ≡ true → (bounds_in w).start ≡ 0 → (bounds_in w).len ≤ 159 → pos_in w ≤ 160 → leb (neg_in w) 160 ≡ head_fine w
  unfolding head_fine
  head-rest h g f e = rw (h, eq-eqb (bounds_in w).start 0 g, le-leb (bounds_in w).len 159 f, le-leb (pos_in w) 160 e)

  -- counts of a head are those of a u64
  pub pos-wide : get_or w 5 0 < 2 ^ 64 → (bounds_in w).len ≤ 159 → pos_in w < 2 ^ 64
  unfolding point_in figures_in
  pos-wide h g = picked-pos (eqb (get_or w 0 0) 0) _ _ (bounds_in w) h g

-- ---- the rest

abbrev rest_at : List ℕ → ℕ → List ℕ → Bool
rest_at s k w =
    filled s (k + 21) (bounds_in w).len
    && (filled s (k + (21 + width (bounds_in w).len)) (pos_in w + neg_in w)
    && agrees_alone (stored_from w (drop 21 (drop k (cells s)))))

module _ (s w : List ℕ) (k : ℕ) (room : k + words_in (sizes_of w) ≤ length (cells s)) where
  -- the point out of runs of words
  stored_is : (let c = k + (21 + width (bounds_in w).len) in
      stored_in (point_in w) (floats_at s (k + 21) (bounds_in w).len) (run s c (pos_in w)) (run s (c + pos_in w) (neg_in w)))
      ≡ stored_from w (drop 21 (drop k (cells s)))
  unfolding stored_from
  stored_is =
      let cs = cells s in
      let b = (bounds_in w).len in
      let p = pos_in w in
      let n = neg_in w in
      let c = k + (21 + width b) in
      let r = drop 21 (drop k cs) in
      let wb = width-least b in
      let wp = width-least (p + n) in
      let dr : drop 21 (drop k cs) ≡ drop (k + 21) cs = drop-drop 21 k cs in
      let dc : drop (width b) r ≡ drop c cs =
      ap (drop (width b)) dr ∙ drop-drop (width b) (k + 21) cs ∙ ap (λ (j : ℕ). drop j cs) (let e : k + 21 + width b ≡ c = omega arith in e) in
      let x : run s (k + 21) b ≡ take b r = run_is s (k + 21) b (omega (arith, room, wb)) ∙ ap (take b) (sym dr) in
      let y : run s c p ≡ take p (drop (width b) r) = run_is s c p (omega (arith, room, wp)) ∙ ap (take p) (sym dc) in
      let z : run s (c + p) n ≡ take n (drop p (drop (width b) r)) =
      run_is s (c + p) n (omega (arith, room, wp)) ∙ ap (take n) (sym (drop-drop p c cs) ∙ ap (drop p) (sym dc)) in
      ap (λ (u : List ℕ). stored_in (point_in w) (map (of_bits binary64) u) (run s c p) (run s (c + p) n)) x
      ∙ ap₂ (stored_in (point_in w) (map (of_bits binary64) (take b r))) y z

  pub rest-is : rest_holds s w k ≡ rest_at s k w
  unfolding rest_holds
  rest-is =
      ap (λ (x : Stored). filled s (k + 21) (bounds_in w).len && (filled s (k + (21 + width (bounds_in w).len)) (pos_in w + neg_in w) && agrees_alone x))
      stored_is

-- by the sizes that the code has read
module _ (s w : List ℕ) (z : Sizes) (k : ℕ) (e : z ≡ sizes_of w) where
  abbrev point_at : ℕ → Bool
  point_at c = agrees_alone (stored_in (point_in w) (floats_at s (k + 21) z.bounds) (run s c z.pos) (run s (c + z.pos) z.neg))

  rest_for : rest_holds s w k
      ≡ (filled s (k + 21) z.bounds && (filled s (k + (21 + width z.bounds)) (z.pos + z.neg) && point_at (k + (21 + width z.bounds))))
  unfolding rest_holds
  rest_for =
      ap (λ (y : Sizes). filled s (k + 21) y.bounds
      && (filled s (k + (21 + width y.bounds)) (y.pos + y.neg)
      && agrees_alone (stored_in (point_in w) (floats_at s (k + 21) y.bounds) (run s (k + (21 + width y.bounds)) y.pos)
      (run s (k + (21 + width y.bounds) + y.pos) y.neg)))) (sym e)

  abbrev zeros_from : ℕ → ℕ → ℕ → Bool
  zeros_from b m v = allb (v - m) (zero_at s (b + m))

  module _ (v : ℕ) (ev : v ≡ width z.bounds) where
    bounds-filled : zeros_from (k + 21) z.bounds v ≡ filled s (k + 21) z.bounds
    bounds-filled = ap (zeros_from (k + 21) z.bounds) ev

    pub rest-bounds : zeros_from (k + 21) z.bounds v ≡ false → false ≡ rest_holds s w k
    rest-bounds h = sym (rest_for ∙ rw (sym bounds-filled ∙ h))

    module _ (u x : ℕ) (eu : u ≡ width z.bounds) (ex : x ≡ width (z.pos + z.neg)) where
      counts-from : k + 21 + u ≡ k + (21 + width z.bounds)
      counts-from = omega (arith, eu)

      counts-filled : zeros_from (k + 21 + u) (z.pos + z.neg) x ≡ filled s (k + (21 + width z.bounds)) (z.pos + z.neg)
      counts-filled = ap₂ (λ (b y : ℕ). zeros_from b (z.pos + z.neg) y) counts-from ex

      pub rest-counts : zeros_from (k + 21) z.bounds v ≡ true → zeros_from (k + 21 + u) (z.pos + z.neg) x ≡ false → false ≡ rest_holds s w k
      rest-counts h g = sym (rest_for ∙ rw (sym bounds-filled ∙ h, sym counts-filled ∙ g))

      pub rest-point : zeros_from (k + 21) z.bounds v ≡ true → zeros_from (k + 21 + u) (z.pos + z.neg) x ≡ true → point_at (k + 21 + u) ≡ rest_holds s w k
      rest-point h g = ap point_at counts-from ∙ sym (rest_for ∙ rw (sym bounds-filled ∙ h, sym counts-filled ∙ g))

-- ---- words that are there

-- some of them
pub there-some : (s : List ℕ) (k m i n : ℕ) → i + n ≤ k + m → There s k m → There s i n
there-some s k m i n h t = (omega (arith, h, t.0), omega (arith, h, t.1))

-- ---- scratch whose front was lent, filled, and is back

module _ {A : Type 0} (n : ℕ) (xs ys : List A) (room : n ≤ length xs) (same : length ys ≡ length (mid_of 0 (n - 0) xs)) where
  pub front-end : n ≤ length (put_mid 0 (n - 0) xs ys)
  front-end = omega (arith, room, same_len_mid 0 (n - 0) xs ys same)

  pub front-is : (f : ℕ → List A) → ys ≡ f (length (mid_of 0 (n - 0) xs)) → mid_of 0 (n - 0) (put_mid 0 (n - 0) xs ys) ≡ f n
  front-is f e =
      let l = mid_len 0 n xs room in
      let m : length (mid_of 0 (n - 0) xs) ≡ n = omega (arith, l) in
      take_at ys (post_of 0 (n - 0) xs) (n - 0) (same ∙ l) ∙ e ∙ ap f m

-- ---- an entry, by the words that the code reads

module _ (s : List ℕ) (k : ℕ) where
  abbrev row : List ℕ
  row = run s k 9

  abbrev head : List ℕ
  head = run s (k + 9) 12

  pub bad-short : length (cells s) - k < 21 → false ≡ entry_at s k
  unfolding entry_at
  bad-short h = rw (lt-leb 21 (length (drop k (cells s))) (omega (arith, h, length-drop k (cells s))))

  entry_as : k + 21 ≤ length (cells s)
      → entry_at s k ≡ (row_fine row && (head_fine head && (leb (words_in (sizes_of head)) (length (cells s) - k) && rest_at s k head)))
  unfolding entry_at entry_len
  entry_as h =
      let l = drop k (cells s) in
      let e = le-leb 21 (length l) (omega (arith, h, length-drop k (cells s))) in
      rw e
      (ap₂ (λ (r w : List ℕ). row_fine r && (head_fine w && (leb (words_in (sizes_of w)) (length l) && rest_at s k w))) (sym (run_is s k 9 (omega arith)))
      (sym (head-run s k h))
      ∙ ap (λ (j : ℕ). row_fine row && (head_fine head && (leb (words_in (sizes_of head)) j && rest_at s k head))) (length-drop k (cells s)))

  pub bad-row : k + 21 ≤ length (cells s) → row_fine row ≡ false → false ≡ entry_at s k
  bad-row h a = sym (entry_as h ∙ rw a)

  pub bad-head : k + 21 ≤ length (cells s) → row_fine row ≡ true → head_fine head ≡ false → false ≡ entry_at s k
  bad-head h a b = sym (entry_as h ∙ rw (a, b))

  pub bad-long : k + 21 ≤ length (cells s) → row_fine row ≡ true → head_fine head ≡ true → length (cells s) - k < words_in (sizes_of head)
      → false ≡ entry_at s k
  bad-long h a b g = sym (entry_as h ∙ rw (a, b, lt-leb (words_in (sizes_of head)) (length (cells s) - k) g))

  pub entry-is-rest : k + 21 ≤ length (cells s) → row_fine row ≡ true → head_fine head ≡ true → k + words_in (sizes_of head) ≤ length (cells s)
      → rest_holds s head k ≡ entry_at s k
  entry-is-rest h a b g =
      sym (entry_as h ∙ rw (a, b, le-leb (words_in (sizes_of head)) (length (cells s) - k) (omega (arith, g))) (sym (rest-is s head k g)))
