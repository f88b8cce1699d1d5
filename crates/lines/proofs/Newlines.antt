-- Newlines of a block, found eight by eight and byte by byte; a line's part of a block. Assumes nothing.
use Prim.Native.Nat.{ℕ, zero, suc, min, ◌+◌, ◌-◌, ◌≤◌, ◌<◌}
use mathlib.Core.Path.{◌≡◌, refl, sym, ap, ◌∙◌}
use mathlib.Core.Logic.{⊎_elim}
use mathlib.Core.Bool.{true, false}
use mathlib.Core.List.{List, ◌++◌}
use native.Mathlib.Omega.{arith}
use native.Mathlib.Nat.{add-zero}
use native.Mathlib.Numerals.{add-one}
use lib.Dec.{eqb}
use lib.ListN.{length, get_or, take, drop, set}
use Rattle.std.proofs.lemmas.List.{length-take, length-drop, length-append, length-set, get_or-take, get_or-drop, get_or-append_right, get_or-set_same, get_or-set_other, ext_get_or}
use Rattle.std.proofs.Math.ListN.{get_or-append}
use Rattle.laws.proofs.Differences.{le_or-lt}
use borrow.Author.Tests.{lt-ltb, le-ltb, eq-eqb, ne_eqb}
use Rattle.laws.specs.Pick.{pick}
use Rattle.laws.proofs.Bools.{flag, not-both, pick_true, pick-false}
use Rattle.lines.specs.declared.input.Ports.{Ports}
use Rattle.lines.specs.Reading.{newline_in, first_newline, newline_of, copied, end_of, at_of, stop_of, count_of, taken, taken_line, fresh, NextLine}

pub in-none : (bs : List ℕ) (from : ℕ) → false ≡ newline_in bs from 0
unfolding newline_in
in-none bs from = refl

pub in-turn : (bs : List ℕ) (from i : ℕ) → newline_in bs from (i + 1) ≡ pick (eqb (get_or bs (from + i) 0) 10) true (newline_in bs from i)
unfolding newline_in
in-turn bs from i = ap (newline_in bs from) (add-one i)

-- n bytes from a place on
pub part-length : (bs : List ℕ) (from n : ℕ) → from + n ≤ length bs → length (take (from + n - from) (drop from bs)) ≡ n
part-length bs from n h = omega (arith, length-take (from + n - from) (drop from bs), length-drop from bs)

pub part-at : (bs : List ℕ) (from n i : ℕ) → i < n → get_or (take (from + n - from) (drop from bs)) i 0 ≡ get_or bs (from + i) 0
part-at bs from n i h = get_or-take (from + n - from) (drop from bs) i 0 (omega arith) ∙ get_or-drop from bs i 0

module _ (bs : List ℕ) (end : ℕ) where
  pub of-turn : (i : ℕ) → i < end → (get_or bs i 0 ≡ 10 → ⊥) → newline_of bs (i + 1) end ≡ newline_of bs i end
  unfolding newline_of first_newline
  of-turn i h n =
      let e : end - i ≡ suc (end - (i + 1)) = omega arith in
      sym (ap (first_newline bs i) e ∙ pick-false _ _ _ (ne_eqb (get_or bs i 0) 10 n))

  pub of-stop : (i : ℕ) → i < end → get_or bs i 0 ≡ 10 → newline_of bs i end ≡ i
  unfolding newline_of first_newline
  of-stop i h f =
      let e : end - i ≡ suc (end - (i + 1)) = omega arith in
      ap (first_newline bs i) e ∙ pick_true _ _ _ (eq-eqb (get_or bs i 0) 10 f)

  pub of_none : (i : ℕ) → end ≤ i → newline_of bs i end ≡ i
  unfolding newline_of first_newline
  of_none i h = let e : end - i ≡ 0 = omega arith in ap (first_newline bs i) e

  -- n bytes without a newline
  pub of-clear : (i n : ℕ) → i + n ≤ end → newline_in bs i n ≡ false → newline_of bs (i + n) end ≡ newline_of bs i end
  unfolding newline_in
  of-clear i zero h f = ap (λ (k : ℕ). newline_of bs k end) (add-zero i)
  of-clear i (suc n) h f =
      let q : i + suc n ≡ i + n + 1 = omega arith in
      ⊎_elim
      (λ (e : eqb (get_or bs (i + n) 0) 10 ≡ true). absurd (not-both _ (pick_true _ _ _ e) f))
      (λ (e : eqb (get_or bs (i + n) 0) 10 ≡ false).
      ap (λ (k : ℕ). newline_of bs k end) q
      ∙ of-turn (i + n) (omega arith) (λ r. not-both _ (eq-eqb (get_or bs (i + n) 0) 10 r) e)
      ∙ of-clear i n (omega arith) (sym (pick-false _ _ _ e) ∙ f))
      (flag (eqb (get_or bs (i + n) 0) 10))

-- n bytes of the block in the line, as one copy puts them
module _ (line : List ℕ) (len : ℕ) (bs : List ℕ) (from : ℕ) where
  copied_length : (n : ℕ) → length (copied line len bs from n) ≡ length line
  unfolding copied
  copied_length zero = refl
  copied_length (suc n) = length-set (copied line len bs from n) (len + n) (get_or bs (from + n) 0) ∙ copied_length n

  copied_in : (n i : ℕ) → i < n → len + n ≤ length line → get_or (copied line len bs from n) (len + i) 0 ≡ get_or bs (from + i) 0
  unfolding copied
  copied_in zero i h k = absurd (omega arith)
  copied_in (suc n) i h k =
      let v = get_or bs (from + n) 0 in
      let l = copied_length n in
      ⊎_elim
      (λ (g : n ≤ i).
      let e : i ≡ n = omega arith in
      ap (λ (j : ℕ). get_or (set (copied line len bs from n) (len + n) v) (len + j) 0) e
      ∙ get_or-set_same (copied line len bs from n) (len + n) v 0 (omega (arith, l))
      ∙ ap (λ (j : ℕ). get_or bs (from + j) 0) (sym e))
      (λ (g : i < n).
      let e : len + i ≡ len + n → ⊥ = λ r. omega arith in
      get_or-set_other (copied line len bs from n) (len + n) (len + i) v 0 e ∙ copied_in n i g (omega arith))
      (le_or-lt n i)

  copied_out : (n j : ℕ) → ((i : ℕ) → i < n → j ≡ len + i → ⊥) → get_or (copied line len bs from n) j 0 ≡ get_or line j 0
  unfolding copied
  copied_out zero j h = refl
  copied_out (suc n) j h =
      get_or-set_other (copied line len bs from n) (len + n) j (get_or bs (from + n) 0) 0 (h n (omega arith))
      ∙ copied_out n j (λ i g. h i (omega arith))

  pub copied-at_once : (n : ℕ) → len + n ≤ length line → from + n ≤ length bs
      → take len line ++ (take (from + n - from) (drop from bs) ++ drop (len + n) line) ≡ copied line len bs from n
  copied-at_once n h k =
      let part = take (from + n - from) (drop from bs) in
      let tail = drop (len + n) line in
      let front = take len line in
      let p = part-length bs from n k in
      let q = copied_length n in
      let f : length front ≡ len = omega (arith, length-take len line) in
      let w = length-append front (part ++ tail) in
      let x = length-append part tail in
      let y = length-drop (len + n) line in
      ext_get_or 0 _ _ (omega (arith, p, q, f, w, x, y))
      (λ j l.
      ⊎_elim
      (λ (g : len ≤ j).
      let i = j - len in
      let e : len + i ≡ j = omega arith in
      get_or-append_right front (part ++ tail) len j 0 f g
      ∙ ⊎_elim
      (λ (o : n ≤ i).
      let v : len + n + (i - n) ≡ j = omega arith in
      get_or-append_right part tail n i 0 p o
      ∙ get_or-drop (len + n) line (i - n) 0
      ∙ ap (λ (r : ℕ). get_or line r 0) v
      ∙ sym (copied_out n j (λ a b t. omega arith)))
      (λ (o : i < n).
      get_or-append part tail 0 i (omega (arith, p))
      ∙ part-at bs from n i o
      ∙ sym (copied_in n i o h)
      ∙ ap (λ (r : ℕ). get_or (copied line len bs from n) r 0) e)
      (le_or-lt n i))
      (λ (g : j < len).
      get_or-append front (part ++ tail) 0 j (omega (arith, f))
      ∙ get_or-take len line j 0 g
      ∙ sym (copied_out n j (λ a b t. omega arith)))
      (le_or-lt len j))

-- What `take` computes, by the names of its code.
module _ (p : Ports) (bs : List ℕ) (end at len stop n : ℕ) (e : end ≡ min p.end 65536) (a : at ≡ min p.at end) (l : len ≡ min p.len 256) (s : stop ≡ newline_of bs at end) (m : n ≡ min (stop - at) (256 - len)) where
  at-is : at ≡ at_of p
  at-is = a ∙ ap (min p.at) e

  stop_is : stop ≡ stop_of p bs
  stop_is = s ∙ ap (λ (k : ℕ). newline_of bs k end) at-is ∙ ap (newline_of bs (at_of p)) e

  count-is : n ≡ count_of p bs
  count-is = m ∙ ap (λ (k : ℕ). min (k - at) (256 - len)) stop_is ∙ ap (λ (k : ℕ). min (stop_of p bs - k) (256 - len)) at-is ∙ ap (λ (k : ℕ). min (stop_of p bs - at_of p) (256 - k)) l

  pub taken-ended : stop < end → ◌≡◌ {A = Ports} (record { at = stop + 1; end = end; len = len + n; ended = true; over = false; waiting = p.waiting }) (taken p bs)
  unfolding taken
  taken-ended h =
      let k : stop_of p bs < end_of p = omega (arith, stop_is, e) in
      (λ i. record { at = stop_is i + 1; end = e i; len = l i + count-is i; ended = true; over = false; waiting = p.waiting })
      ∙ sym (pick_true _ _ _ (lt-ltb (stop_of p bs) (end_of p) k))

  pub taken_open : end ≤ stop → ◌≡◌ {A = Ports} (record { at = end; end = end; len = len + n; ended = false; over = false; waiting = p.waiting }) (taken p bs)
  unfolding taken
  taken_open h =
      let k : end_of p ≤ stop_of p bs = omega (arith, stop_is, e) in
      (λ i. record { at = e i; end = e i; len = l i + count-is i; ended = false; over = false; waiting = p.waiting })
      ∙ sym (pick-false _ _ _ (le-ltb (stop_of p bs) (end_of p) k))

  pub line-is : (line : List ℕ) {line' : List ℕ} → line' ≡ copied line len bs at n → line' ≡ taken_line p bs line
  unfolding taken_line
  line-is line h = h ∙ (λ i. copied line (l i) bs (at-is i) (count-is i))

ended-there : (p : Ports) (bs : List ℕ) → stop_of p bs < end_of p → (taken p bs).ended ≡ true
unfolding taken
ended-there p bs h = ap (λ (r : Ports). r.ended) (pick_true _ _ _ (lt-ltb (stop_of p bs) (end_of p) h))

-- The next line is the one that `take` found, where that has ended: nothing is read behind it.
pub next-line : (p : Ports) (bs line : List ℕ) (r : Ports) (bs' line' : List ℕ) {t : Ports} {line₁ : List ℕ} → t ≡ taken (fresh p) bs → line₁ ≡ taken_line (fresh p) bs line → (t.ended ≡ true → (r ≡ t) × (line' ≡ line₁) × (bs' ≡ bs)) → NextLine p bs line r bs' line'
unfolding NextLine
next-line p bs line r bs' line' e f same h =
    let s = same (ap (λ (q : Ports). q.ended) e ∙ ended-there (fresh p) bs h) in
    (s.0 ∙ e, s.1 ∙ f, s.2)
