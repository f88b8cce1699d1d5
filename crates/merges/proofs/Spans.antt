-- The ends of two rows joined, by numbers alone. Assumes nothing.
use Prim.Native.Nat.{ℕ, suc, ◌+◌, ◌-◌, ◌/◌, ◌^◌, ◌≤◌, ◌<◌, min, max, pred}
use mathlib.Core.Path.{◌≡◌, refl, ap, sym, ◌∙◌}
use mathlib.Core.Logic.{⊎_elim}
use mathlib.Core.List.{List, [], ◌∷◌, ◌++◌}
use native.Mathlib.Nat.{eq-zero-or-pos, min-eq_left, min-eq_right, le_of_lt}
use native.Mathlib.Omega.{arith}
use lib.ListN.{length, take, replicate, length-append}
use lib.Seq.{length-take-le}
use lib.Pow.{shr_mono}
use borrow.Author.Tests.{eq-eqb, ne_eqb}
use Rattle.laws.specs.Pick.{pick}
use Rattle.points.specs.Points.{Row}
use Rattle.rows.specs.Rows.{add_all, downscaled}
use Rattle.rows.specs.declared.Row as C
use Rattle.rows.proofs.Algebra.{le_or-lt, length-downscaled-is, downscaled-some}
use Rattle.exponential.specs.Steps.{lowered, lowering}
use Rattle.exponential.specs.Series.{row_in}
use Rattle.exponential.proofs.Counted.{length-replicate}
use Rattle.merges.specs.Merges.{joined, low_end, high_end, joined_len}
use Rattle.merges.proofs.Joined.{length-add_all, span}
use Rattle.merges.proofs.Wide.{join-none, join_first, join-both}

-- the last bin of a row
abbrev pub end : Row → ℕ
end r = r.start + pred (length r.counts)

end-at : (k s : ℕ) (cs : List ℕ) → s / 2 ^ k + pred (length (downscaled k s cs)) ≡ (s + pred (length cs)) / 2 ^ k
unfolding downscaled
end-at k s [] = let e : s + pred 0 ≡ s = omega arith in rw e (omega arith)
end-at k s (x ∷ cs) = omega (arith, length-downscaled-is k s x cs, shr_mono {a = s} {b = s + length cs} k (omega arith))

-- of a lowered row at the front of a list
module _ (k : ℕ) (r : C.Row) (xs : List ℕ) (h : r.len ≤ length xs) where
  len : length (take r.len xs) ≡ r.len
  len = length-take-le r.len xs h

  pub end-lowered : end (lowered k (row_in r xs)) ≡ (r.start + pred r.len) / 2 ^ k
  end-lowered = end-at k r.start (take r.len xs) ∙ ap (λ n. (r.start + pred n) / 2 ^ k) len

  pub lowered_none : r.len ≡ 0 → length (lowered k (row_in r xs)).counts ≡ 0
  unfolding downscaled
  lowered_none z = rw z refl

  pub lowered-some : 0 < r.len → 0 < length (lowered k (row_in r xs)).counts
  lowered-some p = downscaled-some k r.start (take r.len xs) (omega (arith, len))

-- of two rows joined
pub long-add : (k : ℕ) (ys xs : List ℕ) → 0 < length ys → length (add_all k ys xs) ≡ max (length xs) (k + length ys)
long-add k [] xs h = absurd (omega arith)
long-add k (y ∷ ys) xs h = length-add_all k y ys xs

pred-max : (a b : ℕ) → 0 < a → 0 < b → pred (max a b) ≡ max (pred a) (pred b)
pred-max a b h g = ⊎_elim (λ (l : a ≤ b). omega arith) (λ (l : b < a). omega arith) (le_or-lt a b)

pred-add : (d m : ℕ) → 0 < m → pred (d + m) ≡ d + pred m
pred-add d m h = omega arith

low-end : (s t a b : ℕ) → s ≤ t → s + max (s - t + a) (t - s + b) ≡ max (s + a) (t + b)
low-end s t a b l = let f : s - t + a ≡ a = omega arith in rw f (omega arith)

high_end_lem : (s t a b : ℕ) → t < s → t + max (s - t + a) (t - s + b) ≡ max (s + a) (t + b)
high_end_lem s t a b l = let f : t - s + b ≡ b = omega arith in rw f (omega arith)

both_end : (s t n m : ℕ) → 0 < n → 0 < m → min s t + pred (max (s - t + n) (t - s + m)) ≡ max (s + pred n) (t + pred m)
both_end s t n m h g =
    let e : pred (max (s - t + n) (t - s + m)) ≡ max (s - t + pred n) (t - s + pred m) =
    pred-max (s - t + n) (t - s + m) (pos-add (s - t) n h) (pos-add (t - s) m g) ∙ (λ i. max (pred-add (s - t) n h i) (pred-add (t - s) m g i)) in
    rw e
    (⊎_elim
    (λ (l : s ≤ t). rw (min-eq_left l) (low-end s t (pred n) (pred m) l))
    (λ (l : t < s). rw (min-eq_right (le_of_lt l)) (high_end_lem s t (pred n) (pred m) l))
    (le_or-lt s t))
  where
    pos-add : (d n : ℕ) → 0 < n → 0 < d + n
    pos-add d n p = omega arith

module _ (a b : Row) (h : 0 < length a.counts) (g : 0 < length b.counts) where
  pub start-both : (joined a b).start ≡ min a.start b.start
  start-both = ap (λ r. r.start) (join-both a b g h)

  pub end-both : end (joined a b) ≡ max (end a) (end b)
  end-both =
      let zs = replicate (a.start - b.start) 0 ++ a.counts in
      let l : length zs ≡ (a.start - b.start) + length a.counts = length-append (replicate (a.start - b.start) 0) a.counts ∙ ap (λ n. n + length a.counts) (length-replicate (a.start - b.start)) in
      ap end (join-both a b g h)
      ∙ ap (λ n. min a.start b.start + pred n) (long-add (b.start - a.start) b.counts zs g ∙ ap (λ n. max n (b.start - a.start + length b.counts)) l)
      ∙ both_end a.start b.start (length a.counts) (length b.counts) h g

  pub some-both : 0 < length (joined a b).counts
  some-both =
      let zs = replicate (a.start - b.start) 0 ++ a.counts in
      let e : length (joined a b).counts ≡ max (length zs) (b.start - a.start + length b.counts) = ap (λ r. length r.counts) (join-both a b g h) ∙ long-add (b.start - a.start) b.counts zs g in
      omega (arith, e)

-- ---- by numbers

module _ (a b : C.Row) (j k : ℕ) where
  pub ends-first : b.len ≡ 0 → (low_end a j b k ≡ a.start / 2 ^ j) × (high_end a j b k ≡ (a.start + pred a.len) / 2 ^ j)
  unfolding low_end high_end pick
  ends-first z = rw (eq-eqb b.len 0 z) (refl, refl)

  pub ends-second : 0 < b.len → a.len ≡ 0 → (low_end a j b k ≡ b.start / 2 ^ k) × (high_end a j b k ≡ (b.start + pred b.len) / 2 ^ k)
  unfolding low_end high_end pick
  ends-second p z = rw (ne_eqb b.len 0 (omega arith), eq-eqb a.len 0 z) (refl, refl)

  pub ends-both : 0 < b.len → 0 < a.len
      → (low_end a j b k ≡ min (a.start / 2 ^ j) (b.start / 2 ^ k)) × (high_end a j b k ≡ max ((a.start + pred a.len) / 2 ^ j) ((b.start + pred b.len) / 2 ^ k))
  unfolding low_end high_end pick
  ends-both p q = rw (ne_eqb b.len 0 (omega arith), ne_eqb a.len 0 (omega arith)) (refl, refl)

  pub ends-le : low_end a j b k ≤ high_end a j b k
  ends-le =
      let p = shr_mono {a = a.start} {b = a.start + pred a.len} j (omega arith) in
      let q = shr_mono {a = b.start} {b = b.start + pred b.len} k (omega arith) in
      ⊎_elim
      (λ (z : b.len ≡ 0). rw ((ends-first z).0, (ends-first z).1) p)
      (λ (m : 0 < b.len).
      ⊎_elim
      (λ (z : a.len ≡ 0). rw ((ends-second m z).0, (ends-second m z).1) q)
      (λ (n : 0 < a.len). rw ((ends-both m n).0, (ends-both m n).1) (omega (arith, p, q)))
      (eq-zero-or-pos a.len))
      (eq-zero-or-pos b.len)

  pub len-none : a.len + b.len ≡ 0 → 0 ≡ joined_len a j b k
  unfolding joined_len pick
  len-none z = rw (eq-eqb (a.len + b.len) 0 z) refl

  pub len-some : (a.len + b.len ≡ 0 → ⊥) → suc (high_end a j b k - low_end a j b k) ≡ joined_len a j b k
  unfolding joined_len pick
  len-some z = rw (ne_eqb (a.len + b.len) 0 z) refl

-- THE ENDS of what `join` makes, and how long it is
pub record Spanning (q : Row) (lo hi n m : ℕ) : Type 0 where
  pub start : q.start ≡ lo
  pub last : end q ≡ hi
  pub none : n ≡ 0 → m ≡ 0 → length q.counts ≡ 0
  pub some : 0 < n + m → 0 < length q.counts

module _ (a : C.Row) (xs : List ℕ) (j : ℕ) (b : C.Row) (ys : List ℕ) (k : ℕ) (h : a.len ≤ length xs) (g : b.len ≤ length ys) where
  abbrev A : Row
  A = lowered j (row_in a xs)

  abbrev B : Row
  B = lowered k (row_in b ys)

  pub spans : Spanning (joined A B) (low_end a j b k) (high_end a j b k) a.len b.len
  spans =
      ⊎_elim
      (λ (z : b.len ≡ 0).
      let e = join-none A B (lowered_none k b ys g z) in
      let f = ends-first a b j k z in
      rw e (record {
        start = sym f.0;
        last = end-lowered j a xs h ∙ sym f.1;
        none = λ y _. lowered_none j a xs h y;
        some = λ p. lowered-some j a xs h (omega arith);
      }))
      (λ (p : 0 < b.len).
      ⊎_elim
      (λ (z : a.len ≡ 0).
      let e = join_first A B (lowered-some k b ys g p) (lowered_none j a xs h z) in
      let f = ends-second a b j k p z in
      rw e (record {
        start = sym f.0;
        last = end-lowered k b ys g ∙ sym f.1;
        none = λ _ y. absurd (omega arith);
        some = λ _. lowered-some k b ys g p;
      }))
      (λ (q : 0 < a.len).
      let f = ends-both a b j k p q in
      let u = lowered-some j a xs h q in
      let v = lowered-some k b ys g p in
      record {
        start = start-both A B u v ∙ sym f.0;
        last = end-both A B u v ∙ (λ i. max (end-lowered j a xs h i) (end-lowered k b ys g i)) ∙ sym f.1;
        none = λ y _. absurd (omega arith);
        some = λ _. some-both A B u v;
      })
      (eq-zero-or-pos a.len))
      (eq-zero-or-pos b.len)

  pub span-is : (size : ℕ) → span size (joined A B) ≡ lowering size (low_end a j b k) (high_end a j b k)
  span-is size = λ i. lowering size (spans.start i) (spans.last i)

  pub len_is : length (joined A B).counts ≡ joined_len a j b k
  len_is =
      ⊎_elim
      (λ (z : a.len + b.len ≡ 0). spans.none (omega arith) (omega arith) ∙ len-none a b j k z)
      (λ (p : 0 < a.len + b.len).
      let s = spans.some p in
      let e : length (joined A B).counts ≡ suc (high_end a j b k - low_end a j b k) = omega (arith, s, spans.start, spans.last) in
      e ∙ len-some a b j k (λ z. omega arith))
      (eq-zero-or-pos (a.len + b.len))
