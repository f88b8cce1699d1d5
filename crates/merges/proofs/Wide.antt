-- Zeros in front of a row, and rows joined in place. Assumes nothing.
use Prim.Native.Nat.{ℕ, zero, suc, ◌+◌, ◌-◌, ◌/◌, ◌^◌, ◌≤◌, ◌<◌, min, max}
use mathlib.Core.Path.{◌≡◌, refl, ap, sym, subst, ◌∙◌}
use mathlib.Core.List.{List, [], ◌∷◌, ◌++◌, append_assoc, append-nil}
use native.Mathlib.Omega.{arith}
use lib.ListN.{length, take, drop, replicate, length-append, length-replicate}
use lib.Seq.{length-take-le}
use borrow.Author.Tests.{eq-eqb, ne_eqb}
use Rattle.points.specs.Points as P
use Rattle.rows.specs.Rows.{over, add_at, add_all, shifted, zeroed, downscaled}
use Rattle.laws.specs.Counting.{total}
use Rattle.rows.proofs.Laws.{take-over, over-over, length_over}
use Rattle.exponential.specs.Inner.{Laid}
use Rattle.laws.specs.Pick.{pick}
use Rattle.merges.specs.Merges.{joined, add_low}
use Rattle.rows.proofs.Algebra.{length-downscaled-is, downscaled-some}
use Rattle.rows.proofs.Adds.{length-add_at}
use Rattle.merges.proofs.Joined.{length-add_all}
use Rattle.merges.proofs.Lowly.{add_low-is}

drop-front : (xs ys : List ℕ) → drop (length xs) (xs ++ ys) ≡ ys
drop-front [] ys = refl
drop-front (x ∷ xs) ys = drop-front xs ys

pub widened : (n k : ℕ) (xs : List ℕ) → n + k ≤ length xs → zeroed 0 k (shifted n k xs) ≡ over (replicate k 0 ++ take n xs) xs
unfolding zeroed shifted over
widened n k xs h =
    let l : length (take k xs) ≡ k = length-take-le k xs (omega arith) in
    let d : drop k (take k xs ++ (take n xs ++ drop (k + n) xs)) ≡ take n xs ++ drop (k + n) xs =
    subst (λ (m : ℕ). drop m (take k xs ++ (take n xs ++ drop (k + n) xs)) ≡ take n xs ++ drop (k + n) xs) l (drop-front (take k xs) (take n xs ++ drop (k + n) xs)) in
    let z : k - 0 ≡ k = omega arith in
    let m : length (replicate k 0 ++ take n xs) ≡ k + n =
    length-append (replicate k 0) (take n xs) ∙ (λ i. length-replicate {A = ℕ} k 0 i + length-take-le n xs (omega arith) i) in
    rw (z, d, m) (sym (append_assoc (replicate k 0) (take n xs) (drop (k + n) xs)))

-- ---- the three ways of joining, on lists

module _ (a b : P.Row) where
  pub join-none : length b.counts ≡ 0 → joined a b ≡ a
  unfolding joined pick
  join-none h = rw h

  pub join_first : 0 < length b.counts → length a.counts ≡ 0 → joined a b ≡ b
  unfolding joined pick
  join_first g h = rw (ne_eqb (length b.counts) 0 (omega arith), eq-eqb (length a.counts) 0 h)

  pub join-both : 0 < length b.counts → 0 < length a.counts
      → joined a b ≡ record { start = min a.start b.start; counts = add_all (b.start - a.start) b.counts (replicate (a.start - b.start) 0 ++ a.counts) }
  unfolding joined pick
  join-both g h = rw (ne_eqb (length b.counts) 0 (omega arith), ne_eqb (length a.counts) 0 (omega arith))

-- how long a lowered row is
lowered_long : (k s : ℕ) (cs : List ℕ) → 0 < length cs → length (downscaled k s cs) + s / 2 ^ k ≡ suc ((s + (length cs - 1)) / 2 ^ k)
lowered_long k s [] h = absurd (omega arith)
lowered_long k s (x ∷ cs) h = let e : suc (length cs) - 1 ≡ length cs = omega arith in rw e (length-downscaled-is k s x cs)

long-add : (k : ℕ) (ys xs : List ℕ) → 0 < length ys → length (add_all k ys xs) ≡ max (length xs) (k + length ys)
long-add k [] xs h = absurd (omega arith)
long-add k (y ∷ ys) xs h = length-add_all k y ys xs

-- counts added at the end of a row follow it; so a row added to an empty one is that row
add_at-end : (y : ℕ) (xs : List ℕ) → add_at (length xs) y xs ≡ xs ++ y ∷ []
unfolding add_at
add_at-end y [] = refl
add_at-end y (x ∷ xs) = ap (λ (l : List ℕ). x ∷ l) (add_at-end y xs)

pub add_all-end : (n : ℕ) (ys xs : List ℕ) → n ≡ length xs → add_all n ys xs ≡ xs ++ ys
unfolding add_all
add_all-end n [] xs e = sym (append-nil xs)
add_all-end n (y ∷ ys) xs e =
    rw (e, add_at-end y xs) (add_all-end (suc (length xs)) ys (xs ++ y ∷ []) (sym (length-append xs (y ∷ []) ∙ omega arith)) ∙ append_assoc xs (y ∷ []) ys)

pub add_low-empty : (k t : ℕ) (ys : List ℕ) → add_low k (t / 2 ^ k) t ys [] ≡ downscaled k t ys
add_low-empty k t ys = add_low-is k (t / 2 ^ k) t ys [] (omega arith) ∙ add_all-end (t / 2 ^ k - t / 2 ^ k) (downscaled k t ys) [] (omega arith)

grows : (k s t : ℕ) (ys xs : List ℕ) → length xs ≤ length (add_low k s t ys xs)
unfolding add_low
grows k s t [] xs = omega arith
grows k s t (y ∷ ys) xs = omega (arith, grows k s (suc t) ys (add_at (t / 2 ^ k - s) y xs), length-add_at (t / 2 ^ k - s) y xs)

total-zeros : (n : ℕ) (xs : List ℕ) → total (replicate n 0 ++ xs) ≡ total xs
total-zeros zero xs = refl
total-zeros (suc n) xs = omega (arith, total-zeros n xs)

-- ---- joining in place: the row of n counts from bin s on at the front of xs, and the row of m counts of ys from bin t on, k levels lower
module _ (xs ys : List ℕ) (n s t m k : ℕ) (short : n ≤ length xs) (long : m ≤ length ys) (few : k < 32) (sums : total (take n xs) + total (take m ys) < 2 ^ 64)
    (room : length (joined (record { start = s; counts = take n xs }) (record { start = t / 2 ^ k; counts = downscaled k t (take m ys) })).counts ≤ length xs) (some : 0 < m) where
  abbrev D : List ℕ
  D = take n xs

  abbrev E : List ℕ
  E = downscaled k t (take m ys)

  abbrev Q : P.Row
  Q = joined (record { start = s; counts = D }) (record { start = t / 2 ^ k; counts = E })

  len-d : length D ≡ n
  len-d = length-take-le n xs short

  len-m : length (take m ys) ≡ m
  len-m = length-take-le m ys long

  long-e : length E + t / 2 ^ k ≡ suc ((t + (m - 1)) / 2 ^ k)
  long-e = rw len-m at (lowered_long k t (take m ys) (omega (arith, len-m)))

  some-e : 0 < length E
  some-e = downscaled-some k t (take m ys) (omega (arith, len-m))

  -- an empty row
  module _ (none : n ≡ 0) where
    is-first : Q ≡ record { start = t / 2 ^ k; counts = E }
    is-first = join_first (record { start = s; counts = D }) (record { start = t / 2 ^ k; counts = E }) some-e (len-d ∙ none)

    pub first_requires : ((0 ≤ length xs) × (m ≤ length ys))
        × (((k < 32) × (t / 2 ^ k ≤ t / 2 ^ k)) × (((t + (m - 1)) / 2 ^ k - t / 2 ^ k < length xs) × (total (take 0 xs) + total (take m ys) < 2 ^ 64)))
    first_requires =
        let r : length E ≤ length xs = subst (λ (q : P.Row). length q.counts ≤ length xs) is-first room in
        ((omega arith, long), ((few, omega arith), (omega (arith, r, long-e, some-e), omega arith)))

    pub first-laid : (len : ℕ) (zs : List ℕ) → len ≡ length (add_low k (t / 2 ^ k) t (take m ys) (take 0 xs)) → zs ≡ over (add_low k (t / 2 ^ k) t (take m ys) (take 0 xs)) xs
        → Laid Q xs (record { start = t / 2 ^ k; len = len }) zs
    first-laid len zs p q =
        rw is-first
        (record {
          start = refl;
          len = p ∙ ap length (add_low-empty k t (take m ys));
          now = q ∙ ap (λ (l : List ℕ). over l xs) (add_low-empty k t (take m ys));
        })

  module _ (held : 0 < n) where
    is-both : Q ≡ record { start = min s (t / 2 ^ k); counts = add_all (t / 2 ^ k - s) E (replicate (s - t / 2 ^ k) 0 ++ D) }
    is-both = join-both (record { start = s; counts = D }) (record { start = t / 2 ^ k; counts = E }) some-e (omega (arith, len-d))

    wide : length (replicate (s - t / 2 ^ k) 0 ++ D) ≡ s - t / 2 ^ k + n
    wide = length-append (replicate (s - t / 2 ^ k) 0) D ∙ (λ i. length-replicate {A = ℕ} (s - t / 2 ^ k) 0 i + len-d i)

    room-both : max (s - t / 2 ^ k + n) (t / 2 ^ k - s + length E) ≤ length xs
    room-both =
        let r : length (add_all (t / 2 ^ k - s) E (replicate (s - t / 2 ^ k) 0 ++ D)) ≤ length xs = subst (λ (q : P.Row). length q.counts ≤ length xs) is-both room in
        subst (λ (n : ℕ). n ≤ length xs) (rw wide at (long-add (t / 2 ^ k - s) E (replicate (s - t / 2 ^ k) 0 ++ D) some-e)) r

    -- the other row starts no lower
    module _ (after : s ≤ t / 2 ^ k) where
      is-after : Q ≡ record { start = s; counts = add_low k s t (take m ys) D }
      is-after =
          let a : min s (t / 2 ^ k) ≡ s = omega arith in
          let b : s - t / 2 ^ k ≡ 0 = omega arith in
          is-both ∙ rw (add_low-is k s t (take m ys) D after) (λ j. record { start = a j; counts = add_all (t / 2 ^ k - s) E (replicate (b j) 0 ++ D) })

      pub after_requires : ((n ≤ length xs) × (m ≤ length ys))
          × (((k < 32) × (s ≤ t / 2 ^ k)) × (((t + (m - 1)) / 2 ^ k - s < length xs) × (total (take n xs) + total (take m ys) < 2 ^ 64)))
      after_requires = ((short, long), ((few, after), (omega (arith, room-both, long-e), sums)))

      pub after-laid : (len : ℕ) (zs : List ℕ) → len ≡ length (add_low k s t (take m ys) (take n xs)) → zs ≡ over (add_low k s t (take m ys) (take n xs)) xs
          → Laid Q xs (record { start = s; len = len }) zs
      after-laid len zs p q = rw is-after (record { start = refl; len = p; now = q })

    -- the other row starts lower: zeros in front first
    module _ (before : t / 2 ^ k < s) where
      abbrev Z : List ℕ
      Z = replicate (s - t / 2 ^ k) 0 ++ D

      pub room-before : n + (s - t / 2 ^ k) ≤ length xs
      room-before = omega (arith, room-both)

      is-before : Q ≡ record { start = t / 2 ^ k; counts = add_low k (t / 2 ^ k) t (take m ys) Z }
      is-before =
          let a : min s (t / 2 ^ k) ≡ t / 2 ^ k = omega arith in
          let b : t / 2 ^ k - s ≡ t / 2 ^ k - t / 2 ^ k = omega arith in
          is-both ∙ rw (add_low-is k (t / 2 ^ k) t (take m ys) Z (omega arith)) (λ j. record { start = a j; counts = add_all (b j) E Z })

      module _ (ws : List ℕ) (widened-to : ws ≡ over (replicate (s - t / 2 ^ k) 0 ++ take n xs) xs) where
        len_ws : length ws ≡ length xs
        len_ws = ap length widened-to ∙ length_over Z xs (omega (arith, wide, room-both))

        take_ws : take (n + (s - t / 2 ^ k)) ws ≡ Z
        take_ws =
            let e : n + (s - t / 2 ^ k) ≡ length Z = omega (arith, wide) in
            rw e (ap (take (length Z)) widened-to ∙ take-over Z xs)

        pub before_requires : ((n + (s - t / 2 ^ k) ≤ length ws) × (m ≤ length ys))
            × (((k < 32) × (t / 2 ^ k ≤ t / 2 ^ k)) × (((t + (m - 1)) / 2 ^ k - t / 2 ^ k < length ws) × (total (take (n + (s - t / 2 ^ k)) ws) + total (take m ys) < 2 ^ 64)))
        before_requires =
            ((omega (arith, len_ws, room-both), long), ((few, omega arith), (omega (arith, room-both, long-e, len_ws, some-e), rw take_ws (omega (arith, total-zeros (s - t / 2 ^ k) D, sums)))))

        pub before-laid : (len : ℕ) (zs : List ℕ) → len ≡ length (add_low k (t / 2 ^ k) t (take m ys) (take (n + (s - t / 2 ^ k)) ws))
            → zs ≡ over (add_low k (t / 2 ^ k) t (take m ys) (take (n + (s - t / 2 ^ k)) ws)) ws
            → Laid Q xs (record { start = t / 2 ^ k; len = len }) zs
        before-laid len zs p q =
            rw is-before
            (record {
              start = refl;
              len = p ∙ ap (λ l. length (add_low k (t / 2 ^ k) t (take m ys) l)) take_ws;
              now = q ∙ ap (λ l. over (add_low k (t / 2 ^ k) t (take m ys) l) ws) take_ws ∙ ap (over (add_low k (t / 2 ^ k) t (take m ys) Z)) widened-to
                  ∙ over-over Z (add_low k (t / 2 ^ k) t (take m ys) Z) xs (grows k (t / 2 ^ k) t (take m ys) Z);
            })
