-- The walk from group to group: totals of parts, and what lies in the store after each group. Assumes nothing.
use mathlib.Core.Path.{◌≡◌, refl, sym, ap, ◌∙◌}
use mathlib.Core.List.{List, [], ◌∷◌, ◌++◌, append_assoc, append-nil}
use Prim.Native.Nat.{ℕ, zero, suc, ◌+◌, ◌-◌, ◌*◌, ◌%◌, ◌^◌, ◌≤◌, ◌<◌}
use native.Mathlib.Nat.{mul-one, mul-le-mul_left, mul-le-mul_right, add-mul, one-mul, suc-mul, zero-mul, sub-zero}
use native.Mathlib.Numerals.{add-one}
use native.Mathlib.Omega.{arith}
use lib.Pow.{pow-add, pow_pos}
use lib.ListN.{length, get_or, take, drop, set, length-append, length-drop, length-set}
use lib.Seq.{drop-append-add, drop-drop, drop-set-lt, get_or-drop, get_or-take, length-take-le, take-add}
use Rattle.laws.specs.Counting.{total}
use Rattle.laws.specs.Over.{over}
use Rattle.laws.proofs.Over.{length_over, over-snoc}
use Rattle.rows.specs.Parts.{part}
use Rattle.rows.specs.Groups.{groups, gathered, Gatherable}
use Rattle.rows.proofs.Laws.{total_append, total-step}
use Rattle.rows.proofs.Adds.{over-self}

-- ---- the counts from i up to e together

pub part_none : (xs : List ℕ) (i : ℕ) → total (part xs i i) ≡ 0
part_none xs i = let e : i - i ≡ 0 = omega arith in rw e

part_step : (xs : List ℕ) (i j : ℕ) → i ≤ j → j < length xs → total (part xs i (j + 1)) ≡ total (part xs i j) + get_or xs j 0
part_step xs i j h l =
    let k : j + 1 - i ≡ (j - i) + 1 = omega arith in
    let e : i + (j - i) ≡ j = omega arith in
    rw k (total-step (j - i) (drop i xs) (rw length-drop (omega arith)) ∙ rw (get_or-drop i xs (j - i) 0, e))

pub part_join : (xs : List ℕ) (i j e : ℕ) → i ≤ j → j ≤ e → total (part xs i e) ≡ total (part xs i j) + total (part xs j e)
part_join xs i j e h l =
    let k : e - i ≡ (j - i) + (e - j) = omega arith in
    let n : i + (j - i) ≡ j = omega arith in
    rw k (ap total (take-add (j - i) (e - j) (drop i xs)) ∙ total_append (take (j - i) (drop i xs)) (take (e - j) (drop (j - i) (drop i xs))) ∙ rw (drop-drop (j - i) i xs, n))

-- a part of a part
pub part-within : (xs : List ℕ) (i j e n : ℕ) → i ≤ j → j ≤ e → e ≤ n → total (part xs j e) ≤ total (part xs i n)
part-within xs i j e n h l r = omega (arith, part_join xs i j n h (omega arith), part_join xs j e n l r)

-- a part of the front of a row
pub part-below : (xs : List ℕ) (i e n : ℕ) → i ≤ e → e ≤ n → total (part xs i e) ≤ total (take n xs)
part-below xs i e n h l = rw (sub-zero n) at (part-within xs 0 i e n (omega arith) h l)

pub two-are : (xs : List ℕ) (i : ℕ) → i + 2 ≤ length xs → total (part xs i (i + 2)) ≡ get_or xs i 0 + get_or xs (i + 1) 0
two-are xs i l =
    let k : i + 2 ≡ i + 1 + 1 = omega arith in
    rw k (omega (arith, part_step xs i (i + 1) (omega arith) (omega arith), part_step xs i i (omega arith) (omega arith), part_none xs i))

-- a turn of `part_total`
pub part-turn : (xs : List ℕ) (i j e sum : ℕ) → i ≤ j → j < e → e ≤ length xs → total (part xs i e) < 2 ^ 64 → sum ≡ total (part xs i j)
    → (sum + get_or xs j 0 < 2 ^ 64) × (sum + get_or xs j 0 ≡ total (part xs i (j + 1)))
part-turn xs i j e sum h l r t s =
    let k = part_step xs i j h (omega arith) in
    (omega (arith, k, part-within xs i i (j + 1) e (omega arith) (omega arith) (omega arith)), omega (arith, k))

-- the same, the count that is added read from the part
pub part-next : (xs : List ℕ) (i k e sum : ℕ) → i + k < e → e ≤ length xs → total (part xs i e) < 2 ^ 64 → sum ≡ total (part xs i (i + k))
    → (sum + get_or (part xs i e) k 0 < 2 ^ 64) × (sum + get_or (part xs i e) k 0 ≡ total (part xs i (i + (k + 1))))
part-next xs i k e sum l r t s =
    let here : get_or (part xs i e) k 0 ≡ get_or xs (i + k) 0 = get_or-take (e - i) (drop i xs) k 0 (omega arith) ∙ get_or-drop i xs k 0 in
    let w : i + (k + 1) ≡ i + k + 1 = omega arith in
    rw (here, w) (part-turn xs i (i + k) e sum (omega arith) l r t s)

-- a turn of `group_total`: four counts more behind the j that are added up
pub record Fours (xs : List ℕ) (i sum j : ℕ) : Type 0 where
  pub inside : i + j + 4 ≤ length xs
  pub part-fits : total (part xs (i + j) (i + j + 4)) < 2 ^ 64
  pub fits : sum + total (part xs (i + j) (i + j + 4)) < 2 ^ 64
  pub next : sum + total (part xs (i + j) (i + j + 4)) ≡ total (part xs i (i + (j + 4)))

pub fours : (xs : List ℕ) (i w sum j : ℕ) → j + 4 ≤ w → i + w ≤ length xs → total (part xs i (i + w)) < 2 ^ 64 → sum ≡ total (part xs i (i + j)) → Fours xs i sum j
fours xs i w sum j h r t e =
    let k : i + (j + 4) ≡ i + j + 4 = omega arith in
    let p : total (part xs i (i + j + 4)) ≡ total (part xs i (i + j)) + total (part xs (i + j) (i + j + 4)) = part_join xs i (i + j) (i + j + 4) (omega arith) (omega arith) in
    let q : total (part xs i (i + j + 4)) ≤ total (part xs i (i + w)) = part-within xs i i (i + j + 4) (i + w) (omega arith) (omega arith) (omega arith) in
    record { inside = omega arith; part-fits = omega arith; fits = omega arith; next = rw k (omega arith) }

-- ---- behind a new front nothing moved

pub drop-over : (new old : List ℕ) (i : ℕ) → length new ≤ i → drop i (over new old) ≡ drop i old
unfolding over
drop-over new old i h =
    let k : length new + (i - length new) ≡ i = omega arith in
    rw k at (drop-append-add new (drop (length new) old) (i - length new) ∙ drop-drop (i - length new) (length new) old)

-- ---- one group more

pub length-groups : (w m : ℕ) (xs : List ℕ) → length (groups w m xs) ≡ m
unfolding groups
length-groups w zero xs = refl
length-groups w (suc m) xs = ap suc (length-groups w m (drop w xs))

groups-snoc : (w m : ℕ) (xs : List ℕ) → groups w (suc m) xs ≡ groups w m xs ++ (total (take w (drop (m * w) xs)) ∷ [])
unfolding groups
groups-snoc w zero xs = rw (zero-mul w)
groups-snoc w (suc m) xs =
    let e : w + m * w ≡ suc m * w = omega (arith, suc-mul m w) in
    ap (λ (r : List ℕ). total (take w xs) ∷ r) (groups-snoc w m (drop w xs))
    ∙ ap (λ (r : List ℕ). total (take w xs) ∷ (groups w m (drop w xs) ++ (total (take w r) ∷ []))) (drop-drop (m * w) w xs ∙ ap (λ (n : ℕ). drop n xs) e)

pub gathered_none : (w a i : ℕ) (xs : List ℕ) → a ≤ length xs → xs ≡ gathered w a i 0 xs
unfolding groups
gathered_none w a i xs h = rw append-nil (sym (over-self a xs h))

-- the new front with k groups
pub front_length : (w a i k : ℕ) (xs : List ℕ) → a ≤ length xs → length (take a xs ++ groups w k (drop i xs)) ≡ k + a
front_length w a i k xs h =
    length-append (take a xs) (groups w k (drop i xs))
    ∙ omega (arith, length-take-le a xs h, length-groups w k (drop i xs))

pub gathered-length : (w a i k : ℕ) (xs : List ℕ) → k + a ≤ length xs → length (gathered w a i k xs) ≡ length xs
gathered-length w a i k xs h = length_over (take a xs ++ groups w k (drop i xs)) xs (omega (arith, front_length w a i k xs (omega arith)))

-- there is a place for each group
pub few-groups : (w a i m : ℕ) (xs : List ℕ) → 0 < w → Gatherable w a i m xs → m + a ≤ length xs
few-groups w a i m xs h g = omega (arith, g.0, g.1, mul-le-mul_left {m = 1} {n = w} m h, mul-one m)

-- what the group of w counts from j on asks, and what it leaves
pub record Group (xs cs : List ℕ) (w a i k j : ℕ) : Type 0 where
  pub kept : length cs ≡ length xs
  pub behind : k + a ≤ j
  pub inside : j + w ≤ length cs
  pub fits : total (part cs j (j + w)) < 2 ^ 64
  pub next : set cs (k + a) (total (part cs j (j + w))) ≡ gathered w a i (k + 1) xs

module _ (xs : List ℕ) (w a i m k : ℕ) (met : Gatherable w a i m xs) (some : 0 < w) (more : k < m) where
  abbrev J : ℕ
  J = i + k * w

  abbrev New : List ℕ
  New = take a xs ++ groups w k (drop i xs)

  end : J + w ≤ i + m * w
  end = omega (arith, mul-le-mul_right {m = suc k} {n = m} w (omega arith), suc-mul k w)

  before : k + a ≤ J
  before = omega (arith, met.0, mul-le-mul_left {m = 1} {n = w} k some, mul-one k)

  long : length New ≡ k + a
  long = front_length w a i k xs (omega (arith, met.0, met.1))

  same-part : part (gathered w a i k xs) J (J + w) ≡ part xs J (J + w)
  same-part = ap (take (J + w - J)) (drop-over New xs J (omega (arith, long, before)))

  this : total (take w (drop (k * w) (drop i xs))) ≡ total (part xs J (J + w))
  this = let e : J + w - J ≡ w = omega arith in rw (e, drop-drop (k * w) i xs)

  group_at : Group xs (gathered w a i k xs) w a i k J
  group_at =
      let l : length (gathered w a i k xs) ≡ length xs = length_over New xs (omega (arith, long, before, end, met.1)) in
      record {
        kept = l;
        behind = before;
        inside = omega (arith, l, end, met.1);
        fits = rw same-part (omega (arith, met.2, part-within xs i J (J + w) (i + m * w) (omega arith) (omega arith) end));
        next =
            rw (same-part, ← this, ← long) (over-snoc New xs (total (take w (drop (k * w) (drop i xs)))) (omega (arith, long, before, end, met.1)))
            ∙ ap (λ (r : List ℕ). over r xs) (append_assoc (take a xs) (groups w k (drop i xs)) (total (take w (drop (k * w) (drop i xs))) ∷ []) ∙ ap (λ (r : List ℕ). take a xs ++ r) (sym (groups-snoc w k (drop i xs))))
            ∙ rw (add-one k);
      }

pub group : (xs cs : List ℕ) (w a i m k j : ℕ) → Gatherable w a i m xs → 0 < w → k < m → j ≡ i + k * w → cs ≡ gathered w a i k xs → Group xs cs w a i k j
group xs cs w a i m k j g s h e₁ e₂ = rw (e₁, e₂) (group_at xs w a i m k g s h)

-- where the next group begins
pub next-group : (i k w j : ℕ) → j ≡ i + k * w → j + w ≡ i + (k + 1) * w
next-group i k w j e = omega (arith, e, add-mul k 1 w, one-mul w)

-- two pairs in one turn
pub record Two (xs cs : List ℕ) (i k j : ℕ) : Type 0 where
  pub first : Group xs cs 2 1 i k j
  pub inside : j + 2 + 2 ≤ length cs
  pub fits : total (part cs (j + 2) (j + 2 + 2)) < 2 ^ 64
  pub next : set (set cs (k + 1) (total (part cs j (j + 2)))) (k + 2) (total (part cs (j + 2) (j + 2 + 2))) ≡ gathered 2 1 i (k + 2) xs

pub two : (xs cs : List ℕ) (i m k j : ℕ) → Gatherable 2 1 i m xs → k + 2 ≤ m → j ≡ i + k * 2 → cs ≡ gathered 2 1 i k xs → Two xs cs i k j
two xs cs i m k j g h e₁ e₂ =
    let p : Group xs cs 2 1 i k j = group xs cs 2 1 i m k j g (omega arith) (omega arith) e₁ e₂ in
    let a : ℕ = total (part cs j (j + 2)) in
    let q : Group xs (set cs (k + 1) a) 2 1 i (k + 1) (j + 2) = group xs (set cs (k + 1) a) 2 1 i m (k + 1) (j + 2) g (omega arith) (omega arith) (next-group i k 2 j e₁) p.next in
    let s : part (set cs (k + 1) a) (j + 2) (j + 2 + 2) ≡ part cs (j + 2) (j + 2 + 2) = ap (take (j + 2 + 2 - (j + 2))) (drop-set-lt (j + 2) cs (k + 1) a (omega (arith, p.behind))) in
    let n : k + 1 + 1 ≡ k + 2 = omega arith in
    record { first = p; inside = rw length-set at q.inside; fits = rw s at q.fits; next = rw (s, n) at q.next }

-- two levels lower, or more, a group is so many fours
pub fours-wide : (w d : ℕ) → 2 ≤ d → w ≡ 2 ^ d → (0 < w) × (w % 4 ≡ 0)
fours-wide w d h e =
    let k : d ≡ 2 + (d - 2) = omega arith in
    let p : w ≡ 4 * 2 ^ (d - 2) = e ∙ ap (λ (n : ℕ). 2 ^ n) k ∙ pow-add 2 2 (d - 2) in
    let q : 0 < 2 ^ (d - 2) = pow_pos (d - 2) in
    (omega arith, omega arith)
