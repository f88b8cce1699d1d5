-- The code of the plain form: a row halved once by pairs, and once more. Assumes nothing.
use mathlib.Core.Path.{◌≡◌, refl, sym, ap, ◌∙◌}
use mathlib.Core.Logic.{◌⊎◌, inl, inr}
use mathlib.Core.List.{List, [], ◌∷◌, ◌++◌, append_assoc, append-nil}
use Prim.Native.Nat.{ℕ, zero, suc, ◌+◌, ◌-◌, ◌*◌, ◌/◌, ◌%◌, ◌^◌, ◌≤◌, ◌<◌}
use native.Mathlib.Nat.{add-zero, sub-zero}
use native.Mathlib.Omega.{arith}
use lib.ListN.{length, get_or, take, drop, set, length-append, length-take}
use lib.Seq.{drop-drop, drop-cons, length-take-le}
use borrow.Author.Tests.{eq-eqb, ne_eqb}
use Rattle.laws.specs.Counting.{total}
use Rattle.laws.specs.Pick.{pick}
use Rattle.laws.proofs.Over.{over-snoc}
use Rattle.rows.specs.Rows.{over, downscaled}
use Rattle.rows.specs.Parts.{part}
use Rattle.rows.specs.Groups.{groups, gathered}
use Rattle.rows.proofs.Laws.{length_over, over-behind, take-over, length-downscaled, total-downscaled}
use Rattle.rows.proofs.Groups.{Group, group, two-are, part-below, front_length}
use Rattle.halving.specs.Plain.{paired, halved_once, plain_start, plain_counts}
use Rattle.halving.specs.Inner.{plain_over}
use Rattle.halving.proofs.Plain.{parity, once_is}

twice : (k r : ℕ) → suc k * 2 + r ≡ suc (suc (k * 2 + r))
twice k r = omega arith

-- k pairs, and r counts behind them that are none or one
paired-are : (k r : ℕ) (ys : List ℕ) → k * 2 + r ≤ length ys → r ≤ 1 → paired (take (k * 2 + r) ys) ≡ groups 2 k ys ++ take r (drop (k * 2) ys)
unfolding paired groups
paired-are zero zero ys h l = refl
paired-are zero (suc zero) [] h l = refl
paired-are zero (suc zero) (y ∷ ys) h l = refl
paired-are zero (suc (suc r)) ys h l = absurd (omega (arith, l))
paired-are (suc k) r [] h l = absurd (omega (arith, h))
paired-are (suc k) r (x ∷ []) h l = absurd (omega (arith, h))
paired-are (suc k) r (x ∷ y ∷ ys) h l =
    let e : suc k * 2 ≡ suc (suc (k * 2)) = omega arith in
    rw (twice k r, e, add-zero y) (ap (λ (r : List ℕ). (x + y) ∷ r) (paired-are k r ys (omega (arith, h)) l))

even_is : (s : ℕ) (xs : List ℕ) → s % 2 ≡ 0 → halved_once s xs ≡ paired xs
unfolding halved_once paired pick
even_is s [] h = refl
even_is s (x ∷ xs) h = rw (eq-eqb (s % 2) 0 h)

odd_is : (s x : ℕ) (xs : List ℕ) → s % 2 ≡ 1 → halved_once s (x ∷ xs) ≡ x ∷ paired xs
unfolding halved_once pick
odd_is s x xs h = rw (ne_eqb (s % 2) 0 (omega arith))

-- a first count of an odd bin, k pairs, and what is left
cut : (s k r n : ℕ) (xs : List ℕ) → 0 < n → n ≤ length xs → n ≡ s % 2 + (k * 2 + r) → r ≤ 1
    → halved_once s (take n xs) ≡ take (s % 2) xs ++ (groups 2 k (drop (s % 2) xs) ++ take r (drop (k * 2) (drop (s % 2) xs)))
cut s k r n xs p h e l = go xs h (parity s)
  where
    go : (xs : List ℕ) → n ≤ length xs → (s % 2 ≡ 0) ⊎ (s % 2 ≡ 1)
        → halved_once s (take n xs) ≡ take (s % 2) xs ++ (groups 2 k (drop (s % 2) xs) ++ take r (drop (k * 2) (drop (s % 2) xs)))
    go xs h (inl q) =
        let m : n ≡ k * 2 + r = omega (arith, e, q) in
        even_is s (take n xs) q ∙ rw (q, m) (paired-are k r xs (omega (arith, h, m)) l)
    go [] h (inr q) = absurd (omega (arith, h, p))
    go (x ∷ xs) h (inr q) =
        let m : n ≡ suc (k * 2 + r) = omega (arith, e, q) in
        rw (q, m) (odd_is s x (take (k * 2 + r) xs) q ∙ ap (λ (r : List ℕ). x ∷ r) (paired-are k r xs (omega (arith, h, m)) l))

-- ---- a turn of `halve`: the place p is that of its first pair, len - p pairs are done

pub record Half (xs cs : List ℕ) (p i len : ℕ) : Type 0 where
  pub kept : length cs ≡ length xs
  pub behind : len ≤ i
  pub inside : i + 2 ≤ length cs
  pub fits : get_or cs i 0 + get_or cs (i + 1) 0 < 2 ^ 64
  pub next : set cs len (get_or cs i 0 + get_or cs (i + 1) 0) ≡ gathered 2 p p (len + 1 - p) xs

pub half : (xs cs : List ℕ) (p n i len : ℕ) → p ≤ len → i ≡ p + (len - p) * 2 → i + 1 < n → n ≤ length xs → total (take n xs) < 2 ^ 64
    → cs ≡ gathered 2 p p (len - p) xs → Half xs cs p i len
half xs cs p n i len l e h r t g =
    let m : ℕ = (n - p) / 2 in
    let b : p + m * 2 ≤ n = omega arith in
    let q : Group xs cs 2 p p (len - p) i =
    group xs cs 2 p p m (len - p) i (omega arith, omega arith, omega (arith, part-below xs p (p + m * 2) n (omega arith) b)) (omega arith) (omega arith) e g in
    let n₁ : len - p + p ≡ len = omega arith in
    let n₂ : len - p + 1 ≡ len + 1 - p = omega arith in
    let v : total (part cs i (i + 2)) ≡ get_or cs i 0 + get_or cs (i + 1) 0 = two-are cs i q.inside in
    record { kept = q.kept; behind = omega (arith, q.behind); inside = q.inside; fits = rw v at q.fits; next = rw (v, n₁, n₂) at q.next }

-- ---- how it ends

abbrev pub Once : (xs : List ℕ) (s n len : ℕ) (ys : List ℕ) → Type 0
Once xs s n len ys = (len ≡ length (halved_once s (take n xs))) × (ys ≡ over (halved_once s (take n xs)) xs)

pub none_left : (xs cs : List ℕ) (s n i len : ℕ) → 0 < n → n ≤ length xs → s % 2 ≤ len → i ≡ s % 2 + (len - s % 2) * 2 → i ≡ n
    → cs ≡ gathered 2 (s % 2) (s % 2) (len - s % 2) xs → Once xs s n len cs
none_left xs cs s n i len p h l e q g =
    let k : ℕ = len - s % 2 in
    let c : halved_once s (take n xs) ≡ take (s % 2) xs ++ groups 2 k (drop (s % 2) xs) =
    cut s k 0 n xs p h (omega arith) (omega arith) ∙ rw append-nil in
    (omega (arith, ap length c, front_length 2 (s % 2) (s % 2) k xs (omega arith)), g ∙ ap (λ (r : List ℕ). over r xs) (sym c))

pub one_left : (xs cs : List ℕ) (s n i len : ℕ) → n ≤ length xs → s % 2 ≤ len → i ≡ s % 2 + (len - s % 2) * 2 → n ≡ i + 1
    → cs ≡ gathered 2 (s % 2) (s % 2) (len - s % 2) xs → Once xs s n (len + 1) (set cs len (get_or cs i 0))
one_left xs cs s n i len h l e q g =
    let k : ℕ = len - s % 2 in
    let front : List ℕ = take (s % 2) xs ++ groups 2 (len - s % 2) (drop (s % 2) xs) in
    let f : length front ≡ len = front_length 2 (s % 2) (s % 2) k xs (omega arith) ∙ omega arith in
    let v : get_or cs i 0 ≡ get_or xs i 0 = ap (λ (r : List ℕ). get_or r i 0) g ∙ over-behind front xs i 0 (omega (arith, f)) in
    let j : s % 2 + k * 2 ≡ i = omega arith in
    let last : take 1 (drop (k * 2) (drop (s % 2) xs)) ≡ get_or xs i 0 ∷ [] = ap (take 1) (drop-drop (k * 2) (s % 2) xs ∙ ap (λ (n : ℕ). drop n xs) j ∙ drop-cons xs i 0 (omega arith)) in
    let c : halved_once s (take n xs) ≡ front ++ (get_or xs i 0 ∷ []) =
    cut s k 1 n xs (omega arith) h (omega arith) (omega arith) ∙ rw last (sym (append_assoc (take (s % 2) xs) (groups 2 k (drop (s % 2) xs)) (get_or xs i 0 ∷ []))) in (
      omega (arith, f, ap length c, length-append front (get_or xs i 0 ∷ [])),
      rw v (ap (λ (r : List ℕ). set r len (get_or xs i 0)) g)
          ∙ ap (λ (m : ℕ). set (over front xs) m (get_or xs i 0)) (sym f)
          ∙ over-snoc front xs (get_or xs i 0) (omega (arith, f))
          ∙ ap (λ (r : List ℕ). over r xs) (sym c),
    )

-- ---- halved k times, and once more

pub record Lowered (xs cs : List ℕ) (s n d k s' len : ℕ) : Type 0 where
  pub start : plain_start d s ≡ plain_start (d - k) s'
  pub few : len ≤ n
  pub kept : length cs ≡ length xs
  pub sums : total (take len cs) ≡ total (take n xs)
  pub counts : plain_counts d s (take n xs) ≡ plain_counts (d - k) s' (take len cs)
  pub store : plain_over d s n xs ≡ plain_over (d - k) s' len cs

pub fresh : (xs : List ℕ) (s n d : ℕ) → Lowered xs xs s n d 0 s n
fresh xs s n d =
    record {
      start = ap (λ (m : ℕ). plain_start m s) (sym (sub-zero d));
      few = omega arith;
      kept = refl;
      sums = refl;
      counts = ap (λ (m : ℕ). plain_counts m s (take n xs)) (sym (sub-zero d));
      store = ap (λ (m : ℕ). plain_over m s n xs) (sym (sub-zero d));
    }

step_start : (m q s : ℕ) → m ≡ suc q → plain_start m s ≡ plain_start q (s / 2)
unfolding plain_start
step_start m q s e = rw e

step_counts : (m q s : ℕ) (xs : List ℕ) → m ≡ suc q → plain_counts m s xs ≡ plain_counts q (s / 2) (halved_once s xs)
unfolding plain_counts
step_counts m q s xs e = rw e

step-over : (m q s n : ℕ) (xs : List ℕ) → m ≡ suc q
    → plain_over m s n xs ≡ plain_over q (s / 2) (length (halved_once s (take n xs))) (over (halved_once s (take n xs)) xs)
unfolding plain_over
step-over m q s n xs e = rw e

pub once_more : (xs cs cs' : List ℕ) (s n d k s' len len' : ℕ) → n ≤ length xs → k < d → Lowered xs cs s n d k s' len → Once cs s' len len' cs'
    → Lowered xs cs' s n d (k + 1) (s' / 2) len'
once_more xs cs cs' s n d k s' len len' r h w o =
    let new : List ℕ = halved_once s' (take len cs) in
    let e : d - k ≡ suc (d - (k + 1)) = omega arith in
    let i : new ≡ downscaled 1 s' (take len cs) = once_is s' (take len cs) in
    let l : length new ≤ len = omega (arith, ap length i, length-downscaled 1 s' (take len cs), length-take len cs) in
    let f : take len' cs' ≡ new = rw (o.0, o.1) (take-over new cs) in
    record {
      start = w.start ∙ step_start (d - k) (d - (k + 1)) s' e;
      few = omega (arith, o.0, l, w.few);
      kept = ap length o.1 ∙ length_over new cs (omega (arith, l, w.few, w.kept)) ∙ w.kept;
      sums = ap total (f ∙ i) ∙ total-downscaled 1 s' (take len cs) ∙ w.sums;
      counts = w.counts ∙ step_counts (d - k) (d - (k + 1)) s' (take len cs) e ∙ ap (plain_counts (d - (k + 1)) (s' / 2)) (sym f);
      store = w.store ∙ rw (o.0, o.1) (step-over (d - k) (d - (k + 1)) s' len cs e);
    }

-- and there is none left
pub all_done : (xs cs : List ℕ) (s n d s' len : ℕ) → n ≤ length xs → Lowered xs cs s n d d s' len
    → (s' ≡ plain_start d s) × ((len ≡ length (plain_counts d s (take n xs))) × ((take len cs ≡ plain_counts d s (take n xs)) × (cs ≡ plain_over d s n xs)))
unfolding plain_start plain_counts plain_over
all_done xs cs s n d s' len r w =
    let z : d - d ≡ 0 = omega arith in
    let c : plain_counts d s (take n xs) ≡ take len cs = rw z at w.counts in
    (sym (rw z at w.start), (sym (ap length c ∙ length-take-le len cs (omega (arith, w.few, w.kept))), (sym c, sym (rw z at w.store))))
