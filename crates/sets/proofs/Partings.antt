-- What the first word in which two rows differ tells of their sets. Assumes nothing.
use Prim.Native.Nat.{Ordering}
use Prim.Native.Nat.{ℕ, zero, suc, ◌+◌, ◌-◌, ◌/◌, ◌≤◌, ◌<◌}
use mathlib.Core.Path.{◌≡◌, refl, ap, sym, subst, ◌∙◌}
use mathlib.Core.Logic.{◌⊎◌, inl, inr, ⊎_elim}
use mathlib.Core.Bool.{Bool, true, false, ◌&&◌, and-true, and-false}
use mathlib.Core.List.{List}
use native.Mathlib.Omega.{arith}
use native.Mathlib.Nat.{eq-or-lt_of_le}
use native.Mathlib.Numerals.{add-one}
use borrow.Author.Tests.{lt-ltb, ltb-true, leb-true, leb-false}
use lib.Dec.{leb}
use lib.ListN.{get_or}
use Rattle.tally.specs.Sets.{cmp}
use Rattle.sets.specs.All.{allb}
use Rattle.sets.specs.Rows.{size, set_of, below, key_at, soundb}
use Rattle.sets.specs.Inner.{Parted}
use Rattle.sets.proofs.Keyed.{unsound-many, sound-keys, key-rise}
use Rattle.sets.proofs.Words.{left, longer, shorter, ended, low, high, alike, at-start}

-- a key that is below the next one's stays so under a greater word
div-le : (x y : ℕ) → x ≤ y → x / 4294967296 ≤ y / 4294967296
div-le x y h = omega arith

key_lift : (a b : List ℕ) (k : ℕ) → key_at a k ≡ true → get_or a k 0 ≡ get_or b k 0 → get_or a (k + 1) 0 ≤ get_or b (k + 1) 0 → key_at b k ≡ true
key_lift a b k e p h =
    let u = ltb-true _ _ e in
    let v = div-le (get_or a (k + 1) 0) (get_or b (k + 1) 0) h in
    let w : get_or a k 0 / 4294967296 ≡ get_or b k 0 / 4294967296 = ap (λ (x : ℕ). x / 4294967296) p in
    lt-ltb _ _ (less _ _ _ _ u v w)
  where
    less : (x y z w : ℕ) → x < y → y ≤ z → x ≡ w → w < z
    less x y z w a b c = omega arith

-- rows that are alike below place k compare as what is left there
skip : (a b : List ℕ) (n m k : ℕ) → k ≤ n → k ≤ m → ((j : ℕ) → j < k → get_or a j 0 ≡ get_or b j 0) → left a b n m 0 ≡ left a b n m k
skip a b n m zero h l e = refl
skip a b n m (suc k) h l e =
    let q = e k (omega arith) in
    skip a b n m k (omega arith) (omega arith) (λ j u. e j (omega arith))
    ∙ alike a b n m k (omega arith) (omega arith) (omega (arith, q)) (omega (arith, q))
    ∙ ap (λ (i : ℕ). left a b n m i) (add-one k)

module _ (a b : List ℕ) (r : ℕ) (p : Parted a b 0 r) where
  from : (k : ℕ) → k ≤ r → k ≤ size a → k ≤ size b → cmp (set_of a) (set_of b) ≡ left a b (size a) (size b) k
  from k h u v = at-start a b ∙ skip a b (size a) (size b) k u v (λ j l. p.alike j (omega arith) (omega arith))

  -- one ends first, or both at once
  pub part-shorter : size b ≤ r → size b < size a → cmp (set_of a) (set_of b) ≡ Ordering.gt
  part-shorter h l = from (size b) h (omega arith) (omega arith) ∙ longer a b (size a) (size b) (size b) l (omega arith)

  pub part-longer : size a ≤ r → size a < size b → cmp (set_of a) (set_of b) ≡ Ordering.lt
  part-longer h l = from (size a) h (omega arith) (omega arith) ∙ shorter a b (size a) (size b) (size a) (omega arith) l

  pub part_same : size a ≤ r → size b ≤ size a → size a ≤ size b → cmp (set_of a) (set_of b) ≡ Ordering.eq
  part_same h l k = from (size a) h (omega arith) k ∙ ended a b (size a) (size b) (size a) (omega arith) l

  -- or a word decides
  module _ (h : r < size a) (k : r < size b) where
    pub part_low : get_or a r 0 < get_or b r 0 → cmp (set_of a) (set_of b) ≡ Ordering.lt
    part_low l = from r (omega arith) (omega arith) (omega arith) ∙ low a b (size a) (size b) r h k l

    pub part-high : size a ≤ 8 → get_or b r 0 ≤ get_or a r 0 → cmp (set_of a) (set_of b) ≡ Ordering.gt
    part-high few l =
        from r (omega arith) (omega arith) (omega arith)
        ∙ high a b (size a) (size b) r h k (⊎_elim (λ e. absurd (p.apart (omega arith) (sym e))) (λ g. g) (eq-or-lt_of_le l))

  -- where a is sound, b's keys rise up to there
  module _ (s : soundb a ≡ true) where
    pub keys-low : r < size a → get_or a r 0 < get_or b r 0 → (k : ℕ) → k < r → key_at b k ≡ true
    keys-low h l k u = key_lift a b k (key-rise a s k (omega arith)) (p.alike k (omega arith) u) (next (eq-or-lt_of_le (let w : k + 1 ≤ r = omega arith in w)))
      where
        next : (k + 1 ≡ r) ⊎ (k + 1 < r) → get_or a (k + 1) 0 ≤ get_or b (k + 1) 0
        next (inl e) = subst (λ (i : ℕ). get_or a i 0 ≤ get_or b i 0) (sym e) (omega arith)
        next (inr v) = let q = p.alike (k + 1) (omega arith) v in omega (arith, q)

    pub keys-longer : size a ≤ r → (k : ℕ) → k < size a - 1 → key_at b k ≡ true
    keys-longer h k u =
        let q = p.alike (k + 1) (omega arith) (omega arith) in
        key_lift a b k (key-rise a s k (omega arith)) (p.alike k (omega arith) (omega arith)) (omega (arith, q))

-- rows that are alike below a word, and part from there on
pub parted-whole : (a b : List ℕ) (from r : ℕ) → Parted a b from r → ((k : ℕ) → k < from → get_or a k 0 ≡ get_or b k 0) → Parted a b 0 r
parted-whole a b from r p e = record { least = omega arith; most = p.most; alike = λ j g h. go j h (leb from j) refl; apart = p.apart }
  where
    go : (j : ℕ) → j < r → (t : Bool) → leb from j ≡ t → get_or a j 0 ≡ get_or b j 0
    go j h true q = p.alike j (leb-true from j q) h
    go j h false q = e j (leb-false from j q)

-- rows that are alike below a word that decides
pub part-first : (a b : List ℕ) (r : ℕ) → r < size a → size a ≤ 8 → r < size b → ((k : ℕ) → k < r → get_or a k 0 ≡ get_or b k 0) → get_or a r 0 < get_or b r 0
    → cmp (set_of a) (set_of b) ≡ Ordering.lt
part-first a b r h few k e l = part_low a b r (record { least = omega arith; most = omega arith; alike = λ j g u. e j u; apart = λ u q. absurd (omega arith) }) h k l

-- b sound and after a
module _ (a b : List ℕ) where
  abbrev both : Bool
  both = soundb b && below (cmp (set_of a) (set_of b))

  pub after-many : 8 < size b → false ≡ both
  after-many h = rw (unsound-many b h)

  pub after-high : cmp (set_of a) (set_of b) ≡ Ordering.gt → false ≡ both
  after-high e = rw e (sym (and-false (soundb b)))

  pub after_same : cmp (set_of a) (set_of b) ≡ Ordering.eq → false ≡ both
  after_same e = rw e (sym (and-false (soundb b)))

  pub after-low : cmp (set_of a) (set_of b) ≡ Ordering.lt → 1 ≤ size b → size b ≤ 8 → (x : Bool) → x ≡ allb (size b - 1) (key_at b) → x ≡ both
  after-low e h k x q = rw e (q ∙ sym (sound-keys b h k) ∙ sym (and-true (soundb b)))
