-- Rows that differ in few bits. Assumes nothing.
use Rattle.std.proofs.Common.{◌≡◌, ℕ, zero, suc, ◌+◌, ◌-◌, ◌*◌, ◌/◌, ◌<◌, ◌≤◌, true, List, get_or, sym, ◌∙◌, arith, ltb-true, lt-ltb}
use lib.Bits.{bit_and, bit_or, bit_xor, or_add_and, xor_add_and, and_le_l, and_le_r, xor_shr}
use Rattle.sets.specs.Rows.{size, key_at, soundb}
use Rattle.directory.specs.Inner.{join_at, joined, SameKeys}
use Rattle.sets.proofs.Alls.{allb-yes}
use Rattle.sets.proofs.Keyed.{sound-some, sound-few, sound-keys, key-rise}

-- both are within their joined bits
or-both : (a b : ℕ) → (a ≤ bit_or a b) × (b ≤ bit_or a b)
or-both a b = plain (bit_or a b) (bit_and a b) (or_add_and a b) (and_le_l a b) (and_le_r a b)
  where
    plain : (o n : ℕ) → o + n ≡ a + b → n ≤ a → n ≤ b → (a ≤ o) × (b ≤ o)
    plain o n e h k = (omega arith, omega arith)

-- no bit differs, or none of the key
xor-none : (a b : ℕ) → bit_xor a b ≡ 0 → a ≡ b
xor-none a b z = plain (bit_xor a b) (bit_and a b) z (xor_add_and a b) (and_le_l a b) (and_le_r a b)
  where
    plain : (o n : ℕ) → o ≡ 0 → o + n * 2 ≡ a + b → n ≤ a → n ≤ b → a ≡ b
    plain o n z e h k = omega arith

xor-key : (a b : ℕ) → bit_xor a b < 4294967296 → a / 4294967296 ≡ b / 4294967296
xor-key a b h = xor-none (a / 4294967296) (b / 4294967296) (sym (xor_shr a b 32) ∙ none (bit_xor a b) h)
  where
    none : (x : ℕ) → x < 4294967296 → x / 4294967296 ≡ 0
    none x h = omega arith

-- the words of a row, one by one
nine : (P : ℕ → Type 0) → P 0 → P 1 → P 2 → P 3 → P 4 → P 5 → P 6 → P 7 → P 8 → (j : ℕ) → j < 9 → P j
nine P p0 p1 p2 p3 p4 p5 p6 p7 p8 zero h = p0
nine P p0 p1 p2 p3 p4 p5 p6 p7 p8 (suc zero) h = p1
nine P p0 p1 p2 p3 p4 p5 p6 p7 p8 (suc (suc zero)) h = p2
nine P p0 p1 p2 p3 p4 p5 p6 p7 p8 (suc (suc (suc zero))) h = p3
nine P p0 p1 p2 p3 p4 p5 p6 p7 p8 (suc (suc (suc (suc zero)))) h = p4
nine P p0 p1 p2 p3 p4 p5 p6 p7 p8 (suc (suc (suc (suc (suc zero))))) h = p5
nine P p0 p1 p2 p3 p4 p5 p6 p7 p8 (suc (suc (suc (suc (suc (suc zero)))))) h = p6
nine P p0 p1 p2 p3 p4 p5 p6 p7 p8 (suc (suc (suc (suc (suc (suc (suc zero))))))) h = p7
nine P p0 p1 p2 p3 p4 p5 p6 p7 p8 (suc (suc (suc (suc (suc (suc (suc (suc zero)))))))) h = p8
nine P p0 p1 p2 p3 p4 p5 p6 p7 p8 (suc (suc (suc (suc (suc (suc (suc (suc (suc j))))))))) h = absurd (omega arith)

-- joined bits hold those of d and of the two rows' difference
module _ (d a b : List ℕ) where
  each : (j : ℕ) → (get_or d j 0 ≤ join_at d a b j) × (bit_xor (get_or a j 0) (get_or b j 0) ≤ join_at d a b j)
  each j = or-both (get_or d j 0) (bit_xor (get_or a j 0) (get_or b j 0))

  pub joined-each : (j : ℕ) → j < 9 → (get_or d j 0 ≤ get_or (joined d a b) j 0) × (bit_xor (get_or a j 0) (get_or b j 0) ≤ get_or (joined d a b) j 0)
  joined-each =
      nine (λ (j : ℕ). (get_or d j 0 ≤ get_or (joined d a b) j 0) × (bit_xor (get_or a j 0) (get_or b j 0) ≤ get_or (joined d a b) j 0))
      (each 0) (each 1) (each 2) (each 3) (each 4) (each 5) (each 6) (each 7) (each 8)

-- words whose joined bits are below n are
both_below : (n a b : ℕ) → bit_or a b < n → (a < n) × (b < n)
both_below n a b h = let e = or-both a b in plain (bit_or a b) e.0 e.1 h
  where
    plain : (o : ℕ) → a ≤ o → b ≤ o → o < n → (a < n) × (b < n)
    plain o u v h = (omega arith, omega arith)

pub all-below : (d : List ℕ) (n : ℕ)
    → bit_or (bit_or (bit_or (bit_or (bit_or (bit_or (bit_or (get_or d 0 0) (get_or d 1 0)) (get_or d 2 0)) (get_or d 3 0)) (get_or d 4 0)) (get_or d 5 0)) (get_or d 6 0)) (get_or d 7 0) < n
    → (j : ℕ) → j < 8 → get_or d j 0 < n
all-below d n h j k =
    let h6 = both_below n _ (get_or d 7 0) h in
    let h5 = both_below n _ (get_or d 6 0) h6.0 in
    let h4 = both_below n _ (get_or d 5 0) h5.0 in
    let h3 = both_below n _ (get_or d 4 0) h4.0 in
    let h2 = both_below n _ (get_or d 3 0) h3.0 in
    let h1 = both_below n _ (get_or d 2 0) h2.0 in
    let h0 = both_below n (get_or d 0 0) (get_or d 1 0) h1.0 in
    nine (λ (i : ℕ). i < 8 → get_or d i 0 < n) (λ u. h0.0) (λ u. h0.1) (λ u. h1.1) (λ u. h2.1) (λ u. h3.1) (λ u. h4.1) (λ u. h5.1) (λ u. h6.1)
    (λ u. absurd (omega arith)) j (omega arith) k

-- two rows that differ in the bits d at most
module _ (a b d : List ℕ) (w : (j : ℕ) → j < 9 → bit_xor (get_or a j 0) (get_or b j 0) ≤ get_or d j 0) where
  pub word_same : (j : ℕ) → j < 9 → get_or d j 0 ≡ 0 → get_or a j 0 ≡ get_or b j 0
  word_same j h e = xor-none _ _ (zero_of _ _ (w j h) e)
    where
      zero_of : (x y : ℕ) → x ≤ y → y ≡ 0 → x ≡ 0
      zero_of x y h e = omega arith

  module _ (s : SameKeys d) where
    key-same : (j : ℕ) → j < 8 → get_or a j 0 / 4294967296 ≡ get_or b j 0 / 4294967296
    key-same j h = xor-key _ _ (under _ _ _ (w j (omega arith)) (s.keys j h))
      where
        under : (x y z : ℕ) → x ≤ y → y < z → x < z
        under x y z h k = omega arith

    pub size_same : size a ≡ size b
    size_same = word_same 8 (omega arith) s.long

    pub sound-same : soundb b ≡ true → soundb a ≡ true
    sound-same e =
        let u = sound-some b e in
        let v = sound-few b e in
        let z = size_same in
        sound-keys a (omega (arith, z)) (omega (arith, z))
        ∙ allb-yes (key_at a) (size a - 1) (λ k h. let l = ltb-true _ _ (key-rise b e k (omega (arith, z))) in
        lt-ltb _ _ (less _ _ _ _ l (key-same k (omega (arith, z))) (key-same (k + 1) (omega (arith, z)))))
      where
        less : (x y z w : ℕ) → x < y → z ≡ x → w ≡ y → z < w
        less x y z w h k l = omega arith
