-- No sheet is the beginning of a longer one: the link of its last record ends the chain. Assumes nothing.
use Prim.Native.Nat.{ℕ, ◌+◌, ◌-◌, ◌*◌, ◌/◌, ◌≤◌, ◌<◌}
use mathlib.Core.Path.{◌≡◌, refl, sym, ap, ap₂, ◌∙◌}
use mathlib.Core.Bool.{Bool, true, false}
use mathlib.Core.List.{List, ◌∷◌, ◌++◌}
use native.Mathlib.Omega.{arith}
use borrow.Author.Tests.{eq-eqb, ne_eqb}
use lib.Dec.{eqb}
use lib.ListN.{length, length-append, get_or-append}
use Rattle.laws.specs.Pick.{pick}
use Rattle.records.specs.Words.{two_at, four_at, word_at}
use Rattle.records.specs.Inner.{link_of}
use Rattle.sheets.specs.Sheet.{Sheet, info_for, payload, written, writable}
use Rattle.sheets.proofs.Lengths.{payload-whole, payload-short, whole_length, written-records}
use Rattle.sheets.proofs.Passes.{link_at}

-- ---- a word within the front of a list

module _ (s u : List ℕ) where
  two-front : (i : ℕ) → i + 2 ≤ length s → two_at (s ++ u) i ≡ two_at s i
  unfolding two_at
  two-front i h = ap₂ (λ (a b : ℕ). a + 256 * b) (get_or-append s u 0 i (omega arith)) (get_or-append s u 0 (i + 1) (omega arith))

  four-front : (i : ℕ) → i + 4 ≤ length s → four_at (s ++ u) i ≡ four_at s i
  unfolding four_at
  four-front i h = ap₂ (λ (a b : ℕ). a + 65536 * b) (two-front i (omega arith)) (two-front (i + 2) (omega arith))

  word-front : (i : ℕ) → i + 8 ≤ length s → word_at (s ++ u) i ≡ word_at s i
  unfolding word_at
  word-front i h = ap₂ (λ (a b : ℕ). a + 4294967296 * b) (four-front i (omega arith)) (four-front (i + 4) (omega arith))

-- ---- the lower half of a link

upper-half : (b : Bool) (info : ℕ) → pick b (info * 4294967296) 0 ≡ pick b info 0 * 4294967296
unfolding pick
upper-half true info = refl
upper-half false info = refl

-- the last record's is 0
link-last : (info n r : ℕ) → r + 1 ≡ n → link_of info n r ≡ pick (eqb r 0) info 0 * 4294967296 + 0
unfolding link_of pick
link-last info n r h = ap₂ (λ (a : ℕ) (b : Bool). a + pick b 0 (r + 1)) (upper-half (eqb r 0) info) (eq-eqb (r + 1) n h)

-- any other's is the next record's index
link-more : (info n r : ℕ) → r + 1 < n → link_of info n r ≡ pick (eqb r 0) info 0 * 4294967296 + (r + 1)
unfolding link_of pick
link-more info n r h = ap₂ (λ (a : ℕ) (b : Bool). a + pick b 0 (r + 1)) (upper-half (eqb r 0) info) (ne_eqb (r + 1) n (λ e. omega arith))

not-both-halves : (a c k : ℕ) → 0 < k → k < 4294967296 → a * 4294967296 + 0 ≡ c * 4294967296 + k → ⊥
not-both-halves a c k p q e = omega arith

-- ---- the sheet

records-few : (t : Sheet) → writable t ≡ true → length (payload t) / 3 ≤ 7297
records-few t w = omega (arith, payload-short t w)

records-some : (t : Sheet) → writable t ≡ true → 1 ≤ length (payload t) / 3
records-some t w = omega (arith, whole_length (payload-whole t w))

pub no_longer : (t v : Sheet) (b : ℕ) (e : List ℕ) → writable t ≡ true → writable v ≡ true → written v ≡ written t ++ (b ∷ e) → ⊥
no_longer t v b e p q h =
    let n = length (payload t) / 3 in
    let m = length (payload v) / 3 in
    let r = n - 1 in
    let k = records-some t p in
    let long : n + 1 ≤ m = omega (arith, written-records t p, written-records v q, ap length h, length-append (written t) (b ∷ e)) in
    let last : r + 1 ≡ n = omega arith in
    let own : word_at (written t) (r * 32) ≡ word_at (written v) (r * 32) =
    sym (word-front (written t) (b ∷ e) (r * 32) (omega (arith, written-records t p))) ∙ ap (λ (s : List ℕ). word_at s (r * 32)) (sym h) in
    let i = info_for t.header (length t.points) in
    let j = info_for v.header (length v.points) in
    not-both-halves (pick (eqb r 0) i 0) (pick (eqb r 0) j 0) (r + 1) (omega arith) (omega (arith, records-few t p))
    (sym (link-last i n r last) ∙ sym (link_at t p r (omega arith)) ∙ own ∙ link_at v q r (omega arith) ∙ link-more j m r (omega arith))
