-- The links and places of words, by the tests of the code. Assumes nothing.
use Prim.Native.Nat.{ℕ, ◌+◌, ◌*◌, ◌/◌, ◌%◌, ◌≤◌}
use mathlib.Core.Path.{◌≡◌, sym, ◌∙◌}
use mathlib.Core.List.{List}
use native.Mathlib.Omega.{arith}
use borrow.Author.Tests.{eq-eqb, ne_eqb}
use Rattle.laws.specs.Pick.{pick}
use Rattle.records.specs.Inner.{put_word, link_of, place_of, emitted}

module _ (info n r : ℕ) where
  pub link-alone : r ≡ 0 → n ≡ 1 → info * 4294967296 ≡ link_of info n r
  unfolding link_of pick
  link-alone a b = let e : r + 1 ≡ n = omega arith in rw (eq-eqb r 0 a, eq-eqb (r + 1) n e) (omega arith)

  pub link-first : r ≡ 0 → (n ≡ 1 → ⊥) → info * 4294967296 + 1 ≡ link_of info n r
  unfolding link_of pick
  link-first a b = let e : r + 1 ≡ 1 = omega arith in rw (eq-eqb r 0 a, ne_eqb (r + 1) n (λ p. b (sym p ∙ e)), e)

  pub link-last : (r ≡ 0 → ⊥) → r + 1 ≡ n → 0 ≡ link_of info n r
  unfolding link_of pick
  link-last a b = rw (ne_eqb r 0 a, eq-eqb (r + 1) n b)

  pub link-next : (r ≡ 0 → ⊥) → (r + 1 ≡ n → ⊥) → r + 1 ≡ link_of info n r
  unfolding link_of pick
  link-next a b = rw (ne_eqb r 0 a, ne_eqb (r + 1) n b) (omega arith)

module _ (info n k x : ℕ) (s : List ℕ) where
  pub emit-first : k % 3 ≡ 0 → put_word (place_of k) x (put_word (k / 3 * 32) (link_of info n (k / 3)) s) ≡ emitted info n k x s
  unfolding emitted pick
  emit-first e = rw (eq-eqb (k % 3) 0 e)

  pub emit-later : (k % 3 ≡ 0 → ⊥) → put_word (place_of k) x s ≡ emitted info n k x s
  unfolding emitted pick
  emit-later e = rw (ne_eqb (k % 3) 0 e)

pub link-room : (k m : ℕ) → place_of k + 8 ≤ m → k / 3 * 32 + 8 ≤ m
unfolding place_of
link-room k m h = omega arith
