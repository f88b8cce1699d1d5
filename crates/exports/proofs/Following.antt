-- A value more of a run, and its end. Assumes nothing.
use Prim.Native.Nat.{ℕ, suc, ◌+◌, ◌-◌, ◌≤◌, ◌<◌, min}
use mathlib.Core.Path.{◌≡◌, sym, ap, ◌∙◌}
use mathlib.Core.Logic.{⊎_elim}
use mathlib.Core.List.{List, ◌∷◌}
use native.Mathlib.Omega.{arith}
use native.Mathlib.Numerals.{add-one}
use lib.ListN.{length, get_or, take, drop, drop_of_length-le}
use lib.Seq.{drop-cons, take-nil}
use lib.Ieee.{Float, nan}
use Rattle.laws.proofs.Differences.{le_or-lt}
use Rattle.exponential.specs.declared.Head.{Head}
use Rattle.exponential.specs.Series.{Outcome, recording}
use Rattle.exponential.specs.Inner.{Series, after, head_after, run_all}

module _ (size top : ℕ) (s : Series) (vs : List Float) (i : ℕ) where
  pub turn : (o : Outcome) (h : Head) → i < 1000000 → i < length vs
      → o ≡ recording size top s.head s.pos s.neg (get_or vs i nan) → h ≡ head_after o.answer s.head
      → run_all size top s (take (1000000 - i) (drop i vs))
      ≡ run_all size top (record { head = h; pos = o.pos; neg = o.neg }) (take (1000000 - (i + 1)) (drop (i + 1) vs))
  unfolding run_all
  turn o h m l e g =
      let n = 1000000 - (i + 1) in
      let k : 1000000 - i ≡ suc n = omega arith in
      let vs' = take n (drop (i + 1) vs) in
      ap (λ (j : ℕ). run_all size top s (take j (drop i vs))) k
      ∙ ap (λ (xs : List Float). run_all size top s (take (suc n) xs)) (drop-cons vs i nan l ∙ ap (λ (j : ℕ). get_or vs i nan ∷ drop j vs) (sym (add-one i)))
      ∙ ap (λ (x : Outcome). run_all size top (after x s) vs') (sym e)
      ∙ ap (λ (y : Head). run_all size top (record { head = y; pos = o.pos; neg = o.neg }) vs') (sym g)

  pub ended : min (length vs) 1000000 ≤ i → run_all size top s (take (1000000 - i) (drop i vs)) ≡ s
  unfolding run_all
  ended h =
      ⊎_elim
      (λ (l : 1000000 ≤ i). let k : 1000000 - i ≡ 0 = omega arith in ap (λ (j : ℕ). run_all size top s (take j (drop i vs))) k)
      (λ (l : i < 1000000).
      let m : length vs ≤ i = omega arith in
      ap (λ (xs : List Float). run_all size top s (take (1000000 - i) xs)) (drop_of_length-le vs m) ∙ ap (run_all size top s) (take-nil (1000000 - i)))
      (le_or-lt 1000000 i)
