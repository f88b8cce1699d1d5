use Prim.Native.Nat.{ℕ, ◌+◌, ◌-◌, ◌^◌, ◌<◌}
use mathlib.Core.Path.{◌≡◌, sym, ◌∙◌}
use mathlib.Core.Bool.{true, false}
use native.Mathlib.Omega.{arith}
use lib.Dec.{leb}
use mathlib.Core.Logic.{⊎_elim}
use borrow.Author.Tests.{leb-true, leb-false, le-leb, lt-leb}
use Rattle.laws.proofs.Bools.{flag}
use Rattle.point.proofs.counts_fit.Goals as goal

by-diff : (x y : ℕ) → x < 2 ^ 64 → leb y (18446744073709551615 - x) ≡ leb (x + y) 18446744073709551615
by-diff x y h =
    ⊎_elim
    (λ (t : leb y (18446744073709551615 - x) ≡ true). t ∙ sym (le-leb (x + y) 18446744073709551615 (omega (arith, leb-true y (18446744073709551615 - x) t))))
    (λ (t : leb y (18446744073709551615 - x) ≡ false). t ∙ sym (lt-leb (x + y) 18446744073709551615 (omega (arith, leb-false y (18446744073709551615 - x) t))))
    (flag (leb y (18446744073709551615 - x)))

pub returns : goal.returns
returns c =
    by-diff c.count_in-x.result c.count_in-y.result (omega (arith, c))
    ∙ (λ j. leb (c.count_in-x.ensures j + c.count_in-y.ensures j) 18446744073709551615)
