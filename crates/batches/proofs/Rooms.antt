-- Cells that suffice have room for as many slots as a limit asks for. Assumes nothing.
use Prim.Native.Nat.{ℕ, ◌+◌, ◌≤◌}
use mathlib.Core.Path.{◌≡◌, ap, sym, ◌∙◌}
use mathlib.Core.Logic.{⊎_elim}
use mathlib.Core.Bool.{Bool, true, false}
use native.Mathlib.Omega.{arith}
use lib.Dec.{leb}
use borrow.Author.Tests.{le-leb, lt-leb}
use Rattle.laws.specs.Pick.{pick}
use Rattle.laws.proofs.Bools.{flag, pick_true, pick-false}

-- n is what `room::slots_if` answers
pub room_for : (limit : ℕ) (b : Bool) (n : ℕ) → n ≡ pick b 18446744073709551615 0 → (b ≡ true → limit + 2 ≤ 18446744073709551615) → leb (limit + 2) n ≡ b
room_for limit b n e h =
    ⊎_elim
    (λ (t : b ≡ true). ap (leb (limit + 2)) (e ∙ pick_true b 18446744073709551615 0 t) ∙ le-leb (limit + 2) 18446744073709551615 (h t) ∙ sym t)
    (λ (t : b ≡ false). ap (leb (limit + 2)) (e ∙ pick-false b 18446744073709551615 0 t) ∙ lt-leb (limit + 2) 0 (omega arith) ∙ sym t)
    (flag b)
