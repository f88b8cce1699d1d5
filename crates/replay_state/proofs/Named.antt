-- A fault keeps its number: the fault that has a number has that number (`number-kept`), and the fault that has a refusal's number is that
-- refusal (`named`): laws for whoever reads a state. Assumes nothing.
use Prim.Native.Nat.{ℕ, zero, suc, ◌+◌, ◌≤◌, ◌<◌}
use mathlib.Core.Path.{◌≡◌, refl, sym, ap, ◌∙◌}
use mathlib.Core.Logic.{⊎_elim}
use mathlib.Core.Bool.{Bool, true, false, ◌&&◌}
use mathlib.Core.List.{List, [], ◌∷◌}
use native.Mathlib.Omega.{arith}
use borrow.Author.Tests.{eq-eqb, ne_eqb, eqb-true}
use lib.Dec.{eqb}
use lib.ListN.{length, get_or}
use Rattle.std.specs.Prelude.{Err}
use Rattle.std.proofs.lemmas.List.{get_or_past}
use Rattle.laws.specs.Pick.{pick}
use Rattle.laws.proofs.Bools.{flag, and_left, and_right, pick_true, pick-false}
use Rattle.laws.proofs.Differences.{le_or-lt}
use Rattle.refusals.specs.declared.Refusal.{Refusal}
use Rattle.refusals.specs.declared.Refusal.TheVariants as V
use Rattle.refusals.specs.Refusals.{number}
use Rattle.replay_state.specs.declared.Fault.{Fault}
use Rattle.replay_state.specs.declared.Fault.TheVariants.{Unread, Refused, Other}
use Rattle.replay_state.specs.After.{first_faults, fault_of, fault_number, accepted, refused}

-- ---- the number of a fault that has one

-- the faults have the numbers k, k + 1, ..
abbrev counts : ℕ → List Fault → Bool
counts k [] = true
counts k (x ∷ xs) = eqb (fault_number x) k && counts (suc k) xs

counted : (k : ℕ) (xs : List Fault) (i : ℕ) (d : Fault) → counts k xs ≡ true → i < length xs → fault_number (get_or xs i d) ≡ k + i
counted k [] i d c l = absurd (omega arith)
counted k (x ∷ xs) zero d c l =
    let e = eqb-true (fault_number x) k (and_left (eqb (fault_number x) k) (counts (suc k) xs) c) in omega (arith, e)
counted k (x ∷ xs) (suc i) d c l =
    let e = counted (suc k) xs i d (and_right (eqb (fault_number x) k) (counts (suc k) xs) c) (omega arith) in omega (arith, e)

-- of a number that no refusal has
abbrev beyond : ℕ → Fault
beyond n = pick (eqb n 255) Unread (Other n)

beyond-kept : (n : ℕ) → fault_number (beyond n) ≡ n
beyond-kept n =
    ⊎_elim
    (λ (e : eqb n 255 ≡ true). ap fault_number (pick_true _ _ _ e) ∙ sym (eqb-true n 255 e))
    (λ (e : eqb n 255 ≡ false). ap fault_number (pick-false _ _ _ e))
    (flag (eqb n 255))

past : (n : ℕ) → 16 < n → fault_of n ≡ beyond n
past n l = get_or_past first_faults n (beyond n) l

pub number-kept : (n : ℕ) → fault_number (fault_of n) ≡ n
number-kept n =
    ⊎_elim
    (λ (l : n ≤ 16). let e = counted 0 first_faults n (beyond n) refl (omega (arith, l)) in omega (arith, e))
    (λ (l : 16 < n). ap fault_number (past n l) ∙ beyond-kept n)
    (le_or-lt n 16)

-- ---- the fault that has a number

pub unread-named : (n : ℕ) → n ≡ 255 → fault_of n ≡ Unread
unread-named n e = past n (omega (arith, e)) ∙ pick_true _ _ _ (eq-eqb n 255 e)

pub zero-named : (n : ℕ) → n ≡ 0 → fault_of n ≡ Other n
zero-named n e = ap fault_of e ∙ ap Other (sym e)

pub other-named : (n : ℕ) → 16 < n → (n ≡ 255 → ⊥) → fault_of n ≡ Other n
other-named n l d = past n l ∙ pick-false _ _ _ (ne_eqb n 255 d)

pub named : (e : Refusal) → fault_of (number e) ≡ Refused e
named V.MaxSize = refl
named V.MaxScale = refl
named V.Bounds = refl
named V.Limit = refl
named V.Attributes = refl
named V.NotFinite = refl
named V.NoHandle = refl
named V.Disagrees = refl
named V.Full = refl
named V.NoRoom = refl
named V.Unlike = refl
named V.LentShort = refl
named V.NoValues = refl
named V.OffGrid = refl
named V.NotASheet = refl
named V.SumOutside = refl

-- ---- what a line comes to

pub accepts : (n : ℕ) → n ≡ 0 → refused n ≡ accepted
accepts n e = pick_true _ _ _ (eq-eqb n 0 e)

pub fails : (n : ℕ) → (n ≡ 0 → ⊥) → refused n ≡ Err (fault_of n)
fails n d = pick-false _ _ _ (ne_eqb n 0 d)
