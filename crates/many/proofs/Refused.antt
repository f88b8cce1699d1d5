-- An answer that is no refusal has the number 0. Assumes nothing.
use Rattle.std.specs.Prelude.{◌≡◌, Result, Ok, Err}
use mathlib.Core.Path.{refl}
use Rattle.refusals.specs.declared.Refusal.{Refusal}
use Rattle.refusals.specs.Refusals.{code}

pub not-refused : {A : Type 0} (r : Result A Refusal) → ((e : Refusal) → r ≡ Err e → ⊥) → code r ≡ 0
not-refused (Ok a) n = refl
not-refused (Err e) n = absurd (n e refl)
