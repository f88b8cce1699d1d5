-- BETWEEN OUR OWN CRATES: serves inner contracts and proofs; nobody needs it to believe the public calls or the theorems.
-- A Result in document 01's words, over any error that has a number. At a Refusal they are `code` and `said` of refusals/specs/Refusals (the
-- laws `same-code`, `same-said`). Assumes nothing.
use Rattle.std.specs.Prelude.{ℕ, Result, Ok, Err}
use Rattle.laws.specs.Said.{Said, refusal, success}

-- "Success is 0 with the result": the number of an answer; where no error has the number 0, it is 0 where nothing was refused
abbrev pub code_by : {A E : Type 0} → (E → ℕ) → Result A E → ℕ
code_by number_of (Ok a) = 0
code_by number_of (Err e) = number_of e

-- an answer in document 01's words
abbrev pub said_by : {A E : Type 0} → (E → ℕ) → Result A E → Said A
said_by number_of (Ok a) = success a
said_by number_of (Err e) = refusal (number_of e)
