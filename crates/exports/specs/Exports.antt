-- BETWEEN OUR OWN CRATES: serves inner contracts and proofs; nobody needs it to believe the public calls or the theorems.
-- What `record_all` leaves: the values, up to a million, recorded one after another into a fresh series over the lent rows. Assumes nothing.
use Rattle.std.specs.Prelude.{ℕ, List, take, Float}
use Rattle.exponential.specs.Inner.{Series, run_all}
use Rattle.exponential.specs.Runs.{fresh_head}

unfoldable pub recorded : ℕ → ℕ → List ℕ → List ℕ → List Float → Series
recorded size top pos neg values = run_all size top (record { head = fresh_head top; pos = pos; neg = neg }) (take 1000000 values)
