-- BETWEEN OUR OWN CRATES: serves inner contracts and proofs; nobody needs it to believe the public calls or the theorems.
-- What halving leaves of the whole store. Assumes nothing.
use Rattle.std.specs.Prelude.{ℕ, zero, suc, ◌/◌, List, length, take}
use Rattle.laws.specs.Over.{over}
use Rattle.halving.specs.Plain.{halved_once}

-- a row of n counts from bin s on, at the front of a store, d scales lower: each halved row laid over the one before, so that between the last one's
-- end and the first one's lies what is left of those in between
unfoldable pub plain_over : ℕ → ℕ → ℕ → List ℕ → List ℕ
plain_over zero s n xs = xs
plain_over (suc d) s n xs = plain_over d (s / 2) (length (halved_once s (take n xs))) (over (halved_once s (take n xs)) xs)
