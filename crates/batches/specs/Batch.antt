-- MANY VALUES IN ONE CALL, by one handle or into one set: the single calls one after another, up to the first that is refused. For any kind's
-- store. Assumes nothing.
use Rattle.std.specs.Prelude.{ℕ, List}
use Rattle.std.proofs.Math.Option.{Option}
use Rattle.laws.specs.Said.{number}
use Rattle.rows.specs.Recording.{Recording, after}
use Rattle.many.specs.Many.{Many, each}
use Rattle.tally.specs.Kind.{Kind}
use Rattle.tally.specs.Sets.{Set}
use Rattle.value_map.specs.Store.{Store}
use Rattle.value_map.specs.Calls.{Held, Outcome, measured, measured_by}

-- what a single call says: its number, and the map after it
abbrev pub one : {Cells : Type 0} → Outcome Cells → Recording (Held Cells)
one o = after (number o.answer) o.held

module _ {K : Kind} (S : Store K) where
  unfoldable pub measured_all_by : ℕ → Held S.Cells → List K.Value → ℕ → Many (Held S.Cells)
  measured_all_by limit h vs handle = each (λ m v. one (measured_by S limit m v handle)) h vs

  unfoldable pub measured_all : ℕ → Option (List ℕ) → Held S.Cells → List K.Value → Set → Many (Held S.Cells)
  measured_all limit filter h vs attrs = each (λ m v. one (measured S limit filter m v attrs)) h vs
