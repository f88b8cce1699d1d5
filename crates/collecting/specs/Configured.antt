-- What configuring makes of a map, for any kind's store: what it says and leaves. T is what is handed out, the kind's settings with the
-- map's state. Assumes nothing.
use Rattle.std.specs.Prelude.{ℕ, List}
use Rattle.std.proofs.Math.Option.{Option}
use Rattle.laws.specs.Said.{Said, refusal, success}
use Rattle.tally.specs.Kind.{Kind}
use Rattle.directory.specs.View.{Stores}
use Rattle.directory.specs.declared.Directory.{Directory}
use Rattle.value_map.specs.Store.{Store}
use Rattle.value_map.specs.Calls.{started}

-- what configuring says, and the directory's stores after it
pub record Configuring (T : Type 0) : Type 0 where
  pub answer : Said T
  pub stores : Stores

-- as a contract writes it
abbrev pub configuring : {T : Type 0} → Said T → Stores → Configuring T
configuring a s = record { answer = a; stores = s }

-- what is handed out where the start was accepted; a refusal hands out no state
abbrev pub set_up : {T : Type 0} → T → Said (Option ℕ) → Said T
set_up t (refusal n) = refusal n
set_up t (success b) = success t

-- "Configuring: 1, 2, 3, 4, 12": the start of a map, and what is handed out of its state
abbrev pub configured_as : {K : Kind} (S : Store K) {T : Type 0} → (Directory → T) → ℕ → Option (List ℕ) → Stores → S.Cells → Configuring T
configured_as S t limit filter s c =
    let o = started S limit filter s c in record { answer = set_up (t o.held.kept.dir) o.answer; stores = o.held.kept.stores }
