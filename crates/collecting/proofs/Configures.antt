-- Configuring, by what its calls answer. Assumes nothing.
use Prim.Native.Nat.{ℕ}
use mathlib.Core.Path.{◌≡◌, refl, ap, ◌∙◌}
use mathlib.Core.List.{List}
use mathlib.Core.Option.{Option}
use Rattle.laws.specs.Said.{Said, refusal, success, number}
use Rattle.laws.proofs.Answers.{value_in}
use Rattle.tally.specs.Kind.{Kind}
use Rattle.directory.specs.View.{Stores}
use Rattle.directory.specs.declared.Directory.{Directory}
use Rattle.bindings.specs.Calls as Bindings
use Rattle.bindings.specs.declared.Reply.{Reply}
use Rattle.refusals.specs.declared.Refusal.{Refusal}
use Rattle.value_map.specs.Store.{Store}
use Rattle.value_map.specs.Calls.{Outcome, gave, started}
use Rattle.value_map.proofs.Cases.{refusal-no-success}
use Rattle.collecting.specs.Configured.{configuring, set_up, configured_as}

pub configured-is : {K : Kind} (S : Store K) {T : Type 0} (t : Directory → T) (limit : ℕ) (filter : Option (List ℕ)) (s : Stores) (c : S.Cells) (b : Reply Refusal) (after : Stores) (a : Said T)
    → gave b after c ≡ started S limit filter s c → a ≡ set_up (t b.dir) (Bindings.said b.answer) → configuring a after ≡ configured_as S t limit filter s c
configured-is S t limit filter s c b after a e q =
    (λ i. record { answer = q i; stores = after })
    ∙ ap (λ (o : Outcome S.Cells). record { answer = set_up (t o.held.kept.dir) o.answer; stores = o.held.kept.stores }) e

-- what was handed out is what the settings say, and the start was accepted
pub set-up-taken : {T : Type 0} (t u : T) (a : Said (Option ℕ)) → set_up t a ≡ success u → (number a ≡ 0) × (t ≡ u)
set-up-taken t u (refusal n) e = refusal-no-success n u e
set-up-taken t u (success b) e = (refl, ap (value_in t) e)
