-- Sums and last values: demand 3's first part, from configuring that was accepted. Assumes nothing.
use Prim.Native.Nat.{ℕ}
use mathlib.Core.Path.{◌≡◌, ap, sym, subst}
use mathlib.Core.List.{List}
use mathlib.Core.Option.{Option}
use lib.Ieee.{Float}
use Rattle.laws.specs.Said.{success, number}
use Rattle.tally.proofs.Demand.{demand}
use Rattle.directory.specs.View.{Stores}
use Rattle.value_map.specs.Calls.{Outcome, held, started}
use Rattle.value_map.specs.Maps.{config_of}
use Rattle.collecting.proofs.Configures.{set-up-taken}
use Rattle.singles.specs.Kinds.{singles}
use Rattle.singles.specs.Stores.{single_store}
use Rattle.singles.specs.Points.{single_lister}
use Rattle.singles.specs.Configured.{configured}
use Rattle.singles.specs.declared.Aggregation.{Aggregation}
use Rattle.singles.specs.declared.Settings.{Settings}
use Rattle.singles.specs.declared.Setup.{Setup}
use Rattle.singles.proofs.Owes.{owed}
use Rattle.singles.proofs.Lawful.{lawful, steady}
use Rattle.singles.proofs.Lists.{lists}
use Rattle.promises.specs.Promises.{PromisedAnswers, SinglesDemand}
use Rattle.promises.specs.Runs.{run}
use Rattle.promises.proofs.Runs.{Keeps, faithful, runs}
use Rattle.promises.proofs.Cumulates.{cumulates}
use Rattle.promises.proofs.Owned.{owns}

-- every store of f64s can be lent
keeps : (a : Aggregation) → Keeps (single_lister a)
keeps a c x u v f l = tt

module _ (a : Aggregation) (limit : ℕ) (filter : Option (List ℕ)) (s : Stores) (x : List Float) where
  abbrev begins : Outcome (List Float)
  begins = started (single_store a) limit filter s x

  promised : number begins.answer ≡ 0 → PromisedAnswers (single_lister a) tt limit filter begins.held
  promised zero =
      let L = single_lister a in
      record {
        demand = λ xs p.
            demand (singles a) (lawful a) (config_of (single_store a) tt limit filter) (run L tt limit filter begins.held)
            (faithful (owed a) L (keeps a) tt (lists a) limit filter s x tt zero) xs p;
        told = runs (owed a) L (keeps a) tt (lists a) (lawful a) (steady a) limit filter s x tt zero;
        cumulative = cumulates (owed a) L (keeps a) tt (lists a) (steady a) limit filter s x tt zero;
        owned = owns (owed a) L (keeps a) tt (lists a) (steady a) limit filter s x tt zero;
      }

  abbrev asked : Settings
  asked = record { aggregation = a; limit = limit }

  set-up : (u : Setup) → (configured a limit filter s x).answer ≡ success u → (number begins.answer ≡ 0) × (record { settings = asked; dir = begins.held.kept.dir } ≡ u)
  unfolding configured
  set-up u e = set-up-taken (record { settings = asked; dir = begins.held.kept.dir }) u begins.answer e

pub singles-demand : SinglesDemand
unfolding configured started
singles-demand a limit filter s x u e =
    let o = started (single_store a) limit filter s x in
    let p = set-up a limit filter s x u e in (
      sym (ap (λ (t : Setup). t.settings) p.1),
      subst (λ (t : Setup). PromisedAnswers (single_lister a) tt limit filter (held t.dir o.held.kept.stores x)) p.1 (promised a limit filter s x p.0),
    )
