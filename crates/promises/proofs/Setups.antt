-- Configuring that is accepted hands out the settings that were asked, and the state of a fresh map, of which all that is promised holds: of both
-- histogram kinds, over f64 and over i64. Assumes nothing.
use Prim.Native.Nat.{ℕ}
use mathlib.Core.Path.{◌≡◌, ap, sym, subst}
use mathlib.Core.Bool.{Bool}
use mathlib.Core.List.{List, []}
use mathlib.Core.Option.{Option}
use lib.Ieee.{Float}
use Rattle.laws.specs.Said.{success}
use Rattle.points.specs.Number.{Number}
use Rattle.directory.specs.View.{Stores}
use Rattle.directory.specs.declared.Directory.{Directory}
use Rattle.value_map.specs.Store.{Store}
use Rattle.value_map.specs.Calls.{held, started}
use Rattle.value_map.proofs.Owed.{Owed}
use Rattle.value_map.proofs.ExponentialOwes as ExponentialOwes
use Rattle.value_map.proofs.ExplicitOwes as ExplicitOwes
use Rattle.whole_map.proofs.ExponentialOwes as ExponentialWholesOwe
use Rattle.whole_map.proofs.ExplicitOwes as ExplicitWholesOwe
use Rattle.collecting.specs.Lister.{Lister}
use Rattle.collecting.specs.Configured.{configured_as}
use Rattle.collecting.proofs.Owed.{Lists}
use Rattle.collecting.proofs.Configures.{set-up-taken}
use Rattle.exponential_collection.specs.Points.{exponential_lister}
use Rattle.exponential_collection.specs.Configured as Exponential
use Rattle.exponential_collection.specs.Configured.{top_of, setup_of}
use Rattle.exponential_collection.specs.declared.Setup as ExponentialSetup
use Rattle.exponential_collection.proofs.Lists.{exponential-lists}
use Rattle.explicit_collection.specs.Points.{explicit_lister}
use Rattle.explicit_collection.specs.Configured as Explicit
use Rattle.explicit_collection.specs.declared.Setup as ExplicitSetup
use Rattle.exponential_whole_collection.specs.Points.{exponential_whole_lister}
use Rattle.exponential_whole_collection.specs.Configured as ExponentialWholes
use Rattle.exponential_whole_collection.proofs.Lists.{exponential-whole-lists}
use Rattle.explicit_whole_collection.specs.Points.{explicit_whole_lister}
use Rattle.explicit_whole_collection.specs.Configured as ExplicitWholes
use Rattle.explicit_whole_collection.proofs.Lists.{explicit-whole-lists}
use Rattle.promises.specs.Numbers.{InRuns, kind_of, reals, wholes}
use Rattle.promises.specs.Promises.{PromisedWhole, ExponentialDemand, ExplicitDemand, ExponentialWholesDemand, ExplicitWholesDemand}
use Rattle.promises.proofs.Numbers.{Owes, real_owes, whole_owes}
use Rattle.promises.proofs.Runs.{Keeps}
use Rattle.promises.proofs.Stored.{Storing}
use Rattle.promises.proofs.Demanded.{promised}
use Rattle.promises.proofs.Exponential as ExponentialPays
use Rattle.promises.proofs.Explicit as ExplicitPays
use Rattle.promises.proofs.Wholes as WholesPay

module _ {N : Number} (P : InRuns N) (A : Owes P) {S : Store (kind_of P)} (W : Owed S) (L : Lister S) (keeps : Keeps L) (bounds : List Float) (T : Storing P L bounds)
    (w : S.Switches) (Q : Lists L w) where
  set-up : {U : Type 0} (make : Directory → U) (limit : ℕ) (filter : Option (List ℕ)) (s : Stores) (x : S.Cells) (u : U) → L.Lent x
      → (configured_as S make limit filter s x).answer ≡ success u
      → (d : Directory) × (make d ≡ u) × PromisedWhole P L bounds w limit filter (held d (configured_as S make limit filter s x).stores x)
  unfolding started
  set-up make limit filter s x u l e =
      let o = started S limit filter s x in
      let p = set-up-taken (make o.held.kept.dir) u o.answer e in
      (o.held.kept.dir, p.1, promised P A W L keeps bounds T w Q limit filter s x l p.0)

-- ---- f64
pub exponential-demand : ExponentialDemand
unfolding Exponential.configured
exponential-demand size scale extremes sums limit filter s x u l e =
    let top = top_of scale in
    let L = exponential_lister size top in
    let w : Bool × Bool = (extremes, sums) in
    let r = set-up reals real_owes (ExponentialOwes.owed size top) L (ExponentialPays.keeps size top) [] (ExponentialPays.storing size top) w (exponential-lists size top w) (setup_of size top extremes sums limit) limit filter s x u l e in (
      sym (ap (λ (t : ExponentialSetup.Setup). t.settings) r.1),
      subst (λ (t : ExponentialSetup.Setup). PromisedWhole reals L [] w limit filter (held t.dir (Exponential.configured size scale extremes sums limit filter s x).stores x)) r.1 r.2,
    )

pub explicit-demand : ExplicitDemand
unfolding Explicit.configured
explicit-demand bounds extremes sums limit filter s x u l e =
    let L = explicit_lister bounds in
    let w : Bool × Bool = (extremes, sums) in
    let make : Directory → ExplicitSetup.Setup = λ d. record { settings = record { extremes = extremes; sums = sums; limit = limit }; dir = d } in
    let r = set-up reals real_owes (ExplicitOwes.owed bounds) L (ExplicitPays.keeps bounds) bounds (ExplicitPays.storing bounds) w (ExplicitPays.lists bounds extremes sums) make limit filter s x u l e in (
      sym (ap (λ (t : ExplicitSetup.Setup). t.settings) r.1),
      subst (λ (t : ExplicitSetup.Setup). PromisedWhole reals L bounds w limit filter (held t.dir (Explicit.configured bounds extremes sums limit filter s x).stores x)) r.1 r.2,
    )

-- ---- i64
pub exponential-wholes-demand : ExponentialWholesDemand
unfolding ExponentialWholes.configured
exponential-wholes-demand size scale extremes sums limit filter s x u l e =
    let top = top_of scale in
    let L = exponential_whole_lister size top sums in
    let r = set-up wholes whole_owes (ExponentialWholesOwe.owed size top sums) L (WholesPay.exponential-keeps size top sums) [] (WholesPay.exponential-storing size top sums) extremes (exponential-whole-lists size top sums extremes) (setup_of size top extremes sums limit) limit filter s x u l e in (
      sym (ap (λ (t : ExponentialSetup.Setup). t.settings) r.1),
      subst (λ (t : ExponentialSetup.Setup). PromisedWhole wholes L [] extremes limit filter (held t.dir (ExponentialWholes.configured size scale extremes sums limit filter s x).stores x)) r.1 r.2,
    )

pub explicit-wholes-demand : ExplicitWholesDemand
unfolding ExplicitWholes.configured
explicit-wholes-demand bounds extremes sums limit filter s x u l e =
    let L = explicit_whole_lister bounds sums in
    let make : Directory → ExplicitSetup.Setup = λ d. record { settings = record { extremes = extremes; sums = sums; limit = limit }; dir = d } in
    let r = set-up wholes whole_owes (ExplicitWholesOwe.owed bounds sums) L (WholesPay.explicit-keeps bounds sums) bounds (WholesPay.explicit-storing bounds sums) extremes (explicit-whole-lists bounds sums extremes) make limit filter s x u l e in (
      sym (ap (λ (t : ExplicitSetup.Setup). t.settings) r.1),
      subst (λ (t : ExplicitSetup.Setup). PromisedWhole wholes L bounds extremes limit filter (held t.dir (ExplicitWholes.configured bounds extremes sums limit filter s x).stores x)) r.1 r.2,
    )
