-- The calls of a run, collections among them, are faithful code, for any kind's store and points in lent output that pay what they owe: so what is
-- told of faithful code holds of every run. Assumes nothing.
use Prim.Native.Nat.{ℕ}
use mathlib.Core.Path.{◌≡◌, refl, sym, ap, subst, ◌∙◌}
use mathlib.Core.Bool.{Bool, true, false, ◌&&◌}
use mathlib.Core.List.{List}
use mathlib.Core.Option.{Option}
use native.Mathlib.Omega.{arith}
use borrow.Author.Tests.{eqb-true, eqb-false}
use lib.Dec.{leb, eqb}
use lib.ListN.{length, replicate}
use Rattle.laws.specs.Pick.{pick}
use Rattle.laws.specs.Said.{refusal, number}
use Rattle.tally.specs.Sets.{Set}
use Rattle.tally.specs.Kind.{Kind}
use Rattle.tally.specs.Map.{Config}
use Rattle.tally.proofs.MapSteps.{step}
use Rattle.tally.proofs.Faithful.{Faithful}
use Rattle.tally.proofs.Lawful.{Lawful}
use Rattle.tally.specs.Runs.{Tells}
use Rattle.tally.proofs.Sound.{Steady}
use Rattle.tally.proofs.Tells.{tells}
use Rattle.directory.specs.View.{Stores}
use Rattle.directory.specs.Calls.{most_sets, stores_suffice, accepts}
use Rattle.directory.proofs.Refusals.{within}
use Rattle.bindings.specs.Calls as Bindings
use Rattle.bindings.specs.Calls.{fresh}
use Rattle.bindings.proofs.Keeps.{bind-steps, release-steps, start-map}
use Rattle.bindings.proofs.Refusals as Refusals
use Rattle.bindings.proofs.Runs as moves
use Rattle.bindings.proofs.Runs.{move-good, start-good}
use Rattle.seats.proofs.Bars.{bar_6}
use Rattle.sweep.specs.Swept.{swept_kept}
use Rattle.value_map.specs.Store.{Store}
use Rattle.value_map.specs.Calls.{Held, Outcome, held, refused, passes, lent, measured, measured_by, started}
use Rattle.value_map.specs.Maps.{map_of, config_of}
use Rattle.value_map.proofs.Owed.{Fit, Owed}
use Rattle.value_map.proofs.Cases.{lent-cells, set-seatable, by-seatable, called-barred, start-unset, start_4, start_12, start-on}
use Rattle.value_map.proofs.Steps.{Fair, row_in, seat_of, seat_by, set-either, handle-either, measure-steps, handle-steps}
use Rattle.value_map.proofs.Kept.{good, fair-on, measure-fair, handle-fair}
use Rattle.listing.specs.Listed.{Output}
use Rattle.collecting.specs.Lister.{Lister}
use Rattle.collecting.specs.Collected.{uncollected, delta_collected}
use Rattle.promises.specs.Runs.{Asked, recording, recording_by, binding, releasing, collecting, asks, ended, run}
use Rattle.collecting.proofs.Owed.{Lists}
use Rattle.collecting.proofs.Ends.{collected_on}
use Rattle.collecting.proofs.Steps.{delta-steps, delta-fair}

-- ---- WHAT A KIND OWES beside: a recording leaves cells that can be lent, if it was given such
abbrev pub Keeps : {K : Kind} {S : Store K} → Lister S → Type 0
Keeps {K} {S} L =
    (c : S.Cells) (x : ℕ) (u : Bool) (v : K.Value) → Fit S c x v → L.Lent c → L.Lent (S.recorded x u c v).cells

-- a state that agrees, in cells that can be lent
pub record Ready {K : Kind} {S : Store K} (L : Lister S) (limit : ℕ) (filter : Option (List ℕ)) (h : Held S.Cells) : Type 0 where
  pub fair : Fair S limit filter h
  pub lent : L.Lent h.cells

-- ---- RECORDING keeps them: a value that is not finite is refused, and a finite one is recorded at a slot that lies in the cells
module _ {K : Kind} {S : Store K} (W : Owed S) (L : Lister S) (keeps : Keeps L) (w : S.Switches) (limit : ℕ) (filter : Option (List ℕ)) (h : Held S.Cells) (r : Ready L limit filter h)
    (v : K.Value) where
  abbrev Left : Outcome S.Cells → Type 0
  Left o = L.Lent o.held.cells

  measure-lent : (attrs : Set) → Left (measured S limit filter h v attrs)
  unfolding measured
  measure-lent attrs = go (K.finite v) refl
    where
      go : (b : Bool) → K.finite v ≡ b → Left (measured S limit filter h v attrs)
      go true f =
          set-either W w limit filter h r.fair v attrs Left (λ n. r.lent)
          (λ few n t.
          let a = seat_of limit filter h attrs in
          let sits = set-seatable W limit h r.fair.lent_is filter r.fair.accepted (row_in filter attrs) a refl in
          keeps h.cells a.slot a.updated v (record { set = r.fair.set; room = (sits n).0; value = f }) r.lent)
      go false f =
          let ok = accepts limit filter in
          let b = bar_6 (lent S limit h) (K.finite v) (length attrs) (passes S && ok) r.fair.lent_is f in
          subst Left (called-barred S limit h v (length attrs) ok (row_in filter attrs) (seat_of limit filter h attrs) 6 (sym b) (λ e. omega (arith, e))) r.lent

  handle-lent : (b : ℕ) → Left (measured_by S limit h v b)
  unfolding measured_by
  handle-lent i = go (K.finite v) refl
    where
      go : (b : Bool) → K.finite v ≡ b → Left (measured_by S limit h v i)
      go true f =
          handle-either W w limit filter h r.fair v i Left (λ n. r.lent)
          (λ n t.
          let a = seat_by limit h i in
          let sits = by-seatable W limit h r.fair.lent_is i a refl in
          keeps h.cells a.slot a.updated v (record { set = r.fair.set; room = (sits n).0; value = f }) r.lent)
      go false f =
          let ok = leb limit most_sets in
          let b = bar_6 (lent S limit h) (K.finite v) 0 (passes S && ok) r.fair.lent_is f in
          subst Left (called-barred S limit h v 0 ok (replicate 9 0) (seat_by limit h i) 6 (sym b) (λ e. omega (arith, e))) r.lent

-- a collection writes no cell
module _ {K : Kind} {S : Store K} (L : Lister S) (w : S.Switches) (limit : ℕ) (h : Held S.Cells) (o : Output) where
  delta-cells : (delta_collected L w limit h o).held.cells ≡ h.cells
  unfolding delta_collected pick
  delta-cells = go (eqb (uncollected L w false limit h o) 0)
    where
      go : (b : Bool) → (pick b (collected_on L w limit h o false (swept_kept h.kept)) (record { answer = refusal (uncollected L w false limit h o); held = h; out = o })).held.cells ≡ h.cells
      go true = refl
      go false = refl

-- ---- EACH CALL is the map's step, and leaves a state that agrees
module _ {K : Kind} {S : Store K} (W : Owed S) (L : Lister S) (keeps : Keeps L) (w : S.Switches) (Q : Lists L w) (limit : ℕ) (filter : Option (List ℕ)) (a : accepts limit filter ≡ true) where
  abbrev c : Config K
  c = config_of S w limit filter

  delta-lent : (h : Held S.Cells) → Ready L limit filter h → (o : Output) → L.Lent (delta_collected L w limit h o).held.cells
  delta-lent h r o = subst L.Lent (sym (delta-cells L w limit h o)) r.lent

  pub does : (h : Held S.Cells) (x : Asked K) → Ready L limit filter h
      → Ready L limit filter (ended L w limit filter h x).1
      × (record { answer = (ended L w limit filter h x).0; map = map_of S w (ended L w limit filter h x).1 } ≡ step K c (map_of S w h) (asks K x))
  does h (recording v attrs small) r = (
    record { fair = measure-fair W w limit filter h r.fair v attrs small; lent = measure-lent W L keeps w limit filter h r v attrs },
    sym (measure-steps W w limit filter h r.fair v attrs small),
  )
  does h (recording_by b v) r = (
    record { fair = handle-fair W w limit filter h r.fair v b; lent = handle-lent W L keeps w limit filter h r v b },
    sym (handle-steps W w limit filter h r.fair v b),
  )
  does h (binding attrs small) r =
      let k = h.kept in
      let g = r.fair in
      let q = good W w limit filter h g in
      let p = bind-steps K (S.at h.cells) (S.settings w) c k.dir k.stores q.agrees q.lent attrs small q.last a in (
        record { fair = fair-on W w limit filter h g _ (move-good limit filter a k q (moves.binding attrs small)) h.cells (lent-cells W limit h g.lent_is); lent = r.lent },
        λ i. record { answer = p.0 i; map = p.1 i },
      )
  does h (releasing b) r =
      let k = h.kept in
      let g = r.fair in
      let q = good W w limit filter h g in
      let p = release-steps K (S.at h.cells) (S.settings w) c k.dir k.stores q.agrees q.lent b (within limit filter a) in (
        record { fair = fair-on W w limit filter h g _ (move-good limit filter a k q (moves.releasing b)) h.cells (lent-cells W limit h g.lent_is); lent = r.lent },
        λ i. record { answer = p.0 i; map = p.1 i },
      )
  does h (collecting o) r =
      (record { fair = delta-fair W L w Q limit filter h r.fair o; lent = delta-lent h r o }, sym (delta-steps W L w Q limit filter h r.fair r.lent o))

-- ---- THE START: configuring that was answered 0 had nothing to refuse
module _ {K : Kind} (S : Store K) (limit : ℕ) (filter : Option (List ℕ)) (s : Stores) (x : S.Cells) (zero : number (started S limit filter s x).answer ≡ 0) where
  pub record Begun : Type 0 where
    pub set : S.unset ≡ 0
    pub accepted : accepts limit filter ≡ true
    pub cells : S.suffices limit x ≡ true
    pub stores : stores_suffice limit s ≡ true

  none-refused : (n : ℕ) → (n ≡ 0 → ⊥) → (h : Held S.Cells) → refused n h ≡ started S limit filter s x → ⊥
  none-refused n d h q = d (ap (λ (o : Outcome S.Cells). number o.answer) q ∙ zero)

  pub begun : Begun
  begun = go (eqb S.unset 0) refl (accepts limit filter) refl (S.suffices limit x) refl (stores_suffice limit s) refl
    where
      go : (u : Bool) → eqb S.unset 0 ≡ u → (a : Bool) → accepts limit filter ≡ a → (l : Bool) → S.suffices limit x ≡ l → (n : Bool) → stores_suffice limit s ≡ n → Begun
      go false p a q l r n t =
          let d = eqb-false S.unset 0 p in
          absurd (none-refused S.unset d (held fresh s x) (start-unset S limit filter s x d))
      go true p false q l r n t = absurd (none-refused 4 (λ e. omega (arith, e)) (held fresh s x) (start_4 S limit filter s x (eqb-true S.unset 0 p) q))
      go true p true q false r n t = absurd (none-refused 12 (λ e. omega (arith, e)) (held fresh s x) (start_12 S limit filter s x (eqb-true S.unset 0 p) q r))
      go true p true q true r false t =
          absurd (none-refused 12 (λ e. omega (arith, e)) (held fresh s x)
          (start-on S limit filter s x (eqb-true S.unset 0 p) q r (Bindings.refused 12 fresh s) (sym (Refusals.start_12 limit filter s q t))))
      go true p true q true r true t = record { set = eqb-true S.unset 0 p; accepted = q; cells = r; stores = t }

  -- what configuring left
  pub left_is : record { kept = (Bindings.started limit filter s).kept; cells = x } ≡ (started S limit filter s x).held
  left_is =
      let q = start-on S limit filter s x begun.set begun.accepted begun.cells (Bindings.started limit filter s) in
      ap (λ (o : Outcome S.Cells). o.held) (q refl)

-- ---- EVERY RUN
module _ {K : Kind} {S : Store K} (L : Lister S) (limit : ℕ) (filter : Option (List ℕ)) (s : Stores) (x : S.Cells) (l : L.Lent x) (zero : number (started S limit filter s x).answer ≡ 0) where
  -- it starts in a state that agrees
  pub ready : Ready L limit filter (started S limit filter s x).held
  ready =
      let b = begun S limit filter s x zero in
      let q = start-good limit filter b.accepted s b.stores in
      subst (Ready L limit filter) (left_is S limit filter s x zero)
      (record { fair = record { agrees = q.agrees; lent_is = rw q.lent b.cells; last = q.last; set = b.set; accepted = b.accepted }; lent = l })

module _ {K : Kind} {S : Store K} (W : Owed S) (L : Lister S) (keeps : Keeps L) (w : S.Switches) (Q : Lists L w) where
  unfoldable pub faithful : (limit : ℕ) (filter : Option (List ℕ)) (s : Stores) (x : S.Cells) → L.Lent x → number (started S limit filter s x).answer ≡ 0
      → Faithful K (config_of S w limit filter) (run L w limit filter (started S limit filter s x).held)
  faithful limit filter s x l zero =
      let b = begun S limit filter s x zero in
      let e = left_is S limit filter s x zero in
      record {
        Ok = Ready L limit filter;
        view = map_of S w;
        steps = λ h y g q. does W L keeps w Q limit filter b.accepted h y g;
        ok = ready L limit filter s x l zero;
        fresh = ap (map_of S w) (sym e) ∙ start-map limit filter s b.accepted b.stores K (S.at x) (S.settings w);
        valid = W.valid b.set w;
      }

  pub runs : Lawful K → Steady K → (limit : ℕ) (filter : Option (List ℕ)) (s : Stores) (x : S.Cells) → L.Lent x → number (started S limit filter s x).answer ≡ 0
      → Tells K (config_of S w limit filter) (run L w limit filter (started S limit filter s x).held) (map_of S w)
  unfolding faithful
  runs law steady limit filter s x l zero =
      tells K law steady (config_of S w limit filter) (run L w limit filter (started S limit filter s x).held) (faithful limit filter s x l zero)
