-- What configuring left is owned, every call keeps it, and an owned map gives each agreed call what it requires. Assumes nothing.
use Prim.Native.Nat.{ℕ}
use mathlib.Core.Path.{◌≡◌, refl, sym, ap, subst, ◌∙◌}
use mathlib.Core.List.{List, [], ◌∷◌, map}
use mathlib.Core.Option.{Option}
use lib.ListN.{take}
use Rattle.laws.specs.Said.{number}
use Rattle.rows.specs.Recording.{Recording}
use Rattle.tally.specs.Kind.{Kind}
use Rattle.tally.specs.Sets.{Set, Lendable}
use Rattle.tally.specs.Demand.{left}
use Rattle.tally.proofs.Sound.{Steady, Sound, steps_steadily}
use Rattle.laws.proofs.Cases.{and-true}
use Rattle.directory.specs.View.{Stores}
use Rattle.directory.specs.Calls.{stores_suffice}
use Rattle.bindings.specs.Agreed as Bindings
use Rattle.value_map.specs.Store.{Store}
use Rattle.value_map.specs.Calls.{Held, Outcome, started, measured, measured_by}
use Rattle.value_map.specs.Maps.{map_of, config_of}
use Rattle.value_map.proofs.Owed.{Owed}
use Rattle.value_map.proofs.Steps.{set-either, handle-either}
use Rattle.many.specs.Many.{Many, each}
use Rattle.many.proofs.Turns.{either, each_on, each-stop, each_none}
use Rattle.batches.specs.Batch.{one, measured_all, measured_all_by}
use Rattle.batches.specs.Owned.{Owned}
use Rattle.batches.proofs.Owned.{sound-map, fair-of, owned-of, owned_by, owned_for}
use Rattle.collecting.specs.Lister.{Lister}
use Rattle.collecting.proofs.Owed.{Lists}
use Rattle.collecting.proofs.Sure.{owned_unfiltered}
use Rattle.promises.specs.Runs.{Asked, recording, recording_by, asks, ended, run}
use Rattle.promises.specs.Owned.{Own, Flat, Owns}
use Rattle.promises.proofs.Runs.{Keeps, Ready, does, ready, faithful}

module _ {K : Kind} {S : Store K} (W : Owed S) (L : Lister S) (keeps : Keeps L) (w : S.Switches) (Q : Lists L w) (T : Steady K) (limit : ℕ) (filter : Option (List ℕ)) where
  -- an owned map is a state that agrees, and its series do
  ready_of : (h : Held S.Cells) → Own L w limit filter h → Ready L limit filter h
  ready_of h o = record { fair = fair-of S w limit filter h o.owned; lent = o.lent }

  own_of : (h : Held S.Cells) → Ready L limit filter h → Sound K (map_of S w h) → Own L w limit filter h
  own_of h r s = record { owned = owned-of S w limit filter h r.fair s; lent = r.lent }

  kept : (h : Held S.Cells) → Own L w limit filter h → (x : Asked K) → Own L w limit filter (ended L w limit filter h x).1
  kept h o x =
      let a = o.owned.agreed in
      let d = does W L keeps w Q limit filter a.accepted h x (ready_of h o) in
      let t = steps_steadily K T (map_of S w h) (W.valid a.set w) (sound-map S w limit filter h o.owned) (config_of S w limit filter) (asks K x) in
      own_of (ended L w limit filter h x).1 d.0 (subst (λ q. Sound K q.map) (sym d.1) t.sound)

  always : (f h : Held S.Cells) → Own L w limit filter h → (xs : List (Asked K)) → Own L w limit filter (left K (run L w limit filter f) h xs)
  always f h o [] = o
  always f h o (x ∷ xs) = always f (ended L w limit filter h x).1 (kept h o x) xs

  -- ---- batches

  module _ (f : Held S.Cells → K.Value → Recording (Held S.Cells)) (ask : K.Value → Asked K)
      (same : (h : Held S.Cells) (v : K.Value) → (f h v).cells ≡ (ended L w limit filter h (ask v)).1)
      (unmoved : (h : Held S.Cells) → Own L w limit filter h → (v : K.Value) → ((f h v).no ≡ 0 → ⊥) → (f h v).cells ≡ h) (first : Held S.Cells) where
    abbrev Says : Held S.Cells → Many (Held S.Cells) → List K.Value → Type 0
    Says h m vs = Own L w limit filter m.left × (m.left ≡ left K (run L w limit filter first) h (map ask (take m.taken vs)))

    flat : (vs : List K.Value) (h : Held S.Cells) → Own L w limit filter h → Says h (each f h vs) vs
    flat [] h o = subst (λ (m : Many (Held S.Cells)). Says h m []) (sym (each_none f h)) (o, refl)
    flat (v ∷ vs) h o =
        either (f h v).no
        (λ z.
        let i = flat vs (f h v).cells (subst (Own L w limit filter) (sym (same h v)) (kept h o (ask v))) in
        let xs = map ask (take (each f (f h v).cells vs).taken vs) in
        subst (λ (m : Many (Held S.Cells)). Says h m (v ∷ vs)) (sym (each_on f h v vs z))
        (i.0, i.1 ∙ ap (λ (e : Held S.Cells). left K (run L w limit filter first) e xs) (same h v)))
        (λ d.
        let e = unmoved h o v d in
        subst (λ (m : Many (Held S.Cells)). Says h m (v ∷ vs)) (sym (each-stop f h v vs d)) (subst (Own L w limit filter) (sym e) o, e))

  -- a recording that was refused left the map as it was
  set-unmoved : (attrs : Set) (h : Held S.Cells) → Own L w limit filter h → (v : K.Value)
      → (number (measured S limit filter h v attrs).answer ≡ 0 → ⊥) → (measured S limit filter h v attrs).held ≡ h
  set-unmoved attrs h o v =
      set-either W w limit filter h (ready_of h o).fair v attrs (λ (r : Outcome S.Cells). (number r.answer ≡ 0 → ⊥) → r.held ≡ h) (λ n d. refl) (λ few n t d. absurd (d refl))

  by-unmoved : (b : ℕ) (h : Held S.Cells) → Own L w limit filter h → (v : K.Value)
      → (number (measured_by S limit h v b).answer ≡ 0 → ⊥) → (measured_by S limit h v b).held ≡ h
  by-unmoved b h o v =
      handle-either W w limit filter h (ready_of h o).fair v b (λ (r : Outcome S.Cells). (number r.answer ≡ 0 → ⊥) → r.held ≡ h) (λ n d. refl) (λ n t d. absurd (d refl))

  all-by-set : (h : Held S.Cells) → Own L w limit filter h → (vs : List K.Value) (attrs : Set) (small : Lendable attrs)
      → let m = measured_all S limit filter h vs attrs in Own L w limit filter m.left × Flat L w limit filter h m vs (λ v. recording v attrs small)
  unfolding measured_all
  all-by-set h o vs attrs small =
      flat (λ m v. one (measured S limit filter m v attrs)) (λ v. recording v attrs small) (λ m v. refl) (set-unmoved attrs) h vs h o

  all-by-handle : (h : Held S.Cells) → Own L w limit filter h → (vs : List K.Value) (b : ℕ)
      → let m = measured_all_by S limit h vs b in Own L w limit filter m.left × Flat L w limit filter h m vs (recording_by b)
  unfolding measured_all_by
  all-by-handle h o vs b = flat (λ m v. one (measured_by S limit m v b)) (recording_by b) (λ m v. refl) (by-unmoved b) h vs h o

  -- ---- the start
  begun : (s : Stores) (x : S.Cells) → L.Lent x → number (started S limit filter s x).answer ≡ 0 → Own L w limit filter (started S limit filter s x).held
  unfolding faithful
  begun s x l zero =
      own_of (started S limit filter s x).held (ready L limit filter s x l zero) (subst (Sound K) (sym (faithful W L keeps w Q limit filter s x l zero).fresh) refl)

  -- what binding and releasing require
  bound : {g : Option (List ℕ)} (h : Held S.Cells) → Owned S w limit g h → Bindings.Agreed limit g h.kept.dir h.kept.stores
  bound h o =
      let a = o.agreed in
      record { agrees = a.agrees; lent = (and-true (stores_suffice limit h.kept.stores) (S.suffices limit h.cells) a.lent_is).0; accepted = a.accepted }

  -- ---- ALL OF IT
  pub owns : (s : Stores) (x : S.Cells) → L.Lent x → number (started S limit filter s x).answer ≡ 0 → Owns L w limit filter (started S limit filter s x).held
  owns s x l zero =
      let f = (started S limit filter s x).held in
      let b = begun s x l zero in
      record {
        begun = b;
        kept = kept;
        always = always f f b;
        by-set = λ h o. owned_for w limit filter h o.owned;
        by-handle = λ h o. owned_by w limit filter h o.owned;
        binds = λ h o. bound h o.owned;
        releases = λ h o. bound h (owned_unfiltered S w limit filter h o.owned);
        collects = λ h o. owned_unfiltered S w limit filter h o.owned;
        all-by-set = all-by-set;
        all-by-handle = all-by-handle;
      }
