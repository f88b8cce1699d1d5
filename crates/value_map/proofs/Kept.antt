-- KEPT. A recording, of any kind that pays what it owes, leaves the map agreeing as it found it, goes to its own set's slot while there is
-- room, and leaves every other series, set and birth number as it was. Assumes nothing.
use Rattle.std.specs.Prelude.{Ok}
use Prim.Native.Nat.{ℕ, ◌<◌}
use mathlib.Core.Path.{◌≡◌, refl, ◌∙◌}
use mathlib.Core.Logic.{◌⊎◌}
use mathlib.Core.Bool.{true}
use mathlib.Core.List.{List}
use mathlib.Core.Option.{Option, none}
use lib.ListN.{replicate}
use Rattle.laws.specs.Said.{success}
use Rattle.laws.proofs.Cases.{and-true}
use Rattle.tally.specs.Kind.{Kind}
use Rattle.tally.specs.Sets.{Set, canonical, Lendable}
use Rattle.sets.specs.Rows.{set_of}
use Rattle.sets.proofs.CallRow.{row-set, row-short, row_keyed}
use Rattle.directory.specs.View.{set_at, sought}
use Rattle.directory.specs.Calls.{Kept, stores_suffice}
use Rattle.directory.proofs.Leaves.{Good, Leaves, same-leaves}
use Rattle.seats.proofs.Keeps.{seat-good, by-good, seat-stays, by-stays}
use Rattle.seats.proofs.Owns.{seat-owns}
use Rattle.value_map.specs.Store.{Store}
use Rattle.value_map.specs.Calls.{Held, measured, measured_by}
use Rattle.value_map.proofs.Owed.{Owed}
use Rattle.value_map.proofs.Cases.{refusal-no-success, lent-dir, lent-cells}
use Rattle.value_map.proofs.Steps.{Fair, row_in, seat_of, seat_by, set-either, handle-either}

module _ {K : Kind} {S : Store K} (W : Owed S) (w : S.Switches) (limit : ℕ) (filter : Option (List ℕ)) (h : Held S.Cells) (g : Fair S limit filter h) where
  pub good : Good limit h.kept
  good =
      record {
        agrees = g.agrees;
        lent = (and-true (stores_suffice limit h.kept.stores) (S.suffices limit h.cells) g.lent_is).0;
        last = g.last;
      }

  -- another directory that agrees, and cells that suffice
  pub fair-on : (k : Kept) → Good limit k → (c : S.Cells) → S.suffices limit c ≡ true → Fair S limit filter (record { kept = k; cells = c })
  fair-on k q c l = record { agrees = q.agrees; lent_is = rw q.lent l; last = q.last; set = g.set; accepted = g.accepted }

  module _ (v : K.Value) where
    pub measure-fair : (attrs : Set) → Lendable attrs → Fair S limit filter (measured S limit filter h v attrs).held
    measure-fair attrs small =
        set-either W w limit filter h g v attrs (λ o. Fair S limit filter o.held) (λ n. g)
        (λ few n t. fair-on _ (seat-good limit h.kept good filter attrs few (row_in filter attrs) (row-set filter attrs small few) (row-short filter attrs small few) n)
        _ (t.lent limit (lent-cells W limit h g.lent_is)))

    pub handle-fair : (b : ℕ) → Fair S limit filter (measured_by S limit h v b).held
    handle-fair b =
        handle-either W w limit filter h g v b (λ o. Fair S limit filter o.held) (λ n. g)
        (λ n t. fair-on _ (by-good limit h.kept good b (replicate 9 0) n) _ (t.lent limit (lent-cells W limit h g.lent_is)))

    -- ELSEWHERE. A series that the call does not come to is as it was, damaged or not; nor is it asked for: `Fair` asks nothing of series
    pub measure_elsewhere : (attrs : Set) (y : ℕ) → (y ≡ (seat_of limit filter h attrs).slot → ⊥) → S.at (measured S limit filter h v attrs).held.cells y ≡ S.at h.cells y
    measure_elsewhere attrs y d = set-either W w limit filter h g v attrs (λ o. S.at o.held.cells y ≡ S.at h.cells y) (λ n. refl) (λ few n t. t.others y d)

    pub handle_elsewhere : (b y : ℕ) → (y ≡ (seat_by limit h b).slot → ⊥) → S.at (measured_by S limit h v b).held.cells y ≡ S.at h.cells y
    handle_elsewhere b y d = handle-either W w limit filter h g v b (λ o. S.at o.held.cells y ≡ S.at h.cells y) (λ n. refl) (λ n t. t.others y d)

    -- OWN. An accepted recording goes to its own set's slot, never to overflow, where the set is held or the named sets are fewer than the
    -- limit (under demand 3's premise, over a run: `Tells`' own, in tally/specs/Runs.antt)
    pub measure-owns : (attrs : Set) → Lendable attrs
        → ((x : ℕ) × (sought (set_of (row_in filter attrs)) h.kept.dir.used h.kept.stores.sets h.kept.stores.order ≡ Ok x)) ⊎ (h.kept.dir.used < limit)
        → (measured S limit filter h v attrs).answer ≡ success none
        → set_at (measured S limit filter h v attrs).held.kept.stores.sets (seat_of limit filter h attrs).slot ≡ canonical filter attrs
    measure-owns attrs small own =
        set-either W w limit filter h g v attrs (λ o. o.answer ≡ success none → set_at o.held.kept.stores.sets (seat_of limit filter h attrs).slot ≡ canonical filter attrs) (λ n q. refusal-no-success n none q)
        (λ few n t q. seat-owns limit h.kept.dir h.kept.stores g.agrees (lent-dir W limit h g.lent_is).sets (row_in filter attrs) own n ∙ row-set filter attrs small few)

    -- STAY. A used slot keeps its set and its birth number, and a new slot's number was not spent before
    pub measure-leaves : (attrs : Set) → Lendable attrs → Leaves h.kept.dir h.kept.stores (measured S limit filter h v attrs).held.kept
    measure-leaves attrs small =
        let u = lent-dir W limit h g.lent_is in
        set-either W w limit filter h g v attrs (λ o. Leaves h.kept.dir h.kept.stores o.held.kept) (λ n. same-leaves h.kept.dir h.kept.stores g.last)
        (λ few n t. (seat-stays limit h.kept.dir h.kept.stores g.agrees g.last u.sets u.entries u.order (row_in filter attrs) (row_keyed filter attrs small few) (row-short filter attrs small few) n).leaves)

    pub handle-leaves : (b : ℕ) → Leaves h.kept.dir h.kept.stores (measured_by S limit h v b).held.kept
    handle-leaves b =
        let u = lent-dir W limit h g.lent_is in
        handle-either W w limit filter h g v b (λ o. Leaves h.kept.dir h.kept.stores o.held.kept) (λ n. same-leaves h.kept.dir h.kept.stores g.last)
        (λ n t. (by-stays limit h.kept.dir h.kept.stores g.agrees g.last u.sets u.entries u.order b (replicate 9 0) n).leaves)
