-- A MAP THAT ONLY THE CALLS TOUCH never needs a check: what configuring left is owned, and every call keeps it so, refused or not. Assumes nothing.
use Rattle.std.specs.Prelude.{ℕ, ◌≡◌, List, map, take}
use Rattle.std.proofs.Math.Option.{Option, none}
use Rattle.tally.specs.Kind.{Kind}
use Rattle.tally.specs.Sets.{Set, Lendable}
use Rattle.tally.specs.Demand.{left}
use Rattle.bindings.specs.Agreed as Bindings
use Rattle.value_map.specs.Store.{Store}
use Rattle.value_map.specs.Calls.{Held}
use Rattle.many.specs.Many.{Many}
use Rattle.batches.specs.Agreed.{AgreedFor, AgreedBy}
use Rattle.batches.specs.Batch.{measured_all, measured_all_by}
use Rattle.batches.specs.Owned.{Owned}
use Rattle.collecting.specs.Lister.{Lister}
use Rattle.promises.specs.Runs.{Asked, recording, recording_by, ended, run}

module _ {K : Kind} {S : Store K} (L : Lister S) (w : S.Switches) (limit : ℕ) (filter : Option (List ℕ)) where
  -- owned, in cells that can be lent, as those of a program's are
  pub record Own (h : Held S.Cells) : Type 0 where
    pub owned : Owned S w limit filter h
    pub lent : L.Lent h.cells

  -- what a batch leaves is what the run of its taken values leaves, recorded one by one: so whatever is promised of runs holds of batches
  abbrev pub Flat : Held S.Cells → Many (Held S.Cells) → List K.Value → (K.Value → Asked K) → Type 0
  Flat h m vs ask = m.left ≡ left K (run L w limit filter h) h (map ask (take m.taken vs))

  pub record Owns (first : Held S.Cells) : Type 0 where
    pub begun : Own first
    -- "recording by set or handle, binding, releasing, delta collection"; a cumulative collection leaves the map as it was
    pub kept : (h : Held S.Cells) → Own h → (x : Asked K) → Own (ended L w limit filter h x).1
    pub always : (xs : List (Asked K)) → Own (left K (run L w limit filter first) first xs)
    -- an owned map gives the calls `.._agreed` what they require, whatever they are asked
    pub by-set : (h : Held S.Cells) → Own h → (attrs : Set) → AgreedFor S w limit filter h attrs
    pub by-handle : (h : Held S.Cells) → Own h → (b : ℕ) → AgreedBy S w limit h b
    pub binds : (h : Held S.Cells) → Own h → Bindings.Agreed limit filter h.kept.dir h.kept.stores
    pub releases : (h : Held S.Cells) → Own h → Bindings.Agreed limit none h.kept.dir h.kept.stores
    pub collects : (h : Held S.Cells) → Own h → Owned S w limit none h
    -- batches
    pub all-by-set : (h : Held S.Cells) → Own h → (vs : List K.Value) (attrs : Set) (small : Lendable attrs)
        → let m = measured_all S limit filter h vs attrs in Own m.left × Flat h m vs (λ v. recording v attrs small)
    pub all-by-handle : (h : Held S.Cells) → Own h → (vs : List K.Value) (b : ℕ)
        → let m = measured_all_by S limit h vs b in Own m.left × Flat h m vs (recording_by b)
