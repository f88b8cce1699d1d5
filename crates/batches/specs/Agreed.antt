-- A MAP THAT AGREES, as the calls `.._agreed` require it: what a public call asks of lent memory before it decides anything else, once and for
-- all. A public call asks it each time, for the memory is its caller's. Assumes nothing.
use Rattle.std.specs.Prelude.{ℕ, ◌≡◌, true, List}
use Rattle.std.proofs.Math.Option.{Option, none}
use Rattle.tally.specs.Kind.{Kind}
use Rattle.tally.specs.Sets.{Set, canonical}
use Rattle.sets.specs.Rows.{row_of}
use Rattle.directory.specs.View.{agreesb}
use Rattle.directory.specs.Calls.{accepts}
use Rattle.seats.specs.Seats.{seated, seated_by, Seating}
use Rattle.value_map.specs.Store.{Store}
use Rattle.value_map.specs.Calls.{Held, lent}

-- 12 and 8 do not come up, but for a series: the stores suffice, the directory agrees, and configuring accepted the settings, the limit and the
-- filter
pub record Agreed {K : Kind} (S : Store K) (limit : ℕ) (filter : Option (List ℕ)) (h : Held S.Cells) : Type 0 where
  pub agrees : agreesb limit h.kept.dir h.kept.stores ≡ true
  pub lent_is : lent S limit h ≡ true
  pub set : S.unset ≡ 0
  pub accepted : accepts limit filter ≡ true

module _ {K : Kind} (S : Store K) (w : S.Switches) where
  -- nor does 8 for the series that the call comes to: it agrees, where one is held there
  abbrev pub SoundAt : Held S.Cells → Seating → Type 0
  SoundAt h a = a.updated ≡ true → K.agrees (S.settings w) (S.at h.cells a.slot) ≡ true

  -- a map in which a recording by this handle, or with these attributes, meets nothing that disagrees
  abbrev pub AgreedBy : ℕ → Held S.Cells → ℕ → Type 0
  AgreedBy limit h b = Agreed S limit none h × SoundAt h (seated_by limit h.kept.dir h.kept.stores b)

  abbrev pub AgreedFor : ℕ → Option (List ℕ) → Held S.Cells → Set → Type 0
  AgreedFor limit filter h attrs = Agreed S limit filter h × SoundAt h (seated limit h.kept.dir h.kept.stores (row_of (canonical filter attrs)))
