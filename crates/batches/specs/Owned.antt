-- AN OWNED MAP: one that agrees whole, its directory and each series that it holds. What a caller that keeps its memory to itself always has
-- (promises/specs): the calls `.._agreed` then never refuse for memory, whatever is asked. Assumes nothing.
use Rattle.std.specs.Prelude.{ℕ, ◌^◌, ◌≤◌, ◌<◌, ◌≡◌, true, List}
use Rattle.std.proofs.Math.Option.{Option}
use Rattle.tally.specs.Kind.{Kind}
use Rattle.directory.specs.View.{updated_in}
use Rattle.value_map.specs.Store.{Store}
use Rattle.value_map.specs.Calls.{Held}
use Rattle.batches.specs.Agreed.{Agreed}

module _ {K : Kind} (S : Store K) (w : S.Switches) where
  pub record Owned (limit : ℕ) (filter : Option (List ℕ)) (h : Held S.Cells) : Type 0 where
    pub agreed : Agreed S limit filter h
    -- the last birth number is a u64
    pub last : h.kept.dir.last < 2 ^ 64
    -- each series that is held agrees
    pub series : (x : ℕ) → x ≤ h.kept.dir.used → updated_in h.kept.stores.entries x ≡ true → K.agrees (S.settings w) (S.at h.cells x) ≡ true
