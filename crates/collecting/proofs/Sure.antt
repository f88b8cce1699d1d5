-- A MAP KNOWN TO AGREE: nothing bars its collection but too little output. For any kind. Assumes nothing.
use Prim.Native.Nat.{ℕ}
use mathlib.Core.Path.{◌≡◌, refl, sym, ◌∙◌}
use mathlib.Core.Bool.{Bool, true, false, not, ◌||◌}
use mathlib.Core.List.{List, []}
use mathlib.Core.Option.{Option, none}
use borrow.Author.Tests.{le-leb}
use lib.Dec.{leb}
use Rattle.laws.proofs.Bools.{and_intro}
use Rattle.laws.proofs.Cases.{and-true}
use Rattle.tally.specs.Kind.{Kind}
use Rattle.directory.specs.Calls.{most_sets, stores_suffice}
use Rattle.directory.proofs.Refusals.{within}
use Rattle.value_map.specs.Store.{Store}
use Rattle.value_map.specs.Calls.{Held}
use Rattle.batches.specs.Owned.{Owned}
use Rattle.collecting.specs.Slots.{unsurveyed, walked, AllKnown}
use Rattle.collecting.proofs.Numbers.{bar-none}
use Rattle.collecting.proofs.Walks.{Open}

-- a slot whose series agrees where it holds one
pub sound-known : (updated agrees : Bool) → (updated ≡ true → agrees ≡ true) → true ≡ (not updated || agrees)
sound-known true agrees a = sym (a refl)
sound-known false agrees a = refl

module _ {K : Kind} (S : Store K) (w : S.Switches) (limit : ℕ) (filter : Option (List ℕ)) (h : Held S.Cells) where
  -- a walk meets only series that agree, under other switches too, if they have no part in agreement
  pub walk-known : (known : Bool) → (known ≡ true → Owned S w limit filter h)
      → (v : S.Switches) → ((x : ℕ) → K.agrees (S.settings v) (S.at h.cells x) ≡ K.agrees (S.settings w) (S.at h.cells x))
      → AllKnown S v known (walked h.kept.dir.used [] h.kept.stores.entries h.kept.stores.order h.cells)
  walk-known known own v same x n k u = same x ∙ (own k).series x n u

  module _ (own : Owned S w limit filter h) where
    opened : Open (S.suffices limit h.cells) S.unset limit h.kept.dir h.kept.stores
    opened =
        let a = own.agreed in
        let e = and-true (stores_suffice limit h.kept.stores) (S.suffices limit h.cells) a.lent_is in
        record { stores = e.0; lent = e.1; set = a.set; few = within limit filter a.accepted; agrees = a.agrees }

    -- neither 12 nor 8 comes up before series are read
    pub unbarred : (cells : Bool) (unset : ℕ) → cells ≡ S.suffices limit h.cells → unset ≡ S.unset
        → unsurveyed cells unset limit h.kept.dir h.kept.stores ≡ 0
    unbarred cells unset a b =
        let g = opened in
        (λ j. unsurveyed (a j) (b j) limit h.kept.dir h.kept.stores)
        ∙ bar-none (S.suffices limit h.cells) S.unset limit h.kept.dir h.kept.stores g.stores g.lent g.set g.few g.agrees

    -- a collection asks for no filter
    pub owned_unfiltered : Owned S w limit none h
    owned_unfiltered =
        let a = own.agreed in
        record {
          agreed = record {
            agrees = a.agrees;
            lent_is = a.lent_is;
            set = a.set;
            accepted = and_intro (leb limit most_sets) true (le-leb limit most_sets opened.few) refl;
          };
          last = own.last;
          series = own.series;
        }
