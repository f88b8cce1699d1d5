-- The collecting calls of any kind, by what their parts answer: the number, and the points put. Assumes nothing.
use Prim.Native.Nat.{ℕ}
use mathlib.Core.Path.{◌≡◌, sym, ap, ◌∙◌}
use mathlib.Core.Bool.{Bool}
use mathlib.Core.List.{[]}
use borrow.Author.Tests.{eq-eqb, ne_eqb}
use lib.Dec.{eqb}
use lib.ListN.{length}
use Rattle.laws.proofs.Bools.{pick_true, pick-false}
use Rattle.tally.specs.Kind.{Kind}
use Rattle.value_map.specs.Store.{Store}
use Rattle.value_map.specs.Calls.{Held}
use Rattle.value_map.proofs.Owed.{Owed}
use Rattle.listing.specs.Listed.{Output}
use Rattle.listing.specs.Inner.{Put}
use Rattle.collecting.specs.Lister.{Lister}
use Rattle.collecting.specs.Collected.{due_of, uncollected}
use Rattle.collecting.specs.Slots.{unsurveyed, surveyed_by, walked, Walk, surveyed, Listable, put_slots, listed_to}
use Rattle.collecting.specs.declared.Survey.{Survey}
use Rattle.collecting.proofs.Numbers.{or_else}
use Rattle.collecting.proofs.Surveys.{survey-walked}
use Rattle.collecting.proofs.Puts.{room-walked, put-walked}
use Rattle.collecting.proofs.Walks.{number_is, open_of, Sweepable, sweepable, walk_of, row-there}
use Rattle.collecting.proofs.Ends.{Clear, clear_of}

or-first : (n b t : ℕ) → n ≡ b → (n ≡ 0 → ⊥) → n ≡ or_else b t
unfolding or_else
or-first n b t e d = e ∙ sym (pick-false (eqb b 0) t b (ne_eqb b 0 (λ z. d (e ∙ z))))

or-then : (b t : ℕ) → b ≡ 0 → t ≡ or_else b t
unfolding or_else
or-then b t z = sym (pick_true (eqb b 0) t b (eq-eqb b 0 z))

module _ {K : Kind} {S : Store K} (L : Lister S) (W : Owed S) (w : S.Switches) (cumulative : Bool) (limit : ℕ) (h : Held S.Cells) (o : Output) where
  -- ---- the number, of the cells, which suffice or not, and of the number with which configuring refuses the settings
  module _ (cells : Bool) (unset n : ℕ) (a : cells ≡ S.suffices limit h.cells) (b : unset ≡ S.unset) (e : n ≡ unsurveyed cells unset limit h.kept.dir h.kept.stores) where
    bars : n ≡ unsurveyed (S.suffices limit h.cells) S.unset limit h.kept.dir h.kept.stores
    bars = e ∙ (λ j. unsurveyed (a j) (b j) limit h.kept.dir h.kept.stores)

    pub number-first : (n ≡ 0 → ⊥) → n ≡ uncollected L w cumulative limit h o
    number-first d = or-first n _ _ bars d ∙ number_is L w cumulative limit h o

    module _ (z : n ≡ 0) where
      pub walk_here : Walk S (walked h.kept.dir.used [] h.kept.stores.entries h.kept.stores.order h.cells)
      walk_here = walk_of S limit h (open_of (S.suffices limit h.cells) S.unset limit h.kept.dir h.kept.stores (sym bars ∙ z)) W []

      -- the survey may be made under other switches, if they have no part in agreement
      pub number-then : (v : S.Switches) → ((x : ℕ) → K.agrees (S.settings v) (S.at h.cells x) ≡ K.agrees (S.settings w) (S.at h.cells x)) → (f : Survey) (r : ℕ)
          → f ≡ surveyed L v cumulative (walked h.kept.dir.used [] h.kept.stores.entries h.kept.stores.order h.cells)
          → r ≡ surveyed_by f (length o.sets) (length o.words) (length o.pos) (length o.neg) → r ≡ uncollected L w cumulative limit h o
      number-then v same f r p q =
          q
          ∙ ap (λ (t : Survey). surveyed_by t (length o.sets) (length o.words) (length o.pos) (length o.neg)) (p ∙ survey-walked L w h cumulative v [] same)
          ∙ or-then _ _ (sym bars ∙ z)
          ∙ number_is L w cumulative limit h o

  -- ---- the points, where no number refuses the call
  module _ (n : ℕ) (e : n ≡ uncollected L w cumulative limit h o) (z : n ≡ 0) where
    clear : Clear L w limit h o cumulative
    clear = clear_of L w limit h o cumulative (sym e ∙ z)

    pub listable : Listable L w cumulative (walked h.kept.dir.used h.kept.stores.sets h.kept.stores.entries h.kept.stores.order h.cells) o
    listable =
        record {
          walk = walk_of S limit h clear.opened W h.kept.stores.sets;
          sets = row-there S limit h clear.opened;
          agrees = clear.agree;
          room = room-walked L w h o w h.kept.stores.sets (due_of cumulative h.kept) ∙ clear.room;
        }

    pub sweeps : Sweepable h.kept
    sweeps = sweepable S limit h clear.opened

  pub listed-is : (p : Put)
      → p ≡ listed_to L w cumulative (walked h.kept.dir.used h.kept.stores.sets h.kept.stores.entries h.kept.stores.order h.cells) o
      → p ≡ put_slots L w h (due_of cumulative h.kept) o
  listed-is p e = e ∙ put-walked L w h o (due_of cumulative h.kept)
