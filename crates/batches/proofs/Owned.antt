-- OWNED. A map whose directory and every series agree meets what the calls `.._agreed` require, whatever is asked. That every call keeps it so is
-- promises/proofs/Owned.antt. Assumes nothing.
use Rattle.std.specs.Prelude.{Result, Err, Ok, ℕ}
use Prim.Native.Nat.{ℕ, zero, suc, ◌≤◌}
use mathlib.Core.Path.{◌≡◌, refl, sym, subst}
use mathlib.Core.Logic.{inl, inr}
use mathlib.Core.Bool.{Bool, true, false}
use mathlib.Core.List.{List, [], ◌∷◌, map}
use mathlib.Core.Option.{Option, none, some}
use native.Mathlib.Omega.{arith}
use lib.Dec.{leb}
use Rattle.laws.specs.Pick.{pick}
use Rattle.laws.specs.Tests.{all}
use Rattle.laws.proofs.Bools.{and_intro}
use Rattle.laws.proofs.Cases.{and-true, true-not-false}
use Rattle.tally.specs.Kind.{Kind}
use Rattle.tally.specs.Sets.{Set}
use Rattle.tally.specs.Map.{Entry, sound}
use Rattle.tally.proofs.Sound.{Sound}
use Rattle.directory.specs.View.{Stores, updated_in, entry_at}
use Rattle.directory.specs.Calls.{located, scan, most_sets, few_keys, accepts}
use Rattle.directory.specs.declared.Directory.{Directory}
use Rattle.directory.specs.declared.Target.{Target}
use Rattle.directory.specs.declared.Target.TheVariants.{Disagrees, Old, New, Over}
use Rattle.directory.proofs.Laws.{slots_of, slot-used, scan_in}
use Rattle.directory.proofs.Rises.{In}
use Rattle.directory.proofs.Covers.{covers}
use Rattle.seats.specs.Seats.{seat_at, seated, seat_by}
use Rattle.seats.proofs.Seatings.{new-either, old_in, by-is}
use Rattle.value_map.specs.Store.{Store}
use Rattle.value_map.specs.Calls.{Held}
use Rattle.value_map.specs.Maps.{map_of}
use Rattle.value_map.proofs.Steps.{Fair, row_in}
use Rattle.batches.specs.Agreed.{SoundAt, AgreedBy, AgreedFor}
use Rattle.batches.specs.Owned.{Owned}

-- ---- each series that is held agrees: by slot, and by the map's entries

module _ (K : Kind) (f : ℕ → K.Series) (s : Stores) (p : Entry K → Bool) where
  all_in : (l : List ℕ) (x : ℕ) → In x l → all p (map (entry_at K f s) l) ≡ true → p (entry_at K f s x) ≡ true
  all_in [] x i a = absurd i
  all_in (y ∷ l) x (inl e) a = subst (λ (i : ℕ). p (entry_at K f s i) ≡ true) (sym e) (and-true (p (entry_at K f s y)) (all p (map (entry_at K f s) l)) a).0
  all_in (y ∷ l) x (inr i) a = all_in l x i (and-true (p (entry_at K f s y)) (all p (map (entry_at K f s) l)) a).1

  in_all : (l : List ℕ) → ((x : ℕ) → In x l → p (entry_at K f s x) ≡ true) → all p (map (entry_at K f s) l) ≡ true
  in_all [] h = refl
  in_all (y ∷ l) h = and_intro (p (entry_at K f s y)) (all p (map (entry_at K f s) l)) (h y (inl refl)) (in_all l (λ x i. h x (inr i)))

module _ (K : Kind) (z : K.Settings) (y : K.Series) where
  held-sound : (u : Bool) → (u ≡ true → K.agrees z y ≡ true) → sound K z (pick u (some y) none) ≡ true
  unfolding pick
  held-sound true h = h refl
  held-sound false h = refl

  sound-held : (u : Bool) → sound K z (pick u (some y) none) ≡ true → u ≡ true → K.agrees z y ≡ true
  unfolding pick
  sound-held true h e = h
  sound-held false h e = true-not-false (sym e)

module _ {K : Kind} (S : Store K) (w : S.Switches) (limit : ℕ) (filter : Option (List ℕ)) (h : Held S.Cells) where
  abbrev d : Directory
  d = h.kept.dir

  abbrev s : Stores
  s = h.kept.stores

  abbrev f : ℕ → K.Series
  f = S.at h.cells

  abbrev fine : Entry K → Bool
  fine e = sound K (S.settings w) e.series

  module _ (o : Owned S w limit filter h) where
    pub sound-map : Sound K (map_of S w h)
    sound-map =
        in_all K f s fine (slots_of d s)
        (λ x i. held-sound K (S.settings w) (f x) (updated_in s.entries x) (o.series x (slot-used limit d s o.agreed.agrees x i)))

    pub fair-of : Fair S limit filter h
    fair-of = let a = o.agreed in record { agrees = a.agrees; lent_is = a.lent_is; last = o.last; set = a.set; accepted = a.accepted }

  -- a fair state whose map's series agree is owned
  pub owned-of : Fair S limit filter h → Sound K (map_of S w h) → Owned S w limit filter h
  owned-of g a =
      record {
        agreed = record { agrees = g.agrees; lent_is = g.lent_is; set = g.set; accepted = g.accepted };
        last = g.last;
        series = λ x u e. sound-held K (S.settings w) (f x) (updated_in s.entries x) (all_in K f s fine (slots_of d s) x (slot_in x u) a) e;
      }
    where
      slot_in : (x : ℕ) → x ≤ h.kept.dir.used → In x (slots_of h.kept.dir h.kept.stores)
      slot_in zero u = inl refl
      slot_in (suc x) u = inr (covers limit h.kept.dir h.kept.stores g.agrees (suc x) (omega arith) u)

-- ---- AN OWNED MAP MEETS WHAT THE CALLS REQUIRE

module _ {K : Kind} {S : Store K} (w : S.Switches) (limit : ℕ) (filter : Option (List ℕ)) (h : Held S.Cells) (o : Owned S w limit filter h) where
  at_slot : (x : ℕ) → In x (slots_of h.kept.dir h.kept.stores) → updated_in h.kept.stores.entries x ≡ true → K.agrees (S.settings w) (S.at h.cells x) ≡ true
  at_slot x i u = o.series x (slot-used limit h.kept.dir h.kept.stores o.agreed.agrees x i) u

  pub owned_by : (b : ℕ) → AgreedBy S w limit h b
  owned_by b =
      let k = h.kept in
      let a = o.agreed in
      let none_is : accepts limit none ≡ true = and_intro (leb limit most_sets) (few_keys none) (and-true (leb limit most_sets) (few_keys filter) a.accepted).0 refl in (
        record { agrees = a.agrees; lent_is = a.lent_is; set = a.set; accepted = none_is },
        subst (SoundAt S w h) (sym (by-is limit k.dir k.stores b a.agrees (scan b k.stores.entries (slots_of k.dir k.stores)) refl))
            (found (scan b k.stores.entries (slots_of k.dir k.stores)) refl),
      )
    where
      found : (t : Result ℕ ℕ) → scan b h.kept.stores.entries (slots_of h.kept.dir h.kept.stores) ≡ t → SoundAt S w h (seat_by h.kept.stores t)
      found (Err r) e u = true-not-false (sym u)
      found (Ok x) e u = at_slot x (scan_in b h.kept.stores.entries x (slots_of h.kept.dir h.kept.stores) e) u

  pub owned_for : (attrs : Set) → AgreedFor S w limit filter h attrs
  unfolding seated
  owned_for attrs = (o.agreed, goes (located limit h.kept.dir h.kept.stores (row_in filter attrs)) refl)
    where
      goes : (t : Target) → located limit h.kept.dir h.kept.stores (row_in filter attrs) ≡ t → SoundAt S w h (seat_at h.kept.dir h.kept.stores t)
      goes Disagrees e = λ u. true-not-false (sym u)
      goes (Old x) e = λ u. at_slot x (old_in limit h.kept.dir h.kept.stores (row_in filter attrs) x e) u
      goes (New r) e = new-either h.kept.dir (New r) (SoundAt S w h) (λ l u. true-not-false (sym u)) (λ l u. true-not-false (sym u))
      goes (Over r) e = new-either h.kept.dir (Over r) (SoundAt S w h) (λ l u. true-not-false (sym u)) (λ l u. true-not-false (sym u))
