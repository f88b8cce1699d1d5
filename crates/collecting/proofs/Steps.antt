-- FAITHFUL. Delta and cumulative collection are the map's steps, for any kind that pays what it owes, and leave a state that agrees.
-- Assumes nothing.
use Prim.Native.Nat.{ℕ, zero, suc, ◌≤◌}
use mathlib.Core.Path.{◌≡◌, refl, sym, ap, subst, ◌∙◌}
use mathlib.Core.Bool.{Bool, true, false, not, ◌&&◌, ◌||◌}
use mathlib.Core.List.{List, [], ◌∷◌, map}
use mathlib.Core.Option.{Option, some}
use native.Mathlib.Omega.{arith}
use lib.Dec.{eqb}
use lib.ListN.{length, get_or}
use borrow.Author.Tests.{eq-eqb, le-leb}
use Rattle.laws.specs.Pick.{pick}
use Rattle.laws.specs.Said.{refusal}
use Rattle.tally.specs.Kind.{Kind, Room, suffices, unless, first_of}
use Rattle.tally.specs.Sets.{same}
use Rattle.tally.specs.Map.{Map, Out, Points, sound, collect, listed, or_refused, cumulate}
use Rattle.tally.proofs.MapSteps.{upfront, act, swept, step}
use Rattle.sets.specs.Rows.{size, set_of, row_of}
use Rattle.sets.proofs.Exact.{set_own, set-again}
use Rattle.sets.proofs.Keyed.{named-row}
use Rattle.directory.specs.View.{Stores, set_at, view, updated_in}
use Rattle.directory.specs.Calls.{Kept, most_sets}
use Rattle.directory.specs.declared.Directory.{Directory}
use Rattle.directory.proofs.Agreed.{slot-sizes}
use Rattle.directory.proofs.Laws.{few, slots-right, slot-used}
use Rattle.directory.proofs.Refusals.{within}
use Rattle.directory.proofs.Rises.{In}
use Rattle.sweep.specs.Swept.{swept_kept}
use Rattle.sweep.proofs.Stayers.{only_in}
use Rattle.sweep.proofs.Settled as Settled
use Rattle.sweep.proofs.Faithful.{sweep-faithful}
use Rattle.value_map.specs.Store.{Store}
use Rattle.value_map.specs.Calls.{Held}
use Rattle.value_map.proofs.Owed.{Owed, there}
use Rattle.value_map.proofs.Cases.{lent-cells}
use Rattle.value_map.specs.Maps.{map_of, config_of}
use Rattle.value_map.proofs.Steps.{Fair}
use Rattle.value_map.proofs.Kept.{good, fair-on}
use Rattle.listing.specs.Listed.{Output, read_from}
use Rattle.collecting.specs.Lister.{Lister}
use Rattle.collecting.specs.Collected.{Collected, room_of, slots_of, due_of, laid_out, agreeing, roomy, uncollected, collected_to, delta_collected, cumulative_collected, listed_or8, answered}
use Rattle.collecting.proofs.Owed.{Listed, Lists}
use Rattle.collecting.proofs.Back.{point_at, reads-back}
use Rattle.collecting.proofs.Ends.{collected_on}
use Rattle.collecting.proofs.Points.{delta-points, cumulative-points, sound-all, sound_in, room-is}

-- an outcome as the map's
abbrev pub told_of : {K : Kind} {S : Store K} → Lister S → S.Switches → Collected S.Cells → Out K
told_of {K} {S} L w c = record { answer = answered L c; map = map_of S w c.held }

module _ {K : Kind} {S : Store K} (W : Owed S) (L : Lister S) (w : S.Switches) (Q : Lists L w) (limit : ℕ) (filter : Option (List ℕ)) (h : Held S.Cells) (g : Fair S limit filter h) where
  abbrev k : Kept
  k = h.kept

  abbrev d : Directory
  d = h.kept.dir

  abbrev s : Stores
  s = h.kept.stores

  abbrev z : K.Settings
  z = S.settings w

  abbrev u : ℕ → Bool
  u x = updated_in h.kept.stores.entries x

  abbrev m : Map K
  m = map_of S w h

  -- ---- what is known of the directory's slots
  slot-known : (x : ℕ) → In x (slots_of k) → x ≤ d.used
  slot-known x i = slot-used limit d s g.agrees x i

  sized : (x : ℕ) → x ≤ d.used → 1 ≤ x → (1 ≤ size (get_or s.sets x [])) × (size (get_or s.sets x []) ≤ 8)
  sized x a b = slot-sizes d.used d.last s.sets s.entries (slots-right limit d s g.agrees) x b a

  set_back : (x : ℕ) → x ≤ d.used → set_of (row_of (set_at s.sets x)) ≡ set_at s.sets x
  set_back zero a = set_own [] (omega arith) tt
  set_back (suc x) a = set-again (get_or s.sets (suc x) []) (sized (suc x) a (omega arith)).1

  set-named : (x : ℕ) → x ≤ d.used → 1 ≤ x → same (set_at s.sets x) [] ≡ false
  set-named zero a b = absurd (omega arith)
  set-named (suc x) a b = named-row (get_or s.sets (suc x) []) (λ e. omega (arith, (sized (suc x) a b).0, e))

  -- what is known of a slot that is due, where all series agree
  pub record Due (x : ℕ) : Type 0 where
    pub room : S.Room h.cells x
    pub sound-is : sound K z (there S h.cells x (u x)) ≡ true
    pub set_is : set_of (row_of (set_at s.sets x)) ≡ set_at s.sets x

  pub due-known : (cumulative : Bool) → agreeing L w h ≡ true → (x : ℕ) → In x (due_of cumulative k) → Due x
  due-known cumulative a x i =
      let q = (only_in (λ y. u y || (cumulative && not (eqb y 0))) (slots_of k) x i).0 in
      record {
        room = W.room limit h.cells x (lent-cells W limit h g.lent_is) (omega (arith, slot-known x q, few limit d s g.agrees));
        sound-is = sound_in S w h (slots_of k) a x q;
        set_is = set_back x (slot-known x q);
      }

  module _ (lendable : L.Lent h.cells) (cumulative : Bool) (a : agreeing L w h ≡ true) where
    listed_at : (x : ℕ) → In x (due_of cumulative k) → Listed L w h.cells x (u x)
    listed_at x i = let e = due-known cumulative a x i in Q h.cells x (u x) g.set lendable e.room e.sound-is

    read_back : (o : Output) → read_from L.found (length (due_of cumulative k)) (record { place = 0; pos = 0; neg = 0 }) (laid_out L w h (due_of cumulative k) o) ≡ some (map (point_at S w h) (due_of cumulative k))
    read_back o =
        reads-back L w h L.found (λ x. (point_at S w h x).1) (due_of cumulative k) o
        (λ x i. record { found-is = (listed_at x i).found; set_is = (due-known cumulative a x i).set_is })

    roomy-is : (r : Room) → suffices K r (map (λ p. p.1) (map (point_at S w h) (due_of cumulative k))) ≡ roomy L w h (due_of cumulative k) r
    roomy-is r = room-is S w h L (due_of cumulative k) r listed_at

  -- ---- the outcome, by cases
  module _ (cumulative : Bool) (k' : Kept) (o : Output) where
    abbrev ours : Collected S.Cells
    ours = collected_to L w cumulative k' (uncollected L w cumulative limit h o) h o

    abbrev refused_by : ℕ → Collected S.Cells
    refused_by n = record { answer = refusal n; held = h; out = o }

    number_is : (a r : Bool) → agreeing L w h ≡ a → roomy L w h (due_of cumulative k) (room_of o) ≡ r → uncollected L w cumulative limit h o ≡ pick a (pick r 0 10) 8
    unfolding uncollected pick
    number_is a r p q =
        λ i. pick (g.lent_is i)
        (pick (eq-eqb S.unset 0 g.set i && (le-leb limit most_sets (within limit filter g.accepted) i && (g.agrees i && p i))) (pick (q i) 0 10) 8) 12

    ours-is : (n : ℕ) → uncollected L w cumulative limit h o ≡ n → ours ≡ collected_to L w cumulative k' n h o
    ours-is n e = ap (λ j. collected_to L w cumulative k' j h o) e

    pub by_cases : (P : Collected S.Cells → Type 0) → (agreeing L w h ≡ false → P (refused_by 8))
        → (agreeing L w h ≡ true → roomy L w h (due_of cumulative k) (room_of o) ≡ false → P (refused_by 10))
        → (agreeing L w h ≡ true → roomy L w h (due_of cumulative k) (room_of o) ≡ true → P (collected_on L w limit h o cumulative k')) → P ours
    unfolding pick
    by_cases P eight ten on = at-agreeing (agreeing L w h) refl
      where
        at_room : agreeing L w h ≡ true → (r : Bool) → roomy L w h (due_of cumulative k) (room_of o) ≡ r → P ours
        at_room a true r = subst P (sym (ours-is 0 (number_is true true a r))) (on a r)
        at_room a false r = subst P (sym (ours-is 10 (number_is true false a r))) (ten a r)

        at-agreeing : (a : Bool) → agreeing L w h ≡ a → P ours
        at-agreeing true a = at_room a (roomy L w h (due_of cumulative k) (room_of o)) refl
        at-agreeing false a = subst P (sym (ours-is 8 (number_is false (roomy L w h (due_of cumulative k) (room_of o)) a refl))) (eight a)

  -- ---- the map's collection, by the slots: its entries' points, and their agreement
  abbrev collecting : Room → Bool → Points K → Map K → Out K
  collecting r a ps after =
      or_refused K m (first_of (unless a 8 ∷ unless (suffices K r (map (λ p. p.1) ps)) 10 ∷ [])) (record { answer = listed ps; map = after })

  -- and it is ours
  collects : L.Lent h.cells → (cumulative : Bool) (k' : Kept) (o : Output) (after : Map K) → after ≡ view K (S.at h.cells) z k'.dir k'.stores
      → collecting (room_of o) (agreeing L w h) (map (point_at S w h) (due_of cumulative k)) after
      ≡ told_of L w (collected_to L w cumulative k' (uncollected L w cumulative limit h o) h o)
  collects lendable cumulative k' o after e =
      let ps = map (point_at S w h) (due_of cumulative k) in
      by_cases cumulative k' o (λ c. collecting (room_of o) (agreeing L w h) ps after ≡ told_of L w c)
      (λ a. ap (λ b. collecting (room_of o) b ps after) a)
      (λ a r.
      ap (λ b. collecting (room_of o) b ps after) a
      ∙ ap (λ b. or_refused K m (first_of (unless b 10 ∷ [])) (record { answer = listed ps; map = after })) (roomy-is lendable cumulative a (room_of o) ∙ r))
      (λ a r.
      ap (λ b. collecting (room_of o) b ps after) a
      ∙ ap (λ b. or_refused K m (first_of (unless b 10 ∷ [])) (record { answer = listed ps; map = after })) (roomy-is lendable cumulative a (room_of o) ∙ r)
      ∙ (λ i. record { answer = listed_or8 (sym (read_back lendable cumulative a o) i); map = e i }))

  -- DELTA is the map's step
  pub delta-steps : L.Lent h.cells → (o : Output) → step K (config_of S w limit filter) m (collect (room_of o)) ≡ told_of L w (delta_collected L w limit h o)
  unfolding upfront act delta_collected
  delta-steps lendable o =
      let q = good W w limit filter h g in
      let r = Settled.within limit k q in
      (λ i. or_refused K m (first_of (unless (sound-all S w h (slots_of k) i) 8 ∷ unless (suffices K (room_of o) (map (λ p. p.1) (delta-points S w h (slots_of k) i))) 10 ∷ [])) (record { answer = listed (delta-points S w h (slots_of k) i); map = swept K m }))
      ∙ collects lendable false (swept_kept k) o (swept K m) (sym (sweep-faithful limit k g.agrees r.0 r.1 r.2 K (S.at h.cells) (S.at h.cells) z))

  -- CUMULATIVE is the map's collection that leaves it
  pub cumulative-steps : L.Lent h.cells → (o : Output) → cumulate K m (room_of o) ≡ told_of L w (cumulative_collected L w limit h o)
  unfolding cumulate cumulative_collected
  cumulative-steps lendable o =
      let e = cumulative-points S w h (slots_of k) (λ x i n. set-named x (slot-known x i) n) in
      (λ i. or_refused K m (first_of (unless (sound-all S w h (slots_of k) i) 8 ∷ unless (suffices K (room_of o) (map (λ p. p.1) (e i))) 10 ∷ [])) (record { answer = listed (e i); map = m }))
      ∙ collects lendable true k o m refl

  -- KEPT: the state agrees as before
  pub delta-fair : (o : Output) → Fair S limit filter (delta_collected L w limit h o).held
  unfolding delta_collected
  delta-fair o =
      let q = good W w limit filter h g in
      let swept-fair = fair-on W w limit filter h g (swept_kept k) (Settled.sweep-good limit k q) h.cells (lent-cells W limit h g.lent_is) in
      by_cases false (swept_kept k) o (λ c. Fair S limit filter c.held) (λ a. g) (λ a r. g) (λ a r. swept-fair)
