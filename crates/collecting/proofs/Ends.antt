-- The end of a collecting call: refused with its number, or its points put and the directory swept or left. Assumes nothing.
use Prim.Native.Nat.{ℕ}
use mathlib.Core.Path.{◌≡◌, refl, sym, ◌∙◌}
use mathlib.Core.Bool.{Bool, true, false, ◌&&◌}
use native.Mathlib.Omega.{arith}
use borrow.Author.Tests.{eq-eqb, ne_eqb, leb-true, eqb-true}
use lib.Dec.{leb, eqb}
use lib.ListN.{length}
use Rattle.laws.specs.Said.{refusal, success}
use Rattle.laws.proofs.Bools.{pick_true, pick-false, pick-left, pick-then}
use Rattle.laws.proofs.Cases.{and-true}
use Rattle.tally.specs.Kind.{Kind}
use Rattle.directory.specs.View.{agreesb}
use Rattle.directory.specs.Calls.{Kept, most_sets, stores_suffice}
use Rattle.sweep.specs.Swept.{swept_kept}
use Rattle.value_map.specs.Store.{Store}
use Rattle.value_map.specs.Calls.{Held, lent}
use Rattle.listing.specs.Listed.{Output}
use Rattle.listing.specs.Inner.{Put}
use Rattle.collecting.specs.Lister.{Lister}
use Rattle.collecting.specs.Collected.{Collected, room_of, due_of, agreeing, roomy, uncollected, laid_out, collected_to, delta_collected, cumulative_collected}
use Rattle.collecting.specs.Slots.{put_slots}
use Rattle.collecting.proofs.Walks.{Open}

module _ {K : Kind} {S : Store K} (L : Lister S) (w : S.Switches) (limit : ℕ) (h : Held S.Cells) (o : Output) where
  -- what is known where no number refuses the call
  pub record Clear (cumulative : Bool) : Type 0 where
    pub opened : Open (S.suffices limit h.cells) S.unset limit h.kept.dir h.kept.stores
    pub agree : agreeing L w h ≡ true
    pub room : roomy L w h (due_of cumulative h.kept) (room_of o) ≡ true

  pub clear_of : (cumulative : Bool) → uncollected L w cumulative limit h o ≡ 0 → Clear cumulative
  unfolding uncollected
  clear_of cumulative e =
      let d = h.kept.dir in
      let s = h.kept.stores in
      let a = and-true (stores_suffice limit s) (S.suffices limit h.cells) (pick-left (lent S limit h) _ 12 (omega arith) e) in
      let t = pick-then (lent S limit h) _ 12 (omega arith) e in
      let q = eqb S.unset 0 && (leb limit most_sets && (agreesb limit d s && agreeing L w h)) in
      let b = and-true (eqb S.unset 0) _ (pick-left q _ 8 (omega arith) t) in
      let c = and-true (leb limit most_sets) _ b.1 in
      let f = and-true (agreesb limit d s) (agreeing L w h) c.1 in
      record {
        opened = record { stores = a.0; lent = a.1; set = eqb-true S.unset 0 b.0; few = leb-true limit most_sets c.0; agrees = f.0 };
        agree = f.1;
        room = pick-left (roomy L w h (due_of cumulative h.kept) (room_of o)) 0 10 (omega arith) (pick-then q _ 8 (omega arith) t);
      }

  -- what is left where no number refuses it
  abbrev pub collected_on : Bool → Kept → Collected S.Cells
  collected_on cumulative k =
      let l = due_of cumulative h.kept in
      record { answer = success (length l); held = record { kept = k; cells = h.cells }; out = laid_out L w h l o }

  -- "Every refusal changes nothing."
  refused-with : (cumulative : Bool) (k : Kept) (n m : ℕ) → n ≡ m → (n ≡ 0 → ⊥) → record { answer = refusal n; held = h; out = o } ≡ collected_to L w cumulative k m h o
  refused-with cumulative k n m e d =
      (λ j. record { answer = refusal (e j); held = h; out = o })
      ∙ sym (pick-false (eqb m 0) (collected_on cumulative k) (record { answer = refusal m; held = h; out = o }) (ne_eqb m 0 (λ z. d (e ∙ z))))

  pub delta-refused : (n : ℕ) → n ≡ uncollected L w false limit h o → (n ≡ 0 → ⊥) → record { answer = refusal n; held = h; out = o } ≡ delta_collected L w limit h o
  unfolding delta_collected
  delta-refused n e d = refused-with false (swept_kept h.kept) n (uncollected L w false limit h o) e d

  pub cumulative-refused : (n : ℕ) → n ≡ uncollected L w true limit h o → (n ≡ 0 → ⊥) → record { answer = refusal n; held = h; out = o } ≡ cumulative_collected L w limit h o
  unfolding cumulative_collected
  cumulative-refused n e d = refused-with true h.kept n (uncollected L w true limit h o) e d

  -- the points that were put, and the directory k
  done-with : (cumulative : Bool) (k k' : Kept) (p : Put) → uncollected L w cumulative limit h o ≡ 0 → p ≡ put_slots L w h (due_of cumulative h.kept) o → k ≡ k'
      → record { answer = success p.next.place; held = record { kept = k; cells = h.cells }; out = p.output }
      ≡ collected_to L w cumulative k' (uncollected L w cumulative limit h o) h o
  done-with cumulative k k' p e q r =
      (λ j. record { answer = success (q j).next.place; held = record { kept = r j; cells = h.cells }; out = (q j).output })
      ∙ sym (pick_true (eqb (uncollected L w cumulative limit h o) 0) (collected_on cumulative k') _ (eq-eqb (uncollected L w cumulative limit h o) 0 e))

  pub delta-done : (k : Kept) (p : Put) → uncollected L w false limit h o ≡ 0 → p ≡ put_slots L w h (due_of false h.kept) o → k ≡ swept_kept h.kept
      → record { answer = success p.next.place; held = record { kept = k; cells = h.cells }; out = p.output } ≡ delta_collected L w limit h o
  unfolding delta_collected
  delta-done k p e q r = done-with false k (swept_kept h.kept) p e q r

  pub cumulative-done : (p : Put) → uncollected L w true limit h o ≡ 0 → p ≡ put_slots L w h (due_of true h.kept) o
      → record { answer = success p.next.place; held = h; out = p.output } ≡ cumulative_collected L w limit h o
  unfolding cumulative_collected
  cumulative-done p e q = done-with true h.kept h.kept p e q refl
