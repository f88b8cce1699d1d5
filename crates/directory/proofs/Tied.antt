-- A directory that agrees with itself stands for a map that does: document 01's sentence, part by part; and so agreement is the layout with
-- the map's agreement. Assumes nothing.
use Rattle.std.proofs.Common.{◌≡◌, ℕ, zero, suc, ◌+◌, ◌≤◌, Bool, true, false, List, [], ◌∷◌, map, length, get_or, sym, refl, ap, ◌∙◌, subst, inl, inr, arith}
use mathlib.Core.Option.{some}
use Rattle.laws.specs.Pick.{pick}
use Rattle.laws.proofs.Cases.{some_inj, none-not-some}
use Rattle.tally.specs.Sets.{Set, overflow, same, mem, Rising, Keyed}
use Rattle.tally.specs.Kind.{Kind}
use Rattle.tally.specs.Map.{bit, plains, Config, Entry, find, Agrees}
use Rattle.tally.proofs.Order.{same-eq}
use Rattle.sets.proofs.Keyed.{sound-few, sound_keyed, length-set-of}
use Rattle.directory.specs.View.{Stores, set_at, agreesb, entry_at, view, Agreement}
use Rattle.directory.specs.declared.Directory.{Directory}
use Rattle.directory.proofs.Agreed.{slot-sound}
use Rattle.directory.proofs.Laid.{laid, laid-agrees}
use Rattle.directory.proofs.Laws.{slots_of, slots-right, slot-used, ascends}
use Rattle.directory.proofs.Rises.{In, keys-map}
use Rattle.directory.proofs.Sentence.{own-birth, spent, count-right}

-- an entry that is found stands in a slot
module _ (K : Kind) (f : ℕ → K.Series) (s : Stores) (w : Set) where
  pub record Stands (l : List ℕ) (e : Entry K) : Type 0 where
    pub slot : ℕ
    pub there : In slot l
    pub entry : entry_at K f s slot ≡ e
    pub set : set_at s.sets slot ≡ w

  pub find_in : (l : List ℕ) (e : Entry K) → find K w (map (entry_at K f s) l) ≡ some e → Stands l e
  unfolding pick
  find_in [] e h = none-not-some h
  find_in (y ∷ l) e h = go (same (set_at s.sets y) w) refl h (find_in l e)
    where
      go : (b : Bool) → same (set_at s.sets y) w ≡ b → pick b (some (entry_at K f s y)) (find K w (map (entry_at K f s) l)) ≡ some e
          → (find K w (map (entry_at K f s) l) ≡ some e → Stands l e) → Stands (y ∷ l) e
      go true p q ih = record { slot = y; there = inl refl; entry = some_inj q; set = same-eq (set_at s.sets y) w p }
      go false p q ih = let r = ih q in record { slot = r.slot; there = inr r.there; entry = r.entry; set = r.set }

module _ (limit : ℕ) (d : Directory) (s : Stores) (g : agreesb limit d s ≡ true) where
  -- "each has 1 to 8 attributes with rising keys"
  pub slot_keyed : (x : ℕ) → x ≤ d.used → Keyed (set_at s.sets x) × (length (set_at s.sets x) ≤ 8)
  slot_keyed zero h = (tt, omega arith)
  slot_keyed (suc x) h =
      let row = get_or s.sets (suc x) [] in
      let e = slot-sound d.used d.last s.sets s.entries (slots-right limit d s g) (suc x) (omega arith) h in
      (sound_keyed row e, omega (arith, length-set-of row, sound-few row e))

-- the whole sentence
module _ (K : Kind) (f : ℕ → K.Series) (z : K.Settings) (c : Config K) (d : Directory) (s : Stores) (g : agreesb c.limit d s ≡ true) where
  pub agreed : Agrees K c (view K f z d s)
  unfolding pick
  agreed =
      let k = keys-map K f s (slots_of d s) in
      let n = count-right c.limit d s g in
      record {
        rising = subst Rising (sym k) (ascends c.limit d s g);
        root = (entry_at K f s 0, refl, refl);
        each = λ w e p. each w e (find_in K f s w (slots_of d s) e p);
        apart = λ w v e h p q r. apart w v e h (find_in K f s w (slots_of d s) e p) (find_in K f s v (slots_of d s) h q) r;
        over = n.0;
        there = λ t. subst (λ l. mem overflow l ≡ true) (sym k) (n.1 t);
        count = subst (λ l. d.count ≡ bit n.0 + plains l) (sym k) n.2;
        limit = n.3;
      }
    where
      each : (w : Set) (e : Entry K) → Stands K f s w (slots_of d s) e → Keyed w × (length w ≤ 8) × (e.birth ≤ d.last)
      each w e r =
          let u = slot-used c.limit d s g r.slot r.there in
          let k = slot_keyed c.limit d s g r.slot u in (
            subst Keyed r.set k.0,
            subst (λ v. length v ≤ 8) r.set k.1,
            subst (λ h. h.birth ≤ d.last) r.entry (spent c.limit d s g r.slot u),
          )

      apart : (w v : Set) (e h : Entry K) → Stands K f s w (slots_of d s) e → Stands K f s v (slots_of d s) h → e.birth ≡ h.birth → w ≡ v
      apart w v e h a b r =
          let x = own-birth c.limit d s g a.slot b.slot (slot-used c.limit d s g a.slot a.there) (slot-used c.limit d s g b.slot b.there)
          (ap (λ t. t.birth) a.entry ∙ r ∙ sym (ap (λ t. t.birth) b.entry)) in
          sym a.set ∙ ap (set_at s.sets) x ∙ b.set

-- THE LAW. "The directory agrees" exactly where it is laid out so and stands for a map that agrees
pub agreement : (K : Kind) (f : ℕ → K.Series) (z : K.Settings) (c : Config K) (d : Directory) (s : Stores) → Agreement K f z c d s
agreement K f z c d s = record { laid = laid c.limit d s; agrees = agreed K f z c d s; passes = laid-agrees K f z c d s }
