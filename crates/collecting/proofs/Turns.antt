-- A turn of the loops over the slots as code makes it: what it knows of the slot, and the invariant before and after. Assumes nothing.
use Prim.Native.Nat.{ℕ, suc, ◌+◌, ◌≤◌, ◌<◌}
use mathlib.Core.Path.{◌≡◌, refl, sym, ap, subst, ◌∙◌}
use mathlib.Core.Bool.{Bool, true, false, not, ◌&&◌, ◌||◌}
use mathlib.Core.List.{List, ◌∷◌}
use native.Mathlib.Omega.{arith}
use native.Mathlib.Numerals.{add-one}
use lib.Dec.{eqb}
use lib.ListN.{length, get_or, take}
use Rattle.laws.specs.Lists.{only}
use Rattle.laws.specs.Tests.{all}
use Rattle.tally.specs.Kind.{Kind}
use Rattle.sets.specs.Rows.{row_of}
use Rattle.directory.specs.View.{set_at, updated_in}
use Rattle.value_map.specs.Store.{Store}
use Rattle.value_map.specs.Calls.{Held}
use Rattle.listing.specs.declared.Cursor.{Cursor}
use Rattle.listing.specs.Listed.{Output}
use Rattle.listing.specs.Inner.{Put, left}
use Rattle.collecting.specs.Lister.{Lister}
use Rattle.collecting.specs.Collected.{room_of, slots_of, due, due_of, roomy}
use Rattle.collecting.specs.Slots.{unsound, Place, surveyed_at, counted, surveyed, put_slot, put_slots}
use Rattle.collecting.specs.declared.Survey.{Survey}
use Rattle.collecting.proofs.Nexts.{slot_is}
use Rattle.collecting.proofs.Surveys.{agreed, survey-turn, agree-turn, survey-none, turn-sound, turn-unsound, survey-all}
use Rattle.collecting.proofs.Puts.{put-none, put-room, put-turn, put_all}

module _ {K : Kind} {S : Store K} (L : Lister S) (w : S.Switches) (cumulative : Bool) (h : Held S.Cells) where
  abbrev used : ℕ
  used = h.kept.dir.used

  abbrev slot : ℕ → ℕ
  slot i = get_or (slots_of h.kept) i 0

  abbrev u : ℕ → Bool
  u x = updated_in h.kept.stores.entries x

  -- what the calls `slot_at`, `is_updated` and `is_due` say at place i
  pub record Seen (i x : ℕ) (updated asked : Bool) : Type 0 where
    pub place : i ≤ h.kept.dir.used
    pub slot : x ≡ get_or (0 ∷ h.kept.stores.order) i 0
    pub updated-is : updated ≡ updated_in h.kept.stores.entries x
    pub asked_is : asked ≡ (updated || (cumulative && not (eqb x 0)))

  module _ (i x : ℕ) (updated asked : Bool) (t : Seen i x updated asked) where
    pub seen-slot : x ≡ slot i
    seen-slot = t.slot ∙ slot_is h.kept.stores.order used i t.place

    pub seen-updated : updated ≡ u (slot i)
    seen-updated = t.updated-is ∙ ap u seen-slot

    pub seen-due : asked ≡ due cumulative h.kept (slot i)
    seen-due = t.asked_is ∙ (λ j. seen-updated j || (cumulative && not (eqb (seen-slot j) 0)))

  -- ---- the survey before place i
  pub record Surveying (i : ℕ) (s : Survey) : Type 0 where
    pub is : s ≡ counted L w cumulative h (take i (slots_of h.kept))
    pub agree : all (agreed L w h) (take i (slots_of h.kept)) ≡ true

  pub surveying-start : Surveying 0 (record { sound = true; points = 0; pos = 0; neg = 0 })
  surveying-start = record { is = refl; agree = refl }

  module _ (i x : ℕ) (updated asked : Bool) (t : Seen i x updated asked) (s next : Survey) (g : Surveying i s) (e : next ≡ surveyed_at L w updated asked h.cells s x) where
    turned : next ≡ surveyed_at L w (u (slot i)) (due cumulative h.kept (slot i)) h.cells (counted L w cumulative h (take i (slots_of h.kept))) (slot i)
    turned = e ∙ (λ j. surveyed_at L w (seen-updated i x updated asked t j) (seen-due i x updated asked t j) h.cells (g.is j) (seen-slot i x updated asked t j))

    pub surveying-next : next.sound ≡ true → Surveying (i + 1) next
    surveying-next z =
        let a = turn-sound L w h cumulative (counted L w cumulative h (take i (slots_of h.kept))) (slot i) (sym (ap (λ (q : Survey). q.sound) turned) ∙ z) in
        subst (λ (n : ℕ). Surveying n next) (sym (add-one i))
        (record { is = turned ∙ survey-turn L w h cumulative i t.place a; agree = agree-turn L w h cumulative i t.place g.agree a })

    -- a series that disagrees decides it
    pub surveying-stop : next.sound ≡ false → unsound ≡ surveyed L w cumulative h
    surveying-stop z =
        let a = turn-unsound L w h cumulative (counted L w cumulative h (take i (slots_of h.kept))) (slot i) refl (sym (ap (λ (q : Survey). q.sound) turned) ∙ z) in
        sym (survey-none L w h cumulative i t.place a)

  pub surveying-end : (i : ℕ) (s : Survey) → used < i → i ≤ used + 1 → Surveying i s → s ≡ surveyed L w cumulative h
  surveying-end i s a b g =
      let e : i ≡ suc used = omega arith in
      let f = subst (λ (n : ℕ). Surveying n s) e g in
      f.is ∙ sym (survey-all L w h cumulative f.agree)

  -- ---- the output before place i
  module _ (o : Output) where
    abbrev pub Putting : ℕ → Cursor → Output → Type 0
    Putting i at out = left at out ≡ put_slots L w h (only (due cumulative h.kept) (take i (slots_of h.kept))) o

    pub putting-start : Putting 0 (record { place = 0; pos = 0; neg = 0 }) o
    putting-start = sym (put-none L w h o)

    pub putting-end : (i : ℕ) (at : Cursor) (out : Output) → used < i → i ≤ used + 1 → Putting i at out → left at out ≡ put_slots L w h (due_of cumulative h.kept) o
    putting-end i at out a b g =
        let e : i ≡ suc used = omega arith in
        subst (λ (n : ℕ). Putting n at out) e g ∙ put_all L w h o cumulative

    module _ (r : roomy L w h (due_of cumulative h.kept) (room_of o) ≡ true) (i x : ℕ) (updated asked : Bool) (t : Seen i x updated asked) (at : Cursor) (out : Output) (g : Putting i at out) where
      pub putting-room : asked ≡ true → Place at out (length (L.pos h.cells x updated)) (length (L.neg h.cells x updated))
      putting-room z =
          let p : length (L.pos h.cells (slot i) (u (slot i))) ≡ length (L.pos h.cells x updated) =
          sym (λ j. length (L.pos h.cells (seen-slot i x updated asked t j) (seen-updated i x updated asked t j))) in
          let n : length (L.neg h.cells (slot i) (u (slot i))) ≡ length (L.neg h.cells x updated) =
          sym (λ j. length (L.neg h.cells (seen-slot i x updated asked t j) (seen-updated i x updated asked t j))) in
          let q = put-room L w h o cumulative r i t.place (sym (seen-due i x updated asked t) ∙ z) in
          subst (λ (m : ℕ). Place at out (length (L.pos h.cells x updated)) m) n
          (subst (λ (m : ℕ). Place at out m (length (L.neg h.cells (slot i) (u (slot i))))) p
          (subst (λ (y : Put). Place y.next y.output (length (L.pos h.cells (slot i) (u (slot i)))) (length (L.neg h.cells (slot i) (u (slot i))))) (sym g) q))

      pub putting-next : (row : List ℕ) (next : Cursor) (after : Output) → row ≡ row_of (set_at h.kept.stores.sets x)
          → left next after ≡ put_slot L w updated asked h.cells x row at out → Putting (i + 1) next after
      putting-next row next after a e =
          let b : row ≡ row_of (set_at h.kept.stores.sets (slot i)) = a ∙ ap (λ (y : ℕ). row_of (set_at h.kept.stores.sets y)) (seen-slot i x updated asked t) in
          subst (λ (n : ℕ). Putting n next after) (sym (add-one i))
          (e
          ∙ (λ j. put_slot L w (seen-updated i x updated asked t j) (seen-due i x updated asked t j) h.cells (seen-slot i x updated asked t j) (b j) (g j).next (g j).output)
          ∙ put-turn L w h o cumulative r i t.place)
