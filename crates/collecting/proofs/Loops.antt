-- The loops over the slots, of any kind: their invariants, what a turn may call, and what it keeps. Assumes nothing.
use Prim.Native.Nat.{ℕ, ◌+◌, ◌*◌, ◌≤◌, ◌<◌}
use mathlib.Core.Path.{◌≡◌, refl, sym, ap, subst, ◌∙◌}
use mathlib.Core.Bool.{Bool, true, false, not, ◌||◌}
use mathlib.Core.List.{List, ◌∷◌}
use native.Mathlib.Omega.{arith}
use lib.ListN.{length, get_or, take}
use Rattle.std.specs.Prelude.{Some, None}
use Rattle.laws.specs.Lists.{only}
use Rattle.laws.specs.Pick.{pick}
use Rattle.laws.proofs.Cases.{true-not-false}
use Rattle.tally.specs.Kind.{Kind}
use Rattle.sets.specs.Rows.{row_of}
use Rattle.directory.specs.View.{set_at}
use Rattle.value_map.specs.Store.{Store}
use Rattle.value_map.specs.Calls.{Held}
use Rattle.batches.specs.Inner.{Known}
use Rattle.listing.specs.Listed.{Output}
use Rattle.listing.specs.Inner.{Put, left}
use Rattle.listing.specs.declared.Cursor.{Cursor}
use Rattle.collecting.specs.Lister.{Lister}
use Rattle.collecting.specs.Collected.{slots_of, due}
use Rattle.collecting.specs.Slots.{unsound, sound_of, one_more, Walk, AllKnown, Few, More, surveyed_at, surveyed, Sound, Free, Listable, put_slot, listed_to}
use Rattle.collecting.specs.declared.Sums.{Sums}
use Rattle.collecting.specs.declared.Survey.{Survey}
use Rattle.collecting.proofs.Nexts.{slot_is, slot-most}
use Rattle.collecting.proofs.Surveys.{agree_at}
use Rattle.collecting.proofs.Puts.{laid-long, fit-first}
use Rattle.collecting.proofs.Turns.{Seen, seen-slot, seen-updated, Surveying, surveying-start, surveying-next, surveying-stop, surveying-end}
use Rattle.collecting.proofs.Summed.{sums-are, none-unsound}
use Rattle.collecting.proofs.Turns.{Putting, putting-start, putting-end, putting-room, putting-next}

-- a survey that is not sound says nothing else
unsound-is : (b d : Bool) (s : Survey) (p n : ℕ) → s.sound ≡ true → (pick b (pick d (one_more s p n) s) unsound).sound ≡ false
    → pick b (pick d (one_more s p n) s) unsound ≡ unsound
unfolding pick
unsound-is true true s p n a e = true-not-false e
unsound-is true false s p n a e = true-not-false (sym a ∙ e)
unsound-is false d s p n a e = refl

-- the slot that code finds at a place lies in the stores
pub found-used : {K : Kind} (S : Store K) (h : Held S.Cells) → Walk S h → (i x : ℕ) → i ≤ h.kept.dir.used → x ≡ get_or (0 ∷ h.kept.stores.order) i 0 → x ≤ h.kept.dir.used
found-used S h g i x n e =
    let order = h.kept.stores.order in
    let used = h.kept.dir.used in
    subst (λ (y : ℕ). y ≤ used) (sym (e ∙ slot_is order used i n)) (slot-most order used g.slots i n)

-- a place of a walk over the slots
pub within : (i used : ℕ) → i < used + 1 → i ≤ used
within i used h = omega arith

-- output of the same lengths
pub record Alike (q o : Output) : Type 0 where
  pub sets : length q.sets ≡ length o.sets
  pub words : length q.words ≡ length o.words
  pub pos : length q.pos ≡ length o.pos
  pub neg : length q.neg ≡ length o.neg

module _ {K : Kind} {S : Store K} (L : Lister S) (w : S.Switches) (cumulative : Bool) (h : Held S.Cells) where
  abbrev used : ℕ
  used = h.kept.dir.used

  -- ---- the survey: the first i slots surveyed
  pub record Surveyed (i : ℕ) (s : Survey) : Type 0 where
    pub most : i ≤ h.kept.dir.used + 1
    pub is : Surveying L w cumulative h i s
    pub points : s.points ≤ i
    pub pos : s.pos ≤ i * 160
    pub neg : s.neg ≤ i * 160

  pub survey-start : Surveyed 0 (record { sound = true; points = 0; pos = 0; neg = 0 })
  survey-start = record { most = omega arith; is = surveying-start L w cumulative h; points = omega arith; pos = omega arith; neg = omega arith }

  -- few enough for one more
  pub survey-few : Walk S h → (i : ℕ) (s : Survey) → Surveyed i s → i ≤ h.kept.dir.used → Few s
  survey-few g i s k n = (omega (arith, k.points, g.most), omega (arith, k.pos, g.most), omega (arith, k.neg, g.most))

  -- what is known of the slot that code finds
  pub survey-known : Walk S h → (known : Bool) → AllKnown S w known h → (i x : ℕ) (u d : Bool) → Seen L w cumulative h i x u d → Known S w known x u h.cells
  survey-known g known a i x u d f k e = a x (found-used S h g i x f.place f.slot) k (sym f.updated-is ∙ e)

  module _ (i x : ℕ) (u d : Bool) (f : Seen L w cumulative h i x u d) (s t : Survey) (k : Surveyed i s) (e : t ≡ surveyed_at L w u d h.cells s x) where
    pub survey-next : t.sound ≡ true → More s t → Surveyed (i + 1) t
    survey-next o m =
        record {
          most = omega (arith, f.place);
          is = surveying-next L w cumulative h i x u d f s t k.is e o;
          points = omega (arith, k.points, m.0);
          pos = omega (arith, k.pos, m.1);
          neg = omega (arith, k.neg, m.2);
        }

    pub survey-stop : t.sound ≡ false → t ≡ surveyed L w cumulative h
    unfolding surveyed_at
    survey-stop o =
        e
        ∙ unsound-is (not u || K.agrees (S.settings w) (S.at h.cells x)) d s (length (L.pos h.cells x u)) (length (L.neg h.cells x u))
        (ap (λ (v : Survey). v.sound) k.is.is) (ap (λ (v : Survey). v.sound) (sym e) ∙ o)
        ∙ surveying-stop L w cumulative h i x u d f s t k.is e o

  -- the same of code that keeps the sums: the survey a of the first i slots, made of them, the survey t with a slot more, and what t says its sums are
  module _ (i x : ℕ) (u d : Bool) (f : Seen L w cumulative h i x u d) (s a t : Survey) (k : Surveyed i s) (z : a ≡ s) (e : t ≡ surveyed_at L w u d h.cells a x) where
    turned : t ≡ surveyed_at L w u d h.cells s x
    turned = e ∙ ap (λ (v : Survey). surveyed_at L w u d h.cells v x) z

    pub sums-next : (q : Sums) → (t.sound ≡ true → sound_of q ≡ t) → (t.sound ≡ false → Some q ≡ None) → More a t → Surveyed (i + 1) (sound_of q)
    sums-next q g n m =
        let y = sums-are t q g n in
        survey-next i x u d f s (sound_of q) k (y ∙ turned) refl
        (subst (λ (v : Survey). More v (sound_of q)) z (subst (λ (v : Survey). More a v) (sym y) m))

    pub sums-stop : (t.sound ≡ true → unsound ≡ t) → unsound ≡ surveyed L w cumulative h
    sums-stop g = surveying-stop L w cumulative h i x u d f s t k.is turned (none-unsound t g)

  pub survey-end : (i : ℕ) (s : Survey) → Surveyed i s → h.kept.dir.used < i → s ≡ surveyed L w cumulative h
  survey-end i s k l = surveying-end L w cumulative h i s l k.most k.is

  -- ---- the points put: those of the first i slots
  module _ (o : Output) where
    pub record Listing (i : ℕ) (at : Cursor) (q : Output) : Type 0 where
      pub most : i ≤ h.kept.dir.used + 1
      pub is : Putting L w cumulative h o i at q

    pub list-start : Listing 0 (record { place = 0; pos = 0; neg = 0 }) o
    list-start = record { most = omega arith; is = putting-start L w cumulative h o }

    pub list-end : (i : ℕ) (at : Cursor) (q : Output) → Listing i at q → h.kept.dir.used < i → left at q ≡ listed_to L w cumulative h o
    list-end i at q k l = putting-end L w cumulative h o i at q l k.most k.is

    module _ (g : Listable L w cumulative h o) where
      pub list-alike : (i : ℕ) (at : Cursor) (q : Output) → Listing i at q → Alike q o
      list-alike i at q k =
          let l = laid-long L w h o (only (due cumulative h.kept) (take i (slots_of h.kept))) (fit-first L w h o cumulative g.room i) in
          record {
            sets = ap (λ (p : Put). length p.output.sets) k.is ∙ l.sets;
            words = ap (λ (p : Put). length p.output.words) k.is ∙ l.words;
            pos = ap (λ (p : Put). length p.output.pos) k.is ∙ l.pos;
            neg = ap (λ (p : Put). length p.output.neg) k.is ∙ l.neg;
          }

      module _ (i x : ℕ) (u d : Bool) (f : Seen L w cumulative h i x u d) where
        pub slot-sound : Sound L w u h.cells x
        slot-sound =
            record {
              set = g.walk.set;
              room = g.walk.room x (found-used S h g.walk i x f.place f.slot);
              agrees = (λ j. not (seen-updated L w cumulative h i x u d f j) || K.agrees (S.settings w) (S.at h.cells (seen-slot L w cumulative h i x u d f j)))
                  ∙ agree_at L w h g.agrees i f.place;
            }

        module _ (at : Cursor) (q : Output) (k : Listing i at q) where
          pub slot-free : d ≡ true → Free L w u h.cells x at q
          slot-free e = putting-room L w cumulative h o g.room i x u d f at q k.is e

          pub list-next : (row : List ℕ) → row ≡ row_of (set_at h.kept.stores.sets x) → (at' : Cursor) (q' : Output)
              → left at' q' ≡ put_slot L w u d h.cells x row at q → Listing (i + 1) at' q'
          list-next row r at' q' e =
              record { most = omega (arith, f.place); is = putting-next L w cumulative h o g.room i x u d f at q k.is row at' q' r e }
