-- A seating is the place that the map's recording comes to, and what is committed there is the map with the new series written, for any
-- kind of series. Assumes nothing.
use Rattle.std.specs.Prelude.{Ok, Err}
use Prim.Native.Nat.{ℕ, suc, ◌+◌, ◌^◌, ◌≤◌, ◌<◌}
use mathlib.Core.Path.{◌≡◌, refl, ap, sym, subst, ◌∙◌}
use mathlib.Core.Logic.{inl, inr, ⊎_elim}
use mathlib.Core.Bool.{true, false}
use mathlib.Core.List.{List, [], ◌∷◌, ◌++◌, map}
use mathlib.Core.Option.{none, some}
use native.Mathlib.Omega.{arith}
use native.Mathlib.Numerals.{add-one}
use borrow.Author.Tests.{ltb-true, lt-ltb, le-ltb}
use lib.ListN.{length, set, take, drop, length-set}
use Rattle.laws.specs.Pick.{pick}
use Rattle.laws.proofs.Cases.{true-not-false}
use Rattle.tally.specs.Sets.{Set, overflow, Rising}
use Rattle.tally.specs.Kind.{Kind}
use Rattle.tally.specs.Map.{Entry, Map, find, keys}
use Rattle.tally.proofs.MapSteps.{fits, put, new, Place, held, place, write}
use Rattle.tally.proofs.Rising.{rising-insert}
use Rattle.tally.proofs.Entries.{keys-put, put-put}
use Rattle.sets.specs.Rows.{span, set_of}
use Rattle.sets.specs.Inserted.{inserted}
use Rattle.directory.specs.View.{Stores, set_at, agreesb, sought, entry_at, view}
use Rattle.directory.specs.Calls.{Kept, over_row, located, admitted}
use Rattle.directory.specs.declared.Directory.{Directory}
use Rattle.directory.specs.declared.Target.{Target}
use Rattle.directory.specs.declared.Target.TheVariants.{Disagrees, Old, New, Over}
use Rattle.directory.proofs.Rises.{In, keys-map}
use Rattle.directory.proofs.Laws.{slots_of, few, slot-used, ascends}
use Rattle.sets.proofs.Spans.{span-inserted}
use Rattle.directory.proofs.Admits.{room-rank, new-entry, admit-put}
use Rattle.directory.proofs.Located.{Facts, facts, over-set, sought-held, room-new, room-over, place-held, place-over-held, place-new, place-over}
use Rattle.directory.proofs.Laid.{in_around}
use Rattle.seats.specs.Seats.{away, held_seat, new_seat, seat_at, seated, marked_in, committed, Seating}
use Rattle.seats.proofs.Recording.{held_at, Others, served}
use Rattle.seats.proofs.Commits.{commit-old, commit-new, commit-over}
use Rattle.seats.proofs.Marked.{mark-put}
use Rattle.seats.proofs.Seatings.{new-either, old_in}

in_mid : (a b : List ℕ) (x : ℕ) → In x (a ++ (x ∷ b))
in_mid [] b x = inl refl
in_mid (y ∷ a) b x = inr (in_mid a b x)

module _ (K : Kind) (f : ℕ → K.Series) (z : K.Settings) (d : Directory) (s : Stores) where
  -- the seating is the place p: its birth number fits, its slot has the entry's series; and with any series there, the others as they
  -- were, what is kept is the map with it written
  pub record Sits (a : Seating) (k : Kept) (p : Place K) : Type 0 where
    pub fit : fits p.last ≡ true
    pub series : p.entry.series ≡ held_at K f a
    pub kept : (h : ℕ → K.Series) → Others K f h d a.slot
        → view K h z k.dir k.stores ≡ write K (view K f z d s) p (served K p.entry (h a.slot))

-- the seating is refused because the birth number of a new entry at the place p does not fit
pub record Spent (K : Kind) (a : Seating) (p : Place K) : Type 0 where
  pub no : a.no ≡ 9
  pub full : fits p.last ≡ false
  pub series : p.entry.series ≡ none

module _ (K : Kind) (f : ℕ → K.Series) (z : K.Settings) (limit : ℕ) (d : Directory) (s : Stores) (g : agreesb limit d s ≡ true)
    (ls : limit + 2 ≤ length s.sets) (le : limit + 2 ≤ length s.entries) (lo : limit + 2 ≤ length s.order) where
  abbrev m : Map K
  m = view K f z d s

  -- at a slot that is held
  pub old-sits : d.last < 2 ^ 64 → (x : ℕ) → In x (slots_of d s) → Sits K f z d s (held_seat s.entries x) (marked_in (record { dir = d; stores = s }) x) (held K m (entry_at K f s x))
  old-sits small x i =
      record {
        fit = lt-ltb d.last (2 ^ 64) small;
        series = refl;
        kept = λ h o.
            let u = slot-used limit d s g x i in
            ap (λ l. record { settings = z; count = d.count; last = d.last; entries = l })
            (mark-put K f h s x (slots_of d s) (λ y j n. o y (slot-used limit d s g y j) n) (ascends limit d s g) i (omega (arith, few limit d s g)));
      }

  -- at a new one
  module _ (row : List ℕ) (r more count : ℕ) (c : d.count + more ≡ count) (e : sought (set_of row) d.used s.sets s.order ≡ Err r) (u : d.used ≤ limit) where
    abbrev x : ℕ
    x = d.used + 1

    abbrev t : Stores
    t =
        record {
          sets = set s.sets x row;
          entries = set s.entries x ((d.last + 1) ∷ 0 ∷ 0 ∷ []);
          order = inserted s.order d.used r x;
        }

    abbrev slots : List ℕ
    slots = 0 ∷ span t.order 0 x

    abbrev made : Entry K
    made = new K (set_of row) (d.last + 1)

    -- the map with the entry made
    made-map : view K f z (record { used = x; count = d.count + more; last = d.last + 1 }) t
        ≡ record { settings = z; count = d.count + more; last = d.last + 1; entries = put K made m.entries }
    unfolding admitted
    made-map = admit-put K f z limit d s g row r more 0 (omega arith) (omega arith) (omega arith) e

    made-is : map (entry_at K f t) slots ≡ put K made m.entries
    made-is = ap (λ (v : Map K). v.entries) made-map

    -- its slots ascend by set
    climbs : Rising (map (set_at t.sets) slots)
    climbs =
        subst Rising (sym (ap (keys K) made-is ∙ keys-put K made m.entries) ∙ keys-map K f t slots)
        (rising-insert (set_of row) (keys K m.entries) (subst Rising (sym (keys-map K f s (slots_of d s))) (ascends limit d s g)))

    places : span t.order 0 x ≡ take r (span s.order 0 d.used) ++ (x ∷ drop r (span s.order 0 d.used))
    places = span-inserted s.order d.used r x (room-rank K f z limit d s g (set_of row) r e).2 (omega arith)

    last_in : In x slots
    last_in = inr (subst (In x) (sym places) (in_mid (take r (span s.order 0 d.used)) (drop r (span s.order 0 d.used)) x))

    before_in : (y : ℕ) → In y slots → (y ≡ x → ⊥) → y ≤ d.used
    before_in y (inl q) n = omega arith
    before_in y (inr j) n =
        ⊎_elim (λ q. absurd (n q)) (λ i. slot-used limit d s g y (inr i)) (in_around (span s.order 0 d.used) r x y (subst (In y) places j))

    entry-is : entry_at K f t x ≡ made
    entry-is =
        let v : suc d.used ≡ x = omega arith in
        subst (λ (y : ℕ). entry_at K f t y ≡ made) v (new-entry K f z limit d s g row r more 0 (omega arith) (omega arith) (omega arith) d.used v)

    -- the map with its series put
    served-map : (h : ℕ → K.Series) → Others K f h d x
        → view K h z (marked_in (admitted d s row r more 0) x).dir (marked_in (admitted d s row r more 0) x).stores
        ≡ record { settings = z; count = d.count + more; last = d.last + 1; entries = put K (served K made (h x)) m.entries }
    unfolding admitted
    served-map h o =
        ap (λ l. record { settings = z; count = d.count + more; last = d.last + 1; entries = l })
        (mark-put K f h t x slots (λ y i n. o y (before_in y i n) n) climbs last_in (omega (arith, length-set s.entries x ((d.last + 1) ∷ 0 ∷ 0 ∷ [])))
        ∙ ap (λ v. put K (served K v (h x)) (map (entry_at K f t) slots)) entry-is
        ∙ ap (put K (served K made (h x))) made-is
        ∙ put-put K made (served K made (h x)) m.entries refl)

    pub new-sits : (q : Target) → d.last < 18446744073709551615
        → Sits K f z d s (record { no = 0; slot = x; updated = false; target = q }) (marked_in (admitted d s row r more 0) x)
        (record { entry = new K (set_of row) (suc d.last); count = count; last = suc d.last })
    unfolding pick
    new-sits q n =
        let F : (h : ℕ → K.Series) → ℕ → ℕ → Map K = λ h k l. record { settings = z; count = k; last = l; entries = put K (served K (new K (set_of row) l) (h x)) m.entries } in
        record {
          fit = lt-ltb (suc d.last) (2 ^ 64) (omega arith);
          series = refl;
          kept = λ h o. served-map h o ∙ ap (λ k. F h k (d.last + 1)) c ∙ ap (λ l. F h count l) (add-one d.last);
        }

  -- BY SET
  module _ (row : List ℕ) (small : d.last < 2 ^ 64) where
    abbrev p : Place K
    p = place K limit m (set_of row)

    -- what is claimed of a seating
    abbrev Sat : Seating → Type 0
    Sat a = a.no ≡ 0 → Sits K f z d s a (committed d s row a.target) p

    -- it holds where what is committed and the place are known
    known : (a : Seating) (k : Kept) (w : Place K) → committed d s row a.target ≡ k → p ≡ w → Sits K f z d s a k w → Sits K f z d s a (committed d s row a.target) p
    known a k w i j h = subst (λ o. Sits K f z d s a o p) (sym i) (subst (λ v. Sits K f z d s a k v) (sym j) h)

    new_sat : (q : Target) (new_row : List ℕ) (r more count : ℕ) → committed d s row q ≡ marked_in (admitted d s new_row r more 0) (d.used + 1) → d.count + more ≡ count
        → sought (set_of new_row) d.used s.sets s.order ≡ Err r → d.used ≤ limit
        → p ≡ record { entry = new K (set_of new_row) (suc d.last); count = count; last = suc d.last } → Sat (new_seat d q)
    new_sat q new_row r more count i c e u j =
        new-either d q Sat (λ h n. absurd (omega arith))
        (λ h n. known (record { no = 0; slot = d.used + 1; updated = false; target = q }) _ _ i j (new-sits new_row r more count c e u q h))

    over-is : (x : ℕ) → sought (set_of over_row) d.used s.sets s.order ≡ Ok x → find K overflow m.entries ≡ some (entry_at K f s x)
    over-is x e = subst (λ w. find K w m.entries ≡ some (entry_at K f s x)) over-set (sought-held K f z d s (set_of over_row) x e).1

    over_none : (q : ℕ) → sought (set_of over_row) d.used s.sets s.order ≡ Err q → find K overflow m.entries ≡ none
    over_none q e = subst (λ w. find K w m.entries ≡ none) over-set (room-rank K f z limit d s g (set_of over_row) q e).0

    none_of : (r : ℕ) → sought (set_of row) d.used s.sets s.order ≡ Err r → find K (set_of row) m.entries ≡ none
    none_of r e = (room-rank K f z limit d s g (set_of row) r e).0

    -- the place, by where the call goes
    abbrev place_of : Target → Place K
    place_of Disagrees = p
    place_of (Old x) = held K m (entry_at K f s x)
    place_of (New r) = record { entry = new K (set_of row) (suc d.last); count = suc d.count; last = suc d.last }
    place_of (Over q) = record { entry = new K overflow (suc d.last); count = d.count; last = suc d.last }

    place_is : (t : Target) → Facts limit d s row t → p ≡ place_of t
    place_is Disagrees y = refl
    place_is (Old x) y =
        ⊎_elim (λ e. place-held K limit m (set_of row) (entry_at K f s x) (sought-held K f z d s (set_of row) x e).1)
        (λ e. place-over-held K limit m (set_of row) (entry_at K f s x) (none_of e.0 e.1) e.2 (over-is x e.3)) y.1
    place_is (New r) y = place-new K limit m (set_of row) (none_of r y.1) y.2
    place_is (Over q) y = let e = y.1 in place-over K limit m (set_of row) (none_of e.0 e.1) e.2 (over_none q e.3)

    target_sat : (t : Target) → located limit d s row ≡ t → Facts limit d s row t → Sat (seat_at d s t)
    target_sat Disagrees i y = true-not-false (sym g ∙ y)
    target_sat (Old x) i y = λ n. known (held_seat s.entries x) _ _ (commit-old d s row x) (place_is (Old x) y) (old-sits small x (old_in limit d s row x i))
    target_sat (New r) i y =
        new_sat (New r) row r 1 (suc d.count) (commit-new d s row r) (add-one d.count) y.1 (room-new limit d s g (ltb-true _ _ y.2)) (place_is (New r) y)
    target_sat (Over q) i y =
        let e = y.1 in
        new_sat (Over q) over_row q 0 d.count (commit-over d s row q) (omega arith) e.3 (room-over limit d s g q e.3)
        (subst (λ w. p ≡ record { entry = new K w (suc d.last); count = d.count; last = suc d.last }) (sym over-set) (place_is (Over q) y))

    -- a seating that is not refused is the place that the set's recording comes to
    pub seat-sits : (seated limit d s row).no ≡ 0 → Sits K f z d s (seated limit d s row) (committed d s row (seated limit d s row).target) p
    unfolding seated
    seat-sits = target_sat (located limit d s row) refl (facts limit d s row)

    -- and one that is refused is so with 9, exactly because the place's birth number does not fit
    abbrev Out : Seating → Type 0
    Out a = (a.no ≡ 0 → ⊥) → Spent K a p

    born-spent : (q : Target) (w : Set) (count : ℕ) → p ≡ record { entry = new K w (suc d.last); count = count; last = suc d.last } → Out (new_seat d q)
    born-spent q w count e =
        new-either d q Out
        (λ h n. subst (Spent K (away 9)) (sym e) (record { no = refl; full = le-ltb (suc d.last) (2 ^ 64) (omega arith); series = refl }))
        (λ h n. absurd (n refl))

    target-spent : (t : Target) → Facts limit d s row t → Out (seat_at d s t)
    target-spent Disagrees y = true-not-false (sym g ∙ y)
    target-spent (Old x) y = λ n. absurd (n refl)
    target-spent (New r) y = born-spent (New r) (set_of row) (suc d.count) (place_is (New r) y)
    target-spent (Over q) y = born-spent (Over q) overflow d.count (place_is (Over q) y)

    pub seat-spent : ((seated limit d s row).no ≡ 0 → ⊥) → Spent K (seated limit d s row) p
    unfolding seated
    seat-spent = target-spent (located limit d s row) (facts limit d s row)
