-- The points of a run as they are stored read as those that were answered, and their counts are there. Assumes nothing.
use Prim.Native.Nat.{ℕ, zero, suc}
use mathlib.Core.Path.{◌≡◌, refl, ap, sym, subst, ◌∙◌}
use mathlib.Core.Logic.{inl, inr}
use mathlib.Core.Bool.{Bool, true, false}
use mathlib.Core.List.{List, [], ◌∷◌, ◌++◌, map, map-append}
use mathlib.Core.Option
use mathlib.Core.Option.{Option, none, some}
use lib.ListN.{get_or}
use lib.Ieee.{Float}
use Rattle.laws.specs.Lists.{All}
use Rattle.laws.specs.Pick.{pick}
use Rattle.laws.specs.Said.{Said, refusal, success}
use Rattle.laws.proofs.Lists.{all_append}
use Rattle.points.specs.Number.{Number}
use Rattle.points.specs.Any.{Handed}
use Rattle.tally.specs.Sets.{Set, same, of_set}
use Rattle.tally.specs.Map.{Answer, refuse, done, handle, listed, sound}
use Rattle.tally.specs.Demand.{points_of, answers}
use Rattle.sets.specs.Rows.{set_of}
use Rattle.directory.specs.Calls.{accepts}
use Rattle.directory.proofs.Rises.{In}
use Rattle.bindings.specs.Calls as Bindings
use Rattle.bindings.specs.Calls.{map_answer}
use Rattle.directory.specs.View.{set_at, updated_in}
use Rattle.sweep.specs.Swept.{swept_kept}
use Rattle.value_map.specs.Store.{Store}
use Rattle.value_map.specs.Calls.{Held, measured, measured_by}
use Rattle.value_map.proofs.Owed.{there, Owed}
use Rattle.listing.specs.Listed.{Output, read_from}
use Rattle.listing.specs.declared.Cursor.{Cursor}
use Rattle.collecting.specs.Lister.{Lister}
use Rattle.collecting.specs.Collected.{Collected, due_of, delta_collected, points_out, listed_or8, answered}
use Rattle.collecting.proofs.Owed.{Finds, Lists}
use Rattle.collecting.proofs.Back.{reads-back}
use Rattle.collecting.proofs.Steps.{due-known, by_cases}
use Rattle.promises.specs.Numbers.{InRuns, kind_of}
use Rattle.promises.specs.Runs.{Asked, recording, recording_by, binding, releasing, collecting, ended, run}
use Rattle.promises.specs.Pooled.{stored_of}
use Rattle.promises.proofs.Runs.{Keeps, Ready, does}

-- ---- WHAT A HISTOGRAM KIND OWES beside: its points in lent output are stored points, whose counts are there
pub record Storing {N : Number} (P : InRuns N) {S : Store (kind_of P)} (L : Lister S) (bounds : List Float) : Type 0 where
  pub found : (at : Cursor) (o : Output) → L.found at o ≡ Option.map (λ x. (P.coded.handed_in x.0, x.1)) (P.found bounds at o)
  pub stored : S.Switches → S.Cells → ℕ → Bool → P.coded.Stored
  pub lies : (w : S.Switches) (c : S.Cells) (x : ℕ) (u : Bool) → S.unset ≡ 0 → L.Lent c → S.Room c x
      → sound (kind_of P) (S.settings w) (there S c x u) ≡ true
      → (P.coded.in_shape (stored w c x u) ≡ true) × Finds (P.found bounds) (L.words w c x u) (L.pos c x u) (L.neg c x u) (stored w c x u)

module _ {N : Number} (P : InRuns N) where
  -- ---- lists
  abbrev read : Set × P.coded.Stored → Set × Handed N
  read p = (p.0, P.coded.handed_in p.1)

  among-read : (r : Set) (l : List (Set × P.coded.Stored)) → map P.coded.handed_in (of_set r l) ≡ of_set r (map read l)
  unfolding pick
  among-read r [] = refl
  among-read r (p ∷ l) = go (among-read r l) (same p.0 r)
    where
      go : map P.coded.handed_in (of_set r l) ≡ of_set r (map read l) → (b : Bool)
          → map P.coded.handed_in (pick b (p.1 ∷ of_set r l) (of_set r l)) ≡ pick b (P.coded.handed_in p.1 ∷ of_set r (map read l)) (of_set r (map read l))
      go i true = ap (λ t. P.coded.handed_in p.1 ∷ t) i
      go i false = i

  abbrev Shaped : List (Set × P.coded.Stored) → Type 0
  Shaped l = All (λ (p : Set × P.coded.Stored). P.coded.in_shape p.1 ≡ true) l

  of-shaped : (r : Set) (l : List (Set × P.coded.Stored)) → Shaped l → All (λ x. P.coded.in_shape x ≡ true) (of_set r l)
  unfolding All pick
  of-shaped r [] a = tt
  of-shaped r (p ∷ l) a = go (of-shaped r l a.1) (same p.0 r)
    where
      go : All (λ x. P.coded.in_shape x ≡ true) (of_set r l) → (b : Bool) → All (λ x. P.coded.in_shape x ≡ true) (pick b (p.1 ∷ of_set r l) (of_set r l))
      go i true = (a.0, i)
      go i false = i

  map-shaped : (f : ℕ → Set) (g : ℕ → P.coded.Stored) (l : List ℕ) → ((x : ℕ) → In x l → P.coded.in_shape (g x) ≡ true) → Shaped (map (λ x. (f x, g x)) l)
  unfolding All
  map-shaped f g [] s = tt
  map-shaped f g (x ∷ l) s = (s x (inl refl), map-shaped f g l (λ y i. s y (inr i)))

  module _ {S : Store (kind_of P)} (L : Lister S) (bounds : List Float) (T : Storing P L bounds) where
    -- ---- READ: the stored points are those that the collection's reader finds
    abbrev handing : Option (P.coded.Stored × Cursor) → Option (Handed N × Cursor)
    handing y = Option.map (λ (x : P.coded.Stored × Cursor). (P.coded.handed_in x.0, x.1)) y

    more-read : (p : Set × P.coded.Stored) (y : Option (List (Set × P.coded.Stored)))
        → Option.map (map read) (Option.map (λ l. p ∷ l) y) ≡ Option.map (λ l. read p ∷ l) (Option.map (map read) y)
    more-read p none = refl
    more-read p (some l) = refl

    step-read : (n : ℕ) (s : Set) (o : Output) → ((at : Cursor) → Option.map (map read) (read_from (P.found bounds) n at o) ≡ read_from L.found n at o)
        → (y : Option (P.coded.Stored × Cursor))
        → Option.map (map read) (elim y [ none ↦ none | some z ↦ Option.map (λ l. (s, z.0) ∷ l) (read_from (P.found bounds) n z.1 o) ])
        ≡ elim (handing y) [ none ↦ none | some z ↦ Option.map (λ l. (s, z.0) ∷ l) (read_from L.found n z.1 o) ]
    step-read n s o i none = refl
    step-read n s o i (some z) =
        more-read (s, z.0) (read_from (P.found bounds) n z.1 o) ∙ ap (λ y. Option.map (λ l. (s, P.coded.handed_in z.0) ∷ l) y) (i z.1)

    from-read : (n : ℕ) (o : Output) (at : Cursor) → Option.map (map read) (read_from (P.found bounds) n at o) ≡ read_from L.found n at o
    from-read zero o at = refl
    from-read (suc n) o at =
        let s = set_of (get_or o.sets at.place []) in
        step-read n s o (from-read n o) (P.found bounds at o)
        ∙ ap (λ (y : Option (Handed N × Cursor)). elim y [ none ↦ none | some z ↦ Option.map (λ l. (s, z.0) ∷ l) (read_from L.found n z.1 o) ]) (sym (T.found at o))

    -- of one answer
    abbrev shown : Set → Answer (kind_of P) → List (Handed N)
    shown r a = elim a [ refuse n ↦ [] | done ↦ [] | handle b ↦ [] | listed ps ↦ of_set r ps ]

    or-read : (r : Set) (y : Option (List (Set × P.coded.Stored))) → map P.coded.handed_in (of_set r (Option.get_or y [])) ≡ shown r (listed_or8 (Option.map (map read) y))
    or-read r none = refl
    or-read r (some l) = among-read r l

    by_read : (r : Set) (a : Said ℕ) (h : Held S.Cells) (o : Output)
        → (let c : Collected S.Cells = record { answer = a; held = h; out = o } in map P.coded.handed_in (of_set r (Option.get_or (points_out (P.found bounds) c) [])) ≡ shown r (answered L c))
    by_read r (refusal n) h o = refl
    by_read r (success n) h o =
        let at : Cursor = record { place = 0; pos = 0; neg = 0 } in
        or-read r (read_from (P.found bounds) n at o) ∙ ap (λ y. shown r (listed_or8 y)) (from-read n o at)

    none_read : (r : Set) (a : Said (Option ℕ)) → ◌≡◌ {A = List (Handed N)} [] (shown r (map_answer (kind_of P) a))
    none_read r (refusal n) = refl
    none_read r (success none) = refl
    none_read r (success (some b)) = refl

  module _ {S : Store (kind_of P)} (W : Owed S) (L : Lister S) (keeps : Keeps L) (bounds : List Float) (T : Storing P L bounds) (w : S.Switches) (Q : Lists L w) (limit : ℕ) (filter : Option (List ℕ)) (a : accepts limit filter ≡ true) where
    -- ---- IN SHAPE: a collection lists slots that agree
    delta-shaped : (h : Held S.Cells) → Ready L limit filter h → (o : Output) → Shaped (Option.get_or (points_out (P.found bounds) (delta_collected L w limit h o)) [])
    unfolding delta_collected All
    delta-shaped h r o =
        let l = due_of false h.kept in
        let u : ℕ → Bool = λ x. updated_in h.kept.stores.entries x in
        let g : ℕ → P.coded.Stored = λ x. T.stored w h.cells x (u x) in
        by_cases W L w Q limit filter h r.fair false (swept_kept h.kept) o (λ c. Shaped (Option.get_or (points_out (P.found bounds) c) [])) (λ b. tt) (λ b n. tt)
        (λ b n.
        let due = due-known W L w Q limit filter h r.fair false b in
        let lies : (x : ℕ) → In x l → (P.coded.in_shape (g x) ≡ true) × Finds (P.found bounds) (L.words w h.cells x (u x)) (L.pos h.cells x (u x)) (L.neg h.cells x (u x)) (g x) =
        λ x i. T.lies w h.cells x (u x) r.fair.set r.lent (due x i).room (due x i).sound-is in
        subst (λ y. Shaped (Option.get_or y [])) (sym (reads-back L w h (P.found bounds) g l o (λ x i. record { found-is = (lies x i).1; set_is = (due x i).set_is })))
        (map-shaped (set_at h.kept.stores.sets) g l (λ x i. (lies x i).0)))

    -- ---- of one call
    abbrev hands_out : Set → Held S.Cells → Asked (kind_of P) → List P.coded.Stored
    hands_out s h x =
        elim x [
          | recording v attrs small ↦ []
          | recording_by b v ↦ []
          | binding attrs small ↦ []
          | releasing b ↦ []
          | collecting o ↦ of_set s (Option.get_or (points_out (P.found bounds) (delta_collected L w limit h o)) [])
        ]

    call-shaped : (s : Set) (h : Held S.Cells) → Ready L limit filter h → (x : Asked (kind_of P)) → All (λ y. P.coded.in_shape y ≡ true) (hands_out s h x)
    unfolding All
    call-shaped s h r (recording v attrs small) = tt
    call-shaped s h r (recording_by b v) = tt
    call-shaped s h r (binding attrs small) = tt
    call-shaped s h r (releasing b) = tt
    call-shaped s h r (collecting o) = of-shaped s (Option.get_or (points_out (P.found bounds) (delta_collected L w limit h o)) []) (delta-shaped h r o)

    call-read : (s : Set) (h : Held S.Cells) (x : Asked (kind_of P)) → map P.coded.handed_in (hands_out s h x) ≡ shown L bounds T s (ended L w limit filter h x).0
    call-read s h (recording v attrs small) = none_read L bounds T s (measured S limit filter h v attrs).answer
    call-read s h (recording_by b v) = none_read L bounds T s (measured_by S limit h v b).answer
    call-read s h (binding attrs small) = none_read L bounds T s (Bindings.bound limit filter h.kept.dir h.kept.stores attrs).answer
    call-read s h (releasing b) = none_read L bounds T s (Bindings.released limit h.kept.dir h.kept.stores b).answer
    call-read s h (collecting o) = let c = delta_collected L w limit h o in by_read L bounds T s c.answer c.held c.out

    -- THE STORED POINTS ARE THOSE ANSWERED
    pub run-read : (s : Set) (xs : List (Asked (kind_of P))) (first h : Held S.Cells)
        → map P.coded.handed_in (stored_of P L bounds w limit filter s h xs) ≡ points_of (kind_of P) s (answers (kind_of P) (run L w limit filter first) h xs)
    run-read s [] first h = refl
    run-read s (x ∷ xs) first h =
        map-append P.coded.handed_in (hands_out s h x) (stored_of P L bounds w limit filter s (ended L w limit filter h x).1 xs)
        ∙ (λ i. call-read s h x i ++ run-read s xs first (ended L w limit filter h x).1 i)

    -- THE COUNTS OF EACH ARE THERE
    pub run-shaped : (s : Set) (xs : List (Asked (kind_of P))) (h : Held S.Cells) → Ready L limit filter h → All (λ x. P.coded.in_shape x ≡ true) (stored_of P L bounds w limit filter s h xs)
    unfolding All
    run-shaped s [] h r = tt
    run-shaped s (x ∷ xs) h r =
        all_append (λ y. P.coded.in_shape y ≡ true) (hands_out s h x) (stored_of P L bounds w limit filter s (ended L w limit filter h x).1 xs)
        (call-shaped s h r x)
        (run-shaped s xs (ended L w limit filter h x).1 (does W L keeps w Q limit filter a h x r).0)
