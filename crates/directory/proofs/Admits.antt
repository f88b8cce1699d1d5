-- A new entry in the next slot is the map with that entry put. Assumes nothing.
use Rattle.std.specs.Prelude.{Ok, Err, Result, ℕ}
use Rattle.std.proofs.Common.{◌≡◌, ℕ, zero, suc, ◌+◌, ◌<◌, ◌≤◌, Bool, true, false, List, [], ◌∷◌, ◌++◌, map, length, take, drop, set, sym, refl, ap, ◌∙◌, subst, inl, inr, arith, get_or-set_other, get_or-set_same}
use Prim.Native.Nat.{Ordering}
use mathlib.Core.Option.{none}
use Rattle.laws.specs.Pick.{pick}
use Rattle.tally.specs.Sets.{Set, cmp, same}
use Rattle.tally.specs.Kind.{Kind}
use Rattle.tally.specs.Map.{Entry, find, keys}
use Rattle.tally.proofs.MapSteps.{put, rebound, new}
use Rattle.tally.proofs.Order.{same-flip}
use Rattle.laws.proofs.Cases.{true-not-false}
use Rattle.tally.proofs.Ranks.{rank, rank-le, put-new}
use Rattle.sets.specs.Inserted.{inserted}
use Rattle.sets.specs.Rows.{span, set_of}
use Rattle.sets.proofs.Spans.{span-inserted}
use Rattle.directory.specs.Calls.{admitted, Kept}
use Rattle.directory.specs.View.{Stores, set_at, agreesb, seek, sought, entry_at, view}
use Rattle.directory.specs.declared.Directory.{Directory}
use Rattle.directory.proofs.Laws.{slot-used, ascends}
use Rattle.directory.proofs.Rises.{In, keys-map, seek-room}

pub length-span : (g : ℕ → Set) (l : List ℕ) (i k : ℕ) → length (map g (span l i k)) ≡ k
length-span g l i zero = refl
length-span g l i (suc k) = ap suc (length-span g l (suc i) k)

map_around : {A : Type 0} (g : ℕ → A) (l : List ℕ) (n x : ℕ) → map g (take n l ++ (x ∷ drop n l)) ≡ take n (map g l) ++ (g x ∷ drop n (map g l))
map_around g [] zero x = refl
map_around g [] (suc n) x = refl
map_around g (y ∷ l) zero x = refl
map_around g (y ∷ l) (suc n) x = ap (λ r. g y ∷ r) (map_around g l n x)

map_same : {A : Type 0} (g h : ℕ → A) (l : List ℕ) → ((y : ℕ) → In y l → g y ≡ h y) → map g l ≡ map h l
map_same g h [] e = refl
map_same g h (y ∷ l) e = rw (e y (inl refl), map_same g h l (λ z m. e z (inr m)))

-- what a search without success says
split-room : (b : Bool) (o : Result ℕ ℕ) (r : ℕ) → pick b (Ok 0) o ≡ Err r → (b ≡ false) × (o ≡ Err r)
unfolding pick
split-room true o r e = let z : ◌≡◌ {A = ℕ} 0 1 = cc in absurd (omega arith)
split-room false o r e = (refl, e)

pub sought-room : (s : Set) (used : ℕ) (sets : List (List ℕ)) (order : List ℕ) (r : ℕ) → sought s used sets order ≡ Err r → (same s [] ≡ false) × (seek s sets (span order 0 used) 0 ≡ Err r)
unfolding sought
sought-room s used sets order r e = split-room (same s []) (seek s sets (span order 0 used) 0) r e

not-empty : (s : Set) → same s [] ≡ false → cmp s [] ≡ Ordering.gt
not-empty [] e = true-not-false e
not-empty (x ∷ k) e = refl

module _ (K : Kind) (f : ℕ → K.Series) (z : K.Settings) (limit : ℕ) (d : Directory) (s : Stores) (g : agreesb limit d s ≡ true) where
  -- where the set would stand among the entries
  pub room-rank : (w : Set) (r : ℕ) → sought w d.used s.sets s.order ≡ Err r
      → (find K w (view K f z d s).entries ≡ none) × (rank w (keys K (view K f z d s).entries) ≡ suc r) × (r ≤ d.used)
  unfolding pick
  room-rank w r e =
      let p = sought-room w d.used s.sets s.order r e in
      let S = span s.order 0 d.used in
      let q = seek-room K f s w S 0 r (ascends limit d s g).1 p.1 in
      let n : same [] w ≡ false = same-flip w [] ∙ p.0 in
      let k : rank w (map (set_at s.sets) S) ≡ r = omega (arith, q.1) in (
        rw n q.0,
        rw (not-empty w p.0, keys-map K f s S) (ap suc k),
        omega (arith, rank-le w (map (set_at s.sets) S), length-span (set_at s.sets) s.order 0 d.used),
      )

  module _ (row : List ℕ) (r more b : ℕ) (ls : d.used + 1 < length s.sets) (le : d.used + 1 < length s.entries) (lo : d.used < length s.order) where
    abbrev sets' : List (List ℕ)
    sets' = set s.sets (d.used + 1) row

    abbrev entries' : List (List ℕ)
    entries' = set s.entries (d.used + 1) ((d.last + 1) ∷ b ∷ 0 ∷ [])

    abbrev t : Stores
    t = record { sets = sets'; entries = entries'; order = inserted s.order d.used r (d.used + 1) }

    old-entry : (y : ℕ) → y ≤ d.used → entry_at K f t y ≡ entry_at K f s y
    old-entry zero h = rw (get_or-set_other s.entries (d.used + 1) zero ((d.last + 1) ∷ b ∷ 0 ∷ []) [] (λ e. omega arith))
    old-entry (suc y) h =
        rw (get_or-set_other s.entries (d.used + 1) (suc y) ((d.last + 1) ∷ b ∷ 0 ∷ []) [] (λ e. omega arith), get_or-set_other s.sets (d.used + 1) (suc y) row [] (λ e. omega arith))

    abbrev made : Entry K
    made = rebound K (new K (set_of row) (d.last + 1)) b

    pub new-entry : (y : ℕ) → suc y ≡ d.used + 1 → entry_at K f t (suc y) ≡ made
    unfolding pick
    new-entry y e =
        rw (← e, get_or-set_same s.entries (suc y) ((d.last + 1) ∷ b ∷ 0 ∷ []) [] (rw (← e) at le), get_or-set_same s.sets (suc y) row [] (rw (← e) at ls))

    -- the map then: the entry put, the count raised by `more`, the birth number spent
    pub admit-put : sought (set_of row) d.used s.sets s.order ≡ Err r
        → view K f z (admitted d s row r more b).dir (admitted d s row r more b).stores
        ≡ record { settings = z; count = d.count + more; last = d.last + 1; entries = put K made (view K f z d s).entries }
    unfolding admitted
    admit-put e =
        let q = room-rank (set_of row) r e in
        let S = span s.order 0 d.used in
        let o = span-inserted s.order d.used r (d.used + 1) q.2 lo in
        let u : suc d.used ≡ d.used + 1 = omega arith in
        let n : entry_at K f t (d.used + 1) ≡ made = subst (λ (y : ℕ). entry_at K f t y ≡ made) u (new-entry d.used u) in
        let same_old : map (entry_at K f t) (0 ∷ S) ≡ map (entry_at K f s) (0 ∷ S) = map_same (entry_at K f t) (entry_at K f s) (0 ∷ S) (λ y m. old-entry y (slot-used limit d s g y m)) in
        let a : map (entry_at K f t) (0 ∷ span t.order 0 (d.used + 1)) ≡ take (suc r) (map (entry_at K f s) (0 ∷ S)) ++ (made ∷ drop (suc r) (map (entry_at K f s) (0 ∷ S))) =
        ap (λ l. map (entry_at K f t) (0 ∷ l)) o
        ∙ map_around (entry_at K f t) (0 ∷ S) (suc r) (d.used + 1)
        ∙ ap (λ l. take (suc r) l ++ (entry_at K f t (d.used + 1) ∷ drop (suc r) l)) same_old
        ∙ ap (λ y. take (suc r) (map (entry_at K f s) (0 ∷ S)) ++ (y ∷ drop (suc r) (map (entry_at K f s) (0 ∷ S)))) n in
        let p : put K made (map (entry_at K f s) (0 ∷ S)) ≡ take (suc r) (map (entry_at K f s) (0 ∷ S)) ++ (made ∷ drop (suc r) (map (entry_at K f s) (0 ∷ S))) =
        put-new K made (map (entry_at K f s) (0 ∷ S)) q.0 ∙ ap (λ (k : ℕ). take k (map (entry_at K f s) (0 ∷ S)) ++ (made ∷ drop k (map (entry_at K f s) (0 ∷ S)))) q.1 in
        ap (λ l. record { settings = z; count = d.count + more; last = d.last + 1; entries = l }) (a ∙ sym p)

-- the birth number that is read off a new state
pub as-made : (k : Kept) (d : Directory) (s : Stores) (row : List ℕ) (r more b : ℕ) → k ≡ admitted d s row r more b → k.dir.last ≡ d.last + 1
unfolding admitted
as-made k d s row r more b e = ap (λ (o : Kept). o.dir.last) e
