-- The directory's calls are the map's steps, for any kind of series. Assumes nothing.
use Rattle.std.specs.Prelude.{Ok, Err, Result, ℕ}
use Rattle.std.proofs.Common.{◌≡◌, ℕ, zero, suc, ◌+◌, ◌<◌, ◌≤◌, Bool, true, false, ◌&&◌, eqb, ltb, leb, List, [], ◌∷◌, map, length, get_or, sym, refl, ap, ◌∙◌, inl, inr, ⊎_elim, arith, get_or-set_other, get_or-set_same, leb-true}
use Prim.Native.Nat.{Ordering}
use mathlib.Core.Option.{Option, none, some}
use Rattle.tally.specs.Sets.{Set, cmp, Rising, Above}
use Rattle.tally.specs.Kind.{Kind}
use Rattle.tally.specs.Map.{Entry, named}
use Rattle.tally.proofs.MapSteps.{put, rebound}
use Rattle.laws.proofs.Cases.{lt-not-eq}
use Rattle.tally.proofs.Order.{lt_gt, cmp-self}
use Rattle.laws.proofs.Cases.{and-true}
use Rattle.sets.specs.All.{allb}
use Rattle.sets.specs.Rows.{span, set_of}
use Rattle.sets.proofs.Keyed.{after-empty}
use Rattle.directory.specs.Calls.{bound_to, scan}
use Rattle.directory.specs.View.{Stores, set_at, birth_at, place_at, slotsb, agreesb, entry_at}
use Rattle.directory.specs.declared.Directory.{Directory}
use Rattle.directory.proofs.Agreed.{slot-sizes, place-slot, place-rise}
use Rattle.directory.proofs.Checks.{set-named}
use Rattle.directory.proofs.Rises.{In, rising-span, above-span, span_in}
use Rattle.laws.specs.Pick.{pick}

-- the slots of a directory, ascending by set
abbrev pub slots_of : Directory → Stores → List ℕ
slots_of d s = 0 ∷ span s.order 0 d.used

-- agreement's parts
module _ (limit : ℕ) (d : Directory) (s : Stores) (g : agreesb limit d s ≡ true) where
  pub few : d.used ≤ limit + 1
  unfolding agreesb
  few = leb-true _ _ (and-true (leb d.used (limit + 1)) _ g).0

  pub slots-right : slotsb d.used d.last s.sets s.entries ≡ true
  unfolding agreesb
  slots-right = (and-true (slotsb d.used d.last s.sets s.entries) _ (and-true (leb d.used (limit + 1)) _ g).1).0

  pub places-right : allb d.used (place_at s.sets s.order d.used) ≡ true
  unfolding agreesb
  places-right = (and-true (allb d.used (place_at s.sets s.order d.used)) _ (and-true (slotsb d.used d.last s.sets s.entries) _ (and-true (leb d.used (limit + 1)) _ g).1).1).0

  -- its sets ascend
  pub ascends : Rising (map (set_at s.sets) (slots_of d s))
  ascends = (
    above-span (set_at s.sets) [] s.order 0 d.used (λ j a b. first j (omega arith)),
    rising-span (set_at s.sets) s.order 0 d.used (λ j a b. place-rise d.used s.sets s.order places-right j (omega arith)),
  )
    where
      first : (j : ℕ) → j < d.used → cmp [] (set_at s.sets (get_or s.order j 0)) ≡ Ordering.lt
      first j h =
          let p = place-slot d.used s.sets s.order places-right j h in
          rw (set-named s.sets (get_or s.order j 0) p.0) (after-empty (get_or s.sets (get_or s.order j 0) []) (slot-sizes d.used d.last s.sets s.entries slots-right (get_or s.order j 0) p.0 p.1).0)

-- the sets at the places, as rows
pub place-climb : (used : ℕ) (sets : List (List ℕ)) (order : List ℕ) → allb used (place_at sets order used) ≡ true → (k : ℕ) → suc k < used
    → cmp (set_of (get_or sets (get_or order k 0) [])) (set_of (get_or sets (get_or order (suc k) 0) [])) ≡ Ordering.lt
place-climb used sets order e k h =
    let a = set-named sets (get_or order k 0) (place-slot used sets order e k (omega arith)).0 in
    let b = set-named sets (get_or order (suc k) 0) (place-slot used sets order e (suc k) h).0 in
    ap (λ r. cmp r (set_of (get_or sets (get_or order (suc k) 0) []))) (sym a)
    ∙ ap (λ r. cmp (set_at sets (get_or order k 0)) r) (sym b)
    ∙ place-rise used sets order e k h

-- a slot of the list is not below what all are above
pub above_in : (g : ℕ → Set) (s : Set) (l : List ℕ) (x : ℕ) → Above s (map g l) → In x l → cmp s (g x) ≡ Ordering.lt
above_in g s [] x a m = absurd m
above_in g s (y ∷ l) x a m = ⊎_elim (λ e. rw e a.0) (λ n. above_in g s l x a.1 n) m

-- entries E of slots that ascend by set g, and F that differ from them in slot x alone, where the set is the same: the new one put
module _ (K : Kind) (g : ℕ → Set) (E F : ℕ → Entry K) (own : (y : ℕ) → (E y).set ≡ g y) (x : ℕ) (same : (F x).set ≡ g x) where
  abbrev Off : List ℕ → Type 0
  Off l = (y : ℕ) → In y l → (y ≡ x → ⊥) → F y ≡ E y

  keep-map : (l : List ℕ) → Off l → (In x l → ⊥) → map F l ≡ map E l
  keep-map [] o h = refl
  keep-map (y ∷ l) o h = rw (o y (inl refl) (λ e. h (inl (sym e))), keep-map l (λ z m. o z (inr m)) (λ m. h (inr m)))

  pub put-at : (l : List ℕ) → Off l → Rising (map g l) → In x l → map F l ≡ put K (F x) (map E l)
  put-at [] o r m = absurd m
  put-at (y ∷ l) o r m = ⊎_elim here (there (λ i. put-at l (λ z n. o z (inr n)) r.1 i)) m
    where
      self : (z : ℕ) → z ≡ y → In z l → ⊥
      self z e i = lt-not-eq (sym (above_in g (g y) l z r.0 i) ∙ rw e (cmp-self (g y)))

      here : x ≡ y → map F (y ∷ l) ≡ put K (F x) (map E (y ∷ l))
      here e =
          let c : cmp (F x).set (E y).set ≡ Ordering.eq = ap (λ w. cmp w (E y).set) (same ∙ ap g e) ∙ ap (cmp (g y)) (own y) ∙ cmp-self (g y) in
          rw (c, keep-map l (λ z m. o z (inr m)) (self x e)) (ap (λ t. F t ∷ map E l) (sym e))

      there : (In x l → map F l ≡ put K (F x) (map E l)) → In x l → map F (y ∷ l) ≡ put K (F x) (map E (y ∷ l))
      there k i =
          let c : cmp (F x).set (E y).set ≡ Ordering.gt = ap (λ w. cmp w (E y).set) same ∙ ap (cmp (g x)) (own y) ∙ lt_gt (g y) (g x) (above_in g (g y) l x r.0 i) in
          rw (c, o y (inl refl) (λ e. self x (sym e) i)) (ap (λ t. E y ∷ t) (k i))

module _ (K : Kind) (f : ℕ → K.Series) (s : Stores) (x n : ℕ) where
  abbrev s' : Stores
  s' = record { sets = s.sets; entries = bound_to s.entries x n; order = s.order }

  -- other slots' entries stay
  rebind-other : (y : ℕ) → (y ≡ x → ⊥) → entry_at K f s' y ≡ entry_at K f s y
  unfolding bound_to
  rebind-other zero h = rw (get_or-set_other s.entries x zero (get_or (get_or s.entries x []) 0 0 ∷ n ∷ get_or (get_or s.entries x []) 2 0 ∷ []) [] h)
  rebind-other (suc y) h = rw (get_or-set_other s.entries x (suc y) (get_or (get_or s.entries x []) 0 0 ∷ n ∷ get_or (get_or s.entries x []) 2 0 ∷ []) [] h)

  rebind-same : (y : ℕ) → y ≡ x → x < length s.entries → entry_at K f s' y ≡ rebound K (entry_at K f s y) n
  unfolding bound_to
  rebind-same zero e h = rw (← e, get_or-set_same s.entries zero (get_or (get_or s.entries zero []) 0 0 ∷ n ∷ get_or (get_or s.entries zero []) 2 0 ∷ []) [] (rw (← e) at h))
  rebind-same (suc y) e h = rw (← e, get_or-set_same s.entries (suc y) (get_or (get_or s.entries (suc y) []) 0 0 ∷ n ∷ get_or (get_or s.entries (suc y) []) 2 0 ∷ []) [] (rw (← e) at h))

  -- changing the bindings of a slot that is held is putting its entry
  pub rebind-put : (l : List ℕ) → Rising (map (set_at s.sets) l) → In x l → x < length s.entries → map (entry_at K f s') l ≡ put K (rebound K (entry_at K f s x) n) (map (entry_at K f s) l)
  rebind-put l g m h =
      put-at K (set_at s.sets) (entry_at K f s) (entry_at K f s') (λ y. refl) x refl l (λ y i q. rebind-other y q) g m
      ∙ ap (λ e. put K e (map (entry_at K f s) l)) (rebind-same x refl h)

-- the scan for a handle
module _ (K : Kind) (f : ℕ → K.Series) (s : Stores) (h : ℕ) where
  abbrev pub entry_of : Result ℕ ℕ → Option (Entry K)
  entry_of (Ok x) = some (entry_at K f s x)
  entry_of (Err r) = none

  named_step : (b : Bool) (y : ℕ) (l : List ℕ) → named K h (map (entry_at K f s) l) ≡ entry_of (scan h s.entries l)
      → pick b (some (entry_at K f s y)) (named K h (map (entry_at K f s) l)) ≡ entry_of (pick b (Ok y) (scan h s.entries l))
  unfolding pick
  named_step true y l e = refl
  named_step false y l e = e

  pub named-scan : (l : List ℕ) → named K h (map (entry_at K f s) l) ≡ entry_of (scan h s.entries l)
  named-scan [] = refl
  named-scan (y ∷ l) = named_step (eqb (birth_at s.entries y) h && ltb 0 (get_or (get_or s.entries y []) 1 0)) y l (named-scan l)

held-is : (x y : ℕ) → ◌≡◌ {A = Result ℕ ℕ} (Ok x) (Ok y) → x ≡ y
held-is x y e = cc

room-no : {A : Type 0} (r x : ℕ) → ◌≡◌ {A = Result ℕ ℕ} (Err r) (Ok x) → A
room-no r x e = let z : ◌≡◌ {A = ℕ} 0 1 = cc in absurd (omega arith)

module _ (h : ℕ) (entries : List (List ℕ)) (x : ℕ) where
  in_step : (b : Bool) (y : ℕ) (l : List ℕ) → (scan h entries l ≡ Ok x → In x l) → pick b (Ok y) (scan h entries l) ≡ Ok x → In x (y ∷ l)
  unfolding pick
  in_step true y l k e = inl (sym (held-is y x e))
  in_step false y l k e = inr (k e)

  pub scan_in : (l : List ℕ) → scan h entries l ≡ Ok x → In x l
  scan_in [] e = room-no 0 x e
  scan_in (y ∷ l) e = in_step (eqb (birth_at entries y) h && ltb 0 (get_or (get_or entries y []) 1 0)) y l (scan_in l) e

-- a slot of the directory is one of those used
pub slot-used : (limit : ℕ) (d : Directory) (s : Stores) → agreesb limit d s ≡ true → (x : ℕ) → In x (slots_of d s) → x ≤ d.used
slot-used limit d s g x m =
    ⊎_elim (λ e. omega arith)
    (λ i. span_in (λ (y : ℕ). y ≤ d.used) s.order 0 d.used (λ j a b. (place-slot d.used s.sets s.order (places-right limit d s g) j (omega arith)).1) x i) m
