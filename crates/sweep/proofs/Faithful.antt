-- The swept directory is the map after a delta collection, for any kind of series. Assumes nothing.
use Prim.Native.Nat.{ℕ, zero, suc, ◌-◌, ◌≤◌, ◌<◌}
use mathlib.Core.Path.{◌≡◌, refl, ap, sym, ◌∙◌}
use mathlib.Core.Logic.{inl, inr}
use mathlib.Core.Bool.{Bool, true, false, not, ◌&&◌}
use mathlib.Core.List.{List, [], ◌∷◌, map}
use mathlib.Core.Option.{none, some}
use native.Mathlib.Omega.{arith}
use lib.Dec.{eqb}
use lib.ListN.{length, get_or, length-map}
use lib.Seq.{take_at}
use Rattle.laws.specs.Pick.{pick}
use Rattle.laws.specs.Lists.{only}
use Rattle.laws.specs.Over.{over}
use Rattle.laws.proofs.Bools.{pick_true, pick-false, some?}
use Rattle.tally.specs.Kind.{Kind}
use Rattle.tally.specs.Map.{Entry, plain}
use Rattle.tally.proofs.MapSteps.{idle, reset, sweep, swept}
use Rattle.sets.specs.Rows.{span, set_of}
use Rattle.sets.proofs.Spans.{span-take, span-length}
use Rattle.directory.specs.Calls.{Kept}
use Rattle.directory.specs.View.{Stores, agreesb, entry_at, view}
use Rattle.directory.specs.declared.Directory.{Directory}
use Rattle.directory.proofs.Agreed.{place-slot}
use Rattle.directory.proofs.Covers.{covers}
use Rattle.directory.proofs.Laws.{places-right}
use Rattle.directory.proofs.Rises.{In, span_in}
use Rattle.sweep.specs.Swept.{goes, staying, rank, clear, swept_kept}
use Rattle.laws.proofs.Over.{length_over}
use Rattle.sweep.proofs.Marks.{rank-le, rank-some}
use Rattle.sweep.proofs.Stayers.{olds, rank_mono, old_of, only-count}
use Rattle.sweep.proofs.Whole.{down-front}

-- the places of the front
pub span-over : (new old : List ℕ) (k : ℕ) → length new ≡ k → k ≤ length old → span (over new old) 0 k ≡ new
unfolding over
span-over new old k e h =
    span-take (over new old) k (omega (arith, length_over new old (omega arith))) ∙ take_at new _ k e

-- an entry of a named slot, by its rows
module _ (K : Kind) (f : ℕ → K.Series) where
  abbrev made : List ℕ → List ℕ → K.Series → Entry K
  made row e y =
      record { set = set_of row; birth = get_or e 0 0; bindings = get_or e 1 0; series = pick (not (eqb (get_or e 2 0) 0)) (some y) none }

  named : (s : Stores) (x : ℕ) → 1 ≤ x → entry_at K f s x ≡ made (get_or s.sets x []) (get_or s.entries x []) (f x)
  named s zero h = absurd (omega arith)
  named s (suc x) h = refl

  -- it is idle just where the slot goes
  made-idle : (row e : List ℕ) (y : K.Series) → idle K (made row e y) ≡ goes row e
  unfolding pick
  made-idle row e y = go (eqb (get_or e 2 0) 0)
    where
      go : (b : Bool) → (not (some? (pick (not b) (some y) none)) && (eqb (get_or e 1 0) 0 && plain (set_of row))) ≡ (b && (eqb (get_or e 1 0) 0 && plain (set_of row)))
      go true = refl
      go false = refl

  pub slot-idle : (s : Stores) (x : ℕ) → 1 ≤ x → idle K (entry_at K f s x) ≡ goes (get_or s.sets x []) (get_or s.entries x [])
  slot-idle s x h = ap (idle K) (named s x h) ∙ made-idle (get_or s.sets x []) (get_or s.entries x []) (f x)

  -- the empty set's is not
  pub root-idle : (s : Stores) → idle K (entry_at K f s 0) ≡ false
  root-idle s = go (not (some? (entry_at K f s 0).series)) (eqb (get_or (get_or s.entries 0 []) 1 0) 0)
    where
      go : (a b : Bool) → (a && (b && false)) ≡ false
      go true true = refl
      go true false = refl
      go false b = refl

-- sweeping a list of entries by slot
module _ (K : Kind) (E F : ℕ → Entry K) (p : ℕ → Bool) where
  abbrev Moved : ℕ → Type 0
  Moved q = (idle K (E q) ≡ not (p q)) × (p q ≡ true → F (rank p q) ≡ reset K (E q))

  pub sweep-only : (l : List ℕ) → ((q : ℕ) → In q l → Moved q) → sweep K (map E l) ≡ map F (map (rank p) (only p l))
  sweep-only [] g = refl
  sweep-only (q ∷ l) g = go (p q) refl (g q (inl refl)) (sweep-only l (λ x i. g x (inr i)))
    where
      go : (b : Bool) → p q ≡ b → Moved q → sweep K (map E l) ≡ map F (map (rank p) (only p l)) → sweep K (map E (q ∷ l)) ≡ map F (map (rank p) (only p (q ∷ l)))
      go true e m ih =
          pick-false _ _ _ (m.0 ∙ ap not e)
          ∙ ap (λ (t : List (Entry K)). reset K (E q) ∷ t) ih
          ∙ ap (λ (t : Entry K). t ∷ map F (map (rank p) (only p l))) (sym (m.1 e))
          ∙ sym (ap (λ (t : List ℕ). map F (map (rank p) t)) (pick_true _ _ _ e))
      go false e m ih =
          pick_true _ _ _ (m.0 ∙ ap not e)
          ∙ ih
          ∙ sym (ap (λ (t : List ℕ). map F (map (rank p) t)) (pick-false _ _ _ e))

-- what the stores hold then
module _ (limit : ℕ) (k : Kept) (g : agreesb limit k.dir k.stores ≡ true) (ls : k.dir.used < length k.stores.sets) (le : k.dir.used < length k.stores.entries) (lo : k.dir.used ≤ length k.stores.order) where
  abbrev d : Directory
  d = k.dir

  abbrev s : Stores
  s = k.stores

  abbrev pub p : ℕ → Bool
  p = staying k.stores.sets k.stores.entries

  abbrev pub places : List ℕ
  places = span k.stores.order 0 k.dir.used

  pub place-used : (x : ℕ) → In x places → (1 ≤ x) × (x ≤ d.used)
  place-used x i = span_in (λ (y : ℕ). (1 ≤ y) × (y ≤ d.used)) s.order 0 d.used (λ j a b. place-slot d.used s.sets s.order (places-right limit d s g) j (omega arith)) x i

  pub used-swept : (swept_kept k).dir.used ≡ rank p d.used
  unfolding swept_kept
  used-swept = refl

  pub fewer-swept : (swept_kept k).dir.count ≡ d.count - (d.used - rank p d.used)
  unfolding swept_kept
  fewer-swept = refl

  pub last-swept : (swept_kept k).dir.last ≡ d.last
  unfolding swept_kept
  last-swept = refl

  -- as many places as slots
  pub places-kept : length (map (rank p) (only p places)) ≡ rank p d.used
  places-kept = length-map (only p places) (rank p) ∙ only-count p d.used places (span-length s.order 0 d.used) (covers limit d s g)

  pub order-swept : span (swept_kept k).stores.order 0 (rank p d.used) ≡ map (rank p) (only p places)
  unfolding swept_kept
  order-swept = span-over (map (rank p) (only p places)) s.order (rank p d.used) places-kept (omega (arith, rank-le p d.used))

  pub set-swept : (y : ℕ) → y ≤ rank p d.used → get_or (swept_kept k).stores.sets y [] ≡ get_or s.sets (get_or (olds p d.used) y 0) []
  unfolding swept_kept
  set-swept y h = down-front (λ row. row) p d.used s.sets ls y h

  pub entry-swept : (y : ℕ) → y ≤ rank p d.used → get_or (swept_kept k).stores.entries y [] ≡ clear (get_or s.entries (get_or (olds p d.used) y 0) [])
  unfolding swept_kept
  entry-swept y h = down-front clear p d.used s.entries le y h

  module _ (x : ℕ) (a : 1 ≤ x) (b : x ≤ d.used) (e : p x ≡ true) where
    pub set-kept : get_or (swept_kept k).stores.sets (rank p x) [] ≡ get_or s.sets x []
    set-kept = set-swept (rank p x) (rank_mono p x d.used b) ∙ ap (λ (y : ℕ). get_or s.sets y []) (old_of p d.used x a b e)

    pub entry_kept : get_or (swept_kept k).stores.entries (rank p x) [] ≡ clear (get_or s.entries x [])
    entry_kept = entry-swept (rank p x) (rank_mono p x d.used b) ∙ ap (λ (y : ℕ). clear (get_or s.entries y [])) (old_of p d.used x a b e)

  -- FAITHFUL: for any series before and after, the map that the stores hold is the abstract one, swept
  module _ (K : Kind) (f f' : ℕ → K.Series) (z : K.Settings) where
    root-moved : entry_at K f' (swept_kept k).stores 0 ≡ reset K (entry_at K f s 0)
    unfolding pick
    root-moved =
        ap (λ (e : List ℕ). record { set = []; birth = 0; bindings = get_or e 1 0; series = pick (not (eqb (get_or e 2 0) 0)) (some (f' 0)) none }) (entry-swept 0 (omega arith))

    moved : (q : ℕ) → In q places → (idle K (entry_at K f s q) ≡ not (p q)) × (p q ≡ true → entry_at K f' (swept_kept k).stores (rank p q) ≡ reset K (entry_at K f s q))
    unfolding pick
    moved q i =
        let u = place-used q i in (
          slot-idle K f s q u.0 ∙ not-not (goes (get_or s.sets q []) (get_or s.entries q [])),
          λ e.
              named K f' (swept_kept k).stores (rank p q) (rank-some p q u.0 e)
              ∙ ap (λ (r : List ℕ). made K f' r (get_or (swept_kept k).stores.entries (rank p q) []) (f' (rank p q))) (set-kept q u.0 u.1 e)
              ∙ ap (λ (r : List ℕ). made K f' (get_or s.sets q []) r (f' (rank p q))) (entry_kept q u.0 u.1 e)
              ∙ ap (reset K) (sym (named K f s q u.0)),
        )
      where
        not-not : (b : Bool) → b ≡ not (not b)
        not-not true = refl
        not-not false = refl

    entries-swept : (view K f' z (swept_kept k).dir (swept_kept k).stores).entries ≡ sweep K (view K f z d s).entries
    entries-swept =
        let E = entry_at K f s in
        let F = entry_at K f' (swept_kept k).stores in
        ap (λ (n : ℕ). F 0 ∷ map F (span (swept_kept k).stores.order 0 n)) used-swept
        ∙ ap (λ (l : List ℕ). F 0 ∷ map F l) order-swept
        ∙ ap (λ (t : List (Entry K)). F 0 ∷ t) (sym (sweep-only K E F p places moved))
        ∙ ap (λ (e : Entry K). e ∷ sweep K (map E places)) root-moved
        ∙ sym (pick-false _ _ _ (root-idle K f s))

    count-swept : (swept_kept k).dir.count ≡ d.count - (length (view K f z d s).entries - length (sweep K (view K f z d s).entries))
    count-swept =
        let E = entry_at K f s in
        let F = entry_at K f' (swept_kept k).stores in
        let a : length (map E (0 ∷ places)) ≡ suc d.used = length-map (0 ∷ places) E ∙ ap suc (span-length s.order 0 d.used) in
        let o = span (swept_kept k).stores.order 0 (swept_kept k).dir.used in
        let b : length (sweep K (map E (0 ∷ places))) ≡ suc (rank p d.used) = sym (ap length entries-swept) ∙ length-map (0 ∷ o) F ∙ ap suc (span-length (swept_kept k).stores.order 0 (swept_kept k).dir.used ∙ used-swept) in
        fewer-swept ∙ ap (λ (n : ℕ). d.count - n) (omega (arith, a, b))

    pub sweep-faithful : view K f' z (swept_kept k).dir (swept_kept k).stores ≡ swept K (view K f z d s)
    sweep-faithful =
        let l = (view K f' z (swept_kept k).dir (swept_kept k).stores).entries in
        let c = d.count - (length (view K f z d s).entries - length (sweep K (view K f z d s).entries)) in
        ap (λ (n : ℕ). record { settings = z; count = n; last = (swept_kept k).dir.last; entries = l }) count-swept
        ∙ ap (λ (n : ℕ). record { settings = z; count = c; last = n; entries = l }) last-swept
        ∙ ap (λ (t : List (Entry K)). record { settings = z; count = c; last = d.last; entries = t }) entries-swept
