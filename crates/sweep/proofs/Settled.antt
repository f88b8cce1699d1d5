-- The swept directory agrees with itself, and birth numbers keep their sets. Assumes nothing.
use Prim.Native.Nat.{ℕ, zero, suc, ◌+◌, ◌≤◌, ◌<◌}
use mathlib.Core.Path.{◌≡◌, refl, ap, sym, subst, ◌∙◌}
use mathlib.Core.Logic.{inl, inr}
use mathlib.Core.Bool.{Bool, true, false, not, ◌&&◌}
use mathlib.Core.List.{List, [], ◌∷◌, map}
use mathlib.Core.Option.{none}
use native.Mathlib.Numerals.{add-one}
use native.Mathlib.Omega.{arith}
use borrow.Author.Tests.{le-leb, ne_eqb}
use lib.Dec.{eqb}
use lib.ListN.{length, get_or, length-map}
use Rattle.laws.specs.Lists.{only}
use Rattle.laws.proofs.Cases.{true-not-false}
use Rattle.tally.specs.Map.{Config, Agrees, plain}
use Rattle.tally.proofs.Agree.{agree-swept}
use Rattle.sets.specs.Rows.{set_of, soundb}
use Rattle.sets.proofs.Spans.{span-at}
use Rattle.directory.specs.Calls.{Kept}
use Rattle.directory.specs.View.{Stores, Laid, set_at, birth_at, agreesb, view}
use Rattle.directory.specs.declared.Directory.{Directory}
use Rattle.directory.proofs.Agreed.{slot-sound}
use Rattle.directory.proofs.Checks.{set-named, birth-named}
use Rattle.directory.proofs.Laid.{laid-agrees}
use Rattle.directory.proofs.Laws.{few, slots-right}
use Rattle.directory.proofs.Leaves.{Good}
use Rattle.directory.proofs.Located.{blank}
use Rattle.directory.proofs.Refusals.{suffices}
use Rattle.directory.proofs.Rises.{In}
use Rattle.directory.proofs.Sentence.{later, own-birth, spent}
use Rattle.directory.proofs.Tied.{agreed}
use Rattle.sweep.specs.Swept.{staying, rank, clear, swept_kept}
use Rattle.laws.proofs.Over.{length_over}
use Rattle.sweep.proofs.Marks.{rank-le, rank-some}
use Rattle.sweep.proofs.Stayers.{olds, rank_mono, came, came-rise, old_of, only_in}
use Rattle.sweep.proofs.Whole.{map_at, down-length}
use Rattle.sweep.proofs.Faithful.{places, place-used, used-swept, last-swept, places-kept, order-swept, set-swept, entry-swept, sweep-faithful}

at_in : (l : List ℕ) (k : ℕ) → k < length l → In (get_or l k 0) l
at_in [] k h = absurd (omega arith)
at_in (x ∷ l) zero h = inl refl
at_in (x ∷ l) (suc k) h = inr (at_in l k (omega arith))

module _ (limit : ℕ) (k : Kept) (g : agreesb limit k.dir k.stores ≡ true) (ls : k.dir.used < length k.stores.sets) (le : k.dir.used < length k.stores.entries) (lo : k.dir.used ≤ length k.stores.order) where
  abbrev d : Directory
  d = k.dir

  abbrev s : Stores
  s = k.stores

  abbrev d' : Directory
  d' = (swept_kept k).dir

  abbrev s' : Stores
  s' = (swept_kept k).stores

  abbrev q : ℕ → Bool
  q = staying k.stores.sets k.stores.entries

  -- the slot that a new one was
  abbrev old : ℕ → ℕ
  old y = get_or (olds (staying k.stores.sets k.stores.entries) k.dir.used) y 0

  old-used : (y : ℕ) → y ≤ rank q d.used → old y ≤ d.used
  old-used zero h = omega arith
  old-used (suc y) h = let c = came q d.used (suc y) (omega arith) h in omega (arith, c.is, c.most)

  old-rise : (y : ℕ) → y < rank q d.used → old y < old (suc y)
  old-rise zero h = let c = came q d.used 1 (omega arith) (omega arith) in omega (arith, c.is, c.least)
  old-rise (suc y) h =
      let a = came q d.used (suc y) (omega arith) (omega arith) in
      let b = came q d.used (suc (suc y)) (omega arith) (omega arith) in
      omega (arith, a.is, b.is, came-rise q d.used (suc y) (suc (suc y)) a b (omega arith))

  -- its set and its birth number
  pub set-was : (y : ℕ) → y ≤ rank q d.used → set_at s'.sets y ≡ set_at s.sets (old y)
  set-was zero h = refl
  set-was (suc y) h =
      let c = came q d.used (suc y) (omega arith) h in
      ap set_of (set-swept limit k g ls le lo (suc y) h) ∙ sym (set-named s.sets (old (suc y)) (omega (arith, c.is, c.least)))

  pub birth-was : (y : ℕ) → y ≤ rank q d.used → birth_at s'.entries y ≡ birth_at s.entries (old y)
  birth-was zero h = refl
  birth-was (suc y) h =
      let c = came q d.used (suc y) (omega arith) h in
      ap (λ (e : List ℕ). get_or e 0 0) (entry-swept limit k g ls le lo (suc y) h) ∙ sym (birth-named s.entries (old (suc y)) (omega (arith, c.is, c.least)))

  -- the layout
  sound-at : (y : ℕ) → y < rank q d.used → soundb (get_or s'.sets (suc y) []) ≡ true
  sound-at y h =
      let c = came q d.used (suc y) (omega arith) (omega arith) in
      ap soundb (set-swept limit k g ls le lo (suc y) (omega arith))
      ∙ slot-sound d.used d.last s.sets s.entries (slots-right limit d s g) (old (suc y)) (omega (arith, c.is, c.least)) (old-used (suc y) (omega arith))

  birth-at : (y : ℕ) → y < rank q d.used → birth_at s'.entries y < birth_at s'.entries (suc y)
  birth-at y h =
      omega (arith, birth-was y (omega arith), birth-was (suc y) (omega arith), later limit d s g (old y) (old (suc y)) (old-rise y h) (old-used (suc y) (omega arith)))

  place_at : (i : ℕ) → i < rank q d.used → (1 ≤ get_or s'.order i 0) × (get_or s'.order i 0 ≤ rank q d.used)
  place_at i h =
      let n = rank q d.used in
      let l = only q (places limit k g ls le lo) in
      let w : i < length l = omega (arith, places-kept limit k g ls le lo, length-map l (rank q)) in
      let z : 0 + i ≡ i = omega arith in
      let e : get_or s'.order i 0 ≡ rank q (get_or l i 0) = ap (λ (j : ℕ). get_or s'.order j 0) (sym z) ∙ sym (span-at s'.order 0 n i h) ∙ ap (λ (t : List ℕ). get_or t i 0) (order-swept limit k g ls le lo) ∙ map_at (rank q) l i 0 w in
      let m = only_in q (places limit k g ls le lo) (get_or l i 0) (at_in l i w) in
      let u = place-used limit k g ls le lo (get_or l i 0) m.0 in
      (omega (arith, e, rank-some q (get_or l i 0) u.0 m.1), omega (arith, e, rank_mono q (get_or l i 0) d.used u.1))

  pub swept-laid : Laid d' s'
  swept-laid =
      let u = used-swept limit k g ls le lo in
      record {
        sound = λ x h. subst (λ (y : ℕ). soundb (get_or s'.sets y []) ≡ true) (sym (add-one x)) (sound-at x (omega (arith, u)));
        birth = λ x h. subst (λ (y : ℕ). birth_at s'.entries x < birth_at s'.entries y) (sym (add-one x)) (birth-at x (omega (arith, u)));
        last = subst (λ (y : ℕ). birth_at s'.entries y ≤ d'.last) (sym u)
            (omega (arith, last-swept limit k g ls le lo, birth-was (rank q d.used) (omega arith), spent limit d s g (old (rank q d.used)) (old-used (rank q d.used) (omega arith))));
        slots = λ i h. let r = place_at i (omega (arith, u)) in (r.0, omega (arith, r.1, u));
      }

  -- KEPT: the directory agrees as before
  pub sweep-keeps : agreesb limit d' s' ≡ true
  sweep-keeps =
      let c : Config blank = record { settings = tt; limit = limit; filter = none } in
      laid-agrees blank (λ x. tt) tt c d' s' swept-laid
      (subst (Agrees blank c) (sym (sweep-faithful limit k g ls le lo blank (λ x. tt) (λ x. tt) tt)) (agree-swept blank c (view blank (λ x. tt) tt d s) (agreed blank (λ x. tt) tt c d s g)))

  sets-long : length s'.sets ≡ length s.sets
  unfolding swept_kept
  sets-long = down-length (λ row. row) q d.used s.sets ls

  entries-long : length s'.entries ≡ length s.entries
  unfolding swept_kept
  entries-long = down-length clear q d.used s.entries le

  order-long : length s'.order ≡ length s.order
  unfolding swept_kept
  order-long = length_over (map (rank q) (only q (places limit k g ls le lo))) s.order (omega (arith, places-kept limit k g ls le lo, rank-le q d.used))

  -- BIRTH NUMBERS. "No birth number gets two sets, and a set keeps its number while that has a binding": where slots move, slots of one birth number
  -- have one set; a slot with bindings is still there under its number, with its bindings; and every slot was there before
  pub record Same (x y : ℕ) : Type 0 where
    pub birth : birth_at s'.entries y ≡ birth_at s.entries x
    pub set : set_at s'.sets y ≡ set_at s.sets x
    pub bindings : get_or (get_or s'.entries y []) 1 0 ≡ get_or (get_or s.entries x []) 1 0

  same_old : (y : ℕ) → y ≤ d'.used → Same (old y) y
  same_old y h =
      let b : y ≤ rank q d.used = omega (arith, used-swept limit k g ls le lo) in
      record { birth = birth-was y b; set = set-was y b; bindings = ap (λ (e : List ℕ). get_or e 1 0) (entry-swept limit k g ls le lo y b) }

  pub record Outlives : Type 0 where
    pub sets : length s'.sets ≡ length s.sets
    pub entries : length s'.entries ≡ length s.entries
    pub order : length s'.order ≡ length s.order
    pub last : d'.last ≡ d.last
    pub own : (x y : ℕ) → x ≤ d.used → y ≤ d'.used → birth_at s'.entries y ≡ birth_at s.entries x → Same x y
    pub bound : (x : ℕ) → x ≤ d.used → 0 < get_or (get_or s.entries x []) 1 0 → (y : ℕ) × (y ≤ d'.used) × Same x y
    pub was : (y : ℕ) → y ≤ d'.used → (x : ℕ) × (x ≤ d.used) × Same x y

  own_same : (x y : ℕ) → x ≤ d.used → y ≤ d'.used → birth_at s'.entries y ≡ birth_at s.entries x → Same x y
  own_same x y a b e =
      let h : y ≤ rank q d.used = omega (arith, used-swept limit k g ls le lo) in
      subst (λ (z : ℕ). Same z y) (own-birth limit d s g (old y) x (old-used y h) a (sym (birth-was y h) ∙ e)) (same_old y b)

  bound-stays : (x : ℕ) → 0 < get_or (get_or s.entries x []) 1 0 → q x ≡ true
  bound-stays x h = go (eqb (get_or (get_or s.entries x []) 2 0) 0) (eqb (get_or (get_or s.entries x []) 1 0) 0) (ne_eqb (get_or (get_or s.entries x []) 1 0) 0 (λ z. omega (arith, h, z)))
    where
      go : (a b : Bool) → b ≡ false → not (a && (b && plain (set_of (get_or s.sets x [])))) ≡ true
      go true true e = true-not-false e
      go true false e = refl
      go false b e = refl

  bound-there : (x : ℕ) → x ≤ d.used → 0 < get_or (get_or s.entries x []) 1 0 → (y : ℕ) × (y ≤ d'.used) × Same x y
  bound-there zero a b = (0, omega arith, same_old 0 (omega arith))
  bound-there (suc x) a b =
      let e = bound-stays (suc x) b in
      let u = used-swept limit k g ls le lo in
      let h : rank q (suc x) ≤ d'.used = omega (arith, u, rank_mono q (suc x) d.used a) in
      (rank q (suc x), h, subst (λ (z : ℕ). Same z (rank q (suc x))) (old_of q d.used (suc x) (omega arith) a e) (same_old (rank q (suc x)) h))

  pub sweep_outlives : Outlives
  sweep_outlives =
      record {
        sets = sets-long;
        entries = entries-long;
        order = order-long;
        last = last-swept limit k g ls le lo;
        own = own_same;
        bound = bound-there;
        was = λ y h. (old y, old-used y (omega (arith, used-swept limit k g ls le lo)), same_old y h);
      }

-- in a state that a run comes by
module _ (limit : ℕ) (k : Kept) (g : Good limit k) where
  pub within : (k.dir.used < length k.stores.sets) × (k.dir.used < length k.stores.entries) × (k.dir.used ≤ length k.stores.order)
  within =
      let r = suffices limit k.stores g.lent in
      let u = few limit k.dir k.stores g.agrees in
      (omega (arith, r.sets), omega (arith, r.entries), omega (arith, r.order))

  pub sweep-good : Good limit (swept_kept k)
  sweep-good =
      let r = suffices limit k.stores g.lent in
      let o = sweep_outlives limit k g.agrees within.0 within.1 within.2 in
      let s = (swept_kept k).stores in
      record {
        agrees = sweep-keeps limit k g.agrees within.0 within.1 within.2;
        lent = rw (le-leb (limit + 2) (length s.sets) (omega (arith, o.sets, r.sets)), le-leb (limit + 2) (length s.entries) (omega (arith, o.entries, r.entries)), le-leb (limit + 2) (length s.order) (omega (arith, o.order, r.order)));
        last = omega (arith, o.last, g.last);
      }
