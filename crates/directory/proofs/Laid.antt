-- The layout of the directory's stores: agreement has it, and with the map's own agreement it is agreement; what the calls make of it. Assumes nothing.
use Rattle.std.proofs.Common.{◌≡◌, ℕ, zero, suc, ◌+◌, ◌-◌, ◌<◌, ◌≤◌, Bool, true, false, not, ◌||◌, eqb, ◌⊎◌, List, [], ◌∷◌, ◌++◌, map, length, get_or, take, drop, set, sym, refl, ap, ◌∙◌, subst, inl, inr, ⊎_elim, eq-or-lt_of_le, arith, get_or-set_other, get_or-set_same, lt-ltb, eq-eqb, ne_eqb, eqb-true, le-leb}
use Prim.Native.Nat.{Ordering}
use borrow.Author.Tests.{eqb-false}
use lib.ListN.{length-map}
use Rattle.tally.specs.Sets.{Set, overflow, cmp, same, mem, Rising}
use Rattle.tally.specs.Kind.{Kind}
use Rattle.tally.specs.Map.{plain, bit, plains, Config, keys, Agrees}
use Rattle.tally.proofs.Ranks.{entries_fit}
use Rattle.sets.specs.All.{allb}
use Rattle.sets.specs.Inserted.{inserted}
use Rattle.sets.specs.Rows.{span, soundb}
use Rattle.sets.proofs.Alls.{allb-yes}
use Rattle.sets.proofs.Spans.{span-inserted, span-length}
use Rattle.directory.specs.Calls.{admitted, bound_to}
use Rattle.directory.specs.View.{Stores, Laid, set_at, birth_at, slot_at, place_at, plainly, slotsb, countsb, agreesb, entry_at, view}
use Rattle.directory.specs.declared.Directory.{Directory}
use Rattle.directory.proofs.Agreed.{slot-sound, birth-rise, last-birth, place-slot}
use Rattle.directory.proofs.Checks.{birth-named}
use Rattle.directory.proofs.Laws.{slots_of, slots-right, places-right}
use Rattle.directory.proofs.Rises.{span_in, In, keys-map}

pub laid : (limit : ℕ) (d : Directory) (s : Stores) → agreesb limit d s ≡ true → Laid d s
laid limit d s g =
    let a = slots-right limit d s g in
    record {
      sound = λ x h. slot-sound d.used d.last s.sets s.entries a (x + 1) (omega arith) (omega arith);
      birth = birth-rise d.used d.last s.sets s.entries a;
      last = last-birth d.used d.last s.sets s.entries a;
      slots = place-slot d.used s.sets s.order (places-right limit d s g);
    }

-- sets that rise, rise from each place to the next
rising-at : (f : ℕ → Set) (l : List ℕ) (i k : ℕ) → Rising (map f (span l i k)) → (j : ℕ) → i ≤ j → suc j < i + k → cmp (f (get_or l j 0)) (f (get_or l (suc j) 0)) ≡ Ordering.lt
rising-at f l i zero h j a b = absurd (omega arith)
rising-at f l i (suc zero) h j a b = absurd (omega arith)
rising-at f l i (suc (suc k)) h j a b =
    ⊎_elim (λ e. subst (λ (m : ℕ). cmp (f (get_or l m 0)) (f (get_or l (suc m) 0)) ≡ Ordering.lt) e h.0.0)
    (λ u. rising-at f l (suc i) (suc k) h.1 j u (omega arith))
    (eq-or-lt_of_le a)

-- overflow is not plain
pub plains-le : (l : List Set) → plains l ≤ length l
plains-le [] = omega arith
plains-le (x ∷ l) = go (plain x) (plains-le l)
  where
    go : (b : Bool) → plains l ≤ length l → bit b + plains l ≤ suc (length l)
    go true h = omega arith
    go false h = omega arith

lacking : (l : List Set) → mem overflow l ≡ true → plains l < length l
lacking [] e = absurd (no e)
  where
    no : false ≡ true → ⊥
    no q = let z : ◌≡◌ {A = ℕ} 0 1 = cc in omega arith
lacking (x ∷ l) e = go (same x overflow) refl e (lacking l) (same x [])
  where
    bits : (b : Bool) → bit b ≤ 1
    bits true = omega arith
    bits false = omega arith

    go : (b : Bool) → same x overflow ≡ b → (b || mem overflow l) ≡ true → (mem overflow l ≡ true → plains l < length l) → (a : Bool) → bit (not (a || b)) + plains l < suc (length l)
    go true p q ih true = omega (arith, plains-le l)
    go true p q ih false = omega (arith, plains-le l)
    go false p q ih a = omega (arith, bits (not (a || false)), ih q)

module _ (K : Kind) (f : ℕ → K.Series) (z : K.Settings) (c : Config K) (d : Directory) (s : Stores) (a : Laid d s) (g : Agrees K c (view K f z d s)) where
  abbrev named : List Set
  named = map (set_at s.sets) (span s.order 0 d.used)

  keys-are : keys K (view K f z d s).entries ≡ [] ∷ named
  keys-are = keys-map K f s (slots_of d s)

  used-few : d.used ≤ c.limit + 1
  used-few =
      omega (arith, entries_fit K c (view K f z d s) g, length-map (slots_of d s) (entry_at K f s), span-length s.order 0 d.used)

  rises : Rising named
  rises = (subst Rising keys-are g.rising).1

  slots-ok : slotsb d.used d.last s.sets s.entries ≡ true
  unfolding slotsb
  slots-ok =
      let t : allb d.used (slot_at s.sets s.entries) ≡ true = allb-yes (slot_at s.sets s.entries) d.used (λ x h. one x h) in
      rw (t, le-leb (birth_at s.entries d.used) d.last a.last)
    where
      one : (x : ℕ) → x < d.used → slot_at s.sets s.entries x ≡ true
      one x h = rw (a.sound x h, lt-ltb (birth_at s.entries x) (birth_at s.entries (x + 1)) (a.birth x h))

  place_ok : (k : ℕ) → k < d.used → place_at s.sets s.order d.used k ≡ true
  place_ok zero h = let p = a.slots zero h in rw (le-leb 1 (get_or s.order zero 0) p.0, le-leb (get_or s.order zero 0) d.used p.1)
  place_ok (suc k) h =
      let p = a.slots (suc k) h in
      let e : suc k - 1 ≡ k = omega arith in
      let n : eqb (suc k) 0 ≡ false = ne_eqb (suc k) 0 (λ q. omega arith) in
      let r = rising-at (set_at s.sets) s.order 0 d.used rises k (omega arith) (omega arith) in
      rw (le-leb 1 (get_or s.order (suc k) 0) p.0, le-leb (get_or s.order (suc k) 0) d.used p.1, n, e, r)

  counts-ok : countsb c.limit d.count d.used (plainly s.sets s.order d.used) ≡ true
  counts-ok = go g.over g.there g.count
    where
      held : mem overflow (keys K (view K f z d s).entries) ≡ true → plains named < d.used
      held e = omega (arith, lacking named (subst (λ l. mem overflow l ≡ true) keys-are e), length-map (span s.order 0 d.used) (set_at s.sets), span-length s.order 0 d.used)

      plain-keys : plains (keys K (view K f z d s).entries) ≡ plains named
      plain-keys = ap plains keys-are ∙ omega arith

      go : (b : Bool) → (b ≡ true → mem overflow (keys K (view K f z d s).entries) ≡ true) → d.count ≡ bit b + plains (keys K (view K f z d s).entries) → countsb c.limit d.count d.used (plains named) ≡ true
      go false t e = rw (le-leb d.count c.limit g.limit, eq-eqb d.count (plains named) (omega (arith, e, plain-keys)))
      go true t e =
          let n : d.count ≡ plains named + 1 = omega (arith, e, plain-keys) in
          rw (le-leb d.count c.limit g.limit, ne_eqb d.count (plains named) (λ q. omega arith), eq-eqb d.count (plains named + 1) n, lt-ltb (plains named) d.used (held (t refl)))

  pub laid-agrees : agreesb c.limit d s ≡ true
  unfolding agreesb
  laid-agrees =
      let p : allb d.used (place_at s.sets s.order d.used) ≡ true = allb-yes (place_at s.sets s.order d.used) d.used place_ok in
      rw (le-leb d.used (c.limit + 1) used-few, slots-ok, p, counts-ok)

-- another row in a slot, with its birth number, leaves them all
pub birth-set : (entries : List (List ℕ)) (x y : ℕ) (new : List ℕ) → x < length entries → get_or new 0 0 ≡ get_or (get_or entries x []) 0 0
    → birth_at (set entries x new) y ≡ birth_at entries y
birth-set entries x zero new h b = refl
birth-set entries x (suc y) new h b = go (eqb (suc y) x) refl
  where
    go : (t : Bool) → eqb (suc y) x ≡ t → get_or (get_or (set entries x new) (suc y) []) 0 0 ≡ get_or (get_or entries (suc y) []) 0 0
    go true e = let q : suc y ≡ x = eqb-true (suc y) x e in subst (λ (i : ℕ). get_or (get_or (set entries x new) i []) 0 0 ≡ get_or (get_or entries i []) 0 0) (sym q) (ap (λ r. get_or r 0 0) (get_or-set_same entries x new [] h) ∙ b)
    go false e = ap (λ r. get_or r 0 0) (get_or-set_other entries x (suc y) new [] (eqb-false (suc y) x e))

-- and where they stay, the layout does
pub laid_births : (d : Directory) (s : Stores) (entries : List (List ℕ)) → ((y : ℕ) → birth_at entries y ≡ birth_at s.entries y) → Laid d s
    → Laid d (record { sets = s.sets; entries = entries; order = s.order })
laid_births d s entries k a =
    record {
      sound = a.sound;
      birth = λ y u. rw (k y, k (y + 1)) (a.birth y u);
      last = rw (k d.used) a.last;
      slots = a.slots;
    }

-- other bindings
pub birth-kept : (entries : List (List ℕ)) (x n y : ℕ) → x < length entries → birth_at (bound_to entries x n) y ≡ birth_at entries y
unfolding bound_to
birth-kept entries x n y h = birth-set entries x y (get_or (get_or entries x []) 0 0 ∷ n ∷ get_or (get_or entries x []) 2 0 ∷ []) h refl

pub laid_rebind : (d : Directory) (s : Stores) (x n : ℕ) → x < length s.entries → Laid d s → Laid d (record { sets = s.sets; entries = bound_to s.entries x n; order = s.order })
laid_rebind d s x n h a = laid_births d s (bound_to s.entries x n) (λ y. birth-kept s.entries x n y h) a

-- a new entry extends it
in_span : (l : List ℕ) (i n k : ℕ) → k < n → In (get_or l (i + k) 0) (span l i n)
in_span l i zero k h = absurd (omega arith)
in_span l i (suc n) zero h = let e : i + 0 ≡ i = omega arith in inl (ap (λ (j : ℕ). get_or l j 0) e)
in_span l i (suc n) (suc k) h = let e : suc i + k ≡ i + suc k = omega arith in inr (subst (λ (j : ℕ). In (get_or l j 0) (span l (suc i) n)) e (in_span l (suc i) n k (omega arith)))

pub in_around : (l : List ℕ) (r x y : ℕ) → In y (take r l ++ (x ∷ drop r l)) → (y ≡ x) ⊎ In y l
in_around [] zero x y m = m
in_around [] (suc r) x y m = m
in_around (a ∷ l) zero x y m = m
in_around (a ∷ l) (suc r) x y m = ⊎_elim (λ e. inr (inl e)) (λ n. ⊎_elim (λ e. inl e) (λ q. inr (inr q)) (in_around l r x y n)) m

-- the birth numbers then
module _ (d : Directory) (s : Stores) (b : ℕ) where
  abbrev pub entered : List (List ℕ)
  entered = set s.entries (d.used + 1) ((d.last + 1) ∷ b ∷ 0 ∷ [])

  pub old-birth : (y : ℕ) → y ≤ d.used → birth_at entered y ≡ birth_at s.entries y
  old-birth zero h = refl
  old-birth (suc y) h = ap (λ t. get_or t 0 0) (get_or-set_other s.entries (d.used + 1) (suc y) ((d.last + 1) ∷ b ∷ 0 ∷ []) [] (λ e. omega arith))

  pub new-birth : d.used + 1 < length s.entries → birth_at entered (d.used + 1) ≡ d.last + 1
  new-birth le = birth-named entered (d.used + 1) (omega arith) ∙ ap (λ t. get_or t 0 0) (get_or-set_same s.entries (d.used + 1) ((d.last + 1) ∷ b ∷ 0 ∷ []) [] le)

module _ (d : Directory) (s : Stores) (row : List ℕ) (r more b : ℕ) (ls : d.used + 1 < length s.sets) (le : d.used + 1 < length s.entries) (lo : d.used < length s.order) (rank : r ≤ d.used) (good : soundb row ≡ true) (a : Laid d s) where
  abbrev entries' : List (List ℕ)
  entries' = entered d s b

  pub laid_admit : Laid (admitted d s row r more b).dir (admitted d s row r more b).stores
  unfolding admitted
  laid_admit = record { sound = sound; birth = birth; last = last; slots = slots }
    where
      sound : (x : ℕ) → x < d.used + 1 → soundb (get_or (set s.sets (d.used + 1) row) (x + 1) []) ≡ true
      sound x h =
          ⊎_elim (λ e. ap soundb (subst (λ (i : ℕ). get_or (set s.sets (d.used + 1) row) (i + 1) [] ≡ row) (sym e) (get_or-set_same s.sets (d.used + 1) row [] ls)) ∙ good)
          (λ u. ap soundb (get_or-set_other s.sets (d.used + 1) (x + 1) row [] (λ e. omega arith)) ∙ a.sound x u)
          (eq-or-lt_of_le (let w : x ≤ d.used = omega arith in w))

      birth : (x : ℕ) → x < d.used + 1 → birth_at entries' x < birth_at entries' (x + 1)
      birth x h =
          ⊎_elim (λ e. subst (λ (i : ℕ). birth_at entries' i < birth_at entries' (i + 1)) (sym e) (omega (arith, old-birth d s b d.used (omega arith), new-birth d s b le, a.last)))
          (λ u. omega (arith, old-birth d s b x (omega arith), old-birth d s b (x + 1) (omega arith), a.birth x u))
          (eq-or-lt_of_le (let w : x ≤ d.used = omega arith in w))

      last : birth_at entries' (d.used + 1) ≤ d.last + 1
      last = omega (arith, new-birth d s b le)

      slots : (k : ℕ) → k < d.used + 1 → (1 ≤ get_or (inserted s.order d.used r (d.used + 1)) k 0) × (get_or (inserted s.order d.used r (d.used + 1)) k 0 ≤ d.used + 1)
      slots k h =
          let o = inserted s.order d.used r (d.used + 1) in
          let e : 0 + k ≡ k = omega arith in
          let m : In (get_or o k 0) (span o 0 (d.used + 1)) = subst (λ (j : ℕ). In (get_or o j 0) (span o 0 (d.used + 1))) e (in_span o 0 (d.used + 1) k h) in
          let n : In (get_or o k 0) (take r (span s.order 0 d.used) ++ ((d.used + 1) ∷ drop r (span s.order 0 d.used))) = subst (In (get_or o k 0)) (span-inserted s.order d.used r (d.used + 1) rank lo) m in
          ⊎_elim (λ q. (omega arith, omega arith))
          (λ q. let w = span_in (λ (y : ℕ). (1 ≤ y) × (y ≤ d.used)) s.order 0 d.used (λ j u v. a.slots j (omega arith)) (get_or o k 0) q in (w.0, omega (arith, w.1)))
          (in_around (span s.order 0 d.used) r (d.used + 1) (get_or o k 0) n)
