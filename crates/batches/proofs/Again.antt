-- AGAIN. Where a recording was taken, the next one by the same handle, or with the same set, goes to the same slot, which then holds a series;
-- what it commits is there already. Assumes nothing.
use Rattle.std.specs.Prelude.{Ok, Err, Result, ℕ}
use Prim.Native.Nat.{ℕ, ◌+◌, ◌≤◌, ◌<◌}
use mathlib.Core.Path.{◌≡◌, refl, ap, sym, subst, ◌∙◌}
use mathlib.Core.Logic.{◌⊎◌, inl, inr, ⊎_elim}
use mathlib.Core.Bool.{Bool, true, false, not}
use mathlib.Core.List.{List, [], ◌∷◌, ◌++◌, map}
use mathlib.Core.Option.{Option, none, some}
use native.Mathlib.Omega.{arith}
use lib.Dec.{eqb, ltb}
use lib.ListN.{length, get_or, take, drop, length-set}
use lib.Seq.{get_or-set_same}
use Rattle.laws.specs.Pick.{pick}
use Rattle.laws.proofs.Cases.{lt-not-eq, none-not-some}
use Rattle.tally.specs.Sets.{Set, cmp, same, canonical, Rising, Lendable}
use Rattle.tally.specs.Map.{find}
use Rattle.tally.proofs.Order.{cmp-self, same_self}
use Rattle.tally.proofs.Entries.{find-set}
use Rattle.sets.specs.Rows.{span, set_of, row_of}
use Rattle.sets.proofs.Spans.{span-inserted}
use Rattle.sets.proofs.CallRow.{row-set, row-short}
use Rattle.directory.specs.View.{Stores, set_at, agreesb, sought, updated_in, entry_at, view}
use Rattle.directory.specs.Calls.{Kept, over_row, located, admitted}
use Rattle.directory.specs.declared.Directory.{Directory}
use Rattle.directory.specs.declared.Target.{Target}
use Rattle.directory.specs.declared.Target.TheVariants.{Disagrees, Old, New, Over}
use Rattle.directory.proofs.Laws.{slots_of, slot-used, ascends, above_in}
use Rattle.directory.proofs.Rises.{In}
use Rattle.directory.proofs.Admits.{room-rank}
use Rattle.directory.proofs.Laid.{in_around}
use Rattle.directory.proofs.Located.{blank, told, sought-held, new-there, over-there}
use Rattle.directory.proofs.Leaves.{Good, admit-leaves}
use Rattle.directory.proofs.Refusals.{suffices}
use Rattle.seats.specs.Seats.{seat_at, seated, seated_by, marked, marked_in, committed, Seating}
use Rattle.seats.proofs.Commits.{commit-old, commit-new, commit-over}
use Rattle.seats.proofs.Seatings.{new-either, seat-is, old-safe}
use Rattle.seats.proofs.Owns.{new-set}
use Rattle.seats.proofs.Keeps.{seat-good, by-good}
use Rattle.seats.proofs.Again.{marked-twice, by-again, by-marks}

-- ---- the seat of one who was here before

module _ (seat : Kept → Seating) (row : List ℕ) where
  -- slot x is the seat again; it holds a series, and committing there changes nothing
  pub record Again (x : ℕ) (k : Kept) : Type 0 where
    pub target : Target
    pub seat-is : seat k ≡ record { no = 0; slot = x; updated = true; target = target }
    pub committed-is : committed k.dir k.stores row target ≡ k

marked_in_lem : (k : Kept) (x : ℕ) → x < length k.stores.entries → marked_in (marked_in k x) x ≡ marked_in k x
marked_in_lem k x h =
    λ j. record { dir = k.dir; stores = record { sets = k.stores.sets; entries = marked-twice k.stores.entries x h j; order = k.stores.order } }

marked-updated : (entries : List (List ℕ)) (x : ℕ) → x < length entries → updated_in (marked entries x) x ≡ true
unfolding marked
marked-updated entries x h = ap (λ (r : List ℕ). not (eqb (get_or r 2 0) 0)) (get_or-set_same entries x (get_or (get_or entries x []) 0 0 ∷ get_or (get_or entries x []) 1 0 ∷ 1 ∷ []) [] h)

-- ---- a set is found in the slot that has it

in_mid : (a b : List ℕ) (x : ℕ) → In x (a ++ (x ∷ b))
in_mid [] b x = inl refl
in_mid (y ∷ a) b x = inr (in_mid a b x)

-- of slots that ascend by set no two have one
alone : (g : ℕ → Set) (l : List ℕ) (x y : ℕ) → Rising (map g l) → In x l → In y l → g x ≡ g y → x ≡ y
alone g [] x y r i j e = absurd i
alone g (z ∷ l) x y r (inl p) (inl q) e = p ∙ sym q
alone g (z ∷ l) x y r (inl p) (inr j) e =
    lt-not-eq (sym (above_in g (g z) l y r.0 j) ∙ ap (λ (w : Set). cmp w (g y)) (ap g (sym p) ∙ e) ∙ cmp-self (g y))
alone g (z ∷ l) x y r (inr i) (inl q) e =
    lt-not-eq (sym (above_in g (g z) l x r.0 i) ∙ ap (λ (w : Set). cmp w (g x)) (ap g (sym q) ∙ sym e) ∙ cmp-self (g x))
alone g (z ∷ l) x y r (inr i) (inr j) e = alone g l x y r.1 i j e

module _ (s : Stores) (w : Set) where
  not_missing : (l : List ℕ) (x : ℕ) → In x l → set_at s.sets x ≡ w → find blank w (map (entry_at blank (λ k. tt) s) l) ≡ none → ⊥
  unfolding pick
  not_missing [] x i e n = i
  not_missing (y ∷ l) x i e n = go (same (set_at s.sets y) w) refl i n (λ j q. not_missing l x j e q)
    where
      no : false ≡ true → ⊥
      no z = let k : ◌≡◌ {A = ℕ} 0 1 = cc in omega (arith, k)

      go : (b : Bool) → same (set_at s.sets y) w ≡ b → In x (y ∷ l) → pick b (some (entry_at blank (λ k. tt) s y)) (find blank w (map (entry_at blank (λ k. tt) s) l)) ≡ none
          → (In x l → find blank w (map (entry_at blank (λ k. tt) s) l) ≡ none → ⊥) → ⊥
      go true p j q ih = none-not-some (sym q)
      go false p (inr j) q ih = ih j q
      go false p (inl j) q ih = no (sym p ∙ ap (λ (v : Set). same v w) (ap (set_at s.sets) (sym j) ∙ e) ∙ same_self w)

module _ (limit : ℕ) (d : Directory) (s : Stores) (g : agreesb limit d s ≡ true) (w : Set) where
  pub sought-own : (x : ℕ) → In x (slots_of d s) → set_at s.sets x ≡ w → sought w d.used s.sets s.order ≡ Ok x
  sought-own x i e = go (sought w d.used s.sets s.order) refl
    where
      go : (o : Result ℕ ℕ) → sought w d.used s.sets s.order ≡ o → sought w d.used s.sets s.order ≡ Ok x
      go (Err r) p = absurd (not_missing s w (slots_of d s) x i e (room-rank blank (λ k. tt) tt limit d s g w r p).0)
      go (Ok y) p =
          let h = sought-held blank (λ k. tt) tt d s w y p in
          let t = find-set blank w (view blank (λ k. tt) tt d s).entries (entry_at blank (λ k. tt) s y) h.1 in
          p ∙ ap (λ (k : ℕ). Ok k) (sym (alone (set_at s.sets) (slots_of d s) x y (ascends limit d s g) i h.0 (e ∙ sym t)))

-- ---- where a call goes, by what is found

module _ (limit : ℕ) (d : Directory) (s : Stores) (g : agreesb limit d s ≡ true) (row : List ℕ) where
  located-held : (x : ℕ) → sought (set_of row) d.used s.sets s.order ≡ Ok x → located limit d s row ≡ Old x
  unfolding located pick
  located-held x e = rw (g, e)

  located-over : (r x : ℕ) → sought (set_of row) d.used s.sets s.order ≡ Err r → ltb d.count limit ≡ false
      → sought (set_of over_row) d.used s.sets s.order ≡ Ok x → located limit d s row ≡ Old x
  unfolding located pick
  located-over r x e c o = rw (g, e, c, o)

-- ---- a slot that was just made

module _ (limit : ℕ) (d : Directory) (s : Stores) (g : agreesb limit d s ≡ true) (ls : d.used + 1 < length s.sets) (le : d.used + 1 < length s.entries) (lo : d.used < length s.order)
    (row : List ℕ) (r more : ℕ) (rank : r ≤ d.used) (room : d.last < 18446744073709551615) where
  abbrev x : ℕ
  x = d.used + 1

  abbrev k : Kept
  k = admitted d s row r more 0

  made-long : x < length k.stores.entries
  unfolding admitted
  made-long = omega (arith, length-set s.entries x ((d.last + 1) ∷ 0 ∷ 0 ∷ []))

  made-set : set_at k.stores.sets x ≡ set_of row
  unfolding admitted
  made-set = new-set s.sets d.used row ls

  places : span k.stores.order 0 k.dir.used ≡ take r (span s.order 0 d.used) ++ (x ∷ drop r (span s.order 0 d.used))
  unfolding admitted
  places = span-inserted s.order d.used r x rank lo

  made_in : In x (slots_of k.dir k.stores)
  made_in = inr (subst (In x) (sym places) (in_mid (take r (span s.order 0 d.used)) (drop r (span s.order 0 d.used)) x))

  -- every other slot was there before, with its set
  old_or-made : (y : ℕ) → In y (slots_of k.dir k.stores) → (y ≡ x) ⊎ In y (slots_of d s)
  old_or-made y (inl e) = inr (inl e)
  old_or-made y (inr i) = ⊎_elim (λ e. inl e) (λ j. inr (inr j)) (in_around (span s.order 0 d.used) r x y (subst (In y) places i))

  old-own : (y : ℕ) → In y (slots_of d s) → set_at k.stores.sets y ≡ set_at s.sets y
  old-own y i = (admit-leaves d s row r more 0 ls le lo rank room).own y (slot-used limit d s g y i)

  module _ (q : agreesb limit (marked_in k x).dir (marked_in k x).stores ≡ true) where
    -- its set is found there
    made_found : sought (set_of row) k.dir.used k.stores.sets k.stores.order ≡ Ok x
    made_found = sought-own limit (marked_in k x).dir (marked_in k x).stores q (set_of row) x made_in made-set

    -- and a set that was not held is found there or nowhere
    none_else : (w : Set) (p y : ℕ) → sought w d.used s.sets s.order ≡ Err p → sought w k.dir.used k.stores.sets k.stores.order ≡ Ok y → y ≡ x
    none_else w p y e f =
        let h = sought-held blank (λ i. tt) tt k.dir k.stores w y f in
        let t = find-set blank w (view blank (λ i. tt) tt k.dir k.stores).entries (entry_at blank (λ i. tt) k.stores y) h.1 in
        ⊎_elim (λ (i : y ≡ x). i)
        (λ i. absurd (not_missing s w (slots_of d s) y i (sym (old-own y i) ∙ t) (room-rank blank (λ j. tt) tt limit d s g w p e).0))
        (old_or-made y h.0)

-- the overflow series was just made: a call that went there goes there again
module _ (limit : ℕ) (d : Directory) (s : Stores) (row : List ℕ) (p : ℕ) (full : ltb d.count limit ≡ false) where
  abbrev over : Kept
  over = marked_in (admitted d s over_row p 0 0) (d.used + 1)

  still_full : ltb over.dir.count limit ≡ false
  unfolding admitted
  still_full = let e : d.count + 0 ≡ d.count = omega arith in ap (λ (n : ℕ). ltb n limit) e ∙ full

  over-located : agreesb limit over.dir over.stores ≡ true → sought (set_of over_row) over.dir.used over.stores.sets over.stores.order ≡ Ok (d.used + 1)
      → ((y : ℕ) → sought (set_of row) over.dir.used over.stores.sets over.stores.order ≡ Ok y → y ≡ d.used + 1)
      → (o : Result ℕ ℕ) → sought (set_of row) over.dir.used over.stores.sets over.stores.order ≡ o → located limit over.dir over.stores row ≡ Old (d.used + 1)
  over-located g h f (Ok y) e = located-held limit over.dir over.stores g row y e ∙ ap (λ (x : ℕ). Old x) (f y e)
  over-located g h f (Err r) e = located-over limit over.dir over.stores g row r (d.used + 1) e still_full h

-- ---- BY SET

module _ (limit : ℕ) (row : List ℕ) where
  abbrev pub seat_of : Kept → Seating
  seat_of k = seated limit k.dir k.stores row

  -- a slot that is marked, and to which the set's call goes
  old-again : (k : Kept) (x : ℕ) → x < length k.stores.entries → located limit (marked_in k x).dir (marked_in k x).stores row ≡ Old x → Again seat_of row x (marked_in k x)
  old-again k x h e =
      record {
        target = Old x;
        seat-is = seat-is limit k.dir (marked_in k x).stores row (Old x) e
            ∙ (λ j. record { no = 0; slot = x; updated = marked-updated k.stores.entries x h j; target = Old x });
        committed-is = commit-old k.dir (marked_in k x).stores row x ∙ marked_in_lem k x h;
      }

  module _ (d : Directory) (s : Stores) (g : agreesb limit d s ≡ true) (ls : limit + 2 ≤ length s.sets) (le : limit + 2 ≤ length s.entries) (lo : limit + 2 ≤ length s.order) where
    abbrev Claim : Seating → Type 0
    Claim a =
        a.no ≡ 0 → agreesb limit (committed d s row a.target).dir (committed d s row a.target).stores ≡ true
        → Again seat_of row a.slot (committed d s row a.target)

    claim-at : (t : Target) → located limit d s row ≡ t → Claim (seat_at d s t)
    claim-at Disagrees e = λ n q. absurd (omega (arith, n))
    claim-at (Old x) e = λ n q.
        let k = marked_in (record { dir = d; stores = s }) x in
        let c = commit-old d s row x in
        let b : agreesb limit k.dir k.stores ≡ true = subst (λ (j : Kept). agreesb limit j.dir j.stores ≡ true) c q in
        let l : located limit k.dir k.stores row ≡ Old x =
        ⊎_elim (λ h. located-held limit k.dir k.stores b row x h) (λ h. located-over limit k.dir k.stores b row h.0 x h.1 h.2 h.3) (told limit d s row (Old x) e).1 in
        subst (Again seat_of row x) (sym c) (old-again (record { dir = d; stores = s }) x (old-safe limit d s row x e le).1 l)
    claim-at (New r) e =
        let n = new-there limit d s row r e in
        let k = admitted d s row r 1 0 in
        let x = d.used + 1 in
        let c = commit-new d s row r in
        new-either d (New r) Claim (λ h z. absurd (omega (arith, z)))
        (λ h z q.
        let b : agreesb limit (marked_in k x).dir (marked_in k x).stores ≡ true = subst (λ (j : Kept). agreesb limit j.dir j.stores ≡ true) c q in
        let l = located-held limit (marked_in k x).dir (marked_in k x).stores b row x (made_found limit d s g (omega (arith, n.1)) (omega (arith, n.1)) (omega (arith, n.1)) row r 1 n.0 h b) in
        subst (Again seat_of row x) (sym c) (old-again k x (made-long limit d s g (omega (arith, n.1)) (omega (arith, n.1)) (omega (arith, n.1)) row r 1 n.0 h) l))
    claim-at (Over p) e =
        let n = over-there limit d s row p e in
        let f = (told limit d s row (Over p) e).1 in
        let k = admitted d s over_row p 0 0 in
        let x = d.used + 1 in
        let c = commit-over d s row p in
        new-either d (Over p) Claim (λ h z. absurd (omega (arith, z)))
        (λ h z q.
        let b : agreesb limit (marked_in k x).dir (marked_in k x).stores ≡ true = subst (λ (j : Kept). agreesb limit j.dir j.stores ≡ true) c q in
        let l = over-located limit d s row p f.2 b
        (made_found limit d s g (omega (arith, n.1)) (omega (arith, n.1)) (omega (arith, n.1)) over_row p 0 n.0 h b)
        (λ y. none_else limit d s g (omega (arith, n.1)) (omega (arith, n.1)) (omega (arith, n.1)) over_row p 0 n.0 h b (set_of row) f.0 y f.1)
        (sought (set_of row) k.dir.used k.stores.sets k.stores.order) refl in
        subst (Again seat_of row x) (sym c) (old-again k x (made-long limit d s g (omega (arith, n.1)) (omega (arith, n.1)) (omega (arith, n.1)) over_row p 0 n.0 h) l))

    seat-again : Claim (seat_of (record { dir = d; stores = s }))
    unfolding seated
    seat-again = claim-at (located limit d s row) refl

pub set-again : (limit : ℕ) (filter : Option (List ℕ)) (attrs : Set) → Lendable attrs → length attrs ≤ 8 → (k : Kept) → Good limit k
    → (let row = row_of (canonical filter attrs) in
    let a = seat_of limit row k in
    a.no ≡ 0 → Good limit (committed k.dir k.stores row a.target) × Again (seat_of limit row) row a.slot (committed k.dir k.stores row a.target))
set-again limit filter attrs small few k g n =
    let row = row_of (canonical filter attrs) in
    let l = suffices limit k.stores g.lent in
    let q = seat-good limit k g filter attrs few row (row-set filter attrs small few) (row-short filter attrs small few) n in
    (q, seat-again limit row k.dir k.stores g.agrees l.sets l.entries l.order n q.agrees)

-- ---- BY HANDLE

abbrev pub seat_by : ℕ → ℕ → Kept → Seating
seat_by limit b k = seated_by limit k.dir k.stores b

pub handle-again : (limit b : ℕ) (row : List ℕ) (k : Kept) → Good limit k
    → (let a = seat_by limit b k in
    a.no ≡ 0 → Good limit (committed k.dir k.stores row a.target) × Again (seat_by limit b) row a.slot (committed k.dir k.stores row a.target))
handle-again limit b row k g n =
    let a = seat_by limit b k in
    let m = committed k.dir k.stores row a.target in
    let l = suffices limit k.stores g.lent in
    let q = by-good limit k g b row n in
    let v = suffices limit m.stores q.lent in
    let e = by-again limit k.dir k.stores b row l.entries g.agrees n q.agrees in
    let first = by-marks limit k.dir k.stores b row l.entries g.agrees n in
    let next = subst (λ (c : Seating). c.no ≡ 0 → (committed m.dir m.stores row c.target ≡ marked_in m c.slot) × (c.slot < length m.stores.entries)) e
    (by-marks limit m.dir m.stores b row v.entries q.agrees) refl in (
      q,
      record {
        target = a.target;
        seat-is = e;
        committed-is = next.0 ∙ ap (λ (j : Kept). marked_in j a.slot) first.0 ∙ marked_in_lem k a.slot first.1 ∙ sym first.0;
      },
    )
