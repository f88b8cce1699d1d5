-- Where a call with a set goes: what each target says, and that there is room for what is made. Assumes nothing.
use Rattle.std.specs.Prelude.{Ok, Err, Result, ℕ}
use Rattle.std.proofs.Common.{◌≡◌, ℕ, zero, suc, ◌+◌, ◌<◌, ◌≤◌, Bool, true, false, not, ◌||◌, eqb, ltb, leb, ◌⊎◌, List, [], ◌∷◌, map, length, sym, refl, ap, ◌∙◌, subst, inl, inr, ⊎_elim, arith, ltb-true, eqb-true, leb-true}
use Prim.Native.Nat.{Ordering}
use mathlib.Core.Option.{none, some}
use lib.Dec.{compare_is_eq}
use Rattle.tally.specs.Sets.{Set, overflow, three, cmp, same, mem, Rising, Above}
use Rattle.tally.specs.Kind.{Kind}
use Rattle.tally.specs.Map.{Entry, Map, find, plain, plains, bit}
use Rattle.tally.proofs.MapSteps.{new, held, place}
use Rattle.tally.proofs.Order.{gt-lt, lt_gt, same-flip, same-eq}
use Rattle.laws.proofs.Cases.{true-not-false}
use Rattle.tally.proofs.Rising.{above-trans, above-mem}
use Rattle.laws.proofs.Cases.{and-true}
use Rattle.sets.specs.All.{allb}
use Rattle.sets.specs.Rows.{span, set_of, size, soundb}
use Rattle.sets.proofs.Keyed.{empty-row}
use Rattle.directory.specs.Calls.{over_row, target_of, located}
use Rattle.directory.specs.View.{Stores, set_at, place_at, slotsb, agreesb, countsb, plainly, seek, sought, entry_at, view}
use Rattle.directory.specs.declared.Directory.{Directory}
use Rattle.directory.specs.declared.Target.{Target}
use Rattle.directory.specs.declared.Target.TheVariants.{Disagrees, Old, New, Over}
use Rattle.directory.proofs.Admits.{sought-room, room-rank, length-span}
use Rattle.directory.proofs.Laws.{slots_of, few, slot-used, ascends}
use Rattle.directory.proofs.Rises.{In, seek-held}
use Rattle.laws.specs.Pick.{pick}

pub over-set : set_of over_row ≡ overflow
unfolding set_of
over-set = refl

-- what each target says
abbrev pub Facts : ℕ → Directory → Stores → List ℕ → Target → Type 0
Facts limit d s row Disagrees = agreesb limit d s ≡ false
Facts limit d s row (Old x) =
    (agreesb limit d s ≡ true)
    × ((sought (set_of row) d.used s.sets s.order ≡ Ok x)
    ⊎ ((r : ℕ) × (sought (set_of row) d.used s.sets s.order ≡ Err r) × (ltb d.count limit ≡ false) × (sought (set_of over_row) d.used s.sets s.order ≡ Ok x)))
Facts limit d s row (New r) =
    (agreesb limit d s ≡ true) × (sought (set_of row) d.used s.sets s.order ≡ Err r) × (ltb d.count limit ≡ true)
Facts limit d s row (Over q) =
    (agreesb limit d s ≡ true) × ((r : ℕ) × (sought (set_of row) d.used s.sets s.order ≡ Err r) × (ltb d.count limit ≡ false) × (sought (set_of over_row) d.used s.sets s.order ≡ Err q))

module _ (limit : ℕ) (d : Directory) (s : Stores) (row : List ℕ) where
  facts-of : (g : Bool) → agreesb limit d s ≡ g → (o : Result ℕ ℕ) → sought (set_of row) d.used s.sets s.order ≡ o → (b : Bool) → ltb d.count limit ≡ b
      → (v : Result ℕ ℕ) → sought (set_of over_row) d.used s.sets s.order ≡ v → Facts limit d s row (pick g (target_of o b v) Disagrees)
  unfolding pick
  facts-of false g o e b h v k = g
  facts-of true g (Ok x) e b h v k = (g, inl e)
  facts-of true g (Err r) e true h v k = (g, e, h)
  facts-of true g (Err r) e false h (Ok x) k = (g, inr (r, e, h, k))
  facts-of true g (Err r) e false h (Err q) k = (g, (r, e, h, k))

  pub facts : Facts limit d s row (located limit d s row)
  unfolding located
  facts = facts-of (agreesb limit d s) refl (sought (set_of row) d.used s.sets s.order) refl (ltb d.count limit) refl (sought (set_of over_row) d.used s.sets s.order) refl

-- room: at most one set is overflow
not_plain : (x : Set) → cmp [] x ≡ Ordering.lt → plain x ≡ false → x ≡ overflow
not_plain x e p = same-eq x overflow (go (same x []) refl (same x overflow) refl p)
  where
    go : (a : Bool) → same x [] ≡ a → (b : Bool) → same x overflow ≡ b → not (a || b) ≡ false → b ≡ true
    go true i b j q = true-not-false (sym i ∙ ap compare_is_eq (lt_gt [] x e))
    go false i true j q = refl
    go false i false j q = true-not-false q

plain_other : (x : Set) → cmp [] x ≡ Ordering.lt → same x overflow ≡ false → plain x ≡ true
plain_other x e n = let i : same x [] ≡ false = ap compare_is_eq (lt_gt [] x e) in rw (i, n)

or-false : (a b : Bool) → (a || b) ≡ false → (a ≡ false) × (b ≡ false)
or-false true b e = true-not-false e
or-false false b e = (refl, e)

pub plains_all : (l : List Set) → Above [] l → mem overflow l ≡ false → plains l ≡ length l
plains_all [] a m = refl
plains_all (x ∷ l) a m =
    let n = or-false (same x overflow) (mem overflow l) m in
    rw (plain_other x a.0 n.0) (omega (arith, plains_all l a.1 n.1))

pub plains-near : (l : List Set) → Rising l → Above [] l → length l ≤ plains l + 1
plains-near [] r a = omega arith
plains-near (x ∷ l) r a = go (plain x) refl (plains-near l r.1 a.1)
  where
    go : (b : Bool) → plain x ≡ b → length l ≤ plains l + 1 → suc (length l) ≤ bit b + plains l + 1
    go true e k = omega arith
    go false e k =
        let o = not_plain x a.0 e in
        omega (arith, plains_all l a.1 (subst (λ (y : Set). mem y l ≡ false) o (above-mem x l r.0)))

seek-none : (s : Set) (sets : List (List ℕ)) (l : List ℕ) (i r : ℕ) → Rising (map (set_at sets) l) → seek s sets l i ≡ Err r → mem s (map (set_at sets) l) ≡ false
seek-none s sets [] i r g e = refl
seek-none s sets (y ∷ l) i r g e = go (cmp s (set_at sets y)) refl e (seek-none s sets l (suc i) r g.1)
  where
    go : (o : Ordering) → cmp s (set_at sets y) ≡ o → three o (Err i) (Ok y) (seek s sets l (suc i)) ≡ Err r → (seek s sets l (suc i) ≡ Err r → mem s (map (set_at sets) l) ≡ false) → (same (set_at sets y) s || mem s (map (set_at sets) l)) ≡ false
    go Ordering.lt d q ih = rw (ap compare_is_eq (lt_gt s (set_at sets y) d)) (above-mem s (map (set_at sets) l) (above-trans s (set_at sets y) (map (set_at sets) l) d g.0))
    go Ordering.eq d q ih = let z : ◌≡◌ {A = ℕ} 0 1 = cc in absurd (omega arith)
    go Ordering.gt d q ih = rw (ap compare_is_eq (gt-lt s (set_at sets y) d)) (ih q)

or-true : (a b : Bool) → (a || b) ≡ true → (a ≡ true) ⊎ (b ≡ true)
or-true true b e = inl refl
or-true false b e = inr e

module _ (limit : ℕ) (d : Directory) (s : Stores) (g : agreesb limit d s ≡ true) where
  counts-right : countsb limit d.count d.used (plainly s.sets s.order d.used) ≡ true
  unfolding agreesb
  counts-right =
      (and-true (allb d.used (place_at s.sets s.order d.used)) _ (and-true (slotsb d.used d.last s.sets s.entries) _ (and-true (leb d.used (limit + 1)) _ g).1).1).1

  pub counted : (d.count ≤ limit) × ((d.count ≡ plainly s.sets s.order d.used) ⊎ ((d.count ≡ plainly s.sets s.order d.used + 1) × (plainly s.sets s.order d.used < d.used)))
  counted =
      let p = and-true (leb d.count limit) _ counts-right in (
        leb-true _ _ p.0,
        ⊎_elim (λ e. inl (eqb-true _ _ e)) (λ e. let q = and-true (eqb d.count (plainly s.sets s.order d.used + 1)) _ e in inr (eqb-true _ _ q.0, ltb-true _ _ q.1))
            (or-true (eqb d.count (plainly s.sets s.order d.used)) _ p.1),
      )

  near : d.used ≤ plainly s.sets s.order d.used + 1
  near =
      omega (arith, plains-near (map (set_at s.sets) (span s.order 0 d.used)) (ascends limit d s g).1 (ascends limit d s g).0, length-span (set_at s.sets) s.order 0 d.used)

  pub room-new : d.count < limit → d.used ≤ limit
  room-new h = ⊎_elim (λ e. omega (arith, near)) (λ e. omega (arith, near, e.0)) counted.1

  pub room-over : (q : ℕ) → sought (set_of over_row) d.used s.sets s.order ≡ Err q → d.used ≤ limit
  room-over q e =
      let m = seek-none (set_of over_row) s.sets (span s.order 0 d.used) 0 q (ascends limit d s g).1 (sought-room (set_of over_row) d.used s.sets s.order q e).1 in
      let n : mem overflow (map (set_at s.sets) (span s.order 0 d.used)) ≡ false = subst (λ (w : Set). mem w (map (set_at s.sets) (span s.order 0 d.used)) ≡ false) over-set m in
      let p = plains_all (map (set_at s.sets) (span s.order 0 d.used)) (ascends limit d s g).0 n in
      let l = length-span (set_at s.sets) s.order 0 d.used in
      ⊎_elim (λ c. omega (arith, p, l, counted.0, c)) (λ c. omega (arith, p, l, c.1)) counted.1

-- what a search finds of the whole map
split-held : (b : Bool) (o : Result ℕ ℕ) (x : ℕ) → pick b (Ok 0) o ≡ Ok x → ((b ≡ true) × (0 ≡ x)) ⊎ ((b ≡ false) × (o ≡ Ok x))
unfolding pick
split-held true o x e = inl (refl, cc)
split-held false o x e = inr (refl, e)

module _ (w : Set) (used : ℕ) (sets : List (List ℕ)) (order : List ℕ) (x : ℕ) where
  sought-split : sought w used sets order ≡ Ok x → ((same w [] ≡ true) × (0 ≡ x)) ⊎ ((same w [] ≡ false) × (seek w sets (span order 0 used) 0 ≡ Ok x))
  unfolding sought
  sought-split e = split-held (same w []) (seek w sets (span order 0 used) 0) x e

module _ (K : Kind) (f : ℕ → K.Series) (z : K.Settings) (d : Directory) (s : Stores) (w : Set) (x : ℕ) where
  pub sought-held : sought w d.used s.sets s.order ≡ Ok x → (In x (slots_of d s)) × (find K w (view K f z d s).entries ≡ some (entry_at K f s x))
  unfolding pick
  sought-held e = ⊎_elim first later (sought-split w d.used s.sets s.order x e)
    where
      first : (same w [] ≡ true) × (0 ≡ x) → (In x (slots_of d s)) × (find K w (view K f z d s).entries ≡ some (entry_at K f s x))
      first p =
          let n : same [] w ≡ true = same-flip w [] ∙ p.0 in
          (inl (sym p.1), rw n (ap (λ k. some (entry_at K f s k)) p.1))

      later : (same w [] ≡ false) × (seek w s.sets (span s.order 0 d.used) 0 ≡ Ok x) → (In x (slots_of d s)) × (find K w (view K f z d s).entries ≡ some (entry_at K f s x))
      later p =
          let n : same [] w ≡ false = same-flip w [] ∙ p.0 in
          let q = seek-held K f s w (span s.order 0 d.used) 0 x p.1 in
          (inr q.0, rw n q.1)

-- the places that a call comes to
module _ (K : Kind) (limit : ℕ) (m : Map K) (w : Set) where
  pub place-held : (e : Entry K) → find K w m.entries ≡ some e → place K limit m w ≡ held K m e
  unfolding place
  place-held e h = rw h

  pub place-over-held : (e : Entry K) → find K w m.entries ≡ none → ltb m.count limit ≡ false → find K overflow m.entries ≡ some e → place K limit m w ≡ held K m e
  unfolding place pick
  place-over-held e h b o = rw (h, b, o)

  pub place-new : find K w m.entries ≡ none → ltb m.count limit ≡ true → place K limit m w ≡ record { entry = new K w (suc m.last); count = suc m.count; last = suc m.last }
  unfolding place pick
  place-new h b = rw (h, b)

  pub place-over : find K w m.entries ≡ none → ltb m.count limit ≡ false → find K overflow m.entries ≡ none → place K limit m w ≡ record { entry = new K overflow (suc m.last); count = m.count; last = suc m.last }
  unfolding place pick
  place-over h b o = rw (h, b, o)

-- a kind without figures, for what is the same for all
abbrev pub blank : Kind
blank =
    record {
      Settings = Unit;
      valid = λ z. true;
      Value = Unit;
      Series = Unit;
      Point = Unit;
      finite = λ v. true;
      fresh = λ z. tt;
      add = λ z a v. tt;
      agrees = λ z a. true;
      total = λ a. 0;
      allows = λ z a v. true;
      point = λ z a. tt;
      pos = λ p. 0;
      neg = λ p. 0;
      point_of = λ z l. tt;
      allowed = λ z l v. true;
    }

-- each place that a call touches is there
module _ (limit : ℕ) (d : Directory) (s : Stores) (row : List ℕ) where
  pub told : (t : Target) → located limit d s row ≡ t → Facts limit d s row t
  told t e = subst (λ (o : Target). Facts limit d s row o) e (facts limit d s row)

  -- a directory that disagrees names no place
  pub located-no : agreesb limit d s ≡ false → located limit d s row ≡ Disagrees
  unfolding located pick
  located-no g = rw g

  pub old-there : (x : ℕ) → located limit d s row ≡ Old x → limit + 2 ≤ length s.entries → x < length s.entries
  old-there x e l =
      let z = told (Old x) e in
      let g = z.0 in
      let i : In x (slots_of d s) = ⊎_elim (λ h. (sought-held blank (λ k. tt) tt d s (set_of row) x h).0) (λ h. (sought-held blank (λ k. tt) tt d s (set_of over_row) x h.3).0) z.1 in
      omega (arith, slot-used limit d s g x i, few limit d s g)

  pub new-there : (r : ℕ) → located limit d s row ≡ New r → (r ≤ d.used) × (d.used ≤ limit) × (d.count < limit)
  new-there r e =
      let z = told (New r) e in
      let h : d.count < limit = ltb-true _ _ z.2 in
      ((room-rank blank (λ k. tt) tt limit d s z.0 (set_of row) r z.1).2, room-new limit d s z.0 h, h)

  pub over-there : (q : ℕ) → located limit d s row ≡ Over q → (q ≤ d.used) × (d.used ≤ limit)
  over-there q e =
      let z = told (Over q) e in
      ((room-rank blank (λ k. tt) tt limit d s z.0 (set_of over_row) q z.1.3).2, room-over limit d s z.0 q z.1.3)

-- a new set has an attribute
pub some_words : (row : List ℕ) (used : ℕ) (sets : List (List ℕ)) (order : List ℕ) (r : ℕ) → sought (set_of row) used sets order ≡ Err r → 1 ≤ size row
some_words row used sets order r e = go (size row) refl
  where
    go : (n : ℕ) → size row ≡ n → 1 ≤ n
    go zero p = true-not-false (sym (empty-row row p) ∙ (sought-room (set_of row) used sets order r e).0)
    go (suc n) p = omega arith

pub sound-over : soundb over_row ≡ true
unfolding soundb allb
sound-over = refl
