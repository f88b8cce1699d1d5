-- Binding is the map's step, for any kind of series. Assumes nothing.
use Rattle.std.specs.Prelude.{Ok, Err}
use Prim.Native.Nat.{ℕ, suc, ◌+◌, ◌^◌, ◌≤◌, ◌<◌}
use mathlib.Core.Path.{◌≡◌, refl, ap, sym, subst, ◌∙◌}
use mathlib.Core.Logic.{◌⊎◌, inl, inr, ⊎_elim}
use mathlib.Core.Bool.{Bool, true, false}
use mathlib.Core.List.{List, [], map}
use mathlib.Core.Option.{none, some}
use native.Mathlib.Omega.{arith}
use native.Mathlib.Numerals.{add-one}
use borrow.Author.Tests.{leb-true, leb-false, ltb-true, lt-ltb, le-ltb, le-leb, lt-leb}
use lib.Dec.{ltb, leb}
use lib.ListN.{length, get_or}
use Rattle.tally.specs.Sets.{Set, overflow, canonical}
use Rattle.tally.specs.Kind.{Kind}
use Rattle.tally.specs.Map.{Config, Map, bind, handle, refuse, Out, find}
use Rattle.tally.proofs.MapSteps.{Place, put, write, rebound, new, held, place, bind_at, upfront, act}
use Rattle.laws.proofs.Cases.{true-not-false}
use Rattle.sets.specs.Rows.{set_of}
use Rattle.directory.specs.Calls.{over_row, located, bound_to, admitted}
use Rattle.directory.specs.View.{Stores, birth_at, agreesb, sought, entry_at, view}
use Rattle.directory.specs.declared.Directory.{Directory}
use Rattle.directory.specs.declared.Target.{Target}
use Rattle.directory.specs.declared.Target.TheVariants.{Disagrees, Old, New, Over}
use Rattle.directory.proofs.Admits.{room-rank, admit-put}
use Rattle.directory.proofs.Laws.{slots_of, few, slot-used, ascends, rebind-put}
use Rattle.directory.proofs.Located.{Facts, facts, located-no, over-set, room-new, room-over, sought-held, place-held, place-over-held, place-new, place-over}
use Rattle.directory.proofs.Rises.{In}
use Rattle.bindings.specs.Calls.{map_answer, refused, Outcome, bound_at, born_bound, bound_in, held_bound}
use Rattle.bindings.proofs.Releases.{Steps}
use Rattle.laws.specs.Pick.{pick}
use Rattle.laws.specs.Said.{success}

-- and what binding is there
module _ (K : Kind) (f : ℕ → K.Series) (z : K.Settings) where
  -- an outcome is this one of the map
  abbrev Is : Outcome → Out K → Type 0
  Is o p = (map_answer K o.answer ≡ p.answer) × (view K f z o.kept.dir o.kept.stores ≡ p.map)

  both : {o q : Outcome} {p w : Out K} → o ≡ q → p ≡ w → Is o p → Is q w
  both {o} {q} {p} {w} e h i = subst (λ (t : Outcome). Is t w) e (subst (λ (t : Out K). Is o t) h i)

  module _ (limit : ℕ) (d : Directory) (s : Stores) (row : List ℕ) (g : agreesb limit d s ≡ true) (small : d.last < 2 ^ 64) where
    old-full : (x : ℕ) → 18446744073709551615 ≤ get_or (get_or s.entries x []) 1 0 → Is (bound_at d s row (Old x)) (bind_at K (view K f z d s) (held K (view K f z d s) (entry_at K f s x)))
    unfolding bind_at pick
    old-full x h =
        let a : leb 18446744073709551615 (get_or (get_or s.entries x []) 1 0) ≡ true = le-leb _ _ h in
        let b : ltb (suc (get_or (get_or s.entries x []) 1 0)) (2 ^ 64) ≡ false = le-ltb (suc (get_or (get_or s.entries x []) 1 0)) (2 ^ 64) (omega arith) in
        let l : ltb d.last (2 ^ 64) ≡ true = lt-ltb _ _ small in
        let o : bound_at d s row (Old x) ≡ refused 9 d s = rw a in
        let q : bind_at K (view K f z d s) (held K (view K f z d s) (entry_at K f s x)) ≡ record { answer = refuse 9; map = view K f z d s } = rw (l, b) in
        both (sym o) (sym q) (refl, refl)

    old-more : (x : ℕ) → In x (slots_of d s) → limit + 2 ≤ length s.entries → get_or (get_or s.entries x []) 1 0 < 18446744073709551615 → Is (bound_at d s row (Old x)) (bind_at K (view K f z d s) (held K (view K f z d s) (entry_at K f s x)))
    unfolding bind_at pick
    old-more x m r h =
        let a : leb 18446744073709551615 (get_or (get_or s.entries x []) 1 0) ≡ false = lt-leb _ _ h in
        let b : ltb (suc (get_or (get_or s.entries x []) 1 0)) (2 ^ 64) ≡ true = lt-ltb (suc (get_or (get_or s.entries x []) 1 0)) (2 ^ 64) (omega arith) in
        let l : ltb d.last (2 ^ 64) ≡ true = lt-ltb _ _ small in
        let u = slot-used limit d s g x m in
        let v = few limit d s g in
        let p = rebind-put K f s x (get_or (get_or s.entries x []) 1 0 + 1) (slots_of d s) (ascends limit d s g) m (omega arith) in
        let q = ap (λ (k : ℕ). put K (rebound K (entry_at K f s x) k) (map (entry_at K f s) (slots_of d s))) (add-one (get_or (get_or s.entries x []) 1 0)) in
        let n : ℕ = get_or (get_or s.entries x []) 1 0 in
        let o : bound_at d s row (Old x)
        ≡ record { answer = success (some (birth_at s.entries x)); kept = record { dir = d; stores = record { sets = s.sets; entries = bound_to s.entries x (n + 1); order = s.order } } } = rw a in
        let w : bind_at K (view K f z d s) (held K (view K f z d s) (entry_at K f s x))
        ≡ record { answer = handle (birth_at s.entries x); map = write K (view K f z d s) (held K (view K f z d s) (entry_at K f s x)) (rebound K (entry_at K f s x) (suc n)) } = rw (l, b) in
        both (sym o) (sym w) (refl, ap (λ t. record { settings = z; count = d.count; last = d.last; entries = t }) (p ∙ q))

    -- a new entry, for the set of a row, with the count then
    module _ (new_row : List ℕ) (r more count : ℕ) (c : d.count + more ≡ count) where
      abbrev newly : Place K
      newly = record { entry = new K (set_of new_row) (suc d.last); count = count; last = suc d.last }

      born-spent : 18446744073709551615 ≤ d.last → Is (born_bound d s new_row r more) (bind_at K (view K f z d s) newly)
      unfolding bind_at pick
      born-spent h =
          let a : leb 18446744073709551615 d.last ≡ true = le-leb _ _ h in
          let b : ltb (suc d.last) (2 ^ 64) ≡ false = le-ltb (suc d.last) (2 ^ 64) (omega arith) in
          let o : born_bound d s new_row r more ≡ refused 9 d s = rw a in
          let q : bind_at K (view K f z d s) newly ≡ record { answer = refuse 9; map = view K f z d s } = rw b in
          both (sym o) (sym q) (refl, refl)

      born-made : sought (set_of new_row) d.used s.sets s.order ≡ Err r → d.used + 1 < length s.sets → d.used + 1 < length s.entries → d.used < length s.order
          → d.last < 18446744073709551615 → Is (born_bound d s new_row r more) (bind_at K (view K f z d s) newly)
      unfolding bind_at pick
      born-made e ls le lo h =
          let a : leb 18446744073709551615 d.last ≡ false = lt-leb _ _ h in
          let b : ltb (suc d.last) (2 ^ 64) ≡ true = lt-ltb (suc d.last) (2 ^ 64) (omega arith) in
          let p = admit-put K f z limit d s g new_row r more 1 ls le lo e in
          let F : ℕ → ℕ → Map K = λ k l. record { settings = z; count = k; last = l; entries = put K (rebound K (new K (set_of new_row) l) 1) (view K f z d s).entries } in
          let o : born_bound d s new_row r more ≡ record { answer = success (some (d.last + 1)); kept = admitted d s new_row r more 1 } = rw a in
          let q : bind_at K (view K f z d s) newly ≡ record { answer = handle (suc d.last); map = write K (view K f z d s) newly (rebound K newly.entry 1) } = rw b in
          both (sym o) (sym q) (ap handle (add-one d.last), p ∙ ap (λ k. F k (d.last + 1)) c ∙ ap (λ l. F count l) (add-one d.last))

  at_least : (a b : ℕ) → (a ≤ b) ⊎ (b < a)
  at_least a b = go (leb a b) refl
    where
      go : (t : Bool) → leb a b ≡ t → (a ≤ b) ⊎ (b < a)
      go true e = inl (leb-true a b e)
      go false e = inr (leb-false a b e)

  -- binding is the map's step, where the directory agrees and the stores have room for limit + 2 entries
  module _ (c : Config K) (d : Directory) (s : Stores) (row : List ℕ) (small : d.last < 2 ^ 64)
      (ls : c.limit + 2 ≤ length s.sets) (le : c.limit + 2 ≤ length s.entries) (lo : c.limit + 2 ≤ length s.order) where
    abbrev m : Map K
    m = view K f z d s

    old-is : (x : ℕ) → agreesb c.limit d s ≡ true → In x (slots_of d s) → Is (bound_at d s row (Old x)) (bind_at K m (held K m (entry_at K f s x)))
    old-is x g i =
        ⊎_elim (λ h. old-full c.limit d s row g small x h) (λ h. old-more c.limit d s row g small x i le h) (at_least 18446744073709551615 (get_or (get_or s.entries x []) 1 0))

    born-is : agreesb c.limit d s ≡ true → (new_row : List ℕ) (r more count : ℕ) → d.count + more ≡ count → sought (set_of new_row) d.used s.sets s.order ≡ Err r → d.used ≤ c.limit
        → Is (born_bound d s new_row r more) (bind_at K m (record { entry = new K (set_of new_row) (suc d.last); count = count; last = suc d.last }))
    born-is g new_row r more count e q u =
        ⊎_elim (λ h. born-spent c.limit d s row g small new_row r more count e h)
        (λ h. born-made c.limit d s row g small new_row r more count e q (omega arith) (omega arith) (omega arith) h) (at_least 18446744073709551615 d.last)

    over-find : (x : ℕ) → sought (set_of over_row) d.used s.sets s.order ≡ Ok x → find K overflow m.entries ≡ some (entry_at K f s x)
    over-find x e = (sought-held K f z d s overflow x (ap (λ w. sought w d.used s.sets s.order) (sym over-set) ∙ e)).1

    over_none : (q : ℕ) → agreesb c.limit d s ≡ true → sought (set_of over_row) d.used s.sets s.order ≡ Err q → find K overflow m.entries ≡ none
    over_none q g e = (room-rank K f z c.limit d s g overflow q (ap (λ w. sought w d.used s.sets s.order) (sym over-set) ∙ e)).0

    target_is : agreesb c.limit d s ≡ true → (t : Target) → Facts c.limit d s row t → Is (bound_at d s row t) (bind_at K m (place K c.limit m (set_of row)))
    target_is g Disagrees y = true-not-false (sym g ∙ y)
    target_is g (Old x) y = ⊎_elim own over y.1
      where
        own : sought (set_of row) d.used s.sets s.order ≡ Ok x → Is (bound_at d s row (Old x)) (bind_at K m (place K c.limit m (set_of row)))
        own e =
            let h = sought-held K f z d s (set_of row) x e in
            rw (place-held K c.limit m (set_of row) (entry_at K f s x) h.1) (old-is x g h.0)

        over : (r : ℕ) × (sought (set_of row) d.used s.sets s.order ≡ Err r) × (ltb d.count c.limit ≡ false) × (sought (set_of over_row) d.used s.sets s.order ≡ Ok x) → Is (bound_at d s row (Old x)) (bind_at K m (place K c.limit m (set_of row)))
        over e =
            let h = sought-held K f z d s (set_of over_row) x e.3 in
            rw (place-over-held K c.limit m (set_of row) (entry_at K f s x) (room-rank K f z c.limit d s g (set_of row) e.0 e.1).0 e.2 (over-find x e.3)) (old-is x g h.0)
    target_is g (New r) y =
        rw (place-new K c.limit m (set_of row) (room-rank K f z c.limit d s g (set_of row) r y.1).0 y.2)
        (born-is g row r 1 (suc d.count) (add-one d.count) y.1 (room-new c.limit d s g (ltb-true _ _ y.2)))
    target_is g (Over q) y =
        let e = y.1 in
        rw (place-over K c.limit m (set_of row) (room-rank K f z c.limit d s g (set_of row) e.0 e.1).0 e.2 (over_none q g e.3))
        (subst (λ (w : Set). Is (born_bound d s over_row q 0) (bind_at K m (record { entry = new K w (suc d.last); count = d.count; last = suc d.last }))) over-set
        (born-is g over_row q 0 d.count (omega arith) e.3 (room-over c.limit d s g q e.3)))

    pub bind-faithful : (attrs : Set) → length attrs ≤ 8 → set_of row ≡ canonical c.filter attrs → agreesb c.limit d s ≡ true
        → Steps K f z c (view K f z d s) (bind attrs) (bound_in c.limit d s row)
    unfolding upfront act bound_in
    bind-faithful attrs h w g =
        let b : leb (length attrs) 8 ≡ true = le-leb (length attrs) 8 h in
        rw (b, ← w) (target_is g (located c.limit d s row) (facts c.limit d s row))

-- where a call goes, and so what it makes
pub bound-at : (limit : ℕ) (d : Directory) (s : Stores) (row : List ℕ) (t : Target) → located limit d s row ≡ t → bound_in limit d s row ≡ bound_at d s row t
unfolding bound_in
bound-at limit d s row t e = ap (bound_at d s row) e

pub bind-no : (limit : ℕ) (d : Directory) (s : Stores) (row : List ℕ) → agreesb limit d s ≡ false → bound_in limit d s row ≡ refused 8 d s
bind-no limit d s row g = bound-at limit d s row Disagrees (located-no limit d s row g)

module _ (d : Directory) (s : Stores) where
  module _ (x : ℕ) where
    pub held-full : 18446744073709551615 ≤ get_or (get_or s.entries x []) 1 0 → held_bound d s x ≡ refused 9 d s
    unfolding pick
    held-full h = rw (le-leb 18446744073709551615 (get_or (get_or s.entries x []) 1 0) h)

    pub held_more : get_or (get_or s.entries x []) 1 0 < 18446744073709551615 → held_bound d s x
        ≡ record { answer = success (some (birth_at s.entries x)); kept = record { dir = d; stores = record { sets = s.sets; entries = bound_to s.entries x (get_or (get_or s.entries x []) 1 0 + 1); order = s.order } } }
    unfolding pick
    held_more h = rw (lt-leb 18446744073709551615 (get_or (get_or s.entries x []) 1 0) h)

  module _ (row : List ℕ) (r more : ℕ) where
    pub born-none : 18446744073709551615 ≤ d.last → born_bound d s row r more ≡ refused 9 d s
    unfolding pick
    born-none h = rw (le-leb 18446744073709551615 d.last h)

    pub born-one : d.last < 18446744073709551615 → born_bound d s row r more ≡ record { answer = success (some (d.last + 1)); kept = admitted d s row r more 1 }
    unfolding pick
    born-one h = rw (lt-leb 18446744073709551615 d.last h)
