-- What is committed leaves the directory agreeing with itself, each slot its set and its birth number, and a new slot a number that was
-- not spent: the promises of bindings' runs hold of recordings too. Assumes nothing.
use Rattle.std.specs.Prelude.{Ok, Err, Result, ℕ}
use Prim.Native.Nat.{ℕ, ◌+◌, ◌^◌, ◌≤◌, ◌<◌}
use mathlib.Core.Path.{◌≡◌, refl, ap, sym, subst, ◌∙◌}
use mathlib.Core.Bool.{Bool, true, false}
use mathlib.Core.List.{List, [], ◌∷◌}
use mathlib.Core.Option.{Option, none, some}
use native.Mathlib.Omega.{arith}
use borrow.Author.Tests.{le-leb, eqb-true, eqb-false}
use lib.Dec.{eqb}
use lib.ListN.{length, get_or, set, length-set}
use lib.Seq.{get_or-set_same, get_or-set_other}
use Rattle.tally.specs.Sets.{Set, canonical, Keyed}
use Rattle.tally.specs.Map.{Config, Map, Call, Out, or_refused, measure, measure_by, done, Agrees}
use Rattle.tally.proofs.MapSteps.{upfront, act}
use Rattle.tally.proofs.Agree.{step-agrees}
use Rattle.tally.proofs.Canon.{canonical_keyed}
use Rattle.sets.specs.Rows.{size, set_of}
use Rattle.sets.proofs.Keyed.{keyed-sound}
use Rattle.directory.specs.View.{Stores, Laid, birth_at, agreesb, view}
use Rattle.directory.specs.Calls.{Kept, over_row, located, scan, admitted}
use Rattle.directory.specs.declared.Directory.{Directory}
use Rattle.directory.specs.declared.Target.{Target}
use Rattle.directory.specs.declared.Target.TheVariants.{Disagrees, Old, New, Over}
use Rattle.directory.proofs.Laws.{slots_of}
use Rattle.directory.proofs.Located.{blank, told, new-there, over-there, some_words, sound-over}
use Rattle.directory.proofs.Tied.{agreed}
use Rattle.directory.proofs.Laid.{laid, laid-agrees, birth-set, laid_births, laid_admit}
use Rattle.directory.proofs.Refusals.{suffices}
use Rattle.directory.proofs.Leaves.{Leaves, births_leave, same-leaves, admit-leaves, Good, lasts}
use Rattle.seats.specs.Seats.{seat_at, seated, seat_by, seated_by, marked, marked_in, committed, Seating}
use Rattle.seats.proofs.Recording.{held_at, refusal}
use Rattle.seats.proofs.Commits.{commit-old, commit-new, commit-over}
use Rattle.seats.proofs.Seatings.{new-either, old-safe, by-is, by-there}
use Rattle.seats.proofs.Faithful.{measure-done, by-done}

-- a mark leaves birth numbers, so the layout
module _ (entries : List (List ℕ)) (x : ℕ) where
  pub marked-long : length (marked entries x) ≡ length entries
  unfolding marked
  marked-long = length-set entries x _

  pub marked_births : x < length entries → (y : ℕ) → birth_at (marked entries x) y ≡ birth_at entries y
  unfolding marked
  marked_births h y = birth-set entries x y (get_or (get_or entries x []) 0 0 ∷ get_or (get_or entries x []) 1 0 ∷ 1 ∷ []) h refl

  pub marked-bindings : x < length entries → (y : ℕ) → get_or (get_or (marked entries x) y []) 1 0 ≡ get_or (get_or entries y []) 1 0
  unfolding marked
  marked-bindings h y = go (eqb y x) refl
    where
      new : List ℕ
      new = get_or (get_or entries x []) 0 0 ∷ get_or (get_or entries x []) 1 0 ∷ 1 ∷ []

      go : (t : Bool) → eqb y x ≡ t → get_or (get_or (set entries x new) y []) 1 0 ≡ get_or (get_or entries y []) 1 0
      go true e = subst (λ (i : ℕ). get_or (get_or (set entries x new) i []) 1 0 ≡ get_or (get_or entries i []) 1 0) (sym (eqb-true y x e)) (ap (λ r. get_or r 1 0) (get_or-set_same entries x new [] h))
      go false e = ap (λ r. get_or r 1 0) (get_or-set_other entries x y new [] (eqb-false y x e))

module _ (k : Kept) (x : ℕ) (h : x < length k.stores.entries) where
  mark-laid : Laid k.dir k.stores → Laid (marked_in k x).dir (marked_in k x).stores
  mark-laid a = laid_births k.dir k.stores (marked k.stores.entries x) (marked_births k.stores.entries x h) a

  mark-leaves : (d : Directory) (s : Stores) → Leaves d s k → Leaves d s (marked_in k x)
  mark-leaves d s v = births_leave d s k (marked k.stores.entries x) (marked-long k.stores.entries x) (marked_births k.stores.entries x h) v

-- what is left of a directory: sets and birth numbers, each used slot's bindings, and the layout
module _ (d : Directory) (s : Stores) where
  pub record Stays (k : Kept) : Type 0 where
    pub leaves : Leaves d s k
    pub bindings : (y : ℕ) → y ≤ d.used → get_or (get_or k.stores.entries y []) 1 0 ≡ get_or (get_or s.entries y []) 1 0
    pub laid : Laid k.dir k.stores

  old-stays : (row : List ℕ) (x : ℕ) → d.last < 2 ^ 64 → x < length s.entries → Laid d s → Stays (committed d s row (Old x))
  old-stays row x small h a =
      subst Stays (sym (commit-old d s row x))
      (record {
        leaves = mark-leaves (record { dir = d; stores = s }) x h d s (same-leaves d s small);
        bindings = λ y u. marked-bindings s.entries x h y;
        laid = mark-laid (record { dir = d; stores = s }) x h a;
      })

  module _ (new_row : List ℕ) (r more : ℕ) (ls : d.used + 1 < length s.sets) (le : d.used + 1 < length s.entries) (lo : d.used < length s.order) (rank : r ≤ d.used) where
    made_in : d.used + 1 < length (admitted d s new_row r more 0).stores.entries
    unfolding admitted
    made_in = omega (arith, length-set s.entries (d.used + 1) ((d.last + 1) ∷ 0 ∷ 0 ∷ []))

    other-bindings : (y : ℕ) → y ≤ d.used → get_or (get_or (admitted d s new_row r more 0).stores.entries y []) 1 0 ≡ get_or (get_or s.entries y []) 1 0
    unfolding admitted
    other-bindings y u = ap (λ w. get_or w 1 0) (get_or-set_other s.entries (d.used + 1) y ((d.last + 1) ∷ 0 ∷ 0 ∷ []) [] (λ e. omega arith))

    new-stays : d.last < 18446744073709551615 → Laid (admitted d s new_row r more 0).dir (admitted d s new_row r more 0).stores → Stays (marked_in (admitted d s new_row r more 0) (d.used + 1))
    new-stays room a =
        record {
          leaves = mark-leaves (admitted d s new_row r more 0) (d.used + 1) made_in d s (admit-leaves d s new_row r more 0 ls le lo rank room);
          bindings = λ y u. marked-bindings (admitted d s new_row r more 0).stores.entries (d.used + 1) made_in y ∙ other-bindings y u;
          laid = mark-laid (admitted d s new_row r more 0) (d.used + 1) made_in a;
        }

module _ (limit : ℕ) (d : Directory) (s : Stores) (g : agreesb limit d s ≡ true) (small : d.last < 2 ^ 64)
    (ls : limit + 2 ≤ length s.sets) (le : limit + 2 ≤ length s.entries) (lo : limit + 2 ≤ length s.order) where
  -- by set
  module _ (row : List ℕ) (keyed : Keyed (set_of row)) (short : size row ≤ 8) where
    abbrev Stay : Seating → Type 0
    Stay a = a.no ≡ 0 → Stays d s (committed d s row a.target)

    stay-at : (t : Target) → located limit d s row ≡ t → Stay (seat_at d s t)
    stay-at Disagrees e = λ n. absurd (omega arith)
    stay-at (Old x) e = λ n. old-stays d s row x small (old-safe limit d s row x e le).1 (laid limit d s g)
    stay-at (New r) e =
        let n = new-there limit d s row r e in
        let w = some_words row d.used s.sets s.order r (told limit d s row (New r) e).1 in
        let a = laid_admit d s row r 1 0 (omega (arith, n.1)) (omega (arith, n.1)) (omega (arith, n.1)) n.0 (keyed-sound row w short keyed) (laid limit d s g) in
        new-either d (New r) Stay (λ h q. absurd (omega arith))
        (λ h q. subst (Stays d s) (sym (commit-new d s row r)) (new-stays d s row r 1 (omega (arith, n.1)) (omega (arith, n.1)) (omega (arith, n.1)) n.0 h a))
    stay-at (Over q) e =
        let n = over-there limit d s row q e in
        let a = laid_admit d s over_row q 0 0 (omega (arith, n.1)) (omega (arith, n.1)) (omega (arith, n.1)) n.0 sound-over (laid limit d s g) in
        new-either d (Over q) Stay (λ h i. absurd (omega arith))
        (λ h i. subst (Stays d s) (sym (commit-over d s row q)) (new-stays d s over_row q 0 (omega (arith, n.1)) (omega (arith, n.1)) (omega (arith, n.1)) n.0 h a))

    pub seat-stays : (seated limit d s row).no ≡ 0 → Stays d s (committed d s row (seated limit d s row).target)
    unfolding seated
    seat-stays = stay-at (located limit d s row) refl

  -- by handle
  module _ (b : ℕ) (row : List ℕ) where
    abbrev StayBy : Seating → Type 0
    StayBy a = a.no ≡ 0 → Stays d s (committed d s row a.target)

    pub by-stays : (seated_by limit d s b).no ≡ 0 → Stays d s (committed d s row (seated_by limit d s b).target)
    by-stays = subst StayBy (sym (by-is limit d s b g _ refl)) (go (scan b s.entries (slots_of d s)) refl)
      where
        go : (o : Result ℕ ℕ) → scan b s.entries (slots_of d s) ≡ o → StayBy (seat_by s o)
        go (Err r) e = λ n. absurd (omega arith)
        go (Ok x) e = λ n. old-stays d s row x small (by-there limit d s b le g x e).1 (laid limit d s g)

  -- AGREEMENT, as the map's
  abbrev config : Option (List ℕ) → Config blank
  config filter = record { settings = tt; limit = limit; filter = filter }

  abbrev m : Map blank
  m = view blank (λ k. tt) tt d s

  takes : (o : Option Unit) → refusal blank tt o tt ≡ none
  takes none = refl
  takes (some x) = refl

  stepped : (filter : Option (List ℕ)) (x : Call blank) (k : Kept) → upfront blank x ≡ none
      → act blank (config filter) m x ≡ record { answer = done; map = view blank (λ k. tt) tt k.dir k.stores } → Laid k.dir k.stores → agreesb limit k.dir k.stores ≡ true
  stepped filter x k u e a =
      laid-agrees blank (λ k. tt) tt (config filter) k.dir k.stores a
      (subst (Agrees blank (config filter)) (ap (λ i. (or_refused blank m i (act blank (config filter) m x)).map) u ∙ ap (λ (o : Out blank). o.map) e)
      (step-agrees blank (config filter) m (agreed blank (λ k. tt) tt (config filter) d s g) x))

  few-enough : (attrs : Set) → length attrs ≤ 8 → upfront blank (measure tt attrs) ≡ none
  unfolding upfront
  few-enough attrs h = rw (le-leb (length attrs) 8 h)

  by-handle : (b : ℕ) → upfront blank (measure_by b tt) ≡ none
  unfolding upfront
  by-handle b = refl

  -- the directory agrees after a recording by set, the row being that of the call's set
  pub seat-keeps : (filter : Option (List ℕ)) (attrs : Set) → length attrs ≤ 8 → (row : List ℕ) → set_of row ≡ canonical filter attrs → size row ≤ 8 → (seated limit d s row).no ≡ 0
      → agreesb limit (committed d s row (seated limit d s row).target).dir (committed d s row (seated limit d s row).target).stores ≡ true
  seat-keeps filter attrs h row is short n =
      stepped filter (measure tt attrs) (committed d s row (seated limit d s row).target) (few-enough attrs h)
      (measure-done blank (λ k. tt) tt (config filter) d s g small ls le lo row attrs is tt n (takes (held_at blank (λ k. tt) (seated limit d s row))) (λ k. tt) refl (λ y u q. refl))
      (seat-stays row (subst Keyed (sym is) (canonical_keyed filter attrs)) short n).laid

  -- and after one by handle
  pub by-keeps : (b : ℕ) (row : List ℕ) → (seated_by limit d s b).no ≡ 0
      → agreesb limit (committed d s row (seated_by limit d s b).target).dir (committed d s row (seated_by limit d s b).target).stores ≡ true
  by-keeps b row n =
      stepped none (measure_by b tt) (committed d s row (seated_by limit d s b).target) (by-handle b)
      (by-done blank (λ k. tt) tt (config none) d s g small ls le lo b row tt n (takes (held_at blank (λ k. tt) (seated_by limit d s b))) (λ k. tt) refl (λ y u q. refl))
      (by-stays b row n).laid

-- so a state that a run comes by is followed by another
module _ (limit : ℕ) (k : Kept) (g : Good limit k) where
  pub seat-good : (filter : Option (List ℕ)) (attrs : Set) → length attrs ≤ 8 → (row : List ℕ) → set_of row ≡ canonical filter attrs → size row ≤ 8
      → (seated limit k.dir k.stores row).no ≡ 0 → Good limit (committed k.dir k.stores row (seated limit k.dir k.stores row).target)
  seat-good filter attrs h row is short n =
      let r = suffices limit k.stores g.lent in
      lasts limit k g _ (seat-stays limit k.dir k.stores g.agrees g.last r.sets r.entries r.order row (subst Keyed (sym is) (canonical_keyed filter attrs)) short n).leaves
      (seat-keeps limit k.dir k.stores g.agrees g.last r.sets r.entries r.order filter attrs h row is short n)

  pub by-good : (b : ℕ) (row : List ℕ) → (seated_by limit k.dir k.stores b).no ≡ 0 → Good limit (committed k.dir k.stores row (seated_by limit k.dir k.stores b).target)
  by-good b row n =
      let r = suffices limit k.stores g.lent in
      lasts limit k g _ (by-stays limit k.dir k.stores g.agrees g.last r.sets r.entries r.order b row n).leaves
      (by-keeps limit k.dir k.stores g.agrees g.last r.sets r.entries r.order b row n)
