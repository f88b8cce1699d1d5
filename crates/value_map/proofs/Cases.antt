-- The calls, case by case, for any kind's store. Assumes nothing.
use Prim.Native.Nat.{ℕ, ◌+◌, ◌^◌, ◌<◌}
use mathlib.Core.Path.{◌≡◌, refl, ap, sym, subst, ◌∙◌}
use mathlib.Core.Bool.{Bool, true, false, ◌&&◌}
use mathlib.Core.List.{List}
use mathlib.Core.Option.{Option, none}
use native.Mathlib.Omega.{arith}
use borrow.Author.Tests.{eq-eqb, ne_eqb}
use lib.Dec.{leb}
use lib.ListN.{length, replicate}
use Rattle.laws.specs.Pick.{pick}
use Rattle.laws.specs.Said.{Said, refusal, success}
use Rattle.laws.proofs.Cases.{and-true, true-not-false}
use Rattle.tally.specs.Sets.{Set, canonical}
use Rattle.tally.specs.Kind.{Kind}
use Rattle.sets.specs.Rows.{row_of}
use Rattle.directory.specs.View.{Stores}
use Rattle.directory.specs.Calls.{Kept, most_sets, accepts, stores_suffice}
use Rattle.directory.proofs.Refusals.{Suffice, suffices, within}
use Rattle.bindings.specs.Calls as Bindings
use Rattle.bindings.specs.Calls.{fresh}
use Rattle.seats.specs.Seats.{away, seated, seated_by, barred_by, committed, Seating}
use Rattle.seats.specs.Inner.{Fits}
use Rattle.seats.proofs.Bars.{barred-away, barred-on}
use Rattle.seats.proofs.Seatings.{Safe, seat-safe, by-safe}
use Rattle.value_map.specs.Store.{Store, Recording}
use Rattle.value_map.specs.Calls.{Held, Outcome, held, refused, unless_refused, begun, beside, passes, lent, entered, called, measured, measured_by, started}
use Rattle.value_map.proofs.Owed.{Owed}

-- ---- a number that refuses, or none

module _ {Cells : Type 0} (h : Held Cells) (n : ℕ) (o : Outcome Cells) where
  pub stop : (n ≡ 0 → ⊥) → unless_refused h n o ≡ refused n h
  unfolding unless_refused pick
  stop d = rw (ne_eqb n 0 d)

  pub on : n ≡ 0 → unless_refused h n o ≡ o
  unfolding unless_refused pick
  on e = rw (eq-eqb n 0 e)

-- a refusal is no success
pub refusal-no-success : {A B : Type 0} (n : ℕ) (a : B) → refusal n ≡ success a → A
refusal-no-success {B = B} n a q = true-not-false (ap refuses q)
  where
    refuses : Said B → Bool
    refuses (refusal n) = true
    refuses (success a) = false

-- ---- stores that suffice: a seating that is not refused has its place

-- a slot that is named has its cells, and what the directory is to write has its place
abbrev pub Seatable : {K : Kind} (S : Store K) → Held S.Cells → Seating → Type 0
Seatable S h a = a.no ≡ 0 → S.Room h.cells a.slot × Fits h.kept.dir h.kept.stores a.target

module _ {K : Kind} {S : Store K} (W : Owed S) (limit : ℕ) (h : Held S.Cells) (e : lent S limit h ≡ true) where
  pub lent-dir : Suffice limit h.kept.stores
  lent-dir = suffices limit h.kept.stores (and-true (stores_suffice limit h.kept.stores) (S.suffices limit h.cells) e).0

  pub lent-cells : S.suffices limit h.cells ≡ true
  lent-cells = (and-true (stores_suffice limit h.kept.stores) (S.suffices limit h.cells) e).1

  seatable : (a : Seating) → Safe limit h.kept.dir h.kept.stores a → Seatable S h a
  seatable a safe n = let g = safe n in (W.room limit h.cells a.slot lent-cells g.0, g.1)

  pub set-seatable : (filter : Option (List ℕ)) → accepts limit filter ≡ true → (row : List ℕ) (a : Seating) → a ≡ seated limit h.kept.dir h.kept.stores row → Seatable S h a
  set-seatable filter ok row a i =
      let small : limit + 2 < 2 ^ 32 = omega (arith, within limit filter ok) in
      let l = lent-dir in
      seatable a (subst (Safe limit h.kept.dir h.kept.stores) (sym i) (seat-safe limit h.kept.dir h.kept.stores row l.sets l.entries l.order small))

  pub by-seatable : (handle : ℕ) (a : Seating) → a ≡ seated_by limit h.kept.dir h.kept.stores handle → Seatable S h a
  by-seatable handle a i = seatable a (subst (Safe limit h.kept.dir h.kept.stores) (sym i) (by-safe limit h.kept.dir h.kept.stores handle lent-dir.entries))

-- ---- at a seating

-- the directory refuses
pub entered-away : {K : Kind} (S : Store K) (h : Held S.Cells) (v : K.Value) (row : List ℕ) (a : Seating) → (a.no ≡ 0 → ⊥) → refused a.no h ≡ entered S h v row a
unfolding entered
entered-away S h v row a d = sym (stop h a.no _ d)

module _ {K : Kind} {S : Store K} (W : Owed S) (h : Held S.Cells) (v : K.Value) (row : List ℕ) (a : Seating) where
  abbrev done : Recording S.Cells → Outcome S.Cells
  done o = record { answer = success none; held = record { kept = committed h.kept.dir h.kept.stores row a.target; cells = o.cells } }

  abbrev next : Recording S.Cells → Outcome S.Cells
  next o = unless_refused h o.no (done o)

  abbrev there : Recording S.Cells
  there = S.recorded a.slot a.updated h.cells v

  module _ (n : a.no ≡ 0) (o : Recording S.Cells) (e : o ≡ there) where
    entered-is : entered S h v row a ≡ next o
    unfolding entered
    entered-is = on h a.no (next there) n ∙ ap next (sym e)

    -- the series refuses, and is as it was
    pub entered-refused : (o.no ≡ 0 → ⊥) → record { answer = refusal o.no; held = record { kept = h.kept; cells = o.cells } } ≡ entered S h v row a
    entered-refused d =
        let same : o.cells ≡ h.cells = ap (λ o. o.cells) e ∙ W.unchanged h.cells a.slot a.updated v (λ z. d (ap (λ o. o.no) e ∙ z)) in
        (λ j. record { answer = refusal o.no; held = record { kept = h.kept; cells = same j } }) ∙ sym (entered-is ∙ stop h o.no (done o) d)

    -- the value is recorded
    pub entered-done : o.no ≡ 0 → (k : Kept) → k ≡ committed h.kept.dir h.kept.stores row a.target
        → record { answer = success none; held = record { kept = k; cells = o.cells } } ≡ entered S h v row a
    entered-done z k p = (λ j. record { answer = success none; held = record { kept = p j; cells = o.cells } }) ∙ sym (entered-is ∙ on h o.no (done o) z)

-- ---- the calls: k is the number that comes first

module _ {K : Kind} (S : Store K) (limit : ℕ) (h : Held S.Cells) (v : K.Value) where
  module _ (n : ℕ) (ok : Bool) (row : List ℕ) (a : Seating) (k : ℕ) (e : k ≡ barred_by (lent S limit h) (K.finite v) n (passes S && ok)) where
    abbrev bar : ℕ
    bar = barred_by (lent S limit h) (K.finite v) n (passes S && ok)

    pub called-barred : (k ≡ 0 → ⊥) → refused k h ≡ called S limit h v n ok row a
    unfolding called
    called-barred d =
        let b : bar ≡ 0 → ⊥ = λ z. d (e ∙ z) in
        ap (λ (i : ℕ). refused i h) e ∙ entered-away S h v row (away bar) b ∙ ap (entered S h v row) (sym (barred-away bar a b))

    pub called_on : k ≡ 0 → entered S h v row a ≡ called S limit h v n ok row a
    unfolding called
    called_on z = ap (entered S h v row) (sym (barred-on bar a (sym e ∙ z)))

  -- by set
  module _ (filter : Option (List ℕ)) (attrs : Set) where
    abbrev goes : List ℕ → Seating → Outcome S.Cells
    goes row a = called S limit h v (length attrs) (accepts limit filter) row a

    pub set_is : (row : List ℕ) (a : Seating) → row ≡ row_of (canonical filter attrs) → a ≡ seated limit h.kept.dir h.kept.stores row
        → goes row a ≡ measured S limit filter h v attrs
    unfolding measured
    set_is row a p q = ap (goes row) q ∙ ap (λ (r : List ℕ). goes r (seated limit h.kept.dir h.kept.stores r)) p

    pub set_here : called S limit h v (length attrs) (accepts limit filter) (row_of (canonical filter attrs)) (seated limit h.kept.dir h.kept.stores (row_of (canonical filter attrs)))
        ≡ measured S limit filter h v attrs
    set_here = set_is (row_of (canonical filter attrs)) _ refl refl

  -- by handle
  pub by-is : (b : ℕ) (a : Seating) → a ≡ seated_by limit h.kept.dir h.kept.stores b → called S limit h v 0 (leb limit most_sets) (replicate 9 0) a ≡ measured_by S limit h v b
  unfolding measured_by
  by-is b a q = ap (called S limit h v 0 (leb limit most_sets) (replicate 9 0)) q

  pub by-here : (b : ℕ) → called S limit h v 0 (leb limit most_sets) (replicate 9 0) (seated_by limit h.kept.dir h.kept.stores b) ≡ measured_by S limit h v b
  by-here b = by-is b _ refl

-- ---- configuring

module _ (unset : ℕ) (cells : Bool) (limit : ℕ) (filter : Option (List ℕ)) (s : Stores) where
  pub begin-unset : (unset ≡ 0 → ⊥) → Bindings.refused unset fresh s ≡ begun unset cells limit filter s
  unfolding begun pick
  begin-unset d = rw (ne_eqb unset 0 d)

  module _ (p : unset ≡ 0) where
    pub begin_4 : accepts limit filter ≡ false → Bindings.refused 4 fresh s ≡ begun unset cells limit filter s
    unfolding begun pick
    begin_4 a = rw (eq-eqb unset 0 p, a)

    module _ (a : accepts limit filter ≡ true) where
      pub begin_12 : cells ≡ false → Bindings.refused 12 fresh s ≡ begun unset cells limit filter s
      unfolding begun pick
      begin_12 l = rw (eq-eqb unset 0 p, a, l)

      pub begin-on : cells ≡ true → Bindings.started limit filter s ≡ begun unset cells limit filter s
      unfolding begun pick
      begin-on l = rw (eq-eqb unset 0 p, a, l)

module _ {K : Kind} (S : Store K) (limit : ℕ) (filter : Option (List ℕ)) (s : Stores) (c : S.Cells) where
  -- a kind's number and cells are those that it found
  pub start_is : (o : Bindings.Outcome) {u : ℕ} {l : Bool} → u ≡ S.unset → l ≡ S.suffices limit c → o ≡ begun u l limit filter s → beside o c ≡ started S limit filter s c
  unfolding started
  start_is o p q e = ap (λ (x : Bindings.Outcome). beside x c) e ∙ (λ j. beside (begun (p j) (q j) limit filter s) c)

  pub start-unset : (S.unset ≡ 0 → ⊥) → refused S.unset (held fresh s c) ≡ started S limit filter s c
  start-unset d = start_is (Bindings.refused S.unset fresh s) refl refl (begin-unset S.unset (S.suffices limit c) limit filter s d)

  pub start_4 : S.unset ≡ 0 → accepts limit filter ≡ false → refused 4 (held fresh s c) ≡ started S limit filter s c
  start_4 p a = start_is (Bindings.refused 4 fresh s) refl refl (begin_4 S.unset (S.suffices limit c) limit filter s p a)

  pub start_12 : S.unset ≡ 0 → accepts limit filter ≡ true → S.suffices limit c ≡ false → refused 12 (held fresh s c) ≡ started S limit filter s c
  start_12 p a l = start_is (Bindings.refused 12 fresh s) refl refl (begin_12 S.unset (S.suffices limit c) limit filter s p a l)

  pub start-on : S.unset ≡ 0 → accepts limit filter ≡ true → S.suffices limit c ≡ true → (o : Bindings.Outcome) → o ≡ Bindings.started limit filter s → beside o c ≡ started S limit filter s c
  start-on p a l o q = start_is o refl refl (q ∙ begin-on S.unset (S.suffices limit c) limit filter s p a l)
