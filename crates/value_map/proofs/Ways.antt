-- THE CODE'S WAY through a recording, for any kind: what a seating that the code came by allows, and that the kind's part and the end make
-- the call's outcome. Assumes nothing.
use Prim.Native.Nat.{ℕ}
use Rattle.std.specs.Prelude.{Result, Ok, Err, IfOk}
use mathlib.Core.Path.{◌≡◌, refl, ap, sym, subst, ◌∙◌}
use mathlib.Core.Bool.{Bool, true, false, ◌&&◌}
use mathlib.Core.List.{List}
use mathlib.Core.Option.{Option, none}
use lib.Dec.{leb, eqb}
use lib.ListN.{length, replicate}
use borrow.Author.Tests.{eq-eqb, ne_eqb, eqb-true, eqb-false}
use Rattle.laws.specs.Pick.{pick}
use Rattle.laws.specs.Said.{refusal, success}
use Rattle.laws.proofs.Cases.{and-true}
use Rattle.tally.specs.Kind.{Kind}
use Rattle.tally.specs.Sets.{Set, canonical}
use Rattle.sets.specs.Rows.{row_of}
use Rattle.directory.specs.View.{Stores}
use Rattle.directory.specs.Calls.{most_sets, accepts, stores_suffice}
use Rattle.directory.specs.declared.Directory.{Directory}
use Rattle.directory.specs.declared.Target.{Target}
use Rattle.directory.specs.declared.Target.TheVariants.{Disagrees}
use Rattle.refusals.specs.declared.Refusal.{Refusal}
use Rattle.refusals.specs.Refusals.{number, code}
use Rattle.refusals.proofs.Numbers.{number-nonzero}
use Rattle.bindings.specs.Calls as Bindings
use Rattle.seats.specs.declared.Seated.{Seated}
use Rattle.rows.specs.Recording.{after}
use Rattle.seats.specs.Seats.{seating, seated, seated_by, barred_by, unless_barred, committed, Seating}
use Rattle.seats.specs.Inner.{Fits}
use Rattle.seats.proofs.Bars.{Clear, clear, barred-on, not-barred}
use Rattle.seats.proofs.Seatings.{Late, seat-late, by-late}
use Rattle.value_map.specs.Store.{Store, Recording}
use Rattle.value_map.specs.Calls.{Held, refused, beside, lent, entered, called}
use Rattle.value_map.specs.Inner.{target_in, finished, Takes, taken}
use Rattle.value_map.proofs.Owed.{Owed}
use Rattle.value_map.proofs.Cases.{Seatable, set-seatable, by-seatable, entered-away, entered-refused, entered-done}

-- by what holds of a number that is 0, and of one that is not
pub either : {P : Type 0} (n : ℕ) → (n ≡ 0 → P) → ((n ≡ 0 → ⊥) → P) → P
either {P} n f g = go (eqb n 0) refl
  where
    go : (b : Bool) → eqb n 0 ≡ b → P
    go true e = f (eqb-true n 0 e)
    go false e = g (eqb-false n 0 e)

-- ---- the parts by cases

module _ (n : ℕ) (d : Directory) (s : Stores) (row : List ℕ) (t : Target) where
  pub finish-no : (n ≡ 0 → ⊥) → Bindings.refused n d s ≡ finished n d s row t
  unfolding finished pick
  finish-no z = rw (ne_eqb n 0 z)

  pub finish-done : n ≡ 0 → record { answer = success none; kept = committed d s row t } ≡ finished n d s row t
  unfolding finished pick
  finish-done e = rw (eq-eqb n 0 e)

-- where the recording was refused, its target plays no part
pub finish-at : (done : Result Target Refusal) (d : Directory) (s : Stores) (row : List ℕ) (t : Target) → IfOk done (λ (u : Target). u ≡ t)
    → finished (code done) d s row (target_in done) ≡ finished (code done) d s row t
finish-at (Ok u) d s row t i = ap (finished 0 d s row) i
finish-at (Err e) d s row t i =
    sym (finish-no (number e) d s row Disagrees (number-nonzero e)) ∙ finish-no (number e) d s row t (number-nonzero e)

pub fits-done : (done : Result Target Refusal) (t : Target) (P : Target → Type 0) → IfOk done (λ (u : Target). u ≡ t) → (code done ≡ 0 → P t) → IfOk done P
fits-done (Ok u) t P i f = subst P (sym i) (f refl)
fits-done (Err e) t P i f = tt

module _ {K : Kind} (S : Store K) (c : S.Cells) (v : K.Value) (n otherwise x : ℕ) (u : Bool) where
  pub take_no : (n ≡ 0 → ⊥) → record { no = otherwise; cells = c } ≡ taken S c v n otherwise x u
  unfolding taken pick
  take_no d = rw (ne_eqb n 0 d)

  pub take_on : n ≡ 0 → S.recorded x u c v ≡ taken S c v n otherwise x u
  unfolding taken pick
  take_on e = rw (eq-eqb n 0 e)

  -- a value that was taken was not refused before
  pub took : ((n ≡ 0 → ⊥) → otherwise ≡ 0 → ⊥) → (o : Recording S.Cells) → o ≡ taken S c v n otherwise x u → o.no ≡ 0 → n ≡ 0
  took f o e z = either n (λ (p : n ≡ 0). p) (λ d. absurd (f d (ap (λ (i : Recording S.Cells). i.no) (take_no d ∙ sym e) ∙ z)))

module _ {K : Kind} (S : Store K) (c : S.Cells) (v : K.Value) where
  -- by what the code found of the seat: n is what is said where it is refused
  module _ (seat : Result Seated Refusal) (m : ℕ) where
    pub seat-refused : (e : Refusal) (n : ℕ) → seat ≡ Err e → n ≡ m
        → after n c ≡ taken S c v (seating seat).no m (seating seat).slot (seating seat).updated
    seat-refused e n i p =
        ap (λ (k : ℕ). after k c) p ∙ take_no S c v (number e) m 0 false (number-nonzero e)
        ∙ ap (λ (r : Result Seated Refusal). taken S c v (seating r).no m (seating r).slot (seating r).updated) (sym i)

    pub seat-held : (s : Seated) → seat ≡ Ok s
        → S.recorded s.slot s.updated c v ≡ taken S c v (seating seat).no m (seating seat).slot (seating seat).updated
    seat-held s i =
        take_on S c v 0 m s.slot s.updated refl
        ∙ ap (λ (r : Result Seated Refusal). taken S c v (seating r).no m (seating r).slot (seating r).updated) (sym i)

-- ---- a call's way: how many attributes, whether configuring accepted the limit and the filter, the row, the seat

pub record Way {K : Kind} (S : Store K) (limit : ℕ) (h : Held S.Cells) : Type 0 where
  pub attributes : ℕ
  pub accepted : Bool
  pub row : List ℕ
  pub seat : Seating
  pub sits : lent S limit h ≡ true → accepted ≡ true → Seatable S h seat
  pub late : Late seat

abbrev pub set-way : {K : Kind} {S : Store K} → Owed S → (limit : ℕ) (h : Held S.Cells) → Option (List ℕ) → Set → Way S limit h
set-way W limit h filter attrs =
    let r = row_of (canonical filter attrs) in
    record {
      attributes = length attrs;
      accepted = accepts limit filter;
      row = r;
      seat = seated limit h.kept.dir h.kept.stores r;
      sits = λ l k. set-seatable W limit h l filter k r (seated limit h.kept.dir h.kept.stores r) refl;
      late = seat-late limit h.kept.dir h.kept.stores r;
    }

abbrev pub by_way : {K : Kind} {S : Store K} → Owed S → (limit : ℕ) (h : Held S.Cells) → ℕ → Way S limit h
by_way W limit h b =
    record {
      attributes = 0;
      accepted = leb limit most_sets;
      row = replicate 9 0;
      seat = seated_by limit h.kept.dir h.kept.stores b;
      sits = λ l k. by-seatable W limit h l b (seated_by limit h.kept.dir h.kept.stores b) refl;
      late = by-late limit h.kept.dir h.kept.stores b;
    }

-- what a seating allows
pub record Sits {K : Kind} (S : Store K) (h : Held S.Cells) (v : K.Value) (a : Seating) : Type 0 where
  pub takes : Takes S h.cells v a.no a.slot
  pub fits : a.no ≡ 0 → Fits h.kept.dir h.kept.stores a.target

-- ---- at a seating: c says whether the cells suffice, f whether the value is finite, u is the number of the settings

module _ {K : Kind} {S : Store K} (W : Owed S) (limit : ℕ) (h : Held S.Cells) (v : K.Value) (y : Way S limit h) where
  abbrev pub Seats : Bool → Bool → ℕ → Seating → Type 0
  Seats c f u a = a ≡ unless_barred (barred_by (stores_suffice limit h.kept.stores && c) f y.attributes (eqb u 0 && y.accepted)) y.seat

  pub allows : {c f : Bool} (u : ℕ) {a : Seating} → c ≡ S.suffices limit h.cells → f ≡ K.finite v → Seats c f u a → Sits S h v a
  allows {c} {f} u {a} p q e =
      let bar = barred_by (stores_suffice limit h.kept.stores && c) f y.attributes (eqb u 0 && y.accepted) in
      let unbarred : a.no ≡ 0 → bar ≡ 0 = λ z. not-barred bar y.seat (ap (λ (s : Seating). s.no) (sym e) ∙ z) in
      let known : (z : a.no ≡ 0) → Clear (stores_suffice limit h.kept.stores && c) f y.attributes (eqb u 0 && y.accepted) =
      λ z. clear (stores_suffice limit h.kept.stores && c) f y.attributes (eqb u 0 && y.accepted) (unbarred z) in
      let same : (z : a.no ≡ 0) → y.seat ≡ a = λ z. sym (e ∙ barred-on bar y.seat (unbarred z)) in
      let there : (z : a.no ≡ 0) → S.Room h.cells a.slot × Fits h.kept.dir h.kept.stores a.target =
      λ z. subst (Seatable S h) (same z) (y.sits (ap (λ (b : Bool). stores_suffice limit h.kept.stores && b) (sym p) ∙ (known z).room-is)
      (and-true (eqb u 0) y.accepted (known z).ok-is).1) z in
      record { takes = λ z. ((there z).0, sym q ∙ (known z).value); fits = λ z. (there z).1 }

  -- the kind's part o, and the end r
  module _ (a : Seating) (row : List ℕ) (o : Recording S.Cells) (r : Bindings.Outcome) (g : r ≡ finished o.no h.kept.dir h.kept.stores row a.target) where
    pub ends-no : (n : ℕ) → (n ≡ 0 → ⊥) → o.no ≡ n → o.cells ≡ h.cells → beside r o.cells ≡ refused n h
    ends-no n d e q =
        ap (λ (x : Bindings.Outcome). beside x o.cells) (g ∙ sym (finish-no o.no h.kept.dir h.kept.stores row a.target (λ z. d (sym e ∙ z))))
        ∙ (λ j. record { answer = refusal (e j); held = record { kept = h.kept; cells = q j } })

    pub ends_at : a.no ≡ 0 → o ≡ S.recorded a.slot a.updated h.cells v → beside r o.cells ≡ entered S h v row a
    ends_at n e =
        either o.no
        (λ z. ap (λ (x : Bindings.Outcome). beside x o.cells) (g ∙ sym (finish-done o.no h.kept.dir h.kept.stores row a.target z)) ∙ entered-done W h v row a n o e z (committed h.kept.dir h.kept.stores row a.target) refl)
        (λ d. ap (λ (x : Bindings.Outcome). beside x o.cells) (g ∙ sym (finish-no o.no h.kept.dir h.kept.stores row a.target d)) ∙ entered-refused W h v row a n o e d)

    pub ends_in : o ≡ taken S h.cells v a.no a.no a.slot a.updated → beside r o.cells ≡ entered S h v row a
    ends_in e =
        either a.no (λ z. ends_at z (e ∙ sym (take_on S h.cells v a.no a.no a.slot a.updated z)))
        (λ d. let q = e ∙ sym (take_no S h.cells v a.no a.no a.slot a.updated d) in
        ends-no a.no d (ap (λ (i : Recording S.Cells). i.no) q) (ap (λ (i : Recording S.Cells). i.cells) q) ∙ entered-away S h v row a d)

    -- where the row is that of the way unless the seating is refused
    pub row_as : (a.no ≡ 0 → row ≡ y.row) → entered S h v row a ≡ entered S h v y.row a
    row_as f = either a.no (λ z. ap (λ (l : List ℕ). entered S h v l a) (f z)) (λ d. sym (entered-away S h v row a d) ∙ entered-away S h v y.row a d)

    pub ends : {c f : Bool} {u : ℕ} → c ≡ S.suffices limit h.cells → f ≡ K.finite v → u ≡ S.unset → Seats c f u a → (a.no ≡ 0 → row ≡ y.row)
        → o ≡ taken S h.cells v a.no a.no a.slot a.updated → beside r o.cells ≡ called S limit h v y.attributes y.accepted y.row y.seat
    unfolding called
    ends p q w e k t =
        ends_in t ∙ row_as k ∙ ap (entered S h v y.row) e
        ∙ (λ j. entered S h v y.row (unless_barred (barred_by (stores_suffice limit h.kept.stores && p j) (q j) y.attributes (eqb (w j) 0 && y.accepted)) y.seat))
