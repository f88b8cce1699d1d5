-- FAITHFUL. Recording by set and by handle is the map's step, for any kind that pays what it owes: wherever the directory agrees, in stores
-- that suffice and under a configuration that was accepted. The map's series are those that lie in the slots. Assumes nothing.
use Prim.Native.Nat.{ℕ, suc, ◌^◌, ◌≤◌, ◌<◌}
use mathlib.Core.Path.{◌≡◌, refl, sym, subst, ◌∙◌}
use mathlib.Core.Logic.{⊎_elim}
use mathlib.Core.Bool.{Bool, true, false, ◌&&◌}
use mathlib.Core.List.{List}
use mathlib.Core.Option.{Option, none, some}
use native.Mathlib.Omega.{arith}
use lib.Dec.{eqb, leb}
use lib.ListN.{length, replicate}
use borrow.Author.Tests.{eqb-true, eqb-false, eq-eqb, leb-true, leb-false}
use Rattle.laws.specs.Said.{success}
use Rattle.laws.proofs.Bools.{flag}
use Rattle.laws.proofs.Cases.{and-true, true-not-false}
use Rattle.tally.specs.Kind.{Kind}
use Rattle.tally.specs.Sets.{Set, canonical, Lendable}
use Rattle.tally.proofs.MapSteps as MapMapSteps
use Rattle.tally.specs.Map.{Config, Out, measure, measure_by, refuse, done, sound}
use Rattle.tally.proofs.MapSteps.{upfront, act, step}
use Rattle.sets.specs.Rows.{row_of}
use Rattle.sets.proofs.CallRow.{row-set}
use Rattle.directory.specs.View.{agreesb, view}
use Rattle.directory.specs.Calls.{Kept, most_sets, few_keys, accepts}
use Rattle.seats.specs.Seats.{seated, seated_by, committed, Seating}
use Rattle.seats.proofs.Recording.{held_at, or_fresh, refusal, Others}
use Rattle.seats.proofs.Faithful.{measure-away, measure-refused, measure-done, by-away, by-refused, by-done}
use Rattle.value_map.specs.Store.{Store, Recording}
use Rattle.value_map.specs.Calls.{Held, Outcome, refused, passes, lent, entered, called, measured, measured_by}
use Rattle.value_map.specs.Maps.{map_of, config_of}
use Rattle.value_map.proofs.Owed.{Fit, refusing, Took, Owed}
use Rattle.seats.proofs.Bars.{bar_6, bar_5, bar_0}
use Rattle.value_map.proofs.Cases.{Seatable, lent-dir, set-seatable, by-seatable, entered-away, entered-refused, entered-done, called-barred, called_on}
use Rattle.bindings.specs.Calls.{map_answer}

module _ {K : Kind} (S : Store K) (w : S.Switches) where
  abbrev pub told : Outcome S.Cells → Out K
  told o = record { answer = map_answer K o.answer; map = map_of S w o.held }

-- a state that agrees
pub record Fair {K : Kind} (S : Store K) (limit : ℕ) (filter : Option (List ℕ)) (h : Held S.Cells) : Type 0 where
  pub agrees : agreesb limit h.kept.dir h.kept.stores ≡ true
  pub lent_is : lent S limit h ≡ true
  pub last : h.kept.dir.last < 2 ^ 64
  pub set : S.unset ≡ 0
  pub accepted : accepts limit filter ≡ true

-- the row of a call's set, and where the call goes
abbrev pub row_in : Option (List ℕ) → Set → List ℕ
row_in filter attrs = row_of (canonical filter attrs)

abbrev pub seat_of : {Cells : Type 0} → ℕ → Option (List ℕ) → Held Cells → Set → Seating
seat_of limit filter h attrs = seated limit h.kept.dir h.kept.stores (row_in filter attrs)

abbrev pub seat_by : {Cells : Type 0} → ℕ → Held Cells → ℕ → Seating
seat_by limit h b = seated_by limit h.kept.dir h.kept.stores b

module _ {K : Kind} (S : Store K) (w : S.Switches) where
  -- at a seating: the series takes the value, and what is left then
  abbrev pub Takes : Held S.Cells → K.Value → Seating → Type 0
  Takes h v a =
      Took S h.cells a.slot (S.recorded a.slot a.updated h.cells v)
      (K.add (S.settings w) (or_fresh K (S.settings w) (held_at K (S.at h.cells) a)) v)

  abbrev pub taken : Held S.Cells → K.Value → List ℕ → Seating → Outcome S.Cells
  taken h v row a =
      record {
        answer = success none;
        held = record {
          kept = committed h.kept.dir h.kept.stores row a.target;
          cells = (S.recorded a.slot a.updated h.cells v).cells;
        };
      }

module _ {K : Kind} {S : Store K} (W : Owed S) (w : S.Switches) where
  abbrev z : K.Settings
  z = S.settings w

  -- ---- at a seating: refused by the directory, refused by the series, or taken
  module _ (h : Held S.Cells) (v : K.Value) (row : List ℕ) (a : Seating) (set : S.unset ≡ 0) (sit : Seatable S h a) where
    abbrev f : ℕ → K.Series
    f = S.at h.cells

    abbrev o : Recording S.Cells
    o = S.recorded a.slot a.updated h.cells v

    abbrev kept : Kept
    kept = committed h.kept.dir h.kept.stores row a.target

    abbrev was : K.Series
    was = or_fresh K z (held_at K f a)

    -- what holds of each case holds of the outcome
    module _ (fin : K.finite v ≡ true) (P : Outcome S.Cells → Type 0) (away : (a.no ≡ 0 → ⊥) → P (refused a.no h))
        (refd : a.no ≡ 0 → (i : ℕ) → refusal K z (held_at K f a) v ≡ some i → P (refused i h))
        (doned : a.no ≡ 0 → refusal K z (held_at K f a) v ≡ none → Takes S w h v a → P (taken S w h v row a)) where
      module _ (n : a.no ≡ 0) where
        fit : Fit S h.cells a.slot v
        fit = record { set = set; room = (sit n).0; value = fin }

        at-refused : (i : ℕ) → (i ≡ 0 → ⊥) → refusal K z (held_at K f a) v ≡ some i → o ≡ refusing S i h.cells → P (entered S h v row a)
        at-refused i d r q = subst P (entered-refused W h v row a n (refusing S i h.cells) (sym q) d) (refd n i r)

        at-allowed : sound K z (held_at K f a) ≡ true → MapMapSteps.fits (suc (K.total was)) ≡ true → (b : Bool) → K.allows z was v ≡ b → P (entered S h v row a)
        at-allowed s c false b = at-refused 16 (λ e. omega (arith, e)) (rw (s, c, b)) (W.barred w h.cells a.slot a.updated v fit s c b)
        at-allowed s c true b =
            let t = W.took w h.cells a.slot a.updated v fit s c b in
            subst P (entered-done W h v row a n o refl t.no kept refl) (doned n (rw (s, c, b)) t)

        at_count : sound K z (held_at K f a) ≡ true → (b : Bool) → MapMapSteps.fits (suc (K.total was)) ≡ b → P (entered S h v row a)
        at_count s false c = at-refused 9 (λ e. omega (arith, e)) (rw (s, c)) (W.full w h.cells a.slot a.updated v fit s c)
        at_count s true c = at-allowed s c (K.allows z was v) refl

        at-sound : (b : Bool) → sound K z (held_at K f a) ≡ b → P (entered S h v row a)
        at-sound false s = at-refused 8 (λ e. omega (arith, e)) (rw s) (W.disagreeing w h.cells a.slot a.updated v fit s)
        at-sound true s = at_count s (MapMapSteps.fits (suc (K.total was))) refl

      entered-cases : P (entered S h v row a)
      entered-cases =
          ⊎_elim
          (λ (n : eqb a.no 0 ≡ true). at-sound (eqb-true a.no 0 n) (sound K z (held_at K f a)) refl)
          (λ (n : eqb a.no 0 ≡ false). let k = eqb-false a.no 0 n in subst P (entered-away S h v row a k) (away k))
          (flag (eqb a.no 0))

    -- x is what the map does there
    entered-steps : K.finite v ≡ true → (x : Out K) → ((a.no ≡ 0 → ⊥) → x ≡ record { answer = refuse a.no; map = map_of S w h })
        → (a.no ≡ 0 → (i : ℕ) → refusal K z (held_at K f a) v ≡ some i → x ≡ record { answer = refuse i; map = map_of S w h })
        → (a.no ≡ 0 → refusal K z (held_at K f a) v ≡ none → (g : ℕ → K.Series) → g a.slot ≡ K.add z was v → Others K f g h.kept.dir a.slot
        → x ≡ record { answer = done; map = view K g z kept.dir kept.stores })
        → x ≡ told S w (entered S h v row a)
    entered-steps fin x away refd doned =
        entered-cases fin (λ (p : Outcome S.Cells). x ≡ told S w p) away refd (λ n r t. doned n r (S.at o.cells) t.own (λ y l d. t.others y d))

    -- a call with n attributes that goes there, in stores that suffice and under a configuration that was accepted
    module _ (limit : ℕ) (l : lent S limit h ≡ true) (n : ℕ) (ok : Bool) (accepted : ok ≡ true) where
      okay : (passes S && ok) ≡ true
      okay = rw (eq-eqb S.unset 0 set) accepted

      called-cases : (P : Outcome S.Cells → Type 0) → (K.finite v ≡ false → P (refused 6 h)) → (K.finite v ≡ true → leb n 8 ≡ false → P (refused 5 h))
          → (K.finite v ≡ true → leb n 8 ≡ true → P (entered S h v row a)) → P (called S limit h v n ok row a)
      called-cases P six five on = at_value (K.finite v) refl
        where
          at-few : K.finite v ≡ true → (b : Bool) → leb n 8 ≡ b → P (called S limit h v n ok row a)
          at-few q false k =
              let r = bar_5 (lent S limit h) (K.finite v) n (passes S && ok) l q (leb-false n 8 k) in
              subst P (called-barred S limit h v n ok row a 5 (sym r) (λ e. omega (arith, e))) (five q k)
          at-few q true k =
              let r = bar_0 (lent S limit h) (K.finite v) n (passes S && ok) l q (leb-true n 8 k) okay in
              subst P (called_on S limit h v n ok row a 0 (sym r) refl) (on q k)

          at_value : (b : Bool) → K.finite v ≡ b → P (called S limit h v n ok row a)
          at_value true q = at-few q (leb n 8) refl
          at_value false q =
              let r = bar_6 (lent S limit h) (K.finite v) n (passes S && ok) l q in
              subst P (called-barred S limit h v n ok row a 6 (sym r) (λ e. omega (arith, e))) (six q)

      -- refused, or taken
      called-either : (P : Outcome S.Cells → Type 0) → ((i : ℕ) → P (refused i h)) → (n ≤ 8 → a.no ≡ 0 → Takes S w h v a → P (taken S w h v row a)) → P (called S limit h v n ok row a)
      called-either P off on =
          called-cases P (λ q. off 6) (λ q k. off 5) (λ q k. entered-cases q P (λ m. off a.no) (λ m i r. off i) (λ m r t. on (leb-true n 8 k) m t))

-- ---- the calls in a state that agrees
module _ {K : Kind} {S : Store K} (W : Owed S) (w : S.Switches) (limit : ℕ) (filter : Option (List ℕ)) (h : Held S.Cells) (g : Fair S limit filter h) (v : K.Value) where
  abbrev config : Config K
  config = config_of S w limit filter

  sits : (attrs : Set) → Seatable S h (seat_of limit filter h attrs)
  sits attrs = set-seatable W limit h g.lent_is filter g.accepted (row_in filter attrs) (seat_of limit filter h attrs) refl

  sits-by : (b : ℕ) → Seatable S h (seat_by limit h b)
  sits-by b = by-seatable W limit h g.lent_is b (seat_by limit h b) refl

  few-sets : leb limit most_sets ≡ true
  few-sets = (and-true (leb limit most_sets) (few_keys filter) g.accepted).0

  -- refused, or taken
  pub set-either : (attrs : Set) (P : Outcome S.Cells → Type 0) → ((n : ℕ) → P (refused n h))
      → (let a = seat_of limit filter h attrs in
      length attrs ≤ 8 → a.no ≡ 0 → Takes S w h v a → P (taken S w h v (row_in filter attrs) a))
      → P (measured S limit filter h v attrs)
  unfolding measured
  set-either attrs P off on =
      called-either W w h v (row_in filter attrs) (seat_of limit filter h attrs) g.set (sits attrs) limit g.lent_is (length attrs) (accepts limit filter) g.accepted P off on

  pub handle-either : (b : ℕ) (P : Outcome S.Cells → Type 0) → ((n : ℕ) → P (refused n h))
      → (let a = seat_by limit h b in
      a.no ≡ 0 → Takes S w h v a → P (taken S w h v (replicate 9 0) a))
      → P (measured_by S limit h v b)
  unfolding measured_by
  handle-either b P off on =
      called-either W w h v (replicate 9 0) (seat_by limit h b) g.set (sits-by b) limit g.lent_is 0 (leb limit most_sets) few-sets P off (λ k. on)

  -- the map's refusals that the arguments decide
  step_6 : K.finite v ≡ false → (attrs : Set) → step K config (map_of S w h) (measure v attrs) ≡ record { answer = refuse 6; map = map_of S w h }
  unfolding upfront
  step_6 q attrs = rw q

  step_5 : K.finite v ≡ true → (attrs : Set) → leb (length attrs) 8 ≡ false → step K config (map_of S w h) (measure v attrs) ≡ record { answer = refuse 5; map = map_of S w h }
  unfolding upfront
  step_5 q attrs k = rw (q, k)

  step_0 : K.finite v ≡ true → (attrs : Set) → leb (length attrs) 8 ≡ true → step K config (map_of S w h) (measure v attrs) ≡ act K config (map_of S w h) (measure v attrs)
  unfolding upfront
  step_0 q attrs k = rw (q, k)

  by-step_6 : K.finite v ≡ false → (b : ℕ) → step K config (map_of S w h) (measure_by b v) ≡ record { answer = refuse 6; map = map_of S w h }
  unfolding upfront
  by-step_6 q b = rw q

  by-step_0 : K.finite v ≡ true → (b : ℕ) → step K config (map_of S w h) (measure_by b v) ≡ act K config (map_of S w h) (measure_by b v)
  unfolding upfront
  by-step_0 q b = rw q

  set_acts : K.finite v ≡ true → (attrs : Set) → Lendable attrs → length attrs ≤ 8
      → act K config (map_of S w h) (measure v attrs) ≡ told S w (entered S h v (row_in filter attrs) (seat_of limit filter h attrs))
  set_acts fin attrs small few =
      let d = h.kept.dir in
      let s = h.kept.stores in
      let row = row_in filter attrs in
      let r = row-set filter attrs small few in
      let l = lent-dir W limit h g.lent_is in
      let fs = S.at h.cells in
      entered-steps W w h v row (seat_of limit filter h attrs) g.set (sits attrs) fin (act K config (map_of S w h) (measure v attrs))
      (λ n. measure-away K fs (S.settings w) config d s g.agrees g.last l.sets l.entries l.order row attrs r v n)
      (λ n i q. measure-refused K fs (S.settings w) config d s g.agrees g.last l.sets l.entries l.order row attrs r v n i q)
      (λ n q y p k. measure-done K fs (S.settings w) config d s g.agrees g.last l.sets l.entries l.order row attrs r v n q y p k)

  handle_acts : K.finite v ≡ true → (b : ℕ) → act K config (map_of S w h) (measure_by b v) ≡ told S w (entered S h v (replicate 9 0) (seat_by limit h b))
  handle_acts fin b =
      let d = h.kept.dir in
      let s = h.kept.stores in
      let row : List ℕ = replicate 9 0 in
      let l = lent-dir W limit h g.lent_is in
      let fs = S.at h.cells in
      entered-steps W w h v row (seat_by limit h b) g.set (sits-by b) fin (act K config (map_of S w h) (measure_by b v))
      (λ n. by-away K fs (S.settings w) config d s g.agrees g.last l.sets l.entries l.order b row v n)
      (λ n i q. by-refused K fs (S.settings w) config d s g.agrees g.last l.sets l.entries l.order b row v n i q)
      (λ n q y p k. by-done K fs (S.settings w) config d s g.agrees g.last l.sets l.entries l.order b row v n q y p k)

  -- BY SET
  pub measure-steps : (attrs : Set) → Lendable attrs → step K config (map_of S w h) (measure v attrs) ≡ told S w (measured S limit filter h v attrs)
  unfolding measured
  measure-steps attrs small =
      called-cases W w h v (row_in filter attrs) (seat_of limit filter h attrs) g.set (sits attrs) limit g.lent_is (length attrs) (accepts limit filter) g.accepted
      (λ (o : Outcome S.Cells). step K config (map_of S w h) (measure v attrs) ≡ told S w o) (λ q. step_6 q attrs) (λ q k. step_5 q attrs k)
      (λ q k. step_0 q attrs k ∙ set_acts q attrs small (leb-true (length attrs) 8 k))

  -- BY HANDLE
  pub handle-steps : (b : ℕ) → step K config (map_of S w h) (measure_by b v) ≡ told S w (measured_by S limit h v b)
  unfolding measured_by
  handle-steps b =
      called-cases W w h v (replicate 9 0) (seat_by limit h b) g.set (sits-by b) limit g.lent_is 0 (leb limit most_sets) few-sets
      (λ (o : Outcome S.Cells). step K config (map_of S w h) (measure_by b v) ≡ told S w o) (λ q. by-step_6 q b) (λ q k. true-not-false k) (λ q k. by-step_0 q b ∙ handle_acts q b)
