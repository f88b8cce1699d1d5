-- A BATCH IS ONE SEAT AND ONE SLOT: the single calls one after another, up to the first that is refused, are one seat, the values recorded at its
-- slot, and the directory committed once, if anything was taken. By set and by handle, for any kind that pays what it owes. Assumes nothing.
use Prim.Native.Nat.{ℕ, suc, ◌^◌, ◌≤◌, ◌<◌}
use mathlib.Core.Path.{◌≡◌, refl, ap, sym, subst, ◌∙◌}
use mathlib.Core.Logic.{⊎_elim}
use mathlib.Core.Bool.{Bool, true, false, ◌&&◌}
use mathlib.Core.List.{List, [], ◌∷◌}
use native.Mathlib.Omega.{arith}
use lib.Dec.{eqb}
use borrow.Author.Tests.{eq-eqb, eqb-true}
use Rattle.laws.specs.Pick.{pick}
use Rattle.laws.proofs.Bools.{flag, and_intro}
use Rattle.laws.proofs.Cases.{and-true}
use Rattle.rows.specs.Recording.{Recording, after}
use Rattle.many.specs.Many.{Many, many, stopped, each}
use Rattle.many.proofs.Turns.{either, each_on, each-stop, each_none}
use Rattle.many.proofs.Alike.{pick_first, pick_second, Answers, alike}
use Rattle.tally.specs.Kind.{Kind}
use Rattle.directory.specs.View.{Stores, agreesb}
use Rattle.directory.specs.Calls.{Kept, kept, stores_suffice}
use Rattle.directory.specs.declared.Directory.{Directory}
use Rattle.directory.proofs.Leaves.{Good}
use Rattle.directory.specs.declared.Target.{Target}
use Rattle.seats.specs.Seats.{barred_by, unless_barred, committed, Seating}
use Rattle.seats.specs.Inner.{Fits}
use Rattle.seats.proofs.Bars.{bar_6, bar_0, Clear, clear, barred-on, not-barred}
use Rattle.value_map.specs.Store.{Store}
use Rattle.value_map.specs.Calls.{Held, passes, lent, entered, called}
use Rattle.value_map.proofs.Owed.{Fit, Owed}
use Rattle.value_map.proofs.Cases.{Seatable, lent-cells, entered-away, entered-refused, entered-done, called-barred, called_on}
use Rattle.batches.specs.Batch.{one}
use Rattle.batches.specs.Inner.{Part, part, recorded_one, recorded_all, unless_stopped, finished_all}
use Rattle.batches.proofs.Slotted.{one-wild, one_on, one-stop, took-is, cells_of}
use Rattle.batches.proofs.Again.{Again}

-- ---- by cases

pub stop-on : {Left : Type 0} (n : ℕ) (l : Left) (m : Many Left) → n ≡ 0 → unless_stopped n l m ≡ m
unfolding unless_stopped
stop-on n l m z = pick_first n z m (stopped n l)

pub stop-off : {Left : Type 0} (n : ℕ) (l : Left) (m : Many Left) → (n ≡ 0 → ⊥) → unless_stopped n l m ≡ stopped n l
unfolding unless_stopped
stop-off n l m d = pick_second n d m (stopped n l)

-- the directory's end
module _ (n : ℕ) (d : Directory) (s : Stores) (row : List ℕ) (t : Target) where
  pub finish-none : n ≡ 0 → kept d s ≡ finished_all n d s row t
  unfolding finished_all
  finish-none e = sym (pick_first n e (kept d s) (committed d s row t))

  pub finish-some : (n ≡ 0 → ⊥) → committed d s row t ≡ finished_all n d s row t
  unfolding finished_all
  finish-some d' = sym (pick_second n d' (kept d s) (committed d s row t))

not-finished : (k : Kept) (row : List ℕ) (t : Target) → finished_all 0 k.dir k.stores row t ≡ k
not-finished k row t = sym (finish-none 0 k.dir k.stores row t refl)

-- ---- a way to a slot: so many attributes, a configuration that was accepted or not, a row, and where a call goes

pub record Course {K : Kind} (S : Store K) (limit n : ℕ) (ok : Bool) (row : List ℕ) : Type 0 where
  pub seat : Kept → Seating
  -- one that is not refused found the directory agreeing
  pub agrees : (k : Kept) → (seat k).no ≡ 0 → agreesb limit k.dir k.stores ≡ true
  -- has its place in stores that suffice
  pub sits : (h : Held S.Cells) → lent S limit h ≡ true → ok ≡ true → Seatable S h (seat h.kept)
  -- and is the seat again
  pub again : n ≤ 8 → (k : Kept) → Good limit k → (seat k).no ≡ 0
      → Good limit (committed k.dir k.stores row (seat k).target) × Again seat row (seat k).slot (committed k.dir k.stores row (seat k).target)

module _ {K : Kind} {S : Store K} (W : Owed S) (w : S.Switches) (limit n : ℕ) (ok : Bool) (row : List ℕ) (y : Course S limit n ok row) where
  -- the single call
  abbrev pub step : Held S.Cells → K.Value → Recording (Held S.Cells)
  step h v = one (called S limit h v n ok row (y.seat h.kept))

  -- what the values leave at the slot, with the directory
  unfoldable pub whole : Held S.Cells → Seating → Many S.Cells → Many (Held S.Cells)
  whole h a m =
      record {
        taken = m.taken;
        no = m.no;
        left = record { kept = finished_all m.taken h.kept.dir h.kept.stores row a.target; cells = m.left };
      }

  -- ---- one call that is not barred, and whose seat is a

  module _ (h : Held S.Cells) (set : S.unset ≡ 0) (accepted : ok ≡ true) (few : n ≤ 8) (l : lent S limit h ≡ true) (a : Seating) (e : y.seat h.kept ≡ a) (z : a.no ≡ 0) (v : K.Value) where
    abbrev p : Part S.Cells
    p = part a.updated h.cells

    abbrev q : Recording (Part S.Cells)
    q = recorded_one S a.slot p v

    abbrev next : S.Cells → Held S.Cells
    next c = record { kept = committed h.kept.dir h.kept.stores row a.target; cells = c }

    okay : (passes S && ok) ≡ true
    okay = and_intro (passes S) ok (eq-eqb S.unset 0 set) accepted

    wild : K.finite v ≡ false → step h v ≡ after 6 h
    wild f =
        ap one (sym (called-barred S limit h v n ok row (y.seat h.kept) 6 (sym (bar_6 (lent S limit h) (K.finite v) n (passes S && ok) l f)) (λ i. omega (arith, i))))

    module _ (f : K.finite v ≡ true) where
      goes : called S limit h v n ok row (y.seat h.kept) ≡ entered S h v row a
      goes =
          sym (called_on S limit h v n ok row (y.seat h.kept) 0 (sym (bar_0 (lent S limit h) (K.finite v) n (passes S && ok) l f few okay)) refl)
          ∙ ap (entered S h v row) e

      fit : Fit S h.cells a.slot v
      fit = record { set = set; room = (subst (Seatable S h) e (y.sits h l accepted) z).0; value = f }

    -- refused, it changes nothing; taken, the directory is committed, and the cells suffice
    record Call (q : Recording (Part S.Cells)) : Type 0 where
      pub stays : (q.no ≡ 0 → ⊥) → (step h v ≡ after q.no h) × (q ≡ after q.no (part a.updated h.cells))
      pub goes : q.no ≡ 0 → (step h v ≡ after 0 (next q.cells.cells)) × (q ≡ after 0 (part true q.cells.cells))
      pub lent_is : q.no ≡ 0 → S.suffices limit q.cells.cells ≡ true

    abbrev r : Recording S.Cells
    r = S.recorded a.slot a.updated h.cells v

    call-is : Call q
    call-is =
        ⊎_elim
        (λ (f : K.finite v ≡ true).
        either r.no
        (λ t.
        subst Call (sym (one_on S a.slot p v f r refl t))
        (record {
          stays = λ d. absurd (d refl);
          goes = λ i. (ap one (goes f ∙ sym (entered-done W h v row a z r refl t _ refl)), refl);
          lent_is = λ i. (took-is W w a.slot a.updated h.cells v (fit f) t).lent limit (lent-cells W limit h l);
        }))
        (λ d.
        let c = W.unchanged h.cells a.slot a.updated v d in
        let o : q ≡ after r.no (part a.updated h.cells) = one-stop S a.slot p v f r refl d ∙ (λ j. after r.no (part a.updated (c j))) in
        subst Call (sym o)
        (record {
          stays = λ i. (ap one (goes f ∙ sym (entered-refused W h v row a z r refl d)) ∙ (λ j. after r.no (record { kept = h.kept; cells = c j })), refl);
          goes = λ i. absurd (d i);
          lent_is = λ i. absurd (d i);
        })))
        (λ (f : K.finite v ≡ false).
        subst Call (sym (one-wild S a.slot p v f))
        (record { stays = λ d. (wild f, refl); goes = λ i. absurd (omega (arith, i)); lent_is = λ i. absurd (omega (arith, i)) }))
        (flag (K.finite v))

  -- ---- once a value was taken, all go to the same slot

  module _ (set : S.unset ≡ 0) (accepted : ok ≡ true) (few : n ≤ 8) (k : Kept) (good : Good limit k) (x : ℕ) (m : Again y.seat row x k) where
    -- the map that is left is the committed directory with the slot's cells
    record Sat (h : Held S.Cells) (p : Part S.Cells) : Type 0 where
      pub held-is : h ≡ record { kept = k; cells = p.cells }
      pub part-is : p ≡ part true p.cells
      pub lent_is : S.suffices limit p.cells ≡ true

    abbrev here : Seating
    here = record { no = 0; slot = x; updated = true; target = m.target }

    abbrev Next : Held S.Cells → Part S.Cells → K.Value → Type 0
    Next h p v = Answers step (recorded_one S x) Sat h p v

    sat-next : (h : Held S.Cells) (p : Part S.Cells) (v : K.Value) → Sat h p → Unit {0} → Next h p v
    sat-next h p v s u =
        let c = p.cells in
        let g : Held S.Cells = record { kept = k; cells = c } in
        let o = recorded_one S x (part true c) v in
        let q : Call g set accepted few (rw good.lent s.lent_is) here m.seat-is refl v o = call-is g set accepted few (rw good.lent s.lent_is) here m.seat-is refl v in
        subst (λ (i : Held S.Cells). Next i p v) (sym s.held-is)
        (subst (λ (i : Part S.Cells). Next g i v) (sym s.part-is)
        (either o.no
        (λ t.
        let a = q.goes t in
        record {
          no = ap (λ (i : Recording (Held S.Cells)). i.no) a.0 ∙ sym t;
          cells = record {
            held-is = ap (λ (i : Recording (Held S.Cells)). i.cells) a.0 ∙ (λ j. record { kept = m.committed-is j; cells = o.cells.cells });
            part-is = ap (λ (i : Recording (Part S.Cells)). i.cells) a.1;
            lent_is = q.lent_is t;
          };
        })
        (λ d.
        let a = q.stays d in
        record {
          no = ap (λ (i : Recording (Held S.Cells)). i.no) a.0;
          cells = subst (Sat (step g v).cells) (ap (λ (i : Recording (Part S.Cells)). i.cells) (sym a.1))
              (record { held-is = ap (λ (i : Recording (Held S.Cells)). i.cells) a.0; part-is = refl; lent_is = s.lent_is });
        })))

  -- ---- THE LAW, in a map whose call is not barred and whose seat is not refused

  module _ (h : Held S.Cells) (small : h.kept.dir.last < 2 ^ 64) (set : S.unset ≡ 0) (accepted : ok ≡ true) (few : n ≤ 8) (l : lent S limit h ≡ true) (z : (y.seat h.kept).no ≡ 0) where
    abbrev at : Seating
    at = y.seat h.kept

    good : Good limit h.kept
    good = record { agrees = y.agrees h.kept z; lent = (and-true (stores_suffice limit h.kept.stores) (S.suffices limit h.cells) l).0; last = small }

    abbrev from : Part S.Cells
    from = part at.updated h.cells

    batch-on : (vs : List K.Value) → each step h vs ≡ whole h at (recorded_all S at.slot at.updated h.cells vs)
    unfolding recorded_all whole finished_all pick
    batch-on [] = each_none step h ∙ ap (λ (i : Many (Part S.Cells)). whole h at (cells_of i)) (sym (each_none (recorded_one S at.slot) from))
    batch-on (v ∷ vs) =
        let o = recorded_one S at.slot from v in
        let q = call-is h set accepted few l at refl z v in
        let k = committed h.kept.dir h.kept.stores row at.target in
        either o.no
        (λ t.
        let s = q.goes t in
        let w = y.again few h.kept good z in
        let i = alike step (recorded_one S at.slot) (Sat set accepted few k w.0 at.slot w.1) (λ (j : K.Value). Unit {0}) v (sat-next set accepted few k w.0 at.slot w.1) vs (λ j. tt) (step h v).cells o.cells
        (record { held-is = ap (λ (j : Recording (Held S.Cells)). j.cells) s.0; part-is = ap (λ (j : Recording (Part S.Cells)). j.cells) s.1; lent_is = q.lent_is t }) in
        let b = each (recorded_one S at.slot) o.cells vs in
        each_on step h v vs (ap (λ (j : Recording (Held S.Cells)). j.no) s.0)
        ∙ (λ j. record { taken = suc (i.taken j); no = i.no j; left = i.left.held-is j })
        ∙ (λ j. record { taken = suc b.taken; no = b.no; left = record { kept = sym (pick_second (suc b.taken) (λ e. omega (arith, e)) h.kept k) j; cells = b.left.cells } })
        ∙ ap (λ (j : Many (Part S.Cells)). whole h at (cells_of j)) (sym (each_on (recorded_one S at.slot) from v vs t)))
        (λ d.
        let s = q.stays d in
        each-stop step h v vs (λ i. d (ap (λ (j : Recording (Held S.Cells)). j.no) (sym s.0) ∙ i))
        ∙ ap (λ (j : Recording (Held S.Cells)). stopped j.no j.cells) s.0
        ∙ ap (λ (j : Recording (Part S.Cells)). whole h at (cells_of (stopped o.no j.cells))) (sym s.1)
        ∙ ap (λ (j : Many (Part S.Cells)). whole h at (cells_of j)) (sym (each-stop (recorded_one S at.slot) from v vs d)))

  -- ---- at the seating a that the code came by for the first value: c says whether the cells suffice, f whether the value is finite, u is the
  -- number of the settings

  module _ (h : Held S.Cells) (v : K.Value) {c f : Bool} {u : ℕ} {a : Seating} (p : c ≡ S.suffices limit h.cells) (q : f ≡ K.finite v) (s : u ≡ S.unset)
      (e : a ≡ unless_barred (barred_by (stores_suffice limit h.kept.stores && c) f n (eqb u 0 && ok)) (y.seat h.kept)) where
    abbrev bar : ℕ
    bar = barred_by (stores_suffice limit h.kept.stores && c) f n (eqb u 0 && ok)

    same-bar : bar ≡ barred_by (lent S limit h) (K.finite v) n (passes S && ok)
    same-bar = λ j. barred_by (stores_suffice limit h.kept.stores && p j) (q j) n (eqb (s j) 0 && ok)

    -- refused: the first value is, and nothing is changed
    pub off : (a.no ≡ 0 → ⊥) → (vs : List K.Value) → stopped a.no h ≡ each step h (v ∷ vs)
    unfolding called
    off d vs =
        let i : step h v ≡ after a.no h =
        ap (λ (k : ℕ). one (entered S h v row (unless_barred k (y.seat h.kept)))) (sym same-bar) ∙ ap (λ (k : Seating). one (entered S h v row k)) (sym e) ∙ ap one (sym (entered-away S h v row a d)) in
        sym (each-stop step h v vs (λ k. d (ap (λ (j : Recording (Held S.Cells)). j.no) (sym i) ∙ k)) ∙ ap (λ (j : Recording (Held S.Cells)). stopped j.no j.cells) i)

    -- what one that is not refused shows
    module _ (z : a.no ≡ 0) where
      zero-bar : bar ≡ 0
      zero-bar = not-barred bar (y.seat h.kept) (ap (λ (i : Seating). i.no) (sym e) ∙ z)

      is-clear : Clear (lent S limit h) (K.finite v) n (passes S && ok)
      is-clear = clear (lent S limit h) (K.finite v) n (passes S && ok) (sym same-bar ∙ zero-bar)

      pub same-seat : y.seat h.kept ≡ a
      same-seat = sym (e ∙ barred-on bar (y.seat h.kept) zero-bar)

      pub set_is : S.unset ≡ 0
      set_is = eqb-true S.unset 0 (and-true (passes S) ok is-clear.ok-is).0

      pub finite-first : K.finite v ≡ true
      finite-first = is-clear.value

      pub sits-there : Seatable S h a
      sits-there = subst (Seatable S h) same-seat (y.sits h is-clear.room-is (and-true (passes S) ok is-clear.ok-is).1)

      pub on : h.kept.dir.last < 2 ^ 64 → (vs : List K.Value) (m : Many S.Cells) → m ≡ recorded_all S a.slot a.updated h.cells (v ∷ vs)
          → whole h a m ≡ each step h (v ∷ vs)
      on small vs m i =
          ap (whole h a) i
          ∙ sym (subst (λ (k : Seating). each step h (v ∷ vs) ≡ whole h k (recorded_all S k.slot k.updated h.cells (v ∷ vs))) same-seat
          (batch-on h small set_is (and-true (passes S) ok is-clear.ok-is).1 is-clear.few is-clear.room-is (ap (λ (k : Seating). k.no) same-seat ∙ z) (v ∷ vs)))

    -- the same at the end of the code: the slot left m, the directory's end r, for the row that was lent
    module _ (l vs : List K.Value) (cut : l ≡ v ∷ vs) (m : Many S.Cells) (t : m ≡ unless_stopped a.no h.cells (recorded_all S a.slot a.updated h.cells l)) where
      at-stop : (a.no ≡ 0 → ⊥) → m ≡ stopped a.no h.cells
      at-stop d = t ∙ stop-off a.no h.cells (recorded_all S a.slot a.updated h.cells l) d

      pub fits-there : (m.taken ≡ 0 → ⊥) → Fits h.kept.dir h.kept.stores a.target
      fits-there k = either a.no (λ z. (sits-there z z).1) (λ d. absurd (k (ap (λ (i : Many S.Cells). i.taken) (at-stop d))))

      pub ends : h.kept.dir.last < 2 ^ 64 → (given : List ℕ) → (a.no ≡ 0 → given ≡ row) → (r : Many Kept)
          → r ≡ many m.taken m.no (finished_all m.taken h.kept.dir h.kept.stores given a.target)
          → many r.taken r.no (record { kept = r.left; cells = m.left }) ≡ each step h l
      unfolding whole
      ends small given same r g =
          let o : (k : List ℕ) → Many (Held S.Cells) = λ k. many m.taken m.no (record { kept = finished_all m.taken h.kept.dir h.kept.stores k a.target; cells = m.left }) in
          let first : many r.taken r.no (record { kept = r.left; cells = m.left }) ≡ o given = ap (λ (i : Many Kept). many i.taken i.no (record { kept = i.left; cells = m.left })) g in
          first
          ∙ either a.no
          (λ z.
          let i : m ≡ recorded_all S a.slot a.updated h.cells (v ∷ vs) =
          t ∙ stop-on a.no h.cells (recorded_all S a.slot a.updated h.cells l) z ∙ ap (recorded_all S a.slot a.updated h.cells) cut in
          ap o (same z) ∙ on z small vs m i)
          (λ d.
          ap (λ (i : Many S.Cells). many i.taken i.no (record { kept = finished_all i.taken h.kept.dir h.kept.stores given a.target; cells = i.left })) (at-stop d)
          ∙ (λ j. many 0 a.no (record { kept = not-finished h.kept given a.target j; cells = h.cells }))
          ∙ off d vs)
          ∙ ap (each step h) (sym cut)
