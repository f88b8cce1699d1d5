-- MANY VALUES AT ONE SLOT: recorded one by one into a kind's cells is read once, recorded one by one into the series as the code holds it, and
-- put back once, if anything was taken. For any kind that pays what it owes and says how its code does one value. Assumes nothing.
use Prim.Native.Nat.{ℕ, suc}
use mathlib.Core.Path.{◌≡◌, refl, ap, sym, subst, ◌∙◌}
use mathlib.Core.Logic.{⊎_elim}
use mathlib.Core.Bool.{Bool, true, false, ◌||◌}
use mathlib.Core.List.{List, [], ◌∷◌}
use native.Mathlib.Omega.{arith}
use lib.Dec.{eqb}
use borrow.Author.Tests.{eq-eqb, ne_eqb}
use Rattle.laws.specs.Pick.{pick}
use Rattle.laws.proofs.Bools.{flag}
use Rattle.laws.proofs.Cases.{true-not-false}
use Rattle.rows.specs.Recording.{Recording, after}
use Rattle.many.specs.Many.{Many, many, stopped, each}
use Rattle.many.proofs.Turns.{either, each_on, each-stop, each_none}
use Rattle.many.proofs.Alike.{pick_first, pick_second, Elements, Answers, alike, none-taken}
use Rattle.tally.specs.Kind.{Kind}
use Rattle.tally.specs.Map.{sound}
use Rattle.tally.proofs.Sound.{Steady}
use Rattle.tally.proofs.MapSteps.{fits}
use Rattle.value_map.specs.Store.{Store}
use Rattle.value_map.proofs.Owed.{Fit, there, was, refusing, Took, Owed}
use Rattle.batches.specs.Inner.{Part, part, recorded_one, recorded_all}

-- ---- by cases

module _ {K : Kind} (S : Store K) (x : ℕ) (p : Part S.Cells) (v : K.Value) where
  pub one-wild : K.finite v ≡ false → recorded_one S x p v ≡ after 6 p
  unfolding recorded_one pick
  one-wild q = rw q

  module _ (q : K.finite v ≡ true) (o : Recording S.Cells) (e : S.recorded x p.updated p.cells v ≡ o) where
    pub one_on : o.no ≡ 0 → recorded_one S x p v ≡ after 0 (part true o.cells)
    unfolding recorded_one pick
    one_on z = rw (q, e, eq-eqb o.no 0 z) (λ j. after (z j) (part (held p.updated j) o.cells))
      where
        held : (u : Bool) → (u || true) ≡ true
        held true = refl
        held false = refl

    pub one-stop : (o.no ≡ 0 → ⊥) → recorded_one S x p v ≡ after o.no (part p.updated o.cells)
    unfolding recorded_one pick
    one-stop d = rw (q, e, ne_eqb o.no 0 d) (λ j. after o.no (part (held p.updated j) o.cells))
      where
        held : (u : Bool) → (u || false) ≡ u
        held true = refl
        held false = refl

-- the values at a slot, without what the slot held
abbrev pub cells_of : {Cells : Type 0} → Many (Part Cells) → Many Cells
cells_of m = record { taken = m.taken; no = m.no; left = m.left.cells }

module _ {K : Kind} (S : Store K) (x : ℕ) (u : Bool) (c : S.Cells) where
  -- no value, no call
  pub none-all : recorded_all S x u c [] ≡ stopped 0 c
  unfolding recorded_all
  none-all = ap cells_of (each_none (recorded_one S x) (part u c))

  module _ (v : K.Value) (vs : List K.Value) where
    -- 6 comes before all that the slot asks
    pub wild-all : K.finite v ≡ false → recorded_all S x u c (v ∷ vs) ≡ stopped 6 c
    unfolding recorded_all
    wild-all q =
        let e = one-wild S x (part u c) v q in
        let d : (recorded_one S x (part u c) v).no ≡ 0 → ⊥ = λ z. let i = ap (λ (o : Recording (Part S.Cells)). o.no) (sym e) ∙ z in omega (arith, i) in
        ap cells_of (each-stop (recorded_one S x) (part u c) v vs d) ∙ ap (λ (o : Recording (Part S.Cells)). stopped o.no o.cells.cells) e

    -- a first value that the slot refuses stops all, and nothing is changed
    pub first_stops : Owed S → K.finite v ≡ true → (n : ℕ) → (S.recorded x u c v).no ≡ n → (n ≡ 0 → ⊥) → recorded_all S x u c (v ∷ vs) ≡ stopped n c
    unfolding recorded_all
    first_stops W q n r d =
        let o = S.recorded x u c v in
        let k : o.no ≡ 0 → ⊥ = λ z. d (sym r ∙ z) in
        let e = one-stop S x (part u c) v q o refl k in
        ap cells_of (each-stop (recorded_one S x) (part u c) v vs (λ z. k (ap (λ (y : Recording (Part S.Cells)). y.no) (sym e) ∙ z)))
        ∙ ap (λ (y : Recording (Part S.Cells)). stopped y.no y.cells.cells) e
        ∙ (λ j. stopped (r j) (W.unchanged c x u v k j))

-- ---- a slot at which 8 does not come up

module _ {K : Kind} (S : Store K) (w : S.Switches) where
  -- settings that configuring accepts, the slot's place, and a series that agrees, where one is held
  pub record Ready (x : ℕ) (u : Bool) (c : S.Cells) : Type 0 where
    pub set : S.unset ≡ 0
    pub room : S.Room c x
    pub series : u ≡ true → K.agrees (S.settings w) (S.at c x) ≡ true

module _ {K : Kind} {S : Store K} (W : Owed S) (w : S.Switches) (x : ℕ) (u : Bool) (c : S.Cells) where
  abbrev z : K.Settings
  z = S.settings w

  agrees-there : (b : Bool) → b ≡ true → sound K z (there S c x b) ≡ true → K.agrees z (S.at c x) ≡ true
  unfolding pick
  agrees-there true e h = h
  agrees-there false e h = true-not-false (sym e)

  disagrees-there : (b : Bool) → b ≡ true → K.agrees z (S.at c x) ≡ false → sound K z (there S c x b) ≡ false
  unfolding pick
  disagrees-there true e h = h
  disagrees-there false e h = true-not-false (sym e)

  -- a series that disagrees stops the first finite value with 8
  pub unsound-all : S.unset ≡ 0 → S.Room c x → (v : K.Value) (vs : List K.Value) → K.finite v ≡ true → u ≡ true → K.agrees z (S.at c x) ≡ false
      → recorded_all S x u c (v ∷ vs) ≡ stopped 8 c
  unsound-all set room v vs q h k =
      let e = W.disagreeing w c x u v (record { set = set; room = room; value = q }) (disagrees-there u h k) in
      first_stops S x u c v vs W q 8 (ap (λ (o : Recording S.Cells). o.no) e) (λ i. omega (arith, i))

  -- a slot that does not answer 8 is ready
  pub ready_if : S.unset ≡ 0 → S.Room c x → (v : K.Value) → K.finite v ≡ true → ((S.recorded x u c v).no ≡ 8 → ⊥) → Ready S w x u c
  ready_if set room v q d =
      record {
        set = set;
        room = room;
        series = λ h.
            ⊎_elim (λ (t : sound K z (there S c x u) ≡ true). agrees-there u h t)
            (λ (t : sound K z (there S c x u) ≡ false).
            absurd (d (ap (λ (o : Recording S.Cells). o.no) (W.disagreeing w c x u v (record { set = set; room = room; value = q }) t))))
            (flag (sound K z (there S c x u)));
      }

  -- the series that took a value agreed, and agrees with it
  module _ (v : K.Value) (fit : Fit S c x v) where
    abbrev o : Recording S.Cells
    o = S.recorded x u c v

    not-refused : {A : Type 0} (n : ℕ) → (n ≡ 0 → ⊥) → o ≡ refusing S n c → o.no ≡ 0 → A
    not-refused n d e t = absurd (d (ap (λ (y : Recording S.Cells). y.no) (sym e) ∙ t))

    was-sound : o.no ≡ 0 → sound K z (there S c x u) ≡ true
    was-sound t =
        ⊎_elim (λ (s : sound K z (there S c x u) ≡ true). s)
        (λ (s : sound K z (there S c x u) ≡ false). not-refused 8 (λ i. omega (arith, i)) (W.disagreeing w c x u v fit s) t)
        (flag (sound K z (there S c x u)))

    pub took-is : o.no ≡ 0 → Took S c x o (K.add z (was S w c x u) v)
    took-is t =
        let s = was-sound t in
        ⊎_elim
        (λ (n : fits (suc (K.total (was S w c x u))) ≡ true).
        ⊎_elim
        (λ (a : K.allows z (was S w c x u) v ≡ true). W.took w c x u v fit s n a)
        (λ (a : K.allows z (was S w c x u) v ≡ false). not-refused 16 (λ i. omega (arith, i)) (W.barred w c x u v fit s n a) t)
        (flag (K.allows z (was S w c x u) v)))
        (λ (n : fits (suc (K.total (was S w c x u))) ≡ false). not-refused 9 (λ i. omega (arith, i)) (W.full w c x u v fit s n) t)
        (flag (fits (suc (K.total (was S w c x u)))))

    before : Steady K → (b : Bool) → sound K z (there S c x b) ≡ true → K.agrees z (was S w c x b) ≡ true
    unfolding pick
    before T true h = h
    before T false h = T.fresh z (W.valid fit.set w)

    pub agrees-next : Steady K → o.no ≡ 0 → K.agrees z (S.at o.cells x) ≡ true
    agrees-next T t =
        subst (λ (y : K.Series). K.agrees z y ≡ true) (sym (took-is t).own) (T.add z (was S w c x u) v (W.valid fit.set w) fit.value (before T u (was-sound t)))

-- ---- how a kind's code records at a slot

pub record Slotted {K : Kind} (S : Store K) (w : S.Switches) : Type 1 where
  -- the series as the code holds it while it records: head and rows
  pub Series : Type 0
  -- read from a slot, which holds one or not; and put there
  pub load : S.Cells → ℕ → Bool → Series
  pub put : S.Cells → ℕ → Series → S.Cells
  -- one value more, with its number: 6 for one that is not finite
  pub step : Series → K.Value → Recording Series
  -- what is known of an element of a lent list of values, and what is read beyond its end
  pub Shape : K.Value → Type 0
  pub nought : K.Value
  -- a series that fits into a slot: its rows are as long as the slot's
  pub Fitting : Series → Type 0
  -- "Every refusal changes nothing."
  pub unchanged : (c : S.Cells) (x : ℕ) (u : Bool) (v : K.Value) → Ready S w x u c → Shape v
      → ((step (load c x u) v).no ≡ 0 → ⊥) → (step (load c x u) v).cells ≡ load c x u
  pub wild : (c : S.Cells) (x : ℕ) (u : Bool) (v : K.Value) → Ready S w x u c → Shape v
      → K.finite v ≡ false → (step (load c x u) v).no ≡ 6
  -- a finite value is refused with the series' number, or what it leaves is put back
  pub refused : (c : S.Cells) (x : ℕ) (u : Bool) (v : K.Value) → Ready S w x u c → Shape v → K.finite v ≡ true
      → ((step (load c x u) v).no ≡ 0 → ⊥) → (S.recorded x u c v).no ≡ (step (load c x u) v).no
  pub took : (c : S.Cells) (x : ℕ) (u : Bool) (v : K.Value) → Ready S w x u c → Shape v → K.finite v ≡ true
      → (step (load c x u) v).no ≡ 0 → (S.recorded x u c v ≡ after 0 (put c x (step (load c x u) v).cells)) × Fitting (step (load c x u) v).cells
  -- what is put is read again; putting twice is putting the last; and the slot has its place still
  pub read_back : (c : S.Cells) (x : ℕ) (s : Series) → S.Room c x → Fitting s → load (put c x s) x true ≡ s
  pub put-again : (c : S.Cells) (x : ℕ) (s t : Series) → S.Room c x → Fitting s → put (put c x s) x t ≡ put c x t
  pub put-room : (c : S.Cells) (x : ℕ) (s : Series) → S.Room c x → Fitting s → S.Room (put c x s) x

-- ---- THE LAW

module _ {K : Kind} {S : Store K} (w : S.Switches) (D : Slotted S w) (x : ℕ) where
  -- one value at a slot in which y lies: refused, it changes nothing; taken, what it leaves is put there
  record One (u : Bool) (c : S.Cells) (v : K.Value) (y : D.Series) : Type 0 where
    pub stays : ((D.step y v).no ≡ 0 → ⊥) → (recorded_one S x (part u c) v ≡ after (D.step y v).no (part u c)) × ((D.step y v).cells ≡ y)
    pub goes : (D.step y v).no ≡ 0 → recorded_one S x (part u c) v ≡ after 0 (part true (D.put c x (D.step y v).cells))
    pub fitting : (D.step y v).no ≡ 0 → D.Fitting (D.step y v).cells
    pub ready : (D.step y v).no ≡ 0 → Ready S w x true (D.put c x (D.step y v).cells)

  -- what the loop leaves, put back only if something was taken
  unfoldable pub landed : S.Cells → Many D.Series → Many S.Cells
  landed c m = record { taken = m.taken; no = m.no; left = pick (eqb m.taken 0) c (D.put c x m.left) }

module _ {K : Kind} {S : Store K} (W : Owed S) (T : Steady K) (w : S.Switches) (D : Slotted S w) (x : ℕ) where
  abbrev f : Part S.Cells → K.Value → Recording (Part S.Cells)
  f = recorded_one S x

  module _ (u : Bool) (c : S.Cells) (r : Ready S w x u c) (v : K.Value) (s : D.Shape v) where
    abbrev l : D.Series
    l = D.load c x u

    abbrev g : Recording D.Series
    g = D.step l v

    one-refused : (g.no ≡ 0 → ⊥) → f (part u c) v ≡ after g.no (part u c)
    one-refused d =
        ⊎_elim
        (λ (q : K.finite v ≡ true).
        let e = D.refused c x u v r s q d in
        let k : (S.recorded x u c v).no ≡ 0 → ⊥ = λ i. d (sym e ∙ i) in
        one-stop S x (part u c) v q (S.recorded x u c v) refl k ∙ (λ j. after (e j) (part u (W.unchanged c x u v k j))))
        (λ (q : K.finite v ≡ false). one-wild S x (part u c) v q ∙ ap (λ (n : ℕ). after n (part u c)) (sym (D.wild c x u v r s q)))
        (flag (K.finite v))

    -- a value that was taken is finite
    finite-is : g.no ≡ 0 → K.finite v ≡ true
    finite-is t =
        ⊎_elim (λ (q : K.finite v ≡ true). q)
        (λ (q : K.finite v ≡ false). absurd (let e = sym (D.wild c x u v r s q) ∙ t in omega (arith, e)))
        (flag (K.finite v))

    k : g.no ≡ 0 → (S.recorded x u c v ≡ after 0 (D.put c x g.cells)) × D.Fitting g.cells
    k t = D.took c x u v r s (finite-is t) t

    one-is : One w D x u c v l
    one-is =
        record {
          stays = λ d. (one-refused d, D.unchanged c x u v r s d);
          goes = λ t. one_on S x (part u c) v (finite-is t) (after 0 (D.put c x g.cells)) (k t).0 refl;
          fitting = λ t. (k t).1;
          ready = λ t.
              record {
                set = r.set;
                room = D.put-room c x g.cells r.room (k t).1;
                series = λ e.
                    subst (λ (y : Recording S.Cells). K.agrees (S.settings w) (S.at y.cells x) ≡ true) (k t).0
                    (agrees-next W w x u c v (record { set = r.set; room = r.room; value = finite-is t }) T (ap (λ (y : Recording S.Cells). y.no) (k t).0));
              };
        }

  -- once a value was taken: what is in the cells is what the code holds
  module _ (c : S.Cells) (room : S.Room c x) where
    pub record Lies (p : Part S.Cells) (y : D.Series) : Type 0 where
      pub cells : p ≡ part true (D.put c x y)
      pub fitting : D.Fitting y
      pub ready : Ready S w x true (D.put c x y)

    stays-there : (p : Part S.Cells) (y : D.Series) (v : K.Value) → Lies p y → D.Shape v → Answers f D.step Lies p y v
    stays-there p y v h s =
        let d = D.put c x y in
        let m : One w D x true d v y = subst (One w D x true d v) (D.read_back c x y room h.fitting) (one-is true d h.ready v s) in
        subst (λ (i : Part S.Cells). Answers f D.step Lies i y v) (sym h.cells)
        (either (D.step y v).no
        (λ t.
        let a = D.put-again c x y (D.step y v).cells room h.fitting in
        let g = m.goes t in
        record {
          no = ap (λ (i : Recording (Part S.Cells)). i.no) g ∙ sym t;
          cells = record {
            cells = ap (λ (i : Recording (Part S.Cells)). i.cells) g ∙ ap (part true) a;
            fitting = m.fitting t;
            ready = subst (Ready S w x true) a (m.ready t);
          };
        })
        (λ e.
        let g = m.stays e in
        record {
          no = ap (λ (i : Recording (Part S.Cells)). i.no) g.0;
          cells = subst (Lies (f (part true d) v).cells) (sym g.1) (record { cells = ap (λ (i : Recording (Part S.Cells)). i.cells) g.0; fitting = h.fitting; ready = h.ready });
        }))

  module _ (u : Bool) (c : S.Cells) (r : Ready S w x u c) where
    -- nothing taken, nothing changed
    pub slot-none : (vs : List K.Value) → Elements D.Shape D.nought vs → (each D.step (D.load c x u) vs).taken ≡ 0 → (each D.step (D.load c x u) vs).left ≡ D.load c x u
    slot-none = none-taken D.step D.Shape D.nought (D.load c x u) (λ v s d. D.unchanged c x u v r s d)

    pub slot-all : (vs : List K.Value) → Elements D.Shape D.nought vs → recorded_all S x u c vs ≡ landed w D x c (each D.step (D.load c x u) vs)
    unfolding recorded_all landed pick
    slot-all [] s = none-all S x u c ∙ ap (landed w D x c) (sym (each_none D.step (D.load c x u)))
    slot-all (v ∷ vs) s =
        let y = D.load c x u in
        let m = one-is u c r v (s 0) in
        let p = part u c in
        either (D.step y v).no
        (λ t.
        let g = m.goes t in
        let n = (D.step y v).cells in
        let i = alike f D.step (Lies c r.room) D.Shape D.nought (stays-there c r.room) vs (λ j. s (suc j)) (f p v).cells n
        (record { cells = ap (λ (i : Recording (Part S.Cells)). i.cells) g; fitting = m.fitting t; ready = m.ready t }) in
        let b = each D.step n vs in
        ap cells_of (each_on f p v vs (ap (λ (i : Recording (Part S.Cells)). i.no) g))
        ∙ (λ j. record { taken = suc (i.taken j); no = i.no j; left = (i.left.cells j).cells })
        ∙ (λ j. record { taken = suc b.taken; no = b.no; left = sym (pick_second (suc b.taken) (λ e. omega (arith, e)) c (D.put c x b.left)) j })
        ∙ ap (landed w D x c) (sym (each_on D.step y v vs t)))
        (λ d.
        let g = (m.stays d).0 in
        ap cells_of (each-stop f p v vs (λ i. d (ap (λ (j : Recording (Part S.Cells)). j.no) (sym g) ∙ i)))
        ∙ ap (λ (i : Recording (Part S.Cells)). stopped i.no i.cells.cells) g
        ∙ (λ j. record { taken = 0; no = (D.step y v).no; left = sym (pick_first 0 refl c (D.put c x (D.step y v).cells)) j })
        ∙ ap (landed w D x c) (sym (each-stop D.step y v vs d)))

    -- at the code's end: the loop left m, and the cells are as they were, or have what is left put
    pub slot-ends : (vs : List K.Value) → Elements D.Shape D.nought vs → (m : Many D.Series) → m ≡ each D.step (D.load c x u) vs
        → (end : S.Cells) → (m.taken ≡ 0 → m.left ≡ D.load c x u → end ≡ c) → ((m.taken ≡ 0 → ⊥) → end ≡ D.put c x m.left)
        → many m.taken m.no end ≡ recorded_all S x u c vs
    unfolding landed
    slot-ends vs s m e end off on =
        let same : end ≡ pick (eqb m.taken 0) c (D.put c x m.left) =
        either m.taken
        (λ t.
        let k = ap (λ (i : Many D.Series). i.left) e ∙ slot-none vs s (ap (λ (i : Many D.Series). i.taken) (sym e) ∙ t) in
        off t k ∙ sym (pick_first m.taken t c (D.put c x m.left)))
        (λ d. on d ∙ sym (pick_second m.taken d c (D.put c x m.left))) in
        (λ j. record { taken = m.taken; no = m.no; left = same j }) ∙ ap (landed w D x c) e ∙ sym (slot-all vs s)
