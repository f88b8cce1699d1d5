-- SHEETS: what is written is read back, only what is written is read, and demand 3 over points that went through a sheet. Assumes nothing.
use Prim.Native.Nat.{ℕ, zero, suc, ◌≤◌, ◌<◌}
use mathlib.Core.Path.{◌≡◌, refl, sym, ap, ap₂, subst, ◌∙◌}
use mathlib.Core.Bool.{Bool, true, false}
use mathlib.Core.Logic.{◌⊎◌, inl, inr, ⊎_elim}
use mathlib.Core.List.{List, [], ◌∷◌, ◌++◌}
use mathlib.Core.Option.{Option, none, some, get_or}
use native.Mathlib.Omega.{arith}
use borrow.Author.Tests.{le-leb}
use lib.Dec.{leb}
use lib.ListN.{length, take, drop}
use lib.Seq.{take-append_seam}
use lib.Ieee.{Float}
use Rattle.laws.specs.Lists.{All}
use Rattle.laws.specs.Over.{over}
use Rattle.laws.specs.Said.{Said, refusal, success, number}
use Rattle.laws.proofs.Bools.{flag, pick_true, pick-false}
use Rattle.laws.proofs.Cases.{some_inj}
use Rattle.point.specs.Handing.{Stored}
use Rattle.tally.specs.Sets.{Set, of_set}
use Rattle.kinds.specs.Histograms.{histograms}
use Rattle.value_map.specs.Store.{Store}
use Rattle.value_map.specs.Calls.{Held}
use Rattle.value_map.specs.Maps.{config_of}
use Rattle.listing.specs.Listed.{Output, found_at}
use Rattle.pooling.specs.Lists.{Source}
use Rattle.collecting.specs.Lister.{Lister}
use Rattle.collecting.specs.Collected.{Collected, delta_collected, points_out}
use Rattle.sheets.specs.Entries.{Entry}
use Rattle.sheets.specs.Sheet.{Sheet, written, writable, read_sheet}
use Rattle.sheets.specs.Lists.{listed, laid_out, roomy, Ample}
use Rattle.sheets.specs.declared.Header.{Header}
use Rattle.records.specs.Inner.{AllBytes}
use Rattle.sheets.proofs.Back as Back
use Rattle.sheets.proofs.Example as Example
use Rattle.sheets.proofs.Holds.{read_held}
use Rattle.sheets.proofs.Taken.{listed_found, listed-length, listed-held}
use Rattle.sheets.proofs.LaidBack.{laid-back}
use Rattle.sheets.proofs.Lengths.{points-fine, sheet-short}
use Rattle.sheets.proofs.Room.{ample-roomy}
use Rattle.sheets.proofs.LaidLent.{empty, laid-lent}
use Rattle.sheets.proofs.Longer.{no_longer}
use Rattle.sheet_writing.specs.Writing as W
use Rattle.sheet_writing.specs.Writing.{writing, writing_of, shadowed, no_whole}
use Rattle.sheet_writing.proofs.Wholes.{of, all-real, writing-reals}
use Rattle.sheet_reading.specs.Reading as R
use Rattle.sheet_reading.specs.Reading.{reading, reading_of}
use Rattle.sheet_reading.specs.declared.Listed.{Listed}
use Rattle.promises.specs.Runs.{Asked, recording, recording_by, binding, releasing, collecting, ended}
use Rattle.promises.specs.Numbers.{reals}
use Rattle.promises.specs.Pooled.{stored_by, Whole}
use Rattle.promises.specs.Sheets.{Writes, EverySheet, SheetBack, SheetOnly, OneSheet, WholeSlice, Carried, points_at, SheetCarries, carried_out, SheetMerges}

-- ---- answers

abbrev value_or : {A : Type 0} → A → Said A → A
value_or d (refusal n) = d
value_or d (success a) = a

refused-not : {A B : Type 0} {n : ℕ} {a : A} → refusal n ≡ success a → B
refused-not {A} {B} {n} {a} e = absurd (subst is-refusal e tt)
  where
    is-refusal : Said A → Type 0
    is-refusal (refusal k) = Unit
    is-refusal (success b) = ⊥

said_inj : {A : Type 0} (a b : A) → success a ≡ success b → a ≡ b
said_inj a b e = ap (value_or a) e

other : (k : ℕ) → k < 15 → k ≡ 15 → ⊥
other k h e = omega arith

-- ---- what was written

-- the sheet whose bytes an accepted call wrote
pub record Wrote (h : Header) (n : ℕ) (x : Source) (s : List ℕ) : Type 0 where
  pub points : List Entry
  pub listed : listed n x ≡ some points
  pub takes : writable (record { header = h; points = points }) ≡ true
  pub bytes : written (record { header = h; points = points }) ≡ s

module _ (t : Sheet) (out : List ℕ) (k : ℕ) where
  abbrev whole : Bool
  whole = leb (length (written t)) (length out)

  -- accepted, it left its bytes
  pub record Put : Type 0 where
    pub takes : writable t ≡ true
    pub size : length (written t) ≡ k
    pub bytes : (writing_of t out).bytes ≡ over (written t) out

  put-with : (writable t ≡ true) ⊎ (writable t ≡ false) → (whole ≡ true) ⊎ (whole ≡ false) → (writing_of t out).answer ≡ success k → Put
  unfolding writing_of
  put-with (inl w) (inl l) e =
      let q : writing_of t out ≡ W.ends (success (length (written t))) (over (written t) out) =
      pick_true (writable t) _ _ w ∙ pick_true whole (W.ends (success (length (written t))) (over (written t) out)) (W.ends (refusal 10) out) l in
      record { takes = w; size = said_inj (length (written t)) k (sym (ap (λ (o : W.Outcome). o.answer) q) ∙ e); bytes = ap (λ (o : W.Outcome). o.bytes) q }
  put-with (inl w) (inr l) e =
      let q : writing_of t out ≡ W.ends (refusal 10) out =
      pick_true (writable t) _ _ w ∙ pick-false whole (W.ends (success (length (written t))) (over (written t) out)) (W.ends (refusal 10) out) l in
      refused-not (sym (ap (λ (o : W.Outcome). o.answer) q) ∙ e)
  put-with (inr w) l e =
      let q : writing_of t out ≡ W.ends (refusal 8) out = pick-false (writable t) _ _ w in
      refused-not (sym (ap (λ (o : W.Outcome). o.answer) q) ∙ e)

  put : (writing_of t out).answer ≡ success k → Put
  put = put-with (flag (writable t)) (flag whole)

take-front : (new out : List ℕ) (k : ℕ) → length new ≡ k → take k (over new out) ≡ new
unfolding over
take-front new out k e = ap (λ (i : ℕ). take i (new ++ drop (length new) out)) (sym e) ∙ take-append_seam new (drop (length new) out)

module _ (h : Header) (n : ℕ) (x : Source) (s : List ℕ) (out : List ℕ) where
  abbrev by : Option (List Entry) → W.Outcome
  by o = elim o [ none ↦ W.ends (refusal 8) out | some es ↦ writing_of (record { header = h; points = es }) out ]

  wrote-from : (o : Option (List Entry)) → listed n x ≡ o → (by o).answer ≡ success (length s) → take (length s) (by o).bytes ≡ s → Wrote h n x s
  wrote-from none e a b = refused-not a
  wrote-from (some es) e a b =
      let t : Sheet = record { header = h; points = es } in
      let p = put t out (length s) a in
      let c : take (length s) (over (written t) out) ≡ written t = take-front (written t) out (length s) p.size in
      record { points = es; listed = e; takes = p.takes; bytes = sym c ∙ ap (take (length s)) (sym p.bytes) ∙ b }

-- no point of it is of i64 values: these are refused
module _ (h : Header) (n : ℕ) (x : Source) (out : List ℕ) (k : ℕ) where
  whole-not : no_whole n x ≡ false → (o : Option (List Entry)) → (of h n x out (no_whole n x) o).answer ≡ success k → no_whole n x ≡ true
  whole-not r none a = refused-not a
  whole-not r (some es) a = refused-not (sym (ap (λ (u : W.Outcome). u.answer) (pick-false (no_whole n x) _ _ r)) ∙ a)

  reals-only : (writing h n x out).answer ≡ success k → no_whole n x ≡ true
  unfolding writing
  reals-only a = ⊎_elim (λ r. r) (λ r. whole-not r (listed n (shadowed x)) a) (flag (no_whole n x))

pub wrote : (h : Header) (n : ℕ) (x : Source) (s : List ℕ) → Writes h n x s → Wrote h n x s
wrote h n x s w =
    let q = sym (writing-reals h n x w.out (reals-only h n x w.out (length s) w.accepted)) in
    wrote-from h n x s w.out (listed n x) refl (ap (λ (u : W.Outcome). u.answer) q ∙ w.accepted)
    (ap (λ (u : W.Outcome). take (length s) u.bytes) q ∙ w.bytes)

-- each that is taken is written
module _ (h : Header) (n : ℕ) (x : Source) (es : List Entry) (l : listed n x ≡ some es) (w : writable (record { header = h; points = es }) ≡ true) (out : List ℕ)
    (room : 233504 ≤ length out) where
  abbrev made : Sheet
  made = record { header = h; points = es }

  long : length (written (record { header = h; points = es })) ≤ length out
  long = omega (arith, sheet-short made w)

  accepted-is : writing h n x out ≡ W.ends (success (length (written (record { header = h; points = es })))) (over (written (record { header = h; points = es })) out)
  unfolding writing_of
  accepted-is =
      writing-reals h n x out (all-real n x es l)
      ∙ ap (by h n x [] out) l
      ∙ pick_true (writable made) _ _ w
      ∙ pick_true (leb (length (written made)) (length out)) _ _ (le-leb (length (written made)) (length out) long)

  front-is : take (length (written (record { header = h; points = es }))) (writing h n x out).bytes ≡ written (record { header = h; points = es })
  front-is = ap (λ (u : W.Outcome). take (length (written made)) u.bytes) accepted-is ∙ take-front (written made) out (length (written made)) refl

pub every-sheet : EverySheet
every-sheet h n x es l w k out room =
    let t : Sheet = record { header = h; points = es } in
    let f = front-is h n x es l w out room in
    record {
      lent = k;
      out = out;
      accepted = ap (λ (u : W.Outcome). u.answer) (accepted-is h n x es l w out room) ∙ ap (λ (u : List ℕ). success (length u)) (sym f);
      bytes = ap (λ (u : List ℕ). take (length u) (writing h n x out).bytes) f;
    }

-- ---- what is read

module _ (s : List ℕ) (o : Source) where
  abbrev through : Option Sheet → R.Outcome
  through r = elim r [ none ↦ R.ends (refusal 15) o | some t ↦ reading_of t o ]

  read_some : (t : Sheet) → read_sheet s ≡ some t → reading s o ≡ reading_of t o
  unfolding reading
  read_some t e = ap through e

  read_none : read_sheet s ≡ none → (reading s o).answer ≡ refusal 15
  unfolding reading
  read_none e = ap (λ (r : Option Sheet). (through r).answer) e

module _ (t : Sheet) (o : Source) where
  abbrev told : Listed
  told = record { header = t.header; points = length t.points }

  -- accepted, it left the points in their list
  pub record Laid (l : Listed) : Type 0 where
    pub room : roomy t.points o ≡ true
    pub says : l ≡ record { header = t.header; points = length t.points }
    pub lent : (reading_of t o).lent ≡ laid_out t.points o

  laid_by : (l : Listed) → (roomy t.points o ≡ true) ⊎ (roomy t.points o ≡ false) → (reading_of t o).answer ≡ success l → Laid l
  unfolding reading_of
  laid_by l (inl r) e =
      let q : reading_of t o ≡ R.ends (success told) (laid_out t.points o) = pick_true (roomy t.points o) _ _ r in
      record {
        room = r;
        says = said_inj l told (sym e ∙ ap (λ (u : R.Outcome). u.answer) q);
        lent = ap (λ (u : R.Outcome). u.lent) q;
      }
  laid_by l (inr r) e = refused-not (sym (ap (λ (u : R.Outcome). u.answer) (pick-false (roomy t.points o) (R.ends (success told) (laid_out t.points o)) (R.ends (refusal 10) o) r)) ∙ e)

  not_15 : (roomy t.points o ≡ true) ⊎ (roomy t.points o ≡ false) → number (reading_of t o).answer ≡ 15 → ⊥
  unfolding reading_of
  not_15 (inl r) e =
      let q = pick_true (roomy t.points o) (R.ends (success told) (laid_out t.points o)) (R.ends (refusal 10) o) r in
      other 0 (omega arith) (sym (ap (λ (u : R.Outcome). number u.answer) q) ∙ e)
  not_15 (inr r) e =
      let q = pick-false (roomy t.points o) (R.ends (success told) (laid_out t.points o)) (R.ends (refusal 10) o) r in
      other 10 (omega arith) (sym (ap (λ (u : R.Outcome). number u.answer) q) ∙ e)

-- ---- back

module _ (h : Header) (n : ℕ) (x : Source) (s : List ℕ) (w : Writes h n x s) where
  abbrev wr : Wrote h n x s
  wr = wrote h n x s w

  abbrev sheet : Sheet
  sheet = record { header = h; points = (wrote h n x s w).points }

  many : length (wrote h n x s w).points ≡ n
  many = listed-length n x wr.points wr.listed

  kept : Back.Held sheet
  kept = listed-held n x wr.points w.lent wr.listed

  pub reads : read_sheet s ≡ some (record { header = h; points = (wrote h n x s w).points })
  reads = ap read_sheet (sym wr.bytes) ∙ Back.reads-written sheet kept wr.takes

  back : (o : Source) (l : Listed) → (reading s o).answer ≡ success l → (l ≡ record { header = h; points = n }) × (listed n (reading s o).lent ≡ listed n x)
  back o l e =
      let q = read_some s o sheet reads in
      let p = laid_by sheet o l (flag (roomy wr.points o)) (sym (ap (λ (u : R.Outcome). u.answer) q) ∙ e) in
      let f = laid-back wr.points o kept (points-fine sheet wr.takes) in (
        p.says ∙ ap (λ (k : ℕ). record { header = h; points = k }) many,
        ap (λ (u : R.Outcome). listed n u.lent) q ∙ ap (listed n) p.lent ∙ ap (λ (k : ℕ). listed k (laid_out wr.points o)) (sym many) ∙ f ∙ sym wr.listed,
      )

  roomed : (o : Source) → Ample o → (reading s o).answer ≡ success (record { header = h; points = n })
  unfolding reading_of
  roomed o a =
      ap (λ (u : R.Outcome). u.answer) (read_some s o sheet reads ∙ pick_true (roomy wr.points o) _ _ (ample-roomy sheet wr.takes o a))
      ∙ ap (λ (k : ℕ). success (record { header = h; points = k })) many

pub sheet-back : SheetBack
sheet-back h n x s w o = (
  λ e. not_15 (sheet h n x s w) o (flag _) (ap (λ (u : R.Outcome). number u.answer) (sym (read_some s o _ (reads h n x s w))) ∙ e),
  roomed h n x s w o,
  back h n x s w o,
)

-- ---- only what is written

sheet_or : (r : Option Sheet) → ((t : Sheet) × (r ≡ some t)) ⊎ (r ≡ none)
sheet_or none = inr refl
sheet_or (some t) = inl (t, refl)

-- the list of its points is written as the same bytes
written-again : (s : List ℕ) (t : Sheet) → AllBytes s → read_sheet s ≡ some t → Writes t.header (length t.points) (laid_out t.points empty) s
unfolding writing_of
written-again s t b e =
    let k = Back.read_only s t e in
    let es = t.points in
    let g = read_held s t b e in
    let f = points-fine t k.0 in
    let x = laid_out es empty in
    let i = laid-back es empty g f in
    let q : writing t.header (length es) x s ≡ writing_of t s =
    writing-reals t.header (length es) x s (all-real (length es) x es i) ∙ ap (by t.header (length es) x s s) i in
    let l : leb (length (written t)) (length s) ≡ true = le-leb (length (written t)) (length s) (omega (arith, ap length k.1)) in
    let r : writing_of t s ≡ W.ends (success (length s)) (over s s) =
    pick_true (writable t) _ _ k.0
    ∙ pick_true (leb (length (written t)) (length s)) (W.ends (success (length (written t))) (over (written t) s)) (W.ends (refusal 10) s) l
    ∙ ap (λ (u : List ℕ). W.ends (success (length u)) (over u s)) k.1 in
    record {
      lent = laid-lent es f g;
      out = s;
      accepted = ap (λ (u : W.Outcome). u.answer) (q ∙ r);
      bytes = ap (λ (u : W.Outcome). take (length s) u.bytes) (q ∙ r) ∙ take-front s s (length s) refl;
    }

-- bytes one by one
bytes-at : (s : List ℕ) → All (λ b. b < 256) s → AllBytes s
unfolding All AllBytes
bytes-at [] h i = omega arith
bytes-at (x ∷ s) h zero = h.0
bytes-at (x ∷ s) h (suc i) = bytes-at s h.1 i

only-by : (s : List ℕ) → All (λ b. b < 256) s → (o : Source) → ((t : Sheet) × (read_sheet s ≡ some t)) ⊎ (read_sheet s ≡ none)
    → (number (reading s o).answer ≡ 15 → ⊥) → (h : Header) × (n : ℕ) × (x : Source) × Writes h n x s
only-by s b o (inl (t, e)) f = (t.header, length t.points, laid_out t.points empty, written-again s t (bytes-at s b) e)
only-by s b o (inr e) f = absurd (f (ap number (read_none s o e)))

pub sheet-only : SheetOnly
sheet-only s b o f = only-by s b o (sheet_or (read_sheet s)) f

-- ---- one sheet

pub one-sheet : OneSheet
one-sheet h g n m x y s z v w =
    let a = wrote h n x s v in
    let b = wrote g m y z w in
    let t : Sheet = record { header = h; points = a.points } in
    let u : Sheet = record { header = g; points = b.points } in (
      (λ e f.
          let p : a.points ≡ b.points = some_inj (sym a.listed ∙ f ∙ b.listed) in
          sym a.bytes ∙ ap₂ (λ (c : Header) (l : List Entry). written (record { header = c; points = l })) e p ∙ b.bytes),
      (λ e.
          let q : t ≡ u = Back.unique t u (kept h n x s v) a.takes (kept g m y z w) b.takes (a.bytes ∙ e ∙ sym b.bytes) in (
            ap (λ (c : Sheet). c.header) q,
            sym (many h n x s v) ∙ ap (λ (c : Sheet). length c.points) q ∙ many g m y z w,
            a.listed ∙ ap (λ (c : Sheet). some c.points) q ∙ sym b.listed,
          )),
    )

-- ---- the whole slice

pub whole_slice : WholeSlice
whole_slice h n x s w b e o = by-sheet (sheet_or (read_sheet (s ++ (b ∷ e))))
  where
    by-sheet : ((t : Sheet) × (read_sheet (s ++ (b ∷ e)) ≡ some t)) ⊎ (read_sheet (s ++ (b ∷ e)) ≡ none) → (reading (s ++ (b ∷ e)) o).answer ≡ refusal 15
    by-sheet (inl (t, f)) =
        let k = Back.read_only (s ++ (b ∷ e)) t f in
        let a = wrote h n x s w in
        absurd (no_longer (record { header = h; points = a.points }) t b e a.takes k.0 (k.1 ∙ ap (λ (u : List ℕ). u ++ (b ∷ e)) (sym a.bytes)))
    by-sheet (inr f) = read_none (s ++ (b ∷ e)) o f

-- ---- demand 3 over points that went through a sheet

pub sheet_carries : SheetCarries
sheet_carries n x y c =
    let a = wrote c.header n x c.bytes c.writes in
    let l = (back c.header n x c.bytes c.writes c.into (record { header = c.header; points = n }) c.read).1 in
    let e : listed n y ≡ some a.points = ap (listed n) (sym c.is) ∙ l ∙ a.listed in
    listed_found n y a.points e ∙ sym (listed_found n x a.points a.listed)

same-list : (carry : ℕ → Source → Source) (n : ℕ) (x : Source) → (carry n x ≡ x) ⊎ Carried n x (carry n x) → points_at n (carry n x) ≡ points_at n x
same-list carry n x (inl e) = ap (points_at n) e
same-list carry n x (inr c) = sheet_carries n x (carry n x) c

module _ {Cells : Type 0} (bounds : List Float) (carry : ℕ → Source → Source) (kept : (n : ℕ) (x : Source) → (carry n x ≡ x) ⊎ Carried n x (carry n x)) where
  same_answer : (a : Said ℕ) (h : Held Cells) (o : Output)
      → carried_out bounds carry (record { answer = a; held = h; out = o }) ≡ get_or (points_out (found_at bounds) (record { answer = a; held = h; out = o })) []
  same_answer (refusal k) h o = refl
  same_answer (success n) h o = ap (λ r. get_or r []) (same-list carry n (record { list = o; bounds = bounds }) (kept n (record { list = o; bounds = bounds })))

  pub same_points : (c : Collected Cells) → carried_out bounds carry c ≡ get_or (points_out (found_at bounds) c) []
  same_points c = same_answer c.answer c.held c.out

module _ {S : Store histograms} (L : Lister S) (w : S.Switches) (limit : ℕ) (filter : Option (List ℕ)) (f g : Collected S.Cells → List (Set × Stored))
    (e : (c : Collected S.Cells) → f c ≡ g c) (r : Set) where
  pub same-stored : (xs : List (Asked histograms)) (h : Held S.Cells) → stored_by L w limit filter f r h xs ≡ stored_by L w limit filter g r h xs
  same-stored [] h = refl
  same-stored (recording v attrs small ∷ xs) h = same-stored xs (ended L w limit filter h (recording v attrs small)).1
  same-stored (recording_by b v ∷ xs) h = same-stored xs (ended L w limit filter h (recording_by b v)).1
  same-stored (binding attrs small ∷ xs) h = same-stored xs (ended L w limit filter h (binding attrs small)).1
  same-stored (releasing b ∷ xs) h = same-stored xs (ended L w limit filter h (releasing b)).1
  same-stored (collecting o ∷ xs) h =
      ap₂ ◌++◌ (ap (of_set r) (e (delta_collected L w limit h o))) (same-stored xs (ended L w limit filter h (collecting o)).1)

pub sheet-merges : SheetMerges
sheet-merges S L bounds w limit filter h holds carry kept xs premise =
    let f : Collected S.Cells → List (Set × Stored) = λ c. get_or (points_out (found_at bounds) c) [] in
    subst (Whole reals (config_of S w limit filter) _ _)
    (λ i r. same-stored L w limit filter f (carried_out bounds carry) (λ c. sym (same_points bounds carry kept c)) r xs h i)
    (holds xs premise)

-- ---- no premise is empty: the first example of docs/SHEET.md is written into any bytes that suffice, and carried into any stores that do

abbrev example : Source
example = laid_out (Example.run).points empty

module _ (out : List ℕ) (room : 233504 ≤ length out) where
  pub example-written : Writes (Example.run).header 1 example (written Example.run)
  example-written =
      let f = points-fine Example.run Example.run-taken in
      let l = laid-back (Example.run).points empty Example.run-held f in
      subst (Writes (Example.run).header 1 example) (front-is (Example.run).header 1 example (Example.run).points l Example.run-taken out room)
      (every-sheet (Example.run).header 1 example (Example.run).points l Example.run-taken (laid-lent (Example.run).points f Example.run-held) out room)

  pub example_carried : (o : Source) → Ample o → Carried 1 example (reading (written Example.run) o).lent
  example_carried o a =
      record {
        header = (Example.run).header;
        bytes = written Example.run;
        writes = example-written;
        into = o;
        read = (sheet-back (Example.run).header 1 example (written Example.run) example-written o).1 a;
        is = refl;
      }
