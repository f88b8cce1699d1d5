-- A sheet written or read, by what the calls say: one law for each way. Assumes nothing.
use Prim.Native.Nat.{ℕ, ◌+◌, ◌-◌, ◌≤◌, ◌<◌, min}
use mathlib.Core.Path.{◌≡◌, sym, ap, ◌∙◌}
use mathlib.Core.Bool.{Bool, true, false}
use mathlib.Core.List.{List}
use lib.ListN.{length, get_or, take}
use lib.Seq.{sets}
use borrow.Author.Tests.{lt-ltb, le-ltb, le-leb, lt-leb, eq-eqb, ne_eqb}
use Rattle.laws.proofs.Bools.{pick_true, pick-false}
use Rattle.text.specs.Numbers.{decimal_of}
use Rattle.text.specs.Fields.{spaces_of, field_of}
use Rattle.std.specs.Prelude.{Option, Some, None, Result, Ok, Err}
use Rattle.refusals.specs.Refusals.{said, number}
use Rattle.refusals.specs.declared.Refusal.{Refusal}
use Rattle.lines.specs.Gathered.{Text, ◌behind◌}
use Rattle.pooling.specs.Lists.{Source}
use Rattle.printing.specs.Printed.{collection_lines}
use Rattle.printing.specs.declared.Form.TheVariants.{Point}
use Rattle.sheets.specs.declared.Header.{Header}
use Rattle.sheet_writing.specs.Writing as Writing
use Rattle.sheet_writing.specs.Writing.{writing}
use Rattle.sheet_reading.specs.Reading as Reading
use Rattle.sheet_reading.specs.Reading.{reading}
use Rattle.sheet_reading.specs.declared.Listed.{Listed}
use Rattle.sheet.specs.Digits.{is_record, bytes_in}
use Rattle.sheet.specs.Shown.{refusal_line, sheet_lines, wrote, wrote_by, few_in, records_of, Shown, shown, shown_by}
use Rattle.sheet.specs.declared.state.Done.{Done}
use Rattle.sheet.specs.Followed.{outside_of, done, taken_by, Went, read_by, went_on, no_line, record_put, in_sheet}
use Rattle.sheet.specs.declared.state.State.{State}
use Rattle.sheet.specs.declared.state.Next.{Next}

-- a block of text of which n bytes wait
abbrev pub text : ℕ → List ℕ → Text
text n block = record { count = n; block = block }

-- ---- written

module _ (h : Header) (many : ℕ) (x : Source) (s : List ℕ) (t : Text) (a : Result ℕ Refusal) (s' : List ℕ)
    (q : Writing.ends (said a) s' ≡ writing h many x s) where
  wrote_by_lem : (y : Result ℕ Refusal) → a ≡ y → wrote_by (Writing.ends (said y) s') t ≡ wrote_by (writing h many x s) t
  wrote_by_lem y e =
      ap (λ (z : Result ℕ Refusal). wrote_by (Writing.ends (said z) s') t) (sym e) ∙ ap (λ (o : Writing.Outcome). wrote_by o t) q

  pub write-refused : (k : Refusal) → a ≡ Err k → (u : Text) → u ≡ (refusal_line (number k) behind t) → wrote u s' ≡ wrote_by (writing h many x s) t
  write-refused k e u p = ap (λ (v : Text). wrote v s') p ∙ wrote_by_lem (Err k) e

  pub write-made : (size : ℕ) → a ≡ Ok size → (bs : List ℕ) → bs ≡ take size s' → (u : Text)
      → u ≡ (sheet_lines bs behind t) → wrote u s' ≡ wrote_by (writing h many x s) t
  write-made size e bs f u p =
      ap (λ (v : Text). wrote v s') (p ∙ ap (λ (l : List ℕ). sheet_lines l behind t) f) ∙ wrote_by_lem (Ok size) e

-- ---- read

module _ (bs : List ℕ) (x : Source) (t : Text) (a : Result Listed Refusal) (x' : Source) (q : Reading.ends (said a) x' ≡ reading bs x) where
  shown_by_lem : (y : Result Listed Refusal) → a ≡ y → shown_by (Reading.ends (said y) x') t ≡ shown_by (reading bs x) t
  shown_by_lem y e =
      ap (λ (z : Result Listed Refusal). shown_by (Reading.ends (said z) x') t) (sym e) ∙ ap (λ (o : Reading.Outcome). shown_by o t) q

  pub show-refused : (k : Refusal) → a ≡ Err k → (u : Text) → u ≡ (refusal_line (number k) behind t) → shown u x' ≡ shown_by (reading bs x) t
  show-refused k e u p = ap (λ (v : Text). shown v x') p ∙ shown_by_lem (Err k) e

  pub show-made : (l : Listed) → a ≡ Ok l → (u : Text)
      → u ≡ (collection_lines Point l.header.start l.header.time l.points x'.list x'.bounds behind t)
      → shown u x' ≡ shown_by (reading bs x) t
  show-made l e u p = ap (λ (v : Text). shown v x') p ∙ shown_by_lem (Ok l) e

-- ---- `s RECORDS`

module _ (n : ℕ) where
  pub few-none : 7297 < n → None ≡ few_in (Some n)
  few-none h = sym (pick-false _ _ _ (lt-leb n 7297 h))

  pub few-is : n ≤ 7297 → Some n ≡ few_in (Some n)
  few-is h = sym (pick_true _ _ _ (le-leb n 7297 h))

module _ (bs : List ℕ) where
  pub other-letter : (get_or bs 0 0 ≡ 115 → ⊥) → None ≡ records_of bs
  unfolding records_of
  other-letter h = sym (pick-false _ _ _ (ne_eqb (get_or bs 0 0) 115 h))

  module _ (h : get_or bs 0 0 ≡ 115) where
    pub no-space : (get_or bs 1 0 ≡ 32 → ⊥) → None ≡ records_of bs
    unfolding records_of
    no-space k = sym (pick_true _ _ _ (eq-eqb (get_or bs 0 0) 115 h) ∙ pick-false _ _ _ (ne_eqb (get_or bs 1 0) 32 k))

    module _ (k : get_or bs 1 0 ≡ 32) where
      pub more-fields : (spaces_of bs ≡ 1 → ⊥) → None ≡ records_of bs
      unfolding records_of
      more-fields l =
          sym (pick_true _ _ _ (eq-eqb (get_or bs 0 0) 115 h) ∙ pick_true _ _ _ (eq-eqb (get_or bs 1 0) 32 k)
          ∙ pick-false _ _ _ (ne_eqb (spaces_of bs) 1 l))

      pub records-are : spaces_of bs ≡ 1 → (d r : Option ℕ) → d ≡ decimal_of (field_of bs 1) → r ≡ few_in d → r ≡ records_of bs
      unfolding records_of
      records-are l d r e f =
          f ∙ ap few_in e
          ∙ sym (pick_true _ _ _ (eq-eqb (get_or bs 0 0) 115 h) ∙ pick_true _ _ _ (eq-eqb (get_or bs 1 0) 32 k)
          ∙ pick_true _ _ _ (eq-eqb (spaces_of bs) 1 l))

-- ---- a sheet's lines

-- what such a line comes to
abbrev pub gone_by : Done → List ℕ → Source → Went
gone_by r block x = record { taken = r.taken; state = r.state; text = text r.text block; list = x }

module _ (st : State) (t : Text) (x : Source) (s : List ℕ) where
  pub goes_on : 0 < st.left → record { taken = true; state = st; text = t; list = x } ≡ went_on st t x s
  unfolding went_on
  goes_on h = sym (pick_true _ _ _ (lt-ltb 0 st.left h))

  pub is_read : st.left ≤ 0 → (bs : List ℕ) → bs ≡ take st.at s → (y : Shown) → y ≡ shown_by (reading bs x) t → read_by st y ≡ went_on st t x s
  unfolding went_on
  is_read h bs e y q =
      ap (read_by st) (q ∙ ap (λ (l : List ℕ). shown_by (reading l x) t) e) ∙ sym (pick-false _ _ _ (le-ltb 0 st.left h))

module _ (bs : List ℕ) (over : Bool) where
  pub empty-line : length bs ≡ 0 → over ≡ no_line bs over
  empty-line h = sym (pick_true _ _ _ (eq-eqb (length bs) 0 h))

  pub some-line : (length bs ≡ 0 → ⊥) → false ≡ no_line bs over
  some-line h = sym (pick-false _ _ _ (ne_eqb (length bs) 0 h))

module _ (st : State) (bs : List ℕ) (over : Bool) (n : ℕ) (block : List ℕ) (x : Source) (s : List ℕ) where
  -- what the line comes to, and the store of bytes then
  abbrev Comes : Went → List ℕ → Type 0
  Comes y s' = (y ≡ in_sheet st bs over (text n block) x s) × (s' ≡ record_put st bs over s)

  pub input-ends : no_line bs over ≡ true → (r : Next) → r ≡ record { state = outside_of st.gauge; text = n } → Comes (gone_by (taken_by r) block x) s
  unfolding in_sheet record_put
  input-ends h r p = (ap (λ (y : Next). gone_by (taken_by y) block x) p ∙ sym (pick_true _ _ _ h), sym (pick_true _ _ _ h))

  module _ (h : no_line bs over ≡ false) where
    pub no_record : is_record bs ≡ false → Comes (gone_by (done st.gauge n None) block x) s
    unfolding in_sheet record_put
    no_record k = (
      sym (pick-false _ _ _ h ∙ pick-false _ _ _ k),
      sym (pick-false _ _ _ h ∙ pick-false _ _ _ k),
    )

    pub a_record : is_record bs ≡ true → (at : ℕ) → at ≡ min st.at 233472 + 32 → (s' : List ℕ)
        → s' ≡ sets s (min st.at 233472) (bytes_in bs) → (y : Went)
        → y ≡ went_on (record { gauge = st.gauge; left = st.left - 1; at = at }) (text n block) x s' → Comes y s'
    unfolding in_sheet record_put
    a_record k at e s' f y q = (
      q ∙ (λ i. went_on (record { gauge = st.gauge; left = st.left - 1; at = e i }) (text n block) x (f i))
          ∙ sym (pick-false _ _ _ h ∙ pick_true _ _ _ k),
      f ∙ sym (pick-false _ _ _ h ∙ pick_true _ _ _ k),
    )
