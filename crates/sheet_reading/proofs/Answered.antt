-- The call, case by case. Assumes nothing.
use Prim.Native.Nat.{ℕ}
use mathlib.Core.Path.{◌≡◌, sym, ap, ◌∙◌}
use mathlib.Core.Bool.{Bool, true, false, ◌&&◌}
use mathlib.Core.List.{List}
use mathlib.Core.Option.{Option, none, some}
use lib.ListN.{length, drop}
use Rattle.laws.specs.Said.{refusal, success}
use Rattle.laws.proofs.Bools.{pick_true, pick-false, and_intro}
use Rattle.pooling.specs.Lists.{Source}
use Rattle.records.specs.Records.{cells}
use Rattle.records.specs.Inner.{AllBytes}
use Rattle.sheets.specs.Entries.{Entry, entries_of, ascending}
use Rattle.sheets.specs.Sheet.{Sheet, points_in, decoded}
use Rattle.sheets.specs.Lists.{laid_out, fits_in, roomy}
use Rattle.sheets.specs.Inner.{framed, entries_at, good_sheet}
use Rattle.sheets.specs.declared.Header.{Header}
use Rattle.sheets.proofs.Sheets.{read_is}
use Rattle.sheet_reading.specs.Reading.{Outcome, ends, reading_of, reading}
use Rattle.sheet_reading.specs.Inner.{nothing, judged, copied, Copyable}
use Rattle.std.specs.Prelude.{None, Some}
use Rattle.sheet_reading.specs.declared.judge.Sizes.{Sizes}
use Rattle.sheet_reading.proofs.JudgedLaws.{judged_bad, judged-fine}
use Rattle.sheet_reading.proofs.CopiedLaws.{copied_is}

module _ (s : List ℕ) (bytes : AllBytes s) (o : Source) where
  abbrev points : List Entry
  points = entries_of (points_in s) (drop 3 (cells s))

  abbrev told : Bool
  told = entries_at (points_in s) s 3 && ascending points

  abbrev through : Option Sheet → Outcome
  through r = elim r [ none ↦ ends (refusal 15) o | some t ↦ reading_of t o ]

  refused : good_sheet s ≡ false → ends (refusal 15) o ≡ reading s o
  unfolding reading
  refused h = sym (ap through (read_is s bytes ∙ pick-false (good_sheet s) (some (decoded s)) none h))

  read : good_sheet s ≡ true → reading_of (decoded s) o ≡ reading s o
  unfolding reading
  read h = sym (ap through (read_is s bytes ∙ pick_true (good_sheet s) (some (decoded s)) none h))

  pub bad-frame : framed s ≡ false → ends (refusal 15) o ≡ reading s o
  unfolding good_sheet
  bad-frame h = refused (ap (λ (b : Bool). b && told) h)

  module _ (f : framed s ≡ true) where
    pub bad-points : judged s ≡ None → ends (refusal 15) o ≡ reading s o
    unfolding good_sheet
    bad-points h = refused (ap (λ (b : Bool). b && told) f ∙ judged_bad s h)

    module _ (z : Sizes) (j : judged s ≡ Some z) where
      good : good_sheet s ≡ true
      unfolding good_sheet
      good = and_intro (framed s) told f (judged-fine s z j).0

      -- the room that the points take is what was added up
      room-is : roomy points o ≡ fits_in (points_in s) z.pos z.neg z.bounds o
      room-is =
          let q = judged-fine s z j in
          (λ i. fits_in (q.4 i) (sym q.1 i) (sym q.2 i) (sym q.3 i) o)

      pub no_room : fits_in (points_in s) z.pos z.neg z.bounds o ≡ false → ends (refusal 10) o ≡ reading s o
      unfolding decoded reading_of
      no_room h = sym (pick-false (roomy points o) _ _ (room-is ∙ h)) ∙ read good

      pub was_read : (r : fits_in (points_in s) z.pos z.neg z.bounds o ≡ true) (h : Header) (n : ℕ) (o' : Source) → h ≡ (decoded s).header → n ≡ points_in s
          → o' ≡ copied n s 3 0 nothing o → ends (success (record { header = h; points = n })) o' ≡ reading s o
      unfolding decoded reading_of
      was_read r h n o' e m c =
          let q = judged-fine s z j in
          let k : Copyable s (points_in s) o = record { sizes = z; framed = f; many = λ i. points_in s; fine = j; room = r } in
          let l : o' ≡ laid_out points o = c ∙ ap (λ (a : ℕ). copied a s 3 0 nothing o) m ∙ copied_is s (points_in s) o k in
          let p : n ≡ length points = m ∙ sym q.4 in
          (λ i. ends (success (record { header = e i; points = p i })) (l i))
          ∙ sym (pick_true (roomy points o) _ _ (room-is ∙ r))
          ∙ read good
