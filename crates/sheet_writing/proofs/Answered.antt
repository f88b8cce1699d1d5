-- What the call answers and leaves in the lent bytes, case by case. Assumes nothing.
use Prim.Native.Nat.{ℕ, ◌+◌, ◌*◌, ◌/◌, ◌≤◌, ◌<◌}
use mathlib.Core.Path.{◌≡◌, refl, sym, ap, ap₂, ◌∙◌}
use mathlib.Core.Bool.{false}
use mathlib.Core.List.{List}
use mathlib.Core.Option.{Option, none, some}
use native.Mathlib.Omega.{arith}
use borrow.Author.Tests.{le-leb, lt-leb}
use lib.Dec.{leb}
use lib.ListN.{length}
use Rattle.laws.specs.Over.{over}
use Rattle.laws.specs.Pick.{pick}
use Rattle.laws.specs.Said.{refusal, success}
use Rattle.laws.proofs.Bools.{pick_true, pick-false}
use Rattle.pooling.specs.Lists.{Source}
use Rattle.sheets.specs.Entries.{Entry}
use Rattle.sheets.specs.Sheet.{Sheet, written, writable}
use Rattle.sheets.specs.declared.Header.{Header}
use Rattle.std.specs.Prelude.{Some}
use Rattle.sheet_writing.specs.Inner.{judged, no_kind, put_sheet}
use Rattle.sheet_writing.specs.Writing.{ends, writing_of, shadowed, no_whole, writing}
use Rattle.sheet_writing.proofs.Judged.{Sheeted, judged-fine}
use Rattle.sheet_writing.proofs.PutLaws.{written-long, put_is}
use Rattle.sheet_writing.proofs.Wholes.{of, kinds-whole, all-real, writing-reals}

module _ (h : Header) (n : ℕ) (x : Source) (out : List ℕ) (c : ℕ) (fine : judged n x ≡ Some c) where
  s : Sheeted h n x c
  s = judged-fine h n x c fine

  abbrev t : Sheet
  t = record { header = h; points = s.es }

  -- a sheet of the points is written, if the bytes suffice
  by-room : writing h n x out
      ≡ pick (leb (length (written t)) (length out)) (ends (success (length (written t))) (over (written t) out)) (ends (refusal 10) out)
  unfolding writing_of
  by-room =
      writing-reals h n x out (all-real n x s.es s.read)
      ∙ ap (λ (y : Option (List Entry)). elim y [ none ↦ ends (refusal 8) out | some es ↦ writing_of (record { header = h; points = es }) out ]) s.read
      ∙ pick_true (writable t) _ _ s.fine

  long : length (written t) ≡ (c / 3 + 1) * 32
  long = written-long h n (c / 3 + 1) c x s.es s.read s.fine s.words refl

  pub too_short : length out < (c / 3 + 1) * 32 → ends (refusal 10) out ≡ writing h n x out
  too_short l = sym (by-room ∙ pick-false (leb (length (written t)) (length out)) _ _ (lt-leb (length (written t)) (length out) (omega (arith, long))))

  pub sheet-written : (c / 3 + 1) * 32 ≤ length out → (out' : List ℕ) → out' ≡ put_sheet h n (c / 3 + 1) x out
      → ends (success ((c / 3 + 1) * 32)) out' ≡ writing h n x out
  sheet-written l out' p =
      ap₂ (λ (m : ℕ) (o : List ℕ). ends (success m) o) (sym long) (p ∙ put_is h n (c / 3 + 1) c x s.es s.read s.fine s.words refl out l)
      ∙ sym (by-room ∙ pick_true (leb (length (written t)) (length out)) _ _ (le-leb (length (written t)) (length out) (omega (arith, long))))

-- 11 of a list that was judged fine, where a point is of i64 values
pub whole-refused : (h : Header) (n : ℕ) (x : Source) (out : List ℕ) (c : ℕ) → judged n (shadowed x) ≡ Some c → no_kind n x.list.words ≡ false
    → ends (refusal 11) out ≡ writing h n x out
unfolding writing
whole-refused h n x out c fine k =
    let s = judged-fine h n (shadowed x) c fine in
    let t : Sheet = record { header = h; points = s.es } in
    sym
    (ap (of h n x out (no_whole n x)) s.read
    ∙ pick-false (no_whole n x) (writing_of t out) _ (kinds-whole n x h c fine k)
    ∙ ap (λ (b : ℕ). ends (refusal b) out) (pick_true (writable t) 11 8 s.fine))
