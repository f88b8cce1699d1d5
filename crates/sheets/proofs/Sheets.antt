-- The tests of a sheet make up its reading. Assumes nothing.
use Prim.Native.Nat.{ℕ, zero, suc, ◌+◌}
use mathlib.Core.Path.{◌≡◌, refl, sym, ap, ap₂, ◌∙◌}
use mathlib.Core.Bool.{Bool, true, ◌&&◌}
use mathlib.Core.List.{List}
use mathlib.Core.Option.{none, some}
use lib.ListN.{drop}
use lib.Seq.{drop-drop}
use Rattle.laws.specs.Pick.{pick}
use Rattle.laws.proofs.Bools.{and_left, and_right, and_intro}
use Rattle.records.specs.Records.{cells}
use Rattle.records.specs.Inner.{AllBytes}
use Rattle.sheets.specs.Entries.{head_in, entry_len, entries_of, ascending}
use Rattle.sheets.specs.Sheet.{written, writable, points_in, decoded, same_list, read_sheet}
use Rattle.sheets.specs.Inner.{framed, entries_at, good_sheet}
use Rattle.sheets.proofs.Good.{entries_good}
use Rattle.sheets.proofs.SameLists.{same_refl, same-says, same_test}
use Rattle.sheets.proofs.Entry.{entry-is}
use Rattle.sheets.proofs.Accepts.{good-bytes, good-writable}
use Rattle.sheets.proofs.Passes.{framed-own, entries-own, rises-own}

entries-is : (s : List ℕ) → AllBytes s → (n k : ℕ) → entries_at n s k ≡ entries_good n (drop k (cells s))
unfolding entries_at entries_good
entries-is s b zero k = refl
entries-is s b (suc n) k =
    let m = entry_len (head_in (drop k (cells s))) in
    ap₂ ◌&&◌ (entry-is s k b) (entries-is s b n (k + m) ∙ ap (entries_good n) (sym (drop-drop m k (cells s))))

module _ (s : List ℕ) (bytes : AllBytes s) where
  abbrev l : List ℕ
  l = drop 3 (cells s)

  abbrev rises : Bool
  rises = ascending (entries_of (points_in s) (drop 3 (cells s)))

  passing : good_sheet s ≡ true → writable (decoded s) && same_list (written (decoded s)) s ≡ true
  unfolding good_sheet
  passing h =
      let f = and_left (framed s) (entries_at (points_in s) s 3 && rises) h in
      let r = and_right (framed s) (entries_at (points_in s) s 3 && rises) h in
      let g : entries_good (points_in s) l ≡ true = sym (entries-is s bytes (points_in s) 3) ∙ and_left (entries_at (points_in s) s 3) rises r in
      let a : writable (decoded s) ≡ true = good-writable s bytes f g (and_right (entries_at (points_in s) s 3) rises r) in
      let b : same_list (written (decoded s)) s ≡ true =
      ap (same_list (written (decoded s))) (sym (good-bytes s bytes f g)) ∙ same_refl (written (decoded s)) in
      and_intro (writable (decoded s)) (same_list (written (decoded s)) s) a b

  passed : writable (decoded s) && same_list (written (decoded s)) s ≡ true → good_sheet s ≡ true
  unfolding good_sheet
  passed h =
      let a = and_left (writable (decoded s)) (same_list (written (decoded s)) s) h in
      let b = same-says (written (decoded s)) s (and_right (writable (decoded s)) (same_list (written (decoded s)) s) h) in
      and_intro (framed s) (entries_at (points_in s) s 3 && rises) (framed-own s a b)
      (and_intro (entries_at (points_in s) s 3) rises (entries-is s bytes (points_in s) 3 ∙ entries-own s a b) (rises-own s a b))

  pub read_is : read_sheet s ≡ pick (good_sheet s) (some (decoded s)) none
  unfolding read_sheet
  read_is =
      ap (λ (b : Bool). pick b (some (decoded s)) none)
      (same_test (writable (decoded s) && same_list (written (decoded s)) s) (good_sheet s) passed passing)
