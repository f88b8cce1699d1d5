-- What bars a recording before the directory is read, case by case; and the seating that is left. Assumes nothing.
use Rattle.std.specs.Prelude.{◌≢◌, Result, Ok, Err, is_err}
use Prim.Native.Nat.{ℕ, ◌+◌, ◌≤◌, ◌<◌}
use mathlib.Core.Path.{◌≡◌, refl, ap, sym, ◌∙◌}
use mathlib.Core.Bool.{Bool, true, false, ◌&&◌}
use mathlib.Core.List.{List}
use native.Mathlib.Omega.{arith}
use lib.Dec.{leb, eqb}
use lib.ListN.{length}
use borrow.Author.Tests.{le-leb, lt-leb, leb-true, eq-eqb, ne_eqb, eqb-true, eqb-false}
use Rattle.laws.specs.Pick.{pick}
use Rattle.laws.proofs.Cases.{true-not-false}
use Rattle.numbered.specs.Numbered.{code_by}
use Rattle.sets.specs.Sorted.{most_attributes}
use Rattle.directory.specs.View.{Stores}
use Rattle.directory.specs.Calls.{stores_suffice}
use Rattle.directory.specs.declared.Directory.{Directory}
use Rattle.seats.specs.Seats.{away, barred_by, unless_barred, Seating}
use Rattle.seats.specs.Inner.{barred_at, row_unless_barred, Sure}

-- ---- two tests, one after another

module _ (a b : Bool) where
  pub first-not : a ≡ false → (a && b) ≡ false
  first-not e = rw e

  module _ (e : a ≡ true) where
    pub second-not : b ≡ false → (a && b) ≡ false
    second-not f = rw e f

    pub both-are : b ≡ true → (a && b) ≡ true
    both-are f = rw e f

-- ---- a call that refuses nothing has the number 0

module _ {A E : Type 0} (number_of : E → ℕ) where
  pub unset-refused : ((x : E) → number_of x ≢ 0) → (r : Result A E) → is_err r ≡ true → eqb (code_by number_of r) 0 ≡ false
  unset-refused f (Ok a) e = true-not-false (sym e)
  unset-refused f (Err x) e = ne_eqb (number_of x) 0 (f x)

  pub unset-fine : (r : Result A E) → is_err r ≡ false → eqb (code_by number_of r) 0 ≡ true
  unset-fine (Ok a) e = refl
  unset-fine (Err x) e = true-not-false e

-- ---- the refusals

module _ (room fin : Bool) (n : ℕ) (ok : Bool) where
  pub bar_12 : room ≡ false → barred_by room fin n ok ≡ 12
  unfolding barred_by pick
  bar_12 e = rw e

  module _ (r : room ≡ true) where
    pub bar_6 : fin ≡ false → barred_by room fin n ok ≡ 6
    unfolding barred_by pick
    bar_6 e = rw (r, e)

    module _ (f : fin ≡ true) where
      pub bar_5 : most_attributes < n → barred_by room fin n ok ≡ 5
      unfolding barred_by pick
      bar_5 h = rw (r, f, lt-leb n most_attributes h)

      module _ (h : n ≤ most_attributes) where
        pub bar_8 : ok ≡ false → barred_by room fin n ok ≡ 8
        unfolding barred_by pick
        bar_8 e = rw (r, f, le-leb n most_attributes h, e)

        pub bar_0 : ok ≡ true → barred_by room fin n ok ≡ 0
        unfolding barred_by pick
        bar_0 e = rw (r, f, le-leb n most_attributes h, e)

-- what is known where nothing is refused
pub record Clear (room fin : Bool) (n : ℕ) (ok : Bool) : Type 0 where
  pub room-is : room ≡ true
  pub value : fin ≡ true
  pub few : n ≤ most_attributes
  pub ok-is : ok ≡ true

unfoldable numbered : Bool → Bool → Bool → Bool → ℕ
numbered a b c d = pick a (pick b (pick c (pick d 0 8) 5) 6) 12

passed : (a b c d : Bool) → numbered a b c d ≡ 0 → (a ≡ true) × (b ≡ true) × (c ≡ true) × (d ≡ true)
unfolding numbered pick
passed false b c d e = absurd (omega arith)
passed true false c d e = absurd (omega arith)
passed true true false d e = absurd (omega arith)
passed true true true false e = absurd (omega arith)
passed true true true true e = (refl, refl, refl, refl)

pub clear : (room fin : Bool) (n : ℕ) (ok : Bool) → barred_by room fin n ok ≡ 0 → Clear room fin n ok
unfolding barred_by numbered
clear room fin n ok e =
    let p = passed room fin (leb n most_attributes) ok e in
    record { room-is = p.0; value = p.1; few = leb-true n most_attributes p.2; ok-is = p.3 }

-- ---- what is left to ask where the rest is known

module _ (cells unset limit : ℕ) (d : Directory) (s : Stores) (ok : Bool) (k : Sure cells unset limit d s ok) where
  pub sure-room : (stores_suffice limit s && leb (limit + 2) cells) ≡ true
  sure-room =
      rw (le-leb (limit + 2) (length s.sets) k.sets, le-leb (limit + 2) (length s.entries) k.entries, le-leb (limit + 2) (length s.order) k.order, le-leb (limit + 2) cells k.cells)

  pub sure-ok : (eqb unset 0 && ok) ≡ true
  sure-ok = both-are (eqb unset 0) ok (eq-eqb unset 0 k.set) k.accepted

  pub sure-bar : (fin : Bool) (n : ℕ) → barred_at cells fin unset limit s n ok ≡ barred_by true fin n true
  sure-bar fin n = λ j. barred_by (sure-room j) fin n (sure-ok j)

-- ---- the seating that is left

module _ (n : ℕ) (a : Seating) where
  pub barred-away : (n ≡ 0 → ⊥) → unless_barred n a ≡ away n
  unfolding unless_barred pick
  barred-away d = rw (ne_eqb n 0 d)

  pub barred-on : n ≡ 0 → unless_barred n a ≡ a
  unfolding unless_barred pick
  barred-on e = rw (eq-eqb n 0 e)

  -- one that is not refused was not barred
  pub not-barred : (unless_barred n a).no ≡ 0 → n ≡ 0
  not-barred z = go (eqb n 0) refl
    where
      go : (b : Bool) → eqb n 0 ≡ b → n ≡ 0
      go true e = eqb-true n 0 e
      go false e = sym (ap (λ (s : Seating). s.no) (barred-away (eqb-false n 0 e))) ∙ z

-- ---- the row that is left

module _ (n : ℕ) (row old : List ℕ) where
  pub row_kept : (n ≡ 0 → ⊥) → old ≡ row_unless_barred n row old
  unfolding row_unless_barred pick
  row_kept d = rw (ne_eqb n 0 d)

  pub row_written : n ≡ 0 → row ≡ row_unless_barred n row old
  unfolding row_unless_barred pick
  row_written e = rw (eq-eqb n 0 e)

  -- it is the set's, where a seating is not refused
  pub row-seated : (a r : Seating) → r ≡ unless_barred n a → (l : List ℕ) → l ≡ row_unless_barred n row old → r.no ≡ 0 → l ≡ row
  row-seated a r e l q z = q ∙ sym (row_written (not-barred n a (ap (λ (s : Seating). s.no) (sym e) ∙ z)))
